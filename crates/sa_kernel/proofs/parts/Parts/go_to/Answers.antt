use Rattle.std.proofs.Common.{◌+◌, List, [], length, sym, ap, subst, ◌∙◌, arith}
use Rattle.std.specs.Prelude.{slice_index_or}
use Rattle.sa_base.specs.declared.record.Note.{Note}
use Rattle.sa_base.specs.Recorded.{Adds}
use Rattle.sa_assign.specs.Aims.{is_aim}
use Rattle.sa_kernel_model.specs.State.{Scene}
use Rattle.sa_kernel_model.proofs.parts.Sizes.{sizes_of}
use Rattle.sa_kernel.specs.View.{scene_of}
use Rattle.sa_kernel.proofs.FreshActivations.{vacant, vacant-unused, enters-leave, enters-upcall}
use Rattle.sa_kernel.proofs.Calls.{adds-more, adds-within, spends-more, spends-within, proc-kept, space-kept, sizes-moved, notes-moved, upcall-kept}
use Rattle.sa_kernel.proofs.parts.Parts.go_to.Goals as goal

pub returns-then-not-can_upcall-clause-exact : goal.returns-then-not-can_upcall-clause-exact
returns-then-not-can_upcall-clause-exact g c =
    let old = scene_of c.args.self.now c.args.trace.now in
    enters-leave c.args.event c.args.p c.args.s (vacant c.args.self.now.acts) old _ (vacant-unused c.args.self.now.acts)
    (sym c.can_upcall.ensures ∙ c.if-not-can_upcall.true) c.leave.ensures.exact

pub returns-clause-exact : goal.returns-clause-exact
returns-clause-exact g c =
    let old = scene_of c.args.self.now c.args.trace.now in
    enters-upcall c.args.event c.args.p c.args.s c.upcall.result c.is_owner-owned.result old
    (scene_of c.move_to.new.self c.move_to.new.trace) _ c.upcall.ensures.unused
    (sym c.can_upcall.ensures ∙ c.if-not-can_upcall.false)
    (c.is_owner-owned.ensures ∙ ap (is_aim c.args.s.0) c.owner.ensures) c.move_to.ensures.exact c.upcall.ensures.exact

pub returns-then-not-can_upcall-clause-room : goal.returns-then-not-can_upcall-clause-room
returns-then-not-can_upcall-clause-room g c = spends-within 0 1 0 c.leave.ensures.room

pub returns-then-not-can_upcall-clause-items : goal.returns-then-not-can_upcall-clause-items
returns-then-not-can_upcall-clause-items g c = adds-within _ (omega arith) c.leave.ensures.items

pub upcall-requires-clause-proc : goal.upcall-requires-clause-proc
upcall-requires-clause-proc g c =
    let old = scene_of c.args.self.now c.args.trace.now in
    proc-kept old.state _ c.args.p
    (ap (λ (x : Scene _). sizes_of x.state) c.move_to.ensures.exact ∙ sizes-moved c.args.event c.args.p c.args.s c.is_owner-owned.result old) c.requires.proc

pub upcall-requires-clause-space : goal.upcall-requires-clause-space
upcall-requires-clause-space g c =
    let old = scene_of c.args.self.now c.args.trace.now in
    space-kept old.state _ c.args.s
    (ap (λ (x : Scene _). sizes_of x.state) c.move_to.ensures.exact ∙ sizes-moved c.args.event c.args.p c.args.s c.is_owner-owned.result old) c.requires.space

pub returns-clause-room : goal.returns-clause-room
returns-clause-room g c = spends-within 0 0 1 (spends-more c.move_to.ensures.room c.upcall.ensures.room)

pub upcall-requires-clause-upcall : goal.upcall-requires-clause-upcall
upcall-requires-clause-upcall g c =
    let old = scene_of c.args.self.now c.args.trace.now in
    upcall-kept c.move_to.ensures.room
    (ap (λ (x : Scene _). x.state.telling) c.move_to.ensures.exact ∙ (notes-moved c.args.event c.args.p c.args.s c.is_owner-owned.result old).0)
    c.requires.upcall

pub returns-clause-items : goal.returns-clause-items
returns-clause-items g c =
    let old = scene_of c.args.self.now c.args.trace.now in
    subst (λ (untold : List (List Note)). Adds (3 + length (slice_index_or untold c.args.s.0 [])) c.args.trace.now c.upcall.new.trace)
    (ap (λ (x : Scene _). x.state.untold) c.move_to.ensures.exact ∙ (notes-moved c.args.event c.args.p c.args.s c.is_owner-owned.result old).1)
    (adds-within _ (omega arith) (adds-more c.move_to.ensures.items c.upcall.ensures.items))
