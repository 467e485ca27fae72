use Rattle.std.specs.Prelude.{slice_set}
use Rattle.std.proofs.Common.{ap, Some, List, refl, sym, ◌∙◌, arith}
use Rattle.sa_machine.specs.View.{machine_of}
use Rattle.sa_base.specs.declared.record.Note.{Note}
use Rattle.sa_kernel_model.specs.State.{KernelState}
use Rattle.sa_kernel_model.specs.Entries.{after_fetch}
use Rattle.sa_kernel.specs.Kept.{kernel_of}
use Rattle.sa_machine.proofs.CallLemmas.{read-ctx, next-is, told-as, told-cons, the-user, has-place, telling-here, next-some, next-none, has-space, has-ctx}
use Rattle.sa_machine.proofs.machine.MachineParts.tell_one.Goals as goal

pub told-requires-clause-telling : goal.told-requires-clause-telling
told-requires-clause-telling g c = λ κs k u at.
    let keep = (g.met.U.UserLevel g.world.𝓛 g.world.𝓜 g.world.𝓡 ((λ s x. x), (λ x. x), (λ x. x), λ x. x)).keeps in
    let f = g.U.UserLevel.calls in
    let stands = g.U.UserLevel.stands in
    let m = machine_of c.args.self.now in
    let p = c.args.p in
    let s = c.args.s in
    let place = has-place f stands keep m.event m p s c.requires.stands c.requires.owner in
    let ctx = read-ctx m.contexts p.0 c.from.result c.index_mut.result.now c.in-Some-index_mut.ctx place c.from.ensures c.index_mut.ensures.value
    c.in-Some-index_mut.is in
    let next = next-is m.kernel c.in-Some.note c.in-Some.held (sym c.in-Some.is ∙ c.next_note.ensures.note) in
    telling-here f stands keep m.event m p s c.requires.stands c.requires.owner u c.in-Some-index_mut.ctx at ctx c.in-Some.note next.notes c.in-Some.held
    next.telling c.requires.claimed next.held_is

pub returns-clause-some : goal.returns-clause-some
returns-clause-some g c = λ note notes is.
    let keep = (g.met.U.UserLevel g.world.𝓛 g.world.𝓜 g.world.𝓡 ((λ s x. x), (λ x. x), (λ x. x), λ x. x)).keeps in
    let f = g.U.UserLevel.calls in
    let stands = g.U.UserLevel.stands in
    let m = machine_of c.args.self.now in
    let p = c.args.p in
    let s = c.args.s in
    let place = has-place f stands keep m.event m p s c.requires.stands c.requires.owner in
    let ctx = read-ctx m.contexts p.0 c.from.result c.index_mut.result.now c.in-Some-index_mut.ctx place c.from.ensures c.index_mut.ensures.value
    c.in-Some-index_mut.is in
    let user = the-user f stands keep m.event m p s c.requires.stands c.requires.owner in
    let next = next-is m.kernel c.in-Some.note c.in-Some.held (sym c.in-Some.is ∙ c.next_note.ensures.note) in
    let done = told-as f stands keep p s c.in-Some.note next.notes c.in-Some.held m
    (kernel_of c.next_note.new.self) user.0 c.in-Some-index_mut.ctx c.told.new.ctx c.told.new.self _ user.1 ctx
    next.telling next.held_is c.next_note.ensures.state (c.told.ensures.user user.0 user.1)
    (ap (λ n. slice_set m.contexts n (Some c.told.new.ctx)) c.from.ensures)
    (c.told.ensures.ctx user.0 user.1) in
    (refl, done ∙ told-cons f stands keep p s m c.in-Some.note note next.notes notes (sym next.telling ∙ is))

pub unreachable-requires : goal.unreachable-requires
unreachable-requires g c =
    let keep = (g.met.U.UserLevel g.world.𝓛 g.world.𝓜 g.world.𝓡 ((λ s x. x), (λ x. x), (λ x. x), λ x. x)).keeps in
    has-ctx g.U.UserLevel.calls g.U.UserLevel.stands keep c.args.self.now.events (machine_of c.args.self.now) c.args.p c.args.s c.requires.stands
    c.requires.owner
    c.from.result c.index_mut.result.now c.from.ensures c.index_mut.ensures.value c.in_default-index_mut.is

pub index_mut-requires : goal.index_mut-requires
index_mut-requires g c =
    let keep = (g.met.U.UserLevel g.world.𝓛 g.world.𝓜 g.world.𝓡 ((λ s x. x), (λ x. x), (λ x. x), λ x. x)).keeps in
    let place = has-place g.U.UserLevel.calls g.U.UserLevel.stands keep c.args.self.now.events (machine_of c.args.self.now) c.args.p c.args.s
    c.requires.stands c.requires.owner in
    omega (arith, place, c.from.ensures, c.args.self.now.contexts.ok.0)

pub told-requires-clause-within : goal.told-requires-clause-within
told-requires-clause-within g c = λ κs k.
    let keep = (g.met.U.UserLevel g.world.𝓛 g.world.𝓜 g.world.𝓡 ((λ s x. x), (λ x. x), (λ x. x), λ x. x)).keeps in
    has-space g.U.UserLevel.calls g.U.UserLevel.stands keep c.args.self.now.events (machine_of c.args.self.now) c.args.p c.args.s c.requires.stands
    c.requires.owner

pub returns-clause-none : goal.returns-clause-none
returns-clause-none g c =
    let next = sym c.in-Some.is ∙ c.next_note.ensures.note in
    λ none. absurd (next-some (machine_of c.args.self.now).kernel c.in-Some.note c.in-Some.held next none)

pub returns-in_default-clause-none : goal.returns-in_default-clause-none
returns-in_default-clause-none g c =
    let m = machine_of c.args.self.now in
    λ none. (
      refl,
      ap (λ (k : KernelState g.row.U-Ctx.Denot). record m { kernel = k })
          (c.next_note.ensures.state ∙ ap (λ (ns : List Note). after_fetch ns m.kernel) none),
    )

pub returns-in_default-clause-some : goal.returns-in_default-clause-some
returns-in_default-clause-some g c =
    let next = sym c.in_default.is ∙ c.next_note.ensures.note in
    λ note notes some. absurd (next-none (machine_of c.args.self.now).kernel note notes next some)
