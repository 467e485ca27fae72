use Rattle.std.proofs.Common.{None, length, sym, ap, subst, ◌∙◌, arith}
use Rattle.sa_assign.specs.AssignView.{AssignView}
use Rattle.sa_kernel_model.specs.State.{Scene}
use Rattle.sa_kernel_model.specs.Parts.{with_line}
use Rattle.sa_kernel_model.specs.Sound.{AreSpaces, AreAlive}
use Rattle.sa_kernel_model.proofs.parts.Sizes.{sizes_of}
use Rattle.sa_kernel.specs.Needs.{HasProc}
use Rattle.sa_kernel.specs.View.{state_of, scene_of}
use Rattle.sa_kernel.proofs.FreshActivations.{enters-interrupt, count-interrupt, stopped-low}
use Rattle.sa_kernel.proofs.Calls.{spends-none, spends-more, upcall-kept, proc-kept, sizes-line, sizes-stopped, telling-stopped}
use Rattle.sa_kernel.proofs.parts.Parts.interrupt.Goals as goal

pub go_to_aim-requires-clause-trace : goal.go_to_aim-requires-clause-trace
go_to_aim-requires-clause-trace g c =
    let old = scene_of c.args.self.now c.args.trace.now in
    let mid = scene_of c.stop.new.self c.stop.new.trace in
    let more = count-interrupt c.args.event c.args.p c.args.held c.lower.new.self old mid c.lower.ensures c.stop.ensures.exact in
    omega arith

pub returns-clause-exact : goal.returns-clause-exact
returns-clause-exact g c =
    let old = scene_of c.args.self.now c.args.trace.now in
    let mid = scene_of c.stop.new.self c.stop.new.trace in
    enters-interrupt c.args.event c.args.p c.args.held c.aim-aim.result old mid _ c.go_to_aim.result
    (stopped-low c.args.event c.args.p c.args.held c.lower.new.self old mid c.lower.ensures c.stop.ensures.exact) c.aim-aim.ensures c.go_to_aim.ensures.exact

pub returns-clause-items : goal.returns-clause-items
returns-clause-items g c =
    let old = scene_of c.args.self.now c.args.trace.now in
    let mid = scene_of c.stop.new.self c.stop.new.trace in
    let more = count-interrupt c.args.event c.args.p c.args.held c.lower.new.self old mid c.lower.ensures c.stop.ensures.exact in
    record { spare = omega arith; same = omega arith }

pub stop-requires-clause-proc : goal.stop-requires-clause-proc
stop-requires-clause-proc g c =
    let k = state_of c.args.self.now in
    let before : HasProc k c.args.p = record { sizes = c.requires.sound.sizes; within = c.requires.within } in
    subst (λ (a : AssignView). HasProc (record k { assign = a }) c.args.p) (sym c.lower.ensures)
    (proc-kept k (with_line c.args.p None k) c.args.p (sizes-line c.args.p None k) before)

pub stop-requires-clause-owners : goal.stop-requires-clause-owners
stop-requires-clause-owners g c =
    subst (λ (a : AssignView). AreSpaces (length c.args.self.now.demands.items) a.owners) (sym c.lower.ensures) c.requires.sound.owners

pub stop-requires-clause-lives : goal.stop-requires-clause-lives
stop-requires-clause-lives g c =
    let k = state_of c.args.self.now in
    subst (λ (a : AssignView). AreAlive a.owners k.lives k.acts) (sym c.lower.ensures) c.requires.sound.lives

pub go_to_aim-requires-clause-proc : goal.go_to_aim-requires-clause-proc
go_to_aim-requires-clause-proc g c =
    let old = scene_of c.args.self.now c.args.trace.now in
    let mid = scene_of c.stop.new.self c.stop.new.trace in
    let stops = stopped-low c.args.event c.args.p c.args.held c.lower.new.self old mid c.lower.ensures c.stop.ensures.exact in
    let before : HasProc old.state c.args.p = record { sizes = c.requires.sound.sizes; within = c.requires.within } in
    proc-kept old.state mid.state c.args.p
    (ap (λ (x : Scene _). sizes_of x.state) stops ∙ sizes-stopped c.args.event c.args.p _ _ c.args.held _ ∙ sizes-line c.args.p None old.state) before

pub go_to_aim-requires-clause-upcall : goal.go_to_aim-requires-clause-upcall
go_to_aim-requires-clause-upcall g c =
    let old = scene_of c.args.self.now c.args.trace.now in
    let mid = scene_of c.stop.new.self c.stop.new.trace in
    let stops = stopped-low c.args.event c.args.p c.args.held c.lower.new.self old mid c.lower.ensures c.stop.ensures.exact in
    upcall-kept (spends-more (spends-none c.args.self.now c.lower.new.self) c.stop.ensures.room)
    (ap (λ (x : Scene _). x.state.telling) stops ∙ telling-stopped c.args.event c.args.p _ _ c.args.held _) c.requires.upcall

pub returns-clause-room : goal.returns-clause-room
returns-clause-room g c =
    spends-more (spends-more (spends-none c.args.self.now c.lower.new.self) c.stop.ensures.room) c.go_to_aim.ensures.room
