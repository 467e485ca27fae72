use Rattle.std.proofs.Common.{◌≡◌, None, is_some, sym, ap, ◌∙◌}
use Rattle.sa_lemmas.proofs.Options.{not_some-is}
use Rattle.sa_machine.specs.View.{machine_of}
use Rattle.sa_kernel_model.specs.State.{line_of}
use Rattle.sa_core.proofs.DueLemmas.{due-fits}
use Rattle.sa_core.proofs.event.turn_now.Goals as goal

pub complete-requires-clause-fit : goal.complete-requires-clause-fit
complete-requires-clause-fit g c = λ κs k.
    let m = machine_of c.args.machine.now in
    let p = c.args.p in
    let low : line_of m.kernel p ≡ None = not_some-is (line_of m.kernel p) (ap is_some (sym c.line.ensures) ∙ sym c.is_some.ensures ∙ c.if-is_some.false) in
    due-fits m p c.in-Some.io low (sym c.due.ensures.soonest ∙ c.in-Some.is)
