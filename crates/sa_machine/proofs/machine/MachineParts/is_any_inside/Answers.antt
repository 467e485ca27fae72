use Rattle.std.proofs.Common.{◌≡◌, ◌<◌, true, length, sym, ap, ◌∙◌, arith}
use Rattle.sa_machine.specs.View.{machine_of}
use Rattle.std.proofs.Common.{is_some}
use Rattle.sa_assign.proofs.ChoiceLemmas.{least_below-found}
use Rattle.sa_core_model.specs.End.{is_inside}
use Rattle.sa_machine.proofs.machine.MachineParts.is_any_inside.Goals as goal

pub returns-then-is_inside : goal.returns-then-is_inside
returns-then-is_inside g c =
    let m = machine_of c.args.self.now in
    let f = g.U.UserLevel.calls in
    let test = c.loop-p-test.true in
    let value = c.processors-p-end.ensures.value in
    let below : c.loop-p.p < length m.contexts = omega (arith, test, value, c.requires.contexts) in
    let passes : is_inside f m c.loop-p.p ≡ true = sym c.is_inside.ensures ∙ c.if-is_inside.true in
    sym (ap is_some (least_below-found (length m.contexts) (is_inside f m) c.loop-p.p c.loop-p.invariant passes below))
