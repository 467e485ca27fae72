use Rattle.std.proofs.Common.{◌≡◌, ◌<◌, true, is_some, sym, ap, ◌∙◌, arith}
use Rattle.std.specs.List.{list_any}
use Rattle.sa_assign.proofs.ChoiceLemmas.{least_below-found}
use Rattle.sa_kernel.specs.View.{state_of}
use Rattle.sa_kernel_model.specs.Closing.{spaces, calls_for}
use Rattle.sa_kernel_model.specs.Seen.{is_called}
use Rattle.sa_kernel.proofs.parts.Parts.has_call.Goals as goal

pub returns-then-some_calls : goal.returns-then-some_calls
returns-then-some_calls g c =
    let k = state_of c.args.self.now in
    let below : c.loop-s.s < spaces k = omega (arith, c.len-s-end.ensures) in
    let passes : is_called k c.loop-s.s ≡ true = ap (list_any (calls_for k)) (sym c.untold.ensures) ∙ sym c.some_calls.ensures ∙ c.if-some_calls.true in
    sym (ap is_some (least_below-found (spaces k) (is_called k) c.loop-s.s c.loop-s.invariant passes below))
