-- What holds of each operand of an instruction, from what a test of all of them answers.
use Rattle.std.proofs.Common.{ℕ, zero, suc, ◌<◌, Bool, true, false, IsTrue, List, [], ◌∷◌, length, get_or, MatchBool, refl, arith}
use Rattle.std.specs.Prelude.{◌↔◌}
use Rattle.std.specs.List.{All, AllWithin, HoldsAt}
use Rattle.std.proofs.lemmas.Bool.{false≢true}
use Rattle.std.proofs.lemmas.List.Elements.{All-head, All-tail, All-from_all_within}
use Rattle.sa_instr.specs.declared.operand.Operand.{Operand}
use Rattle.sa_instr.specs.declared.operand.Operand.TheVariants.{Value}
use Rattle.sa_instr.specs.Operand.{Each}

-- what holds at each place holds of each operand
each_of_all : (P : Operand → Type 0) (os : List Operand) → All P os → Each P os
each_of_all P [] all = tt
each_of_all P (o ∷ os) all = (All-head P o os all, each_of_all P os (All-tail P o os all))

-- what holds of each operand holds at a place
each_at : (P : Operand → Type 0) (os : List Operand) (k : ℕ) (d : Operand) → k < length os → Each P os → P (get_or os k d)
each_at P [] k d below each = absurd (omega arith)
each_at P (o ∷ os) zero d below each = each.0
each_at P (o ∷ os) (suc k) d below each = each_at P os k d (omega arith) each.1

-- a test of all operands is true exactly where each passes it
pub all_each : (P : Operand → Type 0) (tested : Bool) (os : List Operand)
    → MatchBool tested (AllWithin P os 0 (length os)) ((k : ℕ) × (k < length os) × HoldsAt (λ o. P o → ⊥) os k)
    → IsTrue tested ↔ Each P os
all_each P true os all = (λ _. each_of_all P os (All-from_all_within P os all), λ _. refl)
all_each P false os fails =
    (λ is. absurd (false≢true is), λ each. absurd (fails.2 (Value 0) (each_at P os fails.0 (Value 0) fails.1 each)))

-- two things hold of each operand
pub each_both : (P Q : Operand → Type 0) (os : List Operand) → Each (λ o. P o × Q o) os → Each P os × Each Q os
each_both P Q [] each = (tt, tt)
each_both P Q (o ∷ os) each = let rest = each_both P Q os each.1 in ((each.0.0, rest.0), (each.0.1, rest.1))

pub both_each : (P Q : Operand → Type 0) (os : List Operand) → Each P os → Each Q os → Each (λ o. P o × Q o) os
both_each P Q [] p q = tt
both_each P Q (o ∷ os) p q = ((p.0, q.0), both_each P Q os p.1 q.1)
