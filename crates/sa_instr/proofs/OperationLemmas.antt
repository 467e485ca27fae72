-- Each operation stands in the list of the operations, and no two have one word.
use Rattle.std.proofs.Common.{◌≡◌, ℕ, ◌<◌, ◌≤◌, true, leb, Some, length, get_or, refl, sym, ap, ◌∙◌}
use Rattle.std.proofs.lemmas.Bool.{ltb-true, leb-true}
use Rattle.std.proofs.lemmas.Option.{same_Some}
use Rattle.sa_instr.specs.declared.operation.Operation.{Operation}
use Rattle.sa_instr.specs.declared.operation.Operation.TheVariants.{Compute, Set, Add, Sub, Jnz, Load, Store, Out, Fork, Join, Lock, Unlock, Wait, Signal, Io, Touch, End}
use Rattle.sa_instr.specs.declared.operation.TheConstants.{OPERATIONS}
use Rattle.sa_instr.specs.Operation.{form_of, operation_of}

-- the place of an operation in the list
pub place_of : (operation : Operation) → (k : ℕ) × (k < 17) × (get_or OPERATIONS k End ≡ operation)
place_of Compute = (0, ltb-true 0 17 refl, refl)
place_of Set = (1, ltb-true 1 17 refl, refl)
place_of Add = (2, ltb-true 2 17 refl, refl)
place_of Sub = (3, ltb-true 3 17 refl, refl)
place_of Jnz = (4, ltb-true 4 17 refl, refl)
place_of Load = (5, ltb-true 5 17 refl, refl)
place_of Store = (6, ltb-true 6 17 refl, refl)
place_of Out = (7, ltb-true 7 17 refl, refl)
place_of Fork = (8, ltb-true 8 17 refl, refl)
place_of Join = (9, ltb-true 9 17 refl, refl)
place_of Lock = (10, ltb-true 10 17 refl, refl)
place_of Unlock = (11, ltb-true 11 17 refl, refl)
place_of Wait = (12, ltb-true 12 17 refl, refl)
place_of Signal = (13, ltb-true 13 17 refl, refl)
place_of Io = (14, ltb-true 14 17 refl, refl)
place_of Touch = (15, ltb-true 15 17 refl, refl)
place_of End = (16, ltb-true 16 17 refl, refl)

-- the operation of a word is found by it
pub operation-found : (operation : Operation) → operation_of (form_of operation).word ≡ Some operation
unfolding operation_of
operation-found End = refl
operation-found _ = refl

pub words-differ : (a b : Operation) → (form_of a).word ≡ (form_of b).word → a ≡ b
words-differ a b same = same_Some a b (sym (operation-found a) ∙ ap operation_of same ∙ operation-found b)

few : (operation : Operation) → leb (length (form_of operation).operands) 2 ≡ true
few End = refl
few _ = refl

-- an operation has at most two operands
pub few-operands : (operation : Operation) → length (form_of operation).operands ≤ 2
few-operands operation = leb-true _ _ (few operation)
