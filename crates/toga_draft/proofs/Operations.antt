-- The operation and the register of a word.
use Rattle.std.proofs.Common.{◌≡◌, ℕ, ◌-◌, Bool, true, false, cond, List, [], ◌∷◌, Option, Some, None, find, refl, sym, ap, ◌∙◌}
use Rattle.std.specs.Prelude.{IfSome, IfNone, IsSome, IsTrue, ◌↔◌, ◌==◌, slice_index}
use Rattle.std.specs.Str.{bytes_eq}
use Rattle.std.proofs.lemmas.Bool.{false≢true}
use Rattle.std.proofs.lemmas.Slice.Eq.{bytes_eq-Decides}
use Rattle.sa_instr.specs.declared.instr.Reg.{Reg}
use Rattle.sa_instr.specs.declared.instr.Reg.TheVariants as reg
use Rattle.sa_instr.specs.declared.operation.Operation.{Operation}
use Rattle.sa_instr.specs.declared.operation.TheConstants.{OPERATIONS}
use Rattle.sa_instr.specs.Instr.{reg_number}
use Rattle.sa_instr.specs.Operation.{form_of, IsNoWord, operation_of}
use Rattle.sa_instr.proofs.OperationLemmas.{operation-found}
use Rattle.toga_lines.specs.Names.{is_register}
use Rattle.toga_draft.specs.Operands.{register_of, registers}

none-found : (word : List ℕ) → IsNoWord word → (os : List Operation) → find (λ o. bytes_eq word (form_of o).word) os ≡ None
none-found word none [] = refl
none-found word none (o ∷ os) = by_test (bytes_eq word (form_of o).word) refl (none-found word none os)
  where
    by_test : (b : Bool) → bytes_eq word (form_of o).word ≡ b → find (λ o. bytes_eq word (form_of o).word) os ≡ None
        → cond b (Some o) (find (λ o. bytes_eq word (form_of o).word) os) ≡ None
    by_test true t rest = absurd (none o (sym ((bytes_eq-Decides word (form_of o).word).0 t)))
    by_test false t rest = rest

operation-none : (word : List ℕ) → IsNoWord word → operation_of word ≡ None
unfolding operation_of
operation-none word none = none-found word none OPERATIONS

pub operation-is :
    (r : Option Operation) (word : List ℕ) → IfSome r (λ o. (form_of o).word ≡ word) → IfNone r (IsNoWord word) → r ≡ operation_of word
operation-is (Some o) word found none = sym (ap operation_of (sym found) ∙ operation-found o)
operation-is None word found none = sym (operation-none word none)

found : (r : Reg) → find (λ q. reg_number q == reg_number r) registers ≡ Some r
found reg.R0 = refl
found _ = refl

pub register-is :
    (r : Option Reg) (word : List ℕ) → IsSome r ↔ IsTrue (is_register word) → IfSome r (λ q. reg_number q ≡ slice_index word 1 - 48)
    → r ≡ register_of word
register-is (Some r) word some number =
    sym (ap (λ n. find (λ q. reg_number q == n) registers) (sym number) ∙ found r)
    ∙ ap (λ b. cond b (find (λ q. reg_number q == slice_index word 1 - 48) registers) None) (sym (some.0 refl))
register-is None word some number = by_test (is_register word) refl
  where
    by_test : (b : Bool) → is_register word ≡ b → None ≡ cond b (find (λ q. reg_number q == slice_index word 1 - 48) registers) None
    by_test true e = absurd (false≢true (some.1 e))
    by_test false e = refl
