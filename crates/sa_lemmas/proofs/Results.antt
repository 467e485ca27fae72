-- What holds at an error, and the values of equal answers.
use Rattle.std.proofs.Common.{◌≡◌, sym, subst}
use Rattle.std.specs.Prelude.{Result, Ok, Err, OnErr, IfErr, IsErrAnd}

-- what holds anyway holds at an error
pub on_err : {T E Q : Type 0} (result : Result T E) → Q → OnErr result Q
on_err (Ok x) holds = tt
on_err (Err e) holds = holds

-- what holds of an error holds of the result that has it
pub err_along : {T E : Type 0} (P : E → Type 0) (why : E) (result : Result T E) → P why → IsErrAnd result (λ e. e ≡ why) → IfErr result P
err_along P why (Ok x) holds is = absurd is
err_along P why (Err e) holds is = subst P (sym is) holds

-- equal answers have equal values
pub same-ok : {T E : Type 0} (a b : T) → (λ (r : Result T E). r) (Ok a) ≡ Ok b → a ≡ b
same-ok a b is = cc
