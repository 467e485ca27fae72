-- A value along a list, one item later.
use Rattle.std.proofs.Common.{◌≡◌, sym, ◌∙◌, ap, List, [], ◌∷◌, ◌++◌, append_assoc, append-nil}
use Rattle.sa_promises.specs.Along.{along_from, along}

from-more : {A B : Type 0} (f : List B → A → B → A) (past : List B) (v : A) (xs : List B) (x : B)
    → along_from f past v (xs ++ x ∷ []) ≡ f (past ++ xs) (along_from f past v xs) x
from-more f past v [] x = ap (λ ys. f ys v x) (sym (append-nil past))
from-more f past v (y ∷ ys) x =
    from-more f (past ++ y ∷ []) (f past v y) ys x
    ∙ ap (λ zs. f zs (along_from f (past ++ y ∷ []) (f past v y) ys) x) (append_assoc past (y ∷ []) ys)

pub along-more : {A B : Type 0} (f : List B → A → B → A) (v : A) (xs : List B) (x : B) → along f v (xs ++ x ∷ []) ≡ f xs (along f v xs) x
along-more f v xs x = from-more f [] v xs x

-- where a reading was the value along the items, it is so again if the item changes it in the same way
pub along-step : {A B : Type 0} (f : List B → A → B → A) (v : A) (xs : List B) (x : B) (old new : A) → old ≡ along f v xs → new ≡ f xs old x
    → new ≡ along f v (xs ++ x ∷ [])
along-step f v xs x old new was now = now ∙ ap (λ a. f xs a x) was ∙ sym (along-more f v xs x)
