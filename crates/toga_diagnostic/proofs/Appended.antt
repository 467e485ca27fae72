-- What is appended piece by piece is appended as a whole.
use Rattle.std.proofs.Common.{◌≡◌, ℕ, cond, Result, Ok, Err, OnOk, List, ◌++◌, ap, ◌∙◌, append_assoc}
use Rattle.std.specs.Result.{is_ok}

pub two : (old a b x y : List ℕ) → x ≡ old ++ a → y ≡ x ++ b → y ≡ old ++ (a ++ b)
two old a b x y p q = q ∙ ap (λ (z : List ℕ). z ++ b) p ∙ append_assoc old a b

pub three : (old a b c x y z : List ℕ) → x ≡ old ++ a → y ≡ x ++ b → z ≡ y ++ c → z ≡ old ++ ((a ++ b) ++ c)
three old a b c x y z p q r = two old (a ++ b) c y z (two old a b x y p q) r

pub four : (old a b c d x y z w : List ℕ) → x ≡ old ++ a → y ≡ x ++ b → z ≡ y ++ c → w ≡ z ++ d → w ≡ old ++ (((a ++ b) ++ c) ++ d)
four old a b c d x y z w p q r s = two old ((a ++ b) ++ c) d z w (three old a b c x y z p q r) s

-- what a call added that answers Ok, where its contract says what it holds in both cases
pub ok_items : {T E : Type 0} (r : Result T E) (now added before : List ℕ) → now ≡ cond (is_ok r) added before → OnOk r (now ≡ added)
ok_items (Ok x) now added before e = e
ok_items (Err d) now added before e = tt
