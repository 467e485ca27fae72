-- What is appended for one number after another.
use Rattle.std.proofs.Common.{◌≡◌, ℕ, ◌+◌, List, ◌++◌, ap, sym, ◌∙◌, append_assoc}
use Rattle.std.specs.List.{flat_map, range_with_len}
use Rattle.sa_lemmas.proofs.Appends.{range-more}

-- one more piece, which is that of the next number
pub one_more :
    {A : Type 0} → (f : ℕ → List A) (n : ℕ) (before out one : List A) → out ≡ before ++ flat_map f (range_with_len 0 n)
    → one ≡ out ++ f n → one ≡ before ++ flat_map f (range_with_len 0 (n + 1))
one_more f n before out one e g =
    let F = flat_map f (range_with_len 0 n) in
    let mid : (before ++ F) ++ f n ≡ before ++ (F ++ f n) = simp append_assoc in
    g ∙ ap (λ l. l ++ f n) e ∙ mid ∙ ap (λ l. before ++ l) (sym (range-more f n))

-- two more pieces, which are those of the next number
pub pair_more :
    {A : Type 0} → (f : ℕ → List A) (n : ℕ) (before out one two a b : List A) → out ≡ before ++ flat_map f (range_with_len 0 n)
    → one ≡ out ++ a → two ≡ one ++ b → f n ≡ a ++ b → two ≡ before ++ flat_map f (range_with_len 0 (n + 1))
pair_more f n before out one two a b e g h k =
    let F = flat_map f (range_with_len 0 n) in
    let mid : ((before ++ F) ++ a) ++ b ≡ before ++ (F ++ (a ++ b)) = simp append_assoc in
    h ∙ ap (λ l. l ++ b) (g ∙ ap (λ l. l ++ a) e) ∙ mid
    ∙ ap (λ l. before ++ l) (ap (λ l. F ++ l) (sym k) ∙ sym (range-more f n))
