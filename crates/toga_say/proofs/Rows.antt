-- Rows, one processor after another.
use Rattle.std.proofs.Common.{◌≡◌, ℕ, ◌+◌, List, ◌++◌, sym, ap, ◌∙◌, append_assoc}
use Rattle.std.specs.List.{flat_map, range_with_len}
use Rattle.sa_lemmas.proofs.Appends.{range-more}

-- one processor more
pub rows-more :
    (f : ℕ → List ℕ) (n : ℕ) (old now later : List ℕ) → now ≡ old ++ flat_map f (range_with_len 0 n) → later ≡ now ++ f n
    → later ≡ old ++ flat_map f (range_with_len 0 (n + 1))
rows-more f n old now later so made =
    made ∙ ap (λ xs. xs ++ f n) so ∙ append_assoc old (flat_map f (range_with_len 0 n)) (f n) ∙ ap (λ xs. old ++ xs) (sym (range-more f n))
