-- Texts as lists of bytes: words with spaces between, and a line before other lines.
use Rattle.std.proofs.Common.{◌≡◌, ℕ, List, [], ◌∷◌, ◌++◌, sym, ap, append_assoc, append-nil, ◌∙◌}
use Rattle.std.specs.List.{flat_map, join_with_byte}

-- words that a space (32) separates are the first one, and a space before each of the others
pub join-spaced : (word : List ℕ) (words : List (List ℕ)) → join_with_byte 32 (word ∷ words) ≡ word ++ flat_map (λ w. 32 ∷ w) words
join-spaced word [] = sym (append-nil word)
join-spaced word (w ∷ ws) = ap (λ rest. word ++ 32 ∷ rest) (join-spaced w ws)

-- a line with its end (10), before other lines and a rest
pub regroup : (line lines rest : List ℕ) → ((line ++ 10 ∷ []) ++ lines) ++ rest ≡ line ++ 10 ∷ (lines ++ rest)
regroup line lines rest = simp append_assoc

-- what is appended in two steps
pub appended_twice : {A : Type 0} (old xs ys first second : List A) → first ≡ old ++ xs → second ≡ first ++ ys → second ≡ old ++ (xs ++ ys)
appended_twice old xs ys first second f s = s ∙ ap (λ zs. zs ++ ys) f ∙ append_assoc old xs ys
