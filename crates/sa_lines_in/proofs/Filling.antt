-- What comes by a read.
use Rattle.std.proofs.Common.{◌≡◌, ℕ, ◌+◌, ◌≤◌, List, [], ◌++◌, length, take, drop, Option, Some, None, refl, sym, ap, ◌∙◌}
use Rattle.std.proofs.lemmas.Bool.{false≢true}
use Rattle.std.specs.Prelude.{IfSome, IsSome, ◌↔◌}
use Rattle.std.specs.Io.KnownBytes.{Consumes, IsAtEnd}

-- a read of nothing says that the source is at its end
pub at-end : (before after : Option (List ℕ)) (piece : List ℕ) (n : ℕ) → IsSome before → n ≡ 0 → Consumes before after (take n piece)
    → IfSome before (λ xs. (n ≡ 0) ↔ (xs ≡ [])) → IsAtEnd after
at-end None after piece n told none taken end = absurd (false≢true told)
at-end (Some xs) None piece n told none taken end = absurd taken
at-end (Some xs) (Some ys) piece n told none taken end = sym (taken ∙ ap (λ k. take k piece ++ ys) none) ∙ end.0 none

-- a source that tells what is left tells it after a read
pub still-told : (before after : Option (List ℕ)) (got : List ℕ) → Consumes before after got → IsSome before → IsSome after
still-told None after got taken told = absurd (false≢true told)
still-told (Some xs) None got taken told = absurd taken
still-told (Some xs) (Some ys) got taken told = refl
