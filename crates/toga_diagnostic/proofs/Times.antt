-- One byte, written so many times.
use Rattle.std.proofs.Common.{◌≡◌, ℕ, ◌+◌, List, [], ◌∷◌, ◌++◌, replicate, ap, ◌∙◌, append_assoc}
use Rattle.std.proofs.lemmas.List.{replicate-append-replicate}

pub times-more :
    (n b : ℕ) (old now later : List ℕ) → now ≡ old ++ replicate n b → later ≡ now ++ b ∷ [] → later ≡ old ++ replicate (n + 1) b
times-more n b old now later e g =
    g ∙ ap (λ z. z ++ b ∷ []) e ∙ append_assoc old (replicate n b) (b ∷ []) ∙ ap (λ z. old ++ z) (replicate-append-replicate n 1 b)
