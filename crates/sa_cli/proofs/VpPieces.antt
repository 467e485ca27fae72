-- The text of a run on virtual processors goes out: the trace text, and the losses after it.
use Rattle.std.proofs.Common.{◌≡◌, ℕ, List, [], ◌++◌, Option, subst, append-nil}
use Rattle.sa_io.specs.Faults.{AppendsPrefix}
use Rattle.sa_io.specs.Pieces.{GoesOut}
use Rattle.sa_io.proofs.PieceLemmas.{out-both, out-cut}

module _ (before at after : Option (List ℕ)) (first between second : List ℕ) where
  -- both were put
  pub both-out : (waits line : List ℕ) → line ≡ second → GoesOut before at [] first between → GoesOut at after between line waits
      → GoesOut before after [] (first ++ second) waits
  both-out waits line is one two =
      out-both before at after [] first between second waits one (subst (λ (v : List ℕ). GoesOut at after between v waits) is two)

  -- the second is cut
  pub second-cut : (line : List ℕ) → line ≡ second → GoesOut before at [] first between → AppendsPrefix at after (between ++ line)
      → AppendsPrefix before after (first ++ second)
  second-cut line is one cut =
      subst (λ (v : List ℕ). AppendsPrefix before after (first ++ v)) (append-nil second)
      (out-cut before at after [] first between second [] one (subst (λ (v : List ℕ). AppendsPrefix at after (between ++ v)) is cut))
