-- A thread that is in a pair.
use Rattle.std.proofs.Common.{◌≡◌, ◌↔◌, ℕ, sym, ◌∙◌, Bool, Option, Some, None, is_some}
use Rattle.std.specs.Prelude.{IsTrue}
use Rattle.std.proofs.lemmas.Bool.{false≢true}
use Rattle.std.proofs.lemmas.Option.{none-some}
use Rattle.sa_base.specs.declared.number.ProcNo.{ProcNo}
use Rattle.sa_base.specs.declared.number.SpaceNo.{SpaceNo}
use Rattle.sa_laws.specs.Readings.{Readings}
use Rattle.sa_ranks.specs.Pairs.{outranked_on}
use Rattle.sa_ranks.specs.Steps.{IsOutranked}

pub outranked-iff : (r : Readings) (s : SpaceNo) (p : ProcNo) (o : Option ℕ) (b : Bool) → o ≡ outranked_on r s p → b ≡ is_some o
    → IsTrue b ↔ IsOutranked r s p
outranked-iff r s p None b is some =
    (λ yes. absurd (false≢true (sym some ∙ yes)), λ pair. absurd (none-some pair.rank (is ∙ pair.pair)))
outranked-iff r s p (Some rank) b is some = (λ yes. record { rank = rank; pair = sym is }, λ pair. some)
