-- What an input is refused with.
use Rattle.std.specs.Prelude.{◌≡◌, ◌⊎◌, ℕ, ◌+◌, ◌<◌, ◌≤◌, ◌==◌, List, length, take, count_by}
use Rattle.sa_base.specs.Cause.{bad_at}
use Rattle.sa_base.specs.declared.refusal.Cause.TheVariants.{TooMany}
use Rattle.sa_base.specs.declared.refusal.Bad.{Bad}
use Rattle.sa_input.specs.declared.limits.TheConstants.{WORKLOAD_LIMIT}

-- which bytes are bad in which line, with which cause
abbrev pub Badness : Type 1
Badness = List ℕ → ℕ → ℕ → Type 0

-- what an input is refused with that is longer than a limit: it is too much in the line of the first byte past it
unfoldable pub too_long : ℕ → List ℕ → Bad
too_long limit input = bad_at (count_by (λ b. b == 10) (take limit input) + 1) TooMany

-- the refusal of a workload text: it is too long, or else it is bad so
abbrev pub IsInputRefused : Badness → List ℕ → Bad → Type 0
IsInputRefused is_bad input bad =
    ((WORKLOAD_LIMIT < length input) × (bad ≡ too_long WORKLOAD_LIMIT input))
    ⊎ ((length input ≤ WORKLOAD_LIMIT) × is_bad input bad.line bad.why)
