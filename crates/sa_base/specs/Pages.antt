-- The pages of a space that are resident: a number whose bit k says that page k is.
use Rattle.std.specs.Prelude.{ℕ, Bool, ◌==◌}
use Rattle.std.specs.Int.{bit_at}

-- page k is resident
abbrev pub has_page : ℕ → ℕ → Bool
has_page bits k = bit_at bits k == 1
