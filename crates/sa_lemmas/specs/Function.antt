-- Functions of a number, as a table that has no end.
use Rattle.std.specs.Prelude.{ℕ, ◌==◌, if◌then◌else◌}

-- the function with another value at one place
abbrev pub put : {A : Type 0} → (ℕ → A) → ℕ → A → ℕ → A
put f i a j = if j == i then a else f j
