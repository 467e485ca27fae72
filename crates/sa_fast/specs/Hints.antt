-- The tests of the hints to the kernel.
use Rattle.std.specs.Prelude.{ℕ, ◌-◌, Bool, Option, Some, None, nat_le, nat_lt, if◌then◌else◌}

-- how many of these processors a space with this load can use
abbrev pub usable : ℕ → ℕ → ℕ
usable processors load = if nat_le processors load then processors else load

-- how many more it can use than it announced
abbrev pub more_owed : ℕ → ℕ → ℕ → Option ℕ
more_owed demand processors load =
    if nat_le (usable processors load) demand then None else Some (usable processors load - demand)

-- it announced more than its load
abbrev pub idle_owed : ℕ → ℕ → Bool
idle_owed demand load = nat_lt load demand
