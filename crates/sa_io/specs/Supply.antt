-- What a source in memory has left to give, and what each read makes of it.
use Rattle.std.specs.Prelude.{ℕ, ◌+◌, List, length, drop, min, Contains}
use Rattle.sa_io.specs.Faults.{count_up}

-- the bytes that are left, the most that one read gives, the numbers of the reads that fail, and how
-- many reads and how many faults there were
pub record Supply : Type 0 where
  pub left : List ℕ
  pub step : ℕ
  pub failing : List ℕ
  pub calls : ℕ
  pub faults : ℕ

-- the next read is one of those that fail
abbrev pub NextReadFails : Supply → Type 0
NextReadFails s = Contains s.failing (s.calls + 1)

-- how many bytes the next read gives where there is this much room
abbrev pub next_count : Supply → ℕ → ℕ
next_count s room = min s.step (min room (length s.left))

-- what stays after a read that gave n bytes
abbrev pub after_read : Supply → ℕ → Supply
after_read s n = record s { left = drop n s.left; calls = count_up s.calls }

-- what stays after a read that failed
abbrev pub after_failed_read : Supply → Supply
after_failed_read s = record s { calls = count_up s.calls; faults = count_up s.faults }
