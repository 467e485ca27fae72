-- What a sink in memory holds, and what each write makes of it.
use Rattle.std.specs.Prelude.{ℕ, ◌+◌, ◌<◌, ◌⊎◌, List, ◌++◌, length, Contains}
use Rattle.sa_io.specs.Faults.{count_up}

-- the bytes that were taken, how many the sink can hold, the numbers of the writes that fail, and how
-- many writes and how many faults there were
pub record Store : Type 0 where
  pub taken : List ℕ
  pub room : ℕ
  pub failing : List ℕ
  pub calls : ℕ
  pub faults : ℕ

-- the next write is one of those that fail, or the piece does not fit the room that is left
abbrev pub NextWriteFails : Store → List ℕ → Type 0
NextWriteFails s piece = Contains s.failing (s.calls + 1) ⊎ (s.room < length s.taken + length piece)

-- what stays after a write that took the piece
abbrev pub after_write : Store → List ℕ → Store
after_write s piece = record s { taken = s.taken ++ piece; calls = count_up s.calls }

-- what stays after a write that failed
abbrev pub after_failed_write : Store → Store
after_failed_write s = record s { calls = count_up s.calls; faults = count_up s.faults }
