-- In what order the processors take turns. Event k is a turn of one processor, k from 1 on; processors are
-- numbered from 0.
use Rattle.std.specs.Prelude.{ℕ, ◌+◌, ◌-◌, ◌%◌, Bool, ◌&&◌, List, unwrap_or, nat_lt, nat_le, slice_get, if◌then◌else◌}
use Rattle.sa_sched.specs.declared.TheConstants.{HOLD_EVENTS}
use Rattle.sa_sched.specs.Generator.{seeded_word}

pub data Order : Type 0 where
  RoundRobin : Order
  -- by the words that the generator makes of this seed
  Seed : ℕ → Order
  -- these processors, and round robin after them
  Given : List ℕ → Order
  -- round robin, but that this processor has no turn from this event on, for a while
  Hold : ℕ → ℕ → Order

-- whose turn event k is by round robin
abbrev pub in_turn : ℕ → ℕ → ℕ
in_turn processors k = (k - 1) % processors

-- the processors but one, numbered from 0 in their order
abbrev pub other_than : ℕ → ℕ → ℕ
other_than held i = if nat_lt i held then i else i + 1

-- whether event k is one of those at which a processor is held, where there is such a processor and another one
abbrev pub is_held : ℕ → ℕ → ℕ → ℕ → Bool
is_held processors held from k = nat_lt 1 processors && nat_lt held processors && nat_le from k && nat_lt k (from + HOLD_EVENTS)

-- the processor of event k
abbrev pub processor_at : Order → ℕ → ℕ → ℕ
processor_at RoundRobin processors k = in_turn processors k
processor_at (Seed seed) processors k = seeded_word seed k % processors
processor_at (Given procs) processors k = unwrap_or (slice_get procs (k - 1)) (in_turn processors k)
processor_at (Hold held from) processors k =
    if is_held processors held from k then other_than held ((k - from) % (processors - 1)) else in_turn processors k
