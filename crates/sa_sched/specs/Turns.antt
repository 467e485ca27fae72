-- A schedule as it goes on: what is left of its order, whose turn is next, and what each turn changes.
use Rattle.std.specs.Prelude.{ℕ, zero, suc, ◌+◌, ◌-◌, ◌%◌, Bool, ◌&&◌, List, drop, min, unwrap_or, nat_lt, ◌==◌, slice_get, if◌then◌else◌}
use Rattle.sa_sched.specs.declared.TheConstants.{HOLD_EVENTS}
use Rattle.sa_sched.specs.Generator.{state_behind, word_of, state_of, increment_of}
use Rattle.sa_sched.specs.Order.{Order, RoundRobin, Seed, Given, Hold, other_than}

pub data Rest : Type 0 where
  NoRest : Rest
  -- the generator's increment and state
  Words : ℕ → ℕ → Rest
  -- the processors still to come
  Procs : List ℕ → Rest
  -- a processor, how many turns come before it is held, and how many of those at which it is held are over
  Holding : ℕ → ℕ → ℕ → Rest

pub record Turns : Type 0 where
  pub processors : ℕ
  -- whose turn is next by round robin
  pub turn : ℕ
  pub rest : Rest

-- a schedule at its beginning
abbrev pub whole : Order → Rest
whole RoundRobin = NoRest
whole (Seed seed) = Words (increment_of seed) (state_of seed 0)
whole (Given procs) = Procs procs
whole (Hold held from) = Holding held (from - 1) (1 - from)

abbrev pub start : Order → ℕ → Turns
start order processors = record { processors = processors; turn = 0; rest = whole order }

-- whose turn is next
abbrev pub holds : ℕ → ℕ → ℕ → ℕ → Bool
holds processors held before over = nat_lt 1 processors && nat_lt held processors && before == 0 && nat_lt over HOLD_EVENTS

abbrev pub next_of : ℕ → ℕ → Rest → ℕ
next_of processors turn NoRest = turn
next_of processors turn (Words increment state) = word_of state % processors
next_of processors turn (Procs procs) = unwrap_or (slice_get procs 0) turn
next_of processors turn (Holding held before over) =
    if holds processors held before over then other_than held (over % (processors - 1)) else turn

abbrev pub next_processor : Turns → ℕ
next_processor s = next_of s.processors s.turn s.rest

-- the schedule after its next turn
abbrev pub behind : Rest → Rest
behind NoRest = NoRest
behind (Words increment state) = Words increment (state_behind increment state)
behind (Procs procs) = Procs (drop 1 procs)
behind (Holding held zero over) = Holding held 0 (min (over + 1) HOLD_EVENTS)
behind (Holding held (suc before) over) = Holding held before over

abbrev pub turned : Turns → Turns
turned s = record { processors = s.processors; turn = (s.turn + 1) % s.processors; rest = behind s.rest }

-- the schedule after that many turns
abbrev pub turned_often : Turns → ℕ → Turns
turned_often s zero = s
turned_often s (suc turns) = turned (turned_often s turns)
