-- The values of words.
use Rattle.std.specs.Prelude.{ℕ, ◌+◌, ◌-◌, ◌&&◌, List, length, take, drop, position, codes, Option, Some, None, option_and_then, nat_le, ◌==◌, if◌then◌else◌}
use Rattle.std.specs.Option.{option_map}
use Rattle.std.specs.Str.{bytes_eq}
use Rattle.sa_text.specs.Number.{number_of}
use Rattle.sa_base.specs.declared.limits.TheConstants.{MAX_EVENTS, MAX_PROCESSORS}
use Rattle.sa_command.specs.declared.command.ScheduleWord.{ScheduleWord}
use Rattle.sa_command.specs.declared.command.ScheduleWord.TheVariants.{RoundRobin, Seed, Given, Hold}
use Rattle.sa_command.specs.declared.command.GiveWord.{GiveWord}
use Rattle.sa_command.specs.declared.command.GiveWord.TheVariants.{AllDone, Stuck, Endless}

-- a number from the one to the other
abbrev pub within : ℕ → ℕ → ℕ → Option ℕ
within low high n = if nat_le low n && nat_le n high then Some n else None

abbrev pub number_within : ℕ → ℕ → List ℕ → Option ℕ
number_within low high bytes = option_and_then (within low high) (number_of bytes)

-- what follows a prefix
abbrev pub behind : List ℕ → List ℕ → Option (List ℕ)
behind prefix word = if bytes_eq (take (length prefix) word) prefix then Some (drop (length prefix) word) else None

-- `P:N`, a processor that is held and the first event at which it is
abbrev pub held_from : ℕ → Option ℕ → Option ScheduleWord
held_from proc None = None
held_from proc (Some from) = Some (Hold (record { 0 = proc }) from)

abbrev pub hold_by_parts : List ℕ → List ℕ → Option ScheduleWord
hold_by_parts proc from = option_and_then (λ p. held_from p (number_within 1 MAX_EVENTS from)) (number_within 0 (MAX_PROCESSORS - 1) proc)

abbrev pub hold_by : List ℕ → Option ℕ → Option ScheduleWord
hold_by word None = None
hold_by word (Some colon) =
    hold_by_parts (take colon word) (drop (colon + 1) word)

abbrev pub hold_of : List ℕ → Option ScheduleWord
hold_of word = hold_by word (position (λ byte. byte == 58) word)

-- a word of an order of turns: `rr`, `given`, `seed:N` or `hold:P:N`
abbrev pub held_or_none : Option (List ℕ) → Option ScheduleWord
held_or_none None = None
held_or_none (Some rest) = hold_of rest

abbrev pub seeded_or_held : List ℕ → Option (List ℕ) → Option ScheduleWord
seeded_or_held word None = held_or_none (behind (codes "hold:") word)
seeded_or_held word (Some rest) = option_map Seed (number_of rest)

abbrev pub schedule_of : List ℕ → Option ScheduleWord
schedule_of word =
    if bytes_eq word (codes "rr") then Some RoundRobin
    else (if bytes_eq word (codes "given") then Some Given else seeded_or_held word (behind (codes "seed:") word))

-- a word of a schedule that is asked for: `alldone`, `stuck` or `endless`
abbrev pub give_of : List ℕ → Option GiveWord
give_of word =
    if bytes_eq word (codes "alldone") then Some AllDone
    else (if bytes_eq word (codes "stuck") then Some Stuck else (if bytes_eq word (codes "endless") then Some Endless else None))
