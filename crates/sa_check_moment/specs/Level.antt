-- What is kept for a user level's rules, and what a record changes there.
use Rattle.std.specs.Prelude.{◌≡◌, ℕ, List, Option}
use Rattle.std.specs.Option.{option_map, option_and_then}
use Rattle.sa_base.specs.declared.number.ThreadNo.{ThreadNo}
use Rattle.sa_base.specs.declared.record.Record.{Record}
use Rattle.sa_laws.specs.State.{State, SpaceState}
use Rattle.sa_laws.specs.Readings.{Listed}
use Rattle.sa_ranks.specs.Locks.{greatest_of}
use Rattle.sa_check_moment.specs.Ranked.{row_stack, newest, IsBest}
use Rattle.sa_check_moment.specs.Ranking.{AreRanked, ReadsRanked}
use Rattle.sa_base.specs.declared.package.RulesName.{RulesName}
use Rattle.sa_base.specs.declared.package.RulesName.TheVariants as rules
use Rattle.sa_check_moment.specs.declared.level.Level.{Level}
use Rattle.sa_check_moment.specs.declared.level.Level.TheVariants.{FastThreads, Any, Priorities}

abbrev pub rules_in : Level → RulesName
rules_in FastThreads = rules.FastThreads
rules_in Any = rules.Any
rules_in (Priorities v) = rules.Priorities

-- it is what the rules need of a state and of the ready threads
abbrev pub IsKeptFor : Level → State → List (List Listed) → Type 0
IsKeptFor FastThreads a ready = Unit {0}
IsKeptFor Any a ready = Unit {0}
IsKeptFor (Priorities v) a ready = AreRanked a ready v

-- after a record, on the state before it
abbrev pub ReadsLevel : State → Record → Level → Level → Type 0
ReadsLevel a x FastThreads new = new ≡ FastThreads
ReadsLevel a x Any new = new ≡ Any
ReadsLevel a x (Priorities old) (Priorities new) = ReadsRanked a x old new
ReadsLevel a x (Priorities old) _ = ⊥

-- the newest of the ready threads of the greatest rank
abbrev pub IsNext : List (List ThreadNo) → Option ThreadNo → Type 0
IsNext row next = (o : Option ℕ) × IsBest row o × (next ≡ option_and_then (λ rank. newest (row_stack row rank)) o)

abbrev pub next_of : SpaceState → List Listed → Option ThreadNo
next_of x listed = option_map (λ (l : Listed). l.thread) (greatest_of x listed)
