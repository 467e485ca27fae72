-- What is found before an event and after it.
use Rattle.std.specs.Prelude.{◌≡◌, ◌↔◌, ℕ, false, List, [], ◌∷◌, map, IsTrue, Option, Some, None}
use Rattle.sa_base.specs.declared.number.SpaceNo.{SpaceNo}
use Rattle.sa_laws.specs.Event.{Event}
use Rattle.sa_laws.specs.Readings.{Readings, space_of_life}
use Rattle.sa_laws.specs.Closing.{must_want}
use Rattle.sa_laws.specs.Upcalls.{OwnLines, IsPrompt, InterruptIsNext, FirstLineIsAsked}
use Rattle.sa_laws.specs.Shape.{aims_in, last_lines}
use Rattle.sa_spaces.specs.Workload.{WorkloadView}
use Rattle.sa_base.specs.declared.number.ProcNo.{ProcNo}
use Rattle.sa_base.specs.declared.record.Record.{Record}
use Rattle.sa_laws.specs.Turns.{TurnsAreTaken}
use Rattle.sa_laws.specs.Ends.{LastLine, EndIsTold}
use Rattle.sa_ranks.specs.Packages.{rules_named}
use Rattle.sa_check_moment.specs.Seen.{Seen}
use Rattle.sa_check.specs.declared.begin.Beginning.{Beginning}
use Rattle.sa_check.specs.declared.end.LastTold.{LastTold}
use Rattle.sa_check.specs.declared.end.Ending.{Ending}
use Rattle.sa_check.specs.Places.{HasShares}
use Rattle.sa_check.specs.Quiet.{IsCalmIf}

-- no line is asked for that is not, and no aim comes after the first of the last lines
pub record LinesAreInPlace (Asked : OwnLines) (w : WorkloadView) (r : Readings) (p : ProcNo) (records : List Record) : Type 0 where
  pub first : FirstLineIsAsked Asked w r p records
  pub order : aims_in (last_lines records) ≡ []

-- on the moment before the event
pub record IsBeginning (m : Seen) (e : Event) (found : Beginning) : Type 0 where
  pub demand_announced : IsTrue found.demand_announced ↔ (rules_named m.rules).Demand m.workload m.readings e
  pub order_kept : IsTrue found.order_kept ↔ (rules_named m.rules).Order m.workload m.readings e
  pub interrupt_next : IsTrue found.interrupt_next ↔ InterruptIsNext m.workload m.readings e
  pub turns_taken : IsTrue found.turns_taken ↔ TurnsAreTaken (rules_named m.rules).Steps m.workload m.readings e
  pub locks_kept : IsTrue found.locks_kept ↔ (rules_named m.rules).Locks m.workload m.readings e
  pub lines : IsTrue found.lines ↔ LinesAreInPlace (rules_named m.rules).Lines m.workload m.readings e.proc e.records

-- what the last line tells, and if one is given
abbrev pub told_line : LastTold → LastLine
told_line told = record { end = told.end; events = told.events }

abbrev pub line_told : Option LastTold → Option LastLine
line_told None = None
line_told (Some told) = Some (told_line told)

-- the last line belongs to an event after which there are no others
abbrev pub line_before : List Event → LastLine → Option LastLine
line_before [] line = Some line
line_before (e ∷ es) line = None

-- on the moment after an event of this number
pub record IsEnding (m : Seen) (number : ℕ) (last : Option LastLine) (found : Ending) : Type 0 where
  pub told_in_time : IsTrue found.told_in_time ↔ IsPrompt m.readings
  pub owned : IsTrue found.owned ↔ (m.readings.state.owners ≡ map (space_of_life m.readings) m.readings.running)
  pub wants : IsTrue found.wants ↔ ((s : SpaceNo) → must_want m.readings s ≡ false)
  pub shares : IsTrue found.shares ↔ HasShares m number
  pub end_told : IsTrue found.end_told ↔ EndIsTold m.readings number last
  pub calm : IsCalmIf found.calm m.workload m.readings
