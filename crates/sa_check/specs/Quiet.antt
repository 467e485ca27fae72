-- Events that change nothing of which owners, shares, wants and what is told in time are.
use Rattle.std.specs.Prelude.{◌≡◌, ℕ, ◌+◌, ◌-◌, ◌==◌, nat_lt, Bool, true, false, ◌&&◌, is_none, map, [], IsTrue}
use Rattle.std.specs.List.{list_all}
use Rattle.sa_base.specs.declared.number.SpaceNo.{SpaceNo}
use Rattle.sa_base.specs.declared.record.Record.{Record}
use Rattle.sa_base.specs.declared.record.Record.TheVariants.{Ins, Out, Run, Cont, Back, Ready, Take, Free, Idle, Spin, Tick}
use Rattle.sa_spaces.specs.Workload.{WorkloadView}
use Rattle.sa_laws.specs.Event.{Event}
use Rattle.sa_laws.specs.Readings.{Readings, space_of_life, line_of}
use Rattle.sa_laws.specs.Closing.{first_space, must_want, lines_due}
use Rattle.sa_laws.specs.Upcalls.{IsPrompt}
use Rattle.sa_laws.specs.Shape.{before_aims, before_wants, front_part}
use Rattle.sa_check_moment.specs.Seen.{Seen}
use Rattle.sa_check.specs.Places.{WantsAreDue, AimsAreDue, LinesAreDue, AreCovered, HasShares}
use Rattle.sa_check.specs.Records.{behind_some}

-- a record that changes no demand, no aim, no line, no I/O under way, no owner, nothing untold, and neither which lives
-- run nor their spaces
abbrev pub is_quiet_record : Record → Bool
is_quiet_record (Ins s t i) = true
is_quiet_record (Out s t value) = true
is_quiet_record (Run s t) = true
is_quiet_record (Cont s t) = true
is_quiet_record (Back s t) = true
is_quiet_record (Ready s t) = true
is_quiet_record (Take s l t) = true
is_quiet_record (Free s l t) = true
is_quiet_record Idle = true
is_quiet_record (Spin l) = true
is_quiet_record Tick = true
is_quiet_record _ = false

-- the first space is that of the event before
abbrev pub keeps_first : WorkloadView → ℕ → Bool
keeps_first w n = nat_lt 0 n && first_space w (n - 1) == first_space w n

-- an event of such records on a processor whose line is low
abbrev pub is_quiet : WorkloadView → Readings → Event → Bool
is_quiet w r e = is_none (line_of r e.proc) && (keeps_first w e.number && list_all is_quiet_record e.records)

-- what is so after this event of a trace that is right so far: each processor is owned by the space of its running life,
-- each space has at least its share of aims, none must want, and each is told in time
pub record IsSettled (w : WorkloadView) (n : ℕ) (r : Readings) : Type 0 where
  pub owned : r.state.owners ≡ map (space_of_life r) r.running
  pub covered : AreCovered w n r
  pub wants : (s : SpaceNo) → must_want r s ≡ false
  pub prompt : IsPrompt r

-- all is as it must be after the event before the next one, if there was one
abbrev pub WasSettled : WorkloadView → Readings → Type 0
WasSettled w r = (n : ℕ) → r.number ≡ n + 1 → IsSettled w n r

-- where it is known to be calm, no line is due
abbrev pub IsCalmIf : Bool → WorkloadView → Readings → Type 0
IsCalmIf calm w r = IsTrue calm → lines_due w r ≡ []

-- at an event that begins with this moment, wants, aims and lines are those that are due
pub record NothingIsDue (m : Seen) (e : Event) : Type 0 where
  pub wants : WantsAreDue (behind_some m e (before_wants e.records)) e
  pub aims : AimsAreDue (behind_some m e (before_aims e.records)) e
  pub lines : LinesAreDue (behind_some m e (front_part e.records)) e

-- a quiet event that begins with this moment, after an event that left all as it must be
pub record IsQuietFrom (m : Seen) (e : Event) : Type 0 where
  pub quiet : list_all is_quiet_record e.records ≡ true
  pub none : NothingIsDue m e

-- on the moment after a quiet event of this number: all is as it must be, and no line is due
pub record IsCalm (m : Seen) (number : ℕ) : Type 0 where
  pub settled : IsSettled m.workload number m.readings
  pub calm : lines_due m.workload m.readings ≡ []

-- what is known on the moment after an event of this number that is known to be quiet, or after whose records the shares are covered
pub record IsKnownAfter (quiet covered : Bool) (m : Seen) (number : ℕ) : Type 0 where
  pub calm : IsTrue quiet → IsCalm m number
  pub shares : IsTrue covered → HasShares m number

-- an event that is quiet, where no line was due before it
pub record IsQuietAt (m : Seen) (e : Event) : Type 0 where
  pub quiet : is_quiet m.workload m.readings e ≡ true
  pub calm : lines_due m.workload m.readings ≡ []
