-- What is found while the records of an event are read.
use Rattle.std.specs.Prelude.{◌≡◌, ◌↔◌, false, List, IsTrue, Option, Some, None}
use Rattle.sa_base.specs.declared.number.ProcNo.{ProcNo}
use Rattle.sa_base.specs.declared.number.ActNo.{ActNo}
use Rattle.sa_base.specs.declared.record.Record.{Record}
use Rattle.sa_laws.specs.Event.{Event}
use Rattle.sa_laws.specs.Readings.{Readings}
use Rattle.sa_laws.specs.History.{after_records}
use Rattle.sa_laws.specs.Shape.{before_aims, before_wants, front_part, own_part}
use Rattle.sa_laws.specs.Step.{AreSteps}
use Rattle.sa_laws.specs.Upcalls.{RecordLaw, EachRecord, TellsOnce, NamesTheLife, TellsAllThen, GivesUpcallThen, RaisesLine}
use Rattle.sa_check_moment.specs.Seen.{Seen, seen}
use Rattle.sa_check_moment.specs.Urged.{asks_last}
use Rattle.sa_check.specs.declared.places.DueFound.{DueFound}
use Rattle.sa_check.specs.declared.records.RecordsFound.{RecordsFound}
use Rattle.sa_check.specs.declared.records.ReadThrough.{ReadThrough}
use Rattle.sa_check.specs.Places.{WantsAreDue, AimsAreDue, LinesAreDue, HasShares, urged_at}

-- one record more
pub record FoundMore (r : Readings) (p : ProcNo) (what : Record) (rest : List Record) (before now : RecordsFound) : Type 0 where
  pub told_once : IsTrue now.told_once ↔ (IsTrue before.told_once × TellsOnce r what rest)
  pub named : IsTrue now.named ↔ (IsTrue before.named × NamesTheLife p r what rest)
  pub all_told : IsTrue now.all_told ↔ (IsTrue before.all_told × TellsAllThen p r what rest)
  pub upcall_given : IsTrue now.upcall_given ↔ (IsTrue before.upcall_given × GivesUpcallThen p r what rest)
  pub heard : IsTrue now.heard ↔ (IsTrue before.heard × RaisesLine r what rest)

-- a law of records holds of each, from the moment as the event begins
abbrev pub Each : RecordLaw → Seen → Event → Type 0
Each L m e = EachRecord L m.workload e.number e.proc m.readings e.records

pub record IsFoundOf (m : Seen) (e : Event) (found : RecordsFound) : Type 0 where
  pub told_once : IsTrue found.told_once ↔ Each TellsOnce m e
  pub named : IsTrue found.named ↔ Each (NamesTheLife e.proc) m e
  pub all_told : IsTrue found.all_told ↔ Each (TellsAllThen e.proc) m e
  pub upcall_given : IsTrue found.upcall_given ↔ Each (GivesUpcallThen e.proc) m e
  pub heard : IsTrue found.heard ↔ Each RaisesLine m e

-- the moment after some records of the event
abbrev pub behind_some : Seen → Event → List Record → Seen
behind_some m e records = record m { readings = after_records m.workload e.number e.proc m.readings records }

-- what is due at the places, and whether a pair existed behind the event's own part, where pairs are asked for there
pub record IsDueFound (m : Seen) (e : Event) (running : Option ActNo) (found : DueFound) : Type 0 where
  pub wants : IsTrue found.wants ↔ WantsAreDue (behind_some m e (before_wants e.records)) e
  pub aims : IsTrue found.aims ↔ AimsAreDue (behind_some m e (before_aims e.records)) e
  pub covered : IsTrue found.covered → HasShares (behind_some m e e.records) e.number
  pub lines : IsTrue found.lines ↔ LinesAreDue (behind_some m e (front_part e.records)) e
  pub urged : asks_last e.records ≡ false → (IsTrue found.urged ↔ IsTrue (urged_at (behind_some m e (own_part e.records)) running))

-- the records are steps of the abstract machine, and all is found of them; or they are not all steps
pub record IsReadThrough (m : Seen) (e : Event) (running : Option ActNo) (through : ReadThrough) : Type 0 where
  pub steps : AreSteps m.workload e.number e.proc m.readings e.records
  pub moment : seen through.moment ≡ behind_some m e e.records
  pub laws : IsFoundOf m e through.laws
  pub due : IsDueFound m e running through.due

abbrev pub ReadsRecords : Seen → Event → Option ActNo → Option ReadThrough → Type 0
ReadsRecords m e running None = AreSteps m.workload e.number e.proc m.readings e.records → ⊥
ReadsRecords m e running (Some through) = IsReadThrough m e running through
