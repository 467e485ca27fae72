-- What is due at the places of an event.
use Rattle.std.specs.Prelude.{◌≡◌, ◌≢◌, ◌↔◌, ℕ, ◌≤◌, Bool, IsTrue, Option}
use Rattle.sa_base.specs.declared.number.ActNo.{ActNo}
use Rattle.sa_share.specs.Share.{share_at}
use Rattle.sa_assign.specs.Aims.{aimed}
use Rattle.sa_spaces.specs.Workload.{WorkloadView}
use Rattle.sa_laws.specs.Event.{Event}
use Rattle.sa_laws.specs.Readings.{Readings, life_if}
use Rattle.sa_laws.specs.Closing.{wants_due, aims_due, lines_due, shares_at}
use Rattle.sa_laws.specs.Shape.{others_of, wants_in, lines_in, aims_in, last_lines}
use Rattle.sa_check_moment.specs.Seen.{Seen}
use Rattle.sa_check_moment.specs.Urged.{urged_by}
use Rattle.sa_check.specs.declared.places.Places.{Places}
use Rattle.sa_check.specs.declared.places.DueFound.{DueFound}

-- the wants, aims and lines of an event are those that are due at a moment
pub record WantsAreDue (m : Seen) (e : Event) : Type 0 where
  pub due : wants_in (others_of e.records) ≡ wants_due m.workload m.readings

pub record AimsAreDue (m : Seen) (e : Event) : Type 0 where
  pub due : aims_in e.records ≡ aims_due m.workload e.number m.readings

pub record LinesAreDue (m : Seen) (e : Event) : Type 0 where
  pub due : lines_in (last_lines e.records) ≡ lines_due m.workload m.readings

-- each space has its share of aims, by what is read and at a moment of an event of this number
abbrev pub AreCovered : WorkloadView → ℕ → Readings → Type 0
AreCovered w n r = (s : ℕ) → share_at (shares_at w n r) s ≤ aimed s r.aims

abbrev pub HasShares : Seen → ℕ → Type 0
HasShares m n = AreCovered m.workload n m.readings

-- by rules of ranks: the life of this number is in use, and a pair of its space exists
abbrev pub urged_at : Seen → Option ActNo → Bool
urged_at m a = urged_by m.rules m.workload m.readings (life_if m.readings a)

-- at its place something is found; elsewhere what was found stays
pub record FoundAt (due place : ℕ) (P : Type 0) (before now : Bool) : Type 0 where
  pub here : place ≡ due → (IsTrue now ↔ P)
  pub other : place ≢ due → now ≡ before

pub record DueMore (m : Seen) (e : Event) (running : Option ActNo) (places : Places) (place : ℕ) (before now : DueFound) : Type 0 where
  pub wants : FoundAt places.wants place (WantsAreDue m e) before.wants now.wants
  pub aims : FoundAt places.aims place (AimsAreDue m e) before.aims now.aims
  pub covered : IsTrue now.covered → HasShares m e.number
  pub lines : FoundAt places.lines place (LinesAreDue m e) before.lines now.lines
  pub urged : FoundAt places.own place (IsTrue (urged_at m running)) before.urged now.urged
