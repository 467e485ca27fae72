-- At each moment of a legal run the fold has read what the words say.
use Rattle.std.specs.Prelude.{◌≡◌, ℕ, ◌<◌, false, List, [], ◌∷◌, map, length, take, if◌then◌else◌, Option, Some, None, slice_get, slice_index_or, Contains}
use Rattle.sa_base.specs.declared.number.ProcNo.{ProcNo}
use Rattle.sa_base.specs.declared.number.SpaceNo.{SpaceNo}
use Rattle.sa_base.specs.declared.number.ActNo.{ActNo}
use Rattle.sa_base.specs.declared.record.Note.{Note}
use Rattle.sa_base.specs.declared.record.Record.{Record}
use Rattle.sa_base.specs.declared.record.Item.{Item}
use Rattle.sa_spaces.specs.Workload.{WorkloadView, IsWorkload}
use Rattle.sa_laws.specs.Event.{Event, items_of, events_of}
use Rattle.sa_laws.specs.Life.{Life}
use Rattle.sa_laws.specs.Readings.{Readings, running_of, line_of, life_of, load_of, untold_of, taken_of, ready_of, is_resident, owner_of, aim_of, demand_of, is_fetching}
use Rattle.sa_laws.specs.History.{is_step, settles, behind_all}
use Rattle.sa_laws.specs.Rules.{UserRules}
use Rattle.sa_laws.specs.Legal.{before}
use Rattle.sa_base.specs.declared.package.PackageName.{PackageName}
use Rattle.sa_promises.specs.Words.{RaisedAt, ios_begun, last_aim, last_want, last_owner, is_fetched, StandsUntold}
use Rattle.sa_promises.specs.Lives.{stand_of, Taken}
use Rattle.sa_promises.specs.Moments.{Home, machine_of, runs_on, last_up, home_of}
use Rattle.sa_promises.specs.Marks.{is_marked}
use Rattle.sa_promises.specs.Loads.{Untold, untold_in, load_in}
use Rattle.sa_promises.specs.Holdings.{locks_of, ready_in, hand_of, has_cont, stopped_of, taken_in}
use Rattle.sa_promises.specs.Pages.{ios_of, is_resident_in}
use Rattle.sa_promises.specs.Steps.{stepping, with_event, settles_by, is_in, scans_of, was_free, was_idle}

-- the readings have one entry for each processor and space of the workload, and say of these items what the words say
pub record Reads (w : WorkloadView) (items : List Item) (r : Readings) : Type 0 where
  pub owners_len : length r.state.owners ≡ w.processors
  pub aims_len : length r.aims ≡ w.processors
  pub demands_len : length r.demands ≡ length w.spaces
  pub untold_len : length r.untold ≡ length w.spaces
  pub owners : (p : ProcNo) → owner_of r p ≡ last_owner items p
  pub aims : (p : ProcNo) → p.0 < w.processors → aim_of r p ≡ last_aim items p
  pub demands : (s : SpaceNo) → s.0 < length w.spaces → demand_of r s ≡ last_want items s
  pub fetching : (s : SpaceNo) → is_fetching r s ≡ is_fetched items s
  pub lines : (p : ProcNo) (e : ℕ) → line_of r p ≡ Some e → RaisedAt items p e
  pub untold : (s : SpaceNo) (n : Note) → s.0 < length w.spaces → StandsUntold items (length items) s n → Contains (untold_of r s) n

-- something holds of the first n events of a trace and of what is read after them, for each n
abbrev pub AreRead : UserRules → (List Event → Readings → Type 0) → WorkloadView → List Item → Type 0
AreRead u C w items = (n : ℕ) → C (take n (events_of items)) (before u w (events_of items) n)

-- Something holds of what is read before each event, and of that event.
abbrev pub AreReadAtEvents : UserRules → (List Item → Readings → Event → Type 0) → WorkloadView → List Item → Type 0
AreReadAtEvents u C w items =
    (n : ℕ) (e : Event) → slice_get (events_of items) n ≡ Some e
    → C (items_of (take n (events_of items))) (before u w (events_of items) n) e

-- the state of the abstract machine, the running lives, the last up
pub record MachineIsRead (w : WorkloadView) (events : List Event) (r : Readings) : Type 0 where
  pub state : r.state ≡ machine_of w (items_of events)
  pub running : (p : ProcNo) → running_of r p ≡ runs_on (items_of events) p
  pub upped : r.upped ≡ last_up (items_of events)

-- the idle marks
abbrev pub MarksAreRead : WorkloadView → List Event → Readings → Type 0
MarksAreRead w events r =
    (p : ProcNo) → p.0 < w.processors → slice_index_or r.marks p.0 false ≡ is_marked (items_of events) p

-- the raised lines, each with its event
abbrev pub LinesAreRead : WorkloadView → List Event → Readings → Type 0
LinesAreRead w events r =
    (p : ProcNo) (event : ℕ) → p.0 < w.processors → RaisedAt (items_of events) p event → line_of r p ≡ Some event

-- what is untold, in order, and the load
abbrev pub noted : Untold → Note
noted untold = untold.note

pub record LoadsAreRead (w : WorkloadView) (events : List Event) (r : Readings) : Type 0 where
  pub untold : (s : SpaceNo) → s.0 < length w.spaces → untold_of r s ≡ map noted (untold_in (items_of events) s)
  pub load : (s : SpaceNo) → s.0 < length w.spaces → load_of r s ≡ load_in w (items_of events) s

-- of each life: its home, its locks, its hand, whether it has an open cont, the thread of its
-- stop or block
abbrev pub home_at : Life → Home
home_at life = record { space = life.space; proc = life.proc }

pub record HasWhatIsSaid (w : WorkloadView) (items : List Item) (a : ActNo) (life : Life) : Type 0 where
  pub home : home_of items a ≡ Some (home_at life)
  pub locks : life.locks ≡ locks_of w items a
  pub hand : life.hand ≡ hand_of w items a
  pub cont : life.cont ≡ has_cont items a
  pub thread : life.thread ≡ stopped_of items a

abbrev pub HoldingsAreRead : WorkloadView → List Event → Readings → Type 0
HoldingsAreRead w events r =
    (a : ActNo) (life : Life) → life_of r a ≡ Some life → HasWhatIsSaid w (items_of events) a life

-- the ready threads, in order, each with its list
abbrev pub ReadyAreRead : WorkloadView → List Event → Readings → Type 0
ReadyAreRead w events r =
    (s : SpaceNo) → s.0 < length w.spaces → ready_of r s ≡ ready_in w (items_of events) s

-- the lives that are taken, in order, and by the last record about their numbers
pub record TakenAreRead (w : WorkloadView) (events : List Event) (r : Readings) : Type 0 where
  pub order : (s : SpaceNo) → s.0 < length w.spaces → taken_of r s ≡ taken_in (items_of events) s
  pub said : (a : ActNo) (home : Home) → home_of (items_of events) a ≡ Some home
      → stand_of (items_of events) a ≡ Taken → Contains (taken_of r home.space) a

-- the I/Os under way, with their numbers, ends and kinds
pub record IosAreRead (w : WorkloadView) (events : List Event) (r : Readings) : Type 0 where
  pub io_count : r.io_count ≡ ios_begun (items_of events)
  pub under_way : IsWorkload w → r.under_way ≡ ios_of w (items_of events)

-- the resident pages
abbrev pub PagesAreRead : WorkloadView → List Event → Readings → Type 0
PagesAreRead w events r =
    (s : SpaceNo) (page : ℕ) → s.0 < length w.spaces → page < 16
    → is_resident r s page ≡ is_resident_in w (items_of events) s page

-- of each life: whether it is in, its scan count, whether its last own event was a free, and whether it was idle at its
-- stop
pub record StepsAsIsSaid (which : PackageName) (w : WorkloadView) (events : List Event) (a : ActNo) (life : Life) : Type 0 where
  pub inside : life.inside ≡ is_in which w events a
  pub scans : life.scans ≡ scans_of events a
  pub freed : life.freed ≡ was_free events a
  pub idle : life.idle ≡ was_idle which w events a

abbrev pub StepsAreRead : PackageName → WorkloadView → List Event → Readings → Type 0
StepsAreRead which w events r = (a : ActNo) (life : Life) → life_of r a ≡ Some life → StepsAsIsSaid which w events a life

-- of these, what does not rest on a user level's test of which lives are in
pub record CountsAsIsSaid (events : List Event) (a : ActNo) (life : Life) : Type 0 where
  pub scans : life.scans ≡ scans_of events a
  pub freed : life.freed ≡ was_free events a

abbrev pub CountsAreRead : List Event → Readings → Type 0
CountsAreRead events r = (a : ActNo) (life : Life) → life_of r a ≡ Some life → CountsAsIsSaid events a life

-- the life of which an event is a step, and whether the event settles it
abbrev pub step_of : Readings → Event → List Record → Option ActNo
step_of r e [] = None
step_of r e (first ∷ others) = if is_step first then running_of r e.proc else None

pub record OwnEventIsRead (w : WorkloadView) (past : List Item) (r : Readings) (e : Event) : Type 0 where
  pub own : step_of r e e.records ≡ stepping past e
  pub settles : (first : Record) (others : List Record) → e.records ≡ first ∷ others
      → settles r (behind_all w e r) first ≡ settles_by w past (with_event past e) first

-- the spaces of lives are those of the workload
abbrev pub LivesHaveSpaces : WorkloadView → List Event → Readings → Type 0
LivesHaveSpaces w events r = (a : ActNo) (life : Life) → life_of r a ≡ Some life → life.space.0 < length w.spaces
