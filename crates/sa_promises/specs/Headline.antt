-- What a legal run promises its reader, said of the records of the flat trace alone.
use Rattle.std.specs.Prelude.{nat_le, [], ◌∷◌, ◌≡◌, ◌≢◌, ℕ, ◌≤◌, ◌<◌, ◌⊎◌, true, min, if◌then◌else◌, List, length, map, take, Option, Some, slice_get}
use Rattle.std.specs.List.{range_with_len}
use Rattle.sa_base.specs.declared.number.ProcNo.{ProcNo}
use Rattle.sa_base.specs.declared.number.SpaceNo.{SpaceNo}
use Rattle.sa_base.specs.declared.number.ThreadNo.{ThreadNo}
use Rattle.sa_base.specs.declared.number.ActNo.{ActNo}
use Rattle.sa_base.specs.declared.number.IoNo.{IoNo}
use Rattle.sa_base.specs.declared.record.Note.{Note}
use Rattle.sa_base.specs.declared.record.Note.TheVariants.{Add}
use Rattle.sa_base.specs.declared.record.Record.{Record}
use Rattle.sa_base.specs.declared.record.Record.TheVariants.{Block, Run, Ready, Take, Free, Up, Told, GiveBack}
use Rattle.sa_base.specs.declared.record.Item.{Item}
use Rattle.sa_spaces.specs.Workload.{WorkloadView}
use Rattle.sa_share.specs.declared.Claim.{Claim}
use Rattle.sa_share.specs.Share.{IsShare, share_at}
use Rattle.sa_assign.specs.Aims.{aimed}
use Rattle.sa_assign.specs.Reaim.{proc_no}
use Rattle.sa_laws.specs.State.{space_def}
use Rattle.sa_laws.specs.Closing.{first_space, spaces_of}
use Rattle.sa_promises.specs.Words.{last_aim, last_want, last_owner, is_fetched, ios_begun, IsRaised, StandsUntold}

-- a record stands at a place
pub record Stands (items : List Item) (k : ℕ) (r : Record) : Type 0 where
  pub item : Item
  pub at : slice_get items k ≡ Some item
  pub what : item.what ≡ r

-- the items up to the end of an event: those before the first of a later one
abbrev pub up_to : ℕ → List Item → List Item
up_to e [] = []
up_to e (x ∷ xs) = if nat_le x.event e then x ∷ up_to e xs else []

-- Each told record but `told add` tells a stop, block or unblock that comes before it and that no record between
-- tells: so no two tell the same.
abbrev pub TellsAtMostOnce : List Item → Type 0
TellsAtMostOnce items =
    (j : ℕ) (n : Note) → Stands items j (Told n) → ((p : ProcNo) → n ≢ Add p)
    → (s : SpaceNo) × StandsUntold items j s n

-- After each event, a space with an untold stop, block or unblock has no processor, or its upcall page is being
-- fetched, or it owns a processor whose line is raised.
abbrev pub HasNoProcessor : List Item → SpaceNo → Type 0
HasNoProcessor past s = (p : ProcNo) → last_owner past p ≢ Some s

abbrev pub HasRaised : List Item → SpaceNo → Type 0
HasRaised past s = (p : ProcNo) × (last_owner past p ≡ Some s) × IsRaised past p

abbrev pub IsTimely : List Item → SpaceNo → Type 0
IsTimely past s = HasNoProcessor past s ⊎ ((is_fetched past s ≡ true) ⊎ HasRaised past s)

-- what holds at the end of each event of the trace
abbrev pub AtEachEnd : (List Item → ℕ → Type 0) → List Item → Type 0
AtEachEnd E items = (j : ℕ) (x : Item) → slice_get items j ≡ Some x → E (up_to x.event items) x.event

abbrev pub IsInTime : WorkloadView → List Item → ℕ → Type 0
IsInTime w past event =
    (s : SpaceNo) (n : Note) → s.0 < length w.spaces → StandsUntold past (length past) s n → IsTimely past s

abbrev pub TellsInTime : WorkloadView → List Item → Type 0
TellsInTime w items = AtEachEnd (IsInTime w) items

-- The number of each upcall is in use by nobody: between two ups of one number comes its giveback.
abbrev pub IsGivenBack : List Item → ℕ → ℕ → ActNo → Type 0
IsGivenBack items i j a = (k : ℕ) × (i < k) × (k < j) × Stands items k (GiveBack a)

abbrev pub NumbersAreFresh : List Item → Type 0
NumbersAreFresh items =
    (i j : ℕ) (s t : SpaceNo) (a : ActNo) → i < j → Stands items i (Up s a) → Stands items j (Up t a)
    → IsGivenBack items i j a

-- After each event each space has at least its share of aims. What it claims is its demand, and while its upcall page
-- is fetched no more than it has aims.
abbrev pub procs_of : WorkloadView → List ProcNo
procs_of w = map proc_no (range_with_len 0 w.processors)

abbrev pub aims_of : WorkloadView → List Item → SpaceNo → ℕ
aims_of w past s = aimed s.0 (map (last_aim past) (procs_of w))

abbrev pub claim_in : WorkloadView → List Item → SpaceNo → Claim
claim_in w past s = record {
  priority = (space_def w s).priority;
  want = if is_fetched past s then min (last_want past s) (aims_of w past s) else last_want past s;
}

abbrev pub CoversShares : WorkloadView → List Item → ℕ → Type 0
CoversShares w past event =
    (shares : List ℕ) (s : SpaceNo)
    → IsShare w.processors (first_space w event) (map (claim_in w past) (spaces_of w)) shares
    → share_at shares s.0 ≤ aims_of w past s

abbrev pub KeepsSharesCovered : WorkloadView → List Item → Type 0
KeepsSharesCovered w items = AtEachEnd (CoversShares w) items

-- A thread holds a list lock from a take that names it, or from its run, until a free that names it. No ready names a
-- thread that holds one.
abbrev pub Begins : SpaceNo → ThreadNo → Record → Type 0
Begins s t (Take of l u) = (of ≡ s) × (u ≡ Some t)
Begins s t (Run of u) = (of ≡ s) × (u ≡ t)
Begins s t _ = ⊥

abbrev pub Frees : SpaceNo → ThreadNo → Record → Type 0
Frees s t (Free of l u) = (of ≡ s) × (u ≡ Some t)
Frees s t _ = ⊥

pub record HoldsListLock (items : List Item) (j : ℕ) (s : SpaceNo) (t : ThreadNo) : Type 0 where
  pub place : ℕ
  pub before : place < j
  pub item : Item
  pub at : slice_get items place ≡ Some item
  pub begins : Begins s t item.what
  pub kept : (k : ℕ) (x : Item) → place < k → k < j → slice_get items k ≡ Some x → Frees s t x.what → ⊥

abbrev pub NoHolderIsReady : List Item → Type 0
NoHolderIsReady items =
    (j : ℕ) (s : SpaceNo) (t : ThreadNo) → Stands items j (Ready s t) → HoldsListLock items j s t → ⊥

-- A block names the number of its I/O: how many block and fetch records come before it.
abbrev pub BlocksNameTheirIo : List Item → Type 0
BlocksNameTheirIo items =
    (j : ℕ) (s : SpaceNo) (t : Option ThreadNo) (a : ActNo) (io : IoNo) → Stands items j (Block s t a io)
    → io.0 ≡ ios_begun (take j items)
