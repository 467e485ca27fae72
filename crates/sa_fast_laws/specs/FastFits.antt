-- FastThreads beside a history: how its value and the contexts of its space's activations fit what is read.
use Rattle.std.specs.Prelude.{[], ◌≡◌, ◌≢◌, ℕ, ◌<◌, ◌≤◌, ◌||◌, Bool, false, List, map, reverse, filter, length, Some, None, IsSome, Contains, count_by, ◌⊎◌}
use Rattle.sa_base.specs.declared.number.ActNo.{ActNo}
use Rattle.sa_base.specs.declared.number.ProcNo.{ProcNo}
use Rattle.sa_base.specs.declared.number.SpaceNo.{SpaceNo}
use Rattle.sa_base.specs.declared.number.ThreadNo.{ThreadNo}
use Rattle.sa_base.specs.declared.record.Note.{Note}
use Rattle.sa_base.specs.declared.record.Note.TheVariants.{Preempted, Unblocked}
use Rattle.sa_spaces.specs.Workload.{WorkloadView}
use Rattle.sa_links.specs.Lists.{list_at}
use Rattle.sa_fast.specs.Threads.{block_at}
use Rattle.sa_fast.specs.declared.shared.Shared.{Shared}
use Rattle.sa_fast.specs.declared.threads.Block.{Block}
use Rattle.sa_fast.specs.declared.threads.KeptPlace.{KeptPlace}
use Rattle.sa_fast.specs.declared.threads.KeptPlace.TheVariants as fast
use Rattle.sa_abstract.specs.Calls.{Contexts}
use Rattle.sa_abstract.specs.Setting.{Setting}
use Rattle.sa_package_model.specs.Rules.{load}
use Rattle.sa_package_model.specs.declared.context.Context.{Context}
use Rattle.sa_package_model.specs.declared.context.ContextState.TheVariants.{Work}
use Rattle.sa_package_model.specs.declared.package.Package.{Package}
use Rattle.sa_laws.specs.Life.{Life}
use Rattle.sa_laws.specs.Readings.{Readings, Listed, running_of, untold_of, life_of, ready_of, is_in, load_of}
use Rattle.sa_laws.specs.Record.{same_note}
use Rattle.sa_laws.specs.State.{Thread, SpaceState, space_at, thread_in}
use Rattle.sa_laws.specs.declared.place.Place.{Place}
use Rattle.sa_laws.specs.declared.place.Place.TheVariants as place
use Rattle.sa_fast_laws.specs.Life.{HasLife, IsAtRest, IsBare}
use Rattle.sa_fast_laws.specs.Stage.{stage_of, Runs}
use Rattle.sa_fast_laws.specs.View.{view}

-- THREADS. A thread's place in the history is the one that the package keeps; but of one that a context carries its life
-- tells.
abbrev pub SitsIn : KeptPlace → Place → Type 0
SitsIn fast.Unmade x = Unit {0}
SitsIn fast.Ready x = x ≡ place.Ready
SitsIn fast.Running x = Unit {0}
SitsIn fast.Waiting x = x ≡ place.Waiting
SitsIn fast.Blocked x = Unit {0}
SitsIn fast.Carried x = x ≡ place.Carried
SitsIn fast.Done x = x ≡ place.Done

pub record FitsThread (b : Block) (x : Thread) : Type 0 where
  pub program : x.program ≡ b.program
  pub pc : x.pc ≡ b.pc
  pub regs : x.regs ≡ b.regs
  pub place : SitsIn b.place x.place

pub record FitsShared (u : Shared) (x : SpaceState) : Type 0 where
  pub made : length x.threads ≡ u.state.lists.made
  pub threads : (t : ThreadNo) → t.0 < u.state.lists.made → FitsThread (block_at u.threads t.0) (thread_in x t)
  pub sync : x.sync ≡ u.sync

-- a notice of the stop or the return of activation a
abbrev pub is_of : ActNo → Note → Bool
is_of a n = same_note (Preempted a) n || same_note (Unblocked a) n

-- WHAT HOLDS AT ANY MOMENT, whatever comes within an event: each context is that of a life of the space, and the space's
-- other lives are bare.
pub record Holds (s : SpaceNo) (r : Readings) (u : Package) (cs : Contexts Context) : Type 0 where
  pub space : FitsShared u.shared (space_at r.state s)
  pub load : load_of r s ≡ load u
  pub lives : (a : ActNo) (c : Context) → cs a.0 ≡ Some c
      → (life : Life) × (life_of r a ≡ Some life) × HasLife s u.shared (space_at r.state s) (stage_of r s a life) (view c) life
  pub others : (a : ActNo) (life : Life) → life_of r a ≡ Some life → life.space ≡ s → cs a.0 ≡ None → IsBare life
  -- a notice of a stop or a return that waits is of a life with its context, and the only one of it
  pub noted : (a : ActNo) → Contains (untold_of r s) (Preempted a) ⊎ Contains (untold_of r s) (Unblocked a) → IsSome (cs a.0)
  pub single : (a : ActNo) → count_by (is_of a) (untold_of r s) ≤ 1
  -- a life that runs has its context, and nothing of it is untold
  pub runs : (p : ProcNo) (a : ActNo) (life : Life) → running_of r p ≡ Some a → life_of r a ≡ Some life → life.space ≡ s
      → IsSome (cs a.0) × (life.proc ≡ p) × (stage_of r s a life ≡ Runs)

-- READY LISTS. The package has the newest thread first, and the history the oldest.
abbrev pub number_in : Listed → ℕ
number_in listed = listed.thread.0

abbrev pub numbers_in : List Listed → ProcNo → List ℕ
numbers_in listed l = map number_in (filter (is_in l) listed)

pub record ListsFit (processors : ℕ) (lists : List (List ℕ)) (rank : List ℕ) (listed : List Listed) : Type 0 where
  -- each processor has a list of its own, and all threads have one rank
  pub many : length lists ≡ processors
  pub ranks : rank ≡ []
  pub numbers : (l : ProcNo) → numbers_in listed l ≡ reverse (list_at lists l.0)

abbrev pub FitsLists : Package → List Listed → Type 0
FitsLists u listed = ListsFit u.processors u.shared.state.lists.lists u.shared.state.lists.ranks listed

-- BETWEEN EVENTS
pub record FastFits (s : SpaceNo) (r : Readings) (u : Package) (cs : Contexts Context) : Type 0 where
  pub holds : Holds s r u cs
  pub lists : FitsLists u (ready_of r s)
  pub rest : (a : ActNo) (c : Context) (life : Life) → cs a.0 ≡ Some c → life_of r a ≡ Some life
      → IsAtRest (stage_of r s a life) (view c) life

-- all other lives than that of activation a are as between events
abbrev pub OthersRest : SpaceNo → Readings → ActNo → Contexts Context → Type 0
OthersRest s r a cs = (x : ActNo) (c : Context) (life : Life) → x.0 ≢ a.0 → cs x.0 ≡ Some c → life_of r x ≡ Some life
    → IsAtRest (stage_of r s x life) (view c) life

-- WHILE ACTIVATION n IS TOLD of its upcall: its context is in its upcall, and all others are as between events.
pub record FastHears (s : SpaceNo) (r : Readings) (n : ActNo) (u : Package) (cs : Contexts Context) : Type 0 where
  pub holds : Holds s r u cs
  pub lists : FitsLists u (ready_of r s)
  pub others : OthersRest s r n cs
  pub begins : (c : Context) → cs n.0 ≡ Some c → c.state ≡ Work None
  pub runs : (life : Life) → life_of r n ≡ Some life → (stage_of r s n life ≡ Runs) × (life.freed ≡ false) × (life.scans ≡ 0)

-- as the laws of user levels take them
abbrev pub fast_fits : WorkloadView → Setting → Readings → Package → Contexts Context → Type 0
fast_fits w set r u cs = FastFits set.space r u cs

abbrev pub fast_hears : WorkloadView → Setting → Readings → ActNo → Package → Contexts Context → Type 0
fast_hears w set r n u cs = FastHears set.space r n u cs
