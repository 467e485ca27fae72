-- Which threads and work lists are in no context's hand, and what always holds of what the contexts share.
use Rattle.std.specs.Prelude.{◌≡◌, ℕ, ◌+◌, ◌<◌, ◌≤◌, ◌==◌, nat_lt, Bool, true, false, if◌then◌else◌, List, [], ◌∷◌, length, Option, Some, None}
use Rattle.sa_base.specs.declared.number.ThreadNo.{ThreadNo}
use Rattle.sa_base.specs.declared.limits.TheConstants.{MAX_THREADS}
use Rattle.sa_instr.specs.declared.limits.TheConstants.{MAX_START}
use Rattle.sa_spaces.specs.Space.{SpaceView}
use Rattle.sa_links.specs.Lists.{list_at, count_in_all}
use Rattle.sa_lists.specs.ReadyView.{ReadyView, AreListsFor}
use Rattle.sa_sync.specs.Sync.{Sync, semaphore_at, waits_of, is_done}
use Rattle.sa_code.specs.Changes.{IsPackage}
use Rattle.sa_fast.specs.declared.shared.Shared.{Shared}
use Rattle.sa_fast.specs.declared.threads.KeptPlace.{KeptPlace}
use Rattle.sa_fast.specs.declared.threads.KeptPlace.TheVariants.{Unmade, Ready, Running, Waiting, Blocked}
use Rattle.sa_fast.specs.Threads.{block_at, is_done as is_done_place}
use Rattle.sa_fast.specs.Work.{AreNamed}
use Rattle.sa_fast.specs.Instruction.{IsAt}

-- 1 where the two numbers are one, else 0; for a thread, where there is one
abbrev pub one_if : ℕ → ℕ → ℕ
one_if n t = if n == t then 1 else 0

abbrev pub one_of : Option ThreadNo → ℕ → ℕ
one_of None t = 0
one_of (Some n) t = one_if n.0 t

-- at rest are the threads that are ready, wait, are done, or were not made
abbrev pub done_at : Sync → ℕ → ℕ
done_at s t = if is_done s t then 1 else 0

abbrev pub unmade_at : ReadyView → ℕ → ℕ
unmade_at r t = if nat_lt t r.made then 0 else 1

abbrev pub threads_at_rest : Shared → ℕ → ℕ
threads_at_rest x t = count_in_all t x.state.lists.lists + waits_of x.sync t + done_at x.sync t + unmade_at x.state.lists t

-- and the work lists that are empty
abbrev pub one_if_empty : List ℕ → ℕ
one_if_empty [] = 1
one_if_empty (t ∷ ts) = 0

abbrev pub empty_at : List (List ℕ) → ℕ → ℕ
empty_at works l = one_if_empty (list_at works l)

-- PLACES: a thread's place is Ready exactly where it is in a list, Done exactly at its end, Unmade exactly before it
-- was made, and Waiting wherever it is in a queue
abbrev pub one_where : Bool → ℕ
one_where b = if b then 1 else 0

abbrev pub is_ready : KeptPlace → Bool
is_ready Ready = true
is_ready _ = false

abbrev pub is_waiting : KeptPlace → Bool
is_waiting Waiting = true
is_waiting _ = false

abbrev pub is_unmade : KeptPlace → Bool
is_unmade Unmade = true
is_unmade _ = false

pub record AgreesBy (listed waits done unmade : ℕ) (place : KeptPlace) : Type 0 where
  pub ready : listed ≡ one_where (is_ready place)
  pub waiting : waits ≤ one_where (is_waiting place)
  pub ends : done ≡ one_where (is_done_place place)
  pub new : unmade ≡ one_where (is_unmade place)

abbrev pub place_at : Shared → ℕ → KeptPlace
place_at x t = (block_at x.threads t).place

abbrev pub AgreesAt : Shared → ℕ → Type 0
AgreesAt x t =
    AgreesBy (count_in_all t x.state.lists.lists) (waits_of x.sync t) (done_at x.sync t) (unmade_at x.state.lists t) (place_at x t)

-- a thread that no context carries is at neither of the places Running and Blocked
abbrev pub is_carried : KeptPlace → Bool
is_carried Running = true
is_carried Blocked = true
is_carried _ = false

abbrev pub not_carried : Shared → ℕ → ℕ
not_carried x t = if is_carried (place_at x t) then 0 else 1

-- there is what the space declares
pub record FitsSpace (def : SpaceView) (s : Sync) : Type 0 where
  pub mutexes : length s.mutexes ≡ def.mutexes
  pub semaphores : length s.semaphores ≡ length def.sems
  pub cells : length s.cells ≡ def.cells
  pub joiners : length s.joiners ≡ MAX_THREADS
  pub done : length s.done ≡ MAX_THREADS

-- a work list is named by its first thread, and a thread is in one at most
pub record AreWorks (works : List (List ℕ)) : Type 0 where
  pub named : AreNamed (record { nodes = MAX_THREADS; lists = works })
  pub below : (t : ℕ) → 1 ≤ count_in_all t works → t < MAX_THREADS
  pub once : (t : ℕ) → count_in_all t works ≤ 1

-- the parts of what the contexts of a space share, each whatever the others are, up to an event
pub record ArePartsFor (def : SpaceView) (processors event : ℕ) (x : Shared) : Type 0 where
  pub state : IsPackage x.state
  pub lists : AreListsFor processors (length x.state.lists.lists)
  pub threads : x.state.lists.threads ≡ MAX_THREADS
  pub blocks : length x.threads ≡ MAX_THREADS
  pub sync : FitsSpace def x.sync
  pub works : AreWorks x.works
  -- an event adds one to a semaphore at most
  pub counts : (k : ℕ) → (semaphore_at x.sync k).count ≤ MAX_START + event
  -- each thread that was made stands within its program
  pub at : (t : ℕ) → t < x.state.lists.made → IsAt def (block_at x.threads t)
