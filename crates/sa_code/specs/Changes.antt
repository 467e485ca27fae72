-- What a micro-operation changes, for who states what lasts over many of them.
use Rattle.std.specs.Prelude.{◌≡◌, ◌≢◌, ℕ, ◌+◌, Bool, if◌then◌else◌, true, false, List, length, replicate, Option, Some, None, slice_index_or}
use Rattle.sa_base.specs.declared.number.SpaceNo.{SpaceNo}
use Rattle.sa_base.specs.declared.number.ThreadNo.{ThreadNo}
use Rattle.sa_base.specs.declared.limits.TheConstants.{MAX_PROCESSORS}
use Rattle.sa_lists.specs.declared.ranks.Ranks.{Ranks}
use Rattle.sa_lists.specs.ReadyView.{no_threads, list_of, is_locked, IsReady}
use Rattle.sa_code.specs.declared.code.Op.{Op}
use Rattle.sa_code.specs.declared.code.Op.TheVariants.{TakePush, Push, TakePop, Pop, Free, Leave, Yield}
use Rattle.sa_code.specs.declared.state.PackageState.{PackageState}
use Rattle.sa_code.specs.declared.state.Frame.{Frame}
use Rattle.sa_code.specs.declared.state.MicroDone.{MicroDone}
use Rattle.sa_code.specs.declared.state.MicroDone.TheVariants.{Did, Spun, Faulted, Left, Yielded}
use Rattle.sa_code.specs.Micro.{Micro}

-- the thread of the lock of list l, where it has one
abbrev pub holder_of : PackageState → ℕ → Option ThreadNo
holder_of s l = slice_index_or s.holders l None

-- list l has these threads, its lock is held or not, and this is the lock's thread
pub record IsList (s : PackageState) (l : ℕ) (xs : List ℕ) (held : Bool) (t : Option ThreadNo) : Type 0 where
  pub threads : list_of s.lists l ≡ xs
  pub lock : is_locked s.lists l ≡ held
  pub holder : holder_of s l ≡ t

-- no list but l changes, nor what is no list
pub record ChangesOnly (l : ℕ) (old new : PackageState) : Type 0 where
  pub others : (m : ℕ) → m ≢ l → IsList new m (list_of old.lists m) (is_locked old.lists m) (holder_of old m)
  pub lists : length new.lists.lists ≡ length old.lists.lists
  pub locks : length new.lists.locked ≡ length old.lists.locked
  pub holders : length new.holders ≡ length old.holders
  pub made : new.lists.made ≡ old.lists.made
  pub most : new.lists.threads ≡ old.lists.threads
  pub space : new.space ≡ old.space
  pub code : new.code ≡ old.code

-- what holds of all package states, and a micro-operation keeps
pub record IsPackage (s : PackageState) : Type 0 where
  pub ready : IsReady s.lists
  -- there is a holder for each list, and none where its lock is free
  pub holders : length s.holders ≡ MAX_PROCESSORS
  pub free : (l : ℕ) → is_locked s.lists l ≡ false → holder_of s l ≡ None

-- no thread was made, no list is locked
abbrev pub opening_package : SpaceNo → List Op → ℕ → Ranks → ℕ → PackageState
opening_package space code lists ranks threads = record {
  space = space;
  lists = no_threads lists ranks threads;
  holders = replicate MAX_PROCESSORS None;
  code = code;
}

-- the frame keeps its list, and goes on to the next place or stays
pub record MovesOn (old new : Frame) (on : Bool) : Type 0 where
  pub list : new.list ≡ old.list
  pub own : new.own ≡ old.own
  pub pc : new.pc ≡ (if on then old.pc + 1 else old.pc)

-- state and frame are as before
pub record IsStill (s : PackageState) (f : Frame) (m : Micro) : Type 0 where
  pub state : m.state ≡ s
  pub frame : m.frame ≡ f

-- the answer of an operation, where the lock of its list is held or not, and the code's page resident or not
abbrev pub answer_of : Option Op → Bool → Bool → MicroDone
answer_of (Some TakePush) true resident = Spun
answer_of (Some TakePush) false resident = Did
answer_of (Some Push) held true = Did
answer_of (Some Push) held false = Faulted
answer_of (Some TakePop) true resident = Spun
answer_of (Some TakePop) false resident = Did
answer_of (Some Pop) held true = Did
answer_of (Some Pop) held false = Faulted
answer_of (Some Free) held resident = Did
answer_of (Some Leave) held resident = Left
answer_of (Some Yield) held resident = Yielded
answer_of None held resident = Left

-- the operation was done
abbrev pub is_did : MicroDone → Bool
is_did Did = true
is_did _ = false

-- an operation of a critical section: it is done under the list's lock
abbrev pub in_section : Option Op → Bool
in_section (Some Push) = true
in_section (Some Pop) = true
in_section (Some Free) = true
in_section _ = false
