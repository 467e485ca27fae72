-- A life beside its context: its locks, its cont, its hand and its thread are those of the context.
use Rattle.std.specs.Prelude.{◌≡◌, ℕ, ◌≤◌, ◌+◌, ◌||◌, min, Bool, true, false, nat_le, List, [], ◌∷◌, map, Option, Some, None, slice_get}
use Rattle.sa_base.specs.declared.number.SpaceNo.{SpaceNo}
use Rattle.sa_base.specs.declared.number.ThreadNo.{ThreadNo}
use Rattle.sa_instr.specs.declared.limits.TheConstants.{MAX_PATIENCE}
use Rattle.sa_links.specs.Lists.{count_in}
use Rattle.sa_code.specs.Micro.{list_in}
use Rattle.sa_code.specs.declared.code.Op.{Op}
use Rattle.sa_code.specs.declared.code.Op.TheVariants.{Free}
use Rattle.sa_code.specs.declared.state.Frame.{Frame}
use Rattle.sa_copies.specs.Copies.{package_ops, section_at}
use Rattle.sa_fast.specs.Rest.{one_of, place_at}
use Rattle.sa_fast.specs.Work.{work_of}
use Rattle.sa_fast.specs.declared.shared.Shared.{Shared}
use Rattle.sa_fast.specs.declared.threads.KeptPlace.TheVariants.{Carried}
use Rattle.sa_package_model.specs.Hands.{threads_in}
use Rattle.sa_laws.specs.Life.{Life, Lock}
use Rattle.sa_laws.specs.Locks.{back_is_due}
use Rattle.sa_laws.specs.State.{SpaceState, thread_in}
use Rattle.sa_fast_laws.specs.Stage.{Stage, is_gone, is_running, place_of, kept_of, was_idle}
use Rattle.sa_fast_laws.specs.View.{View, has_left, is_idle}

-- LOCKS. A section of a push is 0, of a pop 1; its lock was used where it is before its free.
abbrev pub is_first : Option ℕ → Bool
is_first (Some n) = nat_le n 0
is_first None = false

abbrev pub is_free_op : Option Op → Bool
is_free_op (Some Free) = true
is_free_op _ = false

abbrev pub lock_of : Bool → Frame → Lock
lock_of inherited f = record {
  list = list_in f;
  thread = f.thread;
  for_push = is_first (section_at f.pc);
  used = is_free_op (slice_get package_ops f.pc);
  own = f.own;
  inherited = inherited;
}

-- The section of the context has the first lock, which was inherited where it is continued in its copy; the
-- locks of the sections to continue were.
abbrev pub locks_from : Bool → Option Frame → List Frame → List Lock
locks_from copies None fs = map (lock_of true) fs
locks_from copies (Some f) fs = lock_of copies f ∷ map (lock_of true) fs

abbrev pub locks_had : View → List Lock
locks_had v = locks_from v.copies v.section v.sections

-- HANDS. Beside the thread that it carries a context has the one that its own section pushes, those of its sections to
-- continue, and those of its work list.
abbrev pub pushed_in : Option Frame → ℕ → ℕ
pushed_in None t = 0
pushed_in (Some f) t = one_of f.pushed t

abbrev pub beside : List (List ℕ) → View → ℕ → ℕ
beside works v t = pushed_in v.section t + threads_in v.sections t + count_in t (work_of works v.work)

abbrev pub carried : View → ℕ → ℕ
carried v t = one_of v.carried t

abbrev pub count_if : Bool → ℕ → ℕ
count_if true n = n
count_if false n = 0

-- the threads of sections to continue, without those that they push
abbrev pub stopped_in : List Frame → ℕ → ℕ
stopped_in [] t = 0
stopped_in (f ∷ fs) t = one_of f.thread t + stopped_in fs t

-- how often a thread is in a hand
abbrev pub number_of : ThreadNo → ℕ
number_of t = t.0

abbrev pub held : List ThreadNo → ℕ → ℕ
held hand t = count_in t (map number_of hand)

-- In the hand is each thread that the context has beside its own, and its own once the life is gone. A thread that was
-- stopped in a section and is continued in its copy may be in it too, but does not count.
pub record HasHand (works : List (List ℕ)) (v : View) (gone : Bool) (hand : List ThreadNo) : Type 0 where
  pub all : (t : ℕ) → 1 ≤ beside works v t → 1 ≤ held hand t
  pub own : gone ≡ true → (t : ℕ) → 1 ≤ carried v t → 1 ≤ held hand t
  pub only : (t : ℕ) → 1 ≤ held hand t → 1 ≤ beside works v t + count_if (gone || v.copies) (carried v t)

-- THE LIFE of a context of space s, whatever comes within an event; x is the space in the history, and u in the package.
pub record HasLife (s : SpaceNo) (u : Shared) (x : SpaceState) (stage : Stage) (v : View) (life : Life) : Type 0 where
  pub space : life.space ≡ s
  pub locks : life.locks ≡ locks_had v
  pub cont : life.cont ≡ v.copies
  pub hand : HasHand u.works v (is_gone stage) life.hand
  -- where its thread is in the history, and in the package
  pub place : (t : ThreadNo) → v.carried ≡ Some t → (thread_in x t).place ≡ place_of stage life.proc
  pub kept : (t : ThreadNo) → v.carried ≡ Some t → place_at u t.0 ≡ kept_of stage
  -- the threads of its sections to continue are carried until these are continued
  pub stopped : (t : ThreadNo) → 1 ≤ stopped_in v.sections t.0 → place_at u t.0 ≡ Carried
  -- its stop or block named its thread
  pub named : is_running stage ≡ false → life.thread ≡ v.carried

-- THE MARKS of a life at the end of an event; and what is left to do then agrees with the state of its context.
pub record IsMarked (v : View) (life : Life) : Type 0 where
  pub inside : life.inside ≡ v.inside
  pub back : back_is_due life ≡ v.yields
  pub scans : min life.scans MAX_PATIENCE ≡ v.looks
  pub left : has_left v ≡ v.left
  pub lone : v.lone ≡ true

-- A life with its context as it is between events: where it ceased to run, it was idle exactly where the context is.
pub record IsAtRest (stage : Stage) (v : View) (life : Life) : Type 0 where
  pub marks : IsMarked v life
  pub idle : is_running stage ≡ false → was_idle stage life ≡ is_idle v

-- A life without a context, since that was handed over, has nothing any more.
pub record IsBare (life : Life) : Type 0 where
  pub locks : life.locks ≡ []
  pub cont : life.cont ≡ false
  pub hand : life.hand ≡ []
  pub inside : life.inside ≡ false
