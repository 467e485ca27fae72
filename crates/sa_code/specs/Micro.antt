-- What one micro-operation does: a row of the table of operations each.
use Rattle.std.specs.Prelude.{◌≡◌, ℕ, ◌+◌, ◌-◌, ◌<◌, Bool, true, false, ◌||◌, List, [], ◌∷◌, ◌++◌, length, take, drop, Option, Some, None, IsSome, slice_get, slice_set, unwrap_or, ⊤}
use Rattle.sa_base.specs.Recorded.{Recorded}
use Rattle.sa_base.specs.Pages.{has_page}
use Rattle.sa_base.specs.declared.number.ProcNo.{ProcNo}
use Rattle.sa_base.specs.declared.number.ThreadNo.{ThreadNo}
use Rattle.sa_base.specs.Items.{items_at}
use Rattle.sa_base.specs.declared.record.Record.{Record}
use Rattle.sa_base.specs.declared.record.Record.TheVariants.{Run, Ready, Take, Free as FreeOf, Back, Spin}
use Rattle.sa_base.specs.declared.context.Seen.{Seen}
use Rattle.sa_lists.specs.ReadyView as ready
use Rattle.sa_lists.specs.ReadyView.{ReadyView, processor, list_of, is_locked, with_list, with_lock, newest, oldest, has_ranks, IsLocked, IsUnlisted}
use Rattle.sa_code.specs.declared.code.Op.{Op}
use Rattle.sa_code.specs.declared.code.Op.TheVariants.{TakePush, Push, TakePop, Pop, Free, Leave, Yield}
use Rattle.sa_code.specs.declared.state.PackageState.{PackageState}
use Rattle.sa_code.specs.declared.state.Frame.{Frame}
use Rattle.sa_code.specs.declared.state.MicroDone.{MicroDone}
use Rattle.sa_code.specs.declared.state.MicroDone.TheVariants.{Did, Spun, Faulted, Left, Yielded}
use Rattle.sa_base.specs.declared.limits.TheConstants.{PACKAGE_PAGE}

-- what comes of a micro-operation: the state and the frame, its answer, and its record, where it has one
pub record Micro : Type 0 where
  pub state : PackageState
  pub frame : Frame
  pub done : MicroDone
  pub says : List Record

-- nothing changes
abbrev pub stays : PackageState → Frame → MicroDone → List Record → Micro
stays s f done says = record { state = s; frame = f; done = done; says = says }

-- it was done, and the frame goes on to the next place
abbrev pub goes : PackageState → Frame → Record → Micro
goes s f says = record { state = s; frame = record f { pc = f.pc + 1 }; done = Did; says = says ∷ [] }

-- s with other lists, and t? as the thread of the lock of list l
abbrev pub with_lists : PackageState → ReadyView → PackageState
with_lists s lists = record s { lists = lists }

abbrev pub with_holder : PackageState → ℕ → Option ThreadNo → PackageState
with_holder s l t = record s { holders = slice_set s.holders l t }

-- a take of list l: its lock is held already, or free
abbrev pub taken : PackageState → Frame → ProcNo → Bool → Micro
taken s f l true = stays s f Spun (Spin l ∷ [])
taken s f l false = goes (with_holder (with_lists s (with_lock s.lists l.0 true)) l.0 f.thread) f (Take s.space l f.thread)

-- the effect of a push of t on list l: the package's page is absent, or t becomes the newest
abbrev pub pushed : PackageState → Frame → Bool → ProcNo → Option ThreadNo → Micro
pushed s f false l t = stays s f Faulted []
pushed s f true l None = stays s f Faulted []
pushed s f true l (Some t) = goes (with_lists s (ready.pushed s.lists l.0 t.0)) (record f { pushed = None }) (Ready s.space t)

-- whether a pop takes the first thread of its list, and not the last: where the list is that of its processor, and where
-- threads have ranks whoever's list it is
abbrev pub takes_first : ReadyView → Bool → Bool
takes_first r own = own || has_ranks r

-- the thread that a pop takes from list l, its first or its last, and the list without it
abbrev pub chosen : ReadyView → (first : Bool) → ℕ → Option ℕ
chosen r true l = newest r l
chosen r false l = oldest r l

abbrev pub without_chosen : ReadyView → (first : Bool) → ℕ → List ℕ
without_chosen r true l = drop 1 (list_of r l)
without_chosen r false l = take (length (list_of r l) - 1) (list_of r l)

-- the effect of a pop of t from list l: the package's page is absent, or the context carries t, which is the thread of
-- the list's lock from now on
abbrev pub popped : PackageState → Frame → Bool → ProcNo → Option ℕ → Micro
popped s f false l t = stays s f Faulted []
popped s f true l None = stays s f Faulted []
popped s f true l (Some t) =
    goes (with_holder (with_lists s (with_list s.lists l.0 (without_chosen s.lists (takes_first s.lists f.own) l.0))) l.0 (Some (ready.thread t)))
    (record f { thread = Some (ready.thread t) }) (Run s.space (ready.thread t))

-- the free of list l
abbrev pub freed : PackageState → Frame → ProcNo → Micro
freed s f l = goes (with_holder (with_lists s (with_lock s.lists l.0 false)) l.0 None) f (FreeOf s.space l f.thread)

-- the table: what an operation does to list l, where the package's page is resident or not
abbrev pub micro_at : PackageState → Frame → Bool → ProcNo → Option Op → Micro
micro_at s f resident l (Some TakePush) = taken s f l (is_locked s.lists l.0)
micro_at s f resident l (Some Push) = pushed s f resident l f.pushed
micro_at s f resident l (Some TakePop) = taken s f l (is_locked s.lists l.0)
micro_at s f resident l (Some Pop) = popped s f resident l (chosen s.lists (takes_first s.lists f.own) l.0)
micro_at s f resident l (Some Free) = freed s f l
micro_at s f resident l (Some Leave) = stays s f Left []
micro_at s f resident l (Some Yield) = stays s f Yielded (Back s.space f.thread ∷ [])
micro_at s f resident l None = stays s f Left []

-- the frame's list, where it has one
abbrev pub list_in : Frame → ProcNo
list_in f = unwrap_or f.list (processor 0)

-- page k is among the resident pages
abbrev pub is_resident : ℕ → ℕ → Bool
is_resident pages k = has_page pages k

-- what the operation at the frame's place does
abbrev pub micro : PackageState → Frame → ℕ → Micro
micro s f pages = micro_at s f (is_resident pages PACKAGE_PAGE) (list_in f) (slice_get s.code f.pc)

-- the frame has a list, which is one of the state's
pub record HasList (s : PackageState) (f : Frame) : Type 0 where
  pub there : IsSome f.list
  pub inside : (list_in f).0 < length s.lists.lists

-- and that list is locked
pub record CanChange (s : PackageState) (f : Frame) : Type 0 where
  pub list : HasList s f
  pub locked : IsLocked s.lists (list_in f).0

-- the frame has a thread to push, which is one of the state's and is in no list
pub record CanPush (s : PackageState) (f : Frame) : Type 0 where
  pub thread : ThreadNo
  pub pushes : f.pushed ≡ Some thread
  pub below : thread.0 < s.lists.threads
  pub unlisted : IsUnlisted s.lists thread.0

-- the frame's list has a thread to pop, and the frame carries none
pub record CanPop (s : PackageState) (f : Frame) : Type 0 where
  pub some : 0 < length (list_of s.lists (list_in f).0)
  pub carries : f.thread ≡ None

-- what an operation asks of state and frame
abbrev pub CanDo : PackageState → Frame → Option Op → Type 0
CanDo s f (Some TakePush) = HasList s f × CanPush s f
CanDo s f (Some Push) = CanChange s f × CanPush s f
CanDo s f (Some TakePop) = HasList s f
CanDo s f (Some Pop) = CanChange s f × CanPop s f
CanDo s f (Some Free) = CanChange s f
CanDo s f (Some Leave) = ⊤
CanDo s f (Some Yield) = ⊤
CanDo s f None = ⊥

-- state, frame, answer and trace are what the operation makes of them
pub record Does (m : Micro) (seen : Seen) (old : Recorded) (s : PackageState) (f : Frame) (done : MicroDone) (new : Recorded) : Type 0 where
  pub state : s ≡ m.state
  pub frame : f ≡ m.frame
  pub answer : done ≡ m.done
  pub items : new.items ≡ old.items ++ items_at seen.event seen.proc m.says
  pub spare : new.spare + length m.says ≡ old.spare
