-- The needs of a record, with what they look at beyond the abstract machine's state as values of their own.
use Rattle.std.specs.Prelude.{◌≡◌, ℕ, ◌==◌, ◌<◌, ◌⊎◌, ◌↔◌, Bool, true, false, ◌&&◌, if◌then◌else◌, Option, Some, None, is_some, slice_index}
use Rattle.std.specs.Option.{option_map}
use Rattle.sa_base.specs.declared.number.ProcNo.{ProcNo}
use Rattle.sa_base.specs.declared.number.SpaceNo.{SpaceNo}
use Rattle.sa_base.specs.declared.number.ThreadNo.{ThreadNo}
use Rattle.sa_base.specs.declared.limits.TheConstants.{PACKAGE_PAGE}
use Rattle.sa_base.specs.declared.record.Record.{Record}
use Rattle.sa_base.specs.declared.record.Record.TheVariants.{Ins, Out, Run, Stop, Block, Unblock, Cont, Back, Ready, Move}
use Rattle.sa_instr.specs.declared.instr.Instr.{Instr}
use Rattle.sa_instr.specs.declared.instr.Instr.TheVariants.{Touch}
use Rattle.sa_spaces.specs.Workload.{WorkloadView}
use Rattle.sa_base.specs.Pages.{has_page}
use Rattle.sa_laws.specs.declared.place.Place.TheVariants as place
use Rattle.sa_laws.specs.State.{State, thread_at, instr_of, next_instr, program_len, owner_at, space_at}
use Rattle.sa_laws.specs.Life.{Life, has_lock}
use Rattle.sa_laws.specs.Readings.{Readings, life_of}
use Rattle.sa_laws.specs.Record.{length_in, is_thread}
use Rattle.sa_laws.specs.Step.{IsRunner, NobodyRuns, StandsIn, IsBehindOut, CanBeReady, has_io, Needs}
use Rattle.sa_replay.specs.Running.{is_running, can_move, IsFull}
use Rattle.sa_replay.specs.declared.beyond.Beyond.{Beyond}
use Rattle.sa_replay.specs.declared.beyond.LifeSeen.{LifeSeen}

-- the page of a `touch` is among these, or is missing
abbrev pub IsTouchedIn : ℕ → Instr → Type 0
IsTouchedIn pages (Touch page) = has_page pages page ≡ true
IsTouchedIn pages _ = Unit {0}

abbrev pub IsMissedIn : ℕ → Instr → Type 0
IsMissedIn pages (Touch page) = has_page pages page ≡ false
IsMissedIn pages _ = ⊥

-- an instruction runs on p
pub record CanInsWith (w : WorkloadView) (p : ProcNo) (a : State) (s : SpaceNo) (t : ThreadNo) (i pages : ℕ) : Type 0 where
  pub owned : owner_at a p ≡ Some s
  pub runs : (thread_at a s t).place ≡ place.Running p
  pub pc : (thread_at a s t).pc ≡ i
  pub within : i < program_len w a s t
  pub page : IsTouchedIn pages (instr_of w a s t i)

-- the length of the `io` of this thread whose record comes directly before
abbrev pub length_before : WorkloadView → State → SpaceNo → Option ThreadNo → Option Record → Option ℕ
length_before w a s t (Some (Ins of u i)) =
    if of.0 == s.0 && is_thread u t then length_in (instr_of w a of u i) else None
length_before w a s t _ = None

-- what a block is for
abbrev pub IsFaultingIn : WorkloadView → State → SpaceNo → Option ThreadNo → ℕ → Type 0
IsFaultingIn w a s None pages = ⊥
IsFaultingIn w a s (Some t) pages = IsMissedIn pages (next_instr w a s t)

abbrev pub locks_one_of : Option LifeSeen → Bool
locks_one_of None = false
locks_one_of (Some life) = life.locks_one

abbrev pub HasCauseIn : WorkloadView → State → SpaceNo → Option ThreadNo → Beyond → Type 0
HasCauseIn w a s t beyond =
    (is_some (length_before w a s t beyond.last) ≡ true)
    ⊎ (IsFaultingIn w a s t beyond.pages ⊎ ((locks_one_of beyond.life ≡ true) × (has_page beyond.pages PACKAGE_PAGE ≡ false)))

pub record CanBlockWith (w : WorkloadView) (p : ProcNo) (a : State) (s : SpaceNo) (t : Option ThreadNo) (beyond : Beyond) : Type 0 where
  pub owned : owner_at a p ≡ Some s
  pub runs : IsRunner a p s t
  pub cause : HasCauseIn w a s t beyond

-- the life of an unblock is blocked, and the unblock names the thread of its block
pub record CanUnblockWith (a : State) (s : SpaceNo) (t : Option ThreadNo) (beyond : Beyond) : Type 0 where
  pub life : LifeSeen
  pub is : beyond.life ≡ Some life
  pub space : life.space ≡ s
  pub thread : life.thread ≡ t
  pub io : beyond.has_io ≡ true
  pub blocked : StandsIn place.Blocked a s t

-- the needs of a record of processor p, in a state and beside what is beyond it
abbrev pub NeedsWith : WorkloadView → ProcNo → State → Beyond → Record → Type 0
NeedsWith w p a beyond (Ins s t i) = CanInsWith w p a s t i beyond.pages
NeedsWith w p a beyond (Out s t value) = (owner_at a p ≡ Some s) × IsBehindOut w a s t value beyond.last
NeedsWith w p a beyond (Stop s t act) = (owner_at a p ≡ Some s) × IsRunner a p s t
NeedsWith w p a beyond (Block s t act io) = CanBlockWith w p a s t beyond
NeedsWith w p a beyond (Unblock s t act) = CanUnblockWith a s t beyond
NeedsWith w p a beyond (Cont s t) = (owner_at a p ≡ Some s) × NobodyRuns a p × StandsIn place.Carried a s t
NeedsWith w p a beyond (Back s t) = (owner_at a p ≡ Some s) × IsRunner a p s t
NeedsWith w p a beyond (Run s t) = (owner_at a p ≡ Some s) × NobodyRuns a p × ((thread_at a s t).place ≡ place.Ready)
NeedsWith w p a beyond (Ready s t) = (owner_at a p ≡ Some s) × CanBeReady a s t
NeedsWith w p a beyond (Move old new) = (owner_at a p ≡ old) × NobodyRuns a p
NeedsWith w p a beyond _ = Unit {0}

-- what a record's needs look at is what is read
abbrev pub seen_of : Life → LifeSeen
seen_of life = record { space = life.space; thread = life.thread; locks_one = has_lock life }

abbrev pub Sees : Readings → Record → Beyond → Type 0
Sees r (Ins s t i) beyond = beyond.pages ≡ slice_index r.pages s.0
Sees r (Out s t value) beyond = beyond.last ≡ r.last
Sees r (Block s t act io) beyond =
    (beyond.last ≡ r.last) × (beyond.pages ≡ slice_index r.pages s.0) × (beyond.life ≡ option_map seen_of (life_of r act))
Sees r (Unblock s t act) beyond = (beyond.life ≡ option_map seen_of (life_of r act)) × (beyond.has_io ≡ has_io r act)
Sees r _ beyond = Unit {0}

-- then these are the needs of the record
abbrev pub NeedsAreThese : Type 0
NeedsAreThese =
    (w : WorkloadView) (p : ProcNo) (r : Readings) (beyond : Beyond) (x : Record) → Sees r x beyond
    → NeedsWith w p r.state beyond x ↔ Needs w p r x

-- the needs as far as the state is to be changed
pub record CanGo (w : WorkloadView) (p : ProcNo) (a : State) (s : SpaceNo) (t : ThreadNo) : Type 0 where
  pub runs : (thread_at a s t).place ≡ place.Running p
  pub within : (thread_at a s t).pc < program_len w a s t

-- the thread, if there is one, runs nowhere, and can be put into another place
abbrev pub CanPut : State → SpaceNo → Option ThreadNo → Type 0
CanPut a s None = Unit {0}
CanPut a s (Some t) = (is_running (thread_at a s t).place ≡ false) × (can_move (space_at a s) t ≡ true)

abbrev pub CanChange : WorkloadView → ProcNo → State → Record → Type 0
CanChange w p a (Ins s t i) = CanGo w p a s t
CanChange w p a (Stop s t act) = IsRunner a p s t
CanChange w p a (Block s t act io) = IsRunner a p s t
CanChange w p a (Unblock s t act) = StandsIn place.Blocked a s t
CanChange w p a (Cont s t) = (owner_at a p ≡ Some s) × NobodyRuns a p × StandsIn place.Carried a s t
CanChange w p a (Back s t) = IsRunner a p s t
CanChange w p a (Run s t) = (owner_at a p ≡ Some s) × NobodyRuns a p × ((thread_at a s t).place ≡ place.Ready)
CanChange w p a (Ready s t) = CanBeReady a s t
CanChange w p a _ = Unit {0}

-- the record is an instruction that signals a semaphore whose count is 2^32 - 1
abbrev pub IsOverfull : WorkloadView → State → Record → Type 0
IsOverfull w a (Ins s t i) = IsFull (space_at a s).sync (next_instr w a s t)
IsOverfull w a _ = ⊥
