-- What the calls of a user level need and keep.
use Rattle.std.specs.Prelude.{◌≡◌, ◌≢◌, ℕ, ◌+◌, ◌-◌, ◌≤◌, ◌<◌, Bool, true, false, ◌||◌, Option, Some, None, is_none, List, [], length, All, IfSome}
use Rattle.std.specs.Int.{bit_at}
use Rattle.sa_base.specs.declared.number.SpaceNo.{SpaceNo}
use Rattle.sa_base.specs.declared.number.ThreadNo.{ThreadNo}
use Rattle.sa_base.specs.declared.limits.TheConstants.{MAX_EVENTS, PAGES}
use Rattle.sa_base.specs.declared.context.Seen.{Seen}
use Rattle.sa_base.specs.declared.context.Stopped.{Stopped}
use Rattle.sa_base.specs.declared.record.Note.{Note}
use Rattle.sa_base.specs.declared.record.Note.TheVariants.{Add, Preempted, Blocked, Unblocked}
use Rattle.sa_base.specs.declared.record.Record.{Record}
use Rattle.sa_base.specs.declared.record.Record.TheVariants.{Ins, Out, Run, Cont, Back, Ready, Take, Free, Idle as IdleRecord, Spin}
use Rattle.sa_abstract.specs.declared.answer.SeatState.{SeatState}
use Rattle.sa_abstract.specs.declared.answer.SeatState.TheVariants.{Local, Away}
use Rattle.sa_abstract.specs.declared.answer.Step.{Step}
use Rattle.sa_abstract.specs.declared.answer.Step.TheVariants.{Did, Block, More, Idle, GiveBack, InterruptOwn}
use Rattle.sa_instr.specs.declared.limits.TheConstants.{MAX_IO_LENGTH}
use Rattle.sa_lemmas.specs.Function.{put}
use Rattle.sa_abstract.specs.Setting.{Setting, IsSetting}
use Rattle.sa_abstract.specs.Walk.{Spot, AreLocal, after_many, ins_records, program_at}
use Rattle.sa_abstract.specs.Calls.{Calls, Contexts, Stepped, Gone}

-- in a space of this setting, and with the steps of events up to this one, a value and the contexts of its space's
-- activations stand beside one another
abbrev pub Standing : Type 0 → Type 0 → Type 1
Standing U C = Setting → ℕ → U → Contexts C → Type 0

-- what is seen can be seen in a space of this setting
abbrev pub IsSeen : Setting → Seen → Type 0
IsSeen s seen = seen.proc.0 < s.processors

-- the value, before a fresh activation
pub record IsBefore {U C : Type 0} (stands : Standing U C) (u : U) (seen : Seen) : Type 0 where
  pub setting : Setting
  pub event : ℕ
  pub others : Contexts C
  pub value : stands setting event u others
  pub sees : IsSeen setting seen

-- the value, with the context of one of its activations
pub record IsOf {U C : Type 0} (stands : Standing U C) (u : U) (c : C) : Type 0 where
  pub setting : Setting
  pub event : ℕ
  pub others : Contexts C
  pub act : ℕ
  pub value : stands setting event u others
  pub mine : others act ≡ Some c

-- the same, with what is seen
pub record IsSeenOf {U C : Type 0} (stands : Standing U C) (u : U) (seen : Seen) (c : C) : Type 0 where
  pub setting : Setting
  pub event : ℕ
  pub others : Contexts C
  pub act : ℕ
  pub value : stands setting event u others
  pub mine : others act ≡ Some c
  pub sees : IsSeen setting seen

-- the same, in an event after those of all earlier steps
pub record IsStep {U C : Type 0} (stands : Standing U C) (u : U) (seen : Seen) (c : C) : Type 0 where
  pub setting : Setting
  pub event : ℕ
  pub others : Contexts C
  pub act : ℕ
  pub value : stands setting event u others
  pub mine : others act ≡ Some c
  pub sees : IsSeen setting seen
  pub later : event < seen.event
  pub within : seen.event ≤ MAX_EVENTS

-- the context of another activation is handed over
pub record IsHandedOver {C : Type 0} (others : Contexts C) (act b : ℕ) (held : Option (Stopped C)) : Type 0 where
  pub stopped : Stopped C
  pub is : held ≡ Some stopped
  pub theirs : others b ≡ Some stopped.ctx
  pub differ : b ≢ act

-- what comes with a notice
abbrev pub IsHanded : {C : Type 0} → Contexts C → ℕ → Note → Option (Stopped C) → Type 0
IsHanded others act (Add p) held = held ≡ None
IsHanded others act (Blocked b) held = held ≡ None
IsHanded others act (Preempted b) held = IsHandedOver others act b.0 held
IsHanded others act (Unblocked b) held = IsHandedOver others act b.0 held

-- the value and the context of one of its activations, before a notice
pub record IsTelling {U C : Type 0} (stands : Standing U C) (u : U) (c : C) (note : Note) (held : Option (Stopped C)) : Type 0 where
  pub setting : Setting
  pub event : ℕ
  pub others : Contexts C
  pub act : ℕ
  pub value : stands setting event u others
  pub mine : others act ≡ Some c
  pub handed : IsHanded others act note held

-- the contexts after a notice: what was handed over is gone
abbrev pub told_contexts : {C : Type 0} → Contexts C → ℕ → C → Note → Contexts C
told_contexts others act c (Add p) = put others act (Some c)
told_contexts others act c (Blocked b) = put others act (Some c)
told_contexts others act c (Preempted b) = put (put others act (Some c)) b.0 None
told_contexts others act c (Unblocked b) = put (put others act (Some c)) b.0 None

-- the state is at a thread's instruction of a space of this setting, within its program
abbrev pub IsSeat : Setting → SeatState → Type 0
IsSeat s (Local space thread program pc regs) =
    (space ≡ s.space) × (program < length s.def.programs) × (pc < length (program_at s.def.programs program))
IsSeat s Away = Unit {0}

-- a thread is there, and its next n instructions are local
abbrev pub StaysLocal : Setting → ℕ → SeatState → Type 0
StaysLocal s n (Local space thread program pc regs) =
    AreLocal (program_at s.def.programs program) n (record { pc = pc; regs = regs })
StaysLocal s n Away = ⊥

-- the state after n local instructions, and their records
abbrev pub moved_to : SpaceNo → ThreadNo → ℕ → Spot → SeatState
moved_to space thread program spot = Local space thread program spot.pc spot.regs

abbrev pub state_after : Setting → ℕ → SeatState → SeatState
state_after s n (Local space thread program pc regs) =
    moved_to space thread program (after_many (program_at s.def.programs program) n (record { pc = pc; regs = regs }))
state_after s n Away = Away

abbrev pub records_of : Setting → ℕ → SeatState → List Record
records_of s n (Local space thread program pc regs) =
    ins_records space thread (program_at s.def.programs program) n (record { pc = pc; regs = regs })
records_of s n Away = []

-- the value and the context of one of its activations, before n local instructions
pub record IsGoing {U C : Type 0} (calls : Calls U C) (stands : Standing U C) (u : U) (seen : Seen) (c : C) (n : ℕ) : Type 0 where
  pub setting : Setting
  pub event : ℕ
  pub others : Contexts C
  pub act : ℕ
  pub value : stands setting event u others
  pub mine : others act ≡ Some c
  pub sees : IsSeen setting seen
  pub later : event < seen.event
  pub some : 1 ≤ n
  pub within : seen.event + n ≤ MAX_EVENTS + 1
  pub goes : StaysLocal setting n (calls.local u c)

-- what a step asks for, the kernel can do
abbrev pub IsAsked : Setting → Seen → Step → Type 0
IsAsked s seen Did = Unit {0}
IsAsked s seen (Block length page) =
    (1 ≤ length) × (length ≤ MAX_IO_LENGTH) × IfSome page (λ k. (1 ≤ k) × (k < PAGES))
IsAsked s seen (More n) = (1 ≤ n) × (seen.demand + n ≤ s.processors)
IsAsked s seen Idle = 1 ≤ seen.demand
IsAsked s seen GiveBack = 1 ≤ seen.taken
IsAsked s seen (InterruptOwn q) = (q ≢ seen.proc) × (q.0 < s.processors) × (bit_at seen.low q.0 ≡ 1)

-- a record that a user level of this space can add
abbrev pub IsOwn : SpaceNo → Record → Type 0
IsOwn s (Ins of t i) = of ≡ s
IsOwn s (Out of t v) = of ≡ s
IsOwn s (Run of t) = of ≡ s
IsOwn s (Cont of t) = of ≡ s
IsOwn s (Back of t) = of ≡ s
IsOwn s (Ready of t) = of ≡ s
IsOwn s (Take of l t) = of ≡ s
IsOwn s (Free of l t) = of ≡ s
IsOwn s IdleRecord = Unit {0}
IsOwn s (Spin l) = Unit {0}
IsOwn s _ = ⊥

-- a context is at a thread's instruction exactly where it carries a thread and is not inside the package
abbrev pub is_away : SeatState → Bool
is_away Away = true
is_away _ = false

-- what is true of a step's outcome
pub record IsStepped {U C : Type 0} (stands : Standing U C) (s : Setting) (seen : Seen) (others : Contexts C) (a : ℕ) (r : Stepped U C) : Type 0 where
  pub value : stands s seen.event r.user (put others a (Some r.ctx))
  pub asked : IsAsked s seen r.answer
  pub own : All (IsOwn s.space) r.says
  pub few : length r.says ≤ 4

-- what is true of the outcome of n local instructions
pub record IsGone {U C : Type 0} (calls : Calls U C) (stands : Standing U C) (s : Setting) (seen : Seen) (others : Contexts C) (a n : ℕ) (before : SeatState)
    (r : Gone U C) : Type 0 where
  pub value : stands s (seen.event + n - 1) r.user (put others a (Some r.ctx))
  pub says : r.says ≡ records_of s n before
  pub state : calls.local r.user r.ctx ≡ state_after s n before

-- what the calls keep
pub record Keeps {U C : Type 0} (calls : Calls U C) (stands : Standing U C) : Type 0 where
  pub starts : (s : Setting) → IsSetting s → stands s 0 (calls.started s) (λ a. None)
  pub later : (s : Setting) (e f : ℕ) (u : U) (cs : Contexts C) → stands s e u cs → e ≤ f → stands s f u cs
  pub begins : (s : Setting) (e : ℕ) (u : U) (cs : Contexts C) (a : ℕ) (seen : Seen)
      → stands s e u cs → cs a ≡ None → IsSeen s seen
      → stands s e (calls.begun u seen).0 (put cs a (Some (calls.begun u seen).1))
  pub tells : (s : Setting) (e : ℕ) (u : U) (cs : Contexts C) (a : ℕ) (c : C) (note : Note) (held : Option (Stopped C))
      → stands s e u cs → cs a ≡ Some c → IsHanded cs a note held
      → stands s e (calls.told u c note held).0 (told_contexts cs a (calls.told u c note held).1 note)
  pub answers : (s : Setting) (e : ℕ) (u : U) (cs : Contexts C) (a : ℕ) (c : C) (seen : Seen)
      → stands s e u cs → cs a ≡ Some c → IsSeen s seen
      → stands s e (calls.answered u seen c).0 (put cs a (Some (calls.answered u seen c).1))
  pub steps : (s : Setting) (e : ℕ) (u : U) (cs : Contexts C) (a : ℕ) (c : C) (seen : Seen)
      → stands s e u cs → cs a ≡ Some c → IsSeen s seen → e < seen.event → seen.event ≤ MAX_EVENTS
      → IsStepped stands s seen cs a (calls.stepped u seen c)
  pub goes : (s : Setting) (e : ℕ) (u : U) (cs : Contexts C) (a : ℕ) (c : C) (seen : Seen) (n : ℕ)
      → stands s e u cs → cs a ≡ Some c → IsSeen s seen → e < seen.event → 1 ≤ n → seen.event + n ≤ MAX_EVENTS + 1
      → StaysLocal s n (calls.local u c)
      → IsGone calls stands s seen cs a n (calls.local u c) (calls.went u seen c n)
  pub seats : (s : Setting) (e : ℕ) (u : U) (cs : Contexts C) (a : ℕ) (c : C) → stands s e u cs → cs a ≡ Some c
      → IsSeat s (calls.local u c) × (is_away (calls.local u c) ≡ (calls.owes u c || is_none (calls.thread u c)))
