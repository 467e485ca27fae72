-- A seat: what it was credited and has read, and the instructions that it ran by itself.
use Rattle.std.specs.Prelude.{◌≡◌, ◌≢◌, ℕ, ◌+◌, ◌<◌, ◌≤◌, Bool, true, false, List, [], ◌∷◌, ◌++◌, length, replicate, None, Some, Option, slice_get}
use Rattle.atomic_table.specs.Seated.{TableId}
use Rattle.sa_base.specs.declared.number.SpaceNo.{SpaceNo}
use Rattle.sa_base.specs.declared.limits.TheConstants.{MAX_BURST}
use Rattle.sa_spaces.specs.Workload.{WorkloadView}
use Rattle.sa_instr.specs.Local.{instr_at, local_answer}
use Rattle.sa_instr.specs.declared.instr.Instr.{Instr}
use Rattle.sa_instr.specs.declared.answer.Local.{Local as Answer}
use Rattle.sa_instr.specs.declared.answer.Local.TheVariants.{Went}
use Rattle.sa_abstract.specs.declared.answer.SeatState.{SeatState}
use Rattle.sa_abstract.specs.declared.answer.SeatState.TheVariants.{Local, Away}
use Rattle.sa_abstract.specs.Walk.{after_one, after_many, program_at}
use Rattle.sa_abstract.specs.Keeps.{moved_to}
use Rattle.sa_core_model.specs.Run.{programs_in, AreNextLocal}
use Rattle.sa_lines.specs.Seen.{PollerSeen, fresh_poller, with_poll}
use Rattle.sa_seat.specs.declared.answer.BurstEnd.{BurstEnd}
use Rattle.sa_seat.specs.declared.answer.BurstEnd.TheVariants.{Shared, Limit, Line, Away as NoContext}

-- what a contract sees of a seat
pub record SeatView : Type 0 where
  pub poller : PollerSeen
  -- where the core's context stood when the seat last entered
  pub start : SeatState
  -- where the instructions that the seat ran since then have brought it, and how many these are
  pub copy : SeatState
  pub pending : ℕ

-- the program that a thread of a space runs
abbrev pub code_of : WorkloadView → SpaceNo → ℕ → List Instr
code_of w space program = program_at (programs_in (slice_get w.spaces space.0)) program

-- the state is in a program of the workload
abbrev pub IsPlace : WorkloadView → SeatState → Type 0
IsPlace w (Local space thread program pc regs) =
    (space.0 < length w.spaces)
    × (program < length (programs_in (slice_get w.spaces space.0)))
    × (pc < length (code_of w space program))
IsPlace w Away = Unit {0}

-- the state after n local instructions
abbrev pub moved : WorkloadView → ℕ → SeatState → SeatState
moved w n (Local space thread program pc regs) =
    moved_to space thread program (after_many (code_of w space program) n (record { pc = pc; regs = regs }))
moved w n Away = Away

-- the next n instructions of the state are local; of a state that is away there are none
abbrev pub CanMove : WorkloadView → ℕ → SeatState → Type 0
CanMove w n (Local space thread program pc regs) = AreNextLocal w n (Local space thread program pc regs)
CanMove w n Away = n ≡ 0

-- what the next instruction of a state answers
abbrev pub next_answer : WorkloadView → SeatState → Option Answer
next_answer w (Local space thread program pc regs) = Some (local_answer (instr_at (code_of w space program) pc))
next_answer w Away = None

-- what always holds of a seat of this workload and these words
pub record IsSeatOf (w : WorkloadView) (table : TableId) (s : SeatView) : Type 0 where
  pub of_table : s.poller.table ≡ table
  pub processor : s.poller.proc.0 < w.processors
  pub start : IsPlace w s.start
  pub place : IsPlace w s.copy
  pub local : CanMove w s.pending s.start
  pub copy : s.copy ≡ moved w s.pending s.start
  pub few : s.pending ≤ MAX_BURST

-- when the machine is made
abbrev pub fresh_seat : TableId → ℕ → SeatView
fresh_seat table p = record { poller = fresh_poller table p; start = Away; copy = Away; pending = 0 }

abbrev pub AreFresh : TableId → ℕ → List SeatView → Type 0
AreFresh table processors seats =
    (length seats ≡ processors)
    × ((p : ℕ) (s : SeatView) → slice_get seats p ≡ Some s → s ≡ fresh_seat table p)

-- the seats of a machine, in order
abbrev pub AreSeats : ℕ → List SeatView → Type 0
AreSeats processors seats =
    (length seats ≡ processors)
    × ((p : ℕ) (s : SeatView) → slice_get seats p ≡ Some s → s.poller.proc.0 ≡ p)

-- the copy is the core's context, and no burst is pending
abbrev pub renewed : SeatState → SeatView → SeatView
renewed context s = record s { start = context; copy = context; pending = 0 }

-- one local instruction more, before which the line word was read as low
abbrev pub stepped : WorkloadView → SeatView → SeatView
stepped w s = record s { poller = with_poll None s.poller; copy = moved w 1 s.copy; pending = s.pending + 1 }

-- the line word was read
abbrev pub read_so : Option ℕ → SeatView → SeatView
read_so found s = record s { poller = with_poll found s.poller }

-- one more instruction was run, or why not
abbrev pub IsStep : WorkloadView → SeatView → Option BurstEnd → SeatView → Type 0
IsStep w old None new = (next_answer w old.copy ≡ Some Went) × (new ≡ stepped w old)
IsStep w old (Some Shared) new = (next_answer w old.copy ≢ Some Went) × (new ≡ old)
IsStep w old (Some (Line e)) new = (next_answer w old.copy ≡ Some Went) × (new ≡ read_so (Some e) old)
IsStep w old (Some Limit) new = ⊥
IsStep w old (Some NoContext) new = ⊥

-- what the last poll of a burst read, where it was not low
abbrev pub last_read : BurstEnd → List ℕ
last_read (Line e) = (e + 1) ∷ []
last_read _ = []

-- why a burst of n instructions ended there
abbrev pub IsEnd : WorkloadView → ℕ → ℕ → SeatState → SeatState → BurstEnd → Type 0
IsEnd w limit n start copy NoContext = start ≡ Away
IsEnd w limit n start copy Limit = (start ≢ Away) × (n ≡ limit)
IsEnd w limit n start copy Shared = (start ≢ Away) × (n < limit) × (next_answer w copy ≢ Some Went)
IsEnd w limit n start copy (Line e) = (start ≢ Away) × (n < limit) × (next_answer w copy ≡ Some Went)

-- a burst of at most `limit` instructions: each was local, and before each the line word was read as low
pub record IsBurst (w : WorkloadView) (limit : ℕ) (old : SeatView) (end : BurstEnd) (new : SeatView) : Type 0 where
  pub few : new.pending ≤ limit
  pub start : new.start ≡ old.start
  pub copy : new.copy ≡ moved w new.pending old.copy
  pub local : CanMove w new.pending old.copy
  pub poller : new.poller ≡ record old.poller {
    read = (old.poller.read ++ replicate new.pending 0) ++ last_read end;
  }
  pub ends : IsEnd w limit new.pending old.copy new.copy end

-- the program that the state runs
abbrev pub IsCode : WorkloadView → List Instr → SeatState → Type 0
IsCode w code (Local space thread program pc regs) = code ≡ code_of w space program
IsCode w code Away = ⊥

-- the state is at an instruction of this program
abbrev pub IsReady : List Instr → SeatState → Type 0
IsReady code (Local space thread program pc regs) = pc < length code
IsReady code Away = Unit {0}

-- whether the instruction there is local, and the state after it where it is
abbrev pub IsAdvanced : List Instr → SeatState → Bool → SeatState → Type 0
IsAdvanced code Away went new = (went ≡ false) × (new ≡ Away)
IsAdvanced code (Local space thread program pc regs) true new =
    (local_answer (instr_at code pc) ≡ Went)
    × (new ≡ moved_to space thread program (after_one code (record { pc = pc; regs = regs })))
    × IsReady code new
IsAdvanced code (Local space thread program pc regs) false new =
    (local_answer (instr_at code pc) ≢ Went) × (new ≡ Local space thread program pc regs)
