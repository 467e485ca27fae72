-- What the cell of a thread holds: where it is, its pc, and the instruction there; of one that waits, the instruction in which it waits,
-- and for what.
use Rattle.std.specs.Prelude.{ℕ, ◌-◌, Bool, not, ◌&&◌, List, [], ◌++◌, length, codes, nat_lt, Option, Some, None, if◌then◌else◌}
use Rattle.std.specs.List.{flat_map}
use Rattle.sa_base.specs.declared.number.SpaceNo.{SpaceNo}
use Rattle.sa_base.specs.declared.number.ThreadNo.{ThreadNo}
use Rattle.sa_instr.specs.declared.instr.Instr.{Instr}
use Rattle.sa_instr.specs.declared.instr.Instr.TheVariants as instr
use Rattle.sa_spaces.specs.Workload.{WorkloadView}
use Rattle.sa_instr.specs.declared.operand.Operand.{Operand}
use Rattle.sa_instr.specs.Operation.{form_of}
use Rattle.sa_instr.specs.Parts.{parts_of}
use Rattle.sa_workload.specs.Text.{operand_word}
use Rattle.sa_laws.specs.declared.place.Place.{Place}
use Rattle.sa_laws.specs.declared.place.Place.TheVariants.{Running, Ready, Blocked, Waiting, Carried, Done}
use Rattle.sa_sync.specs.Sync.{Sync, mutex_at}
use Rattle.sa_laws.specs.State.{State, space_at, thread_at, instr_of, is_due, is_waiting}
use Rattle.sa_cells.specs.Pieces.{numbered, one}

-- an instruction as the workload text has it: the word of its operation, and each operand after a space
abbrev pub operand_text : Operand → List ℕ
operand_text o = codes " " ++ operand_word o

abbrev pub instr_text : Instr → List ℕ
instr_text i = (form_of (parts_of i).operation).word ++ flat_map operand_text (parts_of i).operands

-- where a thread is that waits in no queue
abbrev pub place_text : Place → List ℕ
place_text (Running p) = numbered (codes "runs on processor ") p.0
place_text Ready = codes "ready"
place_text Blocked = codes "blocked in the kernel"
place_text Waiting = codes "to be made ready"
place_text Carried = codes "stopped or returned, to be made ready"
place_text Done = codes "done"

-- what it runs next, unless it is done
unfoldable pub next_text : ℕ → Instr → List ℕ
next_text pc i = one (codes ", at ") pc (codes ": ") ++ instr_text i

abbrev pub going_text : Place → ℕ → Instr → List ℕ
going_text Done pc i = []
going_text place pc i = next_text pc i

unfoldable pub standing_text : Place → ℕ → Instr → List ℕ
standing_text place pc i = place_text place ++ going_text place pc i

-- what an instruction waits for: a mutex, with the thread that holds it, or a semaphore
abbrev pub held_by : Option ℕ → List ℕ
held_by None = codes ", which nobody holds"
held_by (Some t) = one (codes ", which thread ") t (codes " holds")

abbrev pub mutex_text : Sync → ℕ → List ℕ
mutex_text x m = numbered (codes ", for mutex ") m ++ held_by (mutex_at x m).holder

abbrev pub awaited_text : Sync → Instr → List ℕ
awaited_text x (instr.Lock m) = mutex_text x m
awaited_text x (instr.Wait k) = numbered (codes ", for semaphore ") k
awaited_text x (instr.Join r) = codes ", for the end of a thread"
awaited_text x _ = []

unfoldable pub waiting_text : Sync → Instr → List ℕ
waiting_text x i = codes "waits in " ++ instr_text i ++ awaited_text x i

-- a thread waits that is not due: it stands behind the instruction in which it waits
abbrev pub waits : State → SpaceNo → ThreadNo → Bool
waits a s t = is_waiting (thread_at a s t).place && not (is_due (space_at a s) t)

abbrev pub made_text : WorkloadView → State → SpaceNo → ThreadNo → List ℕ
made_text w a s t =
    let thread = thread_at a s t in
    if waits a s t then waiting_text (space_at a s).sync (instr_of w a s t (thread.pc - 1))
    else standing_text thread.place thread.pc (instr_of w a s t thread.pc)

-- the thread of a space; one that was not made yet has none
abbrev pub is_made : State → SpaceNo → ThreadNo → Bool
is_made a s t = nat_lt s.0 (length a.spaces) && nat_lt t.0 (length (space_at a s).threads)

abbrev pub thread_text : WorkloadView → State → SpaceNo → ThreadNo → List ℕ
thread_text w a s t = if is_made a s t then made_text w a s t else codes "-"
