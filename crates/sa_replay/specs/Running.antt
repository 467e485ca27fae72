-- When a thread of a space can run its next instruction, and when it can be put into another place.
use Rattle.std.specs.Prelude.{◌≡◌, ◌+◌, ◌^◌, ◌<◌, Bool, true, false, ◌||◌, [], length, slice_index_or}
use Rattle.sa_base.specs.declared.number.ThreadNo.{ThreadNo}
use Rattle.sa_instr.specs.declared.instr.Instr.{Instr}
use Rattle.sa_instr.specs.declared.instr.Instr.TheVariants.{Signal}
use Rattle.sa_instr.specs.Local.{instr_at}
use Rattle.sa_spaces.specs.Space.{SpaceView}
use Rattle.sa_sync.specs.Sync.{Sync, semaphore_at}
use Rattle.sa_laws.specs.declared.place.Place.{Place}
use Rattle.sa_laws.specs.declared.place.Place.TheVariants.{Running, Waiting, Done}
use Rattle.sa_laws.specs.State.{Thread, SpaceState, thread_in, is_due}

-- a thread's next instruction, by the programs of its space
abbrev pub instr_in : SpaceView → Thread → Instr
instr_in def thread = instr_at (slice_index_or def.programs thread.program []) thread.pc

-- the thread is at an instruction of its program
pub record IsAt (def : SpaceView) (thread : Thread) : Type 0 where
  pub in_space : thread.program < length def.programs
  pub in_program : thread.pc < length (slice_index_or def.programs thread.program [])

abbrev pub is_running : Place → Bool
is_running (Running p) = true
is_running _ = false

-- there is what the space declares
pub record HasDeclared (def : SpaceView) (sync : Sync) : Type 0 where
  pub mutexes : length sync.mutexes ≡ def.mutexes
  pub semaphores : length sync.semaphores ≡ length def.sems
  pub cells : length sync.cells ≡ def.cells

-- the thread runs, and is at an instruction of its program
pub record CanRun (def : SpaceView) (x : SpaceState) (t : ThreadNo) : Type 0 where
  pub runs : is_running (thread_in x t).place ≡ true
  pub at : IsAt def (thread_in x t)
  pub declared : HasDeclared def x.sync

-- the instruction signals a semaphore whose count is 2^32 - 1
abbrev pub IsFull : Sync → Instr → Type 0
IsFull sync (Signal k) = (semaphore_at sync k).count + 1 ≡ 2 ^ 32
IsFull sync _ = ⊥

-- the instruction has room for one more in each count that it adds to
abbrev pub HasCount : Sync → Instr → Type 0
HasCount sync (Signal k) = (semaphore_at sync k).count + 1 < 2 ^ 32
HasCount sync _ = Unit {0}

-- the thread is in a place from which it can be put into another: it runs, is ready, blocked or carried, or it is due
abbrev pub is_settled : Place → Bool
is_settled Waiting = false
is_settled Done = false
is_settled _ = true

abbrev pub can_move : SpaceState → ThreadNo → Bool
can_move x t = is_settled (thread_in x t).place || is_due x t
