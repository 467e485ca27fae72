-- The state of the abstract machine: what threads do, and which space owns each processor. There is no activation,
-- notice, ready list or lock of one in it.
use Rattle.std.specs.Prelude.{ℕ, ◌+◌, ◌==◌, Bool, true, false, ◌&&◌, if◌then◌else◌, List, [], ◌∷◌, length, map, replicate, Option, Some, None, slice_index_or, slice_set, count_by}
use Rattle.std.specs.Option.{option_map}
use Rattle.sa_base.specs.declared.number.ProcNo.{ProcNo}
use Rattle.sa_base.specs.declared.number.SpaceNo.{SpaceNo}
use Rattle.sa_base.specs.declared.number.ThreadNo.{ThreadNo}
use Rattle.sa_instr.specs.declared.instr.Instr.{Instr}
use Rattle.sa_instr.specs.declared.limits.TheConstants.{REGISTERS}
use Rattle.sa_instr.specs.Local.{instr_at}
use Rattle.sa_spaces.specs.Space.{SpaceView}
use Rattle.sa_spaces.specs.Workload.{WorkloadView}
use Rattle.sa_sync.specs.Sync.{Sync, opening as sync_opening, waits_of}
use Rattle.sa_laws.specs.declared.place.Place.{Place}
use Rattle.sa_laws.specs.declared.place.Place.TheVariants.{Running, Ready, Waiting, Carried, Done}

-- a thread that was made
pub record Thread : Type 0 where
  pub program : ℕ
  pub pc : ℕ
  pub regs : List ℕ
  pub place : Place

pub record SpaceState : Type 0 where
  -- those that were made, by their numbers
  pub threads : List Thread
  -- mutexes, semaphores, those that join each thread, and the cells
  pub sync : Sync

pub record State : Type 0 where
  pub spaces : List SpaceState
  -- of each processor: the space that owns it
  pub owners : List (Option SpaceNo)

-- a thread at the beginning of a program
abbrev pub at_start : ℕ → Place → Thread
at_start program place = record { program = program; pc = 0; regs = replicate REGISTERS 0; place = place }

-- at the opening each space has made thread 0, which is ready in program 0; nothing is owned
abbrev pub opening_space : SpaceView → SpaceState
opening_space def = record { threads = at_start 0 Ready ∷ []; sync = sync_opening def }

abbrev pub opening_state : WorkloadView → State
opening_state w = record { spaces = map opening_space w.spaces; owners = replicate w.processors None }

-- what the workload says of a space; a space that it does not have declares nothing
abbrev pub no_space : SpaceView
no_space = record { priority = 0; mutexes = 0; sems = []; cells = 0; absent = []; programs = []; patience = 0 }

abbrev pub space_def : WorkloadView → SpaceNo → SpaceView
space_def w s = slice_index_or w.spaces s.0 no_space

-- a space that the workload does not have
abbrev pub no_threads : SpaceState
no_threads = record { threads = []; sync = sync_opening no_space }

abbrev pub space_at : State → SpaceNo → SpaceState
space_at a s = slice_index_or a.spaces s.0 no_threads

abbrev pub with_space : State → SpaceNo → SpaceState → State
with_space a s x = record a { spaces = slice_set a.spaces s.0 x }

-- a thread; one that was not made counts as done
abbrev pub thread_in : SpaceState → ThreadNo → Thread
thread_in x t = slice_index_or x.threads t.0 (at_start 0 Done)

abbrev pub thread_at : State → SpaceNo → ThreadNo → Thread
thread_at a s t = thread_in (space_at a s) t

abbrev pub with_thread : SpaceState → ThreadNo → Thread → SpaceState
with_thread x t thread = record x { threads = slice_set x.threads t.0 thread }

-- the thread is in another place
abbrev pub put_thread : Place → SpaceState → ThreadNo → SpaceState
put_thread place x t = with_thread x t (record (thread_in x t) { place = place })

abbrev pub placed : State → SpaceNo → ThreadNo → Place → State
placed a s t place = with_space a s (put_thread place (space_at a s) t)

-- the same of a thread that may be absent
abbrev pub placed_if : State → SpaceNo → Option ThreadNo → Place → State
placed_if a s None place = a
placed_if a s (Some t) place = placed a s t place

-- the instruction at a place of a thread's program, and the one at which it stands
abbrev pub instr_of : WorkloadView → State → SpaceNo → ThreadNo → ℕ → Instr
instr_of w a s t pc = instr_at (slice_index_or (space_def w s).programs (thread_at a s t).program []) pc

abbrev pub next_instr : WorkloadView → State → SpaceNo → ThreadNo → Instr
next_instr w a s t = instr_of w a s t (thread_at a s t).pc

abbrev pub program_len : WorkloadView → State → SpaceNo → ThreadNo → ℕ
program_len w a s t = length (slice_index_or (space_def w s).programs (thread_at a s t).program [])

abbrev pub owner_at : State → ProcNo → Option SpaceNo
owner_at a p = slice_index_or a.owners p.0 None

abbrev pub with_owner : State → ProcNo → Option SpaceNo → State
with_owner a p s = record a { owners = slice_set a.owners p.0 s }

-- a thread of a space
pub record Runner : Type 0 where
  pub space : SpaceNo
  pub thread : ThreadNo

abbrev pub is_running_on : ProcNo → Place → Bool
is_running_on p (Running q) = q.0 == p.0
is_running_on p _ = false

-- the thread that runs on a processor: of threads from number t on, of spaces from number s on, of all
abbrev pub runner_in : ProcNo → ℕ → ℕ → List Thread → Option Runner
runner_in p s t [] = None
runner_in p s t (thread ∷ threads) =
    if is_running_on p thread.place then Some (record { space = record { 0 = s }; thread = record { 0 = t } })
    else runner_in p s (t + 1) threads

abbrev pub first_runner : Option Runner → Option Runner → Option Runner
first_runner None other = other
first_runner (Some runner) other = Some runner

abbrev pub runner_from : ProcNo → ℕ → List SpaceState → Option Runner
runner_from p s [] = None
runner_from p s (x ∷ xs) = first_runner (runner_in p s 0 x.threads) (runner_from p (s + 1) xs)

abbrev pub runner_on : State → ProcNo → Option Runner
runner_on a p = runner_from p 0 a.spaces

-- the thread t? of space s as a runner
abbrev pub runner_of : SpaceNo → Option ThreadNo → Option Runner
runner_of s t = option_map (λ u. record { space = s; thread = u }) t

-- the thread is due: it waits, but in no queue and for no thread, so it was forked or woken and must be made ready
abbrev pub is_waiting : Place → Bool
is_waiting Waiting = true
is_waiting _ = false

abbrev pub is_carried : Place → Bool
is_carried Carried = true
is_carried _ = false

abbrev pub is_due : SpaceState → ThreadNo → Bool
is_due x t = is_waiting (thread_in x t).place && waits_of x.sync t.0 == 0

-- how many threads of a space are ready or run
abbrev pub is_active : Place → Bool
is_active Ready = true
is_active (Running p) = true
is_active _ = false

abbrev pub active_threads : SpaceState → ℕ
active_threads x = count_by (λ (thread : Thread). is_active thread.place) x.threads
