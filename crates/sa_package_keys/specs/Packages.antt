-- The bytes of the values and contexts of the two packages.
use Rattle.std.specs.Prelude.{◌≡◌, ℕ, ◌≤◌, ◌==◌, Bool, true, false, ◌&&◌, not, is_none, List, [], ◌∷◌, ◌++◌, length, map, Option}
use Rattle.std.specs.List.{list_all, range_with_len}
use Rattle.std.specs.Option.{option_map}
use Rattle.sa_base.specs.declared.number.ProcNo.{ProcNo}
use Rattle.sa_base.specs.declared.limits.TheConstants.{MAX_THREADS}
use Rattle.sa_instr.specs.declared.limits.TheConstants.{REGISTERS}
use Rattle.sa_lists.specs.ReadyView.{ReadyView, rank_of}
use Rattle.sa_links.specs.Lists.{list_at}
use Rattle.sa_sync.specs.Sync.{Sync, Mutex, Semaphore, is_done}
use Rattle.sa_code.specs.declared.state.Frame.{Frame}
use Rattle.sa_fast.specs.declared.threads.Block.{Block}
use Rattle.sa_fast.specs.declared.threads.KeptPlace.{KeptPlace}
use Rattle.sa_fast.specs.declared.threads.KeptPlace.TheVariants.{Unmade, Ready, Running, Waiting, Blocked, Carried, Done}
use Rattle.sa_fast.specs.declared.shared.Shared.{Shared}
use Rattle.sa_fast.specs.Rest.{is_unmade}
use Rattle.sa_package_model.specs.declared.context.Context.{Context}
use Rattle.sa_package_model.specs.declared.context.ContextState.{ContextState}
use Rattle.sa_package_model.specs.declared.context.ContextState.TheVariants.{Code, Work, Hint, Return, User, Look}
use Rattle.sa_package_model.specs.declared.package.Package.{Package}
use Rattle.sa_prio_model.specs.declared.context.PrioContext.{PrioContext}
use Rattle.sa_prio_model.specs.Prio.{Prio}
use Rattle.sa_spaces.specs.Space.{SpaceView}
use Rattle.sa_package_outlook.specs.Contexts.{IsMade, IsMadeFor}
use Rattle.sa_package_keys.specs.Codes.{number, flag, number_or_none, thread_key, list, trimmed, padded}

-- CONTEXTS
abbrev pub list_no_key : Option ProcNo → List ℕ
list_no_key l = number_or_none (option_map (λ p. p.0) l)

abbrev pub frame_key : Frame → List ℕ
frame_key f = number f.pc ++ list_no_key f.list ++ flag f.own ++ thread_key f.pushed ++ thread_key f.thread

abbrev pub state_key : ContextState → List ℕ
state_key (Code f) = number 0 ++ frame_key f
state_key (Work t) = number 1 ++ thread_key t
state_key (Hint t) = number 2 ++ thread_key t
state_key Return = number 3
state_key (User t) = number 4 ++ number t.0
state_key (Look looks) = number 5 ++ number looks

abbrev pub fast_context_key : Context → List ℕ
fast_context_key c = state_key c.state ++ list frame_key c.sections ++ thread_key c.work

abbrev pub prio_context_key : PrioContext → List ℕ
prio_context_key c = fast_context_key c.base ++ flag c.urge

-- WHAT IS SHARED
abbrev pub is_empty : List ℕ → Bool
is_empty [] = true
is_empty (x ∷ xs) = false

abbrev pub is_zero : ℕ → Bool
is_zero n = n == 0

-- the lists and locks, without ranks: where there is one rank that is all
abbrev pub lists_key : ReadyView → List ℕ
lists_key r = list (list number) r.lists ++ list flag r.locked ++ number r.made ++ number r.threads

abbrev pub mutex_key : Mutex → List ℕ
mutex_key m = number_or_none m.holder ++ list number m.queue

abbrev pub semaphore_key : Semaphore → List ℕ
semaphore_key k = number k.count ++ list number k.queue

abbrev pub sync_key : Sync → List ℕ
sync_key s =
    list mutex_key s.mutexes ++ list semaphore_key s.semaphores ++ padded is_empty (list number) s.joiners ++ padded not flag s.done ++ list number s.cells

abbrev pub place_no : KeptPlace → ℕ
place_no Unmade = 0
place_no Ready = 1
place_no Running = 2
place_no Waiting = 3
place_no Blocked = 4
place_no Carried = 5
place_no Done = 6

abbrev pub block_key : Block → List ℕ
block_key b = number (place_no b.place) ++ number b.program ++ number b.pc ++ list number b.regs

-- the block of a thread that was not made
abbrev pub is_new : Block → Bool
is_new b = is_unmade b.place && b.program == 0 && b.pc == 0 && length b.regs == REGISTERS && list_all is_zero b.regs

abbrev pub shared_key : Shared → List ℕ
shared_key x =
    lists_key x.state.lists
    ++ padded is_none thread_key x.state.holders
    ++ sync_key x.sync
    ++ padded is_new block_key x.threads
    ++ padded is_empty (list number) x.works

abbrev pub fast_value_key : Package → List ℕ
fast_value_key u = shared_key u.shared

-- the ranks of the first n threads, without those at the end that are 0
abbrev pub ranks_key : List ℕ → ℕ → List ℕ
ranks_key ranks n = list number (trimmed is_zero (map (rank_of ranks) (range_with_len 0 n)))

abbrev pub prio_value_key : Prio → List ℕ
prio_value_key v =
    let lists = v.base.shared.state.lists in ranks_key lists.ranks lists.threads ++ fast_value_key v.base ++ list thread_key v.on

-- there is a block, a list of joiners and a work list for each thread that can be
pub record HasThreads (x : Shared) : Type 0 where
  pub blocks : length x.threads ≡ MAX_THREADS
  pub joiners : length x.sync.joiners ≡ MAX_THREADS
  pub works : length x.works ≡ MAX_THREADS

-- a thread that was not made is not done, and names no work list
pub record HasUnmade (x : Shared) : Type 0 where
  pub done : (t : ℕ) → x.state.lists.made ≤ t → is_done x.sync t ≡ false
  pub works : (t : ℕ) → x.state.lists.made ≤ t → list_at x.works t ≡ []

-- the values were made for a space that is defined so; FastThreads has no ranks, thread priorities one for each thread
abbrev pub IsFast : Option SpaceView → Package → Type 0
IsFast def u = IsMade def u × (length u.shared.state.lists.ranks ≡ 0)

abbrev pub IsPrio : Option SpaceView → Prio → Type 0
IsPrio def v = IsMadeFor def v × (length v.base.shared.state.lists.ranks ≡ MAX_THREADS)

-- THE CELLS of a space
abbrev pub fast_cells : Package → List ℕ
fast_cells u = u.shared.sync.cells

abbrev pub prio_cells : Prio → List ℕ
prio_cells v = fast_cells v.base
