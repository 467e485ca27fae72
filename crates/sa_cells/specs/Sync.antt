-- What the cells of the mutexes, semaphores and cells of a space hold.
use Rattle.std.specs.Prelude.{ℕ, List, [], ◌∷◌, ◌++◌, length, codes, decimal, nat_lt, Option, Some, None, if◌then◌else◌, slice_index}
use Rattle.std.specs.List.{flat_map}
use Rattle.sa_base.specs.declared.number.SpaceNo.{SpaceNo}
use Rattle.sa_sync.specs.Sync.{Sync, Mutex, Semaphore, mutex_at, semaphore_at}
use Rattle.sa_laws.specs.State.{State, space_at}
use Rattle.sa_cells.specs.Pieces.{numbered}

-- those that wait, in order
abbrev pub queue_text : List ℕ → List ℕ
queue_text [] = codes ", queue empty"
queue_text (t ∷ ts) = codes ", queue" ++ flat_map (numbered (codes " ")) (t ∷ ts)

abbrev pub holder_text : Option ℕ → List ℕ
holder_text None = codes "free"
holder_text (Some t) = numbered (codes "thread ") t

unfoldable pub mutex_text : Mutex → List ℕ
mutex_text m = holder_text m.holder ++ queue_text m.queue

unfoldable pub semaphore_text : Semaphore → List ℕ
semaphore_text k = numbered (codes "count ") k.count ++ queue_text k.queue

-- by their numbers, where there are such
abbrev pub mutex_in : Sync → ℕ → List ℕ
mutex_in x m = if nat_lt m (length x.mutexes) then mutex_text (mutex_at x m) else codes "-"

abbrev pub semaphore_in : Sync → ℕ → List ℕ
semaphore_in x k = if nat_lt k (length x.semaphores) then semaphore_text (semaphore_at x k) else codes "-"

abbrev pub cell_in : Sync → ℕ → List ℕ
cell_in x c = if nat_lt c (length x.cells) then decimal (slice_index x.cells c) else codes "-"

-- of a space, where there is such
abbrev pub of_sync : (Sync → List ℕ) → State → SpaceNo → List ℕ
of_sync text a s = if nat_lt s.0 (length a.spaces) then text (space_at a s).sync else codes "-"
