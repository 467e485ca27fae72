-- Who waits: virtual processors that are blocked, threads that are in work lists, and threads that are in ready lists.
use Rattle.std.specs.Prelude.{◌≡◌, ℕ, ◌<◌, true, [], Some, slice_index_or}
use Rattle.sa_base.specs.declared.number.ProcNo.{ProcNo}
use Rattle.sa_base.specs.declared.number.SpaceNo.{SpaceNo}
use Rattle.sa_laws.specs.declared.place.Place.TheVariants as places
use Rattle.sa_laws.specs.State.{thread_at}
use Rattle.sa_vp_model.specs.Board.{Board, list_in}
use Rattle.sa_vp_model.specs.Turn.{thread, picked}

-- where no I/O is under way, none is blocked
abbrev pub BlocksByIos : Board → Type 0
BlocksByIos b = b.devices.ios.under_way ≡ [] → (s : ℕ) → slice_index_or b.blocked s 0 ≡ 0

-- where no thread is due, each work list is empty
abbrev pub CountsWork : Board → Type 0
CountsWork b = b.due ≡ 0 → (s : SpaceNo) (l : ProcNo) → list_in b.work s l ≡ []

-- the newest thread of each ready list of a space is ready
abbrev pub ListsReady : Board → SpaceNo → Type 0
ListsReady b s =
    (l : ProcNo) (t : ℕ) → l.0 < b.workload.processors → picked (list_in b.ready s l) true ≡ Some t → (thread_at b.state s (thread t)).place ≡ places.Ready
