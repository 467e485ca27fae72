-- What the cells of a space hold: what it was not told, and its ready lists with their locks.
use Rattle.std.specs.Prelude.{ℕ, ◌==◌, List, [], ◌∷◌, ◌++◌, length, find, codes, Option, Some, None, is_some, slice_get, if◌then◌else◌}
use Rattle.std.specs.List.{flat_map, range_with_len}
use Rattle.std.specs.Option.{option_map}
use Rattle.sa_base.specs.declared.number.ProcNo.{ProcNo}
use Rattle.sa_base.specs.declared.number.SpaceNo.{SpaceNo}
use Rattle.sa_base.specs.declared.number.ThreadNo.{ThreadNo}
use Rattle.sa_base.specs.declared.number.ActNo.{ActNo}
use Rattle.sa_base.specs.declared.record.Note.{Note}
use Rattle.sa_base.specs.declared.record.Note.TheVariants.{Add, Preempted, Blocked, Unblocked}
use Rattle.sa_devices.specs.Ios.{Io}
use Rattle.sa_devices.specs.declared.kind.IoKind.{IoKind}
use Rattle.sa_devices.specs.declared.kind.IoKind.TheVariants.{Plain, Page, Upcall}
use Rattle.sa_laws.specs.Life.{Life, Lock}
use Rattle.sa_laws.specs.Readings.{Readings, Listed, life_of, untold_of}
use Rattle.sa_cells.specs.Pieces.{numbered, and_thread}

-- what it was not told, in order
abbrev pub note_text : Note → List ℕ
note_text (Add p) = numbered (codes " add ") p.0
note_text (Preempted a) = numbered (codes " preempted ") a.0
note_text (Blocked a) = numbered (codes " blocked ") a.0
note_text (Unblocked a) = numbered (codes " unblocked ") a.0

abbrev pub untold_text : List Note → List ℕ
untold_text notes = flat_map note_text notes

-- the threads of a list, in the order of their ready records
abbrev pub listed_in : ProcNo → Listed → List ℕ
listed_in l x = if x.list.0 == l.0 then numbered (codes " ") x.thread.0 else []

abbrev pub list_text : ProcNo → List Listed → List ℕ
list_text l listed = flat_map (listed_in l) listed

-- the lives among which the holder of a lock is looked for first: those that run, those with an I/O under way, and those of which the
-- space was not told
abbrev pub act_if : Option ActNo → List ActNo
act_if None = []
act_if (Some a) = a ∷ []

abbrev pub act_of_io : IoKind → List ActNo
act_of_io (Plain s a) = a ∷ []
act_of_io (Page s a page) = a ∷ []
act_of_io (Upcall s) = []

abbrev pub act_of_note : Note → List ActNo
act_of_note (Add p) = []
act_of_note (Preempted a) = a ∷ []
act_of_note (Blocked a) = a ∷ []
act_of_note (Unblocked a) = a ∷ []

abbrev pub act_of_io_if : Option IoKind → List ActNo
act_of_io_if None = []
act_of_io_if (Some kind) = act_of_io kind

abbrev pub io_act : Readings → ℕ → List ActNo
io_act r k = act_of_io_if (option_map (λ (io : Io). io.kind) (slice_get r.under_way k))

abbrev pub candidates : Readings → SpaceNo → List ActNo
candidates r s =
    flat_map act_if r.running ++ flat_map (io_act r) (range_with_len 0 (length r.under_way)) ++ flat_map act_of_note (untold_of r s)

-- the lock of a list, if a life has it
abbrev pub lock_among : ProcNo → List Lock → Option Lock
lock_among l locks = find (λ (lock : Lock). lock.list.0 == l.0) locks

abbrev pub lock_in : SpaceNo → ProcNo → Option Life → Option Lock
lock_in s l None = None
lock_in s l (Some life) = if life.space.0 == s.0 then lock_among l life.locks else None

abbrev pub lock_at : Readings → SpaceNo → ProcNo → ActNo → Option Lock
lock_at r s l a = lock_in s l (life_of r a)

-- who holds the lock of a list: the first of these lives that has it, else the first of all that ever were; and the thread of the lock
abbrev pub held_text : ActNo → Option ThreadNo → List ℕ
held_text a t = numbered (codes "activation ") a.0 ++ and_thread t

abbrev pub held_or : Option Lock → ActNo → List ℕ
held_or None a = codes "free"
held_or (Some lock) a = held_text a lock.thread

abbrev pub held_if : Readings → SpaceNo → ProcNo → Option ActNo → List ℕ
held_if r s l None = codes "free"
held_if r s l (Some a) = held_or (lock_at r s l a) a

abbrev pub holder_in : Readings → SpaceNo → ProcNo → List ActNo → Option ActNo
holder_in r s l acts = find (λ a. is_some (lock_at r s l a)) acts

abbrev pub first_holder : Readings → List ActNo → SpaceNo → ProcNo → Option ActNo
first_holder r ups s l = holder_in r s l (candidates r s ++ ups)

abbrev pub holder_text : Readings → List ActNo → SpaceNo → ProcNo → List ℕ
holder_text r ups s l = held_if r s l (first_holder r ups s l)
