-- What the cells of a life hold: where it is, its locks, and its hand.
use Rattle.std.specs.Prelude.{ℕ, ◌==◌, Bool, false, List, [], ◌++◌, codes, Option, Some, None, if◌then◌else◌}
use Rattle.std.specs.List.{flat_map, list_any}
use Rattle.sa_base.specs.declared.number.ThreadNo.{ThreadNo}
use Rattle.sa_base.specs.declared.number.ActNo.{ActNo}
use Rattle.sa_base.specs.declared.record.Note.{Note}
use Rattle.sa_base.specs.declared.record.Note.TheVariants.{Preempted, Blocked, Unblocked}
use Rattle.sa_laws.specs.State.{SpaceState, space_at}
use Rattle.sa_laws.specs.Life.{Life, Lock}
use Rattle.sa_laws.specs.Readings.{Readings, running_of, life_of, untold_of, counts}
use Rattle.sa_laws.specs.Record.{same_note}
use Rattle.sa_laws.specs.Step.{has_io}
use Rattle.sa_cells.specs.Pieces.{one, numbered, and_thread}

-- the life runs on its processor
abbrev pub is_act : ActNo → Option ActNo → Bool
is_act a None = false
is_act a (Some b) = b.0 == a.0

abbrev pub is_on : Readings → ActNo → Life → Bool
is_on r a life = is_act a (running_of r life.proc)

-- its space was not told of this yet
abbrev pub is_untold : Readings → Life → Note → Bool
is_untold r life note = list_any (same_note note) (untold_of r life.space)

-- where a life is that runs nowhere
abbrev pub off_text : Readings → ActNo → Life → List ℕ
off_text r a life =
    if has_io r a then (if is_untold r life (Blocked a) then codes "blocked, untold" else codes "blocked")
    else (if is_untold r life (Unblocked a) then codes "unblocked, untold"
    else (if is_untold r life (Preempted a) then codes "preempted, untold" else codes "over, and told"))

unfoldable pub resting_text : Readings → ActNo → Life → List ℕ
resting_text r a life = off_text r a life ++ and_thread life.thread

abbrev pub on_or_off : Readings → ActNo → Life → List ℕ
on_or_off r a life = if is_on r a life then numbered (codes "on processor ") life.proc.0 else resting_text r a life

unfoldable pub place_text : Readings → ActNo → Life → List ℕ
place_text r a life = one (codes "space ") life.space.0 (codes ", ") ++ on_or_off r a life

-- its locks, the one that is used next first, each with its thread
abbrev pub lock_text : Lock → List ℕ
lock_text lock = numbered (codes " list ") lock.list.0 ++ and_thread lock.thread

abbrev pub locks_text : List Lock → List ℕ
locks_text locks = flat_map lock_text locks

-- the threads that it is to make ready
abbrev pub hand_thread : SpaceState → ThreadNo → List ℕ
hand_thread x t = if counts x t then numbered (codes " ") t.0 else []

abbrev pub hand_text : Readings → Life → List ℕ
hand_text r life = flat_map (hand_thread (space_at r.state life.space)) life.hand

-- the same of a number; a number that is not in use has no life
abbrev pub of_life : (Life → List ℕ) → Option Life → List ℕ
of_life text None = codes "-"
of_life text (Some life) = text life

abbrev pub place_of : Readings → ActNo → List ℕ
place_of r a = of_life (place_text r a) (life_of r a)

abbrev pub locks_of : Readings → ActNo → List ℕ
locks_of r a = of_life (λ (life : Life). locks_text life.locks) (life_of r a)

abbrev pub hand_of : Readings → ActNo → List ℕ
hand_of r a = of_life (hand_text r) (life_of r a)
