-- The marks above a lane.
use Rattle.std.specs.Prelude.{ℕ, ◌+◌, Bool, true, false, ◌&&◌, ◌==◌, List, [], ◌∷◌, ◌++◌, nat_lt, if◌then◌else◌}
use Rattle.sa_base.specs.declared.number.ProcNo.{ProcNo}
use Rattle.sa_base.specs.declared.record.Item.{Item}
use Rattle.sa_base.specs.declared.record.Record.{Record}
use Rattle.sa_base.specs.declared.record.Record.TheVariants.{Stop, Block, Unblock, Up, Told, Want, Line, Take, Free, Spin, Fetch, Fetched}
use Rattle.sa_shapes.specs.declared.marks.Stack.{Stack}
use Rattle.sa_shapes.specs.declared.shape.Shape.{Shape}
use Rattle.sa_shapes.specs.declared.shape.Shape.TheVariants.{Mark}
use Rattle.sa_shapes.specs.declared.shape.TheConstants.{TOP_ROW}
use Rattle.sa_shapes.specs.declared.window.Window.{Window}
use Rattle.sa_shapes.specs.Window.{place, is_inside}

-- an interrupt that is taken, a block and a return, an upcall and what it tells, a hint, a line that is raised, the lock of a list that is
-- taken, freed or spun on, and a fetch that begins or is over
abbrev pub has_mark : Record → Bool
has_mark (Stop s t a) = true
has_mark (Block s t a io) = true
has_mark (Unblock s t a) = true
has_mark (Up s a) = true
has_mark (Told note) = true
has_mark (Want s n) = true
has_mark (Line p) = true
has_mark (Take s l t) = true
has_mark (Free s l t) = true
has_mark (Spin l) = true
has_mark (Fetch s) = true
has_mark (Fetched s) = true
has_mark other = false

-- the lane of a record: a line's is that of its processor, any other's that of the processor whose turn it is
abbrev pub lane_of : ProcNo → Record → ProcNo
lane_of proc (Line p) = p
lane_of proc other = proc

abbrev pub is_marked : ProcNo → Item → Bool
is_marked lane i = has_mark i.what && (lane_of i.proc i.what).0 == lane.0

-- the marks of one event are one over another, up to the top row
abbrev pub row_at : Stack → ℕ → ℕ
row_at s event = if s.event == event then s.height else 0

abbrev pub height_over : ℕ → ℕ
height_over row = if nat_lt row TOP_ROW then row + 1 else TOP_ROW

-- the mark of an item, where its event is drawn
abbrev pub mark_at : Window → ProcNo → ℕ → Item → List Shape
mark_at w lane row i =
    if is_inside w i.event then Mark (record { lane = lane; at = place w i.event; row = row; item = i }) ∷ [] else []

-- the marks of a lane, from a stack on
abbrev pub marks_from : Window → ProcNo → Stack → List Item → List Shape
marks_from w lane s [] = []
marks_from w lane s (i ∷ is) =
    if is_marked lane i
    then mark_at w lane (row_at s i.event) i
    ++ marks_from w lane (record { event = i.event; height = height_over (row_at s i.event) }) is
    else marks_from w lane s is

abbrev pub marks : Window → List Item → ProcNo → List Shape
marks w items lane = marks_from w lane (record { event = 0; height = 0 }) items
