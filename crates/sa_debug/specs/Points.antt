-- Breakpoints.
use Rattle.std.specs.Prelude.{◌≡◌, Bool, true, false, not, ◌&&◌, ◌==◌, ◌%◌, List, slice_index_or}
use Rattle.sa_debug.specs.declared.script.command.Point.{Point}

abbrev pub same_point : Point → Point → Bool
same_point a b = a.space.0 == b.space.0 && a.thread.0 == b.thread.0 && a.place == b.place

abbrev pub is_other : Point → Point → Bool
is_other a b = not (same_point a b)

-- the slots of the point's thread and of its place are set
abbrev pub IsMarked : List Bool → List Bool → Point → Type 0
IsMarked threads places p = (slice_index_or threads (p.thread.0 % 64) false ≡ true) × (slice_index_or places (p.place % 64) false ≡ true)
