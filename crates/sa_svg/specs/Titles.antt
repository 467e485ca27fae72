-- The titles of shapes: what they show in words, and the lines of the trace that they stand for.
use Rattle.std.specs.Prelude.{ℕ, ◌-◌, Bool, true, false, ◌&&◌, ◌==◌, List, [], ◌++◌, take, drop, codes, if◌then◌else◌}
use Rattle.std.specs.List.{flat_map}
use Rattle.sa_base.specs.declared.number.SpaceNo.{SpaceNo}
use Rattle.sa_base.specs.declared.record.Item.{Item}
use Rattle.sa_base.specs.declared.record.Record.{Record}
use Rattle.sa_base.specs.declared.record.Record.TheVariants.{Want, Aim}
use Rattle.sa_shapes.specs.declared.shape.Track.{Track}
use Rattle.sa_shapes.specs.declared.shape.Track.TheVariants.{Lane, Demand, Aimed}
use Rattle.sa_shapes.specs.declared.shape.Shown.{Shown}
use Rattle.sa_shapes.specs.declared.shape.Shown.TheVariants as shown
use Rattle.sa_shapes.specs.declared.shape.Stretch.{Stretch}
use Rattle.sa_shapes.specs.declared.window.Window.{Window}
use Rattle.sa_shapes.specs.Window.{is_inside}
use Rattle.sa_trace.specs.TraceText.{line_of}
use Rattle.sa_svg.specs.Markup.{numbered}
use Rattle.sa_svg.specs.Words.{look_title, aimed_count}

-- the items that a track follows: of a lane those of its processor, of a demand the space's announcements, of the aimed processors
-- all aims
abbrev pub is_want : SpaceNo → Record → Bool
is_want s (Want u n) = u.0 == s.0
is_want s other = false

abbrev pub is_aim : Record → Bool
is_aim (Aim p u) = true
is_aim other = false

abbrev pub concerns : Track → Item → Bool
concerns (Lane p) i = i.proc.0 == p.0
concerns (Demand s) i = is_want s i.what
concerns (Aimed s) i = is_aim i.what

-- the lines of those of these items that are drawn
abbrev pub line_if : Window → Track → Item → List ℕ
line_if w t i = if is_inside w i.event && concerns t i then line_of i else []

abbrev pub lines_of : Window → Track → List Item → List ℕ
lines_of w t items = flat_map (line_if w t) items

-- the items from one index to another
abbrev pub part : List Item → ℕ → ℕ → List Item
part items first last = take (last - first) (drop first items)

abbrev pub track_title : Track → List ℕ
track_title (Lane p) = numbered (codes "processor ") p.0
track_title (Demand s) = numbered (codes "space ") s.0
track_title (Aimed s) = numbered (codes "space ") s.0

abbrev pub shown_title : Shown → List ℕ
shown_title (shown.Look look) = codes ", " ++ look_title look
shown_title (shown.Demand n) = numbered (codes ": demand ") n
shown_title (shown.Aimed aims) = numbered (codes ": processors aimed at it ") (aimed_count aims)

-- the title of a stretch
abbrev pub stretch_title : Window → List Item → Stretch → List ℕ
stretch_title w items s = track_title s.track ++ shown_title s.shown ++ codes "\n" ++ lines_of w s.track (part items s.first s.last)
