-- What is drawn of the shapes, and the whole file.
use Rattle.std.specs.Prelude.{ℕ, ◌+◌, ◌-◌, ◌^◌, Bool, List, [], ◌++◌, min, nat_lt, codes, if◌then◌else◌}
use Rattle.std.specs.List.{flat_map, range_with_len}
use Rattle.sa_base.specs.declared.record.Item.{Item}
use Rattle.sa_base.specs.declared.record.Record.{Record}
use Rattle.sa_shapes.specs.declared.look.Look.{Look}
use Rattle.sa_shapes.specs.declared.picture.Picture.{Picture}
use Rattle.sa_shapes.specs.declared.shape.Mark.{Mark}
use Rattle.sa_shapes.specs.declared.shape.Shape.{Shape}
use Rattle.sa_shapes.specs.declared.shape.Shape.TheVariants as shape
use Rattle.sa_shapes.specs.declared.shape.Shown.{Shown}
use Rattle.sa_shapes.specs.declared.shape.Shown.TheVariants as shown
use Rattle.sa_shapes.specs.declared.shape.Stretch.{Stretch}
use Rattle.sa_shapes.specs.declared.shape.Track.{Track}
use Rattle.sa_shapes.specs.declared.shape.Track.TheVariants as track
use Rattle.sa_shapes.specs.declared.window.Window.{Window}
use Rattle.sa_trace.specs.TraceText.{line_of}
use Rattle.sa_svg.specs.declared.layout.Layout.{Layout}
use Rattle.sa_svg.specs.declared.layout.TheConstants.{BAR_HEIGHT}
use Rattle.sa_svg.specs.Markup.{rect, text_at, titled, numbered}
use Rattle.sa_svg.specs.Layout.{layout_of, band_of, pieces, piece_from, piece_to, x_of, span_of, bar_y, mark_y, space_base, steps, has_room}
use Rattle.sa_svg.specs.Words.{look_class, look_word, aimed_count, mark_class, mark_word}
use Rattle.sa_svg.specs.Titles.{stretch_title}
use Rattle.sa_svg.specs.Head.{head_text}

-- words of a class in a shape, where they have room
abbrev pub words_at : List ℕ → ℕ → ℕ → ℕ → List ℕ → List ℕ
words_at class x y width words = if has_room width words then text_at class x y words else []

-- the words of looks name the space where there are several
abbrev pub names_spaces : Layout → Bool
names_spaces l = nat_lt 1 l.spaces

-- what a processor does: a bar, and its word in it
unfoldable pub bar_text : Bool → ℕ → ℕ → ℕ → Look → List ℕ
bar_text names x y width look =
    rect (look_class look) (record { x = x; y = y; width = width; height = BAR_HEIGHT })
    ++ words_at (codes "w") (x + 2) (y + 14) width (look_word names look)

-- a demand: a line as high as it, and its number
unfoldable pub demand_text : ℕ → ℕ → ℕ → ℕ → List ℕ
demand_text x y width n =
    rect (codes "d") (record { x = x; y = y; width = width; height = 2 }) ++ words_at (codes "w") (x + 2) (y - 2) width (numbered [] n)

-- the processors that are aimed at a space: a block as high as they are many
abbrev pub aimed_text : ℕ → ℕ → ℕ → ℕ → ℕ → List ℕ
aimed_text x base width high s = rect (numbered (codes "a s") s) (record { x = x; y = base - high; width = width; height = high })

-- what is drawn of a thing that is shown in a band
abbrev pub drawn_by : Layout → ℕ → ℕ → ℕ → Track → Shown → List ℕ
drawn_by l band x width (track.Lane p) (shown.Look look) = bar_text (names_spaces l) x (bar_y l band p.0) width look
drawn_by l band x width (track.Demand s) (shown.Demand n) = demand_text x (space_base l band s.0 - steps l n) width n
drawn_by l band x width (track.Aimed s) (shown.Aimed aims) = aimed_text x (space_base l band s.0) width (steps l (aimed_count aims)) s.0
drawn_by l band x width t v = []

-- a stretch: its piece in one band after another
abbrev pub piece_in : Layout → Stretch → ℕ → List ℕ
piece_in l s band =
    drawn_by l band (x_of l (piece_from l s band)) (span_of l (piece_from l s band) (piece_to l s.to band)) s.track s.shown

abbrev pub piece_text : Layout → Stretch → ℕ → List ℕ
piece_text l s k = piece_in l s (min (band_of l s.from + k) (2 ^ 16 - 1))

abbrev pub stretch_text : Layout → Stretch → List ℕ
stretch_text l s = flat_map (piece_text l s) (range_with_len 0 (pieces l s))

-- a mark: a box as wide as its event, and its word
abbrev pub mark_at_text : ℕ → ℕ → ℕ → Record → List ℕ
mark_at_text x y unit what =
    rect (mark_class what) (record { x = x; y = y; width = unit; height = 12 }) ++ words_at (codes "m") (x + 1) (y + 9) (unit + 8) (mark_word what)

abbrev pub mark_text : Layout → Mark → List ℕ
mark_text l m = mark_at_text (x_of l m.at) (mark_y l (band_of l m.at) m.lane.0 m.row) l.unit m.item.what

-- a shape with its title: the lines of the trace that it stands for
abbrev pub shape_text : Layout → Window → List Item → Shape → List ℕ
shape_text l w items (shape.Stretch s) = titled (stretch_title w items s) (stretch_text l s)
shape_text l w items (shape.Mark m) = titled (line_of m.item) (mark_text l m)

-- the whole file: what is always there, and the shapes in their order
abbrev pub file_text : Layout → Window → List Item → List Shape → List ℕ
file_text l w items shapes = head_text l w ++ flat_map (shape_text l w items) shapes ++ codes "</svg>\n"

unfoldable pub svg_text : Picture → List Item → ℕ → List ℕ
svg_text p items width = file_text (layout_of p width) p.window items p.shapes.items
