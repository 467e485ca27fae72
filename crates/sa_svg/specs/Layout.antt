-- Where things are, in pixels from the upper left corner.
use Rattle.std.specs.Prelude.{ℕ, ◌+◌, ◌-◌, ◌*◌, ◌/◌, ◌%◌, ◌==◌, ◌^◌, Bool, List, length, min, max, nat_le, nat_lt, if◌then◌else◌}
use Rattle.sa_shapes.specs.declared.picture.Picture.{Picture}
use Rattle.sa_shapes.specs.declared.shape.Stretch.{Stretch}
use Rattle.sa_svg.specs.declared.layout.Layout.{Layout}
use Rattle.sa_svg.specs.declared.layout.TheConstants.{SIDE, MARGIN, LEGEND_WIDTH, MAX_UNIT, MAX_BANDS, UNIT_OF_STROKES, TOP, AXIS, BAND_GAP, SPACE_HEIGHT, STEPS_HEIGHT, MARK_HEIGHT, LANE_GAP}

-- how many pixels of a width there are for events
abbrev pub room_of : ℕ → ℕ
room_of width = width - (SIDE + MARGIN)

-- so wide is an event, that the events have room in so many bands if they can; at least one pixel
abbrev pub unit_of : ℕ → ℕ → ℕ
unit_of width count = min (max (room_of width / max ((count + (MAX_BANDS - 1)) / MAX_BANDS) 1) 1) MAX_UNIT

-- after how many events of this width the axis has another number
abbrev pub tick_step : ℕ → ℕ
tick_step unit = if nat_le 10 unit then 5 else (if nat_le 5 unit then 10 else (if nat_le 2 unit then 25 else 100))

-- so many events are in a band: all if they have room, else as many as have, up to a multiple of the axis's steps if there is one
abbrev pub per_by : ℕ → ℕ → ℕ → ℕ
per_by fit step count = if nat_le count fit then max count 1 else (if nat_lt fit step then max fit 1 else fit - fit % step)

abbrev pub per_of : ℕ → ℕ → ℕ → ℕ
per_of width unit count = per_by (room_of width / max unit 1) (tick_step unit) count

abbrev pub layout_by : ℕ → ℕ → ℕ → ℕ → ℕ → ℕ → Layout
layout_by width unit count lanes spaces depth = record {
  unit = unit;
  per = per_of width unit count;
  count = count;
  lanes = lanes;
  spaces = spaces;
  depth = depth;
}

abbrev pub layout_of : Picture → ℕ → Layout
layout_of p width = layout_by width (unit_of width p.window.count) p.window.count p.lanes p.spaces p.depth

-- the band of the event at a place, and how many bands there are
abbrev pub band_of : Layout → ℕ → ℕ
band_of l at = at / max l.per 1

abbrev pub bands : Layout → ℕ
bands l = if l.count == 0 then 0 else min (band_of l (l.count - 1) + 1) (2 ^ 16 - 1)

-- a stretch has a piece in each band from that of its first event to that of its last; what of it is in a band
abbrev pub pieces : Layout → Stretch → ℕ
pieces l s = if nat_le s.to s.from then 0 else min (band_of l (s.to - 1) - band_of l s.from + 1) (2 ^ 16 - 1)

abbrev pub piece_from : Layout → Stretch → ℕ → ℕ
piece_from l s band = min (max s.from (band * l.per)) s.to

abbrev pub piece_to : Layout → ℕ → ℕ → ℕ
piece_to l to band = min (band * l.per + l.per) to

-- each event has as many pixels as any other
abbrev pub x_of : Layout → ℕ → ℕ
x_of l at = SIDE + at % max l.per 1 * l.unit

abbrev pub span_of : Layout → ℕ → ℕ → ℕ
span_of l from to = (to - from) * l.unit

abbrev pub has_strokes : Layout → Bool
has_strokes l = nat_le UNIT_OF_STROKES l.unit

-- a word has room in a shape: a letter has five pixels
abbrev pub has_room : ℕ → List ℕ → Bool
has_room width word = nat_le (length word) ((width - 2) / 5)

-- a lane has its rows of marks, and its bar; a band its numbers of events, its spaces and its lanes
abbrev pub lane_height : Layout → ℕ
lane_height l = l.depth * MARK_HEIGHT + LANE_GAP

abbrev pub band_height : Layout → ℕ
band_height l = AXIS + l.spaces * SPACE_HEIGHT + l.lanes * lane_height l + BAND_GAP

abbrev pub band_top : Layout → ℕ → ℕ
band_top l band = TOP + band * band_height l

abbrev pub tracks_top : Layout → ℕ → ℕ
tracks_top l band = band_top l band + AXIS

abbrev pub tracks_height : Layout → ℕ
tracks_height l = band_height l - (AXIS + BAND_GAP)

-- the spaces of a band are one below another; that many processors are so high over the line of a space
abbrev pub space_base : Layout → ℕ → ℕ → ℕ
space_base l band s = tracks_top l band + s * SPACE_HEIGHT + 46

abbrev pub steps : Layout → ℕ → ℕ
steps l n = (STEPS_HEIGHT / (l.lanes + 1)) * min n (l.lanes + 1)

-- below them are the lanes
abbrev pub lane_top : Layout → ℕ → ℕ → ℕ
lane_top l band p = tracks_top l band + l.spaces * SPACE_HEIGHT + p * lane_height l

abbrev pub bar_y : Layout → ℕ → ℕ → ℕ
bar_y l band p = lane_top l band p + l.depth * MARK_HEIGHT + 6

abbrev pub mark_y : Layout → ℕ → ℕ → ℕ → ℕ
mark_y l band p row = bar_y l band p - row * MARK_HEIGHT - MARK_HEIGHT

abbrev pub width_of : Layout → ℕ
width_of l = max LEGEND_WIDTH (SIDE + min l.count l.per * l.unit + MARGIN)

abbrev pub height_of : Layout → ℕ
height_of l = band_top l (bands l)
