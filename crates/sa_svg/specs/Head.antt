-- What every picture has: its size, colours, legend, axis and names.
use Rattle.std.specs.Prelude.{ℕ, ◌+◌, ◌-◌, ◌*◌, ◌/◌, ◌%◌, ◌^◌, ◌==◌, List, [], ◌++◌, min, codes, if◌then◌else◌}
use Rattle.std.specs.List.{flat_map, range_with_len}
use Rattle.sa_shapes.specs.declared.window.Window.{Window}
use Rattle.sa_svg.specs.declared.head.Sample.{Sample}
use Rattle.sa_svg.specs.declared.head.Sample.TheVariants.{Thread, Package, Idle, Section, Unowned, Interrupt, Block, Want, Upcall, Lock, Fetch, Demand, Aimed, Virtual}
use Rattle.sa_svg.specs.declared.head.TheConstants.{LEGEND, SHAPES_STYLE, COLOURS_STYLE, MARKS_STYLE, STROKES_STYLE, FLAT_STYLE}
use Rattle.sa_svg.specs.declared.layout.Layout.{Layout}
use Rattle.sa_svg.specs.declared.markup.Rect.{Rect}
use Rattle.sa_svg.specs.Markup.{number, rect, text_at, numbered}
use Rattle.sa_svg.specs.Layout.{band_of, bands, x_of, tracks_height, tracks_top, space_base, bar_y, width_of, height_of, has_strokes, tick_step}

-- the tag of the whole, with its size
unfoldable pub size_attrs : ℕ → ℕ → List ℕ
size_attrs width height =
    number (codes "width") width ++ number (codes "height") height ++ numbered (codes " viewBox=\"0 0 ") width ++ numbered (codes " ") height

unfoldable pub opened : List ℕ → ℕ → ℕ → List ℕ
opened tag width height = tag ++ size_attrs width height ++ codes "\">\n"

abbrev pub open_text : Layout → List ℕ
open_text l = opened (codes "<svg xmlns=\"http://www.w3.org/2000/svg\"") (width_of l) (height_of l)

-- the style sheets, and the white ground
unfoldable pub sheet : List ℕ → List ℕ
sheet rules = codes "<style>" ++ rules ++ codes "</style>\n"

abbrev pub outlines : Layout → List ℕ
outlines l = if has_strokes l then STROKES_STYLE.now else FLAT_STYLE.now

unfoldable pub style_text : Layout → List ℕ
style_text l = sheet SHAPES_STYLE.now ++ sheet COLOURS_STYLE.now ++ sheet MARKS_STYLE.now ++ sheet (outlines l)

unfoldable pub ground_text : Layout → List ℕ
ground_text l = rect (codes "b") (record { x = 0; y = 0; width = width_of l; height = height_of l }) ++ codes "\n"

-- words outside of the shapes
abbrev pub words : ℕ → ℕ → List ℕ → List ℕ
words x y text = text_at (codes "n") x y text

-- the legend: samples, and what they mean
abbrev pub sample_box : ℕ → ℕ → Rect
sample_box x y = record { x = x; y = y; width = 10; height = 10 }

unfoldable pub legend_entry : List ℕ → ℕ → ℕ → List ℕ → List ℕ
legend_entry class x y text = rect class (sample_box x y) ++ words (x + 14) (y + 8) text ++ codes "\n"

abbrev pub sample_text : Sample → List ℕ
sample_text Thread = legend_entry (codes "t s0") 6 38 (codes "tN: thread N runs")
sample_text Package = legend_entry (codes "p s0") 136 38 (codes "p: the package, LN: at list N")
sample_text Idle = legend_entry (codes "i s0") 326 38 (codes "i: a look in vain")
sample_text Section = legend_entry (codes "c s0") 446 38 (codes "c: a section in its copy")
sample_text Unowned = legend_entry (codes "u") 606 38 (codes "-: owned by none")
sample_text Interrupt = legend_entry (codes "mi") 6 56 (codes "line, stop: an interrupt is asked for, is there")
sample_text Block = legend_entry (codes "mb") 296 56 (codes "block, ret: an I/O begins, is over")
sample_text Want = legend_entry (codes "mh") 516 56 (codes "want N: a demand of N processors")
sample_text Upcall = legend_entry (codes "mu") 6 74 (codes "up N: an upcall in activation N; +P, preN, blkN, retN: it tells so")
sample_text Lock = legend_entry (codes "ml") 406 74 (codes "take, free, spin: at a list's lock")
sample_text Fetch = legend_entry (codes "mf") 616 74 (codes "ftch, page: of the upcall page")
sample_text Demand = legend_entry (codes "d") 6 92 (codes "the demand of a space")
sample_text Aimed = legend_entry (codes "a s0") 156 92 (codes "the processors aimed at it")
sample_text Virtual = legend_entry (codes "p s0") 336 92 (codes "v, g: a virtual processor is placed, goes on")

unfoldable pub legend_text : List ℕ
legend_text = flat_map sample_text LEGEND

abbrev pub space_entry : ℕ → List ℕ
space_entry s = legend_entry (numbered (codes "t s") s) ((s % 8) * 84 + 6) ((s / 8) * 14 + 6) (numbered (codes "space ") s)

abbrev pub spaces_legend : ℕ → List ℕ
spaces_legend spaces = flat_map space_entry (range_with_len 0 spaces)

-- the axis: the number of an event at each multiple of a distance, and a line down the band
abbrev pub event_at : Window → ℕ → ℕ
event_at w at = min (w.from + at) (2 ^ 64 - 1)

abbrev pub tick_line : ℕ → ℕ → ℕ → ℕ → List ℕ
tick_line x y height event =
    rect (codes "g") (record { x = x; y = y; width = 1; height = height }) ++ words x (y - 4) (numbered [] event) ++ codes "\n"

abbrev pub tick : Layout → Window → ℕ → List ℕ
tick l w at =
    if event_at w at % tick_step l.unit == 0
    then tick_line (x_of l at) (tracks_top l (band_of l at)) (tracks_height l) (event_at w at)
    else []

abbrev pub ticks : Layout → Window → List ℕ
ticks l w = flat_map (tick l w) (range_with_len 0 l.count)

-- the names of the spaces and of the lanes, to the left in each band
abbrev pub space_name : Layout → ℕ → ℕ → List ℕ
space_name l band s = words 6 (space_base l band s - 2) (numbered (codes "space ") s) ++ codes "\n"

abbrev pub space_names : Layout → ℕ → List ℕ
space_names l band = flat_map (space_name l band) (range_with_len 0 l.spaces)

abbrev pub lane_name : Layout → ℕ → ℕ → List ℕ
lane_name l band p = words 6 (bar_y l band p + 14) (numbered (codes "processor ") p) ++ codes "\n"

abbrev pub lane_names : Layout → ℕ → List ℕ
lane_names l band = flat_map (lane_name l band) (range_with_len 0 l.lanes)

abbrev pub band_names : Layout → ℕ → List ℕ
band_names l band = space_names l band ++ lane_names l band

abbrev pub names : Layout → List ℕ
names l = flat_map (band_names l) (range_with_len 0 (bands l))

-- all that comes before the shapes
unfoldable pub head_text : Layout → Window → List ℕ
head_text l w = open_text l ++ style_text l ++ ground_text l ++ legend_text ++ spaces_legend l.spaces ++ ticks l w ++ names l
