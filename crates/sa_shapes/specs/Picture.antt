-- The whole picture: its shapes, as a function of the items and the window.
use Rattle.std.specs.Prelude.{◌≡◌, ℕ, ◌+◌, true, false, List, [], ◌∷◌, ◌++◌, Option, Some, None, max, nat_lt, if◌then◌else◌}
use Rattle.std.specs.List.{flat_map, range_with_len}
use Rattle.sa_base.specs.declared.record.Item.{Item}
use Rattle.sa_shapes.specs.declared.extent.Extent.{Extent}
use Rattle.sa_shapes.specs.declared.picture.Picture.{Picture}
use Rattle.sa_shapes.specs.declared.shape.Shape.{Shape}
use Rattle.sa_shapes.specs.declared.shape.Shape.TheVariants.{Stretch, Mark}
use Rattle.sa_shapes.specs.declared.shape.Track.TheVariants.{Lane, Demand, Aimed}
use Rattle.sa_shapes.specs.declared.shape.TheConstants.{TOP_ROW}
use Rattle.sa_shapes.specs.declared.window.Window.{Window}
use Rattle.sa_shapes.specs.Stretches.{stretches}
use Rattle.sa_shapes.specs.Marks.{marks}
use Rattle.sa_shapes.specs.Extent.{extent_of, can_be_drawn}

-- of a space the processors aimed at it and its demand, of a lane what the processor does and its marks
abbrev pub space_shapes : Window → List Item → ℕ → List Shape
space_shapes w items s = stretches w items (Aimed (record { 0 = s })) ++ stretches w items (Demand (record { 0 = s }))

abbrev pub lane_shapes : Window → List Item → ℕ → List Shape
lane_shapes w items p = stretches w items (Lane (record { 0 = p })) ++ marks w items (record { 0 = p })

abbrev pub spaces_shapes : Window → List Item → ℕ → List Shape
spaces_shapes w items spaces = flat_map (space_shapes w items) (range_with_len 0 spaces)

abbrev pub lanes_shapes : Window → List Item → ℕ → List Shape
lanes_shapes w items lanes = flat_map (lane_shapes w items) (range_with_len 0 lanes)

-- the shapes: those of the spaces, and those of the lanes
abbrev pub shapes_by : Window → List Item → Extent → List Shape
shapes_by w items e = spaces_shapes w items e.spaces ++ lanes_shapes w items e.lanes

abbrev pub shapes_of : Window → List Item → List Shape
shapes_of w items = shapes_by w items (extent_of w items)

-- how many rows of marks there are up to this one, and in all
abbrev pub rows_to : ℕ → ℕ
rows_to row = if nat_lt row TOP_ROW then row + 1 else TOP_ROW + 1

abbrev pub depth_with : ℕ → Shape → ℕ
depth_with depth (Stretch s) = depth
depth_with depth (Mark m) = max depth (rows_to m.row)

abbrev pub depth_from : ℕ → List Shape → ℕ
depth_from depth [] = depth
depth_from depth (s ∷ shapes) = depth_from (depth_with depth s) shapes

abbrev pub depth_of : List Shape → ℕ
depth_of shapes = depth_from 0 shapes

-- the picture has this window and these shapes, and says how many lanes, spaces and rows they have
pub record HasShapes (w : Window) (items : List Item) (p : Picture) : Type 0 where
  pub window : p.window ≡ w
  pub lanes : p.lanes ≡ (extent_of w items).lanes
  pub spaces : p.spaces ≡ (extent_of w items).spaces
  pub depth : p.depth ≡ depth_of (shapes_of w items)
  pub shapes : p.shapes.items ≡ shapes_of w items

-- the picture, where there is no more to draw than a picture may have
abbrev pub IsPictureOf : Window → List Item → Option Picture → Type 0
IsPictureOf w items None = can_be_drawn (extent_of w items) ≡ false
IsPictureOf w items (Some p) = (can_be_drawn (extent_of w items) ≡ true) × HasShapes w items p
