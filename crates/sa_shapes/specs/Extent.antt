-- How much there is to draw.
use Rattle.std.specs.Prelude.{ℕ, ◌+◌, Bool, ◌&&◌, List, [], ◌∷◌, Option, Some, None, max, nat_le, if◌then◌else◌}
use Rattle.sa_base.specs.declared.number.SpaceNo.{SpaceNo}
use Rattle.sa_base.specs.declared.record.Item.{Item}
use Rattle.sa_base.specs.declared.record.Record.{Record}
use Rattle.sa_base.specs.declared.record.Record.TheVariants.{Ins, Out, Run, Stop, Block, Unblock, Cont, Back, Ready, Take, Free, Up, Move, Want, Aim, Fetch, Fetched}
use Rattle.sa_shapes.specs.declared.extent.Extent.{Extent}
use Rattle.sa_shapes.specs.declared.extent.TheConstants.{MAX_LINES}
use Rattle.sa_shapes.specs.declared.shape.TheConstants.{MAX_LANES}
use Rattle.sa_shapes.specs.declared.window.Window.{Window}
use Rattle.sa_shapes.specs.Window.{is_inside}
use Rattle.sa_shapes.specs.Marks.{lane_of}

-- the space that a record names
abbrev pub space_of : Record → Option SpaceNo
space_of (Ins s t i) = Some s
space_of (Out s t v) = Some s
space_of (Run s t) = Some s
space_of (Stop s t a) = Some s
space_of (Block s t a io) = Some s
space_of (Unblock s t a) = Some s
space_of (Cont s t) = Some s
space_of (Back s t) = Some s
space_of (Ready s t) = Some s
space_of (Take s l t) = Some s
space_of (Free s l t) = Some s
space_of (Up s a) = Some s
space_of (Move o n) = n
space_of (Want s n) = Some s
space_of (Aim p s) = s
space_of (Fetch s) = Some s
space_of (Fetched s) = Some s
space_of other = None

-- as many lanes and spaces as to have the one of this number
abbrev pub above_space : Option SpaceNo → ℕ
above_space None = 0
above_space (Some s) = s.0 + 1

abbrev pub with_line : Window → ℕ → ℕ → ℕ
with_line w lines event = if is_inside w event && nat_le lines MAX_LINES then lines + 1 else lines

abbrev pub with_item : Window → Extent → Item → Extent
with_item w e i = record {
  lanes = max (max e.lanes (i.proc.0 + 1)) ((lane_of i.proc i.what).0 + 1);
  spaces = max e.spaces (above_space (space_of i.what));
  lines = with_line w e.lines i.event;
}

abbrev pub extent_from : Window → Extent → List Item → Extent
extent_from w e [] = e
extent_from w e (i ∷ is) = extent_from w (with_item w e i) is

-- a lane for each processor that is named, a space for each up to the last, and how many items are drawn, up to one too many
abbrev pub extent_of : Window → List Item → Extent
extent_of w items = extent_from w (record { lanes = 0; spaces = 0; lines = 0 }) items

abbrev pub can_be_drawn : Extent → Bool
can_be_drawn e = nat_le e.lanes MAX_LANES && nat_le e.spaces MAX_LANES && nat_le e.lines MAX_LINES
