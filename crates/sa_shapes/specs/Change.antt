-- What an item changes on a track.
use Rattle.std.specs.Prelude.{ℕ, Bool, false, not, ◌&&◌, ◌==◌, Option, Some, None, List, replicate, nat_lt, slice_index_or, slice_set, if◌then◌else◌}
use Rattle.sa_base.specs.declared.number.ProcNo.{ProcNo}
use Rattle.sa_base.specs.declared.number.SpaceNo.{SpaceNo}
use Rattle.sa_base.specs.declared.record.Item.{Item}
use Rattle.sa_base.specs.declared.record.Record.{Record}
use Rattle.sa_base.specs.declared.record.Record.TheVariants.{Want, Aim}
use Rattle.sa_shapes.specs.declared.look.Look.{Look}
use Rattle.sa_shapes.specs.declared.look.Look.TheVariants.{Unowned}
use Rattle.sa_shapes.specs.declared.shape.Track.{Track}
use Rattle.sa_shapes.specs.declared.shape.Track.TheVariants.{Lane}
use Rattle.sa_shapes.specs.declared.shape.Track.TheVariants as track
use Rattle.sa_shapes.specs.declared.shape.Shown.{Shown}
use Rattle.sa_shapes.specs.declared.shape.Shown.TheVariants as shown
use Rattle.sa_shapes.specs.declared.shape.TheConstants.{MAX_LANES}
use Rattle.sa_shapes.specs.Look.{look_after, same_look}

-- what a track shows before the first item: nobody owns the processor, wants one, or is aimed at
abbrev pub start : Track → Shown
start (Lane p) = shown.Look Unowned
start (track.Demand s) = shown.Demand 0
start (track.Aimed s) = shown.Aimed (replicate MAX_LANES false)

-- the space is this one
abbrev pub is_space : SpaceNo → Option SpaceNo → Bool
is_space s None = false
is_space s (Some u) = u.0 == s.0

-- the processor is among those that are aimed; these, and the processor among them or not
abbrev pub is_aimed : List Bool → ProcNo → Bool
is_aimed aims p = if nat_lt p.0 MAX_LANES then slice_index_or aims p.0 false else false

abbrev pub with_aim : List Bool → ProcNo → Bool → List Bool
with_aim aims p now = if nat_lt p.0 MAX_LANES then slice_set aims p.0 now else aims

-- a lane changes where the processor does another thing
abbrev pub look_change : Look → Look → Option Shown
look_change look next = if same_look look next then None else Some (shown.Look next)

-- a space's demand where it announces another
abbrev pub demand_change : SpaceNo → ℕ → Record → Option Shown
demand_change s n (Want u m) = if u.0 == s.0 && not (m == n) then Some (shown.Demand m) else None
demand_change s n other = None

-- the processors aimed at a space where one of them comes or goes
abbrev pub both : Bool → Bool → Bool
both a b = if a then b else not b

abbrev pub aims_change : ProcNo → List Bool → List Bool → Option Shown
aims_change p aims next = if both (is_aimed aims p) (is_aimed next p) then None else Some (shown.Aimed next)

abbrev pub aimed_change : SpaceNo → List Bool → Record → Option Shown
aimed_change s aims (Aim p u) = aims_change p aims (with_aim aims p (is_space s u))
aimed_change s aims other = None

-- what the track shows from the item on, where that is another thing than before it
abbrev pub change : Track → Shown → Item → Option Shown
change (Lane p) (shown.Look look) i = if i.proc.0 == p.0 then look_change look (look_after look i.what) else None
change (track.Demand s) (shown.Demand n) i = demand_change s n i.what
change (track.Aimed s) (shown.Aimed aims) i = aimed_change s aims i.what
change t v i = None
