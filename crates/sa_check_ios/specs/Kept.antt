-- How the I/Os under way are kept.
use Rattle.std.specs.Prelude.{◌≡◌, ℕ, ◌<◌, Bool, false, List, [], ◌∷◌, length, Option, Some, None, slice_index_or}
use Rattle.std.specs.List.{list_any}
use Rattle.sa_devices.specs.Ios.{Io, sooner_of, fetches}

-- the one with the least end, and of these the one with the least number
abbrev pub soonest_of : List Io → Option Io
soonest_of [] = None
soonest_of (io ∷ ios) = Some (sooner_of io (soonest_of ios))

-- of two that may be there the one that comes first
abbrev pub nearer : Option Io → Option Io → Option Io
nearer None b = b
nearer (Some a) b = Some (sooner_of a b)

-- of each space: its upcall page is being fetched
pub record AreFetching (fetching : List Bool) (ios : List Io) : Type 0 where
  pub each : (s : ℕ) → s < length fetching → slice_index_or fetching s false ≡ list_any (fetches s) ios
