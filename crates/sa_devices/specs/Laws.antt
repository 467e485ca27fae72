-- What holds of I/Os, whichever they are.
use Rattle.std.specs.Prelude.{◌≡◌, ℕ, ◌<◌, ◌≤◌, ◌⊎◌, List, Contains}
use Rattle.sa_devices.specs.Ios.{Io}

-- a does not come after b
abbrev pub IsNoLater : Io → Io → Type 0
IsNoLater a b = (a.ends < b.ends) ⊎ ((a.ends ≡ b.ends) × (a.number ≤ b.number))

-- this I/O is under way and due at the event, and none that is due then comes before it
pub record IsSoonest (event : ℕ) (ios : List Io) (d : Io) : Type 0 where
  pub under_way : Contains ios d
  pub due : d.ends ≤ event
  pub first : (io : Io) → Contains ios io → io.ends ≤ event → IsNoLater d io

-- none is due at the event
abbrev pub NoneIsDue : ℕ → List Io → Type 0
NoneIsDue event ios = (io : Io) → Contains ios io → event < io.ends
