-- The window: the events that are drawn.
use Rattle.std.specs.Prelude.{ℕ, ◌+◌, ◌-◌, Bool, ◌&&◌, Option, Some, None, nat_lt, nat_le, min, if◌then◌else◌}
use Rattle.sa_shapes.specs.declared.window.Window.{Window}
use Rattle.sa_shapes.specs.declared.window.TheConstants.{MAX_COUNT}

-- the place of an event, counted from the first that is drawn; those before are put at its beginning, those after at its end
abbrev pub place : Window → ℕ → ℕ
place w event = min (event - w.from) w.count

-- the event is drawn
abbrev pub is_inside : Window → ℕ → Bool
is_inside w event = nat_le w.from event && nat_lt (event - w.from) w.count

-- the window from one event to another, if it is not too long
abbrev pub window_to : ℕ → ℕ → Option Window
window_to from to = if nat_lt (to - from) MAX_COUNT then Some (record { from = from; count = (to - from) + 1 }) else None
