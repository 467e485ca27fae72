-- Which lives are in: by FastThreads' test, or where their last own event settles them and a pair of their space exists.
use Rattle.std.specs.Prelude.{◌≡◌, Bool, true, false, ◌&&◌, ◌||◌, if◌then◌else◌, List, [], ◌∷◌}
use Rattle.std.specs.List.{list_any}
use Rattle.sa_base.specs.declared.record.Record.{Record}
use Rattle.sa_base.specs.declared.record.Record.TheVariants.{Stop, Block, Unblock, Up, Move, Want, Line, Fetched, GiveBack}
use Rattle.sa_spaces.specs.Workload.{WorkloadView}
use Rattle.sa_laws.specs.Event.{Event}
use Rattle.sa_laws.specs.Readings.{Readings}
use Rattle.sa_laws.specs.History.{Test, is_inside, behind, behind_all}
use Rattle.sa_laws.specs.Shape.{own_part}
use Rattle.sa_ranks.specs.Pairs.{has_pair}

-- an event has an entry of the kernel, which closes it, where a record of one is in it: of an interrupt or an upcall, a
-- completion, a block, the return of activations; or where it begins with a hint, or with a line that was asked for
abbrev pub is_of_entry : Record → Bool
is_of_entry (Stop s t a) = true
is_of_entry (Block s t a io) = true
is_of_entry (Unblock s t a) = true
is_of_entry (Up s a) = true
is_of_entry (Move old new) = true
is_of_entry (Fetched s) = true
is_of_entry (GiveBack a) = true
is_of_entry _ = false

abbrev pub begins_entry : Record → Bool
begins_entry (Want s n) = true
begins_entry (Line q) = true
begins_entry _ = false

abbrev pub has_entry : List Record → Bool
has_entry [] = false
has_entry (first ∷ others) = begins_entry first || list_any is_of_entry (first ∷ others)

-- the moment at which pairs are asked for: at the event's end; but where only its slice closes it, directly before the
-- closing
abbrev pub settling : WorkloadView → Readings → Event → Readings → Readings
settling w before e after = if has_entry e.records then after else behind w e before (own_part e.records)

abbrev pub is_inside_or_urged : Test
is_inside_or_urged w before e after settled life =
    is_inside w before e after settled life || (settled && has_pair w (settling w before e after) life.space)

-- LAWS: after an entry's closing, and before a slice's
abbrev pub ClosedByAnEntry : Type 0
ClosedByAnEntry =
    (w : WorkloadView) (before : Readings) (e : Event) → has_entry e.records ≡ true
    → settling w before e (behind_all w e before) ≡ behind_all w e before

abbrev pub ClosedByItsSlice : Type 0
ClosedByItsSlice =
    (w : WorkloadView) (before after : Readings) (e : Event) → has_entry e.records ≡ false
    → settling w before e after ≡ behind w e before (own_part e.records)
