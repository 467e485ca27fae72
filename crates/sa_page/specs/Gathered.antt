-- The event with which some items begin.
use Rattle.std.specs.Prelude.{◌≡◌, ◌≤◌, ◌<◌, List, [], ◌∷◌, length, Option, Some, None}
use Rattle.sa_base.specs.declared.record.Item.{Item}
use Rattle.sa_laws.specs.Event.{events_of}
use Rattle.sa_check_moment.specs.Seen.{event}
use Rattle.sa_page.specs.declared.event.Gathered.{Gathered}

-- the event that begins with an item, where these are the items after it
pub record IsGathered (first : Item) (others : List Item) (g : Gathered) : Type 0 where
  pub events : events_of (first ∷ others) ≡ event g.first.event g.first.proc g.records.items ∷ events_of g.rest.now
  pub fewer : length g.rest.now ≤ length others

-- the first event of some items, and what is left
pub record IsFirst (items : List Item) (g : Gathered) : Type 0 where
  pub events : events_of items ≡ event g.first.event g.first.proc g.records.items ∷ events_of g.rest.now
  pub fewer : length g.rest.now < length items

abbrev pub Gathers : List Item → Option Gathered → Type 0
Gathers items None = items ≡ []
Gathers items (Some g) = IsFirst items g
