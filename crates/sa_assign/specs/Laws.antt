-- What holds of changes of aims.
use Rattle.std.specs.Prelude.{◌≡◌, ℕ, ◌==◌, ◌<◌, ◌≤◌, Bool, false, ◌||◌, List, [], ◌∷◌, length, Option, Some, MatchOption}
use Rattle.sa_base.specs.declared.number.SpaceNo.{SpaceNo}
use Rattle.sa_base.specs.declared.record.Record.{Record}
use Rattle.sa_base.specs.declared.record.Record.TheVariants.{Line}
use Rattle.sa_share.specs.Share.{share_at}
use Rattle.sa_assign.specs.Aims.{Change, aim_at, aimed, choice, aims_with}

-- a change is due, the aims before it being these
pub record IsDue (shares : List ℕ) (marks : List Bool) (aims : List (Option SpaceNo)) (c : Change) : Type 0 where
  -- the space has fewer aims than its share
  pub short : aimed c.space aims < share_at shares c.space
  -- the processor is the one to choose
  pub chosen : choice shares marks aims ≡ Some c.proc
  -- it has no aim, or one of a space with more than its share
  pub within : c.proc < length aims
  pub spared : MatchOption (aim_at aims c.proc) (Unit {0}) (λ t. share_at shares t.0 < aimed t.0 aims)

-- each change is due at its moment
abbrev pub AreDue : List ℕ → List Bool → List (Option SpaceNo) → List Change → Type 0
AreDue shares marks aims [] = Unit {0}
AreDue shares marks aims (c ∷ cs) = IsDue shares marks aims c × AreDue shares marks (aims_with aims c) cs

-- the changes are for spaces from s on, in the order of their numbers
abbrev pub AreInOrder : ℕ → List Change → Type 0
AreInOrder s [] = Unit {0}
AreInOrder s (c ∷ cs) = (s ≤ c.space) × AreInOrder c.space cs

-- the change is for this space
abbrev pub is_for : ℕ → Change → Bool
is_for s c = c.space == s

-- one of the changes is of this processor's aim
abbrev pub is_changed : ℕ → List Change → Bool
is_changed p [] = false
is_changed p (c ∷ cs) = c.proc == p || is_changed p cs

-- the record says that the line of this processor was raised
abbrev pub is_line_of : ℕ → Record → Bool
is_line_of p (Line q) = q.0 == p
is_line_of p _ = false
