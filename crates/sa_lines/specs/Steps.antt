-- The eight kinds of step on the words, and what each changes in the view of the one who makes it.
use Rattle.std.specs.Prelude.{◌≡◌, ℕ, ◌+◌, ◌-◌, ◌==◌, ◌≤◌, [], ◌∷◌, ◌++◌, MatchBool, Some, None}
use Rattle.atomic_table.specs.Table.{Step, Me}
use Rattle.sa_base.specs.declared.limits.TheConstants.{MAX_EVENTS}
use Rattle.sa_lines.specs.declared.view.Lane.{Lane}
use Rattle.sa_lines.specs.declared.view.Polled.{Polled}
use Rattle.sa_lines.specs.declared.view.View.{View}
use Rattle.sa_lines.specs.declared.view.View.TheVariants.{Keeping, Polling, Spent}
use Rattle.sa_lines.specs.Credit.{applied}
use Rattle.sa_lines.specs.Words.{changed, proc_of, fresh_polled}

-- what the keeper knows of a processor, when its line is raised at event e, when its line is
-- lowered, when n is stored in its credit word, and when that is seen to be taken
abbrev pub raised : ℕ → Lane → Lane
raised e lane = record lane { line = e + 1; raised = lane.raised ++ e ∷ [] }

abbrev pub lowered : Lane → Lane
lowered lane = record lane { line = 0 }

abbrev pub granted : ℕ → Lane → Lane
granted n lane = record lane { handed = Some n; account = applied n lane.account }

abbrev pub cleared : Lane → Lane
cleared lane = record lane { handed = None }

-- what a poller knows, when it read n in its line word, and when it took n from its credit word
abbrev pub polled : ℕ → Polled → Polled
polled n poller = record poller { read = poller.read ++ n ∷ [] }

abbrev pub taken : ℕ → Polled → Polled
taken n poller = record poller { account = applied n poller.account }

-- the keeper's view with one lane changed, and a poller's view with what it knows changed
abbrev pub on_lane : ℕ → (Lane → Lane) → View → View
on_lane p change (Keeping lanes split) = Keeping (changed p change lanes) split
on_lane p change (Polling q poller) = Polling q poller
on_lane p change Spent = Spent

abbrev pub on_poller : (Polled → Polled) → View → View
on_poller change (Keeping lanes split) = Keeping lanes split
on_poller change (Polling p poller) = Polling p (change poller)
on_poller change Spent = Spent

-- what a poller's view knows
abbrev pub polled_of : View → Polled
polled_of (Keeping lanes split) = fresh_polled
polled_of (Polling p poller) = poller
polled_of Spent = fresh_polled

module _ {S : Type 0} where
  -- the view becomes this one, and no slot moves
  abbrev pub Becomes : Me S View → View → Me S View → Type 0
  Becomes me v after = after ≡ (v, me.1)

  -- raise: stores e + 1 in the line word
  abbrev pub Raises : Step S → Me S View → ℕ → Me S View → Type 0
  Raises s me n after = Becomes me (on_lane (proc_of s.word) (raised (s.first - 1)) me.0) after

  -- lower: stores 0 in the line word
  abbrev pub Lowers : Step S → Me S View → ℕ → Me S View → Type 0
  Lowers s me n after = Becomes me (on_lane (proc_of s.word) lowered me.0) after

  -- poll: one load of the line word
  abbrev pub Polls : Step S → Me S View → ℕ → Me S View → Type 0
  Polls s me n after = Becomes me (on_poller (polled n) me.0) after

  -- grant: stores a number in the credit word
  abbrev pub Grants : Step S → Me S View → ℕ → Me S View → Type 0
  Grants s me n after = Becomes me (on_lane (proc_of s.word) (granted s.first) me.0) after

  -- take: one compare and exchange of that number for 0 in the credit word; where it fails, nothing
  -- changes
  abbrev pub Takes : Step S → Me S View → ℕ → Me S View → Type 0
  Takes s me n after =
      MatchBool (n == s.first)
      (Becomes me (on_poller (taken s.first) me.0) after
      × ((applied s.first (polled_of me.0).account).count ≤ MAX_EVENTS))
      (Becomes me me.0 after)

  -- clear: one load of the credit word; where it reads another number than 0, nothing changes
  abbrev pub Clears : Step S → Me S View → ℕ → Me S View → Type 0
  Clears s me n after =
      MatchBool (n == 0)
      (Becomes me (on_lane (proc_of s.word) cleared me.0) after)
      (Becomes me me.0 after)

-- split at the making: the next poller leaves the keeper
abbrev pub left_view : View → View
left_view (Keeping lanes split) = Keeping lanes (split + 1)
left_view (Polling p poller) = Polling p poller
left_view Spent = Spent

abbrev pub right_view : View → View
right_view (Keeping lanes split) = Polling (record { 0 = split }) fresh_polled
right_view (Polling p poller) = Spent
right_view Spent = Spent

-- join at the close: the keeper knows what the poller knew, and the poller's view is spent
abbrev pub joined_with : Polled → Lane → Lane
joined_with poller lane = record lane { joined = Some poller }

abbrev pub joined_view : View → View → View
joined_view keeper (Keeping lanes split) = keeper
joined_view keeper (Polling p poller) = on_lane p.0 (joined_with poller) keeper
joined_view keeper Spent = keeper

abbrev pub spent_view : View
spent_view = Spent
