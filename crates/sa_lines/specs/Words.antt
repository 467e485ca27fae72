-- The words, what the keeper and the pollers know of them, and the rule.
use Rattle.std.specs.Prelude.{◌≡◌, ℕ, ◌+◌, ◌*◌, ◌/◌, ◌<◌, ◌≤◌, ◌==◌, ◌⊎◌, List, [], length, replicate, All, Contains, MatchBool, Some, None, slice_index, slice_index_or, slice_set}
use mathlib.Core.Option.{some}
use lib.ListN.{get_elem?}
use Rattle.atomic_table.specs.Table.{State}
use Rattle.sa_base.specs.declared.limits.TheConstants.{MAX_EVENTS}
use Rattle.sa_lines.specs.declared.credit.Account.{Account}
use Rattle.sa_lines.specs.declared.view.Lane.{Lane}
use Rattle.sa_lines.specs.declared.view.Polled.{Polled}
use Rattle.sa_lines.specs.declared.view.View.{View}
use Rattle.sa_lines.specs.declared.view.View.TheVariants.{Keeping, Polling, Spent}
use Rattle.sa_lines.specs.Credit.{fresh_account, applied}

-- the two words of a processor, and the processor of a word
abbrev pub line_word : ℕ → ℕ
line_word p = 2 * p

abbrev pub credit_word : ℕ → ℕ
credit_word p = 2 * p + 1

abbrev pub proc_of : ℕ → ℕ
proc_of i = i / 2

-- a poller that read nothing yet, and a processor of which the keeper knows nothing yet
abbrev pub fresh_polled : Polled
fresh_polled = record { read = []; account = fresh_account }

abbrev pub fresh_lane : Lane
fresh_lane = record { line = 0; raised = []; account = fresh_account; handed = None; joined = None }

-- what the keeper knows of a processor
abbrev pub lane_at : List Lane → ℕ → Lane
lane_at lanes p = slice_index_or lanes p fresh_lane

-- a change of what it knows of one processor
abbrev pub changed : ℕ → (Lane → Lane) → List Lane → List Lane
changed p change lanes = slice_set lanes p (change (lane_at lanes p))

-- the view of the keeper when the words are made, before any poller is split off
abbrev pub first_view : ℕ → View
first_view processors = Keeping (replicate processors fresh_lane) 0

-- a value of a line word: 0, or one more than one of the events at which the line was raised
abbrev pub IsLineOf : List ℕ → ℕ → Type 0
IsLineOf raised n = (n ≡ 0) ⊎ ((e : ℕ) × Contains raised e × (n ≡ e + 1))

-- the keeper's account and the poller's are the same, or they differ by the number in the credit
-- word, which is the one that the keeper has handed over
abbrev pub AreBalanced : ℕ → Lane → Account → Type 0
AreBalanced credit lane account =
    MatchBool (credit == 0) (lane.account ≡ account)
    ((lane.handed ≡ Some credit) × (lane.account ≡ applied credit account))

-- a processor's two words, what the keeper knows of it, and what its poller knows
pub record Agree (line credit : ℕ) (lane : Lane) (poller : Polled) : Type 0 where
  -- the line word is what the keeper stored
  pub stored : line ≡ lane.line
  -- the line word is 0, or says an event at which the keeper raised the line
  pub raised : IsLineOf lane.raised lane.line
  -- and so is every value that was polled
  pub polled : All (IsLineOf lane.raised) poller.read
  pub balanced : AreBalanced credit lane poller.account
  -- no account counts more than 1,000,000 turns
  pub counted : lane.account.count ≤ MAX_EVENTS

-- the same, with the words of that processor in the table
abbrev pub AgreeAt : List ℕ → ℕ → Lane → Polled → Type 0
AgreeAt words p lane poller =
    Agree (slice_index words (line_word p)) (slice_index words (credit_word p)) lane poller

-- whether the view is the keeper's, and its parts
abbrev pub IsKeeping : View → Type 0
IsKeeping (Keeping lanes split) = Unit {0}
IsKeeping (Polling p poller) = ⊥
IsKeeping Spent = ⊥

abbrev pub lanes_of : View → List Lane
lanes_of (Keeping lanes split) = lanes
lanes_of (Polling p poller) = []
lanes_of Spent = []

abbrev pub split_of : View → ℕ
split_of (Keeping lanes split) = split
split_of (Polling p poller) = 0
split_of Spent = 0

-- The view has what the poller of p knows. It is that poller's own; or the keeper's, as long as the
-- poller is not split off, and again once it is joined. A spent view has nothing
abbrev pub Knows : View → ℕ → Polled → Type 0
Knows (Keeping lanes split) p poller =
    ((split ≤ p) × (poller ≡ fresh_polled)) ⊎ ((lane_at lanes p).joined ≡ Some poller)
Knows (Polling q own) p poller = (q.0 ≡ p) × (own ≡ poller)
Knows Spent p poller = ⊥

-- there are two words for each lane of the keeper, and no poller was joined that is not split off
pub record FitsWords (words : List ℕ) (keeper : View) : Type 0 where
  pub size : length words ≡ 2 * length (lanes_of keeper)
  pub unsplit : (p : ℕ) → split_of keeper ≤ p → (lane_at (lanes_of keeper) p).joined ≡ None

-- the rule
pub record Holds {S : Type 0} (s : State S View) : Type 0 where
  -- there is one keeper's view
  pub keeper : (i : ℕ) × (k : View) × (get_elem? s.views i ≡ some k) × IsKeeping k
  pub one_keeper : (i j : ℕ) (v w : View)
      → get_elem? s.views i ≡ some v → get_elem? s.views j ≡ some w
      → IsKeeping v → IsKeeping w → i ≡ j
  -- there is one view with what the poller of p knows
  pub one_poller : (i j p : ℕ) (v w : View) (a b : Polled)
      → get_elem? s.views i ≡ some v → get_elem? s.views j ≡ some w
      → Knows v p a → Knows w p b → i ≡ j
  pub fits : (i : ℕ) (k : View) → get_elem? s.views i ≡ some k → IsKeeping k → FitsWords s.words k
  -- of each processor the words, the keeper and the poller agree
  pub agree : (i j p : ℕ) (k v : View) (poller : Polled)
      → get_elem? s.views i ≡ some k → get_elem? s.views j ≡ some v
      → IsKeeping k → Knows v p poller → p < length (lanes_of k)
      → AgreeAt s.words p (lane_at (lanes_of k) p) poller
