-- What contracts see of a keeper and of a poller, and what each call makes of it.
use Rattle.std.specs.Prelude.{◌≡◌, ℕ, zero, suc, ◌+◌, ◌*◌, ◌<◌, ◌≤◌, List, [], ◌∷◌, ◌++◌, length, replicate, All, MatchOption, Option, Some, None}
use Rattle.atomic_table.specs.Seated.{TableId}
use Rattle.sa_base.specs.declared.limits.TheConstants.{MAX_EVENTS}
use Rattle.sa_base.specs.declared.number.ProcNo.{ProcNo}
use Rattle.sa_lines.specs.declared.credit.Account.{Account}
use Rattle.sa_lines.specs.declared.credit.Credit.{Credit}
use Rattle.sa_lines.specs.declared.view.Lane.{Lane}
use Rattle.sa_lines.specs.declared.view.Polled.{Polled}
use Rattle.sa_lines.specs.declared.view.View.{View}
use Rattle.sa_lines.specs.declared.view.View.TheVariants.{Keeping, Polling, Spent}
use Rattle.sa_lines.specs.Credit.{fresh_account, credited, applied}
use Rattle.sa_lines.specs.Words.{lane_at, fresh_lane, changed, lanes_of, IsKeeping, IsLineOf}
use Rattle.sa_lines.specs.Steps.{raised, lowered, joined_with}

-- a keeper: the words that it is of, and what it knows of each processor
pub record KeeperSeen : Type 0 where
  pub table : TableId
  pub lanes : List Lane

-- a poller: the words that it is of, its processor, the values that it read, in order, and its
-- account
pub record PollerSeen : Type 0 where
  pub table : TableId
  pub proc : ProcNo
  pub read : List ℕ
  pub account : Account

-- when the words are made
abbrev pub fresh_keeper : TableId → ℕ → KeeperSeen
fresh_keeper table processors = record { table = table; lanes = replicate processors fresh_lane }

abbrev pub fresh_poller : TableId → ℕ → PollerSeen
fresh_poller table p =
    record { table = table; proc = record { 0 = p }; read = []; account = fresh_account }

-- one for each processor, in order
abbrev pub fresh_pollers : TableId → ℕ → List PollerSeen
fresh_pollers table zero = []
fresh_pollers table (suc n) = fresh_pollers table n ++ fresh_poller table n ∷ []

-- the line of p is raised at event e, or lowered
abbrev pub raised_at : ℕ → ℕ → KeeperSeen → KeeperSeen
raised_at p e keeper = record keeper { lanes = changed p (raised e) keeper.lanes }

abbrev pub lowered_at : ℕ → KeeperSeen → KeeperSeen
lowered_at p keeper = record keeper { lanes = changed p lowered keeper.lanes }

-- the value of a line word that says this event, or none
abbrev pub line_value : Option ℕ → ℕ
line_value None = 0
line_value (Some e) = e + 1

-- a poll answered so
abbrev pub with_poll : Option ℕ → PollerSeen → PollerSeen
with_poll answer poller = record poller { read = poller.read ++ line_value answer ∷ [] }

-- the credit is applied to the keeper's account of a processor, and to the poller's account
abbrev pub credited_lane : Credit → Lane → Lane
credited_lane what lane = record lane { account = credited what lane.account }

abbrev pub credited_at : ℕ → Credit → KeeperSeen → KeeperSeen
credited_at p what keeper = record keeper { lanes = changed p (credited_lane what) keeper.lanes }

abbrev pub with_credit : Credit → PollerSeen → PollerSeen
with_credit what poller = record poller { account = credited what poller.account }

-- the poller is joined to the keeper
abbrev pub with_poller : PollerSeen → KeeperSeen → KeeperSeen
with_poller poller keeper =
    let known : Polled = record { read = poller.read; account = poller.account } in
    record keeper { lanes = changed poller.proc.0 (joined_with known) keeper.lanes }

-- the poller that was joined, if one was, has the keeper's account, and each value that it read is
-- 0 or says an event at which the keeper raised the line
abbrev pub IsSettled : Lane → Type 0
IsSettled lane =
    MatchOption lane.joined (Unit {0})
    (λ poller. (poller.account ≡ lane.account) × All (IsLineOf lane.raised) poller.read)

-- between calls nothing is handed over, and no account counts more than 1,000,000 turns
pub record IsQuiet (lane : Lane) : Type 0 where
  pub none_handed : lane.handed ≡ None
  pub counted : lane.account.count ≤ MAX_EVENTS

-- the view is a keeper's of these words, between calls
pub record KeepsWell (table : TableId) (view : View) : Type 0 where
  pub keeping : IsKeeping view
  pub size : table.words ≡ 2 * length (lanes_of view)
  pub quiet : (p : ℕ) → IsQuiet (lane_at (lanes_of view) p)

-- the view is the poller's of p
abbrev pub IsPollerOf : View → ℕ → Type 0
IsPollerOf (Keeping lanes split) p = ⊥
IsPollerOf (Polling q poller) p = q.0 ≡ p
IsPollerOf Spent p = ⊥

-- the number may be handed over to the poller of p: nothing is, and the account has room
pub record MayGrant (p number : ℕ) (view : View) : Type 0 where
  pub keeping : IsKeeping view
  pub inside : p < length (lanes_of view)
  pub some : 0 < number
  pub none_handed : (lane_at (lanes_of view) p).handed ≡ None
  pub room : (applied number (lane_at (lanes_of view) p).account).count ≤ MAX_EVENTS
