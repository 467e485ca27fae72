-- The user levels of the spaces, and how many of them have something to do.
use Rattle.std.specs.Prelude.{◌≡◌, ℕ, ◌≤◌, ◌==◌, Bool, if◌then◌else◌, List, length, sum_by}
use Rattle.sa_base.specs.declared.limits.TheConstants.{MAX_SPACES}
use Rattle.sa_base.specs.declared.context.Stopped.{Stopped}
use Rattle.sa_abstract.specs.declared.answer.Tally.{Tally}
use Rattle.sa_abstract.specs.Calls.{Calls}

-- 1 where something is still to be done
abbrev pub one_unless : Bool → ℕ
one_unless over = if over then 0 else 1

-- each thread is done; none is active
abbrev pub is_over : Tally → Bool
is_over tally = tally.done == tally.made

abbrev pub is_still : Tally → Bool
is_still tally = tally.active == 0

module _ {U C : Type 0} (f : Calls U C) where
  abbrev pub unfinished : List U → ℕ
  unfinished users = sum_by (λ u. one_unless (is_over (f.tally u))) users

  abbrev pub active : List U → ℕ
  active users = sum_by (λ u. one_unless (is_still (f.tally u))) users

  -- in n spaces something is still to be done, and in k some thread is active
  pub record Counted (users : List U) (n k : ℕ) : Type 0 where
    pub left : n ≡ unfinished users
    pub work : k ≡ active users
    pub few : length users ≤ MAX_SPACES

  -- a context as it is handed over
  abbrev pub stopped_of : U → C → Stopped C
  stopped_of u c = record { ctx = c; thread = f.thread u c; idle = f.idle u c }
