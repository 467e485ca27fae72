-- How runs end, however many events they have had, and within a budget.
use Rattle.std.proofs.Common.{◌≡◌, ℕ, ◌<◌, ◌==◌, Bool, true, false, Option, Some, None, refl, sym, ◌∙◌, arith}
use Rattle.std.specs.Prelude.{if◌then◌else◌}
use Rattle.std.proofs.lemmas.Bool.Decides.{nat_tests}
use Rattle.sa_base.specs.declared.record.End.{End}
use Rattle.sa_base.specs.declared.record.End.TheVariants.{AllDone, Stuck, Budget}
use Rattle.sa_abstract.specs.Calls.{Calls}
use Rattle.sa_core_model.specs.Machine.{Machine}
use Rattle.sa_core_model.specs.End.{all_done, is_stuck, end_of}
use Rattle.sa_explore_runs.specs.Runs.{end}

-- with these tests true, the last of which is whether the budget is spent
abbrev plain_by : Bool → Bool → Option End
plain_by a b = if a then Some AllDone else (if b then Some Stuck else None)

abbrev within_by : Bool → Bool → Bool → Option End
within_by a b c = if a then Some AllDone else (if b then Some Stuck else (if c then Some Budget else None))

open-by : (a b c : Bool) → plain_by a b ≡ None → c ≡ false → within_by a b c ≡ None
open-by true b c none off = absurd cc
open-by false true c none off = absurd cc
open-by false false true none off = absurd cc
open-by false false false none off = refl

none-by : (a b c : Bool) → within_by a b c ≡ None → (plain_by a b ≡ None) × (c ≡ false)
none-by true b c none = absurd cc
none-by false true c none = absurd cc
none-by false false true none = absurd cc
none-by false false false none = (refl, refl)

stuck-by : (a b c : Bool) → plain_by a b ≡ Some Stuck → within_by a b c ≡ Some Stuck
stuck-by true b c is = is
stuck-by false true c is = refl
stuck-by false false c is = absurd cc

not-last : (event budget : ℕ) → event < budget → (event == budget) ≡ false
not-last event budget below = grind (arith, nat_tests)

last : (event budget : ℕ) → event ≡ budget → (event == budget) ≡ true
last event budget same = grind (arith, nat_tests)

module _ {U C : Type 0} (f : Calls U C) (budget : ℕ) (m : Machine U C) where
  -- a run that goes on has not ended within a budget that is not spent
  pub not-ended : end f m ≡ None → m.event < budget → end_of f budget m ≡ None
  not-ended none below = open-by (all_done f m) (is_stuck f m) (m.event == budget) none (not-last m.event budget below)

  -- one that has not ended within a budget goes on, and has not spent it
  pub ended-not : end_of f budget m ≡ None → end f m ≡ None
  ended-not none = (none-by (all_done f m) (is_stuck f m) (m.event == budget) none).0

  pub not-spent : end_of f budget m ≡ None → m.event ≡ budget → ⊥
  not-spent none same =
      let spent = sym (last m.event budget same) ∙ (none-by (all_done f m) (is_stuck f m) (m.event == budget) none).1 in cc

  -- one that is stuck has ended so, whatever the budget is
  pub stuck-ended : end f m ≡ Some Stuck → end_of f budget m ≡ Some Stuck
  stuck-ended stuck = stuck-by (all_done f m) (is_stuck f m) (m.event == budget) stuck
