-- How a count changes where one element of a list becomes another.
use Rattle.std.proofs.Common.{◌≡◌, ℕ, ◌+◌, ◌<◌, ◌≤◌, Bool, cond, List, length, get_or, set, ap, arith}
use Rattle.std.specs.List.{count_by}
use Rattle.std.proofs.lemmas.List.{length-set}
use Rattle.std.proofs.lemmas.List.Sums.{sum_by-set, get_or-le-sum_by}
use Rattle.sa_laws.specs.declared.place.Place.{Place}
use Rattle.sa_laws.specs.State.{Thread, is_active}
use Rattle.sa_replay.specs.Counts.{is_ready, is_live, is_restless, IsCounted}

module _ {X : Type 0} (test : X → Bool) (xs : List X) (i : ℕ) (x : X) (within : i < length xs) (is : x ≡ get_or xs i x) where
  -- the count is the old one, with the new element in place of the old one
  pub count-set : (y : X) (n m : ℕ) → n ≡ count_by test xs → m + cond (test x) 1 0 ≡ n + cond (test y) 1 0 → m ≡ count_by test (set xs i y)
  count-set y n m counted changed =
      omega (arith, sum_by-set (λ (z : X). cond (test z) 1 0) xs i y x within, ap {B = ℕ} (λ (z : X). cond (test z) 1 0) is, counted, changed)

  -- an element that passes is one that is counted
  pub count-some : (n : ℕ) → n ≡ count_by test xs → cond (test x) 1 0 ≤ n
  count-some n counted = omega (arith, get_or-le-sum_by (λ (z : X). cond (test z) 1 0) xs i x within, ap {B = ℕ} (λ (z : X). cond (test z) 1 0) is, counted)

-- the counts of threads where thread x, which is in place i, becomes another
module _ (threads : List Thread) (i : ℕ) (x : Thread) (within : i < length threads) (is : x ≡ get_or threads i x) (active ready live restless : ℕ)
    (counted : IsCounted threads active ready live restless) where
  count-place : (test : Place → Bool) (y : Thread) (n m : ℕ) → n ≡ count_by (λ (thread : Thread). test thread.place) threads
      → m + cond (test x.place) 1 0 ≡ n + cond (test y.place) 1 0 → m ≡ count_by (λ (thread : Thread). test thread.place) (set threads i y)
  count-place test y n m = count-set (λ (thread : Thread). test thread.place) threads i x within is y n m

  pub counted-set : (y : Thread) (actives readies lives restless_ones : ℕ)
      → actives + cond (is_active x.place) 1 0 ≡ active + cond (is_active y.place) 1 0
      → readies + cond (is_ready x.place) 1 0 ≡ ready + cond (is_ready y.place) 1 0
      → lives + cond (is_live x.place) 1 0 ≡ live + cond (is_live y.place) 1 0
      → restless_ones + cond (is_restless x.place) 1 0 ≡ restless + cond (is_restless y.place) 1 0
      → IsCounted (set threads i y) actives readies lives restless_ones
  counted-set y a r l q active_ones ready_ones live_ones others = record {
    few = omega (arith, length-set threads i y, counted.few);
    actives = count-place is_active y active a counted.actives active_ones;
    readies = count-place is_ready y ready r counted.readies ready_ones;
    lives = count-place is_live y live l counted.lives live_ones;
    restless_ones = count-place is_restless y restless q counted.restless_ones others;
  }

  -- one that is in the same place leaves them as they are
  pub counted-same : (y : Thread) → x.place ≡ y.place → IsCounted (set threads i y) active ready live restless
  counted-same y same =
      counted-set y active ready live restless (ap (λ place. active + cond (is_active place) 1 0) same)
      (ap (λ place. ready + cond (is_ready place) 1 0) same) (ap (λ place. live + cond (is_live place) 1 0) same)
      (ap (λ place. restless + cond (is_restless place) 1 0) same)
