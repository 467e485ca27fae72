-- How many threads of a space are active, ready, not done, and not at rest.
use Rattle.std.specs.Prelude.{◌≡◌, ℕ, ◌≤◌, Bool, true, false, not, List, length, count_by}
use Rattle.sa_base.specs.declared.limits.TheConstants.{MAX_THREADS}
use Rattle.sa_laws.specs.declared.place.Place.{Place}
use Rattle.sa_laws.specs.declared.place.Place.TheVariants.{Ready}
use Rattle.sa_laws.specs.State.{Thread, is_active}
use Rattle.sa_laws.specs.Ends.{is_done, is_at_rest}

abbrev pub is_ready : Place → Bool
is_ready Ready = true
is_ready _ = false

abbrev pub is_live : Place → Bool
is_live place = not (is_done place)

abbrev pub is_restless : Place → Bool
is_restless place = not (is_at_rest place)

-- how many threads are in places that pass a test
abbrev pub count_in : (Place → Bool) → List Thread → ℕ
count_in test threads = count_by (λ (thread : Thread). test thread.place) threads

-- these are the counts, and there are no more threads than a space can have
pub record IsCounted (threads : List Thread) (active ready live restless : ℕ) : Type 0 where
  pub few : length threads ≤ MAX_THREADS
  pub actives : active ≡ count_in is_active threads
  pub readies : ready ≡ count_in is_ready threads
  pub lives : live ≡ count_in is_live threads
  pub restless_ones : restless ≡ count_in is_restless threads
