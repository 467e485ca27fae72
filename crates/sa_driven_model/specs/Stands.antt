-- How the value and the contexts of its space's activations stand beside one another.
use Rattle.std.specs.Prelude.{◌≡◌, ◌≢◌, ℕ, ◌+◌, ◌≤◌, Bool, List, [], ◌∷◌, length, replicate, sum_by, Option, Some, None}
use Rattle.sa_base.specs.declared.limits.TheConstants.{MAX_THREADS, MAX_EVENTS}
use Rattle.sa_abstract.specs.Setting.{Setting}
use Rattle.sa_abstract.specs.Calls.{Contexts}
use Rattle.sa_abstract.specs.Keeps.{Standing}
use Rattle.sa_sync.specs.Sync.{waits_of}
use Rattle.sa_fast.specs.declared.shared.Shared.{Shared}
use Rattle.sa_fast.specs.Rest.{ArePartsFor, AgreesBy, one_of, one_where, is_ready, place_at, done_at, unmade_at, not_carried}
use Rattle.sa_package_model.specs.Laws.{IsMadeFor}
use Rattle.sa_package_model.specs.Hands.{AreInOnePlace}
use Rattle.sa_driven_model.specs.declared.context.DrivenContext.{DrivenContext}
use Rattle.sa_driven_model.specs.declared.space.DrivenSpace.{DrivenSpace}
use Rattle.sa_driven_model.specs.Threads.{has}

-- no thread is in a ready list, and none in a work list
pub record AreUnused (x : Shared) : Type 0 where
  pub lists : x.state.lists.lists ≡ [] ∷ []
  pub works : x.works ≡ replicate MAX_THREADS []

-- PLACES: what is counted of a thread agrees with its place
abbrev pub ready_at : Shared → ℕ → ℕ
ready_at x t = one_where (is_ready (place_at x t))

abbrev pub AgreesAt : Shared → ℕ → Type 0
AgreesAt x t = AgreesBy (ready_at x t) (waits_of x.sync t) (done_at x.sync t) (unmade_at x.state.lists t) (place_at x t)

-- a thread that no context carries is ready, or can be made so, or waits, or is done, or was not made
abbrev pub handed_at : List Bool → ℕ → ℕ
handed_at handed t = one_where (has handed t)

abbrev pub IsSomewhere : Shared → List Bool → ℕ → Type 0
IsSomewhere x handed t =
    ready_at x t + handed_at handed t + waits_of x.sync t + done_at x.sync t + unmade_at x.state.lists t ≡ not_carried x t

-- CARRIED is the thread that a context has with it
abbrev pub carried_of : Option DrivenContext → ℕ → ℕ
carried_of None t = 0
carried_of (Some c) t = one_of c.thread t

-- LOCKS: all contexts together have no more than there were events
abbrev pub locks_of : Option DrivenContext → ℕ
locks_of None = 0
locks_of (Some c) = c.locks

abbrev pub IsOther : ℕ → List ℕ → Type 0
IsOther a [] = Unit {0}
IsOther a (b ∷ bs) = (b ≢ a) × IsOther a bs

abbrev pub AreOthers : List ℕ → Type 0
AreOthers [] = Unit {0}
AreOthers (a ∷ acts) = IsOther a acts × AreOthers acts

abbrev pub AreFewLocks : ℕ → Contexts DrivenContext → Type 0
AreFewLocks n cs = (acts : List ℕ) → AreOthers acts → sum_by (λ a. locks_of (cs a)) acts ≤ n

-- ALL OF IT
pub record IsStanding (s : Setting) (event : ℕ) (u : DrivenSpace) (cs : Contexts DrivenContext) : Type 0 where
  pub made : IsMadeFor s u.base
  pub parts : ArePartsFor u.base.def u.base.processors event u.base.shared
  pub unused : AreUnused u.base.shared
  pub places : (t : ℕ) → AgreesAt u.base.shared t
  pub somewhere : (t : ℕ) → IsSomewhere u.base.shared u.handed t
  pub carries : AreInOnePlace (not_carried u.base.shared) (λ a. carried_of (cs a))
  pub locks : AreFewLocks event cs
  pub within : AreFewLocks MAX_EVENTS cs
  -- each set is one of all threads
  pub handed : length u.handed ≡ MAX_THREADS
  pub hands : (a : ℕ) (c : DrivenContext) → cs a ≡ Some c → length c.hand ≡ MAX_THREADS

abbrev pub driven_stands : Standing DrivenSpace DrivenContext
driven_stands s event u cs = IsStanding s event u cs
