-- What always holds of a machine.
use Rattle.std.specs.Prelude.{◌≡◌, ℕ, ◌==◌, Bool, false, if◌then◌else◌, Option, Some, None, is_some, List, [], ◌∷◌, length, slice_get, slice_index_or}
use Rattle.sa_base.specs.declared.number.ActNo.{ActNo}
use Rattle.sa_base.specs.declared.context.Stopped.{Stopped}
use Rattle.sa_spaces.specs.Space.{SpaceView}
use Rattle.sa_spaces.specs.Workload.{WorkloadView, IsWorkload}
use Rattle.sa_abstract.specs.Calls.{Contexts}
use Rattle.sa_abstract.specs.Keeps.{Standing}
use Rattle.sa_acts.specs.declared.acts.Act.{Act}
use Rattle.sa_kernel_model.specs.Sound.{IsSound}
use Rattle.sa_core_model.specs.Machine.{Machine}
use Rattle.sa_core_model.specs.Run.{setting}

-- the number of an activation that runs, or of none
abbrev pub is_life : ℕ → Option ActNo → Bool
is_life a None = false
is_life a (Some b) = b.0 == a

module _ {C : Type 0} where
  -- the context of the activation with this number, if it runs on some processor
  abbrev pub running : List (Option ActNo) → List (Option C) → ℕ → Option C
  running [] contexts a = None
  running (life ∷ lives) [] a = None
  running (life ∷ lives) (c ∷ contexts) a = if is_life a life then c else running lives contexts a

  -- the context that is held of an activation, else the one that runs
  abbrev pub held_or_running : Option (Stopped C) → Option C → Option C
  held_or_running None c = c
  held_or_running (Some held) c = Some held.ctx

  -- the same, if the activation is of the space
  abbrev pub context_in : ℕ → Option (Act C) → Option C → Option C
  context_in s None c = None
  context_in s (Some act) c = if act.space.0 == s then held_or_running act.held c else None

  -- the contexts of a space by the numbers of their activations
  abbrev pub contexts_in : List (Option ActNo) → (ℕ → Option (Act C)) → List (Option C) → ℕ → Contexts C
  contexts_in lives acts contexts s a = context_in s (acts a) (running lives contexts a)

abbrev pub contexts_of : {U C : Type 0} → Machine U C → ℕ → Contexts C
contexts_of m s = contexts_in m.kernel.lives m.kernel.acts m.contexts s

-- the value of each space stands beside the contexts of its activations, with the steps of events up to this one
abbrev pub AreValues : {U C : Type 0} → Standing U C → WorkloadView → ℕ → List U → (ℕ → Contexts C) → Type 0
AreValues {U} stands w e users contexts =
    (s : ℕ) (u : U) (def : SpaceView) → slice_get users s ≡ Some u → slice_get w.spaces s ≡ Some def
    → stands (setting w s def) e u (contexts s)

pub record Stands {U C : Type 0} (stands : Standing U C) (e : ℕ) (m : Machine U C) : Type 0 where
  pub workload : IsWorkload m.workload
  pub sound : IsSound m.kernel
  -- one life and one context for each processor, one demand and one user level for each space
  pub lives : length m.kernel.lives ≡ m.workload.processors
  pub contexts : length m.contexts ≡ m.workload.processors
  pub demands : length m.kernel.demands ≡ length m.workload.spaces
  pub users : length m.users ≡ length m.workload.spaces
  -- a context is there exactly where an activation runs
  pub there : (p : ℕ) → is_some (slice_index_or m.contexts p None) ≡ is_some (slice_index_or m.kernel.lives p None)
  pub values : AreValues stands m.workload e m.users (contexts_of m)

-- between two events: the steps of the last one are done, and the context of its upcall has fetched all that it was told
pub record IsBetween {U C : Type 0} (stands : Standing U C) (m : Machine U C) : Type 0 where
  pub standing : Stands stands m.event m
  pub fetched : m.kernel.telling ≡ []
