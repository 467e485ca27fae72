-- The driven user level beside a history: how its value and the contexts of its space's activations fit what is read.
use Rattle.std.specs.Prelude.{◌≡◌, ◌≢◌, ◌≤◌, false, Some, None, IsSome, Contains, count_by, ◌⊎◌}
use Rattle.sa_base.specs.declared.number.ActNo.{ActNo}
use Rattle.sa_base.specs.declared.number.ProcNo.{ProcNo}
use Rattle.sa_base.specs.declared.number.SpaceNo.{SpaceNo}
use Rattle.sa_base.specs.declared.record.Note.TheVariants.{Preempted, Unblocked}
use Rattle.sa_spaces.specs.Workload.{WorkloadView}
use Rattle.sa_fast.specs.Threads.{load_of as loaded}
use Rattle.sa_fast.specs.declared.shared.Shared.{Shared}
use Rattle.sa_abstract.specs.Calls.{Contexts}
use Rattle.sa_abstract.specs.Setting.{Setting}
use Rattle.sa_driven_model.specs.declared.context.DrivenContext.{DrivenContext}
use Rattle.sa_driven_model.specs.declared.space.DrivenSpace.{DrivenSpace}
use Rattle.sa_laws.specs.Life.{Life}
use Rattle.sa_laws.specs.Readings.{Readings, running_of, untold_of, life_of, load_of}
use Rattle.sa_laws.specs.State.{space_at}
use Rattle.sa_fast_laws.specs.FastFits.{FitsShared, is_of}
use Rattle.sa_fast_laws.specs.Stage.{stage_of, Runs}
use Rattle.sa_driven_laws.specs.Life.{HasLife, IsAtRest}

-- WHAT HOLDS AT ANY MOMENT, whatever comes within an event: each context is that of a life of the space, and no other life of
-- the space is in. Which threads can be made ready is not said: it follows.
pub record Holds (s : SpaceNo) (r : Readings) (u : Shared) (cs : Contexts DrivenContext) : Type 0 where
  pub space : FitsShared u (space_at r.state s)
  pub load : load_of r s ≡ loaded u.threads
  pub lives : (a : ActNo) (c : DrivenContext) → cs a.0 ≡ Some c
      → (life : Life) × (life_of r a ≡ Some life) × HasLife s u (space_at r.state s) (stage_of r s a life) c life
  pub others : (a : ActNo) (life : Life) → life_of r a ≡ Some life → life.space ≡ s → cs a.0 ≡ None → life.inside ≡ false
  -- a notice of a stop or a return that waits is of a life with its context, and the only one of it
  pub noted : (a : ActNo) → Contains (untold_of r s) (Preempted a) ⊎ Contains (untold_of r s) (Unblocked a) → IsSome (cs a.0)
  pub single : (a : ActNo) → count_by (is_of a) (untold_of r s) ≤ 1
  -- a life that runs has its context, and nothing of it is untold
  pub runs : (p : ProcNo) (a : ActNo) (life : Life) → running_of r p ≡ Some a → life_of r a ≡ Some life → life.space ≡ s
      → IsSome (cs a.0) × (life.proc ≡ p) × (stage_of r s a life ≡ Runs)

-- the lives with a context are as between events, all of them, or all but that of activation a
abbrev pub Rest : SpaceNo → Readings → Contexts DrivenContext → Type 0
Rest s r cs = (x : ActNo) (c : DrivenContext) (life : Life) → cs x.0 ≡ Some c → life_of r x ≡ Some life → IsAtRest (stage_of r s x life) c life

abbrev pub RestBut : SpaceNo → Readings → ActNo → Contexts DrivenContext → Type 0
RestBut s r a cs = (x : ActNo) (c : DrivenContext) (life : Life) → x.0 ≢ a.0 → cs x.0 ≡ Some c → life_of r x ≡ Some life
    → IsAtRest (stage_of r s x life) c life

-- BETWEEN EVENTS
pub record DrivenFits (s : SpaceNo) (r : Readings) (u : Shared) (cs : Contexts DrivenContext) : Type 0 where
  pub holds : Holds s r u cs
  pub rest : Rest s r cs

-- WHILE ACTIVATION n IS TOLD of its upcall: it runs, and all others are as between events.
pub record DrivenHears (s : SpaceNo) (r : Readings) (n : ActNo) (u : Shared) (cs : Contexts DrivenContext) : Type 0 where
  pub holds : Holds s r u cs
  pub others : RestBut s r n cs
  pub lowers : (c : DrivenContext) → cs n.0 ≡ Some c → c.lowers ≡ false
  pub runs : (life : Life) → life_of r n ≡ Some life → stage_of r s n life ≡ Runs

-- as the laws of user levels take them
abbrev pub driven_fits : WorkloadView → Setting → Readings → DrivenSpace → Contexts DrivenContext → Type 0
driven_fits w set r u cs = DrivenFits set.space r u.base.shared cs

abbrev pub driven_hears : WorkloadView → Setting → Readings → ActNo → DrivenSpace → Contexts DrivenContext → Type 0
driven_hears w set r n u cs = DrivenHears set.space r n u.base.shared cs
