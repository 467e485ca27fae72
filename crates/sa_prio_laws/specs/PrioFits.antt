-- The package with thread priorities beside a history: how its value and the contexts of its space's activations fit what
-- is read.
use Rattle.std.specs.Prelude.{◌≡◌, ℕ, zero, suc, Bool, ◌||◌, ◌&&◌, true, false, Some}
use Rattle.sa_base.specs.declared.number.ActNo.{ActNo}
use Rattle.sa_base.specs.declared.number.ProcNo.{ProcNo}
use Rattle.sa_base.specs.declared.number.SpaceNo.{SpaceNo}
use Rattle.sa_spaces.specs.Workload.{WorkloadView}
use Rattle.sa_abstract.specs.Calls.{Contexts}
use Rattle.sa_abstract.specs.Setting.{Setting}
use Rattle.sa_package_model.specs.Context.{carried_by, stands_inside}
use Rattle.sa_laws.specs.Readings.{Readings, running_of, ready_of}
use Rattle.sa_fast_laws.specs.View.{View, view, looks_of, is_lone}
use Rattle.sa_fast_laws.specs.Rests.{LivesFit, LivesHear}
use Rattle.sa_prio_model.specs.declared.context.PrioContext.{PrioContext}
use Rattle.sa_prio_model.specs.Prio.{Prio, on_at}
use Rattle.sa_prio_model.specs.Stands.{bases}
use Rattle.sa_prio_laws.specs.Ready.{FitsRanked}

-- with the mark a context has just come to its instruction or look: it has not looked in vain yet
abbrev pub is_fresh : (urge : Bool) → (looks : ℕ) → Bool
is_fresh false looks = true
is_fresh true zero = true
is_fresh true (suc looks) = false

-- a context shows what FastThreads' context in it shows; but with the mark it is in, also where that has nothing to do, and
-- it has come there only now
abbrev pub prio_view : PrioContext → View
prio_view c = record (view c.base) {
  inside = stands_inside c.base.state || c.urge;
  lone = is_fresh c.urge (looks_of c.base.state) && is_lone c.base.state c.base.sections;
}

-- On each processor the package keeps the thread that the context of the running life carries.
abbrev pub KeepsOn : Readings → Prio → Contexts PrioContext → Type 0
KeepsOn r v cs = (q : ProcNo) (a : ActNo) (c : PrioContext) → running_of r q ≡ Some a → cs a.0 ≡ Some c → on_at v q.0 ≡ carried_by c.base.state

-- BETWEEN EVENTS
pub record PrioFits (s : SpaceNo) (r : Readings) (v : Prio) (cs : Contexts PrioContext) : Type 0 where
  pub lives : LivesFit prio_view s r v.base (bases cs) cs
  pub ranked : FitsRanked v.base (ready_of r s)
  pub on : KeepsOn r v cs

-- WHILE ACTIVATION n IS TOLD of its upcall: its context has no mark.
pub record PrioHears (s : SpaceNo) (r : Readings) (n : ActNo) (v : Prio) (cs : Contexts PrioContext) : Type 0 where
  pub lives : LivesHear prio_view s r n v.base (bases cs) cs
  pub ranked : FitsRanked v.base (ready_of r s)
  pub on : KeepsOn r v cs
  pub calm : (c : PrioContext) → cs n.0 ≡ Some c → c.urge ≡ false

-- as the laws of user levels take them
abbrev pub prio_fits : WorkloadView → Setting → Readings → Prio → Contexts PrioContext → Type 0
prio_fits w set r v cs = PrioFits set.space r v cs

abbrev pub prio_hears : WorkloadView → Setting → Readings → ActNo → Prio → Contexts PrioContext → Type 0
prio_hears w set r n v cs = PrioHears set.space r n v cs
