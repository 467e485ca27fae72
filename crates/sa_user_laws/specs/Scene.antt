-- What holds of a space, and of its running life, when a call of its user level is made.
use Rattle.std.specs.Prelude.{◌≡◌, ◌↔◌, ℕ, [], Contains, Option, Some, None, slice_get}
use Rattle.sa_base.specs.declared.number.ProcNo.{ProcNo}
use Rattle.sa_base.specs.declared.number.SpaceNo.{SpaceNo}
use Rattle.sa_base.specs.declared.number.ThreadNo.{ThreadNo}
use Rattle.sa_base.specs.declared.number.ActNo.{ActNo}
use Rattle.sa_spaces.specs.Workload.{WorkloadView, IsWorkload}
use Rattle.sa_abstract.specs.Setting.{Setting}
use Rattle.sa_abstract.specs.Calls.{Calls, Contexts}
use Rattle.sa_abstract.specs.Keeps.{Standing}
use Rattle.sa_laws.specs.declared.place.Place.TheVariants.{Running}
use Rattle.sa_laws.specs.Life.{Life}
use Rattle.sa_laws.specs.State.{thread_at, runner_on, runner_of}
use Rattle.sa_laws.specs.Readings.{Readings, running_of, life_of, owner_of, taken_of}
use Rattle.sa_laws.specs.History.{event_begun}
use Rattle.sa_user_laws.specs.Moments.{IsMoment, AreSized}

-- How a space's value and the contexts of its activations stand to what is read of the history: at rest, that is
-- between two events, directly after a stop or a block, and directly before an up.
abbrev pub Fits : Type 0 → Type 0 → Type 1
Fits U C = WorkloadView → Setting → Readings → U → Contexts C → Type 0

-- How a space fits its history while the fresh activation of this number is told of its upcall, from its up to the end
-- of its event.
abbrev pub Hears : Type 0 → Type 0 → Type 1
Hears U C = WorkloadView → Setting → Readings → ActNo → U → Contexts C → Type 0

-- The setting is that of a space of the workload.
pub record IsOfSpace (w : WorkloadView) (s : Setting) : Type 0 where
  pub ok : IsWorkload w
  pub def : slice_get w.spaces s.space.0 ≡ Some s.def
  pub processors : s.processors ≡ w.processors
  pub fetch : s.fetch ≡ w.fetch

-- What holds of a space in an event: e is the number of its last step's event.
pub record HoldsIn {U C : Type 0} (stands : Standing U C) (w : WorkloadView) (s : Setting) (e : ℕ) (r : Readings) (u : U) (cs : Contexts C) : Type 0 where
  pub of : IsOfSpace w s
  pub sizes : AreSized w r
  pub value : stands s e u cs

-- What holds of it where it is also known who runs where, and that each activation that was taken has been handed over.
pub record Holds {U C : Type 0} (stands : Standing U C) (w : WorkloadView) (s : Setting) (e : ℕ) (r : Readings) (u : U) (cs : Contexts C) : Type 0 where
  pub of : IsOfSpace w s
  pub sizes : AreSized w r
  pub value : stands s e u cs
  pub moment : IsMoment r
  pub taken : (b : ActNo) → Contains (taken_of r s.space) b → cs b.0 ≡ None

-- A life of the space runs on a processor, and this is its context.
pub record IsOn {C : Type 0} (s : SpaceNo) (r : Readings) (p : ProcNo) (a : ActNo) (life : Life) (cs : Contexts C) (c : C) : Type 0 where
  pub runs : running_of r p ≡ Some a
  pub is : life_of r a ≡ Some life
  pub space : life.space ≡ s
  pub proc : life.proc ≡ p
  pub owner : owner_of r p ≡ Some s
  pub mine : cs a.0 ≡ Some c

-- Of a space's threads this one alone runs on a processor, or none.
abbrev pub RunsAlone : SpaceNo → Readings → ProcNo → Option ThreadNo → Type 0
RunsAlone s r p o = (t : ThreadNo) → ((thread_at r.state s t).place ≡ Running p) ↔ (o ≡ Some t)

-- A life of the space runs at rest: before its step, before its run of local instructions, before its stop. The thread
-- that runs on its processor is the one that its context carries.
pub record IsActing {U C : Type 0} (calls : Calls U C) (stands : Standing U C) (fits : Fits U C)
    (w : WorkloadView) (s : Setting) (e : ℕ) (r : Readings) (u : U) (cs : Contexts C) (p : ProcNo) (a : ActNo) (life : Life) (c : C) : Type 0 where
  pub holds : Holds stands w s e r u cs
  pub fit : fits w s r u cs
  pub on : IsOn s.space r p a life cs c
  pub runner : runner_on r.state p ≡ runner_of s.space (calls.thread u c)

-- the moment directly after the beginning of an event
abbrev pub event_begun_at : WorkloadView → ℕ → ProcNo → Readings → Readings
event_begun_at w e p r = event_begun w (record { number = e; proc = p; records = [] }) r
