-- The laws of the end, and that threads run where lives do.
use Rattle.std.proofs.Common.{◌≡◌, ◌⊎◌, ℕ, true, false, Some, Contains}
use Rattle.std.specs.Prelude.{◌==◌}
use Rattle.sa_base.specs.declared.number.ActNo.{ActNo}
use Rattle.sa_base.specs.declared.record.Note.{Note}
use Rattle.sa_base.specs.declared.record.Note.TheVariants.{Unblocked}
use Rattle.sa_spaces.specs.Workload.{WorkloadView}
use Rattle.sa_abstract.specs.Calls.{Contexts}
use Rattle.sa_abstract.specs.Setting.{Setting}
use Rattle.sa_laws.specs.Ends.{are_done, are_at_rest}
use Rattle.sa_laws.specs.Life.{Life}
use Rattle.sa_laws.specs.Readings.{Readings, life_of, untold_of, must_hear}
use Rattle.sa_laws.specs.State.{space_at}
use Rattle.sa_user_laws.specs.Moments.{ThreadsRun}
use Rattle.sa_user_laws.specs.Scene.{Holds as HoldsNow, IsOfSpace}
use Rattle.sa_fast_laws.proofs.lives.Ends.{all-done, none-active, must-hear}
use Rattle.sa_fast_laws.proofs.lives.Running.{run-threads}
use Rattle.sa_prio_model.specs.Prio.{Prio}
use Rattle.sa_prio_model.specs.Stands.{bases, prio_stands}
use Rattle.sa_prio_model.specs.Step.{prio_calls}
use Rattle.sa_prio_model.specs.declared.context.PrioContext.{PrioContext}
use Rattle.sa_prio_laws.specs.PrioFits.{prio_view, prio_fits, prio_hears}
use Rattle.sa_prio_laws.proofs.frames.Frames.{prio-based}

pub prio-threads : (w : WorkloadView) (s : Setting) (e : ℕ) (r : Readings) (v : Prio) (cs : Contexts PrioContext)
    → IsOfSpace w s → prio_stands s e v cs → prio_fits w s r v cs → ThreadsRun s.space r
prio-threads w s e r v cs of h k = run-threads s e r v.base (bases cs) h.base k.lives.holds

pub prio-hears_threads : (w : WorkloadView) (s : Setting) (e : ℕ) (r : Readings) (a : ActNo) (v : Prio) (cs : Contexts PrioContext)
    → IsOfSpace w s → prio_stands s e v cs → prio_hears w s r a v cs → ThreadsRun s.space r
prio-hears_threads w s e r a v cs of h k = run-threads s e r v.base (bases cs) h.base k.lives.holds

pub prio-done : (w : WorkloadView) (s : Setting) (e : ℕ) (r : Readings) (v : Prio) (cs : Contexts PrioContext)
    → HoldsNow prio_stands w s e r v cs → prio_fits w s r v cs
    → ((prio_calls.tally v).done == (prio_calls.tally v).made) ≡ are_done (space_at r.state s.space)
prio-done w s e r v cs h k = all-done s e r v.base (bases cs) h.value.base k.lives.holds

pub prio-rest : (w : WorkloadView) (s : Setting) (e : ℕ) (r : Readings) (v : Prio) (cs : Contexts PrioContext)
    → HoldsNow prio_stands w s e r v cs → prio_fits w s r v cs → ((b : ActNo) → Contains (untold_of r s.space) (Unblocked b) → ⊥)
    → ((prio_calls.tally v).active == 0) ≡ are_at_rest (space_at r.state s.space)
prio-rest w s e r v cs h k none = none-active s e r v.base (bases cs) h.value.base k.lives.holds none

pub prio-must : (w : WorkloadView) (s : Setting) (e : ℕ) (r : Readings) (v : Prio) (cs : Contexts PrioContext) (note : Note)
    → HoldsNow prio_stands w s e r v cs → prio_fits w s r v cs → Contains (untold_of r s.space) note → must_hear r note ≡ true
    → (are_at_rest (space_at r.state s.space) ≡ false) ⊎ ((b : ActNo) × (life : Life) × (life_of r b ≡ Some life) × (life.inside ≡ true))
prio-must w s e r v cs note h k has must =
    must-hear s e r v.base (bases cs) h.value.base k.lives.holds prio_view (λ c. c.base) cs (prio-based cs) k.lives.rest note has must
