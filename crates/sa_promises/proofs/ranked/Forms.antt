-- The form of a step where ready threads are listed by their ranks.
use Rattle.std.proofs.Common.{◌≡◌, inl, inr, refl, Some, None, List, ◌∷◌}
use Rattle.std.specs.Prelude.{Option}
use Rattle.sa_base.specs.declared.number.ProcNo.{ProcNo}
use Rattle.sa_base.specs.declared.number.ActNo.{ActNo}
use Rattle.sa_base.specs.declared.record.Record.{Record}
use Rattle.sa_base.specs.declared.record.Record.TheVariants.{Ins, Run, Block, Cont, Back, Ready, Take, Free, Want, Line, GiveBack, Idle, Spin}
use Rattle.sa_spaces.specs.Workload.{WorkloadView}
use Rattle.sa_laws.specs.Life.{Life}
use Rattle.sa_laws.specs.Readings.{Readings, running_of, life_on}
use Rattle.sa_ranks.specs.Steps.{RankedStepBy, RankedStepIn, IsRankedStep}
use Rattle.sa_ranks.specs.Locks.{KeepsTheLockIn}
use Rattle.sa_promises.proofs.covers.Forms.{Form, passage-turning, step-alone, give-form, ins-form}

by-form : (w : WorkloadView) (r : Readings) (p : ProcNo) (a : ActNo) (life : Life) (x : Record) (ys : List Record) → running_of r p ≡ Some a
    → life_on r p ≡ Some life → RankedStepBy w r p a life x ys
    → KeepsTheLockIn w r p (x ∷ ys) → Form RankedStepBy w r p x ys
by-form w r p a life (Ins s t i) ys runs on by keeps = ins-form RankedStepBy w r p a life s t i _ ys runs on by by
by-form w r p a life (Block s t b io) ys runs on by keeps = inl (passage-turning ys by.0, tt)
by-form w r p a life (Spin l) ys runs on by keeps = inr (inr (step-alone RankedStepBy w r p a life (Spin l) ys runs on by refl refl by.0))
by-form w r p a life (Want s n) ys runs on by keeps = inr (inr (step-alone RankedStepBy w r p a life (Want s n) ys runs on by refl refl by.0))
by-form w r p a life (Back s t) ys runs on by keeps = inr (inr (step-alone RankedStepBy w r p a life (Back s t) ys runs on by refl refl by.0))
by-form w r p a life (Line q) ys runs on by keeps = inr (inr (step-alone RankedStepBy w r p a life (Line q) ys runs on by refl refl by.0))
by-form w r p a life Idle ys runs on by keeps = inr (inr (step-alone RankedStepBy w r p a life Idle ys runs on by refl refl by.0))
by-form w r p a life (GiveBack b) ys runs on by keeps = give-form RankedStepBy w r p a life b ys runs on by by.all
by-form w r p a life (Take s l t) ys runs on by keeps = inr (inr (step-alone RankedStepBy w r p a life (Take s l t) ys runs on by refl refl keeps.1))
by-form w r p a life (Ready s t) ys runs on by keeps = inr (inr (step-alone RankedStepBy w r p a life (Ready s t) ys runs on by refl refl keeps.1))
by-form w r p a life (Run s t) ys runs on by keeps = inr (inr (step-alone RankedStepBy w r p a life (Run s t) ys runs on by refl refl keeps.1))
by-form w r p a life (Free s l t) ys runs on by keeps = inr (inr (step-alone RankedStepBy w r p a life (Free s l t) ys runs on by refl refl keeps.1))
by-form w r p a life (Cont s t) ys runs on by keeps = inr (inr (step-alone RankedStepBy w r p a life (Cont s t) ys runs on by refl refl keeps.1))
by-form w r p a life x ys runs on by keeps = absurd (cc)

in-form : (w : WorkloadView) (r : Readings) (p : ProcNo) (a : Option ActNo) (life : Option Life) (x : Record) (ys : List Record) → running_of r p ≡ a
    → life_on r p ≡ life → RankedStepIn w r p a life (x ∷ ys)
    → KeepsTheLockIn w r p (x ∷ ys) → Form RankedStepBy w r p x ys
in-form w r p (Some a) (Some life) x ys runs on is keeps = by-form w r p a life x ys runs on is keeps
in-form w r p (Some a) None x ys runs on is keeps = absurd is
in-form w r p None life x ys runs on is keeps = absurd is

pub step-form : (w : WorkloadView) (r : Readings) (p : ProcNo) (x : Record) (ys : List Record) → KeepsTheLockIn w r p (x ∷ ys)
    → IsRankedStep w r p (x ∷ ys) → Form RankedStepBy w r p x ys
step-form w r p x ys keeps step = in-form w r p (running_of r p) (life_on r p) x ys refl refl step keeps
