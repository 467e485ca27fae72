-- FastThreads' relation as the laws of user levels take it, and what a closing leaves of it.
use Rattle.std.proofs.Common.{ℕ, ◌≡◌, Bool, true, ◌||◌, ◌&&◌, List, [], ◌∷◌, is_none, nat_lt, ap, slice_index_or}
use Rattle.sa_base.specs.declared.number.ActNo.{ActNo}
use Rattle.sa_base.specs.declared.number.ProcNo.{ProcNo}
use Rattle.sa_base.specs.declared.number.SpaceNo.{SpaceNo}
use Rattle.sa_spaces.specs.Workload.{WorkloadView}
use Rattle.sa_abstract.specs.Calls.{Contexts, Stepped}
use Rattle.sa_abstract.specs.Setting.{Setting}
use Rattle.sa_package_model.specs.Step.{fast_calls}
use Rattle.sa_package_model.specs.declared.context.Context.{Context}
use Rattle.sa_package_model.specs.declared.package.Package.{Package}
use Rattle.sa_laws.specs.Event.{Event}
use Rattle.sa_laws.specs.History.{is_inside}
use Rattle.sa_laws.specs.Life.{Life, Lock, some_lock}
use Rattle.sa_laws.specs.Readings.{Readings, has_hand, demand_of, usable, many_taken, carried_by as runs_by}
use Rattle.sa_laws.specs.Rules.{fast_threads}
use Rattle.sa_laws.specs.State.{space_at}
use Rattle.sa_user_laws.specs.Moments.{AlikeButDemands}
use Rattle.sa_user_laws.specs.Steps.{IsLegalStep}
use Rattle.sa_fast_laws.proofs.relation.EventEnds.{SameHeld}
use Rattle.sa_fast_laws.specs.FastFits.{fast_fits}

-- A step of FastThreads is legal: that of the running life a of processor p, in event n, before which r was read.
abbrev pub IsLegal : WorkloadView → Setting → Readings → ProcNo → ℕ → ActNo → Contexts Context → Stepped Package Context → Type 0
IsLegal w set r p n a cs st = IsLegalStep fast_calls fast_threads fast_fits w set r p n a cs st

-- A closing leaves what holds.
pub alike-held : (s : SpaceNo) (m n : Readings) → AlikeButDemands m n → SameHeld s m n
alike-held s m n i = record {
  space = ap (λ x. space_at x s) i.state;
  untold = ap (λ x. slice_index_or x s.0 []) i.untold;
  running = i.running;
  lives = i.lives;
}

-- a life with a lock is in
pub inside-locked : (w : WorkloadView) (before : Readings) (ev : Event) (last : Readings) (settled : Bool) (life : Life) (x : Lock) (xs : List Lock)
    → life.locks ≡ x ∷ xs → is_inside w before ev last settled life ≡ true
inside-locked w before ev last settled life x xs at = ap (λ ls. some_lock ls || life.cont || has_hand last life
    || (settled && nat_lt (demand_of last life.space) (usable w last life.space))
    || (settled && is_none (runs_by last life) && many_taken last life.space)) at
