-- What a run that ended left.
use Rattle.std.specs.Prelude.{ℕ, List, ◌++◌, map}
use Rattle.sa_base.specs.declared.record.End.{End}
use Rattle.sa_base.specs.declared.record.End.TheVariants.{AllDone, Stuck, Budget}
use Rattle.sa_core_model.specs.Machine.{Machine}
use Rattle.sa_outlook.specs.declared.put.Put.{Put}
use Rattle.sa_outlook.specs.declared.put.Telling.{Telling}
use Rattle.sa_outlook.specs.Look.{told_outs}
use Rattle.sa_package_keys.specs.Codes.{number, list}
use Rattle.sa_keys.specs.Outs.{put_key}
use Rattle.sa_keys.specs.declared.outcome.Outcome.{Outcome}

-- its end, the cells of each space, and what each thread put out, as far as runs are told apart by it
pub record OutcomeView : Type 0 where
  pub end : End
  pub cells : List (List ℕ)
  pub outs : List Put

abbrev pub outcome_of : Outcome → OutcomeView
outcome_of o = record { end = o.end; cells = map (λ c. c.items) o.cells.items; outs = o.outs.items }

-- of a machine at which runs end so
abbrev pub outcome_at : {U C : Type 0} → (U → List ℕ) → Telling → Machine U C → End → OutcomeView
outcome_at cells tell m end = record { end = end; cells = map cells m.users; outs = told_outs tell m.items }

-- the bytes of an outcome
abbrev pub end_key : End → List ℕ
end_key AllDone = number 0
end_key Stuck = number 1
end_key Budget = number 2

abbrev pub outcome_key : OutcomeView → List ℕ
outcome_key o = end_key o.end ++ list (list number) o.cells ++ list put_key o.outs
