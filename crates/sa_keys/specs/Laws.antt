-- Of two machines of runs of one workload: equal keys have equal outlooks, and look the same. The bytes of an outcome say it.
use Rattle.std.specs.Prelude.{◌≡◌, ℕ, List, Option}
use Rattle.sa_spaces.specs.Space.{SpaceView}
use Rattle.sa_abstract.specs.Calls.{Calls}
use Rattle.sa_core_model.specs.Machine.{Machine}
use Rattle.sa_outlook.specs.declared.put.Telling.{Telling}
use Rattle.sa_outlook.specs.Outlook.{outlook}
use Rattle.sa_outlook.specs.Look.{look_by}
use Rattle.sa_outlook.specs.Laws.{IsOfRun}
use Rattle.sa_keys.specs.Key.{key_of}
use Rattle.sa_keys.specs.Outs.{look_key}
use Rattle.sa_keys.specs.Outcome.{OutcomeView, outcome_key}

module _ {U C D : Type 0} (f : Calls U C) (plain : Option SpaceView → C → D) (user : U → List ℕ) (ctx : D → List ℕ) where
  abbrev pub KeysTellOutlooks : Type 0
  KeysTellOutlooks =
      (m n : Machine U C) → IsOfRun f m → IsOfRun f n → m.workload ≡ n.workload → key_of user ctx (outlook plain m) ≡ key_of user ctx (outlook plain n)
      → outlook plain m ≡ outlook plain n

  abbrev pub KeysTellLooks : Type 0
  KeysTellLooks =
      (tell : Telling) (m n : Machine U C) → IsOfRun f m → IsOfRun f n → m.workload ≡ n.workload
      → look_key user ctx tell (look_by plain tell m) ≡ look_key user ctx tell (look_by plain tell n)
      → look_by plain tell m ≡ look_by plain tell n

abbrev pub KeysTellOutcomes : Type 0
KeysTellOutcomes = (x y : OutcomeView) → outcome_key x ≡ outcome_key y → x ≡ y
