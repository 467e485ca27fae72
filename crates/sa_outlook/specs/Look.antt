-- What states are told apart by: the outlook, and what was put out so far if runs are told apart by it too.
use Rattle.std.specs.Prelude.{List, [], Option}
use Rattle.sa_base.specs.declared.record.Item.{Item}
use Rattle.sa_spaces.specs.Space.{SpaceView}
use Rattle.sa_core_model.specs.Machine.{Machine}
use Rattle.sa_outlook.specs.declared.put.Put.{Put}
use Rattle.sa_outlook.specs.declared.put.Telling.{Telling}
use Rattle.sa_outlook.specs.declared.put.Telling.TheVariants.{Cells, Outs}
use Rattle.sa_outlook.specs.Outlook.{Outlook, outlook}
use Rattle.sa_outlook.specs.Outs.{outs_of}

pub record Look (U D : Type 0) : Type 0 where
  pub outlook : Outlook U D
  pub outs : List Put

-- what was put out, as far as runs are told apart by it
abbrev pub told_outs : Telling → List Item → List Put
told_outs Cells items = []
told_outs Outs items = outs_of items

abbrev pub look_by : {U C D : Type 0} → (Option SpaceView → C → D) → Telling → Machine U C → Look U D
look_by plain tell m = record { outlook = outlook plain m; outs = told_outs tell m.items }
