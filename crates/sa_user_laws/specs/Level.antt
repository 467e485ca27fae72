-- A user level: its calls with what they keep, its rules with what it owes to the history.
use Rattle.sa_abstract.specs.Calls.{Calls}
use Rattle.sa_abstract.specs.Keeps.{Standing, Keeps}
use Rattle.sa_laws.specs.Rules.{UserRules}
use Rattle.sa_user_laws.specs.Scene.{Fits, Hears}
use Rattle.sa_user_laws.specs.Laws.{UserLaws}

pub record UserLevel (U C : Type 0) : Type 1 where
  pub calls : Calls U C
  pub stands : Standing U C
  pub keep : Keeps calls stands
  pub rules : UserRules
  pub fits : Fits U C
  pub hears : Hears U C
  pub laws : UserLaws calls stands rules fits hears
