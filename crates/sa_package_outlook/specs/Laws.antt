-- The laws of outlooks, of machines with either package.
use Rattle.sa_package_model.specs.Step.{fast_calls}
use Rattle.sa_prio_model.specs.Step.{prio_calls}
use Rattle.sa_outlook.specs.UserLevels.{IgnoresNumbers}
use Rattle.sa_outlook.specs.Laws.{TurnsKeepOutlooks, TurnsPutOutAlike, EndsFollowOutlooks, EndsIgnoreNumbers}
use Rattle.sa_package_outlook.specs.Contexts.{plain, IsMade, plain_prio, IsMadeFor}

abbrev pub FastIgnoresNumbers : Type 0
FastIgnoresNumbers = IgnoresNumbers fast_calls plain IsMade

abbrev pub FastTurnsKeepOutlooks : Type 0
FastTurnsKeepOutlooks = TurnsKeepOutlooks fast_calls plain

abbrev pub FastTurnsPutOutAlike : Type 0
FastTurnsPutOutAlike = TurnsPutOutAlike fast_calls plain

abbrev pub FastEndsFollowOutlooks : Type 0
FastEndsFollowOutlooks = EndsFollowOutlooks fast_calls plain

abbrev pub FastEndsIgnoreNumbers : Type 0
FastEndsIgnoreNumbers = EndsIgnoreNumbers fast_calls

abbrev pub PrioIgnoresNumbers : Type 0
PrioIgnoresNumbers = IgnoresNumbers prio_calls plain_prio IsMadeFor

abbrev pub PrioTurnsKeepOutlooks : Type 0
PrioTurnsKeepOutlooks = TurnsKeepOutlooks prio_calls plain_prio

abbrev pub PrioTurnsPutOutAlike : Type 0
PrioTurnsPutOutAlike = TurnsPutOutAlike prio_calls plain_prio

abbrev pub PrioEndsFollowOutlooks : Type 0
PrioEndsFollowOutlooks = EndsFollowOutlooks prio_calls plain_prio

abbrev pub PrioEndsIgnoreNumbers : Type 0
PrioEndsIgnoreNumbers = EndsIgnoreNumbers prio_calls
