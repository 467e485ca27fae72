-- What FastThreads owes to the history of a run, and keeps.
use Rattle.sa_package_model.specs.Stands.{fast_stands}
use Rattle.sa_package_model.specs.Step.{fast_calls}
use Rattle.sa_laws.specs.Rules.{fast_threads}
use Rattle.sa_user_laws.specs.Laws.{UserLaws}
use Rattle.sa_fast_laws.specs.FastFits.{fast_fits, fast_hears}

-- Its calls keep its value and its contexts beside what is read of the history, and every record that it adds is legal by
-- its own rules: the steps of the abstract machine, the table of steps, demand announced, list locks and list order.
abbrev pub FastThreadsKeepsItsLaws : Type 0
FastThreadsKeepsItsLaws = UserLaws fast_calls fast_stands fast_threads fast_fits fast_hears
