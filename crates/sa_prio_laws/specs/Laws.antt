-- What the package with thread priorities owes to the history of a run, and keeps.
use Rattle.sa_prio_model.specs.Stands.{prio_stands}
use Rattle.sa_prio_model.specs.Step.{prio_calls}
use Rattle.sa_ranks.specs.Rules.{prio_threads}
use Rattle.sa_user_laws.specs.Laws.{UserLaws}
use Rattle.sa_prio_laws.specs.PrioFits.{prio_fits, prio_hears}

-- Its calls keep its value and its contexts beside what is read of the history, and every record that it adds is legal by
-- its own rules: the steps of the abstract machine, the table of steps, demand announced and pairs served, the one list's
-- lock, and the order by rank.
abbrev pub PrioThreadsKeepsItsLaws : Type 0
PrioThreadsKeepsItsLaws = UserLaws prio_calls prio_stands prio_threads prio_fits prio_hears
