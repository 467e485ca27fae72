use Rattle.sa_core.specs.View.{machine}
use Rattle.tests_machine.proofs.rows.play.Given as goal

-- the machine of this core and of these words
abbrev pub ghosts-play_named : goal.ghosts-play_named
ghosts-play_named g a = record {
  workload = (machine a.core).workload;
  budget = a.core.budget;
  table = a.words;
}
