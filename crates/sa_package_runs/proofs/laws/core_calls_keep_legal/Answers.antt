use Rattle.sa_package_runs.proofs.Calls.{start-reaches, turn-reaches, turn-alone-reaches, commit-reaches, reached-legal, reached-strict, reached-ends, commit-adds-instructions}
use Rattle.sa_package_runs.proofs.laws.core_calls_keep_legal.Goals as goal

pub returns : goal.returns
returns c = record {
  start = start-reaches;
  turn = turn-reaches;
  turn_alone = turn-alone-reaches;
  commit = commit-reaches;
  legal = reached-legal;
  strict = reached-strict;
  end = reached-ends;
  adds = commit-adds-instructions;
}
