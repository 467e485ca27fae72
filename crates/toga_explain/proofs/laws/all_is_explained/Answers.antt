use Rattle.toga_explain.proofs.Among.{instructions-are-among, records-are-among, rules-are-among, causes-are-among, ends-are-among, statuses-are-among}
use Rattle.toga_explain.proofs.laws.all_is_explained.Goals as goal

pub returns-clause-instructions : goal.returns-clause-instructions
returns-clause-instructions c = instructions-are-among

pub returns-clause-records : goal.returns-clause-records
returns-clause-records c = records-are-among

pub returns-clause-rules : goal.returns-clause-rules
returns-clause-rules c = rules-are-among

pub returns-clause-causes : goal.returns-clause-causes
returns-clause-causes c = causes-are-among

pub returns-clause-ends : goal.returns-clause-ends
returns-clause-ends c = ends-are-among

pub returns-clause-statuses : goal.returns-clause-statuses
returns-clause-statuses c = statuses-are-among
