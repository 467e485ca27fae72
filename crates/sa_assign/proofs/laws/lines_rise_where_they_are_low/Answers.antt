use Rattle.sa_assign.proofs.LineLemmas.{line_at-lines_after, count_by-records_of}
use Rattle.sa_assign.proofs.laws.lines_rise_where_they_are_low.Goals as goal

pub returns-clause-raised : goal.returns-clause-raised
returns-clause-raised c = line_at-lines_after

pub returns-clause-recorded : goal.returns-clause-recorded
returns-clause-recorded c = count_by-records_of
