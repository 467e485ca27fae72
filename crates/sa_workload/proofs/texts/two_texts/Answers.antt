use Rattle.sa_workload.proofs.Splitting.{first-part, second-part}
use Rattle.sa_workload.proofs.texts.two_texts.Goals as goal

pub returns-clause-first : goal.returns-clause-first
returns-clause-first c = first-part c.args.input.now c.split_at.result.0.now c.workload_len.result c.split_at.ensures.front c.workload_len.ensures.len

pub returns-clause-second : goal.returns-clause-second
returns-clause-second c = second-part c.args.input.now c.split_at.result.1.now c.workload_len.result c.split_at.ensures.back c.workload_len.ensures.len
