use Rattle.std.proofs.Common.{rules}
use Rattle.sa_package.proofs.package.FastThreads.do_work.Goals as goal

pub returns-in-Some : goal.returns-in-Some
returns-in-Some c = search rules
