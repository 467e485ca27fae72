use Rattle.std.proofs.Common.{rules}
use Rattle.sa_package.proofs.package.FastThreads.owed.Goals as goal

pub returns : goal.returns
returns c = search rules
