use Rattle.std.proofs.Common.{rules}
use Rattle.sa_package.proofs.notice.section_of.Goals as goal

pub returns-in_ok-frame-in-Code : goal.returns-in_ok-frame-in-Code
returns-in_ok-frame-in-Code c = search rules
