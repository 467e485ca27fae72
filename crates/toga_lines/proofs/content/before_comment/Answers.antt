use Rattle.std.proofs.Common.{◌==◌}
use Rattle.toga_lines.proofs.Firsts.{before-some, before-none}
use Rattle.toga_lines.proofs.content.before_comment.Goals as goal

pub returns-in-Some : goal.returns-in-Some
returns-in-Some c = before-some (λ b. b == 35) c.args.line.now c.in-Some.end c.in-Some.ensures

pub returns-in-None : goal.returns-in-None
returns-in-None c = before-none (λ b. b == 35) c.args.line.now c.in-None.ensures
