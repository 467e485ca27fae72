use Rattle.std.proofs.Common.{sym, ◌∙◌}
use Rattle.sa_laws.specs.Rules.{rules}
use Rattle.sa_check.specs.Findings.{found_of}
use Rattle.sa_check.proofs.FindLemmas.{none-fails}
use Rattle.sa_check.proofs.findings.Findings.first_broken.Goals as goal

pub returns-then-all_hold : goal.returns-then-all_hold
returns-then-all_hold c = sym (none-fails (found_of c.args.self.now) rules (sym c.all_hold.ensures ∙ c.if-all_hold.true))
