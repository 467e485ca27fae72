use Rattle.std.proofs.Common.{refl, sym, ◌∙◌, ap, is_some}
use Rattle.sa_assign.specs.Reaim.{proc_no}
use Rattle.sa_check.proofs.prompt.owns_raised.Goals as goal

pub returns-then-is_some : goal.returns-then-is_some
returns-then-is_some c = (λ e. (proc_no c.loop-p.p, c.owns.ensures.0 c.if-owns.true, sym (c.if-is_some.ensures ∙ ap is_some c.line.ensures)), λ _. refl)
