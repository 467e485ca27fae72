use Rattle.std.proofs.lemmas.Bool.{false≢true}
use Rattle.sa_assign.specs.Reaim.{proc_no}
use Rattle.sa_check.proofs.prompt.owns_none.Goals as goal

pub returns-then-owns : goal.returns-then-owns
returns-then-owns c = (λ e. absurd (false≢true e), λ none. absurd (none (proc_no c.loop-p.p) (c.owns.ensures.0 c.if-owns.true)))
