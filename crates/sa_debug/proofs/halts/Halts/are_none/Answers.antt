use Rattle.std.proofs.Common.{refl, sym, ◌∙◌, arith}
use Rattle.std.proofs.lemmas.Bool.{false≢true}
use Rattle.sa_assign.specs.Reaim.{proc_no}
use Rattle.sa_debug.proofs.halts.Halts.are_none.Goals as goal

pub returns-then-not-goes : goal.returns-then-not-goes
returns-then-not-goes c = (
  λ some. absurd (false≢true some),
  λ none. absurd (false≢true (sym c.if-not-goes.true ∙ c.goes.ensures ∙ none (proc_no c.loop-p.p) c.loop-p-test.true)),
)

pub returns : goal.returns
returns c = (λ all p within. c.loop-p.invariant p.0 (omega (arith, within, c.loop-p-test.false)), λ none. refl)
