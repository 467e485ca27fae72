use Rattle.std.proofs.Common.{◌≤◌, length, sym, subst}
use Rattle.sa_trace.proofs.KindLemmas.{bounds}
use Rattle.sa_trace.proofs.kind.Kind.form.Goals as goal

pub returns-clause-first : goal.returns-clause-first
returns-clause-first c = subst (λ n. 1 ≤ n) (sym c.written-number.ensures.0) (bounds c.args.self).0

pub returns-clause-last : goal.returns-clause-last
returns-clause-last c = subst (λ n. n ≤ 23) (sym c.written-number.ensures.0) (bounds c.args.self).1

pub returns-clause-few : goal.returns-clause-few
returns-clause-few c = subst (λ fields. length fields ≤ 4) (sym c.written-number.ensures.2) (bounds c.args.self).2

pub returns-clause-short : goal.returns-clause-short
returns-clause-short c = subst (λ word. length word ≤ 14) (sym c.written-number.ensures.1) (bounds c.args.self).3
