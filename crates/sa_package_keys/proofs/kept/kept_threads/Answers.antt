use Rattle.std.proofs.Common.{◌-◌, not, is_none, None, sym, ap, ◌∙◌, arith}
use Rattle.sa_package_keys.proofs.Trimmed.{trimmed-kept, trimmed-none}
use Rattle.sa_package_keys.proofs.kept.kept_threads.Goals as goal

pub returns-then-is_some-clause-kept : goal.returns-then-is_some-clause-kept
returns-then-is_some-clause-kept c =
    trimmed-kept is_none None c.args.threads.now (c.loop-i.i - 1) (omega arith) (ap not (sym c.is_some.ensures ∙ c.if-is_some.true))
    (λ t from low. c.loop-i.invariant t (omega arith) low)

pub returns-clause-kept : goal.returns-clause-kept
returns-clause-kept c = trimmed-none is_none None c.args.threads.now (λ t from low. c.loop-i.invariant t (omega arith) low)
