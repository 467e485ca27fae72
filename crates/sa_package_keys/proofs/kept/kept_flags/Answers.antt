use Rattle.std.proofs.Common.{◌≡◌, ◌-◌, not, true, false, get_or, ap, arith}
use Rattle.sa_package_keys.proofs.Trimmed.{trimmed-kept, trimmed-none}
use Rattle.sa_package_keys.proofs.kept.kept_flags.Goals as goal

pub returns-then-flags-i-clause-kept : goal.returns-then-flags-i-clause-kept
returns-then-flags-i-clause-kept c =
    let set : get_or c.args.flags.now (c.loop-i.i - 1) false ≡ true = c.if-flags-i.true in
    trimmed-kept not false c.args.flags.now (c.loop-i.i - 1) (omega arith) (ap not set)
    (λ t from low. c.loop-i.invariant t (omega arith) low)

pub returns-clause-kept : goal.returns-clause-kept
returns-clause-kept c = trimmed-none not false c.args.flags.now (λ t from low. c.loop-i.invariant t (omega arith) low)
