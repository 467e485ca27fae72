use Rattle.std.proofs.Common.{arith}
use Rattle.sa_trace.proofs.Digits.{with_pair, with_pairs}
use Rattle.sa_trace.proofs.fields.push_decimal.Goals as goal

pub returns-then-n-lt10000-clause-text : goal.returns-then-n-lt10000-clause-text
returns-then-n-lt10000-clause-text c =
    with_pair c.args.out.now.items c.push_short-then-n-lt10000.new.out.items c.push_pair.new.out.items c.args.n (omega arith) (omega arith)
    c.push_short-then-n-lt10000.ensures.text c.push_pair.ensures.text

pub returns-then-n-lt1000000-clause-text : goal.returns-then-n-lt1000000-clause-text
returns-then-n-lt1000000-clause-text c =
    with_pairs c.args.out.now.items c.push_short-then-n-lt1000000.new.out.items c.push_pair-then-n-lt1000000.new.out.items
    c.push_pair-then-n-lt1000000-2.new.out.items c.args.n (omega arith) (omega arith)
    c.push_short-then-n-lt1000000.ensures.text c.push_pair-then-n-lt1000000.ensures.text c.push_pair-then-n-lt1000000-2.ensures.text
