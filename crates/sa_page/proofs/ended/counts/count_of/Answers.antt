use Rattle.std.proofs.Common.{arith, refl, sym, ◌∙◌}
use Rattle.sa_page.specs.Counts.{count_at}
use Rattle.sa_page.proofs.CountLemmas.{sum-none, sum-with}
use Rattle.sa_page.proofs.ended.counts.count_of.Goals as goal

pub loop-s-init : goal.loop-s-init
loop-s-init c = record { is = sym (sum-none (count_at c.args.replay.now.state c.args.standing)); few = omega arith }

pub loop-s-preserved : goal.loop-s-preserved
loop-s-preserved c = record {
  is = sum-with (count_at c.args.replay.now.state c.args.standing) c.loop-s.s c.from-n.result c.loop-s.n _ c.loop-s.invariant.is (sym (c.from-n.ensures ∙ c.count_in.ensures)) refl;
  few = omega (arith, c.loop-s.invariant.few, c.from-n.ensures, c.count_in.type_inv);
}
