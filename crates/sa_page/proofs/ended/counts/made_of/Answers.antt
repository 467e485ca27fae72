use Rattle.std.proofs.Common.{arith, refl, sym, ◌∙◌}
use Rattle.sa_page.specs.Counts.{made_at}
use Rattle.sa_page.proofs.CountLemmas.{sum-none, sum-with}
use Rattle.sa_page.proofs.ended.counts.made_of.Goals as goal

pub loop-s-init : goal.loop-s-init
loop-s-init c = record { is = sym (sum-none (made_at c.args.replay.now.state)); few = omega arith }

pub loop-s-preserved : goal.loop-s-preserved
loop-s-preserved c = record {
  is = sum-with (made_at c.args.replay.now.state) c.loop-s.s c.from-n.result c.loop-s.n _ c.loop-s.invariant.is (sym (c.from-n.ensures ∙ c.made.ensures)) refl;
  few = omega (arith, c.loop-s.invariant.few, c.from-n.ensures, c.made.type_inv);
}
