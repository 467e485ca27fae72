use Rattle.std.proofs.Common.{ap}
use Rattle.sa_vp_model.specs.Board.{Board}
use Rattle.sa_vp.proofs.Kept.{kept-start}
use Rattle.sa_vp.proofs.vp.Vp.start.Goals as goal

pub invariant_of-result : goal.invariant_of-result
invariant_of-result c = kept-start c.args.w c.in_ok-start.field-0 c.args.budget c.ranges-2.ensures c.in_ok-start.ensures c.requires.few c.requires.some

pub returns : goal.returns
returns c = record { opening = ap (λ (b : Board). record { board = b; budget = c.args.budget; spare = 0 }) c.in_ok-start.ensures }
