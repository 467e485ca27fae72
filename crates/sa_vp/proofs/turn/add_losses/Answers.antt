use Rattle.std.proofs.Common.{◌+◌, length, get_or, arith}
use Rattle.std.proofs.lemmas.List.FromFn.{fill_by_all}
use Rattle.sa_vp_model.specs.Turn.{loss}
use Rattle.sa_vp.proofs.turn.add_losses.Goals as goal

pub returns : goal.returns
returns c =
    let old = c.args.lost.now.items in
    fill_by_all (λ s. get_or old s 0 + loss c.args.replay.now.state c.args.blocked.now.items s) c.loop-s.lost.items (length old) 0 c.loop-s.invariant.many
    (λ k below. c.loop-s.invariant.done k (omega (arith, below, c.loop-s-test.false, c.len-s-end.ensures, c.args.lost.now.ok.0)))
