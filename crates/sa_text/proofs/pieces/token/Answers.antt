use Rattle.std.proofs.Common.{arith}
use Rattle.sa_text.proofs.PieceLemmas.{pieces_from-first, take-lacks_space}
use Rattle.sa_text.proofs.pieces.token.Goals as goal

pub returns-clause-pieces : goal.returns-clause-pieces
returns-clause-pieces c =
    pieces_from-first c.args.text.now c.args.from c.args.line.now.end _ (omega arith)
    (omega arith) c.length_before.ensures.within c.length_before.ensures.before c.length_before.ensures.stopped

pub returns-clause-no_space : goal.returns-clause-no_space
returns-clause-no_space c =
    take-lacks_space c.args.text.now c.args.from c.args.line.now.end _ (omega (arith, c.length_before.ensures.within)) c.length_before.ensures.before
