use Rattle.std.proofs.Common.{◌≡◌, ℕ, ◌+◌, List, true, false, ap}
use Rattle.sa_vp.specs.View.{board_of}
use Rattle.sa_vp.proofs.Waits.{none_lost}
use Rattle.sa_vp.proofs.board.Parts.count.Goals as goal

pub returns-else-busy-clause-board : goal.returns-else-busy-clause-board
returns-else-busy-clause-board c =
    let b = board_of c.args.self.now in
    ap (λ (lost : List ℕ). record b { lost = lost; number = b.number + 1 })
    (none_lost b c.requires.ios (λ some. let bad : false ≡ true = c.if-busy.ensures.1 some in cc))
