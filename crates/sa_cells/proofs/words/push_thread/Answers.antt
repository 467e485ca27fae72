use Rattle.std.proofs.Common.{ℕ, ap, ◌∙◌}
use Rattle.std.specs.Prelude.{codes}
use Rattle.sa_cells.specs.Pieces.{three}
use Rattle.sa_cells.proofs.Joined.{joined-as}
use Rattle.sa_cells.proofs.words.push_thread.Goals as goal

pub returns : goal.returns
returns c =
    joined-as c.push_three.result c.args.out.now.items c.push_three.new.out.items _ _
    (ap (λ (n : ℕ). three (codes "Thread ") n (codes " of space ") c.from-2.result c.args.does.now c.args.n (codes ".")) c.from.ensures
    ∙ ap (λ (n : ℕ). three (codes "Thread ") c.args.t.0 (codes " of space ") n c.args.does.now c.args.n (codes ".")) c.from-2.ensures) c.push_three.ensures
