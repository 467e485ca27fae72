use Rattle.std.proofs.Common.{ℕ, Vec, Global, ◌∙◌}
use Rattle.sa_core.specs.View.{machine}
use Rattle.sa_keys.proofs.Appends.{map-step}
use Rattle.sa_keys.proofs.outcome.all_cells.Goals as goal

pub loop-s-preserved : goal.loop-s-preserved
loop-s-preserved g c =
    let m = machine c.args.core.now in
    map-step (λ (v : Vec ℕ Global). v.items) g.U.Keyed.cells_of m.users c.loop-s.cells.items c.push.new.self.items c.in_ok-from_slice.field-0 c.loop-s.s
    c.user.result.now c.user.ensures c.loop-s.invariant c.in_ok-push.ensures.items (c.in_ok-from_slice.ensures.items ∙ c.cells.ensures)
