use Rattle.std.proofs.Common.{◌≡◌, refl, arith, rules}
use Rattle.sa_core.specs.View.{machine}
use Rattle.sa_seat.proofs.Entries.{events-none}
use Rattle.sa_seat.proofs.held.move_core.Goals as goal

pub returns-then-pending-eq0-clause-made : goal.returns-then-pending-eq0-clause-made
returns-then-pending-eq0-clause-made g c =
    let s = c.args.seat.now in
    let none : s.pending ≡ 0 = (let a = c.if-pending-eq0.true in let d = c.pending-pending.ensures.pending in omega (arith, a, d)) in
    events-none g.U.UserLevel.calls g.K.Named.budget (machine c.args.core.now) s 1 _ none (record {
      not_ended = c.requires.not_ended;
      one = refl;
      turn = search rules;
    })
