use Rattle.std.proofs.Common.{◌≡◌, ℕ, cond, ap, ◌∙◌, arith}
use Rattle.sa_machine.specs.View.{machine_of}
use Rattle.sa_machine.proofs.CallLemmas.{told-one}
use Rattle.sa_machine.proofs.machine.MachineParts.tell.Goals as goal

pub loop-left-smaller : goal.loop-left-smaller
loop-left-smaller g c =
    let keep = (g.met.U.UserLevel g.world.𝓛 g.world.𝓜 g.world.𝓡 ((λ s x. x), (λ x. x), (λ x. x), λ x. x)).keeps in
    let inv = c.loop-left.invariant in
    let call = c.tell_one-left.ensures in
    let one = told-one g.U.UserLevel.calls g.U.UserLevel.stands keep c.args.p c.args.s (machine_of c.loop-left.self)
    (machine_of c.tell_one-left.new.self) c.tell_one-left.result
    inv.standing inv.owner inv.claimed call.none call.some in
    let left : ◌≡◌ {A = ℕ} (cond c.loop-left.left 1 0) 1 = ap (λ b. cond b 1 0) c.loop-left-test.true in
    let less = one.less in
    omega (arith, less, left)

pub loop-left-preserved : goal.loop-left-preserved
loop-left-preserved g c =
    let keep = (g.met.U.UserLevel g.world.𝓛 g.world.𝓜 g.world.𝓡 ((λ s x. x), (λ x. x), (λ x. x), λ x. x)).keeps in
    let inv = c.loop-left.invariant in
    let call = c.tell_one-left.ensures in
    let one = told-one g.U.UserLevel.calls g.U.UserLevel.stands keep c.args.p c.args.s (machine_of c.loop-left.self)
    (machine_of c.tell_one-left.new.self) c.tell_one-left.result
    inv.standing inv.owner inv.claimed call.none call.some in
    record {
      standing = one.standing;
      owner = one.owner;
      claimed = one.claimed;
      rest = one.rest ∙ inv.rest;
      done = one.done;
      spends = record {
        items = omega (arith, inv.spends.items, call.spends.items);
        entries = omega (arith, inv.spends.entries, call.spends.entries);
        last = omega (arith, inv.spends.last, call.spends.last, call.spends.events);
        events = omega (arith, inv.spends.events, call.spends.events);
      };
    }
