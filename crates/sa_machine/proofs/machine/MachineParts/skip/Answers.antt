use Rattle.std.proofs.Common.{◌∙◌, arith}
use Rattle.sa_machine.specs.View.{machine_of}
use Rattle.sa_machine.proofs.EventLemmas.{skip-one}
use Rattle.sa_machine.proofs.machine.MachineParts.skip.Goals as goal

pub loop-i-preserved : goal.loop-i-preserved
loop-i-preserved g c =
    let inv = c.loop-i.invariant in
    let next = c.next.ensures in
    record {
      machine = skip-one c.args.n c.loop-i._i (machine_of c.loop-i.self) (machine_of c.next.new.self) _ c.loop-i-test.true next.machine inv.machine;
      events = omega (arith, next.events, inv.events);
      owed = next.owed ∙ inv.owed;
      lives = next.lives ∙ inv.lives;
      spare = next.spare ∙ inv.spare;
      last = next.last ∙ inv.last;
      trace = next.trace ∙ inv.trace;
    }
