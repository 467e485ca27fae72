use Rattle.std.proofs.Common.{sym, ap, ◌∙◌}
use Rattle.sa_machine.specs.View.{machine_of}
use Rattle.sa_abstract.specs.declared.answer.Step.{Step}
use Rattle.sa_core_model.specs.Turn.{asked}
use Rattle.sa_machine.proofs.EventLemmas.{vacant}
use Rattle.sa_machine.proofs.machine.MachineParts.answer.Goals as goal

pub returns-in-Did-clause-machine : goal.returns-in-Did-clause-machine
returns-in-Did-clause-machine g c =
    let f = g.U.UserLevel.calls in
    let m = machine_of c.args.self.now in
    let free = vacant c.args.self.now.kernel.parts.acts in
    record {
      fresh = free.0;
      unused = free.1;
      is = c.end_slice.ensures.machine ∙ sym (ap (λ (z : Step). asked f c.args.p free.0 z m) c.in-Did.is);
    }
