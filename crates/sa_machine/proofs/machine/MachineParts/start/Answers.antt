use Rattle.std.proofs.Common.{ℕ, replicate, None, Option, ap, ◌∙◌}
use Rattle.sa_machine.proofs.machine.MachineParts.start.Goals as goal

pub returns-clause-opened : goal.returns-clause-opened
returns-clause-opened g c =
    let none : Option g.row.U-Ctx.Denot = None in
    let kernel = c.in_ok-kernel.ensures.opened in
    let users = c.in_ok-users.ensures in
    let contexts = c.in_ok-contexts.ensures ∙ ap (λ (n : ℕ). replicate n none) c.processors.ensures.value in
    λ i. record {
      workload = c.args.w;
      kernel = (kernel i).state;
      users = users i;
      contexts = contexts i;
      event = 0;
      items = (kernel i).items;
    }
