use Rattle.std.proofs.Common.{sym, subst}
use Rattle.sa_fast.specs.Work.{IsWork}
use Rattle.sa_fast.proofs.WorkLemmas.{named-add}
use Rattle.sa_fast.proofs.work.WorkLists.add.Goals as goal

pub invariant_of-self : goal.invariant_of-self
invariant_of-self c =
    named-add c.self.inside.chains c.push_back.new.self c.args.work.now c.args.t c.unwrap_or-name.result _ _ c.self.invariant c.requires.thread
    (subst (λ ls. IsWork ls c.args.work.now) (sym c.self.view_is) c.requires.work) c.unwrap_or-name.ensures c.from.ensures c.from-2.ensures c.push_back.ensures
