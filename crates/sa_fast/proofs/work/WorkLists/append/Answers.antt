use Rattle.std.proofs.Common.{Some, sym, subst}
use Rattle.sa_fast.specs.Work.{IsWork}
use Rattle.sa_fast.proofs.WorkLemmas.{named-join}
use Rattle.sa_fast.proofs.work.WorkLists.append.Goals as goal

pub invariant_of-self : goal.invariant_of-self
invariant_of-self c =
    named-join c.self.inside.chains c.append.new.self c.in-Some-Some.list c.in-Some-Some.from _ _ c.self.invariant
    (subst (λ x. IsWork x (Some c.in-Some-Some.list)) (sym c.self.view_is) (subst (λ w. IsWork c.args.self.now w) c.in-Some-Some.is-0 c.requires.work))
    (subst (λ x. IsWork x (Some c.in-Some-Some.from)) (sym c.self.view_is) (subst (λ w. IsWork c.args.self.now w) c.in-Some-Some.is-1 c.requires.other))
    c.from.ensures c.from-in-Some-Some.ensures c.append.ensures.lists
