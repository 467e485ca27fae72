use Rattle.std.proofs.Common.{length, ap, sym, ◌∙◌, arith}
use Rattle.sa_lists.specs.Chains.{Ranked}
use Rattle.sa_lists.specs.ReadyView.{ReadyView}
use Rattle.sa_lists.proofs.Storing.{counted-some, stored-kept, stored-taken}
use Rattle.sa_lists.proofs.ready.ReadyLists.take_from.Goals as goal

pub invariant_of-self : goal.invariant_of-self
invariant_of-self c =
    stored-kept c.self.inside.lists.lists _ _ c.self.inside.ready _ _ c.args.q.0 c.self.invariant
    (omega (arith, c.requires.list, ap (λ (r : ReadyView). length r.lists) c.self.view_is))
    (sym c.pop_last.ensures.last ∙ c.in_err-thread.was) (ap (λ (r : Ranked). r.lists) c.pop_last.ensures.lists)

pub invariant_of-self-2 : goal.invariant_of-self-2
invariant_of-self-2 c =
    stored-taken c.self.inside.lists.lists _ _ c.self.inside.ready _ _ c.args.q.0 _ c.self.invariant
    (omega (arith, c.requires.list, ap (λ (r : ReadyView). length r.lists) c.self.view_is))
    (sym c.pop_last.ensures.last ∙ c.in_ok-thread.was) (ap (λ (r : Ranked). r.lists) c.pop_last.ensures.lists)

pub overflow_sub-self : goal.overflow_sub-self
overflow_sub-self c =
    counted-some c.self.inside.lists.lists _ c.self.inside.ready _ _ c.args.q.0 _ _ c.self.invariant (sym c.pop_last.ensures.last ∙ c.in_ok-thread.was)
