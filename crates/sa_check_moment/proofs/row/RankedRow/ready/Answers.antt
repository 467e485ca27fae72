use Rattle.std.proofs.Common.{rules, ◌≡◌, sym, ◌∙◌, ap, subst, set, List, arith}
use Rattle.std.proofs.lemmas.List.{set-get_or}
use Rattle.std.proofs.lemmas.Grind.{common_steps}
use Rattle.sa_base.specs.declared.number.ThreadNo.{ThreadNo}
use Rattle.sa_check_moment.specs.Ranked.{IsTop}
use Rattle.sa_check_moment.proofs.row.RankedRow.ready.Goals as goal

pub invariant_of-self-in_err-push : goal.invariant_of-self-in_err-push
invariant_of-self-in_err-push c =
    let old = c.self.invariant in
    let rows = c.grow.new.stacks.items in
    let at = c.from-at.result in
    let grown : IsTop rows c.self.inside.top = record {
      within = omega (arith, old.within, c.grow.ensures.more);
      few = old.few;
      above = λ k h. c.grow.ensures.same k ∙ old.above k h;
      some = λ k e h. old.some k e (sym (c.grow.ensures.same k) ∙ h);
    } in
    let same : set rows at c.index_mut.result.now ≡ rows = first_of (search rules, grind (arith, common_steps, set-get_or)) in
    subst (λ (row : List (List ThreadNo)). IsTop row c.self.inside.top) (sym (ap (set rows at) c.in_err-push.ensures.err ∙ same)) grown
