use Rattle.std.proofs.Common.{◌≡◌, ◌≤◌, refl, true, false, ◌∙◌, sym, ap, subst, below_more, arith, length, None, Some}
use Rattle.sa_base.specs.declared.number.ProcNo.{ProcNo}
use Rattle.sa_spaces.specs.Workload.{WorkloadView}
use Rattle.sa_laws.specs.State.{runner_on}
use Rattle.sa_ranks.specs.Pairs.{outranked_on}
use Rattle.sa_check_moment.specs.Listed.{IsListed}
use Rattle.sa_check_moment.specs.Seen.{Kept, seen}
use Rattle.sa_check_moment.specs.KeptFields.{kept_in}
use Rattle.sa_check_moment.proofs.LevelLemmas.{is-lowest, not-lowest}
use Rattle.sa_check_moment.proofs.moment.Moment.is_lowest.Goals as goal

pub loop-other-preserved : goal.loop-other-preserved
loop-other-preserved c = below_more _ _ c.loop-other.invariant (sym c.is_lower.ensures ∙ c.if-is_lower.false)

pub returns-then-is_lower : goal.returns-then-is_lower
returns-then-is_lower c =
    let r = (seen c.args.self.now).readings in
    let pair : outranked_on r c.args.s c.args.q ≡ Some c.in-Some.rank = sym c.outranked_by.ensures ∙ c.in-Some.is in (
      λ yes. absurd (let clash : false ≡ true = yes in cc),
      λ is. absurd (not-lowest r c.args.s c.args.q (record { 0 = c.loop-other.other }) c.in-Some.rank pair (sym c.is_lower.ensures ∙ c.if-is_lower.true) is),
    )

pub returns-in_default : goal.returns-in_default
returns-in_default c = (
  λ yes. absurd (let clash : false ≡ true = yes in cc),
  λ is. absurd (let clash : None ≡ Some is.rank = sym c.in_default.is ∙ c.outranked_by.ensures ∙ is.pair in cc),
)

pub returns : goal.returns
unfolding seen
returns c =
    let m = c.args.self.now in
    let r = (seen m).readings in
    let pair : outranked_on r c.args.s c.args.q ≡ Some c.in-Some.rank = sym c.outranked_by.ensures ∙ c.in-Some.is in
    let listed : IsListed (seen m) = subst (λ (k : Kept). IsListed (seen k)) c.self.view_is c.self.invariant.listed in
    let beyond : (p : ProcNo) → length m.state.owners ≤ p.0 → runner_on m.state p ≡ None =
    subst (λ (k : Kept). (p : ProcNo) → length k.state.owners ≤ p.0 → runner_on k.state p ≡ None) (ap kept_in c.deref.ensures ∙ c.self.view_is)
    c.runs_within.ensures in
    let owners : length m.state.owners ≡ m.workload.processors = listed.owners in
    let size = c.processors-other-end.ensures.value in
    let n = ap (λ (w : WorkloadView). w.processors) c.workload.ensures in (
      λ yes. is-lowest r c.args.s c.args.q c.in-Some.rank m.workload.processors pair
          (λ k less. c.loop-other.invariant k (omega (arith, size, n, less, c.loop-other-test.false))) (λ p past. beyond p (omega (arith, owners, past))),
      λ is. refl,
    )
