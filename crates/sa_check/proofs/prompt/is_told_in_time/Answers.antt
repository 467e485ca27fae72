use Rattle.std.proofs.Common.{refl, sym, ◌∙◌, ap, inl, inr, length, arith, below_more, []}
use Rattle.std.proofs.lemmas.Bool.{cases_lt, false≢true}
use Rattle.std.proofs.lemmas.List.{get_or_past}
use Rattle.sa_spaces.specs.Workload.{WorkloadView}
use Rattle.sa_assign.specs.Aims.{space_no}
use Rattle.sa_check_moment.specs.Seen.{seen}
use Rattle.sa_check.proofs.prompt.is_told_in_time.Goals as goal

pub returns-then-not-is_prompt_to : goal.returns-then-not-is_prompt_to
returns-then-not-is_prompt_to c = (
  λ e. absurd (false≢true e),
  λ prompt. absurd (false≢true (sym c.if-not-is_prompt_to.true ∙ c.is_prompt_to.ensures.1 (record { told = prompt.each (space_no c.loop-s.s) }))),
)

pub loop-s-preserved : goal.loop-s-preserved
loop-s-preserved c = below_more _ _ c.loop-s.invariant (c.is_prompt_to.ensures.0 c.if-not-is_prompt_to.false)

pub returns : goal.returns
returns c =
    let m = seen c.args.moment.now in
    let all = c.ranges-2.ensures.untold in
    let size = ap length c.spaces-s-end.ensures.value in
    let same = ap (λ (w : WorkloadView). length w.spaces) c.workload.ensures in
    let over = c.loop-s-test.false in (
      λ _. record {
        each = λ s some. elim (cases_lt s.0 (length m.workload.spaces)) [
          | inl below ↦ (c.loop-s.invariant s.0 (omega arith)).told some
          | inr past ↦ absurd (some (get_or_past m.readings.untold s.0 [] (omega arith)))
        ];
      },
      λ _. refl,
    )
