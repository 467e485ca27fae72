use Rattle.std.proofs.Common.{◌≡◌, ◌≤◌, true, false, ◌&&◌, ◌==◌, List, [], refl, sym, ◌∙◌, ap, inl, inr, length, arith}
use Rattle.std.specs.List.{list_any}
use Rattle.std.proofs.lemmas.Bool.{cases_lt, false≢true}
use Rattle.std.proofs.lemmas.List.{get_or_past}
use Rattle.std.proofs.Math.Bool.{and-false}
use Rattle.sa_base.specs.declared.number.SpaceNo.{SpaceNo}
use Rattle.sa_base.specs.declared.record.Note.{Note}
use Rattle.sa_spaces.specs.Workload.{WorkloadView}
use Rattle.sa_assign.specs.Aims.{space_no}
use Rattle.sa_laws.specs.Readings.{Readings, demand_of, must_hear}
use Rattle.sa_laws.specs.Closing.{must_want}
use Rattle.sa_check_moment.specs.Seen.{seen}
use Rattle.sa_check.proofs.prompt.wants_nothing.Goals as goal

-- nothing is untold to a space that is not there
nothing-past : (r : Readings) (s : SpaceNo) → length r.untold ≤ s.0 → must_want r s ≡ false
nothing-past r s past =
    ap (λ (notes : List Note). (demand_of r s == 0) && list_any (must_hear r) notes) (get_or_past r.untold s.0 [] past) ∙ and-false (demand_of r s == 0)

pub returns-then-must_want : goal.returns-then-must_want
returns-then-must_want c =
    (λ e. absurd (false≢true e), λ none. absurd (false≢true (sym (none (space_no c.loop-s.s)) ∙ sym c.must_want.ensures ∙ c.if-must_want.true)))

pub returns : goal.returns
returns c =
    let m = seen c.args.moment.now in
    let all = c.ranges-2.ensures.untold in
    let size = ap length c.spaces-s-end.ensures.value in
    let same = ap (λ (w : WorkloadView). length w.spaces) c.workload.ensures in
    let over = c.loop-s-test.false in (
      λ _ s. elim (cases_lt s.0 (length m.workload.spaces)) [
        | inl below ↦ c.loop-s.invariant s.0 (omega arith)
        | inr past ↦ nothing-past m.readings s (omega arith)
      ],
      λ _. refl,
    )
