use Rattle.std.proofs.Common.{length, sym, ◌∙◌, ap, arith, ◌&&◌, Bool}
use Rattle.sa_assign.specs.Aims.{is_idle_and_spared, can_be_spared}
use Rattle.sa_assign.proofs.ChoiceLemmas.{least_below-found}
use Rattle.sa_assign.proofs.aims.first_idle.Goals as goal

pub returns-then-can_be_spared : goal.returns-then-can_be_spared
returns-then-can_be_spared c =
    let shares = c.args.shares.now in
    let aims = c.args.aims.now in
    let idle = sym c.is_idle.ensures ∙ c.if-is_idle.true in
    let spared = sym c.can_be_spared.ensures ∙ c.if-can_be_spared.true in
    let both = ap (λ (b : Bool). b && can_be_spared shares aims c.loop-p.p) idle ∙ spared in
    sym (least_below-found (length aims) (is_idle_and_spared shares c.args.marks.now aims) c.loop-p.p c.loop-p.invariant both (omega arith))
