-- The threads of a step are threads of the space.
use Rattle.std.proofs.Common.{◌≡◌, ◌<◌, true, ◌&&◌, length, Option, Some, None, IfSome, is_none, ap, arith}
use Rattle.std.proofs.lemmas.Bool.{and_parts}
use Rattle.sa_base.specs.declared.number.ThreadNo.{ThreadNo}
use Rattle.sa_base.specs.declared.limits.TheConstants.{MAX_THREADS}
use Rattle.sa_base.specs.declared.context.Seen.{Seen}
use Rattle.sa_fast.specs.Rest.{one_where, is_ready, place_at}
use Rattle.sa_package_model.specs.Conditions.{IsThread}
use Rattle.sa_driven_model.specs.declared.context.DrivenContext.{DrivenContext}
use Rattle.sa_driven_model.specs.declared.space.DrivenSpace.{DrivenSpace}
use Rattle.sa_driven_model.specs.Threads.{has}
use Rattle.sa_driven_model.specs.Reply.{can_cont}
use Rattle.sa_driven_model.specs.Conditions.{CanIns}
use Rattle.sa_driven_model.proofs.Sets.{has_below}
use Rattle.sa_driven_model.proofs.Places.{place_inside}
use Rattle.sa_driven_model.proofs.Rules.{ready_made, held_made}

pub run_below : (u : DrivenSpace) (c : DrivenContext) (t : ThreadNo) → length u.base.shared.threads ≡ MAX_THREADS
    → (is_none c.thread && is_ready (place_at u.base.shared t.0)) ≡ true → t.0 < MAX_THREADS
run_below u c t all can =
    let both = and_parts (is_none c.thread) (is_ready (place_at u.base.shared t.0)) can in
    let inside = place_inside u.base.shared t.0 (ready_made (place_at u.base.shared t.0) both.1).0 in
    omega (arith, inside, all)

pub ready_below : (u : DrivenSpace) (t : ThreadNo) → length u.handed ≡ MAX_THREADS → has u.handed t.0 ≡ true → t.0 < MAX_THREADS
ready_below u t all can =
    let one : one_where (has u.handed t.0) ≡ 1 = ap one_where can in
    let inside = has_below u.handed t.0 (omega (arith, one)) in
    omega (arith, inside, all)

pub cont_below : (u : DrivenSpace) (c : DrivenContext) (t : Option ThreadNo) → length u.base.shared.threads ≡ MAX_THREADS
    → (is_none c.thread && can_cont u t) ≡ true → IsThread t
cont_below u c None all can = tt
cont_below u c (Some t) all can =
    let both = and_parts (is_none c.thread) (can_cont u (Some t)) can in
    let inside = place_inside u.base.shared t.0 (held_made (place_at u.base.shared t.0) both.1).0 in
    omega (arith, inside, all)

pub carried_below : (u : DrivenSpace) (seen : Seen) (t : Option ThreadNo) → IfSome t (CanIns u seen) → IsThread t
carried_below u seen None can = tt
carried_below u seen (Some t) can = can.runs.below
