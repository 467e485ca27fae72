use Rattle.std.proofs.Common.{◌≡◌, ◌-◌, ◌+◌, suc, length, sym, ◌∙◌, ap, Some, None, arith}
use Rattle.sa_circles.specs.Circles.{next_of, rest_from}
use Rattle.sa_circles.proofs.CircleLemmas.{with_front, with-none, comes-home, ends-there, falls-below, goes-on}
use Rattle.sa_circles.proofs.circles.rest_of.Goals as goal

pub loop-step-init : goal.loop-step-init
loop-step-init c =
    let next = next_of c.args.waits.now c.args.s in
    let n = length c.args.waits.now in
    let all : n - 0 ≡ n = omega arith in
    ap (λ front. with_front front (rest_from next c.args.home c.args.home (n - 0))) c.new-rest.ensures.items
    ∙ with-none (rest_from next c.args.home c.args.home (n - 0)) ∙ ap (rest_from next c.args.home c.args.home) all

pub returns-in_default : goal.returns-in_default
returns-in_default c =
    let next = next_of c.args.waits.now c.args.s in
    let n = length c.args.waits.now - (c.loop-step._step + 1) in
    let left : length c.args.waits.now - c.loop-step._step ≡ suc n = omega arith in
    sym (ends-there next c.args.home c.loop-step.t n c.loop-step.rest.items (sym c.next_of.ensures ∙ c.in_default.is))
    ∙ ap (λ k. with_front c.loop-step.rest.items (rest_from next c.args.home c.loop-step.t k)) (sym left) ∙ c.loop-step.invariant

pub returns-then-u-home : goal.returns-then-u-home
returns-then-u-home c =
    let next = next_of c.args.waits.now c.args.s in
    let n = length c.args.waits.now - (c.loop-step._step + 1) in
    let left : length c.args.waits.now - c.loop-step._step ≡ suc n = omega arith in
    sym (comes-home next c.args.home c.loop-step.t n c.in-Some.u c.loop-step.rest.items (sym c.next_of.ensures ∙ c.in-Some.is) c.if-u-home.true)
    ∙ ap (λ k. with_front c.loop-step.rest.items (rest_from next c.args.home c.loop-step.t k)) (sym left) ∙ c.loop-step.invariant

pub returns-then-u-home-2 : goal.returns-then-u-home-2
returns-then-u-home-2 c =
    let next = next_of c.args.waits.now c.args.s in
    let n = length c.args.waits.now - (c.loop-step._step + 1) in
    let left : length c.args.waits.now - c.loop-step._step ≡ suc n = omega arith in
    sym (falls-below next c.args.home c.loop-step.t n c.in-Some.u c.loop-step.rest.items (sym c.next_of.ensures ∙ c.in-Some.is) c.if-u-home.false c.if-u-home-2.true)
    ∙ ap (λ k. with_front c.loop-step.rest.items (rest_from next c.args.home c.loop-step.t k)) (sym left) ∙ c.loop-step.invariant

pub loop-step-preserved : goal.loop-step-preserved
loop-step-preserved c =
    let next = next_of c.args.waits.now c.args.s in
    let n = length c.args.waits.now - (c.loop-step._step + 1) in
    let left : length c.args.waits.now - c.loop-step._step ≡ suc n = omega arith in
    ap (λ front. with_front front (rest_from next c.args.home c.in-Some.u n)) c.in_ok-push.ensures.items
    ∙ sym (goes-on next c.args.home c.loop-step.t n c.in-Some.u c.loop-step.rest.items (sym c.next_of.ensures ∙ c.in-Some.is) c.if-u-home.false c.if-u-home-2.false)
    ∙ ap (λ k. with_front c.loop-step.rest.items (rest_from next c.args.home c.loop-step.t k)) (sym left) ∙ c.loop-step.invariant

pub returns : goal.returns
unfolding rest_from
returns c =
    let none : length c.args.waits.now - c.loop-step._step ≡ 0 = omega arith in
    sym (ap (λ k. with_front c.loop-step.rest.items (rest_from (next_of c.args.waits.now c.args.s) c.args.home c.loop-step.t k)) none) ∙ c.loop-step.invariant
