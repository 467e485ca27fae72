use Rattle.std.proofs.Common.{rules, arith, ◌≡◌, ◌+◌, ◌-◌, ◌≤◌, None, sym, ap, ◌∙◌, inl, inr}
use Rattle.std.proofs.lemmas.Bool.{cases_lt}
use Rattle.sa_sched.specs.Kind.{order_of}
use Rattle.sa_sched.specs.Order.{processor_at}
use Rattle.sa_sched.specs.Turns.{Turns, start, turned_often}
use Rattle.sa_vp_model.specs.End.{end_of}
use Rattle.sa_vp.specs.View.{VpView}
use Rattle.sa_vp.proofs.Kept.{goes-on}
use Rattle.sa_vp.proofs.Chain.{board_at, next-at, one-more, schedule-more, ended-as, so-far-as}
use Rattle.sa_vp.proofs.runs.run.Goals as goal

pub loop-end-init : goal.loop-end-init
loop-end-init c =
    let w = c.args.workload in
    let order = order_of c.args.kind in
    let is = c.in-Ok.ensures.opening in
    let number : c.in-Ok.vp.board.number ≡ 1 = ap (λ (v : VpView). v.board.number) is in
    let starts : c.new-schedule.result ≡ start order w.processors = search rules in
    record {
      some = omega (arith, number);
      board = ap (λ (v : VpView). v.board) is ∙ sym (ap (λ k. board_at w order (k - 1)) number);
      not_ended = λ k below. absurd (omega (arith, below, number));
      among = λ k below. absurd (omega (arith, below, number));
      schedule = starts ∙ sym (ap (λ k. turned_often (start order w.processors) (k - 1)) number);
      processors = ap (λ (s : Turns). s.processors) starts;
      workload = ap (λ (v : VpView). v.board.workload) is;
      budget = ap (λ (v : VpView). v.budget) is;
      within = omega (arith, number);
    }

pub loop-end-smaller : goal.loop-end-smaller
loop-end-smaller c =
    let inv = c.loop-end.invariant in
    let v = c.loop-end.vp in
    let none : end_of v.budget v.board ≡ None = sym c.end.ensures ∙ c.in_default-end.is in
    let last : v.board.number ≤ v.budget = goes-on v.budget v.board none (omega (arith, inv.within, inv.budget)) in
    omega (arith, last, inv.budget, c.in-Ok-turn.ensures.number)

pub loop-end-preserved : goal.loop-end-preserved
loop-end-preserved c =
    let w = c.args.workload in
    let order = order_of c.args.kind in
    let inv = c.loop-end.invariant in
    let v = c.loop-end.vp in
    let n = v.board.number - 1 in
    let none : end_of v.budget v.board ≡ None = sym c.end.ensures ∙ c.in_default-end.is in
    let last : v.board.number ≤ v.budget = goes-on v.budget v.board none (omega (arith, inv.within, inv.budget)) in
    let some : 1 ≤ w.processors = omega (arith, c.processors.ensures.some, c.processors.ensures.value) in
    let more : c.turn.new.self.board.number - 1 ≡ n + 1 = omega (arith, c.in-Ok-turn.ensures.number, inv.some) in
    record {
      some = omega (arith, c.in-Ok-turn.ensures.number);
      board = c.in-Ok-turn.ensures.ok
          ∙ one-more w order n v.board c.loop-end.schedule c.next.result c.turns_are_in_order.ensures some inv.schedule c.next.ensures.processor inv.board
          ∙ sym (ap (board_at w order) more);
      not_ended = λ k below. elim (cases_lt k n) [
        | inl before ↦ inv.not_ended k before
        | inr past ↦
            let is : k ≡ n = omega (arith, past, below, more) in
            ap (λ j. end_of c.args.budget (board_at w order j)) is ∙ ap (end_of c.args.budget) (sym inv.board)
            ∙ ap (λ b. end_of b v.board) (sym inv.budget) ∙ none
      ];
      among = λ k below. elim (cases_lt k n) [
        | inl before ↦ inv.among k before
        | inr past ↦
            let is : k ≡ n = omega (arith, past, below, more) in
            let at = next-at w order n c.loop-end.schedule c.next.result c.turns_are_in_order.ensures some inv.schedule c.next.ensures.processor in
            let here = ap (λ j. processor_at order w.processors (j + 1)) is in
            omega (arith, here, at, c.next.ensures.among, inv.processors)
      ];
      schedule = schedule-more order w.processors n c.loop-end.schedule c.next.new.self inv.schedule c.next.ensures.turned
          ∙ sym (ap (turned_often (start order w.processors)) more);
      processors = ap (λ (s : Turns). s.processors) c.next.ensures.turned ∙ inv.processors;
      workload = c.in-Ok-turn.ensures.workload ∙ inv.workload;
      budget = c.in-Ok-turn.ensures.budget ∙ inv.budget;
      within = omega (arith, last, inv.budget, c.in-Ok-turn.ensures.number);
    }

pub returns-in-Some-clause-ok : goal.returns-in-Some-clause-ok
returns-in-Some-clause-ok c =
    let w = c.args.workload in
    let inv = c.loop-end.invariant in
    let v = c.loop-end.vp in
    let n = v.board.number - 1 in
    ended-as w c.ranges-2.ensures (order_of c.args.kind) n (omega (arith, inv.within, c.requires.few)) inv.among c.args.budget v.board inv.board
    (omega (arith, inv.within)) inv.not_ended
    c.in-Some.end _ c.events-events.result _ (ap (λ b. end_of b v.board) (sym inv.budget) ∙ sym c.end.ensures
    ∙ c.in-Some.is) c.into_losses-trace.ensures.trace (omega (arith, c.events-events.ensures)) c.into_losses-trace.ensures.lost

pub returns-in_default-turn-clause-err : goal.returns-in_default-turn-clause-err
returns-in_default-turn-clause-err c =
    let w = c.args.workload in
    let inv = c.loop-end.invariant in
    let v = c.loop-end.vp in
    let n = v.board.number - 1 in
    inr (so-far-as w c.ranges-2.ensures (order_of c.args.kind) n (omega (arith, inv.within, c.requires.few)) inv.among c.args.budget v.board inv.board
    (omega (arith, inv.within)) inv.not_ended
    _ (ap (λ b. end_of b v.board) (sym inv.budget) ∙ sym c.end.ensures ∙ c.in_default-end.is)
    (c.into_trace.ensures ∙ ap (λ (u : VpView). u.board.items) c.in_default-turn.ensures.err.1))
