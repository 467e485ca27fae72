use Rattle.std.proofs.Common.{◌≡◌, ◌<◌, ◌+◌, ◌∷◌, [], ◌==◌, List, ℕ, true, length, slice_get, vec_len, drop, sym, ap, subst, ◌∙◌, arith, length-append}
use Rattle.std.proofs.lemmas.Bool.Decides.{nat_tests}
use Rattle.sa_abstract.specs.declared.answer.SeatState.TheVariants.{Away}
use Rattle.sa_lines.specs.Seen.{PollerSeen}
use Rattle.sa_seat.specs.Seat.{SeatView}
use Rattle.sa_seat.proofs.Fresh.{length-fresh, fresh-at, next-poller, next-seat, not-empty, all-gone}
use Rattle.sa_seat.proofs.machine.copy_and_seat.Goals as goal

pub of-requires-clause-table : goal.of-requires-clause-table
of-requires-clause-table g c =
    let n : ℕ = length c.loop-seats.seats.items in
    let inv = c.loop-seats.invariant in
    let some : 0 < vec_len c.loop-seats.pollers = not-empty (vec_len c.loop-seats.pollers) c.is_empty.result c.is_empty.ensures c.loop-seats-test.true in
    let pos : 0 < length c.loop-seats.pollers.items = omega (arith, some, c.loop-seats.pollers.ok.0) in
    let next = next-poller c.args.pollers.items c.loop-seats.pollers.items c.remove.new.self.items n c.remove.result inv.rest pos c.remove.ensures.value
    c.remove.ensures.items in
    let is = fresh-at g.K.Named.table g.K.Named.workload.processors n c.remove.result
    (ap (λ (l : List PollerSeen). slice_get l n) (sym c.requires) ∙ next.at) in
    ap (λ (q : PollerSeen). q.table) is.0

pub of-requires-clause-processor : goal.of-requires-clause-processor
of-requires-clause-processor g c =
    let n : ℕ = length c.loop-seats.seats.items in
    let inv = c.loop-seats.invariant in
    let some : 0 < vec_len c.loop-seats.pollers = not-empty (vec_len c.loop-seats.pollers) c.is_empty.result c.is_empty.ensures c.loop-seats-test.true in
    let pos : 0 < length c.loop-seats.pollers.items = omega (arith, some, c.loop-seats.pollers.ok.0) in
    let next = next-poller c.args.pollers.items c.loop-seats.pollers.items c.remove.new.self.items n c.remove.result inv.rest pos c.remove.ensures.value
    c.remove.ensures.items in
    let is = fresh-at g.K.Named.table g.K.Named.workload.processors n c.remove.result
    (ap (λ (l : List PollerSeen). slice_get l n) (sym c.requires) ∙ next.at) in
    subst (λ (q : PollerSeen). q.proc.0 < g.K.Named.workload.processors) (sym is.0) is.1

pub loop-seats-preserved : goal.loop-seats-preserved
loop-seats-preserved g c =
    let n : ℕ = length c.loop-seats.seats.items in
    let inv = c.loop-seats.invariant in
    let some : 0 < vec_len c.loop-seats.pollers = not-empty (vec_len c.loop-seats.pollers) c.is_empty.result c.is_empty.ensures c.loop-seats-test.true in
    let pos : 0 < length c.loop-seats.pollers.items = omega (arith, some, c.loop-seats.pollers.ok.0) in
    let next = next-poller c.args.pollers.items c.loop-seats.pollers.items c.remove.new.self.items n c.remove.result inv.rest pos c.remove.ensures.value
    c.remove.ensures.items in
    let is = fresh-at g.K.Named.table g.K.Named.workload.processors n c.remove.result
    (ap (λ (l : List PollerSeen). slice_get l n) (sym c.requires) ∙ next.at) in
    let grown : length c.push.new.self.items ≡ n + 1 =
    ap (λ (l : List SeatView). length l) c.in_ok-push.ensures.items ∙ length-append c.loop-seats.seats.items (c.of.result ∷ []) in
    record {
      rest = next.rest_is ∙ ap (λ (k : ℕ). drop k c.args.pollers.items) (sym grown);
      within = (let z = next.within in omega (arith, grown, z));
      seats = next-seat g.K.Named.table c.loop-seats.seats.items c.push.new.self.items c.of.result c.in_ok-push.ensures.items
          (c.of.ensures ∙ ap (λ (q : PollerSeen). seat_of q) is.0) inv.seats;
    }
  where
    seat_of : PollerSeen → SeatView
    seat_of q = record { poller = q; start = Away; copy = Away; pending = 0 }

pub returns-clause-seats : goal.returns-clause-seats
returns-clause-seats g c =
    let inv = c.loop-seats.invariant in
    let e : (vec_len c.loop-seats.pollers == 0) ≡ true = sym c.is_empty.ensures ∙ c.loop-seats-test.false in
    let none : vec_len c.loop-seats.pollers ≡ 0 = grind (arith, nat_tests, e) in (
      all-gone c.args.pollers.items c.loop-seats.pollers.items (length c.loop-seats.seats.items) inv.rest (sym c.loop-seats.pollers.ok.0 ∙ none) inv.within
          ∙ ap (λ (l : List PollerSeen). length l) c.requires ∙ length-fresh g.K.Named.table g.K.Named.workload.processors,
      inv.seats,
    )
