-- The events of a run are those of its processors together, and none has more than its quota.
use Rattle.std.proofs.Common.{◌≡◌, ◌≢◌, ℕ, zero, suc, ◌+◌, ◌<◌, ◌≤◌, ◌==◌, if◌then◌else◌, Bool, true, false, Some, None, List, [], ◌∷◌, length, slice_get, refl, sym, ap, ◌∙◌, arith}
use Rattle.std.specs.Prelude.{sum}
use Rattle.std.proofs.lemmas.Bool.Decides.{nat_tests}
use Rattle.sa_base.specs.declared.record.End.TheVariants.{AllDone, Stuck, Budget}
use Rattle.sa_spaces.specs.Workload.{WorkloadView, IsWorkload}
use Rattle.sa_abstract.specs.Calls.{Calls}
use Rattle.sa_abstract.specs.Keeps.{Standing, Keeps}
use Rattle.sa_core_model.specs.Machine.{Machine}
use Rattle.sa_core_model.specs.End.{all_done, is_stuck}
use Rattle.sa_core_model.specs.Run.{opening, Move, IsMove}
use Rattle.sa_core_model.specs.Run.Move.{turn, commit}
use Rattle.sa_core_model.specs.Standing.{IsBetween}
use Rattle.sa_core_model.proofs.Phases.{at-owned}
use Rattle.sa_core_model.proofs.Runs.{stands-opening, stands-move, can-go}
use Rattle.sa_seat.specs.Chain.{Leads, turns_in, turns_of}
use Rattle.sa_seat.specs.Seat.{SeatView, AreSeats}
use Rattle.sa_seat.specs.Closed.{ClosedView, IsClosed}
use Rattle.sa_seat.proofs.Chains.{size, moves-by}
use Rattle.sa_workers.specs.Quota.{quota_of}
use Rattle.sa_workers.specs.Run.{turns_at, HasRun}
use Rattle.sa_workers.proofs.Sums.{below, below-more, below-same, below-none, below-one, below-le, below-tight, below-less, sum-below}
use Rattle.sa_workers.proofs.Rounds.{quotas-add}

abbrev proc_of : Move → ℕ
proc_of (turn p) = p.0
proc_of (commit p n) = p.0

turns-own : (move : Move) → turns_in (proc_of move) move ≡ size move
turns-own (turn p) = grind (arith, nat_tests)
turns-own (commit p n) = grind (arith, nat_tests)

turns-other : (move : Move) (q : ℕ) → (q ≡ proc_of move → ⊥) → turns_in q move ≡ 0
turns-other (turn p) q apart = grind (arith, nat_tests)
turns-other (commit p n) q apart = grind (arith, nat_tests)

-- a move is its processor's
turns-size : (move : Move) (n : ℕ) → proc_of move < n → below (λ p. turns_in p move) n ≡ size move
turns-size move n within = below-one (λ p. turns_in p move) n (proc_of move) within (turns-other move) ∙ turns-own move

-- where the budget ends a run, it is spent
budget-spent : (a b c : Bool) → (if a then Some AllDone else if b then Some Stuck else if c then Some Budget else None) ≡ Some Budget → c ≡ true
budget-spent true b c e = absurd (let z : AllDone ≡ Budget = cc in cc)
budget-spent false true c e = absurd (let z : Stuck ≡ Budget = cc in cc)
budget-spent false false true e = refl
budget-spent false false false e = absurd cc

-- where a run goes on, the budget is not spent
goes-on : (a b c : Bool) → (if a then Some AllDone else if b then Some Stuck else if c then Some Budget else None) ≡ None → c ≡ true → ⊥
goes-on true b c e is = absurd cc
goes-on false true c e is = absurd cc
goes-on false false true e is = absurd cc
goes-on false false false e is = absurd cc

module _ {U C : Type 0} (f : Calls U C) (stands : Standing U C) (keep : Keeps f stands) where
  move-within : (m after : Machine U C) (move : Move) → IsBetween stands m → IsMove f m move after → proc_of move < m.workload.processors
  move-within m after (turn p) between made = made.0.within
  move-within m after (commit p n) between made =
      let st = between.standing in
      let go = can-go f stands keep m.event n m p st made.0.go in
      let here = at-owned f stands keep m.event m p go.space st go.owner in
      omega (arith, here.within, st.lives)

  events-from : (w : WorkloadView) (budget : ℕ) (m after : Machine U C) (moves : List Move) → IsBetween stands m → m.workload ≡ w → Leads f budget m moves after
      → m.event + below (λ p. turns_of p moves) w.processors ≡ after.event
  events-from w budget m after [] between same leads =
      let none = below-none (λ p. turns_of p []) w.processors (λ p lt. refl) in
      let e = ap (λ (z : Machine U C). z.event) leads in
      omega (arith, none, e)
  events-from w budget m after (move ∷ moves) between same leads =
      let next = leads.0 in
      let does = moves-by f stands keep m next move between leads.2 in
      let within = move-within m next move between leads.2 in
      let rest = events-from w budget next after moves (stands-move f stands keep m move next between leads.2) (does.workload ∙ same) leads.3 in
      let all = below-more (λ p. turns_in p move) (λ p. turns_of p moves) w.processors in
      let own = turns-size move w.processors (let e = ap (λ (v : WorkloadView). v.processors) same in omega (arith, within, e)) in
      omega (arith, does.event, rest, all, own)

  pub has-run : (w : WorkloadView) (budget : ℕ) (seats : List SeatView) (closed : ClosedView) → IsWorkload w → AreSeats w.processors seats
      → ((p : ℕ) (s : SeatView) → slice_get seats p ≡ Some s → s.poller.account.count ≤ quota_of w.processors p budget)
      → IsClosed f w budget seats closed → HasRun f w budget closed
  has-run w budget seats closed ok are within is =
      let quota : ℕ → ℕ = λ p. quota_of w.processors p budget in
      let few : (p : ℕ) → p < w.processors → turns_at closed p ≤ quota p =
      λ p lt. let s = seat-at seats p (omega (arith, lt, are.0)) in let count = (is.over p s.0 s.1).count in let most = within p s.0 s.1 in
      omega (arith, count, most) in
      let all : below quota w.processors ≡ budget = quotas-add w.processors budget ok.some_processor in
      let total : sum closed.turns ≡ below (turns_at closed) w.processors = sum-below closed.turns w.processors is.none in
      let turns : below (turns_at closed) w.processors ≡ below (λ p. turns_of p is.moves) w.processors =
      below-same (turns_at closed) (λ p. turns_of p is.moves) w.processors is.turns in
      let events = events-from w budget (opening f w) is.machine is.moves (stands-opening f stands keep w ok) refl is.chain in
      let most = below-le (turns_at closed) quota w.processors few in record {
        moves = is.moves;
        machine = is.machine;
        chain = is.chain;
        shows = is.shows;
        end = is.end;
        turns = is.turns;
        none = is.none;
        events = omega (arith, total, turns, events);
        few = omega (arith, turns, events, most, all);
        within = few;
        spent = λ end.
            let spent = budget-spent (all_done f is.machine) (is_stuck f is.machine) (is.machine.event == budget) (sym is.end ∙ end) in
            let same : is.machine.event ≡ budget = grind (arith, nat_tests, spent) in
            below-tight (turns_at closed) quota w.processors few (omega (arith, turns, events, all, same));
        left = λ none.
            let short : is.machine.event ≢ budget = λ same.
            goes-on (all_done f is.machine) (is_stuck f is.machine) (is.machine.event == budget) (sym is.end ∙ none) (grind (arith, nat_tests, same)) in
            let at = below-less (turns_at closed) quota w.processors (omega (arith, turns, events, most, all, short)) in
            record { p = at.0; processor = at.1; fewer = at.2 };
      }
    where
      seat-at : (xs : List SeatView) (i : ℕ) → i < length xs → (s : SeatView) × (slice_get xs i ≡ Some s)
      seat-at [] i lt = absurd (omega (arith, lt))
      seat-at (x ∷ xs) zero lt = (x, refl)
      seat-at (x ∷ xs) (suc i) lt = seat-at xs i (omega (arith, lt))
