-- What a worker has done, act by act.
use Rattle.std.proofs.Common.{◌≡◌, ℕ, ◌+◌, ◌<◌, ◌≤◌, inl, inr, Bool, true, List, [], ◌∷◌, ◌++◌, refl, sym, ap, subst, ◌∙◌, arith}
use Rattle.std.proofs.lemmas.Bool.{cases_eq}
use Rattle.sa_spaces.specs.Workload.{WorkloadView}
use Rattle.sa_lines.specs.declared.credit.Account.{Account}
use Rattle.sa_lines.specs.Seen.{PollerSeen}
use Rattle.sa_seat.specs.declared.answer.BurstEnd.{BurstEnd}
use Rattle.sa_seat.specs.declared.answer.Entered.{Entered}
use Rattle.sa_seat.specs.declared.answer.Entered.TheVariants.{Turned, DroppedLine, DroppedStart, Ended}
use Rattle.sa_seat.specs.Seat.{SeatView, IsBurst, renewed}
use Rattle.sa_seat.specs.Enter.{FitsAnswer, HasEntered, credited_by}
use Rattle.sa_workers.specs.Worker.{Act, Acted, HasWorked, HasRunAhead, limit_of}
use Rattle.sa_workers.specs.Worker.Act.{ahead, entry}

module _ (w : WorkloadView) (quota burst : ℕ) where
  pub worked_none : (s : SeatView) → HasWorked w quota burst s s
  worked_none s = record { acts = []; acted = refl; table = refl; proc = refl; more = omega arith; within = λ le. le }

  acted-then : (old mid new : SeatView) (acts more : List Act) → Acted w quota burst old acts mid → Acted w quota burst mid more new
      → Acted w quota burst old (more ++ acts) new
  acted-then old mid new acts [] first then = subst (λ (s : SeatView). Acted w quota burst old acts s) (sym then) first
  acted-then old mid new acts (act ∷ more) first then = (then.0, acted-then old mid then.0 acts more first then.1, then.2)

  worked-then : (old mid new : SeatView) → HasWorked w quota burst old mid → HasWorked w quota burst mid new → HasWorked w quota burst old new
  worked-then old mid new first then = record {
    acts = then.acts ++ first.acts;
    acted = acted-then old mid new first.acts then.acts first.acted then.acted;
    table = then.table ∙ first.table;
    proc = then.proc ∙ first.proc;
    more = (let a = first.more in let b = then.more in omega (arith, a, b));
    within = λ le. then.within (first.within le);
  }

  -- a burst
  worked-ahead : (old new : SeatView) (end : BurstEnd) → old.poller.account.count < quota → old.pending ≡ 0
      → IsBurst w (limit_of quota burst old) old end new → HasWorked w quota burst old new
  worked-ahead old new end left none is =
      let count = ap (λ (q : PollerSeen). q.account.count) is.poller in
      let few = is.few in record {
        acts = ahead end ∷ [];
        acted = (old, refl, (none, is));
        table = ap (λ (q : PollerSeen). q.table) is.poller;
        proc = ap (λ (q : PollerSeen). q.proc) is.poller;
        more = omega (arith, count);
        within = λ le. omega (arith, count, few, left);
      }

  -- an entry keeps the processor, and counts no more than is left
  record IsCounted (old new : SeatView) : Type 0 where
    table : new.poller.table ≡ old.poller.table
    proc : new.poller.proc ≡ old.poller.proc
    more : old.poller.account.count ≤ new.poller.account.count
    within : old.poller.account.count + old.pending ≤ quota → new.poller.account.count + new.pending ≤ quota

  counted : (old new : SeatView) (answer : Entered) → old.poller.account.count < quota → HasEntered old answer new → IsCounted old new
  counted old new answer left is = subst (λ (s : SeatView). IsCounted old s) (sym is.seat_is) (go answer is.fits)
    where
      go : (answer : Entered) → FitsAnswer old answer → IsCounted old (renewed is.context (credited_by answer old))
      go (Turned n) fits = record {
        table = refl;
        proc = refl;
        more = omega arith;
        within = λ le. elim (cases_eq old.pending 0) [
          | inl none ↦ (let one = fits.1 none in omega (arith, left, one))
          | inr apart ↦ (let few = fits.2 (omega (arith, apart)) in omega (arith, le, few))
        ];
      }
      go (DroppedLine e) fits = record { table = refl; proc = refl; more = omega arith; within = λ le. omega (arith, le) }
      go (DroppedStart c start) fits = record { table = refl; proc = refl; more = omega arith; within = λ le. omega (arith, le) }
      go (Ended x) fits = record { table = refl; proc = refl; more = omega arith; within = λ le. omega (arith, le) }

  worked-entry : (old new : SeatView) (answer : Entered) → old.poller.account.count < quota → HasEntered old answer new → HasWorked w quota burst old new
  worked-entry old new answer left is =
      let all = counted old new answer left is in record {
        acts = entry answer ∷ [];
        acted = (old, refl, (left, is));
        table = all.table;
        proc = all.proc;
        more = all.more;
        within = all.within;
      }

  -- no burst, and one
  pub held_back : (wanted : Bool) (s : SeatView) → HasRunAhead w quota burst wanted s s
  held_back wanted s = record { worked = worked_none s; account = refl; waits = λ no. refl }

  pub ran_ahead : (wanted : Bool) (limit : ℕ) (old new : SeatView) (end : BurstEnd) → wanted ≡ true → old.poller.account.count < quota → old.pending ≡ 0
      → limit ≡ limit_of quota burst old → IsBurst w limit old end new → HasRunAhead w quota burst wanted old new
  ran_ahead wanted limit old new end wants left none same is = record {
    worked = worked-ahead old new end left none (subst (λ (n : ℕ). IsBurst w n old end new) same is);
    account = ap (λ (q : PollerSeen). q.account) is.poller;
    waits = λ no. absurd (let z = sym wants ∙ no in cc);
  }

  -- a round more of the worker
  pub worked_ahead : (wanted : Bool) (old mid next : SeatView) → HasWorked w quota burst old mid → HasRunAhead w quota burst wanted mid next
      → HasWorked w quota burst old next
  worked_ahead wanted old mid next first then = worked-then old mid next first then.worked

  pub worked_round : (wanted : Bool) (old mid next new : SeatView) (answer : Entered) → HasWorked w quota burst old mid
      → HasRunAhead w quota burst wanted mid next
      → mid.poller.account.count < quota → HasEntered next answer new → HasWorked w quota burst old new
  worked_round wanted old mid next new answer first then left is =
      let count = ap (λ (a : Account). a.count) then.account in
      worked-then old next new (worked_ahead wanted old mid next first then) (worked-entry next new answer (omega (arith, left, count)) is)
