-- The seats of a machine stay in order.
use Rattle.std.proofs.Common.{◌≡◌, ℕ, ◌<◌, List, length, get_or, set, slice_get, Some, inl, inr, refl, sym, ap, ◌∙◌, arith}
use Rattle.std.proofs.lemmas.Bool.{cases_eq}
use Rattle.std.proofs.lemmas.List.{length-set, get_or-set_same, get_or-set_other}
use Rattle.std.proofs.lemmas.Option.{slice_get_within, slice_get-get_or, get_or_from_slice_get}
use Rattle.sa_base.specs.declared.number.ProcNo.{ProcNo}
use Rattle.sa_seat.specs.declared.answer.Entered.{Entered}
use Rattle.sa_seat.specs.declared.answer.Entered.TheVariants.{Turned, DroppedLine, DroppedStart, Ended}
use Rattle.sa_seat.specs.Seat.{SeatView, AreSeats}
use Rattle.sa_seat.specs.Enter.{HasEntered, credited_by}

-- an entry keeps the processor of the seat
pub entered_proc : (old new : SeatView) (answer : Entered) → HasEntered old answer new → new.poller.proc ≡ old.poller.proc
entered_proc old new answer is = ap (λ (s : SeatView). s.poller.proc) is.seat_is ∙ go answer
  where
    go : (answer : Entered) → (credited_by answer old).poller.proc ≡ old.poller.proc
    go (Turned n) = refl
    go (DroppedLine e) = refl
    go (DroppedStart context start) = refl
    go (Ended end) = refl

-- a seat of the same processor takes the place of another
pub seats_set : (n i : ℕ) (seats : List SeatView) (d s : SeatView) → AreSeats n seats → s.poller.proc ≡ (get_or seats i d).poller.proc
    → AreSeats n (set seats i s)
seats_set n i seats d s is same = (length-set seats i s ∙ is.0, each)
  where
    each : (p : ℕ) (x : SeatView) → slice_get (set seats i s) p ≡ Some x → x.poller.proc.0 ≡ p
    each p x at =
        let lt : p < length seats = (let h = slice_get_within (set seats i s) p x at in let l = length-set seats i s in omega (arith, h, l)) in
        let found : get_or (set seats i s) p d ≡ x = get_or_from_slice_get (set seats i s) p x d at in
        let was : slice_get seats p ≡ Some (get_or seats p d) = slice_get-get_or seats p d lt in
        elim (cases_eq p i) [
          | inl e ↦
              (let put : get_or (set seats i s) p d ≡ s = ap (λ k. get_or (set seats k s) p d) (sym e) ∙ get_or-set_same seats p s d lt in
              ap (λ (y : SeatView). y.poller.proc.0) (sym found ∙ put) ∙ ap (λ (q : ProcNo). q.0) same ∙ ap (λ k. (get_or seats k d).poller.proc.0) (sym e)
              ∙ is.1 p (get_or seats p d) was)
          | inr ne ↦ is.1 p x (was ∙ ap Some (sym (get_or-set_other seats i p s d ne) ∙ found))
        ]
