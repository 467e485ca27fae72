-- The seats once their workers are done.
use Rattle.std.proofs.Common.{◌≡◌, ℕ, ◌<◌, ◌≤◌, ◌++◌, Some, List, length, take, drop, slice_get, sym, ap, subst, ◌∙◌, arith}
use Rattle.std.specs.Prelude.{slice_index_or}
use Rattle.std.proofs.Math.Seq.{take-append_seam}
use Rattle.std.proofs.lemmas.Option.{slice_get-get_or, slice_get_within, get_or_from_slice_get}
use Rattle.sa_base.specs.declared.number.ProcNo.{ProcNo}
use Rattle.atomic_table.specs.Seated.{TableId}
use Rattle.sa_spaces.specs.Workload.{WorkloadView}
use Rattle.sa_seat.specs.Seat.{SeatView, AreFresh, AreSeats, fresh_seat}
use Rattle.sa_workers.specs.Quota.{quota_of}
use Rattle.sa_workers.specs.Worker.{HasWorked}

-- a slice of all elements was written back
pub written-back : {A : Type 0} (n : ℕ) (new items : List A) → n ≡ length items → length new ≡ length items → take n (new ++ drop (length new) items) ≡ new
written-back n new items all same =
    ap (λ k. take k (new ++ drop (length new) items)) (all ∙ sym same) ∙ take-append_seam new (drop (length new) items)

-- each worker kept to its quota
pub record AreWorked (w : WorkloadView) (n budget burst : ℕ) (table : TableId) (seats : List SeatView) : Type 0 where
  pub are : AreSeats n seats
  pub within : (p : ℕ) (s : SeatView) → slice_get seats p ≡ Some s → s.poller.account.count ≤ quota_of n p budget
  pub worked : (p : ℕ) (s : SeatView) → slice_get seats p ≡ Some s → HasWorked w (quota_of n p budget) burst (fresh_seat table p) s

pub are-worked : (w : WorkloadView) (table : TableId) (n budget burst : ℕ) (old new : List SeatView) → AreFresh table n old → length new ≡ length old
    → ((i : ℕ) (d : SeatView) → i < length old
    → HasWorked w (quota_of n (slice_index_or old i d).poller.proc.0 budget) burst (slice_index_or old i d) (slice_index_or new i d))
    → AreWorked w n budget burst table new
are-worked w table n budget burst old new fresh same each = record {
  are = (same ∙ fresh.0, λ p s at. (let w = work p s at in ap (λ (q : ProcNo). q.0) w.proc));
  within = λ p s at. (let w = work p s at in let h = w.within (omega arith) in omega (arith, h));
  worked = work;
}
  where
    -- the worker of a seat began at a fresh one
    work : (p : ℕ) (s : SeatView) → slice_get new p ≡ Some s → HasWorked w (quota_of n p budget) burst (fresh_seat table p) s
    work p s at =
        let lt : p < length old = (let h = slice_get_within new p s at in omega (arith, h, same)) in
        let was : slice_index_or old p s ≡ fresh_seat table p = fresh.1 p (slice_index_or old p s) (slice_get-get_or old p s lt) in
        let is : slice_index_or new p s ≡ s = get_or_from_slice_get new p s s at in
        subst (λ (x : SeatView). HasWorked w (quota_of n p budget) burst (fresh_seat table p) x) is
        (subst (λ (x : SeatView). HasWorked w (quota_of n x.poller.proc.0 budget) burst x (slice_index_or new p s)) was (each p s lt))

-- the same of the elements to which a slice of them was written back
pub worked-back : (w : WorkloadView) (table : TableId) (n m budget b burst len : ℕ) (items old new : List SeatView) → AreFresh table n items → old ≡ items → len ≡ length items
    → length new ≡ length old
    → m ≡ n → b ≡ budget
    → ((i : ℕ) (d : SeatView) → i < length old
    → HasWorked w (quota_of m (slice_index_or old i d).poller.proc.0 b) burst (slice_index_or old i d) (slice_index_or new i d))
    → AreWorked w n budget burst table (take len (new ++ drop (length new) items))
worked-back w table n m budget b burst len items old new fresh lent all same processors few each =
    let size : length new ≡ length items = same ∙ ap (λ (l : List SeatView). length l) lent in
    let worked = are-worked w table n b burst old new (subst (λ (l : List SeatView). AreFresh table n l) (sym lent) fresh) same
    (subst (λ (k : ℕ). (i : ℕ) (d : SeatView) → i < length old
    → HasWorked w (quota_of k (slice_index_or old i d).poller.proc.0 b) burst (slice_index_or old i d) (slice_index_or new i d)) processors each) in
    subst (λ (l : List SeatView). AreWorked w n budget burst table l) (sym (written-back len new items all size))
    (subst (λ (k : ℕ). AreWorked w n k burst table new) few worked)
