-- The close: the seats are joined one after another, and then each knows what the keeper knows.
use Rattle.std.proofs.Common.{◌≡◌, ◌≢◌, ℕ, zero, suc, ◌+◌, ◌<◌, ◌≤◌, ◌⊎◌, inl, inr, ◌++◌, All, MatchOption, Option, Some, List, [], ◌∷◌, length, get_or, replicate, slice_get, slice_set, refl, sym, ap, subst, ◌∙◌, arith, length-append}
use Rattle.std.specs.Prelude.{Contains}
use Rattle.std.proofs.lemmas.Option.{slice_get-get_or, slice_get_within}
use Rattle.std.proofs.lemmas.Bool.{cases_eq}
use Rattle.std.proofs.lemmas.List.{get_or-set_same, get_or-set_other, length-set}
use Rattle.std.proofs.lemmas.List.Elements.{All-contains}
use Rattle.sa_lemmas.proofs.ListUpdates.{slice_get-append_left, slice_get-append_seam, slice_get-push_cases}
use Rattle.atomic_table.specs.Seated.{TableId}
use Rattle.sa_base.specs.declared.record.Item.{Item}
use Rattle.sa_spaces.specs.Workload.{WorkloadView}
use Rattle.sa_abstract.specs.Calls.{Calls}
use Rattle.sa_core_model.specs.End.{end_of}
use Rattle.sa_core.specs.View.{CoreView, machine}
use Rattle.sa_lines.specs.declared.credit.Account.{Account}
use Rattle.sa_lines.specs.declared.view.Lane.{Lane}
use Rattle.sa_lines.specs.declared.view.Polled.{Polled}
use Rattle.sa_lines.specs.Words.{lane_at, changed, IsLineOf}
use Rattle.sa_lines.specs.Steps.{joined_with}
use Rattle.sa_lines.specs.Seen.{KeeperSeen, with_poller, IsSettled}
use Rattle.sa_lines.proofs.Steps.{lane_here, lane_else, length_changed}
use Rattle.sa_seat.specs.Chain.{turns_of, HasLine}
use Rattle.sa_seat.specs.Seat.{SeatView, AreSeats, fresh_seat}
use Rattle.sa_seat.specs.Lock.{IsLocked}
use Rattle.sa_seat.specs.Closed.{ClosedView, IsOver, IsClosed, IsSameLane, AreJoined}

-- what a poller knew
abbrev pub known : SeatView → Polled
known s = record { read = s.poller.read; account = s.poller.account }

abbrev pub count_at : List ℕ → ℕ → ℕ
count_at turns p = get_or turns p 0

-- the seats that are left, and what was joined of the others
pub record Joining (all left : List SeatView) (old new : KeeperSeen) (turns : List ℕ) (places : ℕ) : Type 0 where
  pub table_is : new.table ≡ old.table
  pub size : length new.lanes ≡ length old.lanes
  pub lanes : (p : ℕ) → IsSameLane (lane_at old.lanes p) (lane_at new.lanes p)
  pub few : length left ≤ length all
  pub part : (p : ℕ) (s : SeatView) → slice_get left p ≡ Some s → slice_get all p ≡ Some s
  pub over : (p : ℕ) (s : SeatView) → slice_get all p ≡ Some s
      → (slice_get left p ≡ Some s) ⊎ ((length left ≤ p) × ((lane_at new.lanes p).joined ≡ Some (known s)) × (count_at turns p ≡ s.poller.account.count))
  pub none : (p : ℕ) → length all ≤ p → count_at turns p ≡ 0
  pub counts : length turns ≡ places

abbrev zeros : ℕ → List ℕ
zeros n = replicate n 0

zero-at : (n p : ℕ) → count_at (zeros n) p ≡ 0
zero-at (suc n) (suc p) = zero-at n p
zero-at _ _ = refl

length-zeros : (n : ℕ) → length (zeros n) ≡ n
length-zeros zero = refl
length-zeros (suc n) = ap suc (length-zeros n)

module _ (all left rest : List SeatView) (s : SeatView) (old new next : KeeperSeen) (turns after : List ℕ) (places : ℕ)
    (joining : Joining all left old new turns places)
    (popped : left ≡ rest ++ s ∷ []) (inside : length all ≤ length old.lanes) (room : length all ≤ places) (in_order : (p : ℕ) (x : SeatView)
    → slice_get all p ≡ Some x → x.poller.proc.0 ≡ p)
    (joins : next ≡ with_poller s.poller new) (counts : after ≡ slice_set turns s.poller.proc.0 s.poller.account.count) where
  left-size : length left ≡ length rest + 1
  left-size = rw popped (length-append rest (s ∷ []))

  here : slice_get all (length rest) ≡ Some s
  here = joining.part (length rest) s (ap (λ (l : List SeatView). slice_get l (length rest)) popped ∙ slice_get-append_seam rest [] s)

  pub place : s.poller.proc.0 ≡ length rest
  place = in_order (length rest) s here

  lane-next : (p : ℕ) → p ≢ length rest → lane_at next.lanes p ≡ lane_at new.lanes p
  lane-next p apart = ap (λ (k : KeeperSeen). lane_at k.lanes p) joins ∙ lane_else s.poller.proc.0 p (joined_with (known s)) new.lanes (λ e. apart (e ∙ place))

  lane-own : lane_at next.lanes (length rest) ≡ joined_with (known s) (lane_at new.lanes (length rest))
  lane-own = ap (λ (k : KeeperSeen). lane_at k.lanes (length rest)) joins
      ∙ subst (λ (q : ℕ). lane_at (changed q (joined_with (known s)) new.lanes) (length rest)
      ≡ joined_with (known s) (lane_at new.lanes (length rest))) (sym place)
      (lane_here (length rest) (joined_with (known s)) new.lanes (let a = joining.size in let b = joining.few in let c = left-size in
      omega (arith, a, b, c, inside)))

  count-next : (p : ℕ) → p ≢ length rest → count_at after p ≡ count_at turns p
  count-next p apart = ap (λ (l : List ℕ). count_at l p) counts ∙ get_or-set_other turns s.poller.proc.0 p s.poller.account.count 0 (λ e. apart (e ∙ place))

  count-own : count_at after (length rest) ≡ s.poller.account.count
  count-own = ap (λ (l : List ℕ). count_at l (length rest)) counts
      ∙ subst (λ (q : ℕ). get_or (slice_set turns q s.poller.account.count) (length rest) 0 ≡ s.poller.account.count) (sym place)
      (get_or-set_same turns (length rest) s.poller.account.count 0 (let a = joining.counts in let b = joining.few in let c = left-size in
      omega (arith, a, b, c, room)))

  pub join-next : Joining all rest old next after places
  join-next = record {
    table_is = ap (λ (k : KeeperSeen). k.table) joins ∙ joining.table_is;
    size = ap (λ (k : KeeperSeen). length k.lanes) joins ∙ length_changed s.poller.proc.0 (joined_with (known s)) new.lanes ∙ joining.size;
    lanes = λ p. elim (cases_eq p (length rest)) [
      | inl own ↦ subst (λ (q : ℕ). IsSameLane (lane_at old.lanes q) (lane_at next.lanes q)) (sym own)
          (subst (λ (l : Lane). IsSameLane (lane_at old.lanes (length rest)) l) (sym lane-own) record {
            account = (joining.lanes (length rest)).account;
            raised = (joining.lanes (length rest)).raised;
          })
      | inr apart ↦ subst (λ (l : Lane). IsSameLane (lane_at old.lanes p) l) (sym (lane-next p apart)) (joining.lanes p)
    ];
    few = (let a = joining.few in let b = left-size in omega (arith, a, b));
    part =
        λ p x e. joining.part p x (ap (λ (l : List SeatView). slice_get l p) popped ∙ slice_get-append_left rest (s ∷ []) p (slice_get_within rest p x e) ∙ e);
    over = λ p x e. elim (joining.over p x e) [
      | inl still ↦ elim (slice_get-push_cases rest p s x (ap (λ (l : List SeatView). slice_get l p) (sym popped) ∙ still)) [
        | inl last ↦ inr (subst (λ (q : ℕ). (length rest ≤ q) × ((lane_at next.lanes q).joined ≡ Some (known x))
            × (count_at after q ≡ x.poller.account.count)) (sym last.0) (
              omega arith,
              ap (λ (l : Lane). l.joined) lane-own ∙ ap (λ (z : SeatView). Some (known z)) (sym last.1),
              count-own
                  ∙ ap (λ (z : SeatView). z.poller.account.count) (sym last.1),
            ))
        | inr before ↦ inl before
      ]
      | inr done ↦
          let apart : p ≢ length rest = λ q. absurd (let a = left-size in let b = done.0 in omega (arith, a, b, q)) in
          inr (
            (let a = left-size in let b = done.0 in omega (arith, a, b)),
            ap (λ (l : Lane). l.joined) (lane-next p apart)
                ∙ done.1,
            count-next p apart ∙ done.2,
          )
    ];
    none = λ p le.
        let apart : p ≢ length rest = λ q. absurd (let a = left-size in let b = joining.few in omega (arith, a, b, q, le)) in
        count-next p apart ∙ joining.none p le;
    counts = ap (λ (l : List ℕ). length l) counts ∙ length-set turns s.poller.proc.0 s.poller.account.count ∙ joining.counts;
  }

-- each seat is settled

settled-at : (lanes : List Lane) (p : ℕ) (q : Polled) → All IsSettled lanes → p < length lanes → (lane_at lanes p).joined ≡ Some q
    → (q.account ≡ (lane_at lanes p).account) × All (IsLineOf (lane_at lanes p).raised) q.read
settled-at lanes p q all lt is =
    subst (λ (o : Option Polled). MatchOption o (Unit {0})
    (λ poller. (poller.account ≡ (lane_at lanes p).account) × All (IsLineOf (lane_at lanes p).raised) poller.read)) is (all p _ lt)

module _ {U C : Type 0} (f : Calls U C) (w : WorkloadView) (table : TableId) (budget : ℕ) (core : CoreView U C) (lines : List (Option ℕ))
    (keeper new : KeeperSeen) (locked : IsLocked f budget w table core lines keeper)
    (seats : List SeatView) (turns : List ℕ) (are : AreSeats w.processors seats) (joined : AreJoined w.processors seats keeper new turns)
    (settled : All IsSettled new.lanes) (closed : ClosedView) (items : closed.items ≡ (machine core).items)
    (ends : closed.end ≡ end_of f core.budget (machine core)) (told : closed.turns ≡ turns) where
  inside : (p : ℕ) (s : SeatView) → slice_get seats p ≡ Some s → p < w.processors
  inside p s e = (let a = slice_get_within seats p s e in let b = are.0 in omega (arith, a, b))

  count-is : (p : ℕ) (s : SeatView) → slice_get seats p ≡ Some s → s.poller.account.count ≡ turns_of p locked.moves
  count-is p s e =
      let lt = inside p s e in
      let h = settled-at new.lanes p (known s) settled (let z = locked.kept.size in let y = joined.size in omega (arith, lt, y, z)) (joined.joined p s e) in
      ap (λ (a : Account). a.count) (h.0 ∙ (joined.lanes p).account) ∙ (locked.kept.each p lt).count

  end-is : closed.end ≡ end_of f budget (machine core)
  end-is = ends ∙ ap (λ (b : ℕ). end_of f b (machine core)) locked.budget_is

  has-line : (p : ℕ) (s : SeatView) (e : ℕ) → slice_get seats p ≡ Some s → Contains s.poller.read (e + 1) → HasLine closed.items e p
  has-line p s e at has =
      let lt = inside p s at in
      let h = settled-at new.lanes p (known s) settled (let z = locked.kept.size in let y = joined.size in omega (arith, lt, y, z)) (joined.joined p s at) in
      elim (All-contains (IsLineOf (lane_at new.lanes p).raised) s.poller.read (e + 1) h.1 has) [
        | inl none ↦ absurd (omega (arith, none))
        | inr some ↦
            let same : some.0 ≡ e = (let z = some.2 in omega (arith, z)) in
            subst (λ (i : List Item). HasLine i e p) (sym items)
            ((locked.kept.each p lt).raised e
            (subst (λ (l : List ℕ). Contains l e) (joined.lanes p).raised (subst (λ (k : ℕ). Contains (lane_at new.lanes p).raised k) same some.1)))
      ]

  is-over : (p : ℕ) (s : SeatView) → slice_get seats p ≡ Some s → IsOver closed p s
  is-over p s e =
      let lt = inside p s e in
      let h = settled-at new.lanes p (known s) settled (let z = locked.kept.size in let y = joined.size in omega (arith, lt, y, z)) (joined.joined p s e) in
      let account : s.poller.account.end ≡ (lane_at keeper.lanes p).account.end = ap (λ (a : Account). a.end) (h.0 ∙ (joined.lanes p).account) in record {
        count = sym (ap (λ (l : List ℕ). get_or l p 0) told ∙ joined.counts p s e);
        end = elim (locked.kept.each p lt).end [ inl none ↦ inl (account ∙ none) | inr same ↦ inr (account ∙ same ∙ sym end-is) ];
        lines = λ k has. has-line p s k e has;
      }

  pub is-closed : IsClosed f w budget seats closed
  is-closed = record {
    moves = locked.moves;
    machine = machine core;
    chain = locked.chain;
    shows = items;
    end = end-is;
    few = locked.within;
    turns = λ p lt.
        let s = get_or seats p (fresh_seat table p) in
        let e : slice_get seats p ≡ Some s = slice_get-get_or seats p (fresh_seat table p) (let z = are.0 in omega (arith, lt, z)) in
        ap (λ (l : List ℕ). get_or l p 0) told ∙ joined.counts p s e ∙ count-is p s e;
    none = λ p le. ap (λ (l : List ℕ). get_or l p 0) told ∙ joined.none p le;
    over = is-over;
  }
