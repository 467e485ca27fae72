-- A seat for each poller, in order.
use Rattle.std.proofs.Common.{◌≡◌, ℕ, zero, suc, ◌+◌, ◌-◌, ◌<◌, ◌≤◌, ◌++◌, ◌==◌, Bool, false, inl, inr, Some, None, List, [], ◌∷◌, length, drop, remove, get_or, slice_get, refl, sym, ap, ◌∙◌, arith, add-one, length-append}
use Rattle.std.proofs.lemmas.Bool.Decides.{nat_tests}
use Rattle.std.proofs.lemmas.List.{length-drop}
use Rattle.sa_lemmas.proofs.ListUpdates.{slice_get-push_cases}
use Rattle.atomic_table.specs.Seated.{TableId}
use Rattle.sa_lines.specs.Seen.{PollerSeen, fresh_poller, fresh_pollers}
use Rattle.sa_seat.specs.Seat.{SeatView, fresh_seat}

pub length-fresh : (table : TableId) (n : ℕ) → length (fresh_pollers table n) ≡ n
length-fresh table zero = refl
length-fresh table (suc n) = (let h = length-fresh table n in let e = length-append (fresh_pollers table n) (fresh_poller table n ∷ []) in omega (arith, h, e))

pub fresh-at : (table : TableId) (n k : ℕ) (x : PollerSeen) → slice_get (fresh_pollers table n) k ≡ Some x → (x ≡ fresh_poller table k) × (k < n)
fresh-at table zero k x is = absurd (let z : None ≡ Some x = is in cc)
fresh-at table (suc n) k x is = elim (slice_get-push_cases (fresh_pollers table n) k (fresh_poller table n) x is) [
  | inl last ↦
      let e : k ≡ n = last.0 ∙ length-fresh table n in
      (last.1 ∙ ap (fresh_poller table) (sym e), omega (arith, e))
  | inr before ↦ let h = fresh-at table n k x before in (h.0, (let z = h.1 in omega (arith, z)))
]

drop-next : (xs : List PollerSeen) (n : ℕ) (y : PollerSeen) (ys : List PollerSeen) → drop n xs ≡ y ∷ ys
    → (slice_get xs n ≡ Some y) × (drop (n + 1) xs ≡ ys) × (n < length xs)
drop-next [] zero y ys e = absurd cc
drop-next [] (suc n) y ys e = absurd cc
drop-next (x ∷ xs) zero y ys e = (cc, cc, omega arith)
drop-next (x ∷ xs) (suc n) y ys e = (let r = drop-next xs n y ys e in (r.0, rw add-one (rw add-one at r.1), omega (arith, r.2)))

pub record Next (xs rest : List PollerSeen) (n : ℕ) (x : PollerSeen) : Type 0 where
  pub at : slice_get xs n ≡ Some x
  pub rest_is : rest ≡ drop (n + 1) xs
  pub within : n < length xs

pub next-poller : (xs ps rest : List PollerSeen) (n : ℕ) (x : PollerSeen) → ps ≡ drop n xs → 0 < length ps → x ≡ get_or ps 0 x → rest ≡ remove ps 0
    → Next xs rest n x
next-poller xs [] rest n x e some v r = absurd (omega (arith, some))
next-poller xs (y ∷ ys) rest n x e some v r =
    let d = drop-next xs n y ys (sym e) in
    let same : x ≡ y = v in record { at = d.0 ∙ ap Some (sym same); rest_is = r ∙ sym d.1; within = d.2 }

pub next-seat : (table : TableId) (seats after : List SeatView) (s : SeatView) → after ≡ seats ++ s ∷ [] → s ≡ fresh_seat table (length seats)
    → ((p : ℕ) (t : SeatView) → slice_get seats p ≡ Some t → t ≡ fresh_seat table p) → (p : ℕ) (t : SeatView) → slice_get after p ≡ Some t
    → t ≡ fresh_seat table p
next-seat table seats after s is fresh each p t at = elim (slice_get-push_cases seats p s t (ap (λ (l : List SeatView). slice_get l p) (sym is) ∙ at)) [
  | inl last ↦ last.1 ∙ fresh ∙ ap (fresh_seat table) (sym last.0)
  | inr before ↦ each p t before
]

pub not-empty : (n : ℕ) (b : Bool) → b ≡ (n == 0) → b ≡ false → 0 < n
not-empty n b e f = let g : (n == 0) ≡ false = sym e ∙ f in grind (arith, nat_tests, g)

pub all-gone : (xs ps : List PollerSeen) (n : ℕ) → ps ≡ drop n xs → length ps ≡ 0 → n ≤ length xs → n ≡ length xs
all-gone xs ps n e gone few = let d : length ps ≡ length xs - n = ap (λ (l : List PollerSeen). length l) e ∙ length-drop n xs in omega (arith, d, gone, few)
