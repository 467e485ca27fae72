-- What is written back into lists of a fixed room, and the counts of fetches.
use Rattle.std.proofs.Common.{◌≡◌, ℕ, ◌+◌, ◌-◌, ◌<◌, ◌≤◌, List, length, get_or, set, slice_index, All, refl, sym, ap, subst, ◌∙◌, inl, inr, arith}
use Rattle.std.proofs.lemmas.Bool.{cases_eq, eq-eqb, ne_eqb, cond-true, cond-false}
use Rattle.std.proofs.lemmas.List.{get_or-set_same, get_or-set_other}
use Rattle.std.specs.List.{refill}
use Rattle.sa_lemmas.proofs.ListUpdates.{refill-whole, refill-set}
use Rattle.sa_base.specs.declared.number.SpaceNo.{SpaceNo}
use Rattle.sa_spaces.specs.declared.workload.Evict.{Evict}
use Rattle.sa_spaces.specs.Workload.{IsEviction}
use Rattle.sa_devices.specs.declared.kind.IoKind.TheVariants.{Upcall}
use Rattle.sa_devices.specs.DevicesView.{IosView}
use Rattle.sa_devices.specs.Ios.{Io, one_fetch}
use Rattle.sa_devices.specs.Pages.{IsKind, evicted}
use Rattle.sa_devices.specs.Sound.{IsSound}
use Rattle.sa_devices.proofs.SoundLemmas.{length-evicted}

-- a list is written back whole whose entry at a place was changed by a function
pub refill-changed : (f : ℕ → ℕ) (xs now : List ℕ) (i p : ℕ) → now ≡ xs → i ≡ p
    → refill (length xs) xs (set now i (f (get_or now i 0))) ≡ set xs p (f (get_or xs p 0))
refill-changed f xs now i p is at =
    refill-set xs now i p (f (get_or now i 0)) is at ∙ ap (λ ys. set xs p (f (get_or ys i 0))) is ∙ ap (λ k. set xs p (f (get_or xs k 0))) at

-- what is at the place that was written
counted-at : (xs after : List ℕ) (s : SpaceNo) (v : ℕ) → after ≡ set xs s.0 v → s.0 < length xs → slice_index after s.0 ≡ v
counted-at xs after s v is within = ap (λ ys. slice_index ys s.0) is ∙ get_or-set_same xs s.0 v 0 within

-- one more fetch of a space
pub one-more : (xs after : List ℕ) (s : SpaceNo) → after ≡ set xs s.0 (get_or xs s.0 0 + 1) → s.0 < length xs → (t : ℕ)
    → slice_index after t ≡ slice_index xs t + one_fetch t (Upcall s)
one-more xs after s is within t = elim (cases_eq t s.0) [
  | inl same ↦
      let here = counted-at xs after s (get_or xs s.0 0 + 1) is within in
      let one : one_fetch s.0 (Upcall s) ≡ 1 = cond-true _ 1 0 (eq-eqb s.0 s.0 refl) in
      let all : slice_index after s.0 ≡ slice_index xs s.0 + one_fetch s.0 (Upcall s) = omega arith in
      subst (λ (n : ℕ). slice_index after n ≡ slice_index xs n + one_fetch n (Upcall s)) (sym same) all
  | inr apart ↦
      let there : slice_index after t ≡ slice_index xs t = ap (λ ys. slice_index ys t) is ∙ get_or-set_other xs s.0 t (get_or xs s.0 0 + 1) 0 apart in
      let none : one_fetch t (Upcall s) ≡ 0 = cond-false _ 1 0 (ne_eqb s.0 t (λ e. apart (sym e))) in
      omega arith
]

-- one fetch less of a space
pub one-less : (xs after : List ℕ) (s : SpaceNo) → after ≡ set xs s.0 (get_or xs s.0 0 - 1) → s.0 < length xs
    → ((t : ℕ) → one_fetch t (Upcall s) ≤ slice_index xs t) → (t : ℕ) → slice_index after t + one_fetch t (Upcall s) ≡ slice_index xs t
one-less xs after s is within some t = elim (cases_eq t s.0) [
  | inl same ↦
      let here = counted-at xs after s (get_or xs s.0 0 - 1) is within in
      let one : one_fetch s.0 (Upcall s) ≡ 1 = cond-true _ 1 0 (eq-eqb s.0 s.0 refl) in
      let enough = some s.0 in
      let all : slice_index after s.0 + one_fetch s.0 (Upcall s) ≡ slice_index xs s.0 = omega arith in
      subst (λ (n : ℕ). slice_index after n + one_fetch n (Upcall s) ≡ slice_index xs n) (sym same) all
  | inr apart ↦
      let there : slice_index after t ≡ slice_index xs t = ap (λ ys. slice_index ys t) is ∙ get_or-set_other xs s.0 t (get_or xs s.0 0 - 1) 0 apart in
      let none : one_fetch t (Upcall s) ≡ 0 = cond-false _ 1 0 (ne_eqb s.0 t (λ e. apart (sym e))) in
      omega arith
]

-- pages of the same number of spaces are as sound
pub IsSound-pages : (ios : IosView) (fetching pages after : List ℕ) (evictions : List Evict) → length after ≡ length pages
    → IsSound ios fetching pages evictions → IsSound ios fetching after evictions
IsSound-pages ios fetching pages after evictions same sound = record {
  spaces = sound.spaces ∙ sym same;
  kinds = subst (λ (n : ℕ). All (λ (io : Io). IsKind n io.kind) ios.under_way) (sym same) sound.kinds;
  counts = λ s below. sound.counts s (omega arith);
  few = sound.few;
  in_range = subst (λ (n : ℕ). All (IsEviction n) evictions) (sym same) sound.in_range;
  in_order = sound.in_order;
}

-- the pages are written back whole when the evictions of an event are done
pub refill-evicted : (event : ℕ) (es : List Evict) (pages new : List ℕ) → new ≡ evicted event es pages → refill (length pages) pages new ≡ evicted event es pages
refill-evicted event es pages new is = refill-whole pages new (ap length is ∙ length-evicted event es pages) ∙ is
