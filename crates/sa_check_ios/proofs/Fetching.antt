-- Which upcall pages are being fetched, as I/Os begin and end.
use Rattle.std.proofs.Common.{◌≡◌, ◌≢◌, ℕ, Bool, true, false, List, [], ◌∷◌, refl, sym, ap, ◌∙◌, arith, ◌||◌, inl, inr, slice_index_or, slice_set}
use Rattle.std.specs.Prelude.{filter, not}
use Rattle.std.specs.List.{list_any}
use Rattle.std.proofs.lemmas.List.{length-set, get_or-set_same, get_or-set_other}
use Rattle.std.proofs.lemmas.Bool.{cases_Bool, cases_eq, cond-true, cond-false, not-true}
use Rattle.std.proofs.lemmas.Bool.Decides.{nat_tests}
use Rattle.sa_base.specs.declared.number.SpaceNo.{SpaceNo}
use Rattle.sa_base.specs.declared.number.ActNo.{ActNo}
use Rattle.sa_devices.specs.declared.kind.IoKind.{IoKind}
use Rattle.sa_devices.specs.declared.kind.IoKind.TheVariants.{Plain, Page, Upcall}
use Rattle.sa_devices.specs.Ios.{Io, fetches, is_fetch_of}
use Rattle.sa_laws.specs.Record.{is_kind_of, is_io_of_other, fetches_other}
use Rattle.sa_check_ios.specs.Kept.{AreFetching}

-- what a filter takes out passes no test; what it leaves does not
list_any-kept : (p q : Io → Bool) (xs : List Io) → ((x : Io) → q x ≡ false → p x ≡ false) → list_any p (filter q xs) ≡ list_any p xs
list_any-kept p q [] out = refl
list_any-kept p q (x ∷ xs) out = elim (cases_Bool (q x)) [
  | inl so ↦ ap (list_any p) (cond-true (q x) (x ∷ filter q xs) (filter q xs) so) ∙ ap (λ b. p x || b) (list_any-kept p q xs out)
  | inr other ↦
      ap (list_any p) (cond-false (q x) (x ∷ filter q xs) (filter q xs) other) ∙ list_any-kept p q xs out ∙ sym (ap (λ b. b || list_any p xs) (out x other))
]

list_any-gone : (p q : Io → Bool) (xs : List Io) → ((x : Io) → q x ≡ true → p x ≡ false) → list_any p (filter q xs) ≡ false
list_any-gone p q [] out = refl
list_any-gone p q (x ∷ xs) out = elim (cases_Bool (q x)) [
  | inl so ↦
      ap (list_any p) (cond-true (q x) (x ∷ filter q xs) (filter q xs) so) ∙ ap (λ b. b || list_any p (filter q xs)) (out x so) ∙ list_any-gone p q xs out
  | inr other ↦ ap (list_any p) (cond-false (q x) (x ∷ filter q xs) (filter q xs) other) ∙ list_any-gone p q xs out
]

-- no I/O of a life is a fetch
pub fetches-life : (s : ℕ) (a : ActNo) (ios : List Io) → list_any (fetches s) (filter (is_io_of_other a) ios) ≡ list_any (fetches s) ios
fetches-life s a ios = list_any-kept (fetches s) (is_io_of_other a) ios (λ x gone. apart x.kind gone) where
  apart : (kind : IoKind) → not (is_kind_of a kind) ≡ false → is_fetch_of s kind ≡ false
  apart (Plain t b) gone = refl
  apart (Page t b k) gone = refl
  apart (Upcall t) gone = cc

pub fetches-same : (s : SpaceNo) (ios : List Io) → list_any (fetches s.0) (filter (fetches_other s) ios) ≡ false
fetches-same s ios = list_any-gone (fetches s.0) (fetches_other s) ios (λ x left. not-true (fetches s.0 x) left)

pub fetches-other : (s : SpaceNo) (t : ℕ) (ios : List Io) → t ≢ s.0 → list_any (fetches t) (filter (fetches_other s) ios) ≡ list_any (fetches t) ios
fetches-other s t ios apart = list_any-kept (fetches t) (fetches_other s) ios (λ x gone. step x.kind gone) where
  step : (kind : IoKind) → not (is_fetch_of s.0 kind) ≡ false → is_fetch_of t kind ≡ false
  step (Plain u b) gone = refl
  step (Page u b k) gone = refl
  step (Upcall u) gone = grind (arith, nat_tests)

pub AreFetching-life : (fetching : List Bool) (ios : List Io) (a : ActNo) → AreFetching fetching ios → AreFetching fetching (filter (is_io_of_other a) ios)
AreFetching-life fetching ios a are = record { each = λ s within. are.each s within ∙ sym (fetches-life s a ios) }

pub AreFetching-over : (fetching : List Bool) (ios : List Io) (s : SpaceNo) → AreFetching fetching ios
    → AreFetching (slice_set fetching s.0 false) (filter (fetches_other s) ios)
AreFetching-over fetching ios s are = record {
  each = λ t within.
      let size = length-set fetching s.0 false in
      elim (cases_eq t s.0) [
        | inl same ↦
            ap (λ n. slice_index_or (slice_set fetching s.0 false) n false) same ∙ get_or-set_same fetching s.0 false false (omega arith)
            ∙ sym (ap (λ n. list_any (fetches n) (filter (fetches_other s) ios)) same ∙ fetches-same s ios)
        | inr apart ↦ get_or-set_other fetching s.0 t false false apart ∙ are.each t (omega arith) ∙ sym (fetches-other s t ios apart)
      ];
}
