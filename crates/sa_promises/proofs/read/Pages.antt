-- Which pages are resident.
use Rattle.std.proofs.Common.{◌≡◌, ◌≢◌, ◌-◌, ◌^◌, eqb, ℕ, ◌<◌, inl, inr, refl, sym, ◌∙◌, ap, arith, Some, None, List, [], ◌∷◌, length, true, false}
use Rattle.std.specs.Prelude.{Option, Bool, ◌==◌, ◌&&◌, ◌||◌, not, if◌then◌else◌, get_or, slice_set, All}
use Rattle.std.specs.List.{list_any}
use Rattle.std.proofs.lemmas.Bool.{cases_eq, and_from, and_left, and_right, eq-eqb, ne_eqb}
use Rattle.std.proofs.lemmas.List.{get_or-set_same, get_or-set_other, length-set}
use Rattle.std.proofs.lemmas.List.Elements.{All-head, All-tail}
use Rattle.std.proofs.lemmas.Nat.Bits.{bit_at_ones}
use Rattle.sa_base.specs.declared.number.SpaceNo.{SpaceNo}
use Rattle.sa_base.specs.declared.record.Record.{Record}
use Rattle.sa_base.specs.declared.record.Record.TheVariants.{Unblock, Fetched}
use Rattle.sa_spaces.specs.declared.workload.Evict.{Evict}
use Rattle.sa_devices.specs.declared.kind.IoKind.{IoKind}
use Rattle.sa_devices.specs.declared.kind.IoKind.TheVariants.{Plain, Page, Upcall}
use Rattle.sa_devices.specs.Ios.{Io}
use Rattle.sa_devices.specs.Pages.{with_page, without_page, without_pages, come, gone, evicted, upcall_page}
use Rattle.sa_base.specs.Pages.{has_page}
use Rattle.sa_devices.proofs.LawLemmas.{has_page-with_same, has_page-with_other, has_page-without_same, has_page-without_other}
use Rattle.sa_laws.specs.Readings.{Readings}
use Rattle.sa_laws.specs.Record.{io_over, pages_after}
use Rattle.sa_laws.specs.Record as laws
use Rattle.sa_promises.specs.Pages.{names_page, is_io_for, is_kind_for, comes_at}

-- page k of a space, in a list of pages
abbrev pub has_at : List ℕ → ℕ → ℕ → Bool
has_at pages s k = has_page (get_or pages s 0) k

-- a list of pages, one page of which is changed in one space
pub change-page : (f : ℕ → ℕ → ℕ) (v : Bool) (pages : List ℕ) (t j s k : ℕ) → s < length pages
    → ((bits : ℕ) → j ≡ k → has_page (f bits j) k ≡ v) → ((bits : ℕ) → k ≢ j → has_page (f bits j) k ≡ has_page bits k)
    → has_at (slice_set pages t (f (get_or pages t 0) j)) s k ≡ (if t == s && j == k then v else has_at pages s k)
change-page f v pages t j s k within same other = elim (cases_eq t s) [
  | inl at ↦
      ap (λ n. has_at (slice_set pages n (f (get_or pages n 0) j)) s k) at
      ∙ ap (λ bits. has_page bits k) (get_or-set_same pages s (f (get_or pages s 0) j) 0 within)
      ∙ elim (cases_eq j k) [
        | inl page ↦ (
            same (get_or pages s 0) page
            ∙ sym (ap (λ b. if b then v else has_at pages s k) (and_from (t == s) (j == k) (eq-eqb t s at) (eq-eqb j k page)))
            )
        | inr apart ↦ (
            other (get_or pages s 0) (λ e. apart (sym e))
            ∙ sym (ap (λ b. if b then v else has_at pages s k) (and_right (t == s) (j == k) (ne_eqb j k apart)))
            )
      ]
  | inr apart ↦
      ap (λ bits. has_page bits k) (get_or-set_other pages t s (f (get_or pages t 0) j) 0 (λ e. apart (sym e)))
      ∙ sym (ap (λ b. if b then v else has_at pages s k) (and_left (t == s) (j == k) (ne_eqb t s apart)))
]

pub come-more : (pages : List ℕ) (t j s k : ℕ) → s < length pages → k < 16 → has_at (come pages t j) s k ≡ (if t == s && j == k then true else has_at pages s k)
come-more pages t j s k within few = change-page with_page true pages t j s k within
    (λ bits e. ap (λ n. has_page (with_page bits n) k) e ∙ has_page-with_same bits k few)
    (λ bits apart. has_page-with_other bits j k apart)

pub gone-more : (pages : List ℕ) (t j s k : ℕ) → s < length pages → j < 16 → k < 16
    → has_at (gone pages t j) s k ≡ (if t == s && j == k then false else has_at pages s k)
gone-more pages t j s k within small few = change-page without_page false pages t j s k within
    (λ bits e. ap (λ n. has_page (without_page bits n) k) e ∙ has_page-without_same bits k few)
    (λ bits apart. has_page-without_other bits j k small few apart)

-- the evictions of an event
abbrev pub IsSmall : Evict → Type 0
IsSmall e = e.page < 16

choose : (a b : Bool) (old : Bool) → (if b then false else (if a then false else old)) ≡ (if a || b then false else old)
choose true true old = refl
choose _ _ old = refl

evict-one : (event : ℕ) (e : Evict) (pages : List ℕ) (s : SpaceNo) (k : ℕ) → e.page < 16 → s.0 < length pages → k < 16
    → (b : Bool)
    → has_at (if b then gone pages e.space.0 e.page else pages) s.0 k ≡ (if b && (e.space.0 == s.0 && e.page == k) then false else has_at pages s.0 k)
evict-one event e pages s k small within few true = gone-more pages e.space.0 e.page s.0 k within small few
evict-one event e pages s k small within few false = refl

if-length : (b : Bool) (pages : List ℕ) (t j : ℕ) → length (if b then gone pages t j else pages) ≡ length pages
if-length true pages t j = length-set pages t _
if-length false pages t j = refl

pub evicted-more : (event : ℕ) (es : List Evict) (pages : List ℕ) (s : SpaceNo) (k : ℕ) → All IsSmall es → s.0 < length pages → k < 16
    → has_at (evicted event es pages) s.0 k ≡ (if list_any (names_page event s k) es then false else has_at pages s.0 k)
evicted-more event [] pages s k small within few = refl
evicted-more event (e ∷ es) pages s k small within few =
    let left = if e.event == event then gone pages e.space.0 e.page else pages in
    let same : length left ≡ length pages = if-length (e.event == event) pages e.space.0 e.page in
    evicted-more event es left s k (All-tail IsSmall e es small) (omega arith) few
    ∙ ap (λ b. if list_any (names_page event s k) es then false else b)
    (evict-one event e pages s k (All-head IsSmall e es small) within few (e.event == event))
    ∙ choose (names_page event s k e) (list_any (names_page event s k) es) (has_at pages s.0 k)

-- the completions
over-more : (pages : List ℕ) (o : Option Io) (s : SpaceNo) (k : ℕ) → s.0 < length pages → k < 16
    → has_at (laws.with_page pages o) s.0 k ≡ (if is_io_for s k o then true else has_at pages s.0 k)
over-more pages None s k within few = refl
over-more pages (Some io) s k within few = one io.kind where
  one : (kind : IoKind) → has_at (Rattle.sa_devices.specs.Pages.completed kind pages) s.0 k ≡ (if is_kind_for s k kind then true else has_at pages s.0 k)
  one (Plain of a) = refl
  one (Page of a j) = come-more pages of.0 j s.0 k within few
  one (Upcall of) = come-more pages of.0 upcall_page s.0 k within few

over-same : (r : Readings) (ios : List Io) (x : Record) (s : SpaceNo) (k : ℕ) → r.under_way ≡ ios → is_io_for s k (io_over r x) ≡ comes_at ios s k x
over-same r ios (Unblock of t a) s k is = ap (λ us. comes_at us s k (Unblock of t a)) is
over-same r ios (Fetched of) s k is = ap (λ us. comes_at us s k (Fetched of)) is
over-same r ios x s k is = refl

pub pages-more : (r : Readings) (ios : List Io) (x : Record) (s : SpaceNo) (k : ℕ) → r.under_way ≡ ios → s.0 < length r.pages → k < 16
    → has_at (pages_after r x) s.0 k ≡ (if comes_at ios s k x then true else has_at r.pages s.0 k)
pages-more r ios x s k is within few =
    over-more r.pages (io_over r x) s k within few ∙ ap (λ b. if b then true else has_at r.pages s.0 k) (over-same r ios x s k is)

-- the opening
all-pages : (k : ℕ) → k < 16 → has_page (2 ^ 16 - 1) k ≡ true
all-pages k few = ap (λ (n : ℕ). eqb n 1) (bit_at_ones 16 k few)

pub absent-more : (ks : List ℕ) (bits k : ℕ) → All (λ page. page < 16) ks → k < 16
    → has_page (without_pages bits ks) k ≡ (if list_any (λ j. j == k) ks then false else has_page bits k)
absent-more [] bits k small few = refl
absent-more (j ∷ js) bits k small few =
    absent-more js (without_page bits j) k (All-tail (λ page. page < 16) j js small) few
    ∙ ap (λ b. if list_any (λ i. i == k) js then false else b) one
    ∙ choose (j == k) (list_any (λ i. i == k) js) (has_page bits k)
  where
    one : has_page (without_page bits j) k ≡ (if j == k then false else has_page bits k)
    one = elim (cases_eq j k) [
      | inl same ↦
          ap (λ n. has_page (without_page bits n) k) same ∙ has_page-without_same bits k few
          ∙ sym (ap (λ b. if b then false else has_page bits k) (eq-eqb j k same))
      | inr apart ↦
          has_page-without_other bits j k (All-head (λ page. page < 16) j js small) few (λ e. apart (sym e))
          ∙ sym (ap (λ b. if b then false else has_page bits k) (ne_eqb j k apart))
    ]

pub opening-pages : (ks : List ℕ) (k : ℕ) → All (λ page. page < 16) ks → k < 16 → has_page (without_pages (2 ^ 16 - 1) ks) k ≡ not (list_any (λ j. j == k) ks)
opening-pages ks k small few =
    absent-more ks (2 ^ 16 - 1) k small few ∙ ap (λ b. if list_any (λ j. j == k) ks then false else b) (all-pages k few) ∙ one (list_any (λ j. j == k) ks)
  where
    one : (b : Bool) → (if b then false else true) ≡ not b
    one true = refl
    one false = refl
