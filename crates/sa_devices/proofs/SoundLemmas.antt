-- What always holds of devices stays.
use Rattle.std.proofs.Common.{◌≡◌, ℕ, zero, suc, ◌+◌, ◌≤◌, Bool, true, false, cond, eqb, ltb, List, [], ◌∷◌, length, Option, Some, None, option_map, refl, sym, ap, subst, ◌∙◌, arith, sum_by, count_by, slice_index, slice_index_or, All, inl, inr, ◌<◌, ◌||◌, ◌-◌, take, drop, replicate}
use Rattle.std.specs.List.{list_any, AllAdjacentBelow}
use Rattle.std.specs.List.Sorted.{IsNonDecreasingBy, IsPartitionedBy, IsPartitionPoint}
use Rattle.std.proofs.lemmas.Bool.{cases_eq, cases_lt, cases_Bool, lt-ltb, ltb-true, ltb-false, ne_eqb, cond-true, cond-false}
use Rattle.std.proofs.lemmas.List.{length-set, take_rest, length-drop, length-replicate, get_or-drop, get_or-replicate, get_or_default}
use Rattle.std.proofs.lemmas.List.Sums.{sum_by-cons}
use Rattle.std.proofs.lemmas.List.Elements.{All-nil, All-cons, All-head, All-tail}
use Rattle.std.proofs.lemmas.Option.{none-some, same_Some}
use Rattle.sa_spaces.specs.declared.workload.Evict.{Evict}
use Rattle.sa_spaces.specs.Workload.{IsEviction, IsBefore}
use Rattle.sa_spaces.proofs.EvictionLemmas.{in_order}
use Rattle.sa_devices.specs.declared.kind.IoKind.{IoKind}
use Rattle.sa_devices.specs.declared.kind.IoKind.TheVariants.{Plain, Page, Upcall}
use Rattle.sa_devices.specs.Ios.{Io, is_number, io_at, without, fetches, one_fetch}
use Rattle.sa_devices.specs.Pages.{IsKind, gone, evicted, completed, with_page, without_page, upcall_page, HasPage}
use Rattle.sa_devices.specs.DevicesView.{IosView, ended_with}
use Rattle.sa_devices.specs.Sound.{IsSound}

-- one for an I/O that fetches the upcall page of s
abbrev one_of : ℕ → Io → ℕ
one_of s io = cond (fetches s io) 1 0

-- the I/O of a number
pub record Found (n : ℕ) (ios : List Io) (kind : IoKind) : Type 0 where
  pub io : Io
  pub at : io_at n ios ≡ Some io
  pub is : io.kind ≡ kind

pub found : (n : ℕ) (ios : List Io) (kind : IoKind) → option_map (λ (x : Io). x.kind) (io_at n ios) ≡ Some kind → Found n ios kind
found n ios kind at = go (io_at n ios) refl at where
  go : (o : Option Io) → io_at n ios ≡ o → option_map (λ (x : Io). x.kind) o ≡ Some kind → Found n ios kind
  go None is e = absurd (none-some kind e)
  go (Some io) is e = record { io = io; at = is; is = same_Some io.kind kind e }

-- what is summed over I/Os, without one of them
pub sum-without : (f : Io → ℕ) (n : ℕ) (ios : List Io) (io : Io) → io_at n ios ≡ Some io → sum_by f (without n ios) + f io ≡ sum_by f ios
sum-without f n [] io at = absurd (none-some io at)
sum-without f n (x ∷ xs) io at = go (is_number n x) at (sum-without f n xs io) where
  go : (b : Bool) → cond b (Some x) (io_at n xs) ≡ Some io → (io_at n xs ≡ Some io → sum_by f (without n xs) + f io ≡ sum_by f xs)
      → sum_by f (cond b xs (x ∷ without n xs)) + f io ≡ sum_by f (x ∷ xs)
  go true e again = let whole = sum_by-cons f x xs in let same = ap f (same_Some x io e) in omega arith
  go false e again = let whole = sum_by-cons f x xs in let part = sum_by-cons f x (without n xs) in let rest = again e in omega arith

count_by-without : (s n : ℕ) (ios : List Io) (io : Io) → io_at n ios ≡ Some io → count_by (fetches s) (without n ios) + one_of s io ≡ count_by (fetches s) ios
count_by-without s n ios io at = sum-without (one_of s) n ios io at

length-without-le : (n : ℕ) (ios : List Io) → length (without n ios) ≤ length ios
length-without-le n [] = omega arith
length-without-le n (x ∷ xs) = go (is_number n x) (length-without-le n xs) where
  go : (b : Bool) → length (without n xs) ≤ length xs → length (cond b xs (x ∷ without n xs)) ≤ length (x ∷ xs)
  go true le = omega arith
  go false le = omega arith

pub All-without : (P : Io → Type 0) (n : ℕ) (ios : List Io) → All P ios → All P (without n ios)
All-without P n [] all = all
All-without P n (x ∷ xs) all = go (is_number n x) (All-without P n xs (All-tail P x xs all)) where
  go : (b : Bool) → All P (without n xs) → All P (cond b xs (x ∷ without n xs))
  go true rest = All-tail P x xs all
  go false rest = All-cons P x (without n xs) (All-head P x xs all) rest

pub All-io_at : (P : Io → Type 0) (n : ℕ) (ios : List Io) (io : Io) → All P ios → io_at n ios ≡ Some io → P io
All-io_at P n [] io all at = absurd (none-some io at)
All-io_at P n (x ∷ xs) io all at = go (is_number n x) at (All-io_at P n xs io (All-tail P x xs all)) where
  go : (b : Bool) → cond b (Some x) (io_at n xs) ≡ Some io → (io_at n xs ≡ Some io → P io) → P io
  go true e again = subst P (same_Some x io e) (All-head P x xs all)
  go false e again = again e

pub IsKind-found : (n spaces : ℕ) (ios : List Io) (kind : IoKind) → All (λ (io : Io). IsKind spaces io.kind) ios → Found n ios kind → IsKind spaces kind
IsKind-found n spaces ios kind all at = subst (IsKind spaces) at.is (All-io_at (λ (io : Io). IsKind spaces io.kind) n ios at.io all at.at)

pub counted-fetch : (ios : IosView) (fetching pages : List ℕ) (evictions : List Evict) (n : ℕ) (kind : IoKind) → IsSound ios fetching pages evictions
    → Found n ios.under_way kind → (s : ℕ) → one_fetch s kind ≤ slice_index fetching s
counted-fetch ios fetching pages evictions n kind sound at s = elim (cases_lt s (length pages)) [
  | inl below ↦
      let count = sound.counts s below in
      let part = count_by-without s n ios.under_way at.io at.at in
      let is : one_of s at.io ≡ one_fetch s kind = ap (one_fetch s) at.is in omega arith
  | inr past ↦ no-fetch past kind (IsKind-found n (length pages) ios.under_way kind sound.kinds at)
] where
  no-fetch : length pages ≤ s → (k : IoKind) → IsKind (length pages) k → one_fetch s k ≤ slice_index fetching s
  no-fetch past (Plain t a) is_kind = omega arith
  no-fetch past (Page t a p) is_kind = omega arith
  no-fetch past (Upcall t) is_kind =
      let other : one_fetch s (Upcall t) ≡ 0 = cond-false (eqb t.0 s) 1 0 (ne_eqb t.0 s (λ e. omega arith)) in omega arith

pub IsSound-complete : (ios : IosView) (fetching after pages come : List ℕ) (evictions : List Evict) (n : ℕ) (kind : IoKind)
    → IsSound ios fetching pages evictions → Found n ios.under_way kind → length after ≡ length fetching → length come ≡ length pages
    → ((s : ℕ) → slice_index after s + one_fetch s kind ≡ slice_index fetching s) → IsSound (ended_with ios n) after come evictions
IsSound-complete ios fetching after pages come evictions n kind sound at size places counts =
    record {
      spaces = size ∙ sound.spaces ∙ sym places;
      kinds =
          subst (λ (k : ℕ). All (λ (x : Io). IsKind k x.kind) (without n ios.under_way)) (sym places)
          (All-without (λ (x : Io). IsKind (length pages) x.kind) n ios.under_way sound.kinds);
      counts = λ s below.
          let count = sound.counts s (omega arith) in
          let part = count_by-without s n ios.under_way at.io at.at in
          let is : one_of s at.io ≡ one_fetch s kind = ap (one_fetch s) at.is in
          let change = counts s in omega arith;
      few = (let less = length-without-le n ios.under_way in let few = sound.few in omega arith);
      in_range = subst (λ (k : ℕ). All (IsEviction k) evictions) (sym places) sound.in_range;
      in_order = sound.in_order;
    }

-- some I/O fetches where their count is above 0
pub list_any-fetches : (s : ℕ) (ios : List Io) → list_any (fetches s) ios ≡ ltb 0 (count_by (fetches s) ios)
list_any-fetches s [] = refl
list_any-fetches s (x ∷ xs) =
    let whole = sum_by-cons (one_of s) x xs in
    elim (cases_Bool (fetches s x)) [
      | inl e ↦
          let one : one_of s x ≡ 1 = cond-true (fetches s x) 1 0 e in
          ap (λ b. b || list_any (fetches s) xs) e ∙ sym (lt-ltb 0 (count_by (fetches s) (x ∷ xs)) (omega arith))
      | inr e ↦
          let none : one_of s x ≡ 0 = cond-false (fetches s x) 1 0 e in
          let same : count_by (fetches s) xs ≡ count_by (fetches s) (x ∷ xs) = omega arith in
          ap (λ b. b || list_any (fetches s) xs) e ∙ list_any-fetches s xs ∙ ap (ltb 0) same
    ]

-- ---- evictions

-- evictions of earlier events change nothing
pub evicted-skip : (event n : ℕ) (es : List Evict) (pages : List ℕ) → ((k : ℕ) (d : Evict) → k < n → (slice_index_or es k d).event < event)
    → evicted event (drop n es) pages ≡ evicted event es pages
evicted-skip event zero es pages early = refl
evicted-skip event (suc n) [] pages early = refl
evicted-skip event (suc n) (e ∷ es) pages early =
    let first = early 0 e (omega arith) in
    evicted-skip event n es pages (λ k d below. early (suc k) d (omega arith))
    ∙ sym (ap (evicted event es) (cond-false (eqb e.event event) (gone pages e.space.0 e.page) pages (ne_eqb e.event event (λ same. omega arith))))

-- so do those of later events
pub evicted-late : (event : ℕ) (es : List Evict) (pages : List ℕ) → ((k : ℕ) (d : Evict) → k < length es → event < (slice_index_or es k d).event)
    → evicted event es pages ≡ pages
evicted-late event [] pages late = refl
evicted-late event (e ∷ es) pages late =
    let first = late 0 e (omega arith) in
    ap (evicted event es) (cond-false (eqb e.event event) (gone pages e.space.0 e.page) pages (ne_eqb e.event event (λ same. omega arith)))
    ∙ evicted-late event es pages (λ k d below. late (suc k) d (omega arith))

-- the evictions of events from this one on begin where those of earlier events end
abbrev pub IsCut : ℕ → List Evict → ℕ → Type 0
IsCut event es from =
    ((k : ℕ) (d : Evict) → k < from → (slice_index_or es k d).event < event)
    × ((k : ℕ) (d : Evict) → from ≤ k → k < length es → event ≤ (slice_index_or es k d).event)

pub IsCut-from_point : (event : ℕ) (es : List Evict) (from : ℕ)
    → IsPartitionPoint (λ (e : Evict). ltb e.event event ≡ true) (λ (e : Evict). ltb e.event event ≡ false) es from → IsCut event es from
IsCut-from_point event es from point = (
  λ k d below. ltb-true (slice_index_or es k d).event event (point.0 k d (omega arith) below),
  λ k d le below. ltb-false (slice_index_or es k d).event event (point.1 k d le below),
)

-- they are cut, since they are in order
pub IsPartitionedBy-event : (event : ℕ) (es : List Evict) → IsNonDecreasingBy (λ (e : Evict). e.event) es
    → IsPartitionedBy (λ (e : Evict). ltb e.event event) es
IsPartitionedBy-event event es order i j d le below early =
    let later = order i j d le below in
    let less = ltb-true (slice_index_or es j d).event event early in
    lt-ltb (slice_index_or es i d).event event (omega arith)

-- from the first eviction of a later event on nothing changes
pub evicted-rest : (event from i : ℕ) (es : List Evict) (pages : List ℕ) (d : Evict) → IsNonDecreasingBy (λ (e : Evict). e.event) es → from + i < length es
    → event < (slice_index_or es (from + i) d).event → evicted event (drop i (drop from es)) pages ≡ pages
evicted-rest event from i es pages d order below late = evicted-late event (drop i (drop from es)) pages (λ k e inside.
    let size = length-drop i (drop from es) in
    let size_all = length-drop from es in
    let at : slice_index_or (drop i (drop from es)) k e ≡ slice_index_or es (from + (i + k)) e =
    get_or-drop i (drop from es) k e ∙ get_or-drop from es (i + k) e in
    let later = order (from + i) (from + (i + k)) e (omega arith) (omega arith) in
    let same : slice_index_or es (from + i) e ≡ slice_index_or es (from + i) d = get_or_default es (from + i) e d below in
    let late_there : event < (slice_index_or es (from + i) e).event = subst (λ (x : Evict). event < x.event) (sym same) late in
    subst (λ (x : Evict). event < x.event) (sym at) (omega arith))

-- ---- the opening

pub events-in_order : (es : List Evict) → AllAdjacentBelow IsBefore es (length es) → IsNonDecreasingBy (λ (e : Evict). e.event) es
events-in_order es rise i j d le below = elim (cases_eq i j) [
  | inl same ↦ subst (λ (k : ℕ). (slice_index_or es i d).event ≤ (slice_index_or es k d).event) same (omega arith)
  | inr apart ↦ (let before = in_order es rise i j d (omega arith) below in grind arith)
]

pub IsSound-opening : (spare spaces : ℕ) (pages : List ℕ) (evictions : List Evict) → length pages ≡ spaces → All (IsEviction spaces) evictions
    → AllAdjacentBelow IsBefore evictions (length evictions)
    → IsSound (record { io_count = 0; under_way = []; spare = spare }) (replicate spaces 0) pages evictions
IsSound-opening spare spaces pages evictions size in_range rise = record {
  spaces = length-replicate spaces 0 ∙ sym size;
  kinds = All-nil (λ (io : Io). IsKind (length pages) io.kind);
  counts = λ s below. get_or-replicate spaces s 0 0 (omega arith);
  few = omega arith;
  in_range = subst (λ (n : ℕ). All (IsEviction n) evictions) (sym size) in_range;
  in_order = events-in_order evictions rise;
}

pub IsSound-new : (ios : IosView) (fetching pages : List ℕ) (evictions : List Evict) (spaces : ℕ) → ios ≡ record { io_count = 0; under_way = []; spare = 0 }
    → fetching ≡ replicate spaces 0 → length pages ≡ spaces → All (IsEviction spaces) evictions → AllAdjacentBelow IsBefore evictions (length evictions)
    → IsSound ios fetching pages evictions
IsSound-new ios fetching pages evictions spaces none counted size in_range rise =
    subst (λ (v : IosView). IsSound v fetching pages evictions) (sym none)
    (subst (λ (xs : List ℕ). IsSound (record { io_count = 0; under_way = []; spare = 0 }) xs pages evictions) (sym counted)
    (IsSound-opening 0 spaces pages evictions size in_range rise))

-- the page of an I/O is one of a space's
pub IsKind-page : (spaces : ℕ) (kind : IoKind) → IsKind spaces kind → HasPage kind
IsKind-page spaces (Plain s a) is = tt
IsKind-page spaces (Page s a k) is = omega (arith, is.2)
IsKind-page spaces (Upcall s) is = tt

-- an I/O that is over changes no number of spaces
pub length-completed : (kind : IoKind) (pages : List ℕ) → length (completed kind pages) ≡ length pages
length-completed (Plain s a) pages = refl
length-completed (Page s a k) pages = length-set pages s.0 (with_page (slice_index pages s.0) k)
length-completed (Upcall s) pages = length-set pages s.0 (with_page (slice_index pages s.0) upcall_page)

-- the eviction at i of those that are not of earlier events is not of this one
pub evicted-then : (event from i : ℕ) (es : List Evict) (pages : List ℕ) (d : Evict) → IsNonDecreasingBy (λ (e : Evict). e.event) es → IsCut event es from
    → from ≤ length es → i < length (take (length es - from) (drop from es)) → ((slice_index_or (take (length es - from) (drop from es)) i d).event ≡ event → ⊥)
    → evicted event (drop i (take (length es - from) (drop from es))) pages ≡ pages
evicted-then event from i es pages d order cut bound below other =
    let rest : take (length es - from) (drop from es) ≡ drop from es = take_rest es from in
    let size = ap length rest in
    let size_all = length-drop from es in
    let at : slice_index_or (take (length es - from) (drop from es)) i d ≡ slice_index_or es (from + i) d =
    ap (λ (xs : List Evict). slice_index_or xs i d) rest ∙ get_or-drop from es i d in
    let is = ap (λ (e : Evict). e.event) at in
    let le = cut.1 (from + i) d (omega arith) (omega arith) in
    let apart : (slice_index_or es (from + i) d).event ≡ event → ⊥ = λ e. other (is ∙ e) in
    ap (λ (xs : List Evict). evicted event (drop i xs) pages) rest ∙ evicted-rest event from i es pages d order (omega arith) (omega arith)

pub length-evicted : (event : ℕ) (es : List Evict) (pages : List ℕ) → length (evicted event es pages) ≡ length pages
length-evicted event [] pages = refl
length-evicted event (e ∷ es) pages = length-evicted event es (cond (eqb e.event event) (gone pages e.space.0 e.page) pages) ∙ one (eqb e.event event) where
  one : (b : Bool) → length (cond b (gone pages e.space.0 e.page) pages) ≡ length pages
  one true = length-set pages e.space.0 (without_page (slice_index pages e.space.0) e.page)
  one false = refl
