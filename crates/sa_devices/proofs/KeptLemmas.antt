-- How the I/Os under way are kept in a heap.
use Rattle.std.proofs.Common.{◌≡◌, ℕ, suc, ◌+◌, ◌<◌, ◌≤◌, false, inl, inr, List, [], ◌∷◌, ◌++◌, length, set, Option, Some, None, option_map, refl, sym, ap, subst, ◌∙◌, arith, Contains, ◌-◌, slice_index_or, length-set, IsSome, IfSome, OnSome}
use Rattle.std.specs.Ordering.{is_lt}
use Rattle.std.specs.BinaryHeap.{KeepsHeap, PopsGreatest, IsUpperBound, lt_by_cmp}
use Rattle.std.specs.List.Sorted.{IsPermutation}
use Rattle.std.proofs.lemmas.Bool.{cases_lt}
use Rattle.std.proofs.lemmas.Bool.Decides.{nat_tests}
use Rattle.std.proofs.lemmas.List.{get_or_past, get_or_append_left, get_or_at, length-append}
use Rattle.std.proofs.lemmas.List.Elements.{All-from_recursion}
use Rattle.std.proofs.lemmas.List.Sorted.{Contains-permutation, IsPermutation-sym}
use Rattle.std.proofs.lemmas.Option.{none-some, same_Some}
use Rattle.sa_base.specs.declared.number.IoNo.{IoNo}
use Rattle.sa_lemmas.proofs.Membership.{contains-head, contains-tail, contains-cases}
use Rattle.sa_devices.specs.declared.under_way.Entry.{Entry}
use Rattle.sa_devices.specs.Ios.{Io, due_of, io_no, io_at, without}
use Rattle.sa_devices.specs.DevicesView.{IosView, begun_with, ended_with}
use Rattle.sa_devices.specs.Kept.{Key, key_of, key_cmp, IsNotAfter, listed, entry_at, ends_at, IsOfOne, HaveKeys, IsCovered, AreKept}
use Rattle.sa_devices.proofs.IosLemmas.{io_of, listed-append, without-listed, io_at-listed, Member, stands-under_way, IsListed, ends_at-listed, IsDueOf, due_of-due}

-- ---- places

ends_at-below : (places : List (Option Entry)) (n ends : ℕ) → ends_at places n ≡ Some ends → n < length places
ends_at-below places n ends at = elim (cases_lt n (length places)) [
  | inl below ↦ below
  | inr past ↦ absurd (none-some ends (sym (ap (λ (e : Option Entry). option_map (λ (x : Entry). x.ends) e) (get_or_past places n None past)) ∙ at))
]

ends_at-old : (places : List (Option Entry)) (e : Entry) (n : ℕ) → n < length places → ends_at (places ++ Some e ∷ []) n ≡ ends_at places n
ends_at-old places e n below = ap (λ (x : Option Entry). option_map (λ (y : Entry). y.ends) x) (get_or_append_left places (Some e ∷ []) None n below)

ends_at-new : (places : List (Option Entry)) (e : Entry) → ends_at (places ++ Some e ∷ []) (length places) ≡ Some e.ends
ends_at-new places e = ap (λ (x : Option Entry). option_map (λ (y : Entry). y.ends) x) (get_or_at places (Some e) [] None (length places) refl)

IsOfOne-old : (places : List (Option Entry)) (e : Entry) (key : Key) → IsOfOne places key → IsOfOne (places ++ Some e ∷ []) key
IsOfOne-old places e key one = ends_at-old places e key.0.1 (ends_at-below places key.0.1 key.0.0 one) ∙ one

-- ---- an I/O begins

pub AreKept-begin : (places : List (Option Entry)) (e : Entry) (keys after : List Key) → AreKept places keys
    → IsPermutation (key_of e.ends (length places) ∷ keys) after → KeepsHeap key_cmp keys after → AreKept (places ++ Some e ∷ []) after
AreKept-begin places e keys after old moved order =
    let key = key_of e.ends (length places) in
    record {
      ordered = order old.ordered;
      keyed = λ n ends at. Contains-permutation (key ∷ keys) after (key_of ends n) moved (elim (cases_lt n (length places)) [
        | inl below ↦ contains-tail key keys (key_of ends n) (old.keyed n ends (sym (ends_at-old places e n below) ∙ at))
        | inr past ↦
            let below = ends_at-below (places ++ Some e ∷ []) n ends at in
            let size = length-append places (Some e ∷ []) in
            let last : n ≡ length places = omega arith in
            let ends_is : e.ends ≡ ends = same_Some e.ends ends (sym (ends_at-new places e) ∙ ap (ends_at (places ++ Some e ∷ [])) (sym last) ∙ at) in
            let is : key ≡ key_of ends n = ap (λ (x : ℕ). key_of x (length places)) ends_is ∙ ap (key_of ends) (sym last) in
            subst (Contains (key ∷ keys)) is (contains-head key keys)
      ]);
      covered = λ k at. elim (contains-cases key k keys (Contains-permutation after (key ∷ keys) k (IsPermutation-sym (key ∷ keys) after moved) at)) [
        | inl same ↦ subst (IsCovered (places ++ Some e ∷ [])) same (record { by = key; one = ends_at-new places e; first = inr (refl, omega arith) })
        | inr there ↦
            let cover = old.covered k there in
            record { by = cover.by; one = IsOfOne-old places e cover.by cover.one; first = cover.first }
      ];
    }

-- ---- an I/O is over

-- the first key is taken, whose I/O is over
pub HaveKeys-pop : (places : List (Option Entry)) (key : Key) (keys after : List Key) → HaveKeys places keys → IsPermutation keys (key ∷ after)
    → (IsOfOne places key → ⊥) → HaveKeys places after
HaveKeys-pop places key keys after old moved over n ends at =
    elim (contains-cases key (key_of ends n) after (Contains-permutation keys (key ∷ after) (key_of ends n) moved (old n ends at))) [
      | inl same ↦ absurd (over (subst (IsOfOne places) (sym same) at))
      | inr there ↦ there
    ]

-- ---- the first key

NotAfter-from_lt : (x y : Key) → is_lt (key_cmp x y) ≡ false → IsNotAfter x y
NotAfter-from_lt x y e = grind (arith, nat_tests)

pub NotAfter-first : (x y : Key) (keys : List Key) → IsUpperBound key_cmp x keys → Contains keys y → IsNotAfter x y
NotAfter-first x y keys bound at =
    let all = All-from_recursion (λ (k : Key). lt_by_cmp key_cmp x k ≡ false) keys bound in
    NotAfter-from_lt x y (subst (λ (k : Key). lt_by_cmp key_cmp x k ≡ false) at.2 (all at.0 y at.1))

first-one : (places : List (Option Entry)) (x : Key) (keys : List Key) → AreKept places keys → Contains keys x → IsUpperBound key_cmp x keys → IsOfOne places x
first-one places x keys kept at bound =
    let cover = kept.covered x at in
    let by = cover.by in
    let before = cover.first in
    let back = NotAfter-first x by keys bound (kept.keyed by.0.1 by.0.0 cover.one) in
    let ends : by.0.0 ≡ x.0.0 = grind arith in
    let number : by.0.1 ≡ x.0.1 = grind arith in
    ap (ends_at places) (sym number) ∙ cover.one ∙ ap (λ (n : ℕ). Some n) ends

-- ---- the one that is due

pub due_of-none : (event : ℕ) (places : List (Option Entry)) (keys : List Key) → AreKept places keys → length keys ≡ 0
    → option_map io_no (due_of event (listed 0 places)) ≡ None
due_of-none event places keys kept none = go (due_of event (listed 0 places)) (due_of-due event (listed 0 places)) where
  go : (d : Option Io) → IsDueOf event (listed 0 places) d → option_map io_no d ≡ None
  go None due = refl
  go (Some d) due = (let at = kept.keyed d.number d.ends (stands-under_way places d due.0) in absurd (omega (arith, at.1)))

pub due_of-later : (event : ℕ) (places : List (Option Entry)) (x : Key) (keys : List Key) → AreKept places keys → IsUpperBound key_cmp x keys → event < x.0.0
    → option_map io_no (due_of event (listed 0 places)) ≡ None
due_of-later event places x keys kept bound later = go (due_of event (listed 0 places)) (due_of-due event (listed 0 places)) where
  go : (d : Option Io) → IsDueOf event (listed 0 places) d → option_map io_no d ≡ None
  go None due = refl
  go (Some d) due =
      (let first = NotAfter-first x (key_of d.ends d.number) keys bound (kept.keyed d.number d.ends (stands-under_way places d due.0)) in
      let early = due.1 in
      absurd (grind arith))

pub due_of-first : (event : ℕ) (places : List (Option Entry)) (x : Key) (keys : List Key) → AreKept places keys → Contains keys x → IsUpperBound key_cmp x keys
    → x.0.0 ≤ event → option_map io_no (due_of event (listed 0 places)) ≡ Some (record { 0 = x.0.1 })
due_of-first event places x keys kept at bound early =
    go (due_of event (listed 0 places)) (due_of-due event (listed 0 places)) (ends_at-listed 0 x.0.1 x.0.0 places (first-one places x keys kept at bound)) where
      go : (d : Option Io) → IsDueOf event (listed 0 places) d → IsListed 0 x.0.1 x.0.0 places → option_map io_no d ≡ Some (record { 0 = x.0.1 })
      go None due own =
          (let late = due own.io own.member in
          let ends = own.ends_then in
          absurd (omega arith))
      go (Some d) due own =
          (let ends = own.ends_then in
          let number = own.number in
          let own_early : own.io.ends ≤ event = omega arith in
          let before = due.2 own.io own.member own_early in
          let after = NotAfter-first x (key_of d.ends d.number) keys bound (kept.keyed d.number d.ends (stands-under_way places d due.0)) in
          let same : d.number ≡ x.0.1 = grind arith in
          let no : ℕ → Option IoNo = λ n. Some (record { 0 = n }) in
          ap no same)

-- ---- whether any is under way

pub listed-none : (places : List (Option Entry)) (keys : List Key) → AreKept places keys → length keys ≡ 0 → listed 0 places ≡ []
listed-none places keys kept none = go 0 places (λ i ends at. let key = kept.keyed i ends at in omega (arith, key.1)) where
  go : (first : ℕ) (xs : List (Option Entry)) → ((i ends : ℕ) → ends_at xs i ≡ Some ends → ⊥) → listed first xs ≡ []
  go first [] none = refl
  go first (None ∷ xs) none = go (first + 1) xs (λ i ends at. none (suc i) ends at)
  go first (Some e ∷ xs) none = absurd (none 0 e.ends refl)

pub none-listed : (places : List (Option Entry)) (keys : List Key) → AreKept places keys → listed 0 places ≡ [] → length keys ≡ 0
none-listed places [] kept none = refl
none-listed places (x ∷ xs) kept none =
    let cover = kept.covered x (contains-head x xs) in
    let own = ends_at-listed 0 cover.by.0.1 cover.by.0.0 places cover.one in
    absurd (subst (Member own.io) none own.member)

-- an I/O under way is at its place
pub io_at-place : (n : ℕ) (places : List (Option Entry)) → io_at n (listed 0 places) ≡ option_map (io_of n) (entry_at places n)
io_at-place n places =
    let zero_less : 0 + n ≡ n = omega arith in
    ap (λ (k : ℕ). io_at k (listed 0 places)) (sym zero_less) ∙ io_at-listed 0 n places ∙ ap (λ (k : ℕ). option_map (io_of k) (entry_at places n)) zero_less

-- what is under way is at its place
pub record Stands (places : List (Option Entry)) (n : ℕ) : Type 0 where
  pub entry : Entry
  pub at : entry_at places n ≡ Some entry
  pub below : n < length places

pub stands : (places : List (Option Entry)) (n : ℕ) (ios : List Io) → listed 0 places ≡ ios → IsSome (io_at n ios) → Stands places n
stands places n ios is under = go (entry_at places n) refl (subst IsSome (ap (io_at n) (sym is) ∙ io_at-place n places) under) where
  go : (e : Option Entry) → entry_at places n ≡ e → IsSome (option_map (io_of n) e) → Stands places n
  go None at some = cc
  go (Some e) at some = record {
    entry = e;
    at = at;
    below = ends_at-below places n e.ends (ap (λ (x : Option Entry). option_map (λ (y : Entry). y.ends) x) at);
  }

-- ---- what contracts see

abbrev pub ios_view : List (Option Entry) → ℕ → IosView
ios_view places spare = record { io_count = length places; under_way = listed 0 places; spare = spare }

pub ended-view : (places : List (Option Entry)) (n spare : ℕ) → ios_view (set places n None) spare ≡ ended_with (ios_view places spare) n
ended-view places n spare =
    let size = length-set places n None in
    let zero_less : 0 + n ≡ n = omega arith in
    let ios : listed 0 (set places n None) ≡ without n (listed 0 places) =
    sym (without-listed 0 n places) ∙ ap (λ (k : ℕ). without k (listed 0 places)) zero_less in
    λ i. record { io_count = size i; under_way = ios i; spare = spare }

pub begun-view : (places : List (Option Entry)) (e : Entry) (spare : ℕ)
    → ios_view (places ++ Some e ∷ []) (spare - 1) ≡ begun_with (ios_view places spare) e.kind e.ends
begun-view places e spare =
    let size : length (places ++ Some e ∷ []) ≡ length places + 1 = length-append places (Some e ∷ []) in
    let zero_less : 0 + length places ≡ length places = omega arith in
    let ios : listed 0 (places ++ Some e ∷ []) ≡ listed 0 places ++ io_of (length places) e ∷ [] =
    listed-append 0 places e ∙ ap (λ (n : ℕ). listed 0 places ++ io_of n e ∷ []) zero_less in
    λ i. record { io_count = size i; under_way = ios i; spare = spare - 1 }

-- what a pop of a heap with keys did
pub record Popped (old new : List Key) : Type 0 where
  pub key : Key
  pub top : key ≡ slice_index_or old 0 key
  pub moved : IsPermutation old (key ∷ new)
  pub order : PopsGreatest key_cmp old key new

pub popped : (r : Option Key) (old new : List Key) → IsSome r → IfSome r (λ x. x ≡ slice_index_or old 0 x) → IfSome r (λ x. IsPermutation old (x ∷ new))
    → IfSome r (λ x. PopsGreatest key_cmp old x new) → Popped old new
popped None old new some top moved order = cc
popped (Some x) old new some top moved order = record { key = x; top = top; moved = moved; order = order }

-- what holds on `Some` holds where there is one
pub on_some : (r : Option Key) (P : Type 0) → IsSome r → OnSome r P → P
on_some None P some holds = cc
on_some (Some x) P some holds = holds
