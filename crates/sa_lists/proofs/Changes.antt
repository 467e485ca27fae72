-- What the changes of ready lists keep, and what they change, for proofs of callers.
use Rattle.std.proofs.Common.{◌≡◌, ◌≢◌, ℕ, zero, suc, ◌+◌, ◌-◌, ◌<◌, ◌≤◌, nat_lt, Bool, true, false, cond, eqb, if◌then◌else◌, List, [], ◌∷◌, length, take, drop, replicate, Some, None, slice_get, slice_index, slice_set, refl, sym, ap, ◌∙◌, subst, inl, inr, arith}
use Rattle.std.proofs.lemmas.Bool.{cases_eq, cases_lt, lt-ltb, le-ltb, eq-eqb, ne_eqb}
use Rattle.std.proofs.lemmas.Option.{same_Some}
use Rattle.std.proofs.lemmas.List.Sums.{sum_by-take-drop}
use Rattle.std.proofs.lemmas.List.{get_or-set_other, get_or-set_same, length-replicate, length-set}
use Rattle.sa_links.specs.Lists.{count_in, count_in_all, IsIn}
use Rattle.sa_links.proofs.Counting.{count_set, count_same, count_other, count-cons, count-replicate, count_at, count_two}
use Rattle.sa_base.specs.declared.limits.TheConstants.{MAX_PROCESSORS, MAX_THREADS}
use Rattle.sa_lists.specs.declared.ranks.Ranks.{Ranks}
use Rattle.sa_lists.specs.ReadyView.{ReadyView, no_threads, list_of, is_locked, IsUnlisted, with_list, with_lock, pushed, newest, without_newest, oldest, without_oldest, with_made, next_made, inserted, with_rank, home, AreListsFor, IsReady}

-- list l and the others, once list l is xs
pub list_of-with_list_same : (r : ReadyView) (l : ℕ) (xs : List ℕ) → l < length r.lists → list_of (with_list r l xs) l ≡ xs
list_of-with_list_same r l xs h = get_or-set_same r.lists l xs [] h

pub list_of-with_list_other : (r : ReadyView) (l m : ℕ) (xs : List ℕ) → m ≢ l → list_of (with_list r l xs) m ≡ list_of r m
list_of-with_list_other r l m xs ne = get_or-set_other r.lists l m xs [] ne

-- the lock of list l and the others, once that of l is held or not
pub is_locked-with_lock_same : (r : ReadyView) (l : ℕ) (held : Bool) → l < length r.locked → is_locked (with_lock r l held) l ≡ held
is_locked-with_lock_same r l held h = get_or-set_same r.locked l held false h

pub is_locked-with_lock_other : (r : ReadyView) (l m : ℕ) (held : Bool) → m ≢ l → is_locked (with_lock r l held) m ≡ is_locked r m
is_locked-with_lock_other r l m held ne = get_or-set_other r.locked l m held false ne

-- how often a thread is in all lists, once list l is xs
pub count-with_list : (r : ReadyView) (l t : ℕ) (xs : List ℕ) → l < length r.lists
    → count_in_all t (with_list r l xs).lists + count_in t (list_of r l) ≡ count_in_all t r.lists + count_in t xs
count-with_list r l t xs h = count_set t r.lists l xs h

-- a list with fewer numbers than before keeps what holds of ready lists
pub ready-fewer : (r : ReadyView) (l : ℕ) (xs : List ℕ) → IsReady r → l < length r.lists → ((t : ℕ) → count_in t xs ≤ count_in t (list_of r l))
    → IsReady (with_list r l xs)
ready-fewer r l xs h inside fewer =
    let same = length-set r.lists l xs in
    record {
      locks = h.locks ∙ sym same;
      processors = omega (arith, h.processors, same);
      made = h.made;
      threads = h.threads;
      below = λ t listed. let s = count-with_list r l t xs inside in let f = fewer t in h.below t (omega arith);
      once = λ t. let s = count-with_list r l t xs inside in let f = fewer t in let o = h.once t in omega arith;
    }

-- a thread that is put into a list is in it once more, and in front of it where all ranks are one
pub count-inserted : (ranks : List ℕ) (t u : ℕ) (xs : List ℕ) → count_in u (inserted ranks t xs) ≡ count_in u (t ∷ xs)
count-inserted ranks t u [] = refl
count-inserted ranks t u (x ∷ xs) =
    elim (nat_lt (slice_index ranks t) (slice_index ranks x)) as (λ b. count_in u (cond b (x ∷ inserted ranks t xs) (t ∷ x ∷ xs)) ≡ count_in u (t ∷ x ∷ xs)) [
      | true ↦
          let rest = count-inserted ranks t u xs in
          omega (arith, rest, count-cons u x (inserted ranks t xs), count-cons u t (x ∷ xs), count-cons u x xs, count-cons u t xs)
      | false ↦ refl
    ]

pub length-inserted : (ranks : List ℕ) (t : ℕ) (xs : List ℕ) → length (inserted ranks t xs) ≡ length xs + 1
length-inserted ranks t [] = refl
length-inserted ranks t (x ∷ xs) =
    elim (nat_lt (slice_index ranks t) (slice_index ranks x)) as (λ b. length (cond b (x ∷ inserted ranks t xs) (t ∷ x ∷ xs)) ≡ length (x ∷ xs) + 1) [
      | true ↦ let rest = length-inserted ranks t xs in omega arith
      | false ↦ omega arith
    ]

-- where there is one rank a thread comes in front, and no thread gets a rank of its own
pub inserted_front : (t : ℕ) (xs : List ℕ) → inserted [] t xs ≡ t ∷ xs
inserted_front t [] = refl
inserted_front t (x ∷ xs) = refl

pub no_rank : (r : ReadyView) (t rank : ℕ) → r.ranks ≡ [] → with_rank r t rank ≡ []
no_rank r t rank none =
    elim (eqb (count_in_all t r.lists) 0) as (λ b. cond b (slice_set r.ranks t rank) r.ranks ≡ []) [
      | true ↦ ap (λ rs. slice_set rs t rank) none
      | false ↦ none
    ]

-- the list that counts as a processor's own is one of them
pub home-inside : (r : ReadyView) (processors p : ℕ) → AreListsFor processors (length r.lists) → p < processors → home r p < length r.lists
home-inside r processors p are inside = elim are [
  | inr one ↦ let zero : home r p ≡ 0 = ap (λ b. cond b 0 p) (eq-eqb (length r.lists) 1 one) in omega arith
  | inl each ↦ elim (cases_eq (length r.lists) 1) [
    | inl one ↦ let zero : home r p ≡ 0 = ap (λ b. cond b 0 p) (eq-eqb (length r.lists) 1 one) in omega arith
    | inr more ↦ let own : home r p ≡ p = ap (λ b. cond b 0 p) (ne_eqb (length r.lists) 1 more) in omega arith
  ]
]

-- so does a push
pub ready-pushed : (r : ReadyView) (l t : ℕ) → IsReady r → l < length r.lists → t < r.threads → IsUnlisted r t → IsReady (pushed r l t)
ready-pushed r l t h inside possible unlisted =
    let xs = list_of r l in
    let new = inserted r.ranks t xs in
    let same = length-set r.lists l new in
    record {
      locks = h.locks ∙ sym same;
      processors = omega (arith, h.processors, same);
      made = h.made;
      threads = h.threads;
      below = λ x listed. elim (cases_eq x t) [
        | inl e ↦ omega arith
        | inr ne ↦ let s = count-with_list r l x new inside in let c = count-inserted r.ranks t x xs in let o = count_other x t xs (λ e. ne (sym e)) in
            h.below x (omega arith)
      ];
      once = λ x. elim (cases_eq x t) [
        | inl e ↦
            let s = count-with_list r l t new inside in let c = count-inserted r.ranks t t xs in let o = count_same t t xs refl in
            let a = count_at t r.lists l in
            subst (λ z. count_in_all z (pushed r l t).lists ≤ 1) (sym e) (omega (arith, unlisted))
        | inr ne ↦ let s = count-with_list r l x new inside in let c = count-inserted r.ranks t x xs in let o = count_other x t xs (λ e. ne (sym e)) in
            let b = h.once x in omega arith
      ];
    }

-- the parts of a list have its numbers
count-take_drop : (t k : ℕ) (xs : List ℕ) → count_in t (take k xs) + count_in t (drop k xs) ≡ count_in t xs
count-take_drop t k xs = sum_by-take-drop (λ z. cond (eqb z t) 1 0) xs k

-- so do the pops
pub ready-without_newest : (r : ReadyView) (l : ℕ) → IsReady r → l < length r.lists → IsReady (without_newest r l)
ready-without_newest r l h inside = ready-fewer r l (drop 1 (list_of r l)) h inside (λ t. let c = count-take_drop t 1 (list_of r l) in omega arith)

pub ready-without_oldest : (r : ReadyView) (l : ℕ) → IsReady r → l < length r.lists → IsReady (without_oldest r l)
ready-without_oldest r l h inside =
    ready-fewer r l (take (length (list_of r l) - 1) (list_of r l)) h inside (λ t. let c = count-take_drop t (length (list_of r l) - 1) (list_of r l) in
    omega arith)

-- so do the locks and the making
pub ready-with_lock : (r : ReadyView) (l : ℕ) (held : Bool) → IsReady r → IsReady (with_lock r l held)
ready-with_lock r l held h =
    record { locks = length-set r.locked l held ∙ h.locks; processors = h.processors; made = h.made; threads = h.threads; below = h.below; once = h.once }

-- a number is in a list once more than before one of its places, or after its first
count-take_before : (t k : ℕ) (xs : List ℕ) → slice_get xs k ≡ Some t → count_in t (take k xs) + 1 ≤ count_in t xs
count-take_before t k [] e = absurd cc
count-take_before t zero (x ∷ xs) e = let c = count_same t x xs (same_Some x t e) in omega arith
count-take_before t (suc k) (x ∷ xs) e =
    let rest = count-take_before t k xs e in
    elim (cases_eq x t) [
      | inl here ↦ let c = count_same t x xs here in let d = count_same t x (take k xs) here in omega arith
      | inr ne ↦ let c = count_other t x xs ne in let d = count_other t x (take k xs) ne in omega arith
    ]

count-drop_behind : (t : ℕ) (xs : List ℕ) → slice_get xs 0 ≡ Some t → count_in t (drop 1 xs) + 1 ≤ count_in t xs
count-drop_behind t [] e = absurd cc
count-drop_behind t (x ∷ xs) e = let c = count_same t x xs (same_Some x t e) in omega arith

-- the thread that was taken out is in no list
pub newest-unlisted : (r : ReadyView) (l t : ℕ) → IsReady r → l < length r.lists → newest r l ≡ Some t → IsUnlisted (without_newest r l) t
newest-unlisted r l t h inside e =
    let c = count-drop_behind t (list_of r l) e in let s = count-with_list r l t (drop 1 (list_of r l)) inside in let o = h.once t in
    let a = count_at t r.lists l in omega arith

pub oldest-unlisted : (r : ReadyView) (l t : ℕ) → IsReady r → l < length r.lists → oldest r l ≡ Some t → IsUnlisted (without_oldest r l) t
oldest-unlisted r l t h inside e =
    let c = count-take_before t (length (list_of r l) - 1) (list_of r l) e in let s =
    count-with_list r l t (take (length (list_of r l) - 1) (list_of r l)) inside in let o = h.once t in let a = count_at t r.lists l in omega arith

-- the making of a thread keeps what holds too
pub ready-with_made : (r : ReadyView) (rank : ℕ) → IsReady r → IsReady (with_made r rank (next_made r))
ready-with_made r rank h = elim (cases_lt r.made r.threads) [
  | inl more ↦ subst (λ (b : Bool). IsReady (with_made r rank (if b then Some r.made else None))) (sym (lt-ltb r.made r.threads more))
      (record { locks = h.locks; processors = h.processors; made = omega arith; threads = h.threads; below = h.below; once = h.once })
  | inr full ↦ subst (λ (b : Bool). IsReady (with_made r rank (if b then Some r.made else None))) (sym (le-ltb r.made r.threads full)) h
]

-- new lists
pub ready-no_threads : (count : ℕ) (ranks : Ranks) (threads : ℕ) → count ≤ MAX_PROCESSORS → threads ≤ MAX_THREADS → IsReady (no_threads count ranks threads)
ready-no_threads count ranks threads few most =
    let locks : length (replicate count false) ≡ count = length-replicate count false in
    let lists : length (replicate count (let none : List ℕ = [] in none)) ≡ count = length-replicate count [] in
    record {
      locks = locks ∙ sym lists;
      processors = omega arith;
      made = omega arith;
      threads = most;
      below = λ t listed. let c = count-replicate t count in absurd (omega arith);
      once = λ t. let c = count-replicate t count in omega arith;
    }

-- a thread is in one list
pub listed-once : (r : ReadyView) (l m t : ℕ) → IsReady r → l < length r.lists → IsIn t (list_of r l) → IsIn t (list_of r m) → l ≡ m
listed-once r l m t h inside here there = elim (cases_eq l m) [
  | inl same ↦ same
  | inr ne ↦ let two = count_two t r.lists l m ne inside in let o = h.once t in absurd (omega arith)
]
