-- The effects on work lists move threads, and lose none.
use Rattle.std.proofs.Common.{◌≡◌, ◌≢◌, ℕ, ◌+◌, ◌≤◌, ◌<◌, cond, eqb, List, [], ◌∷◌, ◌++◌, length, drop, Option, Some, None, slice_get, slice_set, refl, sym, ap, ◌∙◌, subst, inl, inr, arith}
use Rattle.std.proofs.lemmas.Bool.{cases_eq, eq-eqb, ne_eqb}
use Rattle.std.proofs.lemmas.Option.{same_Some}
use Rattle.std.proofs.lemmas.List.{get_or-set_same, get_or-set_other, length-set}
use Rattle.std.proofs.lemmas.List.Sums.{sum_by-cons}
use Rattle.sa_base.specs.declared.number.ThreadNo.{ThreadNo}
use Rattle.sa_base.specs.declared.limits.TheConstants.{MAX_THREADS}
use Rattle.sa_lemmas.proofs.ListReads.{empty-first}
use Rattle.sa_links.specs.Lists.{Lists, list_at, count_in, count_in_all}
use Rattle.sa_links.proofs.Counting.{count-append, count_set, count_at, count_two, count_same}
use Rattle.sa_links.proofs.CallerLemmas.{counts_moved}
use Rattle.sa_fast.specs.Work.{Work, with_name, added, added_all, moved, renamed, joined, without_first, IsWork, IsUnlisted, AreApart}
use Rattle.sa_fast.specs.Rest.{one_if, one_of, one_if_empty, empty_at, AreWorks}
use Rattle.sa_fast.proofs.Moves.{WorkStep, JoinStep}
use Rattle.sa_fast.proofs.WorkLemmas.{named-added, named-empties, named-renames, named-join, added_counts, added_named}

-- one number more
pub count_one : (u n : ℕ) (xs : List ℕ) → count_in u (n ∷ xs) ≡ one_if n u + count_in u xs
count_one u n xs = sum_by-cons (λ z. cond (eqb z u) 1 0) n xs

pub one_same : (n u : ℕ) → n ≡ u → one_if n u ≡ 1
one_same n u e = ap (λ b. cond b 1 0) (eq-eqb n u e)

pub one_other : (n u : ℕ) → n ≢ u → one_if n u ≡ 0
one_other n u ne = ap (λ b. cond b 1 0) (ne_eqb n u ne)

abbrev as_lists : List (List ℕ) → Lists
as_lists works = record { nodes = MAX_THREADS; lists = works }

-- a list that is empty or not
empty_append : (xs : List ℕ) (y : ℕ) → one_if_empty (xs ++ y ∷ []) ≡ 0
empty_append [] y = refl
empty_append (x ∷ xs) y = refl

empty_join : (xs ys : List ℕ) → 1 ≤ length xs → one_if_empty (xs ++ ys) ≡ 0
empty_join [] ys h = absurd (omega arith)
empty_join (x ∷ xs) ys h = refl

pub filled : (xs : List ℕ) → 1 ≤ length xs → one_if_empty xs ≡ 0
filled [] h = absurd (omega arith)
filled (x ∷ xs) h = refl

pub not_empty : (xs : List ℕ) → one_if_empty xs ≡ 0 → 1 ≤ length xs
not_empty [] h = absurd cc
not_empty (x ∷ xs) h = omega arith

starts : (xs : List ℕ) (n : ℕ) → ((y : ℕ) → slice_get xs 0 ≡ Some y → y ≡ n) → count_in n xs ≡ 0 → xs ≡ []
starts [] n first none = refl
starts (x ∷ xs) n first none = absurd (let one = count_same n x xs (first x refl) in omega arith)

begins : (xs : List ℕ) (n : ℕ) → ((y : ℕ) → slice_get xs 0 ≡ Some y → y ≡ n) → 1 ≤ length xs → xs ≡ n ∷ drop 1 xs
begins [] n first some = absurd (omega arith)
begins (x ∷ xs) n first some = ap (λ y. y ∷ xs) (first x refl)

some_first : (xs : List ℕ) (n : ℕ) → slice_get xs 0 ≡ Some n → (1 ≤ length xs) × (1 ≤ count_in n xs)
some_first [] n e = absurd cc
some_first (x ∷ xs) n e = let one = count_same n x xs (same_Some _ _ e) in (omega arith, omega arith)

-- a list that lacks the thread of its number is empty
pub lacks : (works : List (List ℕ)) (t : ℕ) → AreWorks works → IsUnlisted works t → list_at works t ≡ []
lacks works t h unlisted = starts (list_at works t) t (λ y e. h.named.first t y e) (let at = count_at t works t in omega arith)

-- nothing changes
pub still-step : (w : Work) → AreWorks w.lists → WorkStep w w (λ u. 0) (λ u. 0)
still-step w h = record { works = h; threads = λ t. refl; names = λ l. refl; others = λ l apart some. refl }

-- one change after another
pub then-step : (a b c : Work) (lost gained more_lost more : ℕ → ℕ) → WorkStep a b lost gained → WorkStep b c more_lost more
    → WorkStep a c (λ u. lost u + more_lost u) (λ u. gained u + more u)
then-step a b c lost gained more_lost more first second = record {
  works = second.works;
  threads = λ t. omega (arith, first.threads t, second.threads t);
  names = λ l. second.names l ∙ first.names l;
  others = λ l apart some.
      let there : empty_at b.lists l ≡ 0 = omega (arith, first.names l) in
      let alone : one_of b.name l ≡ 0 = omega (arith, first.names l) in
      second.others l alone there ∙ first.others l apart some;
}

-- a list is another one
module _ (works : List (List ℕ)) (n : ℕ) (xs : List ℕ) (inside : n < length works) where
  here : list_at (slice_set works n xs) n ≡ xs
  here = get_or-set_same works n xs [] inside

  there : (l : ℕ) → l ≢ n → list_at (slice_set works n xs) l ≡ list_at works l
  there l ne = get_or-set_other works n l xs [] ne

-- a thread is put after the others
module _ (works : List (List ℕ)) (w : Option ThreadNo) (t : ThreadNo) (h : AreWorks works) (work : IsWork works w) (below : t.0 < MAX_THREADS)
    (unlisted : IsUnlisted works t.0) where
  counts : (u : ℕ) → count_in_all u (added (with_name works w) t).lists ≡ count_in_all u works + one_if t.0 u
  counts u = let more = added_counts (as_lists works) w t h.named below work u in let one = count_one u t.0 [] in omega arith

  works_added : AreWorks (added (with_name works w) t).lists
  works_added = record {
    named = named-added (as_lists works) w t h.named below work;
    below = λ u some. elim (cases_eq t.0 u) [
      | inl e ↦ subst (λ x. x < MAX_THREADS) e below
      | inr ne ↦ h.below u (omega (arith, counts u, one_other t.0 u ne))
    ];
    once = λ u. elim (cases_eq t.0 u) [
      | inl e ↦ let none : count_in_all u works ≡ 0 = subst (λ x. count_in_all x works ≡ 0) e unlisted in omega (arith, counts u, one_same t.0 u e)
      | inr ne ↦ omega (arith, counts u, one_other t.0 u ne, h.once u)
    ];
  }

pub added-step : (works : List (List ℕ)) (w : Option ThreadNo) (t : ThreadNo) → AreWorks works → IsWork works w → t.0 < MAX_THREADS → IsUnlisted works t.0
    → WorkStep (with_name works w) (added (with_name works w) t) (λ u. 0) (one_of (Some t))
added-step works None t h work below unlisted =
    let xs = list_at works t.0 ++ t.0 ∷ [] in
    let inside : t.0 < length works = omega (arith, h.named.all) in
    let none = lacks works t.0 h unlisted in
    let none_here : empty_at works t.0 ≡ 1 = ap one_if_empty none in
    let some_here : empty_at (slice_set works t.0 xs) t.0 ≡ 0 = ap one_if_empty (here works t.0 xs inside) ∙ empty_append (list_at works t.0) t.0 in
    record {
      works = works_added works None t h work below unlisted;
      threads = λ u.
          let new : count_in u (list_at (slice_set works t.0 xs) t.0) ≡ count_in u xs = ap (count_in u) (here works t.0 xs inside) in
          let old : count_in u (list_at works t.0) ≡ count_in u [] = ap (count_in u) none in
          let nil : count_in u [] ≡ 0 = refl in
          omega (arith, new, old, nil, count-append u (list_at works t.0) (t.0 ∷ []), count_one u t.0 []);
      names = λ l. elim (cases_eq l t.0) [
        | inl e ↦ subst (λ x. empty_at (slice_set works t.0 xs) x + one_if t.0 x ≡ empty_at works x + 0) (sym e)
            (omega (arith, none_here, some_here, one_same t.0 t.0 refl))
        | inr ne ↦ let same : empty_at (slice_set works t.0 xs) l ≡ empty_at works l = ap one_if_empty (there works t.0 xs inside l ne) in
            omega (arith, same, one_other t.0 l (λ e. ne (sym e)))
      ];
      others = λ l apart some. there works t.0 xs inside l (λ e. let one : empty_at works l ≡ 1 = ap (empty_at works) e ∙ none_here in absurd (omega arith));
    }
added-step works (Some n) t h work below unlisted =
    let xs = list_at works n.0 ++ t.0 ∷ [] in
    let inside : n.0 < length works = omega (arith, h.named.all, work.0) in
    let full : empty_at works n.0 ≡ 0 = filled (list_at works n.0) work.1 in
    let some_here : empty_at (slice_set works n.0 xs) n.0 ≡ 0 = ap one_if_empty (here works n.0 xs inside) ∙ empty_append (list_at works n.0) t.0 in
    record {
      works = works_added works (Some n) t h work below unlisted;
      threads = λ u.
          let new : count_in u (list_at (slice_set works n.0 xs) n.0) ≡ count_in u xs = ap (count_in u) (here works n.0 xs inside) in
          let nil : count_in u [] ≡ 0 = refl in
          omega (arith, new, nil, count-append u (list_at works n.0) (t.0 ∷ []), count_one u t.0 []);
      names = λ l. elim (cases_eq l n.0) [
        | inl e ↦ let a : empty_at (slice_set works n.0 xs) l ≡ 0 = ap (empty_at (slice_set works n.0 xs)) e ∙ some_here in
            let b : empty_at works l ≡ 0 = ap (empty_at works) e ∙ full in omega arith
        | inr ne ↦ let same : empty_at (slice_set works n.0 xs) l ≡ empty_at works l = ap one_if_empty (there works n.0 xs inside l ne) in omega arith
      ];
      others = λ l apart some. there works n.0 xs inside l (λ e. let one = one_same n.0 l (sym e) in absurd (omega arith));
    }

pub added-work : (works : List (List ℕ)) (w : Option ThreadNo) (t : ThreadNo) → AreWorks works → IsWork works w → t.0 < MAX_THREADS
    → IsWork (added (with_name works w) t).lists (added (with_name works w) t).name
added-work works w t h work below =
    let new = added (with_name works w) t in added_named (as_lists works) (as_lists new.lists) w new.name t h.named below work refl

pub added_all-step : (works : List (List ℕ)) (w : Option ThreadNo) (ts : List ℕ) → AreWorks works → IsWork works w
    → ((u : ℕ) → 1 ≤ count_in u ts → u < MAX_THREADS) → ((u : ℕ) → count_in u ts + count_in_all u works ≤ 1)
    → WorkStep (with_name works w) (added_all (with_name works w) ts) (λ u. 0) (λ u. count_in u ts)
added_all-step works w [] h work below once = record { works = h; threads = λ t. refl; names = λ l. refl; others = λ l apart some. refl }
added_all-step works w (t ∷ ts) h work below once =
    let n : ThreadNo = record { 0 = t } in
    let mid = added (with_name works w) n in
    let inside : t < MAX_THREADS = below t (let one = count_one t t ts in let same = one_same t t refl in omega arith) in
    let unlisted : count_in_all t works ≡ 0 = let one = count_one t t ts in let same = one_same t t refl in let o = once t in omega arith in
    let first = added-step works w n h work inside unlisted in
    let rest = added_all-step mid.lists mid.name ts first.works (added-work works w n h work inside)
    (λ u some. below u (let one = count_one u t ts in omega arith))
    (λ u. let one = count_one u t ts in let more = counts works w n h work inside unlisted u in let o = once u in omega arith) in
    let both = then-step (with_name works w) mid (added_all mid ts) (λ u. 0) (one_of (Some n)) (λ u. 0) (λ u. count_in u ts) first rest in
    record {
      works = both.works;
      threads = λ u. omega (arith, both.threads u, count_one u t ts);
      names = both.names;
      others = both.others;
    }

-- the first thread is taken out
module _ (works : List (List ℕ)) (t : ThreadNo) (h : AreWorks works) (work : IsWork works (Some t)) where
  abbrev q : List ℕ
  q = list_at works t.0

  abbrev ys : List ℕ
  ys = drop 1 (list_at works t.0)

  abbrev left : List (List ℕ)
  left = slice_set works t.0 (drop 1 (list_at works t.0))

  inside_t : t.0 < length works
  inside_t = omega (arith, h.named.all, work.0)

  queue : q ≡ t.0 ∷ ys
  queue = begins (list_at works t.0) t.0 (λ y e. h.named.first t.0 y e) work.1

  full_t : empty_at works t.0 ≡ 0
  full_t = filled (list_at works t.0) work.1

  count_q : (u : ℕ) → count_in u q ≡ one_if t.0 u + count_in u ys
  count_q u = ap (count_in u) queue ∙ count_one u t.0 ys

  count_left : (u : ℕ) → count_in_all u left + one_if t.0 u ≡ count_in_all u works
  count_left u = omega (arith, count_set u works t.0 ys inside_t, count_q u)

  left_t : list_at left t.0 ≡ ys
  left_t = here works t.0 ys inside_t

  without_none : slice_get (list_at left t.0) 0 ≡ None → WorkStep (with_name works (Some t)) (with_name left None) (one_of (Some t)) (λ u. 0)
  without_none e =
      let nothing : ys ≡ [] = empty-first ys (ap (λ xs. slice_get xs 0) (sym left_t) ∙ e) in
      let empty_t : empty_at left t.0 ≡ 1 = ap one_if_empty (left_t ∙ nothing) in
      record {
        works = record {
          named = named-empties (as_lists works) (as_lists left) t.0 h.named work.0 refl e;
          below = λ u some. h.below u (omega (arith, count_left u));
          once = λ u. omega (arith, count_left u, h.once u);
        };
        threads = λ u. let z : count_in u ys ≡ count_in u [] = ap (count_in u) nothing in let nil : count_in u [] ≡ 0 = refl in
            omega (arith, z, nil, count_q u);
        names = λ l. elim (cases_eq l t.0) [
          | inl same ↦ subst (λ x. empty_at left x + 0 ≡ empty_at works x + one_if t.0 x) (sym same) (omega (arith, empty_t, full_t, one_same t.0 t.0 refl))
          | inr ne ↦ let kept : empty_at left l ≡ empty_at works l = ap one_if_empty (there works t.0 ys inside_t l ne) in
              omega (arith, kept, one_other t.0 l (λ e. ne (sym e)))
        ];
        others = λ l apart some. there works t.0 ys inside_t l (λ e. let one = one_same t.0 l (sym e) in absurd (omega arith));
      }

  module _ (n : ℕ) (e : slice_get (list_at left t.0) 0 ≡ Some n) where
    ys_n : (1 ≤ length ys) × (1 ≤ count_in n ys)
    ys_n = some_first ys n (ap (λ xs. slice_get xs 0) (sym left_t) ∙ e)

    differ : n ≢ t.0
    differ same =
        let one = one_same t.0 n (sym same) in
        let at = count_at n works t.0 in
        absurd (omega (arith, count_q n, h.once n, ys_n.1))

    below_n : n < MAX_THREADS
    below_n = let at = count_at n works t.0 in h.below n (omega (arith, count_q n, ys_n.1))

    empty_n : list_at works n ≡ []
    empty_n = starts (list_at works n) n (λ y f. h.named.first n y f)
        (let two = count_two n works t.0 n (λ f. differ (sym f)) inside_t in omega (arith, count_q n, ys_n.1, h.once n))

    left_n : list_at left n ≡ []
    left_n = there works t.0 ys inside_t n differ ∙ empty_n

    abbrev both : List ℕ
    both = list_at left n ++ list_at left t.0

    abbrev mid : List (List ℕ)
    mid = slice_set left n both

    both_is : both ≡ ys
    both_is = ap (λ xs. xs ++ list_at left t.0) left_n ∙ left_t

    length_left : length left ≡ MAX_THREADS
    length_left = length-set works t.0 ys ∙ h.named.all

    inside_n : n < length left
    inside_n = omega (arith, length_left, below_n)

    inside_mid : t.0 < length mid
    inside_mid = omega (arith, length-set left n both, length_left, work.0)

    new_n : list_at (moved left n t.0) n ≡ ys
    new_n = there mid t.0 [] inside_mid n differ ∙ here left n both inside_n ∙ both_is

    new_t : list_at (moved left n t.0) t.0 ≡ []
    new_t = here mid t.0 [] inside_mid

    new_other : (l : ℕ) → l ≢ t.0 → l ≢ n → list_at (moved left n t.0) l ≡ list_at works l
    new_other l nt nn = there mid t.0 [] inside_mid l nt ∙ there left n both inside_n l nn ∙ there works t.0 ys inside_t l nt

    same_counts : (u : ℕ) → count_in_all u (moved left n t.0) ≡ count_in_all u left
    same_counts u = counts_moved (as_lists left) n t.0 differ inside_n (omega (arith, length_left, work.0)) u

    without_some : WorkStep (with_name works (Some t)) (with_name (moved left n t.0) (Some (record { 0 = n }))) (one_of (Some t)) (λ u. 0)
    without_some =
        let gone : empty_at (moved left n t.0) t.0 ≡ 1 = ap one_if_empty new_t in
        let come : empty_at (moved left n t.0) n ≡ 0 = ap one_if_empty new_n ∙ filled ys ys_n.0 in
        let was : empty_at works n ≡ 1 = ap one_if_empty empty_n in
        record {
          works = record {
            named = named-renames (as_lists works) (as_lists left) (as_lists (moved left n t.0)) t.0 n h.named work.0 below_n differ refl e refl;
            below = λ u some. h.below u (omega (arith, count_left u, same_counts u));
            once = λ u. omega (arith, count_left u, same_counts u, h.once u);
          };
          threads = λ u. let new : count_in u (list_at (moved left n t.0) n) ≡ count_in u ys = ap (count_in u) new_n in omega (arith, new, count_q u);
          names = λ l. elim (cases_eq l t.0) [
            | inl same ↦ subst (λ x. empty_at (moved left n t.0) x + one_if n x ≡ empty_at works x + one_if t.0 x) (sym same)
                (omega (arith, gone, full_t, one_same t.0 t.0 refl, one_other n t.0 differ))
            | inr nt ↦ elim (cases_eq l n) [
              | inl same ↦ subst (λ x. empty_at (moved left n t.0) x + one_if n x ≡ empty_at works x + one_if t.0 x) (sym same)
                  (omega (arith, come, was, one_same n n refl, one_other t.0 n (λ f. differ (sym f))))
              | inr nn ↦
                  let kept : empty_at (moved left n t.0) l ≡ empty_at works l = ap one_if_empty (new_other l nt nn) in
                  omega (arith, kept, one_other t.0 l (λ f. nt (sym f)), one_other n l (λ f. nn (sym f)))
            ]
          ];
          others = λ l apart some. new_other l
              (λ f. let one = one_same t.0 l (sym f) in absurd (omega arith))
              (λ f. let one : empty_at works l ≡ 1 = ap (empty_at works) f ∙ was in absurd (omega arith));
        }

  without_by : (next : Option ℕ) → slice_get (list_at left t.0) 0 ≡ next
      → WorkStep (with_name works (Some t)) (renamed left t.0 next) (one_of (Some t)) (λ u. 0)
  without_by None e = without_none e
  without_by (Some n) e = without_some n e

pub without_first-step : (works : List (List ℕ)) (t : ThreadNo) → AreWorks works → IsWork works (Some t)
    → WorkStep (with_name works (Some t)) (without_first works t) (one_of (Some t)) (λ u. 0)
without_first-step works t h work = without_by works t h work (slice_get (list_at (slice_set works t.0 (drop 1 (list_at works t.0))) t.0) 0) refl

-- two contexts' lists become one
module _ (works : List (List ℕ)) (l from : ThreadNo) (h : AreWorks works) (work : IsWork works (Some l)) (other : IsWork works (Some from))
    (apart : l.0 ≢ from.0) where
  abbrev all_of : List ℕ
  all_of = list_at works l.0 ++ list_at works from.0

  abbrev one : List (List ℕ)
  one = slice_set works l.0 all_of

  inside_l : l.0 < length works
  inside_l = omega (arith, h.named.all, work.0)

  inside_from : from.0 < length one
  inside_from = omega (arith, length-set works l.0 all_of, h.named.all, other.0)

  at_l : list_at (moved works l.0 from.0) l.0 ≡ all_of
  at_l = there one from.0 [] inside_from l.0 apart ∙ here works l.0 all_of inside_l

  at_from : list_at (moved works l.0 from.0) from.0 ≡ []
  at_from = here one from.0 [] inside_from

  at_other : (x : ℕ) → x ≢ l.0 → x ≢ from.0 → list_at (moved works l.0 from.0) x ≡ list_at works x
  at_other x nl nf = there one from.0 [] inside_from x nf ∙ there works l.0 all_of inside_l x nl

  counts_joined : (u : ℕ) → count_in_all u (moved works l.0 from.0) ≡ count_in_all u works
  counts_joined u = counts_moved (as_lists works) l.0 from.0 apart inside_l (omega (arith, h.named.all, other.0)) u

  joined_two : JoinStep works (Some l) (Some from) (with_name (moved works l.0 from.0) (Some l))
  joined_two =
      let full : empty_at (moved works l.0 from.0) l.0 ≡ 0 = ap one_if_empty at_l ∙ empty_join (list_at works l.0) (list_at works from.0) work.1 in
      let full_l : empty_at works l.0 ≡ 0 = filled (list_at works l.0) work.1 in
      let full_from : empty_at works from.0 ≡ 0 = filled (list_at works from.0) other.1 in
      let gone : empty_at (moved works l.0 from.0) from.0 ≡ 1 = ap one_if_empty at_from in
      record {
        works = record {
          named = named-join (as_lists works) (as_lists (moved works l.0 from.0)) l from l.0 from.0 h.named work other refl refl refl;
          below = λ u some. h.below u (omega (arith, counts_joined u));
          once = λ u. omega (arith, counts_joined u, h.once u);
        };
        threads = λ u. ap (count_in u) at_l ∙ count-append u (list_at works l.0) (list_at works from.0);
        names = λ x. elim (cases_eq x l.0) [
          | inl same ↦ subst (λ y. empty_at (moved works l.0 from.0) y + one_if l.0 y ≡ empty_at works y + one_if l.0 y + one_if from.0 y) (sym same)
              (omega (arith, full, full_l, one_other from.0 l.0 (λ f. apart (sym f))))
          | inr nl ↦ elim (cases_eq x from.0) [
            | inl same ↦ subst (λ y. empty_at (moved works l.0 from.0) y + one_if l.0 y ≡ empty_at works y + one_if l.0 y + one_if from.0 y) (sym same)
                (omega (arith, gone, full_from, one_same from.0 from.0 refl, one_other l.0 from.0 apart))
            | inr nf ↦
                let kept : empty_at (moved works l.0 from.0) x ≡ empty_at works x = ap one_if_empty (at_other x nl nf) in
                omega (arith, kept, one_other from.0 x (λ f. nf (sym f)))
          ]
        ];
        counts = counts_joined;
        others =
            λ x a b. at_other x (λ f. let y = one_same l.0 x (sym f) in absurd (omega arith)) (λ f. let y = one_same from.0 x (sym f) in absurd (omega arith));
      }

pub joined-step : (works : List (List ℕ)) (w v : Option ThreadNo) → AreWorks works → IsWork works w → IsWork works v → AreApart w v
    → JoinStep works w v (joined works w v)
joined-step works w None h work other apart = record {
  works = h;
  threads = λ u. let nil : count_in u [] ≡ 0 = refl in omega (arith, nil);
  names = λ x. omega arith;
  counts = λ u. refl;
  others = λ x a b. refl;
}
joined-step works None (Some from) h work other apart = record {
  works = h;
  threads = λ u. let nil : count_in u [] ≡ 0 = refl in omega (arith, nil);
  names = λ x. omega arith;
  counts = λ u. refl;
  others = λ x a b. refl;
}
joined-step works (Some l) (Some from) h work other apart = joined_two works l from h work other apart
