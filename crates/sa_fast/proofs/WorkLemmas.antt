-- The work lists keep their names.
use Rattle.std.proofs.Common.{◌≡◌, ◌≢◌, ℕ, ◌+◌, ◌<◌, ◌≤◌, List, [], ◌∷◌, ◌++◌, length, drop, replicate, Option, Some, None, slice_get, slice_set, IfSome, refl, sym, ap, ◌∙◌, subst, inl, inr, arith, length-append}
use Rattle.std.specs.Prelude.{unwrap_or}
use Rattle.std.proofs.lemmas.Bool.{cases_eq}
use Rattle.std.proofs.lemmas.Option.{same_Some}
use Rattle.std.proofs.lemmas.List.{length-set, length-replicate}
use Rattle.sa_links.proofs.Counting.{count_set, count-append, empty_lists}
use Rattle.sa_base.specs.declared.number.ThreadNo.{ThreadNo}
use Rattle.sa_base.specs.declared.limits.TheConstants.{MAX_THREADS}
use Rattle.sa_links.specs.Lists.{Lists, list_at, with_list, count_in, count_in_all, IsFree}
use Rattle.sa_links.proofs.CallerLemmas.{list_same, list_other}
use Rattle.sa_fast.specs.Work.{Work, AreNamed, IsWork, with_name, added}

-- what is first in list m once list l is xs
first_with : (c : Lists) (l : ℕ) (xs : List ℕ) (m t : ℕ) → l < length c.lists → ((u : ℕ) → slice_get xs 0 ≡ Some u → u ≡ l)
    → (m ≢ l → slice_get (list_at c.lists m) 0 ≡ Some t → t ≡ m)
    → slice_get (list_at (with_list c l xs).lists m) 0 ≡ Some t → t ≡ m
first_with c l xs m t inside here there e = elim (cases_eq m l) [
  | inl same ↦ here t (sym (ap (λ ys. slice_get ys 0) (ap (list_at (with_list c l xs).lists) same ∙ list_same c l xs inside)) ∙ e) ∙ sym same
  | inr other ↦ there other (sym (ap (λ ys. slice_get ys 0) (list_other c l m xs other)) ∙ e)
]

pub named-with : (c : Lists) (l : ℕ) (xs : List ℕ) → AreNamed c → l < length c.lists → ((t : ℕ) → slice_get xs 0 ≡ Some t → t ≡ l) → AreNamed (with_list c l xs)
named-with c l xs h inside first = record {
  nodes = h.nodes;
  all = length-set c.lists l xs ∙ h.all;
  first = λ m t e. first_with c l xs m t inside first (λ other. h.first m t) e;
}

-- the first of a list that is put at the end of another
first_append : (xs ys : List ℕ) (l : ℕ) → ((t : ℕ) → slice_get xs 0 ≡ Some t → t ≡ l) → ((t : ℕ) → slice_get ys 0 ≡ Some t → t ≡ l) → (t : ℕ)
    → slice_get (xs ++ ys) 0 ≡ Some t → t ≡ l
first_append [] ys l left right t e = right t e
first_append (x ∷ xs) ys l left right t e = left t e

first_more : (xs ys : List ℕ) (l : ℕ) → 1 ≤ length xs → ((t : ℕ) → slice_get xs 0 ≡ Some t → t ≡ l) → (t : ℕ) → slice_get (xs ++ ys) 0 ≡ Some t → t ≡ l
first_more [] ys l some left t e = absurd (omega arith)
first_more (x ∷ xs) ys l some left t e = left t e

-- a thread that is put into a list
pub named-added : (c : Lists) (w : Option ThreadNo) (t : ThreadNo) → AreNamed c → t.0 < MAX_THREADS → IsWork c.lists w
    → AreNamed (with_list c (unwrap_or w t).0 (list_at c.lists (unwrap_or w t).0 ++ t.0 ∷ []))
named-added c None t h below work =
    named-with c t.0 (list_at c.lists t.0 ++ t.0 ∷ []) h (omega (arith, h.all))
    (first_append (list_at c.lists t.0) (t.0 ∷ []) t.0 (h.first t.0) (λ u e. sym (same_Some _ _ e)))
named-added c (Some l) t h below work =
    named-with c l.0 (list_at c.lists l.0 ++ t.0 ∷ []) h (omega (arith, h.all, work.0)) (first_more (list_at c.lists l.0) (t.0 ∷ []) l.0 work.1 (h.first l.0))

-- a list that is moved to the end of another
named-moved : (c : Lists) (l from : ℕ) → c.nodes ≡ MAX_THREADS → length c.lists ≡ MAX_THREADS → l < MAX_THREADS → from < MAX_THREADS
    → ((m t : ℕ) → m ≢ from → slice_get (list_at c.lists m) 0 ≡ Some t → t ≡ m)
    → ((t : ℕ) → slice_get (list_at c.lists l ++ list_at c.lists from) 0 ≡ Some t → t ≡ l)
    → AreNamed (with_list (with_list c l (list_at c.lists l ++ list_at c.lists from)) from [])
named-moved c l from nodes all inside there others first =
    let one = with_list c l (list_at c.lists l ++ list_at c.lists from) in
    let same : length one.lists ≡ length c.lists = length-set c.lists l (list_at c.lists l ++ list_at c.lists from) in
    record {
      nodes = nodes;
      all = length-set one.lists from [] ∙ same ∙ all;
      first = λ m t e. first_with one from [] m t (omega (arith, same, all)) (λ u e. cc)
          (λ not_from at. first_with c l (list_at c.lists l ++ list_at c.lists from) m t (omega (arith, all)) first (λ other. others m t not_from) at) e;
    }

-- one context's list is moved to the end of that of another
pub named-joined : (c : Lists) (l from : ThreadNo) → AreNamed c → IsWork c.lists (Some l) → IsWork c.lists (Some from)
    → AreNamed (with_list (with_list c l.0 (list_at c.lists l.0 ++ list_at c.lists from.0)) from.0 [])
named-joined c l from h work other =
    named-moved c l.0 from.0 h.nodes h.all work.0 other.0 (λ m t ne. h.first m t)
    (first_more (list_at c.lists l.0) (list_at c.lists from.0) l.0 work.1 (h.first l.0))

-- a list without its first thread
pub named-emptied : (c : Lists) (l : ℕ) → AreNamed c → l < MAX_THREADS → slice_get (list_at (with_list c l (drop 1 (list_at c.lists l))).lists l) 0 ≡ None
    → AreNamed (with_list c l (drop 1 (list_at c.lists l)))
named-emptied c l h inside none =
    let xs = drop 1 (list_at c.lists l) in
    named-with c l xs h (omega (arith, h.all))
    (λ t e. absurd (let none_here = sym (ap (λ ys. slice_get ys 0) (list_same c l xs (omega (arith, h.all)))) ∙ none in cc))

pub named-renamed : (c : Lists) (l next : ℕ) → AreNamed c → l < MAX_THREADS → next < MAX_THREADS → next ≢ l
    → let left = with_list c l (drop 1 (list_at c.lists l)) in slice_get (list_at left.lists l) 0 ≡ Some next
    → AreNamed (with_list (with_list left next (list_at left.lists next ++ list_at left.lists l)) l [])
named-renamed c l next h inside there differ first =
    let xs = drop 1 (list_at c.lists l) in
    let left = with_list c l xs in
    let others : (m t : ℕ) → m ≢ l → slice_get (list_at left.lists m) 0 ≡ Some t → t ≡ m =
    λ m t ne e. h.first m t (sym (ap (λ ys. slice_get ys 0) (list_other c l m xs ne)) ∙ e) in
    named-moved left next l h.nodes (length-set c.lists l xs ∙ h.all) there inside others
    (first_append (list_at left.lists next) (list_at left.lists l) next (λ t e. others next t differ e) (λ t e. sym (same_Some _ _ (sym first ∙ e))))

-- empty lists
pub named-new : (c : Lists) (a b : ℕ) → a ≡ MAX_THREADS → b ≡ MAX_THREADS → c ≡ record { nodes = a; lists = replicate b [] } → AreNamed c
named-new c a b nodes all is =
    let lists : c.lists ≡ replicate MAX_THREADS [] = ap (λ (x : Lists). x.lists) is ∙ ap (λ n. replicate n []) all in
    record {
      nodes = ap (λ (x : Lists). x.nodes) is ∙ nodes;
      all = ap length lists ∙ length-replicate MAX_THREADS (let none : List ℕ = [] in none);
      first =
          λ l t e. absurd (let none : slice_get (list_at c.lists l) 0 ≡ None = ap (λ ls. slice_get (list_at ls l) 0) lists
          ∙ ap (λ ys. slice_get ys 0) (empty_lists MAX_THREADS l) in let some : None ≡ Some t = sym none ∙ e in cc);
    }

-- the same, after the calls that do it
pub named-add : (c after : Lists) (w : Option ThreadNo) (t name : ThreadNo) (a b : ℕ) → AreNamed c → t.0 < MAX_THREADS → IsWork c.lists w
    → name ≡ unwrap_or w t → a ≡ name.0 → b ≡ t.0
    → after ≡ with_list c a (list_at c.lists a ++ b ∷ []) → AreNamed after
named-add c after w t name a b h below work named at put is =
    let l = (unwrap_or w t).0 in
    subst (λ (x : Lists). AreNamed x)
    (sym (is ∙ ap (λ n. with_list c n (list_at c.lists n ++ b ∷ [])) (at ∙ ap (λ (x : ThreadNo). x.0) named)
    ∙ ap (λ y. with_list c l (list_at c.lists l ++ y ∷ [])) put))
    (named-added c w t h below work)

pub named-join : (c after : Lists) (l from : ThreadNo) (a b : ℕ) → AreNamed c → IsWork c.lists (Some l) → IsWork c.lists (Some from) → a ≡ l.0 → b ≡ from.0
    → after ≡ with_list (with_list c a (list_at c.lists a ++ list_at c.lists b)) b [] → AreNamed after
named-join c after l from a b h work other at behind is =
    subst (λ (x : Lists). AreNamed x)
    (sym (is ∙ ap (λ n. with_list (with_list c n (list_at c.lists n ++ list_at c.lists b)) b []) at
    ∙ ap (λ n. with_list (with_list c l.0 (list_at c.lists l.0 ++ list_at c.lists n)) n []) behind))
    (named-joined c l from h work other)

pub named-empties : (c after : Lists) (l : ℕ) → AreNamed c → l < MAX_THREADS → after ≡ with_list c l (drop 1 (list_at c.lists l))
    → slice_get (list_at after.lists l) 0 ≡ None → AreNamed after
named-empties c after l h inside is none =
    subst (λ (x : Lists). AreNamed x) (sym is) (named-emptied c l h inside (sym (ap (λ (x : Lists). slice_get (list_at x.lists l) 0) is) ∙ none))

pub named-renames : (c left after : Lists) (l next : ℕ) → AreNamed c → l < MAX_THREADS → next < MAX_THREADS → next ≢ l
    → left ≡ with_list c l (drop 1 (list_at c.lists l)) → slice_get (list_at left.lists l) 0 ≡ Some next
    → after ≡ with_list (with_list left next (list_at left.lists next ++ list_at left.lists l)) l [] → AreNamed after
named-renames c left after l next h inside there differ is first changed =
    subst (λ (x : Lists). AreNamed x)
    (sym (changed ∙ ap (λ (x : Lists). with_list (with_list x next (list_at x.lists next ++ list_at x.lists l)) l []) is))
    (named-renamed c l next h inside there differ (sym (ap (λ (x : Lists). slice_get (list_at x.lists l) 0) is) ∙ first))

-- what comes after the first of a list, where each number is once, is another
first_of : (xs : List ℕ) → 1 ≤ length xs → (t : ℕ) × (slice_get xs 0 ≡ Some t)
first_of [] h = absurd (omega arith)
first_of (x ∷ xs) h = (x, refl)

differs_by : (c left : Lists) (l next : ℕ) (popped : Option ℕ) → AreNamed c → popped ≡ slice_get (list_at c.lists l) 0 → 1 ≤ length (list_at c.lists l)
    → IfSome popped (λ node. IsFree left node) → 1 ≤ count_in_all next left.lists → next ≢ l
differs_by c left l next None h is some free listed e =
    absurd (let first = first_of (list_at c.lists l) some in let none : None ≡ Some first.0 = is ∙ first.1 in cc)
differs_by c left l next (Some x) h is some free listed e =
    let same : x ≡ next = h.first l x (sym is) ∙ sym e in
    let none : count_in_all next left.lists ≡ 0 = ap (λ y. count_in_all y left.lists) (sym same) ∙ free in
    omega arith

pub differs : (c left : Lists) (l next : ℕ) (popped : Option ℕ) → AreNamed c → popped ≡ slice_get (list_at c.lists l) 0 → 1 ≤ length (list_at c.lists l)
    → IfSome popped (λ node. IsFree left node) → 1 ≤ count_in_all next left.lists → next ≢ l
differs = differs_by

more_than : (xs : List ℕ) (t : ℕ) → 1 ≤ length (xs ++ t ∷ [])
more_than xs t = omega (arith, length-append xs (t ∷ []))

work_there : (c : Lists) (l t : ℕ) → AreNamed c → l < MAX_THREADS
    → (l < MAX_THREADS) × (1 ≤ length (list_at (slice_set c.lists l (list_at c.lists l ++ t ∷ [])) l))
work_there c l t h below =
    (below, subst (λ (xs : List ℕ). 1 ≤ length xs) (sym (list_same c l (list_at c.lists l ++ t ∷ []) (omega (arith, h.all)))) (more_than (list_at c.lists l) t))

added_work : (c : Lists) (w : Option ThreadNo) (t : ThreadNo) → AreNamed c → t.0 < MAX_THREADS → IsWork c.lists w
    → IsWork (added (with_name c.lists w) t).lists (added (with_name c.lists w) t).name
added_work c None t h below work = work_there c t.0 t.0 h below
added_work c (Some l) t h below work = work_there c l.0 t.0 h work.0

count_there : (c : Lists) (l t u : ℕ) → AreNamed c → l < MAX_THREADS
    → count_in_all u (slice_set c.lists l (list_at c.lists l ++ t ∷ [])) ≡ count_in_all u c.lists + count_in u (t ∷ [])
count_there c l t u h below =
    let change = count_set u c.lists l (list_at c.lists l ++ t ∷ []) (omega (arith, h.all)) in
    let more = count-append u (list_at c.lists l) (t ∷ []) in omega arith

pub added_counts : (c : Lists) (w : Option ThreadNo) (t : ThreadNo) → AreNamed c → t.0 < MAX_THREADS → IsWork c.lists w → (u : ℕ)
    → count_in_all u (added (with_name c.lists w) t).lists ≡ count_in_all u c.lists + count_in u (t.0 ∷ [])
added_counts c None t h below work u = count_there c t.0 t.0 u h below
added_counts c (Some l) t h below work u = count_there c l.0 t.0 u h work.0

-- a thread that is put into a list: the list has it, and each number is there as often as before, but for it
pub added_named : (c after : Lists) (w new : Option ThreadNo) (t : ThreadNo) → AreNamed c → t.0 < MAX_THREADS → IsWork c.lists w
    → with_name after.lists new ≡ added (with_name c.lists w) t → IsWork after.lists new
added_named c after w new t h below work is =
    subst (λ (x : Work). IsWork x.lists x.name) (sym is) (added_work c w t h below work)
