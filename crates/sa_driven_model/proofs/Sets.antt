-- Sets of threads that change by one thread, or by some.
use Rattle.std.proofs.Common.{◌≡◌, ◌≢◌, ℕ, ◌+◌, ◌≤◌, ◌<◌, Bool, true, false, ◌&&◌, ◌||◌, List, [], ◌∷◌, length, drop, get_or, Option, Some, None, refl, sym, ap, ◌∙◌, inl, inr, arith}
use Rattle.std.proofs.lemmas.Bool.{cases_eq, cases_lt}
use Rattle.std.proofs.lemmas.List.{get_or-set_same, get_or-set_other, get_or_past, length-set, drop_more}
use Rattle.std.proofs.lemmas.Simd.{length-zip2}
use Rattle.sa_base.specs.declared.number.ThreadNo.{ThreadNo}
use Rattle.sa_links.specs.Lists.{count_in}
use Rattle.sa_fast.specs.Rest.{one_if, one_where}
use Rattle.sa_fast.proofs.WorkSteps.{count_one, one_same, one_other}
use Rattle.sa_driven_model.specs.Threads.{has, with_thread, without_thread, with_some, without_some, with_all, both_sets, share_one}

-- how often a thread is in a set
abbrev pub in_set : List Bool → ℕ → ℕ
in_set s t = one_where (has s t)

pub has_below : (s : List Bool) (t : ℕ) → 1 ≤ in_set s t → t < length s
has_below s t some = elim (cases_lt t (length s)) [
  | inl inside ↦ inside
  | inr past ↦ let none : in_set s t ≡ 0 = ap one_where (get_or_past s t false past) in absurd (omega arith)
]

-- ONE THREAD
pub with-same : (s : List Bool) (t : ℕ) → t < length s → in_set (with_thread s t) t ≡ 1
with-same s t inside = ap one_where (get_or-set_same s t true false inside)

pub with-other : (s : List Bool) (t u : ℕ) → u ≢ t → in_set (with_thread s t) u ≡ in_set s u
with-other s t u ne = ap one_where (get_or-set_other s t u true false ne)

pub without-same : (s : List Bool) (t : ℕ) → t < length s → in_set (without_thread s t) t ≡ 0
without-same s t inside = ap one_where (get_or-set_same s t false false inside)

pub without-other : (s : List Bool) (t u : ℕ) → u ≢ t → in_set (without_thread s t) u ≡ in_set s u
without-other s t u ne = ap one_where (get_or-set_other s t u false false ne)

-- LENGTHS
pub length-with_some : (s : List Bool) (t : Option ThreadNo) → length (with_some s t) ≡ length s
length-with_some s None = refl
length-with_some s (Some t) = length-set s t.0 true

pub length-without_some : (s : List Bool) (t : Option ThreadNo) → length (without_some s t) ≡ length s
length-without_some s None = refl
length-without_some s (Some t) = length-set s t.0 false

pub length-with_all : (s : List Bool) (ts : List ℕ) → length (with_all s ts) ≡ length s
length-with_all s [] = refl
length-with_all s (t ∷ ts) = length-with_all (with_thread s t) ts ∙ length-set s t true

pub length-both : (s r : List Bool) → length s ≡ length r → length (both_sets s r) ≡ length s
length-both s r same = length-zip2 (λ a b. a || b) s r same

-- SOME THREADS, none of which was in, and none twice
pub with_all-counts : (s : List Bool) (ts : List ℕ) → ((u : ℕ) → in_set s u + count_in u ts ≤ 1) → ((u : ℕ) → 1 ≤ count_in u ts → u < length s)
    → (u : ℕ) → in_set (with_all s ts) u ≡ in_set s u + count_in u ts
with_all-counts s [] once below u = let nil : count_in u [] ≡ 0 = refl in omega arith
with_all-counts s (t ∷ ts) once below u =
    let inside : t < length s = below t (omega (arith, count_one t t ts, one_same t t refl)) in
    let next : (v : ℕ) → in_set (with_thread s t) v ≡ in_set s v + one_if t v = λ v. elim (cases_eq v t) [
      | inl e ↦
          let none : in_set s v ≡ 0 = omega (arith, once v, count_one v t ts, one_same t v (sym e)) in
          let now : in_set (with_thread s t) v ≡ 1 = ap (in_set (with_thread s t)) e ∙ with-same s t inside in
          omega (arith, none, now, one_same t v (sym e))
      | inr ne ↦ omega (arith, with-other s t v ne, one_other t v (λ e. ne (sym e)))
    ] in
    let rest = with_all-counts (with_thread s t) ts
    (λ v. omega (arith, next v, once v, count_one v t ts))
    (λ v some. let b : v < length s = below v (omega (arith, count_one v t ts)) in omega (arith, b, length-set s t true)) u in
    omega (arith, rest, next u, count_one u t ts)

-- LOOPS over two sets
pub shared_on : (s r : List Bool) (i : ℕ) → i < length s → i < length r → get_or s i false && get_or r i false ≡ false
    → share_one (drop (i + 1) s) (drop (i + 1) r) ≡ share_one (drop i s) (drop i r)
shared_on s r i in_s in_r none =
    sym (ap (λ xs. share_one xs (drop i r)) (drop_more s i false in_s) ∙ ap (share_one (get_or s i false ∷ drop (i + 1) s)) (drop_more r i false in_r)
    ∙ ap (λ b. b || share_one (drop (i + 1) s) (drop (i + 1) r)) none)

pub shared_here : (s r : List Bool) (i : ℕ) → i < length s → i < length r → get_or s i false && get_or r i false ≡ true
    → share_one (drop i s) (drop i r) ≡ true
shared_here s r i in_s in_r some =
    ap (λ xs. share_one xs (drop i r)) (drop_more s i false in_s) ∙ ap (share_one (get_or s i false ∷ drop (i + 1) s)) (drop_more r i false in_r)
    ∙ ap (λ b. b || share_one (drop (i + 1) s) (drop (i + 1) r)) some
