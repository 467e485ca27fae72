-- Chains of links, and what is left of them once two nodes are joined.
--     last_of, first_of      where the way into a chain's end begins, and where the way from its begin leads
--     chain_split, chain_join      a chain is cut in two, and put together
--     chain_kept, rest_kept      a chain stays where it has neither node
--     chain_aimed      the last node of a chain is joined to another one
--     chain_with, chain_without      a node is put into a chain, and taken out of it
use Rattle.std.proofs.Common.{◌≡◌, ◌≢◌, ℕ, ◌≤◌, ◌<◌, List, [], ◌∷◌, ◌++◌, length, get_or, refl, sym, ap, ◌∙◌, subst, arith}
use Rattle.std.proofs.lemmas.List.{get_or-set_other, get_or-set_same, length-set}
use Rattle.sa_links.specs.Lists.{count_in}
use Rattle.sa_links.specs.Rings.{Wires, joined, IsEdge, IsChain}
use Rattle.sa_links.proofs.Counting.{count_same, count-append, count-cons-ge, lacks_head, lacks_tail}

abbrev pub last_of : ℕ → List ℕ → ℕ
last_of a [] = a
last_of a (x ∷ xs) = last_of x xs

abbrev pub first_of : List ℕ → ℕ → ℕ
first_of [] z = z
first_of (y ∷ ys) z = y

-- the chain after the first of ys
abbrev pub IsRest : Wires → List ℕ → ℕ → Type 0
IsRest w [] z = Unit {0}
IsRest w (y ∷ ys) z = IsChain w y ys z

pub chain_split : (w : Wires) (a : ℕ) (xs ys : List ℕ) (z : ℕ) → IsChain w a (xs ++ ys) z → IsChain w a xs (first_of ys z) × IsRest w ys z
chain_split w a [] [] z c = (c, tt)
chain_split w a [] (y ∷ ys) z c = (c.0, c.1)
chain_split w a (x ∷ xs) ys z c = let r = chain_split w x xs ys z c.1 in ((c.0, r.0), r.1)

pub chain_join : (w : Wires) (a : ℕ) (xs ys : List ℕ) (z : ℕ) → IsChain w a xs (first_of ys z) → IsRest w ys z → IsChain w a (xs ++ ys) z
chain_join w a [] [] z c r = c
chain_join w a [] (y ∷ ys) z c r = (c, r)
chain_join w a (x ∷ xs) ys z c r = (c.0, chain_join w x xs ys z c.1 r)

-- the ends of a chain say where its links lead
pub chain_begins : (w : Wires) (a : ℕ) (xs : List ℕ) (z : ℕ) → IsChain w a xs z → get_or w.next a 0 ≡ first_of xs z
chain_begins w a [] z c = c.forth
chain_begins w a (x ∷ xs) z c = c.0.forth

pub chain_ends : (w : Wires) (a : ℕ) (xs : List ℕ) (z : ℕ) → IsChain w a xs z → get_or w.prev z 0 ≡ last_of a xs
chain_ends w a [] z c = c.back
chain_ends w a (x ∷ xs) z c = chain_ends w x xs z c.1

pub edge_made : (w : Wires) (p q : ℕ) → p < length w.next → q < length w.prev → IsEdge (joined w p q) p q
edge_made w p q hp hq = record { forth = get_or-set_same w.next p q 0 hp; back = get_or-set_same w.prev q p 0 hq }

pub edge_kept : (w : Wires) (p q a b : ℕ) → IsEdge w a b → a ≢ p → b ≢ q → IsEdge (joined w p q) a b
edge_kept w p q a b e ap bq = record { forth = get_or-set_other w.next p a q 0 ap ∙ e.forth; back = get_or-set_other w.prev q b p 0 bq ∙ e.back }

pub chain_kept : (w : Wires) (p q a : ℕ) (xs : List ℕ) (z : ℕ) → IsChain w a xs z → a ≢ p → count_in p xs ≡ 0 → count_in q xs ≡ 0 → z ≢ q
    → IsChain (joined w p q) a xs z
chain_kept w p q a [] z c ap lp lq zq = edge_kept w p q a z c ap zq
chain_kept w p q a (x ∷ xs) z c ap lp lq zq =
    (edge_kept w p q a x c.0 ap (lacks_head q x xs lq), chain_kept w p q x xs z c.1 (lacks_head p x xs lp) (lacks_tail p x xs lp) (lacks_tail q x xs lq) zq)

-- q is at most at the front of ys, and if so, no z
pub rest_kept : (w : Wires) (p q : ℕ) (ys : List ℕ) (z : ℕ) → IsRest w ys z → count_in p ys ≡ 0 → count_in q ys ≡ 0 → z ≢ q → IsRest (joined w p q) ys z
rest_kept w p q [] z r lp lq zq = tt
rest_kept w p q (y ∷ ys) z r lp lq zq = chain_kept w p q y ys z r (lacks_head p y ys lp) (lacks_tail p y ys lp) (lacks_tail q y ys lq) zq

pub rest_kept_first : (w : Wires) (p : ℕ) (ys : List ℕ) (z : ℕ) → IsRest w ys z → count_in p ys ≡ 0 → ((k : ℕ) → count_in k ys ≤ 1) → count_in z ys ≡ 0
    → IsRest (joined w p (first_of ys z)) ys z
rest_kept_first w p [] z r lp once lz = tt
rest_kept_first w p (y ∷ ys) z r lp once lz =
    let twice = count_same y y ys refl in let o = once y in let ly : count_in y ys ≡ 0 = omega arith in
    chain_kept w p y y ys z r (lacks_head p y ys lp) (lacks_tail p y ys lp) ly (λ e. lacks_head z y ys lz (sym e))

pub last_in : (a : ℕ) (xs : List ℕ) → 1 ≤ count_in (last_of a xs) (a ∷ xs)
last_in a [] = let e = count_same a a [] refl in omega arith
last_in a (x ∷ xs) = let h = last_in x xs in let g = count-cons-ge (last_of x xs) a (x ∷ xs) in omega arith

pub chain_aimed : (w : Wires) (q a : ℕ) (xs : List ℕ) (z : ℕ) → IsChain w a xs z → ((k : ℕ) → count_in k (a ∷ xs) ≤ 1) → count_in q xs ≡ 0
    → last_of a xs < length w.next → q < length w.prev → IsChain (joined w (last_of a xs) q) a xs q
chain_aimed w q a [] z c once lq hp hq = edge_made w a q hp hq
chain_aimed w q a (x ∷ xs) z c once lq hp hq =
    let p : ℕ = last_of x xs in
    let differs : a ≢ p = λ e. (let last = last_in x xs in let o = once p in let s = count_same p a (x ∷ xs) e in absurd (omega arith)) in
    let rest : (k : ℕ) → count_in k (x ∷ xs) ≤ 1 = λ k. (let g = count-cons-ge k a (x ∷ xs) in let o = once k in omega arith) in
    (edge_kept w p q a x c.0 differs (lacks_head q x xs lq), chain_aimed w q x xs z c.1 rest (lacks_tail q x xs lq) hp hq)

-- what is once in a list with the head a in front is lacked by one part where it is in the other
pub apart_parts : (k a : ℕ) (xs ys : List ℕ) → count_in k (a ∷ (xs ++ ys)) ≤ 1 → 1 ≤ count_in k (a ∷ xs) → count_in k ys ≡ 0
apart_parts k a xs ys once stands = let e = count-append k (a ∷ xs) ys in omega arith

pub front_once : (k a : ℕ) (xs ys : List ℕ) → count_in k (a ∷ (xs ++ ys)) ≤ 1 → count_in k (a ∷ xs) ≤ 1
front_once k a xs ys once = let e = count-append k (a ∷ xs) ys in omega arith

pub back_once : (k a : ℕ) (xs ys : List ℕ) → count_in k (a ∷ (xs ++ ys)) ≤ 1 → count_in k ys ≤ 1
back_once k a xs ys once = let e = count-append k (a ∷ xs) ys in omega arith

-- the first of ys, or else z, is not in xs
pub first_lacks : (a : ℕ) (xs ys : List ℕ) (z : ℕ) → ((k : ℕ) → count_in k (a ∷ (xs ++ ys)) ≤ 1) → count_in z (xs ++ ys) ≡ 0 → count_in (first_of ys z) xs ≡ 0
first_lacks a xs [] z once lz = let e = count-append z xs [] in omega arith
first_lacks a xs (y ∷ ys) z once lz =
    let o = once y in let e = count-append y (a ∷ xs) (y ∷ ys) in let s = count_same y y ys refl in let g = count-cons-ge y a xs in omega arith

pub first_differs : (x : ℕ) (ys : List ℕ) (z : ℕ) → count_in x ys ≡ 0 → x ≢ z → x ≢ first_of ys z
first_differs x [] z lx xz = xz
first_differs x (y ∷ ys) z lx xz = λ e. lacks_head x y ys lx (sym e)

-- x between xs and ys
pub chain_with : (w : Wires) (x a : ℕ) (xs ys : List ℕ) (z : ℕ) → IsChain w a (xs ++ ys) z
    → ((k : ℕ) → count_in k (a ∷ (xs ++ ys)) ≤ 1) → count_in z (xs ++ ys) ≡ 0 → count_in x (xs ++ ys) ≡ 0 → a ≢ x → z ≢ x
    → last_of a xs < length w.next → x < length w.next → x < length w.prev → first_of ys z < length w.prev
    → IsChain (joined (joined w (last_of a xs) x) x (first_of ys z)) a (xs ++ x ∷ ys) z
chain_with w x a xs ys z c once lz lx ax zx hp hx hx' hq =
    let p : ℕ = last_of a xs in let q : ℕ = first_of ys z in let w₁ = joined w p x in
    let parts = chain_split w a xs ys z c in
    let sum-x = count-append x xs ys in let sum-z = count-append z xs ys in
    let lx-xs : count_in x xs ≡ 0 = omega arith in let lx-ys : count_in x ys ≡ 0 = omega arith in let lz-ys : count_in z ys ≡ 0 = omega arith in
    let lp-ys : count_in p ys ≡ 0 = apart_parts p a xs ys (once p) (last_in a xs) in
    let lq-xs : count_in q xs ≡ 0 = first_lacks a xs ys z once lz in
    let front₁ = chain_aimed w x a xs q parts.0 (λ k. front_once k a xs ys (once k)) lx-xs hp hx' in
    let front₂ = chain_kept w₁ x q a xs x front₁ ax lx-xs lq-xs (first_differs x ys z lx-ys (λ e. zx (sym e))) in
    let rest₁ = rest_kept w p x ys z parts.1 lp-ys lx-ys zx in
    let rest₂ = rest_kept_first w₁ x ys z rest₁ lx-ys (λ k. back_once k a xs ys (once k)) lz-ys in
    let hx₁ : x < length w₁.next = subst (λ n. x < n) (sym (length-set w.next p x)) hx in
    let hq₁ : q < length w₁.prev = subst (λ n. q < n) (sym (length-set w.prev x p)) hq in
    chain_join (joined w₁ x q) a xs (x ∷ ys) z front₂ (chain_join (joined w₁ x q) x [] ys z (edge_made w₁ x q hx₁ hq₁) rest₂)

-- x is not between xs and ys any more
pub chain_without : (w : Wires) (x a : ℕ) (xs ys : List ℕ) (z : ℕ) → IsChain w a (xs ++ x ∷ ys) z
    → ((k : ℕ) → count_in k (a ∷ (xs ++ x ∷ ys)) ≤ 1) → count_in z (xs ++ x ∷ ys) ≡ 0
    → last_of a xs < length w.next → first_of ys z < length w.prev
    → IsChain (joined w (last_of a xs) (first_of ys z)) a (xs ++ ys) z
chain_without w x a xs ys z c once lz hp hq =
    let p : ℕ = last_of a xs in let q : ℕ = first_of ys z in
    let parts = chain_split w a xs (x ∷ ys) z c in
    let back = chain_split w x [] ys z parts.1 in
    let sum-z = count-append z xs (x ∷ ys) in let sum-z' = count-append z xs ys in
    let lz-xy : count_in z (x ∷ ys) ≡ 0 = omega arith in let lz-ys : count_in z ys ≡ 0 = lacks_tail z x ys lz-xy in
    let lz-all : count_in z (xs ++ ys) ≡ 0 = omega arith in
    let fewer : (k : ℕ) → count_in k (a ∷ (xs ++ ys)) ≤ 1 =
    λ k. (let o = once k in let e = count-append k (a ∷ xs) (x ∷ ys) in let e' = count-append k (a ∷ xs) ys in let g = count-cons-ge k x ys in omega arith) in
    let lp-xy : count_in p (x ∷ ys) ≡ 0 = apart_parts p a xs (x ∷ ys) (once p) (last_in a xs) in
    let front = chain_aimed w q a xs x parts.0 (λ k. front_once k a xs ys (fewer k)) (first_lacks a xs ys z fewer lz-all) hp hq in
    let rest = rest_kept_first w p ys z back.1 (lacks_tail p x ys lp-xy) (λ k. back_once k a xs ys (fewer k)) lz-ys in
    chain_join (joined w p q) a xs ys z front rest
