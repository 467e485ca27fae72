-- The rings of lists, and what is left of them once nodes are joined.
--     lists_are      the lists are what the links say
--     ring_with, ring_without, rings_moved      a node is put into a list, or taken out of it; a list goes after another
use Rattle.std.proofs.Common.{◌≡◌, ◌≢◌, ℕ, zero, suc, ◌+◌, ◌-◌, ◌≤◌, ◌<◌, ◌⊎◌, cond, List, [], ◌∷◌, ◌++◌, length, get_or, set, drop, ltb, refl, sym, ap, ◌∙◌, subst, inl, inr, arith}
use Rattle.std.proofs.lemmas.Bool.{cases_eq, lt-ltb, le-ltb}
use Rattle.std.proofs.lemmas.List.{get_or-set_other, get_or-set_same, length-set, drop_more, drop_all}
use Rattle.sa_links.specs.Lists.{Lists, list_at, count_in, count_in_all, IsFree, with_list, IsApart}
use Rattle.sa_links.specs.Rings.{Wires, joined, IsEdge, IsChain, IsRings, followed, rings_from, lists_of}
use Rattle.sa_links.proofs.Counting.{count_same, count_other, count-append, count-cons-ge, count_set, count_at, count_two, few_below, lacks_head, lacks_tail}
use Rattle.sa_links.proofs.Chains.{last_of, first_of, last_in, chain_split, chain_join, chain_begins, edge_made, edge_kept, chain_kept, chain_aimed, chain_with, chain_without, first_differs}

-- k is in the ring of the list l
abbrev pub Owned : Lists → ℕ → ℕ → Type 0
Owned c l k = 1 ≤ count_in k ((c.nodes + l) ∷ list_at c.lists l)

module _ (c : Lists) (apart : IsApart c) where
  pub head_lacked : (k l : ℕ) → c.nodes ≤ k → count_in k (list_at c.lists l) ≡ 0
  head_lacked k l h = elim (cases_eq (count_in k (list_at c.lists l)) 0) [
    | inl e ↦ e
    | inr ne ↦ let a = count_at k c.lists l in let lt = apart.below k (omega arith) in absurd (omega arith)
  ]

  pub ring_once : (l k : ℕ) → count_in k ((c.nodes + l) ∷ list_at c.lists l) ≤ 1
  ring_once l k = elim (cases_eq (c.nodes + l) k) [
    | inl e ↦ let s = count_same k (c.nodes + l) (list_at c.lists l) e in let n = head_lacked k l (omega arith) in omega arith
    | inr ne ↦ let o = count_other k (c.nodes + l) (list_at c.lists l) ne in let a = count_at k c.lists l in let once = apart.once k in omega arith
  ]

  -- a node of one ring is in no other
  pub foreign : (l m k : ℕ) → l ≢ m → l < length c.lists → Owned c l k → (c.nodes + m ≢ k) × (count_in k (list_at c.lists m) ≡ 0)
  foreign l m k ne h own = elim (cases_eq (c.nodes + l) k) [
    | inl e ↦ (λ e'. ne (omega arith), head_lacked k m (omega arith))
    | inr nk ↦
        let o = count_other k (c.nodes + l) (list_at c.lists l) nk in let a = count_at k c.lists l in let lt = apart.below k (omega arith) in
        let t = count_two k c.lists l m ne h in let once = apart.once k in
        (λ e'. absurd (omega arith), omega arith)
  ]

  pub owned_below : (l k : ℕ) → l < length c.lists → Owned c l k → k < c.nodes + length c.lists
  owned_below l k h own = elim (cases_eq (c.nodes + l) k) [
    | inl e ↦ omega arith
    | inr nk ↦ let o = count_other k (c.nodes + l) (list_at c.lists l) nk in let a = count_at k c.lists l in let lt = apart.below k (omega arith) in omega arith
  ]

  -- a free node is none of a ring
  pub free_differs : (l k x : ℕ) → x < c.nodes → IsFree c x → Owned c l k → x ≢ k
  free_differs l k x hx free own e = elim (cases_eq (c.nodes + l) k) [
    | inl f ↦ absurd (omega arith)
    | inr nk ↦ let o = count_other k (c.nodes + l) (list_at c.lists l) nk in let a = count_at k c.lists l in
        let none : count_in_all k c.lists ≡ 0 = subst (λ z. count_in_all z c.lists ≡ 0) e free in absurd (omega arith)
  ]

  pub free_lacked : (k l : ℕ) → IsFree c k → count_in k (list_at c.lists l) ≡ 0
  free_lacked k l free = let a = count_at k c.lists l in omega arith

pub first_stands : (a : ℕ) (xs ys : List ℕ) → 1 ≤ count_in (first_of ys a) (a ∷ (xs ++ ys))
first_stands a xs [] = let s = count_same a a (xs ++ []) refl in omega arith
first_stands a xs (y ∷ ys) = let s = count_same y y ys refl in let e = count-append y (a ∷ xs) (y ∷ ys) in omega arith

pub last_stands_before : (a : ℕ) (xs ys : List ℕ) → 1 ≤ count_in (last_of a xs) (a ∷ (xs ++ ys))
last_stands_before a xs ys = let s = last_in a xs in let e = count-append (last_of a xs) (a ∷ xs) ys in omega arith

-- an edge between two nodes of other rings
ring_kept : (w : Wires) (c : Lists) (p q m : ℕ) → IsChain w (c.nodes + m) (list_at c.lists m) (c.nodes + m)
    → (c.nodes + m ≢ p) × (count_in p (list_at c.lists m) ≡ 0) → (c.nodes + m ≢ q) × (count_in q (list_at c.lists m) ≡ 0)
    → IsChain (joined w p q) (c.nodes + m) (list_at c.lists m) (c.nodes + m)
ring_kept w c p q m chain fp fq = chain_kept w p q (c.nodes + m) (list_at c.lists m) (c.nodes + m) chain fp.0 fp.1 fq.1 fq.0

lengths_kept : (w : Wires) (p q : ℕ) → (length (joined w p q).next ≡ length w.next) × (length (joined w p q).prev ≡ length w.prev)
lengths_kept w p q = (length-set w.next p q, length-set w.prev q p)

-- one list changes, and the other rings stay
rings_with : (w w' : Wires) (c : Lists) (l : ℕ) (v : List ℕ) → IsRings w c → l < length c.lists
    → (length w'.next ≡ length w.next) × (length w'.prev ≡ length w.prev)
    → IsApart (with_list c l v) → IsChain w' (c.nodes + l) v (c.nodes + l)
    → ((m : ℕ) → m ≢ l → m < length c.lists → IsChain w' (c.nodes + m) (list_at c.lists m) (c.nodes + m))
    → ((x : ℕ) → x < c.nodes → IsFree (with_list c l v) x → IsEdge w' x x)
    → IsRings w' (with_list c l v)
rings_with w w' c l v r h lens apart chain others lone =
    let size = length-set c.lists l v in let same = lens.0 in let same' = lens.1 in let n = r.nexts in let n' = r.prevs in
    record {
      nexts = omega arith;
      prevs = omega arith;
      apart = apart;
      rings = λ m hm. elim (cases_eq m l) [
        | inl e ↦ subst (λ k. IsChain w' (c.nodes + k) (list_at (set c.lists l v) k) (c.nodes + k)) (sym e)
            (subst (λ xs. IsChain w' (c.nodes + l) xs (c.nodes + l)) (sym (get_or-set_same c.lists l v [] h)) chain)
        | inr ne ↦ subst (λ xs. IsChain w' (c.nodes + m) xs (c.nodes + m)) (sym (get_or-set_other c.lists l m v [] ne)) (others m ne (omega arith))
      ];
      lone = lone;
    }

pub apart_with : (c : Lists) (l x : ℕ) (xs ys : List ℕ) → IsApart c → l < length c.lists → list_at c.lists l ≡ xs ++ ys → x < c.nodes → IsFree c x
    → IsApart (with_list c l (xs ++ x ∷ ys))
apart_with c l x xs ys a h e hx free =
    let v : List ℕ = xs ++ x ∷ ys in
    let total : (k : ℕ) → ((k ≡ x) × (count_in_all k (set c.lists l v) ≡ 1)) ⊎ ((k ≢ x) × (count_in_all k (set c.lists l v) ≡ count_in_all k c.lists)) = λ k.
    (let s = count_set k c.lists l v h in let e' = ap (count_in k) e in let t = count-append k xs ys in let t' = count-append k xs (x ∷ ys) in
    elim (cases_eq k x) [
      | inl kx ↦ let s' = count_same k x ys (sym kx) in let none : count_in_all k c.lists ≡ 0 = subst (λ z. count_in_all z c.lists ≡ 0) (sym kx) free in
          let at = count_at k c.lists l in inl (kx, omega arith)
      | inr kn ↦ let o = count_other k x ys (λ f. kn (sym f)) in inr (kn, omega arith)
    ]) in
    record {
      below = λ k hk. elim (total k) [ inl t ↦ subst (λ z. z < c.nodes) (sym t.0) hx | inr t ↦ a.below k (omega (arith, t.1)) ];
      once = λ k. elim (total k) [ inl t ↦ omega (arith, t.1) | inr t ↦ omega (arith, t.1, a.once k) ];
    }

pub apart_without : (c : Lists) (l x : ℕ) (xs ys : List ℕ) → IsApart c → l < length c.lists → list_at c.lists l ≡ xs ++ x ∷ ys
    → IsApart (with_list c l (xs ++ ys))
apart_without c l x xs ys a h e =
    let v : List ℕ = xs ++ ys in
    let less : (k : ℕ) → count_in_all k (set c.lists l v) ≤ count_in_all k c.lists = λ k.
    (let s = count_set k c.lists l v h in let e' = ap (count_in k) e in let t = count-append k xs ys in let t' = count-append k xs (x ∷ ys) in
    let g = count-cons-ge k x ys in omega arith) in
    record {
      below = λ k hk. a.below k (omega (arith, less k));
      once = λ k. omega (arith, less k, a.once k);
    }

pub ring_with : (w : Wires) (c : Lists) (l x : ℕ) (xs ys : List ℕ) → IsRings w c → l < length c.lists → list_at c.lists l ≡ xs ++ ys → x < c.nodes → IsFree c x
    → IsRings (joined (joined w (last_of (c.nodes + l) xs) x) x (first_of ys (c.nodes + l))) (with_list c l (xs ++ x ∷ ys))
ring_with w c l x xs ys r h e hx free =
    let a : ℕ = c.nodes + l in let p : ℕ = last_of a xs in let q : ℕ = first_of ys a in
    let w₁ : Wires = joined w p x in let w₂ : Wires = joined w₁ x q in
    let Ring : List ℕ → Type 0 = λ zs. IsChain w a zs a in
    let own-p : Owned c l p = subst (λ zs. 1 ≤ count_in p (a ∷ zs)) (sym e) (last_stands_before a xs ys) in
    let own-q : Owned c l q = subst (λ zs. 1 ≤ count_in q (a ∷ zs)) (sym e) (first_stands a xs ys) in
    let low-p = owned_below c r.apart l p h own-p in let low-q = owned_below c r.apart l q h own-q in
    let n = r.nexts in let n' = r.prevs in
    let chain : IsChain w₂ a (xs ++ x ∷ ys) a = chain_with w x a xs ys a (subst Ring e (r.rings l h))
    (λ k. subst (λ zs. count_in k (a ∷ zs) ≤ 1) e (ring_once c r.apart l k))
    (subst (λ zs. count_in a zs ≡ 0) e (head_lacked c r.apart a l (omega arith)))
    (subst (λ zs. count_in x zs ≡ 0) e (free_lacked c r.apart x l free))
    (λ f. absurd (omega arith)) (λ f. absurd (omega arith)) (omega arith) (omega arith) (omega arith) (omega arith) in
    let k₁ = lengths_kept w p x in let k₂ = lengths_kept w₁ x q in
    rings_with w w₂ c l (xs ++ x ∷ ys) r h (k₂.0 ∙ k₁.0, k₂.1 ∙ k₁.1) (apart_with c l x xs ys r.apart h e hx free) chain (λ m ne hm.
    let other : l ≢ m = λ f. ne (sym f) in
    let fx : (c.nodes + m ≢ x) × (count_in x (list_at c.lists m) ≡ 0) = (λ f. absurd (omega arith), free_lacked c r.apart x m free) in
    ring_kept w₁ c x q m (ring_kept w c p x m (r.rings m hm) (foreign c r.apart l m p other h own-p) fx) fx (foreign c r.apart l m q other h own-q))
    (λ y hy free-y.
    let s = count_set y c.lists l (xs ++ x ∷ ys) h in let e' = ap (count_in y) e in let t = count-append y xs ys in let t' = count-append y xs (x ∷ ys) in
    let g = count-cons-ge y x ys in
    let was-free : IsFree c y = omega arith in
    let differs : y ≢ x = λ f. (let g' = count_same y x ys (sym f) in absurd (omega arith)) in
    edge_kept w₁ x q y y (edge_kept w p x y y (r.lone y hy was-free) (free_differs c r.apart l p y hy was-free own-p) differs) differs
    (free_differs c r.apart l q y hy was-free own-q))

pub ring_without : (w : Wires) (c : Lists) (l x : ℕ) (xs ys : List ℕ) → IsRings w c → l < length c.lists → list_at c.lists l ≡ xs ++ x ∷ ys
    → IsRings (joined (joined w (last_of (c.nodes + l) xs) (first_of ys (c.nodes + l))) x x) (with_list c l (xs ++ ys))
ring_without w c l x xs ys r h e =
    let a : ℕ = c.nodes + l in let p : ℕ = last_of a xs in let q : ℕ = first_of ys a in let w₁ : Wires = joined w p q in let w₂ : Wires = joined w₁ x x in
    let own-p : Owned c l p = subst (λ zs. 1 ≤ count_in p (a ∷ zs)) (sym e) (last_stands_before a xs (x ∷ ys)) in
    let q-in : 1 ≤ count_in q (a ∷ (xs ++ x ∷ ys)) =
    (let f = first_stands a xs ys in let t = count-append q (a ∷ xs) ys in let t' = count-append q (a ∷ xs) (x ∷ ys) in let g = count-cons-ge q x ys in
    omega arith) in
    let own-q : Owned c l q = subst (λ zs. 1 ≤ count_in q (a ∷ zs)) (sym e) q-in in
    let x-in : 1 ≤ count_in x (xs ++ x ∷ ys) = (let g = count_same x x ys refl in let t = count-append x xs (x ∷ ys) in omega arith) in
    let x-in' : 1 ≤ count_in x (list_at c.lists l) = subst (λ zs. 1 ≤ count_in x zs) (sym e) x-in in
    let own-x : Owned c l x = (let g = count-cons-ge x a (list_at c.lists l) in omega arith) in
    let all-x = count_at x c.lists l in let low-x : x < c.nodes = r.apart.below x (omega arith) in
    let low-p = owned_below c r.apart l p h own-p in let low-q = owned_below c r.apart l q h own-q in
    let n = r.nexts in let n' = r.prevs in
    let once : (k : ℕ) → count_in k (a ∷ (xs ++ x ∷ ys)) ≤ 1 = λ k. subst (λ zs. count_in k (a ∷ zs) ≤ 1) e (ring_once c r.apart l k) in
    let x-out : count_in x (xs ++ ys) ≡ 0 =
    (let g = count_same x x ys refl in let t = count-append x (a ∷ xs) (x ∷ ys) in let t' = count-append x xs ys in let o = once x in
    let g' = count-cons-ge x a xs in omega arith) in
    let a-x : a ≢ x = λ f. absurd (omega arith) in
    let chain : IsChain w₁ a (xs ++ ys) a = chain_without w x a xs ys a (subst (λ zs. IsChain w a zs a) e (r.rings l h)) once
    (subst (λ zs. count_in a zs ≡ 0) e (head_lacked c r.apart a l (omega arith)))
    (omega arith) (omega arith) in
    let k₁ = lengths_kept w p q in let k₂ = lengths_kept w₁ x x in let k₁n = k₁.0 in let k₁p = k₁.1 in
    rings_with w w₂ c l (xs ++ ys) r h (k₂.0 ∙ k₁.0, k₂.1 ∙ k₁.1) (apart_without c l x xs ys r.apart h e)
    (chain_kept w₁ x x a (xs ++ ys) a chain a-x x-out x-out a-x) (λ m ne hm.
    let other : l ≢ m = λ f. ne (sym f) in let fx = foreign c r.apart l m x other h own-x in
    ring_kept w₁ c x x m (ring_kept w c p q m (r.rings m hm) (foreign c r.apart l m p other h own-p) (foreign c r.apart l m q other h own-q)) fx fx)
    (λ y hy free-y. elim (cases_eq y x) [
      | inl f ↦ subst (λ z. IsEdge w₂ z z) (sym f) (edge_made w₁ x x (omega arith) (omega arith))
      | inr ne ↦
          let s = count_set y c.lists l (xs ++ ys) h in let e' = ap (count_in y) e in let t = count-append y xs ys in let t' = count-append y xs (x ∷ ys) in
          let g = count_other y x ys (λ f. ne (sym f)) in
          let was-free : IsFree c y = omega arith in
          edge_kept w₁ x x y y (edge_kept w p q y y (r.lone y hy was-free) (free_differs c r.apart l p y hy was-free own-p)
          (free_differs c r.apart l q y hy was-free own-q)) ne ne
    ])

pub count_moved : (c : Lists) (l m : ℕ) → l ≢ m → l < length c.lists → m < length c.lists
    → (k : ℕ) → count_in_all k (set (set c.lists l (list_at c.lists l ++ list_at c.lists m)) m []) ≡ count_in_all k c.lists
count_moved c l m ne hl hm k =
    let v : List ℕ = list_at c.lists l ++ list_at c.lists m in
    let other : m ≢ l = λ f. ne (sym f) in
    let s = count_set k c.lists l v hl in let hm' : m < length (set c.lists l v) = subst (λ n. m < n) (sym (length-set c.lists l v)) hm in
    let s' = count_set k (set c.lists l v) m [] hm' in let o = ap (count_in k) (get_or-set_other c.lists l m v [] other) in
    let t = count-append k (list_at c.lists l) (list_at c.lists m) in omega arith

pub apart_moved : (c : Lists) (l m : ℕ) → IsApart c → l ≢ m → l < length c.lists → m < length c.lists
    → IsApart (with_list (with_list c l (list_at c.lists l ++ list_at c.lists m)) m [])
apart_moved c l m a ne hl hm =
    let same = count_moved c l m ne hl hm in
    record { below = λ k hk. a.below k (omega (arith, same k)); once = λ k. omega (arith, same k, a.once k) }

-- the list m, which begins with f, goes after the list l
pub rings_moved : (w : Wires) (c : Lists) (l m f : ℕ) (ys : List ℕ) → IsRings w c → l ≢ m → l < length c.lists → m < length c.lists → list_at c.lists m ≡ f ∷ ys
    → IsRings (joined (joined (joined w (last_of (c.nodes + l) (list_at c.lists l)) f) (last_of f ys) (c.nodes + l)) (c.nodes + m) (c.nodes + m))
    (with_list (with_list c l (list_at c.lists l ++ list_at c.lists m)) m [])
rings_moved w c l m f ys r ne hl hm from-is =
    let s : ℕ = c.nodes + l in let t : ℕ = c.nodes + m in let xs : List ℕ = list_at c.lists l in let zs : List ℕ = list_at c.lists m in
    let v : List ℕ = xs ++ zs in
    let e : ℕ = last_of s xs in let b : ℕ = last_of f ys in
    let w₁ : Wires = joined w e f in let w₂ : Wires = joined w₁ b s in let w₃ : Wires = joined w₂ t t in
    let other : m ≢ l = λ g. ne (sym g) in
    let A = r.apart in let n = r.nexts in let n' = r.prevs in
    let own-e : Owned c l e = last_in s xs in
    let own-s : Owned c l s = (let g = count_same s s xs refl in omega arith) in
    let own-t : Owned c m t = (let g = count_same t t zs refl in omega arith) in
    let own-f : Owned c m f = subst (λ us. 1 ≤ count_in f (t ∷ us)) (sym from-is) (let g = count_same f f ys refl in let g' = count-cons-ge f t (f ∷ ys) in
    omega arith) in
    let own-b : Owned c m b = subst (λ us. 1 ≤ count_in b (t ∷ us)) (sym from-is) (let g = last_in f ys in let g' = count-cons-ge b t (f ∷ ys) in
    omega arith) in
    let low-e = owned_below c A l e hl own-e in let low-s = owned_below c A l s hl own-s in let low-t = owned_below c A m t hm own-t in
    let low-f = owned_below c A m f hm own-f in let low-b = owned_below c A m b hm own-b in
    let e-not = foreign c A l m e ne hl own-e in let f-not = foreign c A m l f other hm own-f in let b-not = foreign c A m l b other hm own-b in
    let s-not = foreign c A l m s ne hl own-s in let t-not = foreign c A m l t other hm own-t in
    let once-m : (k : ℕ) → count_in k (t ∷ f ∷ ys) ≤ 1 = λ k. subst (λ us. count_in k (t ∷ us) ≤ 1) from-is (ring_once c A m k) in
    let once-f : (k : ℕ) → count_in k (f ∷ ys) ≤ 1 = λ k. (let g = once-m k in let g' = count-cons-ge k t (f ∷ ys) in omega arith) in
    let e-lacked : count_in e (f ∷ ys) ≡ 0 = subst (λ us. count_in e us ≡ 0) from-is e-not.1 in
    let s-lacked : count_in s (f ∷ ys) ≡ 0 = subst (λ us. count_in s us ≡ 0) from-is s-not.1 in
    let t-lacked : count_in t (f ∷ ys) ≡ 0 = subst (λ us. count_in t us ≡ 0) from-is (head_lacked c A t m (omega arith)) in
    let f-once : count_in f ys ≡ 0 = (let g = count_same f f ys refl in let g' = once-f f in omega arith) in
    let from : IsChain w t (f ∷ ys) t = subst (λ us. IsChain w t us t) from-is (r.rings m hm) in
    let k₁ = lengths_kept w e f in let k₂ = lengths_kept w₁ b s in let k₃ = lengths_kept w₂ t t in
    let k₁n = k₁.0 in let k₁p = k₁.1 in let k₂n = k₂.0 in let k₂p = k₂.1 in
    let to₁ = chain_aimed w f s xs s (r.rings l hl) (ring_once c A l) f-not.1 (omega arith) (omega arith) in
    let from₁ = chain_kept w e f f ys t from.1 (lacks_head e f ys e-lacked) (lacks_tail e f ys e-lacked) f-once (λ g. lacks_head t f ys t-lacked (sym g)) in
    let to₂ = chain_kept w₁ b s s xs f to₁ b-not.0 b-not.1 (head_lacked c A s l (omega arith)) (λ g. f-not.0 (sym g)) in
    let from₂ = chain_aimed w₁ s f ys t from₁ once-f (lacks_tail s f ys s-lacked) (omega arith) (omega arith) in
    let both : IsChain w₂ s (xs ++ f ∷ ys) s = chain_join w₂ s xs (f ∷ ys) s to₂ from₂ in
    let t-in-both : count_in t (xs ++ f ∷ ys) ≡ 0 = (let g = count-append t xs (f ∷ ys) in let g' = t-not.1 in omega arith) in
    let s-t : s ≢ t = λ g. ne (omega arith) in
    let both₃ : IsChain w₃ s (xs ++ f ∷ ys) s = chain_kept w₂ t t s (xs ++ f ∷ ys) s both s-t t-in-both t-in-both s-t in
    let none₃ : IsChain w₃ t [] t = edge_made w₂ t t (omega arith) (omega arith) in
    let size = length-set c.lists l v in let size' = length-set (set c.lists l v) m [] in
    let hm' : m < length (set c.lists l v) = omega arith in
    let k₃n = k₃.0 in let k₃p = k₃.1 in
    record {
      nexts = omega arith;
      prevs = omega arith;
      apart = apart_moved c l m A ne hl hm;
      rings = λ k hk. elim (cases_eq k m) [
        | inl km ↦ subst (λ j. IsChain w₃ (c.nodes + j) (list_at (set (set c.lists l v) m []) j) (c.nodes + j)) (sym km)
            (subst (λ us. IsChain w₃ t us t) (sym (get_or-set_same (set c.lists l v) m [] [] hm')) none₃)
        | inr km ↦ subst (λ us. IsChain w₃ (c.nodes + k) us (c.nodes + k)) (sym (get_or-set_other (set c.lists l v) m k [] [] km)) (elim (cases_eq k l) [
          | inl kl ↦ subst (λ j. IsChain w₃ (c.nodes + j) (list_at (set c.lists l v) j) (c.nodes + j)) (sym kl)
              (subst (λ us. IsChain w₃ s us s) (sym (get_or-set_same c.lists l v [] hl)) (subst (λ us. IsChain w₃ s (xs ++ us) s) (sym from-is) both₃))
          | inr kl ↦ subst (λ us. IsChain w₃ (c.nodes + k) us (c.nodes + k)) (sym (get_or-set_other c.lists l k v [] kl))
              (let l-k : l ≢ k = λ g. kl (sym g) in let m-k : m ≢ k = λ g. km (sym g) in
              ring_kept w₂ c t t k (ring_kept w₁ c b s k
              (ring_kept w c e f k (r.rings k (omega arith)) (foreign c A l k e l-k hl own-e) (foreign c A m k f m-k hm own-f))
              (foreign c A m k b m-k hm own-b) (foreign c A l k s l-k hl own-s)) (foreign c A m k t m-k hm own-t) (foreign c A m k t m-k hm own-t))
        ])
      ];
      lone = λ x hx free.
          let was-free : IsFree c x = (let g = count_moved c l m ne hl hm x in omega arith) in
          let differs : (k j : ℕ) → Owned c k j → x ≢ j = λ k j own. free_differs c A k j x hx was-free own in
          edge_kept w₂ t t x x (edge_kept w₁ b s x x (edge_kept w e f x x (r.lone x hx was-free) (differs l e own-e) (differs m f own-f)) (differs m b own-b)
          (differs l s own-s)) (differs m t own-t) (differs m t own-t);
    }

-- the way from a on, as far as it leads to nodes
followed_is : (w : Wires) (n fuel a : ℕ) (xs : List ℕ) (z : ℕ) → IsChain w a xs z → ((x : ℕ) → 1 ≤ count_in x xs → x < n) → n ≤ z → length xs ≤ fuel
    → followed w.next n fuel a ≡ xs
followed_is w n zero a [] z c below hz hf = refl
followed_is w n zero a (x ∷ xs) z c below hz hf = absurd (omega arith)
followed_is w n (suc fuel) a [] z c below hz hf =
    ap (λ j. cond (ltb j n) (j ∷ followed w.next n fuel j) []) c.forth ∙ ap (λ b. cond b (z ∷ followed w.next n fuel z) []) (le-ltb z n hz)
followed_is w n (suc fuel) a (x ∷ xs) z c below hz hf =
    let same = count_same x x xs refl in let lt : x < n = below x (omega arith) in
    ap (λ j. cond (ltb j n) (j ∷ followed w.next n fuel j) []) c.0.forth ∙ ap (λ b. cond b (x ∷ followed w.next n fuel x) []) (lt-ltb x n lt)
    ∙ ap (λ us. x ∷ us) (followed_is w n fuel x xs z c.1 (λ k hk. (let g = count-cons-ge k x xs in below k (omega arith))) hz (omega arith))

rings_from_are : (w : Wires) (c : Lists) → IsRings w c → (l k : ℕ) → l + k ≡ length c.lists → rings_from w.next c.nodes (c.nodes + l) k ≡ drop l c.lists
rings_from_are w c r l zero e = sym (drop_all l c.lists (omega arith))
rings_from_are w c r l (suc k) e =
    let h : l < length c.lists = omega arith in
    let A = r.apart in let xs : List ℕ = list_at c.lists l in
    let below : (x : ℕ) → 1 ≤ count_in x xs → x < c.nodes = λ x hx. (let g = count_at x c.lists l in A.below x (omega arith)) in
    let once : (x : ℕ) → count_in x xs ≤ 1 = λ x. (let g = count_at x c.lists l in let o = A.once x in omega arith) in
    let first = followed_is w c.nodes c.nodes (c.nodes + l) xs (c.nodes + l) (r.rings l h) below (omega arith) (few_below c.nodes xs once below) in
    let next : c.nodes + l + 1 ≡ c.nodes + (l + 1) = omega arith in
    let rest = ap (λ a. rings_from w.next c.nodes a k) next ∙ rings_from_are w c r (l + 1) k (omega arith) in
    ap (λ us. us ∷ rings_from w.next c.nodes (c.nodes + l + 1) k) first ∙ ap (λ us. xs ∷ us) rest ∙ sym (drop_more c.lists l [] h)

pub lists_are : (w : Wires) (c : Lists) → IsRings w c → lists_of w c.nodes ≡ c
lists_are w c r =
    let n = r.nexts in let k : length w.next - c.nodes ≡ length c.lists = omega arith in let z : c.nodes ≡ c.nodes + 0 = omega arith in
    let e : rings_from w.next c.nodes c.nodes (length w.next - c.nodes) ≡ c.lists =
    ap (λ j. rings_from w.next c.nodes c.nodes j) k ∙ ap (λ a. rings_from w.next c.nodes a (length c.lists)) z
    ∙ rings_from_are w c r 0 (length c.lists) (omega arith) in
    λ i. record { nodes = c.nodes; lists = e i }

-- what is in a list is no ring of its own
pub listed_leads_on : (w : Wires) (c : Lists) (l x : ℕ) (xs ys : List ℕ) → IsRings w c → l < length c.lists → list_at c.lists l ≡ xs ++ x ∷ ys
    → get_or w.next x 0 ≢ x
listed_leads_on w c l x xs ys r h e f =
    let a : ℕ = c.nodes + l in
    let chain = chain_split w a xs (x ∷ ys) a (subst (λ zs. IsChain w a zs a) e (r.rings l h)) in
    let once : count_in x (a ∷ (xs ++ x ∷ ys)) ≤ 1 = subst (λ zs. count_in x (a ∷ zs) ≤ 1) e (ring_once c r.apart l x) in
    let g = count_same x x ys refl in let t = count-append x (a ∷ xs) (x ∷ ys) in
    let x-out : count_in x ys ≡ 0 = omega arith in
    let stands : count_in x (a ∷ xs) ≡ 0 = omega arith in
    first_differs x ys a x-out (λ k. lacks_head x a xs stands (sym k)) (sym f ∙ chain_begins w x ys a chain.1)
