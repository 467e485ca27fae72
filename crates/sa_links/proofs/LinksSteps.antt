-- What the calls of `Links` read of the nodes, and what they leave of the lists.
--     count_is, head_is      the count of nodes, and the slot of a list's head
--     front_read, back_read, free_read      what the nodes say of a list's ends, and of a node in no list
--     after_change      the nodes after a change of links
--     pushed_front, pushed_back, removed, popped_front, popped_back, unlinked, moved      the rings after a call
use Rattle.std.proofs.Common.{Option, ◌≡◌, ◌≢◌, ℕ, zero, suc, ◌+◌, ◌-◌, ◌≤◌, ◌<◌, ◌↔◌, cond, Bool, true, false, eqb, List, [], ◌∷◌, ◌++◌, length, get_or, set, take, drop, replicate, Some, None, slice_get, refl, sym, ap, ◌∙◌, subst, inl, inr, arith}
use Rattle.std.specs.Ptr.{Ptr}
use Rattle.std.proofs.lemmas.Bool.{cases_eq, cases_lt, eq-eqb, eqb-true, false≢true, lt-ltb, le-ltb}
use Rattle.std.proofs.lemmas.List.{get_or-map, length-map, set-get_or, append-nil, length-replicate, length-append, get_or_past}
use Rattle.std.specs.Option.{IfSome, option_eq, is_some}
use Rattle.sa_links.specs.declared.node.Node.{Node, out-Node}
use Rattle.sa_links.specs.Lists.{IsFree, IsIn, IsListed, IsNext, Lists, count_in, count_in_all, list_at, with_list, without}
use Rattle.sa_links.specs.Rings.{Wires, joined, IsEdge, IsChain, IsRings, lists_of}
use Rattle.sa_links.specs.Wiring.{IsNodeSlot, node_index, next_of, prev_of, number_of, wires_of, number_at, AreNumbered, AreLinked, IsRelinked, IsLinks}
use Rattle.std.proofs.lemmas.List.Sums.{sum_by-cons}
use Rattle.sa_links.proofs.Counting.{count_same, count-append, count-cons-ge, count-replicate, empty_lists, count_set, count_at, stands_between, without_between}
use Rattle.sa_links.proofs.Chains.{last_of, first_of, last_in, chain_begins, chain_ends, chain_split, edge_made, edge_kept}
use Rattle.sa_links.proofs.RingChanges.{lists_are, ring_with, ring_without, rings_moved, listed_leads_on}
use Rattle.sa_links.proofs.Joining.{out_prev, out_next, out_number}

pub with_same : (v : Lists) (l : ℕ) (xs : List ℕ) → xs ≡ list_at v.lists l → with_list v l xs ≡ v
with_same v l xs e = let f : set v.lists l xs ≡ v.lists = ap (λ ys. set v.lists l ys) e ∙ set-get_or v.lists l [] in
    λ i. record { nodes = v.nodes; lists = f i }

-- the ends of a list
pub front_of : (count : ℕ) (xs : List ℕ) (z : ℕ) → count ≤ z → ((x : ℕ) → 1 ≤ count_in x xs → x < count) → number_at count (first_of xs z) ≡ slice_get xs 0
front_of count [] z hz below = ap (λ b. cond b (Some z) None) (le-ltb z count hz)
front_of count (x ∷ xs) z hz below = let s = count_same x x xs refl in ap (λ b. cond b (Some x) None) (lt-ltb x count (below x (omega arith)))

pub last_got : (x : ℕ) (xs : List ℕ) → slice_get (x ∷ xs) (length xs) ≡ Some (last_of x xs)
last_got x [] = refl
last_got x (y ∷ ys) = last_got y ys

length_less : (x : ℕ) (xs : List ℕ) → length (x ∷ xs) - 1 ≡ length xs
length_less x xs = omega arith

pub back_of : (count a : ℕ) (xs : List ℕ) → count ≤ a → ((x : ℕ) → 1 ≤ count_in x xs → x < count)
    → number_at count (last_of a xs) ≡ slice_get xs (length xs - 1)
back_of count a [] ha below = ap (λ b. cond b (Some a) None) (le-ltb a count ha)
back_of count a (x ∷ xs) ha below =
    let h : last_of x xs < count = below (last_of x xs) (last_in x xs) in
    ap (λ b. cond b (Some (last_of x xs)) None) (lt-ltb (last_of x xs) count h) ∙ sym (last_got x xs) ∙ ap (λ n. slice_get (x ∷ xs) n) (sym (length_less x xs))

-- a list whose last number is x
pub back_splits : (x a : ℕ) (xs : List ℕ) → slice_get xs (length xs - 1) ≡ Some x → (xs ≡ take (length xs - 1) xs ++ x ∷ []) × (last_of a xs ≡ x)
back_splits x a [] e = absurd (cc)
back_splits x a (y ∷ ys) e =
    let got : Some (last_of y ys) ≡ Some x = sym (last_got y ys) ∙ ap (λ n. slice_get (y ∷ ys) n) (sym (length_less y ys)) ∙ e in
    let last : last_of y ys ≡ x = cc in
    (whole y ys ∙ ap (λ z. take (length ys) (y ∷ ys) ++ z ∷ []) last ∙ ap (λ n. take n (y ∷ ys) ++ x ∷ []) (sym (length_less y ys)), last)
  where
    whole : (z : ℕ) (zs : List ℕ) → z ∷ zs ≡ take (length zs) (z ∷ zs) ++ last_of z zs ∷ []
    whole z [] = refl
    whole z (w ∷ ws) = ap (λ us. z ∷ us) (whole w ws)

pub front_splits : (x z : ℕ) (xs : List ℕ) → slice_get xs 0 ≡ Some x → (xs ≡ x ∷ drop 1 xs) × (first_of xs z ≡ x)
front_splits x z [] e = absurd (cc)
front_splits x z (y ∷ ys) e = let f : y ≡ x = cc in (ap (λ w. w ∷ ys) f, f)

-- an empty list stays so
pub none_first : (xs : List ℕ) → None ≡ slice_get xs 0 → drop 1 xs ≡ xs
none_first [] e = refl
none_first (x ∷ xs) e = absurd (cc)

pub none_last : (xs : List ℕ) → None ≡ slice_get xs (length xs - 1) → take (length xs - 1) xs ≡ xs
none_last [] e = refl
none_last (x ∷ xs) e = let f : None ≡ Some (last_of x xs) = e ∙ ap (λ n. slice_get (x ∷ xs) n) (length_less x xs) ∙ last_got x xs in absurd (cc)

-- reading
pub number_read : (count : ℕ) (nodes : List Node) (i : ℕ) (n : Node) → AreNumbered count nodes → i < length nodes → n ≡ get_or nodes i n
    → (out-Node n).number ≡ number_at count i
number_read count nodes i n numbered h e = out_number n ∙ ap number_of e ∙ sym (get_or-map number_of nodes i n None h) ∙ numbered i

pub next_read : (base : Ptr) (nodes : List Node) (i : ℕ) (n : Node) → i < length nodes → n ≡ get_or nodes i n
    → node_index base (out-Node n).next.ptr ≡ get_or (wires_of base nodes).next i 0
next_read base nodes i n h e = let f : Node → ℕ = λ x. node_index base (next_of x) in
    ap (node_index base) (out_next n) ∙ ap f e ∙ sym (get_or-map f nodes i n 0 h)

pub prev_read : (base : Ptr) (nodes : List Node) (i : ℕ) (n : Node) → i < length nodes → n ≡ get_or nodes i n
    → node_index base (out-Node n).prev.ptr ≡ get_or (wires_of base nodes).prev i 0
prev_read base nodes i n h e = let f : Node → ℕ = λ x. node_index base (prev_of x) in
    ap (node_index base) (out_prev n) ∙ ap f e ∙ sym (get_or-map f nodes i n 0 h)

pub next_inside : (base : Ptr) (nodes : List Node) (i : ℕ) (n : Node) → AreLinked base nodes → i < length nodes → n ≡ get_or nodes i n
    → IsNodeSlot base (length nodes) (out-Node n).next.ptr
next_inside base nodes i n linked h e = subst (λ p. IsNodeSlot base (length nodes) p) (ap next_of (sym e) ∙ sym (out_next n)) (linked i n h).next

pub prev_inside : (base : Ptr) (nodes : List Node) (i : ℕ) (n : Node) → AreLinked base nodes → i < length nodes → n ≡ get_or nodes i n
    → IsNodeSlot base (length nodes) (out-Node n).prev.ptr
prev_inside base nodes i n linked h e = subst (λ p. IsNodeSlot base (length nodes) p) (ap prev_of (sym e) ∙ sym (out_prev n)) (linked i n h).prev

-- the nodes of a `Links` that is seen as v
module _ {begin : Ptr} (base : Ptr) (nodes : List Node) (count : ℕ) (v : Lists) (view : lists_of (wires_of base nodes) count ≡ v)
    (I : IsLinks begin base nodes count) where
  abbrev w : Wires
  w = wires_of base nodes

  pub count_is : count ≡ v.nodes
  count_is = ap (λ c. c.nodes) view

  pub rings_are : IsRings w v
  rings_are = subst (λ c. IsRings w c) view I.rings

  pub size_is : length nodes ≡ v.nodes + length v.lists
  size_is = sym (length-map nodes (λ n. node_index base (next_of n))) ∙ rings_are.nexts

  below : (l x : ℕ) → 1 ≤ count_in x (list_at v.lists l) → x < v.nodes
  below l x h = let g = count_at x v.lists l in let A = rings_are.apart in A.below x (omega arith)

  module _ (l : ℕ) (hl : l < length v.lists) (a : ℕ) (head : a ≡ count + l) where
    pub head_is : a ≡ v.nodes + l
    head_is = let e = count_is in omega arith

    pub first_led : get_or w.next a 0 ≡ first_of (list_at v.lists l) (v.nodes + l)
    first_led = ap (λ k. get_or w.next k 0) head_is ∙ chain_begins w (v.nodes + l) (list_at v.lists l) (v.nodes + l) (rings_are.rings l hl)

    pub last_led : get_or w.prev a 0 ≡ last_of (v.nodes + l) (list_at v.lists l)
    last_led = ap (λ k. get_or w.prev k 0) head_is ∙ chain_ends w (v.nodes + l) (list_at v.lists l) (v.nodes + l) (rings_are.rings l hl)

    module _ (n m : Node) (inside : a < length nodes) (read-n : n ≡ get_or nodes a n) where
      pub front_read : m ≡ get_or nodes (node_index base (out-Node n).next.ptr) m → (out-Node m).number ≡ slice_get (list_at v.lists l) 0
      front_read read-m =
          let i : ℕ = node_index base (out-Node n).next.ptr in
          let i-is : i ≡ first_of (list_at v.lists l) (v.nodes + l) = next_read base nodes a n inside read-n ∙ first_led in
          let at = next_inside base nodes a n I.linked inside read-n in
          number_read count nodes i m I.numbered at.inside read-m ∙ ap (λ c. number_at c i) count_is ∙ ap (number_at v.nodes) i-is
          ∙ front_of v.nodes (list_at v.lists l) (v.nodes + l) (omega arith) (below l)

      pub back_read : m ≡ get_or nodes (node_index base (out-Node n).prev.ptr) m
          → (out-Node m).number ≡ slice_get (list_at v.lists l) (length (list_at v.lists l) - 1)
      back_read read-m =
          let i : ℕ = node_index base (out-Node n).prev.ptr in
          let i-is : i ≡ last_of (v.nodes + l) (list_at v.lists l) = prev_read base nodes a n inside read-n ∙ last_led in
          let at = prev_inside base nodes a n I.linked inside read-n in
          number_read count nodes i m I.numbered at.inside read-m ∙ ap (λ c. number_at c i) count_is ∙ ap (number_at v.nodes) i-is
          ∙ back_of v.nodes (v.nodes + l) (list_at v.lists l) (omega arith) (below l)

  module _ (base' : Ptr) (nodes' : List Node) (v' : Lists) (R : IsRelinked base nodes base' nodes') (r : IsRings (wires_of base' nodes') v')
      (same : v'.nodes ≡ v.nodes) where
    pub view_after : lists_of (wires_of base' nodes') count ≡ v'
    view_after = ap (lists_of (wires_of base' nodes')) (count_is ∙ sym same) ∙ lists_are (wires_of base' nodes') v' r

    pub links_after : IsLinks begin base' nodes' count
    links_after = record {
      begins = I.begins ∙ sym R.block;
      linked = R.linked I.linked;
      numbered = λ k. ap (λ ns. get_or ns k None) R.numbers ∙ I.numbered k;
      rings = subst (λ c. IsRings (wires_of base' nodes') c) (sym view_after) r;
    }

-- what the calls leave of the rings
pub pushed_front : (w w' : Wires) (v : Lists) (l x a x' : ℕ) → IsRings w v → l < length v.lists → x < v.nodes → IsFree v x → a ≡ v.nodes + l → x' ≡ x
    → w' ≡ joined (joined w a x') x' (get_or w.next a 0) → IsRings w' (with_list v l (x ∷ list_at v.lists l))
pushed_front w w' v l x a x' r hl hx free ha hx' e =
    let n : ℕ = v.nodes + l in let xs : List ℕ = list_at v.lists l in
    let led : get_or w.next a 0 ≡ first_of xs n = ap (λ k. get_or w.next k 0) ha ∙ chain_begins w n xs n (r.rings l hl) in
    let e' : w' ≡ joined (joined w n x) x (first_of xs n) = e ∙ (λ i. joined (joined w (ha i) (hx' i)) (hx' i) (led i)) in
    subst (λ u. IsRings u (with_list v l (x ∷ xs))) (sym e') (ring_with w v l x [] xs r hl refl hx free)

last_leads : (w : Wires) (a : ℕ) (xs : List ℕ) (z : ℕ) → IsChain w a xs z → get_or w.next (last_of a xs) 0 ≡ z
last_leads w a [] z c = c.forth
last_leads w a (x ∷ xs) z c = last_leads w x xs z c.1

pub pushed_back : (w w' : Wires) (v : Lists) (l x a x' : ℕ) → IsRings w v → l < length v.lists → x < v.nodes → IsFree v x
    → a ≡ last_of (v.nodes + l) (list_at v.lists l) → x' ≡ x
    → w' ≡ joined (joined w a x') x' (get_or w.next a 0) → IsRings w' (with_list v l (list_at v.lists l ++ x ∷ []))
pushed_back w w' v l x a x' r hl hx free ha hx' e =
    let n : ℕ = v.nodes + l in let xs : List ℕ = list_at v.lists l in
    let led : get_or w.next a 0 ≡ n = ap (λ k. get_or w.next k 0) ha ∙ last_leads w n xs n (r.rings l hl) in
    let e' : w' ≡ joined (joined w (last_of n xs) x) x n = e ∙ (λ i. joined (joined w (ha i) (hx' i)) (hx' i) (led i)) in
    subst (λ u. IsRings u (with_list v l (xs ++ x ∷ []))) (sym e') (ring_with w v l x xs [] r hl (sym (append-nil xs)) hx free)

module _ (w w' : Wires) (v : Lists) (l x i : ℕ) (xs ys : List ℕ) (r : IsRings w v) (hl : l < length v.lists) (e : list_at v.lists l ≡ xs ++ x ∷ ys) where
  pub freed : IsFree (with_list v l (xs ++ ys)) x
  freed =
      let A = r.apart in let s = count_set x v.lists l (xs ++ ys) hl in let f = ap (count_in x) e in
      let t = count-append x xs (x ∷ ys) in let t' = count-append x xs ys in let g = count_same x x ys refl in let o = A.once x in omega arith

  pub removed : i ≡ x → w' ≡ joined (joined w (get_or w.prev i 0) (get_or w.next i 0)) i i → IsRings w' (with_list v l (xs ++ ys))
  removed hi f =
      let n : ℕ = v.nodes + l in
      let chain : IsChain w n (xs ++ x ∷ ys) n = subst (λ zs. IsChain w n zs n) e (r.rings l hl) in
      let parts = split w n xs ys n chain in
      let p : get_or w.prev i 0 ≡ last_of n xs = ap (λ k. get_or w.prev k 0) hi ∙ parts.0 in
      let q : get_or w.next i 0 ≡ first_of ys n = ap (λ k. get_or w.next k 0) hi ∙ parts.1 in
      let f' : w' ≡ joined (joined w (last_of n xs) (first_of ys n)) x x = f ∙ (λ k. joined (joined w (p k) (q k)) (hi k) (hi k)) in
      subst (λ u. IsRings u (with_list v l (xs ++ ys))) (sym f') (ring_without w v l x xs ys r hl e)
    where
      split : (u : Wires) (a : ℕ) (us vs : List ℕ) (z : ℕ) → IsChain u a (us ++ x ∷ vs) z
          → (get_or u.prev x 0 ≡ last_of a us) × (get_or u.next x 0 ≡ first_of vs z)
      split u a [] vs z c = (c.0.back, chain_begins u x vs z c.1)
      split u a (y ∷ us) vs z c = split u y us vs z c.1

module _ (w w' : Wires) (v : Lists) (l x i : ℕ) (r : IsRings w v) (hl : l < length v.lists) where
  abbrev xs : List ℕ
  xs = list_at v.lists l

  module _ (got : slice_get xs 0 ≡ Some x) where
    front-is : xs ≡ [] ++ x ∷ drop 1 xs
    front-is = (front_splits x 0 xs got).0

    pub popped_front : i ≡ first_of xs (v.nodes + l) → w' ≡ joined (joined w (get_or w.prev i 0) (get_or w.next i 0)) i i
        → IsRings w' (with_list v l (drop 1 xs))
    popped_front hi f = removed w w' v l x i [] (drop 1 xs) r hl front-is (hi ∙ (front_splits x (v.nodes + l) xs got).1) f

    pub front_freed : IsFree (with_list v l (drop 1 xs)) x
    front_freed = freed w w' v l x i [] (drop 1 xs) r hl front-is

  module _ (got : slice_get xs (length xs - 1) ≡ Some x) where
    abbrev front : List ℕ
    front = take (length xs - 1) xs

    back-is : xs ≡ front ++ x ∷ []
    back-is = (back_splits x 0 xs got).0

    pub popped_back : i ≡ last_of (v.nodes + l) xs → w' ≡ joined (joined w (get_or w.prev i 0) (get_or w.next i 0)) i i → IsRings w' (with_list v l front)
    popped_back hi f =
        subst (λ zs. IsRings w' (with_list v l zs)) (append-nil front)
        (removed w w' v l x i front [] r hl back-is (hi ∙ (back_splits x (v.nodes + l) xs got).1) f)

    pub back_freed : IsFree (with_list v l front) x
    back_freed = subst (λ zs. IsFree (with_list v l zs) x) (append-nil front) (freed w w' v l x i front [] r hl back-is)

  module _ (stands : IsIn x xs) where
    abbrev parts : (front : List ℕ) × (back : List ℕ) × (xs ≡ front ++ x ∷ back)
    parts = stands_between x xs stands

    without-is : without x xs ≡ parts.0 ++ parts.1
    without-is =
        let A = r.apart in let g = count_at x v.lists l in let o = A.once x in
        let once : count_in x (parts.0 ++ x ∷ parts.1) ≤ 1 = subst (λ zs. count_in x zs ≤ 1) parts.2 (omega arith) in
        ap (without x) parts.2 ∙ without_between x parts.0 parts.1 once

    pub stands_below : x < v.nodes
    stands_below = let A = r.apart in let g = count_at x v.lists l in A.below x (omega arith)

    pub unlinked : i ≡ x → w' ≡ joined (joined w (get_or w.prev i 0) (get_or w.next i 0)) i i → IsRings w' (with_list v l (without x xs))
    unlinked hi f = subst (λ zs. IsRings w' (with_list v l zs)) (sym without-is) (removed w w' v l x i parts.0 parts.1 r hl parts.2 hi f)

    pub unlinked_freed : IsFree (with_list v l (without x xs)) x
    unlinked_freed = subst (λ zs. IsFree (with_list v l zs) x) (sym without-is) (freed w w' v l x i parts.0 parts.1 r hl parts.2)

    pub stands_leads_on : get_or w.next x 0 ≢ x
    stands_leads_on = listed_leads_on w v l x parts.0 parts.1 r hl parts.2

-- what is in the lists is in one of them
stands_somewhere : (x : ℕ) (ls : List (List ℕ)) → 1 ≤ count_in_all x ls → (l : ℕ) × (l < length ls) × IsIn x (list_at ls l)
stands_somewhere x [] h = absurd (omega arith)
stands_somewhere x (xs ∷ ls) h = elim (cases_lt (count_in x xs) 1) [
  | inl none ↦ let s = sum_by-cons (count_in x) xs ls in let r = stands_somewhere x ls (omega arith) in (suc r.0, omega (arith, r.1), r.2)
  | inr some ↦ (0, omega arith, some)
]

free_read_back : (n x i : ℕ) → option_eq eqb (number_at n i) (Some x) ≡ true → i ≡ x
free_read_back n x i e = elim (cases_lt i n) [
  | inl h ↦ eqb-true i x (sym (ap (λ b. option_eq eqb (cond b (Some i) None) (Some x)) (lt-ltb i n h)) ∙ e)
  | inr h ↦ absurd (false≢true (sym (ap (λ b. option_eq eqb (cond b (Some i) None) (Some x)) (le-ltb i n h)) ∙ e))
]

pub free_is : (w : Wires) (v : Lists) (x i : ℕ) (t : Bool) → IsRings w v → x < v.nodes → i ≡ get_or w.next x 0
    → t ≡ option_eq eqb (number_at v.nodes i) (Some x) → (t ≡ true) ↔ IsFree v x
free_is w v x i t r hx hi e = (
  (λ yes.
      let led : i ≡ x = free_read_back v.nodes x i (sym e ∙ yes) in
      elim (cases_eq (count_in_all x v.lists) 0) [
        | inl none ↦ none
        | inr some ↦ let at = stands_somewhere x v.lists (omega arith) in absurd (stands_leads_on w w v at.0 x 0 r at.1 at.2 (sym hi ∙ led))
      ]),
  λ free.
      let edge = r.lone x hx free in
      e ∙ ap (λ k. option_eq eqb (number_at v.nodes k) (Some x)) (hi ∙ edge.forth)
      ∙ ap (λ b. option_eq eqb (cond b (Some x) None) (Some x)) (lt-ltb x v.nodes hx) ∙ eq-eqb x x refl,
)

pub moved_none : (v : Lists) (l m : ℕ) → is_some (slice_get (list_at v.lists m) 0) ≡ false
    → v ≡ with_list (with_list v l (list_at v.lists l ++ list_at v.lists m)) m []
moved_none v l m e = go (list_at v.lists m) refl e
  where
    go : (zs : List ℕ) → list_at v.lists m ≡ zs → is_some (slice_get zs 0) ≡ false → v ≡ with_list (with_list v l (list_at v.lists l ++ list_at v.lists m)) m []
    go [] is e =
        let first : with_list v l (list_at v.lists l ++ list_at v.lists m) ≡ v =
        with_same v l _ (ap (λ us. list_at v.lists l ++ us) is ∙ append-nil (list_at v.lists l)) in
        sym (ap (λ u. with_list u m []) first ∙ with_same v m [] (sym is))
    go (z ∷ zs) is e = absurd (false≢true (sym e))

pub moved : (w w₁ w₂ w₃ : Wires) (v : Lists) (l m e f b s t : ℕ) → IsRings w v → l ≢ m → l < length v.lists → m < length v.lists
    → is_some (slice_get (list_at v.lists m) 0) ≡ true
    → e ≡ last_of (v.nodes + l) (list_at v.lists l) → f ≡ first_of (list_at v.lists m) (v.nodes + m) → b ≡ last_of (v.nodes + m) (list_at v.lists m)
    → s ≡ v.nodes + l → t ≡ v.nodes + m
    → w₁ ≡ joined w e f → w₂ ≡ joined w₁ b s → w₃ ≡ joined w₂ t t → IsRings w₃ (with_list (with_list v l (list_at v.lists l ++ list_at v.lists m)) m [])
moved w w₁ w₂ w₃ v l m e f b s t r ne hl hm some he hf hb hs ht f₁ f₂ f₃ = go (list_at v.lists m) refl some
  where
    go : (zs : List ℕ) → list_at v.lists m ≡ zs → is_some (slice_get zs 0) ≡ true
        → IsRings w₃ (with_list (with_list v l (list_at v.lists l ++ list_at v.lists m)) m [])
    go [] is none = absurd (false≢true none)
    go (z ∷ zs) is full =
        let f-is : f ≡ z = hf ∙ ap (λ us. first_of us (v.nodes + m)) is in
        let b-is : b ≡ last_of z zs = hb ∙ ap (last_of (v.nodes + m)) is in
        let all : w₃ ≡ joined (joined (joined w (last_of (v.nodes + l) (list_at v.lists l)) z) (last_of z zs) (v.nodes + l)) (v.nodes + m) (v.nodes + m) =
        f₃ ∙ ap (λ u. joined u t t) (f₂ ∙ ap (λ u. joined u b s) f₁) ∙ (λ i. joined (joined (joined w (he i) (f-is i)) (b-is i) (hs i)) (ht i) (ht i)) in
        subst (λ u. IsRings u (with_list (with_list v l (list_at v.lists l ++ list_at v.lists m)) m [])) (sym all) (rings_moved w v l m z zs r ne hl hm is)

-- one more node is closed in itself
pub closed_more : (w w' : Wires) (i a size : ℕ) → a ≡ i → i < size → length w.next ≡ size → length w.prev ≡ size → w' ≡ joined w a a
    → ((k : ℕ) → k < i → IsEdge w k k) → (k : ℕ) → k < i + 1 → IsEdge w' k k
closed_more w w' i a size ha h n n' e closed k hk =
    let e' : w' ≡ joined w i i = e ∙ ap (λ b. joined w b b) ha in
    subst (λ u. IsEdge u k k) (sym e') (elim (cases_eq k i) [
      | inl here ↦ subst (λ z. IsEdge (joined w i i) z z) (sym here) (edge_made w i i (omega arith) (omega arith))
      | inr other ↦ edge_kept w i i k k (closed k (omega arith)) other other
    ])

pub wires_size : (base : Ptr) (nodes : List Node) → (length (wires_of base nodes).next ≡ length nodes) × (length (wires_of base nodes).prev ≡ length nodes)
wires_size base nodes = (length-map nodes (λ n. node_index base (next_of n)), length-map nodes (λ n. node_index base (prev_of n)))

-- nodes that are each closed in themselves are empty lists
pub closed_rings : (w : Wires) (count lists : ℕ) → length w.next ≡ count + lists → length w.prev ≡ count + lists → ((k : ℕ) → k < count + lists → IsEdge w k k)
    → IsRings w (record { nodes = count; lists = replicate lists [] })
closed_rings w count lists n n' closed =
    let size : length (replicate {A = List ℕ} lists []) ≡ lists = length-replicate lists [] in
    record {
      nexts = omega arith;
      prevs = omega arith;
      apart = record { below = λ x h. (let z = count-replicate x lists in absurd (omega arith)); once = λ x. (let z = count-replicate x lists in omega arith) };
      rings = λ l h. subst (λ xs. IsChain w (count + l) xs (count + l)) (sym (empty_lists lists l)) (closed (count + l) (omega arith));
      lone = λ x hx free. closed x (omega arith);
    }

pub new_lists : (begin base base' : Ptr) (nodes nodes' : List Node) (count lists : ℕ) → length nodes ≡ count + lists → AreNumbered count nodes
    → AreLinked base nodes → begin ≡ base
    → IsRelinked base nodes base' nodes' → ((k : ℕ) → k < length nodes → IsEdge (wires_of base' nodes') k k)
    → (lists_of (wires_of base' nodes') count ≡ record { nodes = count; lists = replicate lists [] }) × IsLinks begin base' nodes' count
new_lists begin base base' nodes nodes' count lists size numbered linked begins R closed =
    let w' : Wires = wires_of base' nodes' in let lens = wires_size base' nodes' in let n = lens.0 in let p = lens.1 in let s = R.size in
    let r = closed_rings w' count lists (omega arith) (omega arith) (λ k h. closed k (omega arith)) in
    let view = lists_are w' (record { nodes = count; lists = replicate lists [] }) r in (
      view,
      record {
        begins = begins ∙ sym R.block;
        linked = R.linked linked;
        numbered = λ k. ap (λ ns. get_or ns k None) R.numbers ∙ numbered k;
        rings = subst (λ c. IsRings w' c) (sym view) r;
      },
    )

-- what the links of a listed node say
pub next_is : (w : Wires) (v : Lists) (x i : ℕ) → IsRings w v → i ≡ get_or w.next x 0 → IsNext v x (number_at v.nodes i)
next_is w v x i r hi l xs ys e = elim (cases_lt l (length v.lists)) [
  | inl h ↦
      let n : ℕ = v.nodes + l in
      let parts = chain_split w n xs (x ∷ ys) n (subst (λ zs. IsChain w n zs n) e (r.rings l h)) in
      let led : i ≡ first_of ys n = hi ∙ chain_begins w x ys n parts.1 in
      let below : (k : ℕ) → 1 ≤ count_in k ys → k < v.nodes = λ k hk.
      (let A = r.apart in let a = count_at k v.lists l in let f = ap (count_in k) e in let t = count-append k xs (x ∷ ys) in let g = count-cons-ge k x ys in
      A.below k (omega arith)) in
      ap (number_at v.nodes) led ∙ front_of v.nodes ys n (omega arith) below
  | inr h ↦ let none : [] ≡ xs ++ x ∷ ys = sym (get_or_past v.lists l [] h) ∙ e in let f = ap length none in let g = length-append xs (x ∷ ys) in
      absurd (omega arith)
]

-- what a list has at a slot is in it
if_some : (o : Option ℕ) (P Q : ℕ → Type 0) → ((x : ℕ) → P x → Q x) → IfSome o P → IfSome o Q
if_some None P Q f h = tt
if_some (Some x) P Q f h = f x h

pub some_stands : (xs : List ℕ) (k : ℕ) → IfSome (slice_get xs k) (λ x. IsIn x xs)
some_stands [] k = tt
some_stands (x ∷ xs) zero = let c = count_same x x xs refl in omega arith
some_stands (x ∷ xs) (suc k) =
    if_some (slice_get xs k) (λ y. IsIn y xs) (λ y. IsIn y (x ∷ xs)) (λ y h. (let g = count-cons-ge y x xs in omega arith)) (some_stands xs k)

pub some_listed : (v : Lists) (l k : ℕ) → IfSome (slice_get (list_at v.lists l) k) (IsListed v)
some_listed v l k =
    if_some (slice_get (list_at v.lists l) k) (λ x. IsIn x (list_at v.lists l)) (IsListed v) (λ x h. (let a = count_at x v.lists l in omega arith))
    (some_stands (list_at v.lists l) k)

pub got_below : (w : Wires) (v : Lists) (l k x : ℕ) → IsRings w v → slice_get (list_at v.lists l) k ≡ Some x → x < v.nodes
got_below w v l k x r e =
    let h : IfSome (Some x) (IsListed v) = subst (λ o. IfSome o (IsListed v)) e (some_listed v l k) in let A = r.apart in A.below x h

-- the one after a listed node is listed too
pub next_listed : (w : Wires) (v : Lists) (x : ℕ) (next : Option ℕ) → IsListed v x → IsNext v x next → IfSome next (IsListed v)
next_listed w v x next h is =
    let at = stands_somewhere x v.lists h in let parts = stands_between x (list_at v.lists at.0) at.2 in
    subst (λ o. IfSome o (IsListed v)) (sym (is at.0 parts.0 parts.1 parts.2))
    (if_some (slice_get parts.1 0) (λ y. IsIn y parts.1) (IsListed v)
    (λ y hy. (let e = ap (count_in y) parts.2 in let t = count-append y parts.0 (x ∷ parts.1) in let g = count-cons-ge y x parts.1 in
    let a = count_at y v.lists at.0 in omega arith))
    (some_stands parts.1 0))
