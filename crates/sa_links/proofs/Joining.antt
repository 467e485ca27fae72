-- What `join` leaves of the nodes: two of them are written, each with one new link.
use Rattle.std.proofs.Common.{◌≡◌, ℕ, ◌<◌, List, length, get_or, set, map, refl, sym, ap, ◌∙◌, subst}
use Rattle.std.proofs.lemmas.List.{length-set, map-set, set-get_or, get_or-map}
use Rattle.std.proofs.lemmas.List.Elements.{All-set}
use Rattle.std.specs.Ptr.{Ptr}
use Rattle.sa_links.specs.declared.block.Slot.{Slot}
use Rattle.sa_links.specs.declared.node.Node.{Node, Node', out-Node, roll-Node, rolls-Node', is-Node'}
use Rattle.sa_links.specs.Rings.{joined}
use Rattle.sa_links.specs.Wiring.{IsNodeSlot, node_index, prev_of, next_of, number_of, IsLinked, AreLinked, wires_of, numbers_of, IsRelinked}

pub out_prev : (n : Node) → (out-Node n).prev.ptr ≡ prev_of n
out_prev n = sym (ap prev_of (is-Node' n))

pub out_next : (n : Node) → (out-Node n).next.ptr ≡ next_of n
out_next n = sym (ap next_of (is-Node' n))

pub out_number : (n : Node) → (out-Node n).number ≡ number_of n
out_number n = sym (ap number_of (is-Node' n))

-- a node with one link changed
abbrev pub with_next : Node → Ptr → Node
with_next n q = Node' (prev_of n) q (number_of n)

abbrev pub with_prev : Node → Ptr → Node
with_prev n p = Node' p (next_of n) (number_of n)

pub rolled_next : (n : Node) (q : Slot Node) → roll-Node (record { prev = (out-Node n).prev; next = q; number = (out-Node n).number }) ≡ with_next n q.ptr
rolled_next n q = rolls-Node' (record { prev = (out-Node n).prev; next = q; number = (out-Node n).number }) ∙ (λ i. Node' (out_prev n i) q.ptr (out_number n i))

pub rolled_prev : (n : Node) (p : Slot Node) → roll-Node (record { prev = p; next = (out-Node n).next; number = (out-Node n).number }) ≡ with_prev n p.ptr
rolled_prev n p = rolls-Node' (record { prev = p; next = (out-Node n).next; number = (out-Node n).number }) ∙ (λ i. Node' p.ptr (out_next n i) (out_number n i))

-- what a write of a node that agrees with the old one leaves of a property of the nodes
kept : {X : Type 0} (f : Node → X) (nodes : List Node) (i : ℕ) (old new : Node) → i < length nodes → old ≡ get_or nodes i old → f new ≡ f old
    → map f (set nodes i new) ≡ map f nodes
kept f nodes i old new h at same =
    let read : f new ≡ get_or (map f nodes) i (f old) = same ∙ ap f at ∙ sym (get_or-map f nodes i old (f old) h) in
    map-set f nodes i new ∙ ap (λ x. set (map f nodes) i x) read ∙ set-get_or (map f nodes) i (f old)

module _ (base : Ptr) (nodes : List Node) (front back : Ptr) (n m : Node) (at-front : IsNodeSlot base (length nodes) front)
    (at-back : IsNodeSlot base (length nodes) back) where
  abbrev i : ℕ
  i = node_index base front

  abbrev j : ℕ
  j = node_index base back

  abbrev mid : List Node
  mid = set nodes i (with_next n back)

  abbrev end : List Node
  end = set mid j (with_prev m front)

  module _ (read-n : n ≡ get_or nodes i n) (read-m : m ≡ get_or mid j m) where
    j-inside : j < length mid
    j-inside = subst (λ k. j < k) (sym (length-set nodes i (with_next n back))) at-back.inside

    pub joined_wires : wires_of base end ≡ joined (wires_of base nodes) i j
    joined_wires =
        let N : Node → ℕ = λ x. node_index base (next_of x) in let P : Node → ℕ = λ x. node_index base (prev_of x) in
        let next : map N end ≡ set (map N nodes) i j = kept N mid j m (with_prev m front) j-inside read-m refl ∙ map-set N nodes i (with_next n back) in
        let prev : map P end ≡ set (map P nodes) j i =
        map-set P mid j (with_prev m front) ∙ ap (λ xs. set xs j i) (kept P nodes i n (with_next n back) at-front.inside read-n refl) in
        λ k. record { next = next k; prev = prev k }

    pub joined_size : length end ≡ length nodes
    joined_size = length-set mid j (with_prev m front) ∙ length-set nodes i (with_next n back)

    pub joined_numbers : numbers_of end ≡ numbers_of nodes
    joined_numbers = kept number_of mid j m (with_prev m front) j-inside read-m refl ∙ kept number_of nodes i n (with_next n back) at-front.inside read-n refl

    pub joined_linked : AreLinked base nodes → AreLinked base end
    joined_linked linked =
        let size : ℕ = length nodes in let L = IsLinked base size in
        let old : L n = subst L (sym read-n) (linked i n at-front.inside) in
        let first : L (with_next n back) = record { prev = old.prev; next = at-back } in
        let linked-mid = All-set L nodes i (with_next n back) first linked in
        let old' : L m = subst L (sym read-m) (linked-mid j m j-inside) in
        let second : L (with_prev m front) = record { prev = at-front; next = old'.next } in
        subst (λ k. (x : ℕ) (d : Node) → x < length end → IsLinked base k (get_or end x d)) (sym joined_size)
        (All-set L mid j (with_prev m front) second linked-mid)

    pub joined_relinked : (base' : Ptr) → base' ≡ base → IsRelinked base nodes base' end
    joined_relinked base' e =
        record { block = e; size = joined_size; numbers = joined_numbers; linked = λ l. subst (λ z. AreLinked z end) (sym e) (joined_linked l) }

-- the same, as the steps of `join` say it
module _ (base base₁ base₂ : Ptr) (nodes mid' new : List Node) (front back : Slot Node) (n m : Node)
    (at-front : IsNodeSlot base (length nodes) front.ptr) (at-back : IsNodeSlot base (length nodes) back.ptr) (e₁ : base₁ ≡ base) (e₂ : base₂ ≡ base₁)
    (read-n : n ≡ get_or nodes (node_index base front.ptr) n)
    (mid-is : mid' ≡ set nodes (node_index base front.ptr) (roll-Node (record { prev = (out-Node n).prev; next = back; number = (out-Node n).number })))
    (read-m : m ≡ get_or mid' (node_index base₁ back.ptr) m)
    (new-is : new ≡ set mid' (node_index base₁ back.ptr) (roll-Node (record { prev = front; next = (out-Node m).next; number = (out-Node m).number }))) where
  abbrev fp : Ptr
  fp = front.ptr

  abbrev bp : Ptr
  bp = back.ptr

  mid-spelled : mid' ≡ mid base nodes fp bp n m at-front at-back
  mid-spelled = mid-is ∙ ap (λ x. set nodes (node_index base fp) x) (rolled_next n back)

  read-m' : m ≡ get_or (mid base nodes fp bp n m at-front at-back) (node_index base bp) m
  read-m' = subst (λ ms. m ≡ get_or ms (node_index base bp) m) mid-spelled (subst (λ z. m ≡ get_or mid' (node_index z bp) m) e₁ read-m)

  new-spelled : new ≡ end base nodes fp bp n m at-front at-back
  new-spelled =
      subst (λ z. new ≡ set mid' (node_index z bp) (roll-Node (record { prev = front; next = (out-Node m).next; number = (out-Node m).number }))) e₁ new-is
      ∙ (λ k. set (mid-spelled k) (node_index base bp) (rolled_prev m front k))

  pub join_wires : wires_of base₂ new ≡ joined (wires_of base nodes) (node_index base fp) (node_index base bp)
  join_wires = (λ k. wires_of ((e₂ ∙ e₁) k) (new-spelled k)) ∙ joined_wires base nodes fp bp n m at-front at-back read-n read-m'

  pub join_relinked : IsRelinked base nodes base₂ new
  join_relinked =
      subst (λ ms. IsRelinked base nodes base₂ ms) (sym new-spelled) (joined_relinked base nodes fp bp n m at-front at-back read-n read-m' base₂ (e₂ ∙ e₁))

pub relinked_twice : (base : Ptr) (nodes : List Node) (base₁ : Ptr) (nodes₁ : List Node) (base₂ : Ptr) (nodes₂ : List Node)
    → IsRelinked base nodes base₁ nodes₁ → IsRelinked base₁ nodes₁ base₂ nodes₂ → IsRelinked base nodes base₂ nodes₂
relinked_twice base nodes base₁ nodes₁ base₂ nodes₂ a b = record {
  block = b.block ∙ a.block;
  size = b.size ∙ a.size;
  numbers = b.numbers ∙ a.numbers;
  linked = λ l. b.linked (a.linked l);
}

-- a slot of the nodes stays one
pub slot-relinked : (base : Ptr) (nodes : List Node) (base' : Ptr) (new : List Node) (p : Ptr) → IsRelinked base nodes base' new
    → IsNodeSlot base (length nodes) p → IsNodeSlot base' (length new) p
slot-relinked base nodes base' new p same at =
    subst (λ b. IsNodeSlot b (length new) p) (sym same.block) (subst (λ k. IsNodeSlot base k p) (sym same.size) at)
