-- What holds of the nodes of a new block: once one more is added, and once all are there.
use Rattle.std.proofs.Common.{◌≡◌, ℕ, ◌+◌, ◌<◌, ◌≤◌, List, [], ◌∷◌, ◌++◌, length, get_or, None, sym, ap, ◌∙◌, subst, inl, inr, arith, rules}
use Rattle.std.specs.Ptr.{Ptr}
use Rattle.std.proofs.lemmas.Bool.{cases_lt}
use Rattle.std.proofs.lemmas.List.{get_or-map, get_or_append_left, get_or_past, get_or_push, length_push, length-map}
use Rattle.sa_links.specs.declared.node.Node.{Node}
use Rattle.sa_links.specs.Wiring.{AreLinked, AreNumbered, IsNodeSlot, next_of, number_at, number_of, numbers_of, prev_of}

-- a node that is added stands after those that were there, which stay
grown : (nodes : List Node) (node d : Node) (n k : ℕ) → length nodes ≡ n → k < n + 1 → (P : Node → Type 0) → (k < n → P (get_or nodes k d)) → (k ≡ n → P node)
    → P (get_or (nodes ++ node ∷ []) k d)
grown nodes node d n k size h P old new = elim (cases_lt k n) [
  | inl lt ↦ subst P (sym (get_or_append_left nodes (node ∷ []) d k (omega arith))) (old lt)
  | inr ge ↦ subst P (sym (get_or_push nodes node d k (omega arith))) (new (omega arith))
]

-- the nodes stay numbered, if the one that is added has its number
pub numbered_more : (count n : ℕ) (nodes : List Node) (node : Node) → length nodes ≡ n → number_of node ≡ number_at count n
    → ((k : ℕ) → k < n → get_or (numbers_of nodes) k None ≡ number_at count k)
    → (k : ℕ) → k < n + 1 → get_or (numbers_of (nodes ++ node ∷ [])) k None ≡ number_at count k
numbered_more count n nodes node size own were k h =
    let long = length_push nodes node in
    get_or-map number_of (nodes ++ node ∷ []) k node None (omega arith)
    ∙ grown nodes node node n k size h (λ x. number_of x ≡ number_at count k) (λ lt. sym (get_or-map number_of nodes k node None (omega arith)) ∙ were k lt)
    (λ e. own ∙ ap (number_at count) (sym e))

-- the links lead to one place, if those of the node that is added do
pub linked_more : (at : Ptr) (n : ℕ) (nodes : List Node) (node : Node) → length nodes ≡ n → (prev_of node ≡ at) × (next_of node ≡ at)
    → ((k : ℕ) (d : Node) → k < n → (prev_of (get_or nodes k d) ≡ at) × (next_of (get_or nodes k d) ≡ at))
    → (k : ℕ) (d : Node) → k < n + 1
    → (prev_of (get_or (nodes ++ node ∷ []) k d) ≡ at) × (next_of (get_or (nodes ++ node ∷ []) k d) ≡ at)
linked_more at n nodes node size own were k d h =
    grown nodes node d n k size h (λ x. (prev_of x ≡ at) × (next_of x ≡ at)) (were k d) (λ _. own)

-- all are numbered then: past the heads there is no number
pub all_numbered : (count n : ℕ) (nodes : List Node) → length nodes ≡ n → count ≤ n
    → ((k : ℕ) → k < n → get_or (numbers_of nodes) k None ≡ number_at count k) → AreNumbered count nodes
all_numbered count n nodes size few were k = elim (cases_lt k n) [
  | inl lt ↦ were k lt
  | inr ge ↦
      let long = length-map nodes number_of in
      get_or_past (numbers_of nodes) k None (omega arith) ∙ sym (past count k (omega arith))
]
  where
    past : (count k : ℕ) → count ≤ k → number_at count k ≡ None
    past count k h = grind arith

-- links that lead to where the block begins lead to a node of it
pub all_linked : (at base : Ptr) (n : ℕ) (nodes : List Node) → length nodes ≡ n → base ≡ at
    → ((k : ℕ) (d : Node) → k < n → (prev_of (get_or nodes k d) ≡ at) × (next_of (get_or nodes k d) ≡ at)) → AreLinked base nodes
all_linked at base n nodes size e were k d h =
    let both = were k d (omega arith) in
    let here : IsNodeSlot base (length nodes) at = search rules in
    record {
      prev = subst (λ p. IsNodeSlot base (length nodes) p) (sym both.0) here;
      next = subst (λ p. IsNodeSlot base (length nodes) p) (sym both.1) here;
    }
