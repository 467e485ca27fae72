-- The processors in order, one after another.
use Rattle.std.proofs.Common.{◌≡◌, ℕ, ◌+◌, ◌%◌, ◌<◌, ◌≤◌, Bool, true, false, cond, List, [], ◌∷◌, length, map, find, drop, Option, Some, None, ◌⊎◌, inl, inr, refl, sym, ap, ◌∙◌, subst, arith}
use Rattle.std.specs.List.{range_with_len}
use Rattle.std.proofs.lemmas.List.{drop_more, length-map}
use Rattle.std.proofs.lemmas.List.FromFn.{get_or-map-range_with_len, length-range_with_len}
use Rattle.std.specs.Prelude.{All, IfSome}
use Rattle.std.proofs.lemmas.Option.{same_Some}
use Rattle.std.proofs.Math.Nat.{mod-eq_of_lt}
use Rattle.std.proofs.lemmas.Nat.{mod_below}
use Rattle.std.proofs.lemmas.List.Elements.{All-nil, All-cons, All-head, All-tail}
use Rattle.sa_base.specs.declared.number.ProcNo.{ProcNo}
use Rattle.sa_assign.specs.Reaim.{proc_no}
use Rattle.sa_debug.specs.Order.{in_order}

pub many-in_order : (first n : ℕ) → length (in_order first n) ≡ n
many-in_order first n = length-map (range_with_len 0 n) (λ (k : ℕ). proc_no ((first + k) % n)) ∙ length-range_with_len 0 n

either : {A : Type 0} (b : Bool) (x y z : A) → cond b x y ≡ z → (x ≡ z) ⊎ (y ≡ z)
either true x y z h = inl h
either false x y z h = inr h

-- from the k-th on
pub order-next : (first n k : ℕ) → k < n → drop k (in_order first n) ≡ proc_no ((first + k) % n) ∷ drop (k + 1) (in_order first n)
order-next first n k within =
    drop_more (in_order first n) k (proc_no 0) (omega (arith, many-in_order first n))
    ∙ ap (λ p. p ∷ drop (k + 1) (in_order first n)) (get_or-map-range_with_len (λ i. proc_no ((first + i) % n)) 0 n k k (proc_no 0) within (omega arith))

-- the search goes on, or is over
pub find-next : (test : ProcNo → Bool) (ps : List ProcNo) (p : ProcNo) (rest : List ProcNo) → ps ≡ p ∷ rest → test p ≡ false → find test ps ≡ find test rest
find-next test ps p rest is fails = ap (find test) is ∙ ap (λ b. cond b (Some p) (find test rest)) fails

pub find-here : (test : ProcNo → Bool) (ps : List ProcNo) (p : ProcNo) (rest : List ProcNo) → ps ≡ p ∷ rest → test p ≡ true → find test ps ≡ Some p
find-here test ps p rest is holds = ap (find test) is ∙ ap (λ b. cond b (Some p) (find test rest)) holds

drop-all : {A : Type 0} (xs : List A) → drop (length xs) xs ≡ []
drop-all [] = refl
drop-all (x ∷ xs) = drop-all xs

pub find-none : (test : ProcNo → Bool) (first n k : ℕ) → k ≡ n → find test (drop k (in_order first n)) ≡ None
find-none test first n k is = ap (λ i. find test (drop i (in_order first n))) (is ∙ sym (many-in_order first n)) ∙ ap (find test) (drop-all (in_order first n))

-- a processor that is found is one of them
below : (first n : ℕ) → 1 ≤ n → (ks : List ℕ) → All (λ p. p.0 < n) (map (λ k. proc_no ((first + k) % n)) ks)
below first n some [] = All-nil (λ (p : ProcNo). p.0 < n)
below first n some (k ∷ ks) =
    All-cons (λ (p : ProcNo). p.0 < n) (proc_no ((first + k) % n)) (map (λ i. proc_no ((first + i) % n)) ks) (mod_below (first + k) n some)
    (below first n some ks)

find-among : (P : ProcNo → Type 0) (test : ProcNo → Bool) (ps : List ProcNo) (p : ProcNo) → All P ps → find test ps ≡ Some p → P p
find-among P test [] p all h = absurd cc
find-among P test (q ∷ ps) p all h =
    elim (either (test q) (Some q) (find test ps) (Some p) h) [
      | inl here ↦ subst P (same_Some q p here) (All-head P q ps all)
      | inr later ↦ find-among P test ps p (All-tail P q ps all) later
    ]

pub found-within : (test : ProcNo → Bool) (first n : ℕ) (o : Option ProcNo) → 1 ≤ n → o ≡ find test (in_order first n) → IfSome o (λ p. p.0 < n)
found-within test first n None some is = tt
found-within test first n (Some p) some is = find-among (λ q. q.0 < n) test (in_order first n) p (below first n some (range_with_len 0 n)) (sym is)

-- the search begins with the first one
module _ (test : ProcNo → Bool) (first n : ℕ) (within : first < n) where
  is_first : (first + 0) % n ≡ first
  is_first = ap (λ (i : ℕ). i % n) (omega arith) ∙ mod-eq_of_lt within

  order-first : in_order first n ≡ proc_no first ∷ drop 1 (in_order first n)
  order-first = order-next first n 0 (omega arith) ∙ ap (λ i. proc_no i ∷ drop 1 (in_order first n)) is_first

  pub found-first : test (proc_no first) ≡ true → find test (in_order first n) ≡ Some (proc_no first)
  found-first goes = find-here test (in_order first n) (proc_no first) (drop 1 (in_order first n)) order-first goes

  pub missed-first : test (proc_no first) ≡ false → find test (in_order first n) ≡ find test (drop 1 (in_order first n))
  missed-first fails = find-next test (in_order first n) (proc_no first) (drop 1 (in_order first n)) order-first fails
