-- A search round the ready lists of a space, where no lock is held.
use Rattle.std.proofs.Common.{◌≡◌, ℕ, zero, suc, ◌+◌, ◌-◌, ◌%◌, ◌<◌, ◌≤◌, Bool, true, false, cond, not, ◌&&◌, nat_lt, List, [], ◌∷◌, ◌++◌, length, map, find, get_or, replicate, Some, inl, inr, refl, sym, ap, ◌∙◌, arith}
use Rattle.std.proofs.Math.Path.{fun_ext}
use Rattle.std.proofs.Math.Nat.{mod-eq_of_lt, add-mod_right}
use Rattle.std.specs.List.{range_with_len}
use Rattle.std.specs.Option.{option_map}
use Rattle.std.proofs.lemmas.Bool.{cases_lt, lt-ltb}
use Rattle.std.proofs.lemmas.List.{map-append, get_or-replicate, get_or_past, length-replicate}
use Rattle.sa_base.specs.declared.number.ProcNo.{ProcNo}
use Rattle.sa_links.specs.Lists.{list_at}
use Rattle.sa_lists.specs.ReadyView.{ReadyView, processor, is_locked, is_open, list_of, numbers_round, sought}
use Rattle.sa_vp_model.specs.Turn.{is_some_list}
use Rattle.sa_vp.specs.Ready.{IsUnlocked, round}

-- NUMBERS
shifted : (f : ℕ → ℕ) (a b n : ℕ) → ((k : ℕ) → k < n → f (a + k) ≡ b + k) → map f (range_with_len a n) ≡ range_with_len b n
shifted f a b zero same = refl
shifted f a b (suc n) same =
    let first : f a ≡ b = let a0 : a + 0 ≡ a = omega arith in let b0 : b + 0 ≡ b = omega arith in ap f (sym a0) ∙ same 0 (omega arith) ∙ b0 in
    let rest = shifted f (a + 1) (b + 1) n (λ k below. let a1 : a + 1 + k ≡ a + (k + 1) = omega arith in let b1 : b + (k + 1) ≡ b + 1 + k = omega arith in
    ap f a1 ∙ same (k + 1) (omega (arith, below)) ∙ b1) in
    ap (λ x. x ∷ map f (range_with_len (a + 1) n)) first ∙ ap (λ xs. b ∷ xs) rest

pub range-append : (a n m : ℕ) → range_with_len a (n + m) ≡ range_with_len a n ++ range_with_len (a + n) m
range-append a zero m = let same : zero + m ≡ m = omega arith in let from : a ≡ a + zero = omega arith in
    ap (range_with_len a) same ∙ ap (λ k. range_with_len k m) from
range-append a (suc n) m =
    let same : suc n + m ≡ suc (n + m) = omega arith in
    let from : a + 1 + n ≡ a + suc n = omega arith in
    ap (range_with_len a) same ∙ ap (λ xs. a ∷ xs) (range-append (a + 1) n m) ∙ ap (λ k. a ∷ (range_with_len (a + 1) n ++ range_with_len k m)) from

past : (p k n : ℕ) → 1 ≤ n → p + (n - p + k) ≡ n + k → k < n → (p + (n - p + k)) % n ≡ k
past p k n some is below = ap (λ j. j % n) (is ∙ (omega arith)) ∙ add-mod_right k n ∙ mod-eq_of_lt below

rounds : (n p : ℕ) → p < n → map (λ k. (p + k) % n) (range_with_len 0 n) ≡ numbers_round n p
rounds n p inside =
    let f : ℕ → ℕ = λ k. (p + k) % n in
    let whole : n ≡ n - p + p = omega (arith, inside) in
    let zero' : 0 + (n - p) ≡ n - p = omega arith in
    let front = shifted f 0 p (n - p) (λ k below. let at : p + (0 + k) ≡ p + k = omega arith in
    ap (λ j. j % n) at ∙ mod-eq_of_lt (omega (arith, below, inside))) in
    let back = shifted f (n - p) 0 p (λ k below. let at : 0 + k ≡ k = omega arith in
    past p k n (omega (arith, inside)) (omega (arith, inside)) (omega (arith, below, inside)) ∙ sym at) in
    ap (λ m. map f (range_with_len 0 m)) whole ∙ ap (map f) (range-append 0 (n - p) p)
    ∙ map-append f (range_with_len 0 (n - p)) (range_with_len (0 + (n - p)) p)
    ∙ ap (λ xs. xs ++ map f (range_with_len (0 + (n - p)) p)) front ∙ ap (λ a. range_with_len p (n - p) ++ map f (range_with_len a p)) zero'
    ∙ ap (λ xs. range_with_len p (n - p) ++ xs) back

-- A SEARCH
find-map : {A B : Type 0} (test : B → Bool) (f : A → B) (xs : List A) → find test (map f xs) ≡ option_map f (find (λ x. test (f x)) xs)
find-map test f [] = refl
find-map {A} {B} test f (x ∷ xs) = go (test (f x)) (find-map test f xs) where
  go : (b : Bool) → find test (map f xs) ≡ option_map f (find (λ y. test (f y)) xs)
      → cond b (Some (f x)) (find test (map f xs)) ≡ option_map f (cond b (Some x) (find (λ y. test (f y)) xs))
  go true later = refl
  go false later = later

map-map : {A B C : Type 0} (f : A → B) (g : B → C) (xs : List A) → map (λ x. g (f x)) xs ≡ map g (map f xs)
map-map f g [] = refl
map-map f g (x ∷ xs) = ap (λ zs. g (f x) ∷ zs) (map-map f g xs)

some_is : (xs : List ℕ) → nat_lt 0 (length xs) ≡ is_some_list xs
some_is [] = refl
some_is (x ∷ xs) = lt-ltb 0 (length (x ∷ xs)) (omega arith)

module _ (r : ReadyView) (free : IsUnlocked r) where
  pub unlocked : (k : ℕ) → is_locked r k ≡ false
  unlocked k = ap (λ xs. get_or xs k false) free.locked ∙ elim (cases_lt k (length r.lists)) [
    | inl below ↦ get_or-replicate (length r.lists) k false false below
    | inr far ↦ get_or_past (replicate (length r.lists) false) k false (omega (arith, far, length-replicate {A = Bool} (length r.lists) false))
  ]

  pub open_is : (k : ℕ) → is_open r k ≡ is_some_list (list_of r k)
  open_is k = ap (λ b. not b && nat_lt 0 (length (list_of r k))) (unlocked k) ∙ some_is (list_of r k)

  pub sought_is : (l : ProcNo) → l.0 < length r.lists
      → option_map processor (sought r l.0) ≡ find (λ k. is_some_list (list_at r.lists k.0)) (round (length r.lists) l)
  sought_is l inside =
      let same : is_open r ≡ (λ k. is_some_list (list_of r k)) = fun_ext open_is in
      ap (λ (f : ℕ → Bool). option_map processor (find f (numbers_round (length r.lists) l.0))) same
      ∙ sym (find-map (λ (k : ProcNo). is_some_list (list_at r.lists k.0)) processor (numbers_round (length r.lists) l.0))
      ∙ ap (λ ns. find (λ (k : ProcNo). is_some_list (list_at r.lists k.0)) (map processor ns)) (sym (rounds (length r.lists) l.0 inside))
      ∙ ap (find (λ (k : ProcNo). is_some_list (list_at r.lists k.0)))
      (sym (map-map (λ n. (l.0 + n) % length r.lists) processor (range_with_len 0 (length r.lists))))
