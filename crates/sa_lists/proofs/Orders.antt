-- A chain for each rank is one list in the order of ranks: what a push and the pops do to the chains they do to the list.
use Rattle.std.proofs.Common.{◌≡◌, ℕ, zero, suc, ◌+◌, ◌-◌, ◌<◌, ◌≤◌, nat_lt, true, false, cond, List, [], ◌∷◌, ◌++◌, length, take, drop, slice_get, slice_set, refl, sym, ap, ◌∙◌, inl, inr, arith, length-append, append-nil}
use Rattle.std.proofs.lemmas.Bool.{cases_lt, lt-ltb, le-ltb}
use Rattle.sa_links.specs.Lists.{list_at, count_in, IsIn}
use Rattle.sa_links.proofs.Counting.{count_same, count-append, count-cons-ge}
use Rattle.sa_lists.specs.ReadyView.{rank_of, inserted}
use Rattle.sa_lists.specs.Chains.{joined, is_filled, AreByRank, IsGreatestFilled, IsLeastFilled, IsOrdered}

-- the first of a list is in it, and so is the rest
in_head : (x : ℕ) (xs : List ℕ) → IsIn x (x ∷ xs)
in_head x xs = let c = count_same x x xs refl in omega arith

in_tail : (x y : ℕ) (ys : List ℕ) → IsIn x ys → IsIn x (y ∷ ys)
in_tail x y ys is = let c = count-cons-ge x y ys in omega arith

-- a list of which none outranks t, and one of which all do
abbrev AreNoGreater : List ℕ → ℕ → List ℕ → Type 0
AreNoGreater of t xs = (x : ℕ) → IsIn x xs → rank_of of x ≤ rank_of of t

abbrev AllOutrank : List ℕ → ℕ → List ℕ → Type 0
AllOutrank of t xs = (x : ℕ) → IsIn x xs → rank_of of t < rank_of of x

-- a thread comes in front of those that do not outrank it, and after those that do
front : (of : List ℕ) (t : ℕ) (xs : List ℕ) → AreNoGreater of t xs → inserted of t xs ≡ t ∷ xs
front of t [] few = refl
front of t (x ∷ xs) few = ap (λ b. cond b (x ∷ inserted of t xs) (t ∷ x ∷ xs)) (le-ltb (rank_of of t) (rank_of of x) (few x (in_head x xs)))

before : (of : List ℕ) (t : ℕ) (xs ys : List ℕ) → AreNoGreater of t ys → inserted of t (xs ++ ys) ≡ inserted of t xs ++ ys
before of t [] ys few = front of t ys few
before of t (x ∷ xs) ys few =
    elim (nat_lt (rank_of of t) (rank_of of x)) as (λ b. cond b (x ∷ inserted of t (xs ++ ys)) (t ∷ x ∷ (xs ++ ys))
    ≡ cond b (x ∷ inserted of t xs) (t ∷ x ∷ xs) ++ ys) [
      | true ↦ ap (λ zs. x ∷ zs) (before of t xs ys few)
      | false ↦ refl
    ]

behind : (of : List ℕ) (t : ℕ) (xs ys : List ℕ) → AllOutrank of t xs → inserted of t (xs ++ ys) ≡ xs ++ inserted of t ys
behind of t [] ys all = refl
behind of t (x ∷ xs) ys all =
    ap (λ b. cond b (x ∷ inserted of t (xs ++ ys)) (t ∷ x ∷ (xs ++ ys))) (lt-ltb (rank_of of t) (rank_of of x) (all x (in_head x xs)))
    ∙ ap (λ zs. x ∷ zs) (behind of t xs ys (λ y is. all y (in_tail y x xs is)))

-- who is in the list is in one of the chains
in_joined : (chains : List (List ℕ)) (x : ℕ) → IsIn x (joined chains) → (k : ℕ) × IsIn x (list_at chains k)
in_joined [] x is = absurd (omega arith)
in_joined (xs ∷ chains) x is =
    let both = count-append x (joined chains) xs in
    elim (cases_lt 0 (count_in x xs)) [
      | inl here ↦ (0, omega arith)
      | inr none ↦ let rest = in_joined chains x (omega arith) in (suc rest.0, rest.1)
    ]

-- the threads of chain k have rank k, counted from the first one's
abbrev AreRanked : List ℕ → ℕ → List (List ℕ) → Type 0
AreRanked of first chains = (k x : ℕ) → IsIn x (list_at chains k) → rank_of of x ≡ first + k

later : (of : List ℕ) (first : ℕ) (xs : List ℕ) (chains : List (List ℕ)) → AreRanked of first (xs ∷ chains) → AreRanked of (suc first) chains
later of first xs chains ranked k x is = let same = ranked (suc k) x is in omega arith

-- a push on the chain of its rank
pub joined-pushed : (of : List ℕ) (first : ℕ) (chains : List (List ℕ)) (k t : ℕ) → AreRanked of first chains → rank_of of t ≡ first + k → k < length chains
    → joined (slice_set chains k (t ∷ list_at chains k)) ≡ inserted of t (joined chains)
joined-pushed of first [] k t ranked rank inside = absurd (omega arith)
joined-pushed of first (xs ∷ chains) zero t ranked rank inside =
    sym (behind of t (joined chains) xs (λ x is. let at = in_joined chains x is in let same = ranked (suc at.0) x at.1 in omega arith)
    ∙ ap (λ zs. joined chains ++ zs) (front of t xs (λ x is. let same = ranked 0 x is in omega arith)))
joined-pushed of first (xs ∷ chains) (suc k) t ranked rank inside =
    ap (λ zs. zs ++ xs) (joined-pushed of (suc first) chains k t (later of first xs chains ranked) (omega arith) (omega arith))
    ∙ sym (before of t (joined chains) xs (λ x is. let same = ranked 0 x is in omega arith))

-- a chain without threads, and a list of such chains
pub empty_is : (xs : List ℕ) → is_filled xs ≡ false → xs ≡ []
empty_is [] none = refl
empty_is (x ∷ xs) none = absurd cc

pub joined-empty : (chains : List (List ℕ)) → ((k : ℕ) → is_filled (list_at chains k) ≡ false) → joined chains ≡ []
joined-empty [] none = refl
joined-empty (xs ∷ chains) none = ap (λ ys. joined chains ++ ys) (empty_is xs (none 0)) ∙ ap (λ ys. ys ++ []) (joined-empty chains (λ k. none (suc k)))

-- the first of two lists one after the other, where the first list has some
first-append : (xs ys : List ℕ) → is_filled xs ≡ true → (slice_get (xs ++ ys) 0 ≡ slice_get xs 0) × (drop 1 (xs ++ ys) ≡ drop 1 xs ++ ys)
first-append [] ys some = absurd cc
first-append (x ∷ xs) ys some = (refl, refl)

-- and the last, where the second has some
last-append : (xs ys : List ℕ) → is_filled ys ≡ true
    → (slice_get (xs ++ ys) (length (xs ++ ys) - 1) ≡ slice_get ys (length ys - 1)) × (take (length (xs ++ ys) - 1) (xs ++ ys) ≡ xs ++ take (length ys - 1) ys)
last-append [] ys some = (refl, refl)
last-append (x ∷ xs) [] some = absurd cc
last-append (x ∷ xs) (y ∷ ys) some =
    let rest = last-append xs (y ∷ ys) some in
    let size = length-append xs (y ∷ ys) in
    let all : length (x ∷ (xs ++ y ∷ ys)) - 1 ≡ suc (length (xs ++ y ∷ ys) - 1) = omega arith in
    (ap (slice_get (x ∷ (xs ++ y ∷ ys))) all ∙ rest.0, ap (λ n. take n (x ∷ (xs ++ y ∷ ys))) all ∙ ap (λ zs. x ∷ zs) rest.1)

-- some chain has threads, so the list has
pub filled-joined : (chains : List (List ℕ)) (k : ℕ) → is_filled (list_at chains k) ≡ true → is_filled (joined chains) ≡ true
filled-joined [] k some = some
filled-joined (xs ∷ chains) zero some = behind_filled (joined chains) xs some
  where
    behind_filled : (ys xs : List ℕ) → is_filled xs ≡ true → is_filled (ys ++ xs) ≡ true
    behind_filled [] xs some = some
    behind_filled (y ∷ ys) xs some = refl
filled-joined (xs ∷ chains) (suc k) some = front_filled (joined chains) xs (filled-joined chains k some)
  where
    front_filled : (ys xs : List ℕ) → is_filled ys ≡ true → is_filled (ys ++ xs) ≡ true
    front_filled [] xs some = absurd cc
    front_filled (y ∷ ys) xs some = refl

-- the first of the greatest chain that has some is the first of the list
pub record IsFirst (chains : List (List ℕ)) (k : ℕ) : Type 0 where
  pub first : slice_get (joined chains) 0 ≡ slice_get (list_at chains k) 0
  pub rest : drop 1 (joined chains) ≡ joined (slice_set chains k (drop 1 (list_at chains k)))

pub joined-first : (chains : List (List ℕ)) (k : ℕ) → is_filled (list_at chains k) ≡ true → ((j : ℕ) → k < j → is_filled (list_at chains j) ≡ false)
    → IsFirst chains k
joined-first [] k some none = absurd cc
joined-first (xs ∷ chains) zero some none =
    let empty = joined-empty chains (λ j. none (suc j) (omega arith)) in
    record {
      first = ap (λ ys. slice_get (ys ++ xs) 0) empty;
      rest = ap (λ ys. drop 1 (ys ++ xs)) empty ∙ sym (ap (λ ys. ys ++ drop 1 xs) empty);
    }
joined-first (xs ∷ chains) (suc k) some none =
    let inner = joined-first chains k some (λ j more. none (suc j) (omega arith)) in
    let two = first-append (joined chains) xs (filled-joined chains k some) in
    record { first = two.0 ∙ inner.first; rest = two.1 ∙ ap (λ ys. ys ++ xs) inner.rest }

-- the last of the least chain that has some is the last of the list
pub record IsLast (chains : List (List ℕ)) (k : ℕ) : Type 0 where
  pub last : slice_get (joined chains) (length (joined chains) - 1) ≡ slice_get (list_at chains k) (length (list_at chains k) - 1)
  pub rest : take (length (joined chains) - 1) (joined chains) ≡ joined (slice_set chains k (take (length (list_at chains k) - 1) (list_at chains k)))

pub joined-last : (chains : List (List ℕ)) (k : ℕ) → is_filled (list_at chains k) ≡ true → ((j : ℕ) → j < k → is_filled (list_at chains j) ≡ false)
    → IsLast chains k
joined-last [] k some none = absurd cc
joined-last (xs ∷ chains) zero some none = let two = last-append (joined chains) xs some in record { last = two.0; rest = two.1 }
joined-last (xs ∷ chains) (suc k) some none =
    let inner = joined-last chains k some (λ j less. none (suc j) (omega arith)) in
    let empty = empty_is xs (none 0 (omega arith)) in
    let same : joined chains ++ xs ≡ joined chains = ap (λ ys. joined chains ++ ys) empty ∙ append-nil (joined chains) in
    record {
      last = ap (λ ys. slice_get ys (length ys - 1)) same ∙ inner.last;
      rest = ap (λ ys. take (length ys - 1) ys) same ∙ inner.rest
          ∙ sym (ap (λ ys. joined (slice_set chains k (take (length (list_at chains k) - 1) (list_at chains k))) ++ ys) empty
          ∙ append-nil (joined (slice_set chains k (take (length (list_at chains k) - 1) (list_at chains k)))));
    }

-- THE LAW
pub by_rank-pushed : (of : List ℕ) (chains : List (List ℕ)) (t : ℕ) → AreByRank of chains → rank_of of t < length chains
    → joined (slice_set chains (rank_of of t) (t ∷ list_at chains (rank_of of t))) ≡ inserted of t (joined chains)
by_rank-pushed of chains t by inside = joined-pushed of 0 chains (rank_of of t) t (λ k x is. let same = by k x is in omega arith) (omega arith) inside

pub first-of-greatest : (chains : List (List ℕ)) (k : ℕ) → IsGreatestFilled chains k → slice_get (joined chains) 0 ≡ slice_get (list_at chains k) 0
first-of-greatest chains k is = (joined-first chains k is.0 is.1).first

pub last-of-least : (chains : List (List ℕ)) (k : ℕ) → IsLeastFilled chains k
    → slice_get (joined chains) (length (joined chains) - 1) ≡ slice_get (list_at chains k) (length (list_at chains k) - 1)
last-of-least chains k is = (joined-last chains k is.0 is.1).last

-- two ordered lists, where none of the second outranks one of the first
ordered-append : (of : List ℕ) (xs ys : List ℕ) → IsOrdered of xs → IsOrdered of ys → ((x y : ℕ) → IsIn x xs → IsIn y ys → rank_of of y ≤ rank_of of x)
    → IsOrdered of (xs ++ ys)
ordered-append of [] ys a b apart = b
ordered-append of (x ∷ xs) ys a b apart = (
  λ t is. let both = count-append t xs ys in elim (cases_lt 0 (count_in t xs)) [
    | inl here ↦ a.0 t (omega arith)
    | inr none ↦ apart x t (in_head x xs) (omega arith)
  ],
  ordered-append of xs ys a.1 b (λ u y is. apart u y (in_tail u x xs is)),
)

ordered-chain : (of : List ℕ) (k : ℕ) (xs : List ℕ) → ((t : ℕ) → IsIn t xs → rank_of of t ≡ k) → IsOrdered of xs
ordered-chain of k [] same = tt
ordered-chain of k (x ∷ xs) same =
    (λ t is. let a = same t (in_tail t x xs is) in let b = same x (in_head x xs) in omega arith, ordered-chain of k xs (λ t is. same t (in_tail t x xs is)))

ordered-joined : (of : List ℕ) (first : ℕ) (chains : List (List ℕ)) → AreRanked of first chains → IsOrdered of (joined chains)
ordered-joined of first [] ranked = tt
ordered-joined of first (xs ∷ chains) ranked =
    ordered-append of (joined chains) xs (ordered-joined of (suc first) chains (later of first xs chains ranked))
    (ordered-chain of first xs (λ t is. let same = ranked 0 t is in omega arith))
    (λ x y high low. let at = in_joined chains x high in let a = ranked (suc at.0) x at.1 in let b = ranked 0 y low in omega arith)

pub by_rank-ordered : (of : List ℕ) (chains : List (List ℕ)) → AreByRank of chains → IsOrdered of (joined chains)
by_rank-ordered of chains by = ordered-joined of 0 chains (λ k x is. let same = by k x is in omega arith)
