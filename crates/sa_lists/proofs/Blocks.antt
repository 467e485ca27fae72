-- Lists of equally many chains each, one after another.
use Rattle.std.proofs.Common.{◌≡◌, ◌≢◌, ℕ, zero, suc, ◌+◌, ◌-◌, ◌*◌, ◌<◌, ◌≤◌, List, [], ◌∷◌, ◌++◌, length, take, drop, replicate, slice_set, refl, sym, ap, ◌∙◌, inl, inr, arith}
use Rattle.std.proofs.lemmas.Bool.{cases_lt}
use Rattle.std.proofs.lemmas.List.{drop-replicate, take-replicate, drop-set-lt, take-set-le, drop-set-add, get_or-take, get_or-drop, length-take-le, length-drop}
use Rattle.std.proofs.lemmas.List.Sums.{sum_by-cons, sum_by-take-drop}
use Rattle.std.proofs.Math.Seq.{take-set-lt}
use Rattle.std.proofs.Math.Nat.{mul-le-mul_right}
use Rattle.sa_links.specs.Lists.{list_at, count_in, count_in_all}
use Rattle.sa_links.proofs.Counting.{count-append}
use Rattle.sa_lists.specs.Chains.{joined, chains_of, lists_of}

drop-add : {X : Type 0} (m n : ℕ) (xs : List X) → drop n (drop m xs) ≡ drop (m + n) xs
drop-add zero n xs = let same : n ≡ 0 + n = omega arith in ap (λ k. drop k xs) same
drop-add (suc m) n [] = drop-nil n ∙ sym (drop-nil (suc m + n))
  where
    drop-nil : {X : Type 0} (n : ℕ) → drop n (let none : List X = [] in none) ≡ []
    drop-nil zero = refl
    drop-nil (suc n) = refl
drop-add (suc m) n (x ∷ xs) = let same : suc (m + n) ≡ suc m + n = omega arith in drop-add m n xs ∙ ap (λ k. drop k (x ∷ xs)) same

-- the first list's chains are the first, and the next list's come after those
chains-first : (chains : List (List ℕ)) (width : ℕ) → chains_of chains width 0 ≡ take width chains
chains-first chains width = let none : 0 * width ≡ 0 = omega arith in ap (λ n. take width (drop n chains)) none

chains-next : (chains : List (List ℕ)) (width l : ℕ) → chains_of (drop width chains) width l ≡ chains_of chains width (suc l)
chains-next chains width l =
    let same : width + l * width ≡ suc l * width = omega arith in
    ap (take width) (drop-add width (l * width) chains) ∙ ap (λ n. take width (drop n chains)) same

-- the number of a list's chain is below that of the next list's first
pub chain_below : (l n k width : ℕ) → l < n → k < width → l * width + k < n * width
chain_below l n k width less small = let more : suc l * width ≤ n * width = mul-le-mul_right width (omega arith) in omega arith

module _ (width : ℕ) where
  -- list l is its chains joined
  pub list-is : (chains : List (List ℕ)) (n l : ℕ) → l < n → list_at (lists_of chains width n) l ≡ joined (chains_of chains width l)
  list-is chains zero l inside = absurd (omega arith)
  list-is chains (suc n) zero inside = ap joined (sym (chains-first chains width))
  list-is chains (suc n) (suc l) inside = list-is (drop width chains) n l (omega arith) ∙ ap joined (chains-next chains width l)

  pub lists-length : (chains : List (List ℕ)) (n : ℕ) → length (lists_of chains width n) ≡ n
  lists-length chains zero = refl
  lists-length chains (suc n) = ap suc (lists-length (drop width chains) n)

  -- one chain changes: so does its list, and no other
  pub lists-set : (chains : List (List ℕ)) (n l k : ℕ) (xs : List ℕ) → l < n → k < width
      → lists_of (slice_set chains (l * width + k) xs) width n ≡ slice_set (lists_of chains width n) l (joined (slice_set (chains_of chains width l) k xs))
  lists-set chains zero l k xs inside small = absurd (omega arith)
  lists-set chains (suc n) zero k xs inside small =
      let at : 0 * width + k ≡ k = omega arith in
      ap (λ i. lists_of (slice_set chains i xs) width (suc n)) at
      ∙ ap (λ cs. joined cs ∷ lists_of (drop width (slice_set chains k xs)) width n) (take-set-lt width chains k xs small)
      ∙ ap (λ cs. joined (slice_set (take width chains) k xs) ∷ lists_of cs width n) (drop-set-lt width chains k xs small)
      ∙ ap (λ cs. joined (slice_set cs k xs) ∷ lists_of (drop width chains) width n) (sym (chains-first chains width))
  lists-set chains (suc n) (suc l) k xs inside small =
      let at : suc l * width + k ≡ width + (l * width + k) = omega arith in
      ap (λ i. lists_of (slice_set chains i xs) width (suc n)) at
      ∙ ap (λ cs. joined cs ∷ lists_of (drop width (slice_set chains (width + (l * width + k)) xs)) width n)
      (take-set-le width chains (width + (l * width + k)) xs (omega arith))
      ∙ ap (λ cs. joined (take width chains) ∷ lists_of cs width n) (drop-set-add width chains (l * width + k) xs)
      ∙ ap (λ ls. joined (take width chains) ∷ ls) (lists-set (drop width chains) n l k xs (omega arith) small)
      ∙ ap (λ cs. joined (take width chains) ∷ slice_set (lists_of (drop width chains) width n) l (joined (slice_set cs k xs))) (chains-next chains width l)

  pub chains-set_same : (chains : List (List ℕ)) (l k : ℕ) (xs : List ℕ) → k < width
      → chains_of (slice_set chains (l * width + k) xs) width l ≡ slice_set (chains_of chains width l) k xs
  chains-set_same chains l k xs small = ap (take width) (drop-set-add (l * width) chains k xs) ∙ take-set-lt width (drop (l * width) chains) k xs small

  pub chains-set_other : (chains : List (List ℕ)) (l m k : ℕ) (xs : List ℕ) → k < width → m ≢ l
      → chains_of (slice_set chains (l * width + k) xs) width m ≡ chains_of chains width m
  chains-set_other chains l m k xs small ne = elim (cases_lt m l) [
    | inl less ↦
        let more : suc m * width ≤ l * width = mul-le-mul_right width (omega arith) in
        let far = (l * width + k) - m * width in
        let at : l * width + k ≡ m * width + far = omega arith in
        ap (λ i. take width (drop (m * width) (slice_set chains i xs))) at
        ∙ ap (take width) (drop-set-add (m * width) chains far xs)
        ∙ take-set-le width (drop (m * width) chains) far xs (omega arith)
    | inr more ↦ ap (take width) (drop-set-lt (m * width) chains (l * width + k) xs (chain_below l m k width (omega arith) small))
  ]

  -- chain k of list l
  pub chain-is : (chains : List (List ℕ)) (l k : ℕ) → k < width → list_at (chains_of chains width l) k ≡ list_at chains (l * width + k)
  chain-is chains l k small = get_or-take width (drop (l * width) chains) k [] small ∙ get_or-drop (l * width) chains k []

  pub chains-length : (chains : List (List ℕ)) (n l : ℕ) → length chains ≡ n * width → l < n → length (chains_of chains width l) ≡ width
  chains-length chains n l all inside =
      let more : suc l * width ≤ n * width = mul-le-mul_right width (omega arith) in
      let size = length-drop (l * width) chains in
      length-take-le width (drop (l * width) chains) (omega arith)

  -- a thread is in the lists as often as in the chains
  count-joined : (t : ℕ) (chains : List (List ℕ)) → count_in t (joined chains) ≡ count_in_all t chains
  count-joined t [] = refl
  count-joined t (xs ∷ chains) =
      let both = count-append t (joined chains) xs in
      let rest = count-joined t chains in
      let all : count_in_all t (xs ∷ chains) ≡ count_in t xs + count_in_all t chains = sum_by-cons (count_in t) xs chains in
      omega arith

  pub count-lists : (t : ℕ) (chains : List (List ℕ)) (n : ℕ) → length chains ≡ n * width → count_in_all t (lists_of chains width n) ≡ count_in_all t chains
  count-lists t [] zero all = refl
  count-lists t (xs ∷ chains) zero all = absurd (omega arith)
  count-lists t chains (suc n) all =
      let first = count-joined t (take width chains) in
      let size = length-drop width chains in
      let rest = count-lists t (drop width chains) n (omega arith) in
      let parts : count_in_all t (take width chains) + count_in_all t (drop width chains) ≡ count_in_all t chains =
      sum_by-take-drop (count_in t) chains width in
      let whole : count_in_all t (lists_of chains width (suc n))
      ≡ count_in t (joined (take width chains)) + count_in_all t (lists_of (drop width chains) width n) =
      sum_by-cons (count_in t) (joined (take width chains)) (lists_of (drop width chains) width n) in
      omega arith

  -- chains without threads
  joined-replicate : (n : ℕ) → joined (replicate n []) ≡ []
  joined-replicate zero = refl
  joined-replicate (suc n) = ap (λ xs. xs ++ []) (joined-replicate n)

  pub chains-none : (n l k : ℕ) → list_at (chains_of (replicate n []) width l) k ≡ []
  chains-none n l k =
      let none : List ℕ = [] in
      ap (λ cs. list_at (take width cs) k) (drop-replicate (l * width) n none) ∙ none-taken width (n - l * width) k
    where
      none-at : (n k : ℕ) → list_at (replicate n []) k ≡ []
      none-at zero k = refl
      none-at (suc n) zero = refl
      none-at (suc n) (suc k) = none-at n k

      none-taken : (w n k : ℕ) → list_at (take w (replicate n [])) k ≡ []
      none-taken zero n k = refl
      none-taken (suc w) zero k = refl
      none-taken (suc w) (suc n) zero = refl
      none-taken (suc w) (suc n) (suc k) = none-taken w n k

  pub lists-none : (n : ℕ) → lists_of (replicate (n * width) []) width n ≡ replicate n []
  lists-none zero = refl
  lists-none (suc n) =
      let none : List ℕ = [] in
      let rest : suc n * width - width ≡ n * width = omega arith in
      ap (λ cs. joined cs ∷ lists_of (drop width (replicate (suc n * width) none)) width n) (take-replicate width (suc n * width) none (omega arith))
      ∙ ap (λ xs. xs ∷ lists_of (drop width (replicate (suc n * width) none)) width n) (joined-replicate width)
      ∙ ap (λ cs. none ∷ lists_of cs width n) (drop-replicate width (suc n * width) none ∙ ap (λ m. replicate m none) rest)
      ∙ ap (λ ls. none ∷ ls) (lists-none n)
