-- Shares are unique, and how one processor more is given.
use Rattle.std.proofs.Common.{◌≡◌, ◌≢◌, ℕ, zero, suc, ◌+◌, ◌<◌, ◌≤◌, sym, ap, refl, ◌∙◌, arith, ◌⊎◌, inl, inr, List, [], ◌∷◌, length, map, get_or, set, sum, get_or-set_same, get_or-set_other}
use Rattle.std.proofs.lemmas.Bool.{cases_eq, cases_lt, cases_order}
use Rattle.std.proofs.lemmas.List.{get_or_past, ext_get_or}
use Rattle.std.proofs.lemmas.List.Sums.{sum_by-cons, sum_by-set, sum-map}
use Rattle.sa_share.specs.declared.Claim.{Claim}
use Rattle.sa_share.specs.Share.{priority_at, want_at, share_at, total_want, rank_of, IsShare, WantsMore}
use Rattle.sa_share.specs.Turn.{IsBefore, IsNext}

sum-cons : (x : ℕ) (xs : List ℕ) → sum (x ∷ xs) ≡ x + sum xs
sum-cons x xs = sum_by-cons (λ (y : ℕ). y) x xs

-- nowhere is the first list above the second
abbrev pub IsLe : List ℕ → List ℕ → Type 0
IsLe xs ys = (t : ℕ) → get_or xs t 0 ≤ get_or ys t 0

le-cons : (x y : ℕ) (xs ys : List ℕ) → x ≤ y → IsLe xs ys → IsLe (x ∷ xs) (y ∷ ys)
le-cons x y xs ys head tail zero = head
le-cons x y xs ys head tail (suc t) = tail t

-- somewhere the second list is below the first
abbrev IsLessAt : List ℕ → List ℕ → Type 0
IsLessAt xs ys = (t : ℕ) × (get_or ys t 0 < get_or xs t 0)

less-cons : (x y : ℕ) (xs ys : List ℕ) → x ≤ y → (IsLessAt xs ys ⊎ IsLe xs ys) → IsLessAt (x ∷ xs) (y ∷ ys) ⊎ IsLe (x ∷ xs) (y ∷ ys)
less-cons x y xs ys head (inl less) = inl (suc less.0, less.1)
less-cons x y xs ys head (inr le) = inr (le-cons x y xs ys head le)

less-or-le : (xs ys : List ℕ) → IsLessAt xs ys ⊎ IsLe xs ys
less-or-le [] ys = inr (λ t. omega arith)
less-or-le (x ∷ xs) [] = elim (cases_lt 0 x) [
  | inl more ↦ inl (0, more)
  | inr none ↦ elim (less-or-le xs []) [
    | inl less ↦ inl (suc less.0, less.1)
    | inr le ↦ inr (λ t. le-past x xs none le t)
  ]
] where
  le-past : (x : ℕ) (xs : List ℕ) → x ≤ 0 → IsLe xs [] → IsLe (x ∷ xs) []
  le-past x xs none le zero = none
  le-past x xs none le (suc t) = le t
less-or-le (x ∷ xs) (y ∷ ys) = elim (cases_lt y x) [
  | inl more ↦ inl (0, more)
  | inr le ↦ less-cons x y xs ys le (less-or-le xs ys)
]

-- a list that is nowhere above another has no larger sum
pub sum-le : (xs ys : List ℕ) → IsLe xs ys → sum xs ≤ sum ys
sum-le [] ys le = omega arith
sum-le (x ∷ xs) [] le =
    let head : x ≤ 0 = le 0 in
    let tail : sum xs ≤ 0 = sum-le xs [] (λ t. le (suc t)) in
    omega (arith, sum-cons x xs)
sum-le (x ∷ xs) (y ∷ ys) le =
    let head : x ≤ y = le 0 in
    let tail = sum-le xs ys (λ t. le (suc t)) in
    omega (arith, sum-cons x xs, sum-cons y ys)

-- a list that is nowhere above another and has the same sum is the same everywhere
pub sum-same : (xs ys : List ℕ) → IsLe xs ys → sum xs ≡ sum ys → (s : ℕ) → get_or xs s 0 ≡ get_or ys s 0
sum-same [] [] le same s = refl
sum-same [] (y ∷ ys) le same zero = omega (arith, sum-cons y ys)
sum-same [] (y ∷ ys) le same (suc s) =
    let e : sum ys ≡ 0 = omega (arith, sum-cons y ys) in
    sum-same [] ys (λ t. omega arith) (sym e) s
sum-same (x ∷ xs) [] le same s = let e = le s in omega arith
sum-same (x ∷ xs) (y ∷ ys) le same zero =
    let head : x ≤ y = le 0 in
    let tail = sum-le xs ys (λ t. le (suc t)) in
    omega (arith, sum-cons x xs, sum-cons y ys)
sum-same (x ∷ xs) (y ∷ ys) le same (suc s) =
    let head : x ≤ y = le 0 in
    let tail = sum-le xs ys (λ t. le (suc t)) in
    sum-same xs ys (λ t. le (suc t)) (omega (arith, sum-cons x xs, sum-cons y ys)) s

-- no space has less by one sharing than by another
no-less : (processors first : ℕ) (claims : List Claim) (x y : List ℕ) → IsShare processors first claims x → IsShare processors first claims y → (s : ℕ)
    → share_at x s < share_at y s → ⊥
no-less processors first claims x y of_x of_y s less = elim (less-or-le x y) [
  | inl found ↦
      let t = found.0 in
      let more : share_at y t < share_at x t = found.1 in
      let wanted_s = of_y.within s in
      let wanted_t = of_x.within t in
      elim (cases_order (priority_at claims s) (priority_at claims t)) [
        | inl same ↦
            let a = of_x.level s t same (omega arith) in
            let b = of_y.level t s (sym same) (omega arith) in
            let c = of_x.earlier s t same (omega arith) (omega arith) in
            let d = of_y.earlier t s (sym same) (omega arith) (omega arith) in
            omega arith
        | inr apart ↦ elim apart [
          | inl lower ↦ let e = of_y.higher s t lower (omega arith) in omega arith
          | inr higher ↦ let e = of_x.higher t s higher (omega arith) in omega arith
        ]
      ]
  | inr le ↦ let e = sum-same x y le (of_x.total ∙ sym of_y.total) s in omega arith
]

-- the shares are unique
pub share_at-unique : (processors first : ℕ) (claims : List Claim) (x y : List ℕ) → IsShare processors first claims x → IsShare processors first claims y
    → (s : ℕ) → share_at x s ≡ share_at y s
share_at-unique processors first claims x y of_x of_y s = elim (cases_order (share_at x s) (share_at y s)) [
  | inl same ↦ same
  | inr apart ↦ elim apart [
    | inl less ↦ absurd (no-less processors first claims x y of_x of_y s less)
    | inr more ↦ absurd (no-less processors first claims y x of_y of_x s more)
  ]
]

pub shares_unique : (processors first : ℕ) (claims : List Claim) (x y : List ℕ) → IsShare processors first claims x → IsShare processors first claims y
    → length x ≡ length y → x ≡ y
shares_unique processors first claims x y of_x of_y long = ext_get_or 0 x y long (λ s within. share_at-unique processors first claims x y of_x of_y s)

-- the wants as a list
abbrev pub wants : List Claim → List ℕ
wants claims = map (λ (claim : Claim). claim.want) claims

pub get_or-wants : (claims : List Claim) (s : ℕ) → get_or (wants claims) s 0 ≡ want_at claims s
get_or-wants [] s = refl
get_or-wants (claim ∷ claims) zero = refl
get_or-wants (claim ∷ claims) (suc s) = get_or-wants claims s

pub sum-wants : (claims : List Claim) → sum (wants claims) ≡ total_want claims
sum-wants claims = sum-map (λ (claim : Claim). claim.want) claims

-- no processor is given yet
pub IsShare-none : (first : ℕ) (claims : List Claim) (shares : List ℕ) → sum shares ≡ 0 → IsShare 0 first claims shares
IsShare-none first claims shares empty = record {
  within = λ s. let e = none s in omega arith;
  total = omega arith;
  higher = λ s t lower some. let e = none s in absurd (omega arith);
  level = λ s t same less. let e = none t in omega arith;
  earlier = λ s t same less behind. let e = none t in absurd (omega arith);
} where
  none : (s : ℕ) → share_at shares s ≡ 0
  none s = sym (sum-same [] shares (λ t. omega arith) (sym empty) s)

-- every want is met
pub IsShare-all : (given processors first : ℕ) (claims : List Claim) (shares : List ℕ) → given ≤ processors → IsShare given first claims shares
    → ((s : ℕ) → want_at claims s ≤ share_at shares s) → IsShare processors first claims shares
IsShare-all given processors first claims shares few old met =
    let within : total_want claims ≤ sum shares =
    omega (arith, sum-wants claims, sum-le (wants claims) shares (λ s. let e = get_or-wants claims s in let f = met s in omega arith)) in
    let sum_was = old.total in
    record {
      within = old.within;
      total = omega arith;
      higher = old.higher;
      level = old.level;
      earlier = old.earlier;
    }

-- where a space wants more, fewer processors are given than wanted
sum-less : (claims : List Claim) (shares : List ℕ) (s : ℕ) → ((t : ℕ) → share_at shares t ≤ want_at claims t) → WantsMore claims shares s
    → sum shares < total_want claims
sum-less claims shares s wanted more =
    let le : IsLe shares (wants claims) = λ t. let e = get_or-wants claims t in let f = wanted t in omega arith in
    let sums = sum-le shares (wants claims) le in
    let apart : sum shares ≢ sum (wants claims) = λ same. let e = sum-same shares (wants claims) le same s in let f = get_or-wants claims s in omega arith in
    omega (arith, sum-wants claims)

-- past the claims a space wants nothing
pub want_at-past : (claims : List Claim) (s : ℕ) → length claims ≤ s → want_at claims s ≡ 0
want_at-past claims s past = ap (λ (claim : Claim). claim.want) (get_or_past claims s (record { priority = 0; want = 0 }) past)

-- a space that wants more is one of the claims
pub WantsMore-within : (claims : List Claim) (shares : List ℕ) (s : ℕ) → WantsMore claims shares s → s < length claims
WantsMore-within claims shares s more = elim (cases_lt s (length claims)) [
  | inl below ↦ below
  | inr past ↦ let e = want_at-past claims s past in absurd (omega arith)
]

-- past the claims a space gets nothing
pub share_at-past : (processors first : ℕ) (claims : List Claim) (shares : List ℕ) → IsShare processors first claims shares → (s : ℕ) → length claims ≤ s
    → share_at shares s ≡ 0
share_at-past processors first claims shares of_shares s past = let e = want_at-past claims s past in let f = of_shares.within s in omega arith

-- what it says of numbers that s is served before t
IsBefore-numbers : (first : ℕ) (claims : List Claim) (shares : List ℕ) (s t : ℕ) → IsBefore first claims shares s t →
    (priority_at claims t ≤ priority_at claims s)
    × (priority_at claims s ≡ priority_at claims t → share_at shares s ≤ share_at shares t)
    × (priority_at claims s ≡ priority_at claims t → share_at shares s ≡ share_at shares t → rank_of first claims s < rank_of first claims t)
IsBefore-numbers first claims shares s t (inl higher) = (omega arith, λ same. omega arith, λ same level. omega arith)
IsBefore-numbers first claims shares s t (inr (same, inl less)) = (omega arith, λ _. omega arith, λ _ level. omega arith)
IsBefore-numbers first claims shares s t (inr (same, inr (level, earlier))) = (omega arith, λ _. omega arith, λ _ _. earlier)

-- space t after space s got one processor more: it is s, or as it was
record IsServed (first : ℕ) (claims : List Claim) (shares : List ℕ) (s t : ℕ) : Type 0 where
  pub priority : priority_at claims t ≡ priority_at claims s
  pub want : want_at claims t ≡ want_at claims s
  pub rank : rank_of first claims t ≡ rank_of first claims s
  pub old : share_at shares t ≡ share_at shares s
  pub new : share_at (set shares s (share_at shares s + 1)) t ≡ share_at shares s + 1

record IsPassed (shares : List ℕ) (s t : ℕ) : Type 0 where
  pub other : t ≢ s
  pub new : share_at (set shares s (share_at shares s + 1)) t ≡ share_at shares t

served-cases : (first : ℕ) (claims : List Claim) (shares : List ℕ) (s t : ℕ) → s < length shares → IsServed first claims shares s t ⊎ IsPassed shares s t
served-cases first claims shares s t within = elim (cases_eq t s) [
  | inl same ↦ inl (record {
    priority = ap (λ u. priority_at claims u) same;
    want = ap (λ u. want_at claims u) same;
    rank = ap (λ u. rank_of first claims u) same;
    old = ap (λ u. share_at shares u) same;
    new = ap (λ u. share_at (set shares s (share_at shares s + 1)) u) same ∙ get_or-set_same shares s (share_at shares s + 1) 0 within;
  })
  | inr other ↦ inr (record { other = other; new = get_or-set_other shares s t (share_at shares s + 1) 0 other })
]

-- one processor more, for the space that is next
pub IsShare-more : (given first : ℕ) (claims : List Claim) (shares : List ℕ) (s : ℕ) → length claims ≤ length shares → IsShare given first claims shares
    → IsNext (length claims) first claims shares s → IsShare (given + 1) first claims (set shares s (share_at shares s + 1))
IsShare-more given first claims shares s room old next = record {
  within = λ t. elim (cases t) [ inl served ↦ omega arith | inr passed ↦ let e = old.within t in omega arith ];
  total =
      let e = sum_by-set (λ (n : ℕ). n) shares s (share_at shares s + 1) 0 within in
      let f = old.total in
      let g = sum-less claims shares s old.within next.wants in
      omega arith;
  higher = λ t u lower some. elim (cases t) [
    | inl served ↦ elim (cases u) [
      | inl too ↦ absurd (omega arith)
      | inr passed ↦ elim (cases_lt (share_at shares u) (want_at claims u)) [
        | inl more ↦ let e = before u passed.other more in absurd (omega arith)
        | inr met ↦ let e = old.within u in omega arith
      ]
    ]
    | inr other ↦ let e = old.higher t u lower (omega arith) in elim (cases u) [ inl served ↦ absurd (omega arith) | inr passed ↦ omega arith ]
  ];
  level = λ t u same less. elim (cases t) [
    | inl served ↦ let e = old.level t u same (omega arith) in elim (cases u) [ inl too ↦ omega arith | inr passed ↦ omega arith ]
    | inr other ↦ let e = old.level t u same (omega arith) in elim (cases u) [
      | inl served ↦ let f = before t other.other (omega arith) in omega arith
      | inr passed ↦ omega arith
    ]
  ];
  earlier = λ t u same less behind. elim (cases t) [
    | inl served ↦ let e = old.level t u same (omega arith) in elim (cases u) [ inl too ↦ absurd (omega arith) | inr passed ↦ absurd (omega arith) ]
    | inr other ↦ elim (cases u) [
      | inl served ↦ let f = (before t other.other (omega arith)).2 (omega arith) (omega arith) in omega arith
      | inr passed ↦ old.earlier t u same (omega arith) (omega arith)
    ]
  ];
} where
  within : s < length shares
  within = omega (arith, next.within)

  cases : (t : ℕ) → IsServed first claims shares s t ⊎ IsPassed shares s t
  cases t = served-cases first claims shares s t within

  before : (t : ℕ) → t ≢ s → WantsMore claims shares t
      → (priority_at claims t ≤ priority_at claims s) × (priority_at claims s ≡ priority_at claims t → share_at shares s ≤ share_at shares t)
      × (priority_at claims s ≡ priority_at claims t → share_at shares s ≡ share_at shares t → rank_of first claims s < rank_of first claims t)
  before t other more = IsBefore-numbers first claims shares s t (next.before t (WantsMore-within claims shares t more) other more)
