-- How the ready lists are stored, and how that changes with one list.
use Rattle.std.proofs.Common.{◌≡◌, ℕ, ◌+◌, ◌-◌, ◌<◌, ◌≤◌, Bool, List, [], ◌∷◌, ◌++◌, length, take, sum_by, Some, None, slice_get, refl, sym, ap, ◌∙◌, subst, arith, inl, inr, length-append}
use Rattle.std.proofs.lemmas.Bool.{cases_lt}
use Rattle.std.proofs.lemmas.List.{get_or_past, length-set, length-take-le}
use Rattle.std.proofs.lemmas.List.Sums.{get_or-le-sum_by, sum_by-cons, sum_by-set}
use Rattle.std.proofs.lemmas.Option.{slice_get_within, slice_get_cases}
use Rattle.sa_links.specs.Lists.{Lists, list_at, count_in, count_in_all, IsApart, with_list}
use Rattle.sa_links.proofs.Counting.{count-append, few_below}
use Rattle.sa_lists.specs.ReadyView.{IsStored}

-- the numbers of all lists, one list after another
abbrev numbers_of : List (List ℕ) → List ℕ
numbers_of [] = []
numbers_of (xs ∷ ls) = xs ++ numbers_of ls

count_in-numbers_of : (x : ℕ) (ls : List (List ℕ)) → count_in x (numbers_of ls) ≡ count_in_all x ls
count_in-numbers_of x [] = refl
count_in-numbers_of x (xs ∷ ls) =
    count-append x xs (numbers_of ls) ∙ ap (λ n. count_in x xs + n) (count_in-numbers_of x ls) ∙ sym (sum_by-cons (count_in x) xs ls)

length-numbers_of : (ls : List (List ℕ)) → length (numbers_of ls) ≡ sum_by length ls
length-numbers_of [] = refl
length-numbers_of (xs ∷ ls) = length-append xs (numbers_of ls) ∙ ap (λ n. length xs + n) (length-numbers_of ls) ∙ sym (sum_by-cons length xs ls)

-- lists that are apart have no more numbers than there are nodes
pub sum_by-le-nodes : (c : Lists) → IsApart c → sum_by length c.lists ≤ c.nodes
sum_by-le-nodes c apart =
    let once : (x : ℕ) → count_in x (numbers_of c.lists) ≤ 1 = λ x. subst (λ n. n ≤ 1) (sym (count_in-numbers_of x c.lists)) (apart.once x) in
    let below : (x : ℕ) → 1 ≤ count_in x (numbers_of c.lists) → x < c.nodes = λ x h. apart.below x (subst (λ n. 1 ≤ n) (count_in-numbers_of x c.lists) h) in
    subst (λ n. n ≤ c.nodes) (length-numbers_of c.lists) (few_below c.nodes (numbers_of c.lists) once below)

-- how they are stored once list l is xs, and as many threads more or less are counted
pub stored-with : (links : Lists) (locked : List Bool) (ready made threads l : ℕ) (xs : List ℕ) (after : ℕ) → IsStored links locked ready made threads
    → l < length links.lists
    → after + length (list_at links.lists l) ≡ ready + length xs → IsStored (with_list links l xs) locked after made threads
stored-with links locked ready made threads l xs after h inside changed =
    let same = length-set links.lists l xs in
    let sums = sum_by-set length links.lists l xs [] inside in
    record {
      nodes = h.nodes;
      counted = omega (arith, h.counted, sums, changed);
      locks = h.locks ∙ sym same;
      processors = omega (arith, h.processors, same);
      within = h.within;
      most = h.most;
    }

-- the list without its last number, where it has none, and where it has one
length-take_none : (xs : List ℕ) → slice_get xs (length xs - 1) ≡ None → length (take (length xs - 1) xs) ≡ length xs
length-take_none [] e = refl
length-take_none (x ∷ xs) e = elim (slice_get_cases (x ∷ xs) (length (x ∷ xs) - 1)).1 [
  | inl z ↦ absurd cc
  | inr z ↦ absurd (omega (arith, z.0))
]

length-take_some : (xs : List ℕ) (x : ℕ) → slice_get xs (length xs - 1) ≡ Some x → length (take (length xs - 1) xs) + 1 ≡ length xs
length-take_some xs x e =
    let within = slice_get_within xs (length xs - 1) x e in
    let taken = length-take-le (length xs - 1) xs (omega arith) in
    omega arith

-- a thread that is in a list is counted
pub counted-some : (links : Lists) (locked : List Bool) (ready made threads l k x : ℕ) → IsStored links locked ready made threads
    → slice_get (list_at links.lists l) k ≡ Some x → 1 ≤ ready
counted-some links locked ready made threads l k x h some =
    let within = slice_get_within (list_at links.lists l) k x some in
    elim (cases_lt l (length links.lists)) [
      | inl inside ↦ let part = get_or-le-sum_by length links.lists l [] inside in omega (arith, h.counted)
      | inr past ↦ let none = ap length (get_or_past links.lists l [] past) in absurd (omega arith)
    ]

-- the oldest of list l is taken out, if there is one
pub stored-kept : (links after : Lists) (locked : List Bool) (ready made threads l : ℕ) → IsStored links locked ready made threads → l < length links.lists
    → let xs = list_at links.lists l in
    slice_get xs (length xs - 1) ≡ None → after ≡ with_list links l (take (length xs - 1) xs) → IsStored after locked ready made threads
stored-kept links after locked ready made threads l h inside none changed =
    let xs = list_at links.lists l in
    subst (λ (c : Lists). IsStored c locked ready made threads) (sym changed)
    (stored-with links locked ready made threads l (take (length xs - 1) xs) ready h inside (ap (λ n. ready + n) (sym (length-take_none xs none))))

pub stored-taken : (links after : Lists) (locked : List Bool) (ready made threads l x : ℕ) → IsStored links locked ready made threads → l < length links.lists
    → let xs = list_at links.lists l in
    slice_get xs (length xs - 1) ≡ Some x → after ≡ with_list links l (take (length xs - 1) xs) → IsStored after locked (ready - 1) made threads
stored-taken links after locked ready made threads l x h inside some changed =
    let xs = list_at links.lists l in
    let some_ready = counted-some links locked ready made threads l (length xs - 1) x h some in
    let one_less = length-take_some xs x some in
    subst (λ (c : Lists). IsStored c locked (ready - 1) made threads) (sym changed)
    (stored-with links locked ready made threads l (take (length xs - 1) xs) (ready - 1) h inside (omega arith))
