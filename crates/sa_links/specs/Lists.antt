-- Disjoint lists of node numbers, as callers see them.
use Rattle.std.specs.Prelude.{◌≡◌, ℕ, ◌<◌, ◌≤◌, List, [], ◌∷◌, ◌++◌, sum_by, count_by, filter, not, ◌==◌, Option, slice_get, slice_index_or, slice_set}

-- disjoint lists of node numbers
pub record Lists : Type 0 where
  -- how many nodes there are: their numbers are those below
  pub nodes : ℕ
  pub lists : List (List ℕ)

-- the list l, which is empty where there is no list l
abbrev pub list_at : List (List ℕ) → ℕ → List ℕ
list_at ls l = slice_index_or ls l []

-- how often x is in a list, and in all lists together
abbrev pub count_in : ℕ → List ℕ → ℕ
count_in x xs = count_by (λ y. y == x) xs

abbrev pub count_in_all : ℕ → List (List ℕ) → ℕ
count_in_all x ls = sum_by (count_in x) ls

-- x is in the list; in some list; in none
abbrev pub IsIn : ℕ → List ℕ → Type 0
IsIn x xs = 1 ≤ count_in x xs

abbrev pub IsListed : Lists → ℕ → Type 0
IsListed c x = 1 ≤ count_in_all x c.lists

abbrev pub IsFree : Lists → ℕ → Type 0
IsFree c x = count_in_all x c.lists ≡ 0

-- next is the number after x, wherever x is, and none where x is the last
abbrev pub IsNext : Lists → ℕ → Option ℕ → Type 0
IsNext c x next = (l : ℕ) (front back : List ℕ) → list_at c.lists l ≡ front ++ x ∷ back → next ≡ slice_get back 0

-- c with xs as its list l
abbrev pub with_list : Lists → ℕ → List ℕ → Lists
with_list c l xs = record { nodes = c.nodes; lists = slice_set c.lists l xs }

-- the list with x taken out
abbrev pub without : ℕ → List ℕ → List ℕ
without x xs = filter (λ y. not (y == x)) xs

-- the lists have the numbers of nodes alone, and none of them more than once
pub record IsApart (c : Lists) : Type 0 where
  pub below : (x : ℕ) → 1 ≤ count_in_all x c.lists → x < c.nodes
  pub once : (x : ℕ) → count_in_all x c.lists ≤ 1

-- each number is in them as often as before
abbrev pub HasSameCounts : Lists → Lists → Type 0
HasSameCounts old new = (x : ℕ) → count_in_all x new.lists ≡ count_in_all x old.lists
