-- What proofs of callers need of the lists.
use Rattle.std.proofs.Common.{◌≡◌, ◌≢◌, ℕ, ◌+◌, ◌<◌, List, [], ◌++◌, length, ap, sym, arith}
use Rattle.std.proofs.lemmas.List.{get_or-set_other, get_or-set_same, length-set}
use Rattle.sa_links.specs.Lists.{Lists, list_at, count_in, count_in_all, HasSameCounts, with_list}
use Rattle.sa_links.proofs.Counting.{count-append, count_set}

-- the lists once one of them is replaced
pub list_same : (c : Lists) (l : ℕ) (xs : List ℕ) → l < length c.lists → list_at (with_list c l xs).lists l ≡ xs
list_same c l xs h = get_or-set_same c.lists l xs _ h

pub list_other : (c : Lists) (l m : ℕ) (xs : List ℕ) → m ≢ l → list_at (with_list c l xs).lists m ≡ list_at c.lists m
list_other c l m xs ne = get_or-set_other c.lists l m xs _ ne

pub lists_same : (c : Lists) (l : ℕ) (xs : List ℕ) → length (with_list c l xs).lists ≡ length c.lists
lists_same c l xs = length-set c.lists l xs

-- how often a number is in them then
pub count_with : (x : ℕ) (c : Lists) (l : ℕ) (xs : List ℕ) → l < length c.lists
    → count_in_all x (with_list c l xs).lists + count_in x (list_at c.lists l) ≡ count_in_all x c.lists + count_in x xs
count_with x c l xs h = count_set x c.lists l xs h

-- a list that is moved to the end of another leaves each number as often as it was
pub counts_moved : (c : Lists) (l m : ℕ) → l ≢ m → l < length c.lists → m < length c.lists
    → HasSameCounts c (with_list (with_list c l (list_at c.lists l ++ list_at c.lists m)) m [])
counts_moved c l m differ left right x =
    let xs : List ℕ = list_at c.lists l in
    let ys : List ℕ = list_at c.lists m in
    let one : Lists = with_list c l (xs ++ ys) in
    let first = count_with x c l (xs ++ ys) left in
    let second = count_with x one m [] (omega (arith, lists_same c l (xs ++ ys))) in
    let both : count_in x (xs ++ ys) ≡ count_in x xs + count_in x ys = count-append x xs ys in
    let same : count_in x (list_at one.lists m) ≡ count_in x ys = ap (count_in x) (list_other c l m (xs ++ ys) (λ e. differ (sym e))) in
    omega arith
