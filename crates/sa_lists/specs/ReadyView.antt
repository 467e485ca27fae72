-- The ready lists of a space, as callers see them.
use Rattle.std.specs.Prelude.{◌≡◌, ℕ, ◌+◌, ◌-◌, ◌≤◌, ◌<◌, Bool, true, false, not, ◌&&◌, nat_lt, if◌then◌else◌, List, [], ◌∷◌, ◌++◌, length, take, drop, replicate, sum_by, find, Option, Some, None, slice_get, slice_index, slice_index_or, slice_set, ◌==◌, ◌⊎◌}
use Rattle.std.specs.List.{range_with_len}
use Rattle.sa_base.specs.declared.number.ProcNo.{ProcNo}
use Rattle.sa_base.specs.declared.number.ThreadNo.{ThreadNo}
use Rattle.sa_links.specs.Lists.{Lists, list_at, count_in_all}
use Rattle.sa_base.specs.declared.limits.TheConstants.{MAX_PROCESSORS, MAX_THREADS}
use Rattle.sa_lists.specs.declared.ranks.Ranks.{Ranks}
use Rattle.sa_lists.specs.declared.ranks.Ranks.TheVariants.{One, Many}

pub record ReadyView : Type 0 where
  -- the numbers of the threads in each list: those of the greatest rank first, and of one rank the newest first
  pub lists : List (List ℕ)
  -- for each of these lists, whether its lock is held
  pub locked : List Bool
  -- how many threads were made, and how many can be
  pub made : ℕ
  pub threads : ℕ
  -- the rank of each thread; where there is one rank this is empty, and each thread has rank 0
  pub ranks : List ℕ

-- the ranks of threads of which none was made
abbrev pub opening_ranks : Ranks → ℕ → List ℕ
opening_ranks One threads = []
opening_ranks Many threads = replicate threads 0

-- empty lists whose locks are free, and no thread made
abbrev pub no_threads : ℕ → Ranks → ℕ → ReadyView
no_threads count ranks threads = record {
  lists = replicate count [];
  locked = replicate count false;
  made = 0;
  threads = threads;
  ranks = opening_ranks ranks threads;
}

-- the thread and the processor of a number
abbrev pub thread : ℕ → ThreadNo
thread n = record { 0 = n }

abbrev pub processor : ℕ → ProcNo
processor n = record { 0 = n }

-- the threads in list l
abbrev pub list_of : ReadyView → ℕ → List ℕ
list_of r l = list_at r.lists l

-- how many threads are ready
abbrev pub ready_count : ReadyView → ℕ
ready_count r = sum_by length r.lists

-- the lock of list l is held
abbrev pub is_locked : ReadyView → ℕ → Bool
is_locked r l = slice_index_or r.locked l false

abbrev pub IsLocked : ReadyView → ℕ → Type 0
IsLocked r l = is_locked r l ≡ true

-- thread t is in no list
abbrev pub IsUnlisted : ReadyView → ℕ → Type 0
IsUnlisted r t = count_in_all t r.lists ≡ 0

-- r with xs as its list l; with the lock of list l held or not
abbrev pub with_list : ReadyView → ℕ → List ℕ → ReadyView
with_list r l xs = record r { lists = slice_set r.lists l xs }

abbrev pub with_lock : ReadyView → ℕ → Bool → ReadyView
with_lock r l held = record r { locked = slice_set r.locked l held }

-- the rank of thread t
abbrev pub rank_of : List ℕ → ℕ → ℕ
rank_of ranks t = slice_index ranks t

-- threads have ranks of their own
abbrev pub has_ranks : ReadyView → Bool
has_ranks r = nat_lt 0 (length r.ranks)

-- a list with thread t too, which is in front of the first that does not outrank it
abbrev pub inserted : List ℕ → ℕ → List ℕ → List ℕ
inserted ranks t [] = t ∷ []
inserted ranks t (x ∷ xs) =
    if nat_lt (rank_of ranks t) (rank_of ranks x) then x ∷ inserted ranks t xs else t ∷ x ∷ xs

-- thread t is in list l too: the newest of its rank
abbrev pub pushed : ReadyView → ℕ → ℕ → ReadyView
pushed r l t = with_list r l (inserted r.ranks t (list_of r l))

-- the first and the last thread of list l, the newest and the oldest where there is one rank, and what is left without it
abbrev pub newest : ReadyView → ℕ → Option ℕ
newest r l = slice_get (list_of r l) 0

abbrev pub without_newest : ReadyView → ℕ → ReadyView
without_newest r l = with_list r l (drop 1 (list_of r l))

abbrev pub oldest : ReadyView → ℕ → Option ℕ
oldest r l = slice_get (list_of r l) (length (list_of r l) - 1)

abbrev pub without_oldest : ReadyView → ℕ → ReadyView
without_oldest r l = with_list r l (take (length (list_of r l) - 1) (list_of r l))

-- list l has a thread, and its lock is free
abbrev pub is_open : ReadyView → ℕ → Bool
is_open r l = not (is_locked r l) && nat_lt 0 (length (list_of r l))

-- the numbers from p on to those below n, and then round to those below p
abbrev pub numbers_round : ℕ → ℕ → List ℕ
numbers_round n p = range_with_len p (n - p) ++ range_with_len 0 p

-- the first open list from list p on, and round
abbrev pub sought : ReadyView → ℕ → Option ℕ
sought r p = find (is_open r) (numbers_round (length r.lists) p)

-- how many steps it is round from p to q, of n numbers in all
abbrev pub steps_round : ℕ → ℕ → ℕ → ℕ
steps_round n p q = if nat_lt q p then n - p + q else q - p

-- the list that counts as a processor's own: its own, or the only one
abbrev pub home : ReadyView → ℕ → ℕ
home r p = if length r.lists == 1 then 0 else p

-- there are lists for that many processors: one for each, or one for all
abbrev pub AreListsFor : ℕ → ℕ → Type 0
AreListsFor processors count = (count ≡ processors) ⊎ (count ≡ 1)

-- the next thread to make, where there is one, and r once it is made with that rank; a thread that is in a list
-- before it is made keeps the rank with which it was put there
abbrev pub next_made : ReadyView → Option ℕ
next_made r = if nat_lt r.made r.threads then Some r.made else None

abbrev pub with_rank : ReadyView → ℕ → ℕ → List ℕ
with_rank r t rank = if count_in_all t r.lists == 0 then slice_set r.ranks t rank else r.ranks

abbrev pub with_made : ReadyView → ℕ → Option ℕ → ReadyView
with_made r rank None = r
with_made r rank (Some t) = record r { made = t + 1; ranks = with_rank r t rank }

-- what holds of all ready lists, those that `no_threads` begins and the changes above lead to
pub record IsReady (r : ReadyView) : Type 0 where
  pub locks : length r.locked ≡ length r.lists
  pub processors : length r.lists ≤ MAX_PROCESSORS
  pub made : r.made ≤ r.threads
  pub threads : r.threads ≤ MAX_THREADS
  -- the lists hold threads that can be, and none of them twice
  pub below : (t : ℕ) → 1 ≤ count_in_all t r.lists → t < r.threads
  pub once : (t : ℕ) → count_in_all t r.lists ≤ 1

-- how a `ReadyLists` stores them: lists with a node for each thread, the locks, and how many threads are ready and made
pub record IsStored (links : Lists) (locked : List Bool) (ready made threads : ℕ) : Type 0 where
  pub nodes : links.nodes ≡ threads
  pub counted : ready ≡ sum_by length links.lists
  pub locks : length locked ≡ length links.lists
  pub processors : length links.lists ≤ MAX_PROCESSORS
  pub within : made ≤ threads
  pub most : threads ≤ MAX_THREADS
