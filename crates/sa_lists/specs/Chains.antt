-- Lists in the order of ranks, as chains: one for each rank of each list.
use Rattle.std.specs.Prelude.{◌≡◌, ◌≢◌, ℕ, zero, suc, ◌*◌, ◌<◌, ◌≤◌, Bool, true, false, List, [], ◌∷◌, ◌++◌, length, take, drop, slice_index_or}
use Rattle.sa_links.specs.Lists.{Lists, list_at, IsIn}
use Rattle.sa_lists.specs.declared.ranks.Ranks.{Ranks}
use Rattle.sa_lists.specs.declared.ranks.Ranks.TheVariants.{One, Many}
use Rattle.sa_lists.specs.declared.ranks.TheConstants.{MAX_RANKS}
use Rattle.sa_lists.specs.declared.rank_set.RankSet.{RankSet}
use Rattle.sa_lists.specs.ReadyView.{rank_of}
use Rattle.sa_lists.specs.RankSet.{has}

-- lists of threads, and the ranks by which they are in order
pub record Ranked : Type 0 where
  pub lists : Lists
  pub ranks : List ℕ

-- how many ranks there are
abbrev pub width_of : Ranks → ℕ
width_of One = 1
width_of Many = MAX_RANKS

-- the chains of a list, from rank 0 up, as one list: the greatest rank first
abbrev pub joined : List (List ℕ) → List ℕ
joined [] = []
joined (xs ∷ chains) = joined chains ++ xs

-- the chains of list l, where each list has `width` of them
abbrev pub chains_of : List (List ℕ) → ℕ → ℕ → List (List ℕ)
chains_of chains width l = take width (drop (l * width) chains)

-- n lists, of `width` chains each
abbrev pub lists_of : List (List ℕ) → ℕ → ℕ → List (List ℕ)
lists_of chains width zero = []
lists_of chains width (suc n) = joined (take width chains) ∷ lists_of (drop width chains) width n

-- the ranks of list l
abbrev pub words_of : List RankSet → ℕ → List ℕ
words_of filled l = (slice_index_or filled l (record { words = [] })).words

-- a chain has some thread
abbrev pub is_filled : List ℕ → Bool
is_filled [] = false
is_filled (x ∷ xs) = true

-- it is noted that a rank of list l has threads or has none
pub record IsNoted (old : List RankSet) (l rank : ℕ) (some : Bool) (new : List RankSet) : Type 0 where
  pub count : length new ≡ length old
  pub here : has (words_of new l) rank ≡ some
  pub others : (k : ℕ) → k ≢ rank → has (words_of new l) k ≡ has (words_of old l) k
  pub elsewhere : (m k : ℕ) → m ≢ l → has (words_of new m) k ≡ has (words_of old m) k

-- where there is one rank, no thread has one of its own
abbrev pub IsBare : Ranks → List ℕ → Type 0
IsBare One of = of ≡ []
IsBare Many of = Unit {0}

-- of chains that are numbered from 0, each has threads of its rank alone
abbrev pub AreByRank : List ℕ → List (List ℕ) → Type 0
AreByRank of chains = (k t : ℕ) → IsIn t (list_at chains k) → rank_of of t ≡ k

-- chain k has some thread, and none after it has, or none before it
abbrev pub IsGreatestFilled : List (List ℕ) → ℕ → Type 0
IsGreatestFilled chains k = (is_filled (list_at chains k) ≡ true) × ((j : ℕ) → k < j → is_filled (list_at chains j) ≡ false)

abbrev pub IsLeastFilled : List (List ℕ) → ℕ → Type 0
IsLeastFilled chains k = (is_filled (list_at chains k) ≡ true) × ((j : ℕ) → j < k → is_filled (list_at chains j) ≡ false)

-- no thread outranks one before it
abbrev pub IsOrdered : List ℕ → List ℕ → Type 0
IsOrdered of [] = Unit {0}
IsOrdered of (x ∷ xs) = ((t : ℕ) → IsIn t xs → rank_of of t ≤ rank_of of x) × IsOrdered of xs

-- how they are stored: chain k of a list has the threads of rank k, and the list's set has the ranks whose chains have some
pub record IsRanked (kind : Ranks) (chains : List (List ℕ)) (filled : List RankSet) (of : List ℕ) : Type 0 where
  pub size : length chains ≡ length filled * width_of kind
  pub sets : (l k : ℕ) → l < length filled → has (words_of filled l) k ≡ is_filled (list_at (chains_of chains (width_of kind) l) k)
  pub ranked : (l k t : ℕ) → l < length filled → IsIn t (list_at (chains_of chains (width_of kind) l) k) → rank_of of t ≡ k
  pub below : (t : ℕ) → rank_of of t < width_of kind
  pub bare : IsBare kind of
