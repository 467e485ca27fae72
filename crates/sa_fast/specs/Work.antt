-- The work lists of a space's contexts. A list that is not empty has the number of its first thread, and a context names
-- its own by that thread.
use Rattle.std.specs.Prelude.{◌≡◌, ◌≢◌, ℕ, ◌<◌, ◌≤◌, List, [], ◌∷◌, ◌++◌, length, drop, Option, Some, None, slice_get, slice_set, unwrap_or}
use Rattle.sa_base.specs.declared.number.ThreadNo.{ThreadNo}
use Rattle.sa_base.specs.declared.limits.TheConstants.{MAX_THREADS}
use Rattle.sa_links.specs.Lists.{Lists, list_at, count_in_all}

-- all lists, and the one that a context names
pub record Work : Type 0 where
  pub lists : List (List ℕ)
  pub name : Option ThreadNo

abbrev pub with_name : List (List ℕ) → Option ThreadNo → Work
with_name lists name = record { lists = lists; name = name }

-- the threads of the list that a context names
abbrev pub work_of : List (List ℕ) → Option ThreadNo → List ℕ
work_of lists None = []
work_of lists (Some t) = list_at lists t.0

-- t is put at the end
abbrev pub added : Work → ThreadNo → Work
added w t = let name = unwrap_or w.name t in with_name (slice_set w.lists name.0 (list_at w.lists name.0 ++ t.0 ∷ [])) (Some name)

-- threads are put there one by one
abbrev pub added_all : Work → List ℕ → Work
added_all w [] = w
added_all w (t ∷ ts) = added_all (added w (record { 0 = t })) ts

-- a list is moved to the end of another
abbrev pub moved : List (List ℕ) → ℕ → ℕ → List (List ℕ)
moved lists l from = slice_set (slice_set lists l (list_at lists l ++ list_at lists from)) from []

-- the list of the first thread without it: what is left has the number of the next one
abbrev pub renamed : List (List ℕ) → ℕ → Option ℕ → Work
renamed lists l None = with_name lists None
renamed lists l (Some next) = with_name (moved lists next l) (Some (record { 0 = next }))

abbrev pub without_first : List (List ℕ) → ThreadNo → Work
without_first lists first =
    let left = slice_set lists first.0 (drop 1 (list_at lists first.0)) in renamed left first.0 (slice_get (list_at left first.0) 0)

-- one context's list is moved to the end of that of another
abbrev pub joined : List (List ℕ) → Option ThreadNo → Option ThreadNo → Work
joined lists name None = with_name lists name
joined lists None (Some from) = with_name lists (Some from)
joined lists (Some l) (Some from) = with_name (moved lists l.0 from.0) (Some l)

-- t is in no work list
abbrev pub IsUnlisted : List (List ℕ) → ℕ → Type 0
IsUnlisted lists t = count_in_all t lists ≡ 0

-- a context may name this list: it names none, or one that is not empty
abbrev pub IsWork : List (List ℕ) → Option ThreadNo → Type 0
IsWork lists None = Unit {0}
IsWork lists (Some t) = (t.0 < MAX_THREADS) × (1 ≤ length (list_at lists t.0))

-- two contexts name different lists
abbrev pub AreApart : Option ThreadNo → Option ThreadNo → Type 0
AreApart (Some a) (Some b) = a.0 ≢ b.0
AreApart _ _ = Unit {0}

-- there is a list for each thread, and one that is not empty begins with the thread of its number
pub record AreNamed (c : Lists) : Type 0 where
  pub nodes : c.nodes ≡ MAX_THREADS
  pub all : length c.lists ≡ MAX_THREADS
  pub first : (l t : ℕ) → slice_get (list_at c.lists l) 0 ≡ Some t → t ≡ l
