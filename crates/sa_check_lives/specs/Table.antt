-- The lives of a table, and the lists of numbers that are kept beside it.
use Rattle.std.specs.Prelude.{◌≡◌, ◌≢◌, ℕ, ◌%◌, ◌==◌, Bool, true, false, not, ◌&&◌, List, Contains, [], Option, Some, None, slice_index_or}
use Rattle.std.specs.List.{list_any, position}
use Rattle.std.specs.Ordering.{nat_cmp}
use Rattle.std.specs.BTreeMap.{is_at}
use Rattle.std.specs.Map.{lookup}
use Rattle.sa_base.specs.declared.number.ProcNo.{ProcNo}
use Rattle.sa_base.specs.declared.number.SpaceNo.{SpaceNo}
use Rattle.sa_base.specs.declared.number.ThreadNo.{ThreadNo}
use Rattle.sa_base.specs.declared.number.ActNo.{ActNo}
use Rattle.sa_laws.specs.Life.{Life, Lock, has_lock}
use Rattle.sa_laws.specs.Record.{is_thread}
use Rattle.sa_check_lives.specs.declared.life.Lost.{Lost}
use Rattle.sa_check_lives.specs.declared.shelves.TheConstants.{SHELVES}

-- the lives of a shelf, by its entries
abbrev pub lives_among : List (ℕ × Life) → ℕ → Option Life
lives_among entries a = lookup (is_at (nat_cmp a)) entries

-- the place of a number among the entries
abbrev pub place_among : List (ℕ × Life) → ℕ → Option ℕ
place_among entries a = position (λ e. e.0 == a) entries

-- the shelf of a number
abbrev pub shelf_of : ℕ → ℕ
shelf_of a = a % SHELVES

-- the lives of a table, each on the shelf of its number
abbrev pub lives_in : List (List (ℕ × Life)) → ℕ → Option Life
lives_in shelves a = lives_among (slice_index_or shelves (shelf_of a) []) a

-- each life that passes the test is among the numbers
pub record AreAmong (test : Life → Bool) (lives : ℕ → Option Life) (numbers : List ℕ) : Type 0 where
  pub each : (a : ℕ) (life : Life) → lives a ≡ Some life → test life ≡ true → Contains numbers a

abbrev pub is_inside : Life → Bool
is_inside life = life.inside

-- what a change took from a life, where it is there: one that has a lock, or is in, did not lose it
pub record IsLost (lost : Lost) (here : Option Life) : Type 0 where
  pub lock : (life : Life) → here ≡ Some life → has_lock life ≡ true → lost.lock ≡ false
  pub inside : (life : Life) → here ≡ Some life → is_inside life ≡ true → lost.inside ≡ false

-- some life of these numbers passes the test
abbrev pub some_passes : (ℕ → Option Life → Bool) → (ℕ → Option Life) → List ℕ → Bool
some_passes test lives numbers = list_any (λ a. test a (lives a)) numbers

-- a life of this space, but for that of a number that is given, has the list among its locks
abbrev pub is_list : ProcNo → Lock → Bool
is_list l lock = lock.list.0 == l.0

abbrev pub is_act : ℕ → Option ActNo → Bool
is_act a None = false
is_act a (Some b) = b.0 == a

abbrev pub has_list : Option ActNo → SpaceNo → ProcNo → ℕ → Option Life → Bool
has_list but s l a None = false
has_list but s l a (Some life) = not (is_act a but) && (life.space.0 == s.0 && list_any (is_list l) life.locks)

-- a life of this space has a lock of the thread
abbrev pub is_of_thread : ThreadNo → Lock → Bool
is_of_thread t lock = is_thread t lock.thread

abbrev pub has_thread : SpaceNo → ThreadNo → ℕ → Option Life → Bool
has_thread s t a None = false
has_thread s t a (Some life) = life.space.0 == s.0 && list_any (is_of_thread t) life.locks

abbrev pub is_in : ℕ → Option Life → Bool
is_in a None = false
is_in a (Some life) = life.inside

-- some life is in
pub record SomeIsIn (lives : ℕ → Option Life) : Type 0 where
  pub act : ℕ
  pub life : Life
  pub is : lives act ≡ Some life
  pub inside : life.inside ≡ true

-- the numbers before are still there: all of them; all but one; that of the last up
pub record KeepsAll (old new : List ℕ) : Type 0 where
  pub each : (k : ℕ) → Contains old k → Contains new k

pub record KeepsOthers (n : ℕ) (old new : List ℕ) : Type 0 where
  pub each : (k : ℕ) → k ≢ n → Contains old k → Contains new k

pub record KeepsUpped (upped : Option ActNo) (old new : List ℕ) : Type 0 where
  pub each : (to : ActNo) → upped ≡ Some to → Contains old to.0 → Contains new to.0

-- a number is still there, unless it was removed
pub record KeepsUnless (removed : Bool) (n : ℕ) (old new : List ℕ) : Type 0 where
  pub each : removed ≡ false → Contains old n → Contains new n

-- a number is there, if it was added
pub record IsThere (added : Bool) (n : ℕ) (numbers : List ℕ) : Type 0 where
  pub each : added ≡ true → Contains numbers n

-- the life of the last up is there, where it gets a lock
pub record IsAddedTo (upped : Option ActNo) (has_lock : Bool) (holders : List ℕ) : Type 0 where
  pub each : (to : ActNo) → upped ≡ Some to → has_lock ≡ true → Contains holders to.0
