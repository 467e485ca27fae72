-- How the I/Os under way are kept.
use Rattle.std.specs.Prelude.{◌≡◌, ℕ, ◌+◌, ◌<◌, ◌≤◌, ◌⊎◌, List, [], ◌∷◌, Contains, Option, Some, None, option_map, slice_index_or}
use Rattle.std.specs.Ordering.{nat_cmp, ordering_then}
use Rattle.std.specs.declared.cmp.Ordering.{Ordering}
use Rattle.std.specs.declared.cmp.Reverse.{Reverse}
use Rattle.std.specs.BinaryHeap.{IsHeap}
use Rattle.sa_devices.specs.declared.under_way.Entry.{Entry}
use Rattle.sa_devices.specs.Ios.{Io}

-- the I/Os in these places, the first place having this number
abbrev pub listed : ℕ → List (Option Entry) → List Io
listed first [] = []
listed first (None ∷ places) = listed (first + 1) places
listed first (Some e ∷ places) = record { number = first; ends = e.ends; kind = e.kind } ∷ listed (first + 1) places

-- what is kept of an I/O at the place of its number
abbrev pub entry_of : Io → Entry
entry_of io = record { ends = io.ends; kind = io.kind }

-- what the heap holds of an I/O: its end and its number
abbrev pub Key : Type 0
Key = Reverse (ℕ × ℕ)

abbrev pub key_of : ℕ → ℕ → Key
key_of ends number = record { 0 = (ends, number) }

-- the order of keys: the least end and number is the greatest key
abbrev pub key_cmp : Key → Key → Ordering
key_cmp a b = ordering_then (nat_cmp b.0.0 a.0.0) (nat_cmp b.0.1 a.0.1)

-- the first does not come after the second
abbrev pub IsNotAfter : Key → Key → Type 0
IsNotAfter a b = (a.0.0 < b.0.0) ⊎ ((a.0.0 ≡ b.0.0) × (a.0.1 ≤ b.0.1))

-- the I/O at a place
abbrev pub entry_at : List (Option Entry) → ℕ → Option Entry
entry_at places n = slice_index_or places n None

-- the end of the I/O at a place
abbrev pub ends_at : List (Option Entry) → ℕ → Option ℕ
ends_at places n = option_map (λ (e : Entry). e.ends) (entry_at places n)

-- the key is that of an I/O under way
abbrev pub IsOfOne : List (Option Entry) → Key → Type 0
IsOfOne places key = ends_at places key.0.1 ≡ Some key.0.0

-- each I/O under way has its key
abbrev pub HaveKeys : List (Option Entry) → List Key → Type 0
HaveKeys places keys = (n ends : ℕ) → ends_at places n ≡ Some ends → Contains keys (key_of ends n)

-- some I/O under way does not come after the key
pub record IsCovered (places : List (Option Entry)) (key : Key) : Type 0 where
  pub by : Key
  pub one : IsOfOne places by
  pub first : IsNotAfter by key

-- the heap is in order, each I/O under way has its key there, and no key there comes before them all
pub record AreKept (places : List (Option Entry)) (keys : List Key) : Type 0 where
  pub ordered : IsHeap key_cmp keys
  pub keyed : HaveKeys places keys
  pub covered : (key : Key) → Contains keys key → IsCovered places key
