-- Rings of nodes that stand for lists of numbers.
use Rattle.std.specs.Prelude.{◌≡◌, ℕ, zero, suc, ◌+◌, ◌-◌, ◌<◌, List, [], ◌∷◌, length, nat_lt, slice_index, slice_set, if◌then◌else◌}
use Rattle.sa_links.specs.Lists.{Lists, list_at, IsFree, IsApart}

-- where each node's links lead: the numbers of the nodes after it and before it
pub record Wires : Type 0 where
  pub next : List ℕ
  pub prev : List ℕ

-- the same, once the node b follows the node a
abbrev pub joined : Wires → ℕ → ℕ → Wires
joined w a b = record { next = slice_set w.next a b; prev = slice_set w.prev b a }

-- the links lead from a to b and back
pub record IsEdge (w : Wires) (a b : ℕ) : Type 0 where
  pub forth : slice_index w.next a ≡ b
  pub back : slice_index w.prev b ≡ a

-- they lead from a through xs to z, and back
abbrev pub IsChain : Wires → ℕ → List ℕ → ℕ → Type 0
IsChain w a [] z = IsEdge w a z
IsChain w a (x ∷ xs) z = IsEdge w a x × IsChain w x xs z

-- the list l is the ring of its head, which comes after the nodes as the l-th of the heads, and a node that is in no
-- list is a ring of its own
pub record IsRings (w : Wires) (c : Lists) : Type 0 where
  pub nexts : length w.next ≡ c.nodes + length c.lists
  pub prevs : length w.prev ≡ c.nodes + length c.lists
  pub apart : IsApart c
  pub rings : (l : ℕ) → l < length c.lists → IsChain w (c.nodes + l) (list_at c.lists l) (c.nodes + l)
  pub lone : (x : ℕ) → x < c.nodes → IsFree c x → IsEdge w x x

-- the numbers below n that the links lead to from a on, and at most `fuel` of them
abbrev pub followed : List ℕ → ℕ → ℕ → ℕ → List ℕ
followed next n zero a = []
followed next n (suc fuel) a = if nat_lt (slice_index next a) n then slice_index next a ∷ followed next n fuel (slice_index next a) else []

-- the rings of `count` heads, from the head `head` on
abbrev pub rings_from : List ℕ → ℕ → ℕ → ℕ → List (List ℕ)
rings_from next n head zero = []
rings_from next n head (suc count) = followed next n n head ∷ rings_from next n (head + 1) count

-- the lists of `count` nodes whose links lead so
abbrev pub lists_of : Wires → ℕ → Lists
lists_of w count = record { nodes = count; lists = rings_from w.next count count (length w.next - count) }
