-- What the nodes of a block say: where their links lead, and their numbers.
use Rattle.std.specs.Prelude.{◌≡◌, ℕ, List, length, map, All, Option, Some, None, nat_lt, slice_index_or, if◌then◌else◌}
use Rattle.std.specs.Ptr.{Ptr}
use Rattle.sa_links.specs.Slot.{IsSlot, index_of}
use Rattle.sa_links.specs.Rings.{Wires, IsRings, lists_of}
use Rattle.sa_links.specs.declared.node.Node.{Node, Node'}
use Rattle.sa_links.specs.contracts.node.Node.{the_row}

-- the block of `size` nodes that begins at base has a node at p
abbrev pub IsNodeSlot : Ptr → ℕ → Ptr → Type 0
IsNodeSlot base size p = IsSlot the_row base size p

-- which of its nodes that is, from 0 on
abbrev pub node_index : Ptr → Ptr → ℕ
node_index base p = index_of the_row base p

-- where a node's links lead, and the number that it holds
abbrev pub prev_of : Node → Ptr
prev_of (Node' prev next number) = prev

abbrev pub next_of : Node → Ptr
next_of (Node' prev next number) = next

abbrev pub number_of : Node → Option ℕ
number_of (Node' prev next number) = number

-- both links of a node lead to nodes of the block
pub record IsLinked (base : Ptr) (size : ℕ) (node : Node) : Type 0 where
  pub prev : IsNodeSlot base size (prev_of node)
  pub next : IsNodeSlot base size (next_of node)

abbrev pub AreLinked : Ptr → List Node → Type 0
AreLinked base nodes = All (IsLinked base (length nodes)) nodes

-- where the links of all nodes lead
abbrev pub wires_of : Ptr → List Node → Wires
wires_of base nodes = record { next = map (λ n. node_index base (next_of n)) nodes; prev = map (λ n. node_index base (prev_of n)) nodes }

-- the numbers that the nodes hold
abbrev pub numbers_of : List Node → List (Option ℕ)
numbers_of nodes = map number_of nodes

-- the first `count` nodes hold their own numbers, and the heads of lists after them none
abbrev pub number_at : ℕ → ℕ → Option ℕ
number_at count k = if nat_lt k count then Some k else None

abbrev pub AreNumbered : ℕ → List Node → Type 0
AreNumbered count nodes = (k : ℕ) → slice_index_or (numbers_of nodes) k None ≡ number_at count k

-- a change of links alone: the block, its size and the numbers stay, and links lead to nodes as before
pub record IsRelinked (base : Ptr) (old : List Node) (base' : Ptr) (new : List Node) : Type 0 where
  pub block : base' ≡ base
  pub size : length new ≡ length old
  pub numbers : numbers_of new ≡ numbers_of old
  pub linked : AreLinked base old → AreLinked base' new

-- the nodes of a `Links`: the first `count` are nodes, the others the heads of its lists
pub record IsLinks (begin base : Ptr) (nodes : List Node) (count : ℕ) : Type 0 where
  pub begins : begin ≡ base
  pub linked : AreLinked base nodes
  pub numbered : AreNumbered count nodes
  pub rings : IsRings (wires_of base nodes) (lists_of (wires_of base nodes) count)
