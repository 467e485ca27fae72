use Rattle.std.proofs.Common.{◌≡◌, ℕ, ◌+◌, ◌<◌, ◌≤◌, length, get_or, vec_len, vec_capacity, None}
use Rattle.std.specs.Vec.{vec_ptr}
use Rattle.sa_links.specs.declared.node.Node.{Node}
use Rattle.sa_links.specs.Wiring.{next_of, number_at, numbers_of, prev_of}
use Rattle.sa_links.proofs.start.numbered.Given as goal

abbrev pub invariant-loop-index : goal.invariant-loop-index
invariant-loop-index l = record {
  block : vec_ptr l.nodes ≡ l.begin.ptr;
  room : l.size ≤ vec_capacity l.nodes;
  sizes : l.size ≡ l.count + l.lists;
  len : vec_len l.nodes ≡ l.index;
  size : length l.nodes.items ≡ l.index;
  numbered : (k : ℕ) → k < l.index → get_or (numbers_of l.nodes.items) k None ≡ number_at l.count k;
  linked : (k : ℕ) (d : Node) → k < l.index → (prev_of (get_or l.nodes.items k d) ≡ l.begin.ptr) × (next_of (get_or l.nodes.items k d) ≡ l.begin.ptr);
}
