use Rattle.std.proofs.Common.{ℕ, ◌<◌}
use Rattle.std.specs.Vec.{vec_ptr}
use Rattle.sa_links.specs.Rings.{IsEdge}
use Rattle.sa_links.specs.Wiring.{IsRelinked, wires_of}
use Rattle.sa_links.proofs.start.close.Given as goal

abbrev pub invariant-loop-index : goal.invariant-loop-index
invariant-loop-index l = record {
  relinked : IsRelinked (vec_ptr l.fn.nodes) l.fn.nodes.items (vec_ptr l.nodes) l.nodes.items;
  closed : (k : ℕ) → k < l.index → IsEdge (wires_of (vec_ptr l.nodes) l.nodes.items) k k;
}
