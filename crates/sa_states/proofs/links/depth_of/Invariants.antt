use Rattle.std.proofs.Common.{◌≡◌, ◌+◌, ◌<◌, ◌≤◌, length}
use Rattle.sa_explore_model.specs.Search.{way_to}
use Rattle.sa_states.proofs.links.depth_of.Given as goal

abbrev pub invariant-loop-at : goal.invariant-loop-at
invariant-loop-at l = record {
  within : l.at < length l.states;
  short : l.depth + l.at ≤ l.fn.state;
  way : l.depth + length (way_to l.states l.at) ≡ length (way_to l.states l.fn.state);
}

abbrev pub decreases-loop-at : goal.decreases-loop-at
decreases-loop-at l = l.at
