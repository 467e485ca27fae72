use Rattle.std.proofs.Common.{◌≡◌, ◌<◌, ◌++◌, length, reverse}
use Rattle.sa_explore_model.specs.Search.{way_to}
use Rattle.sa_states.proofs.links.schedule.Given as goal

abbrev pub invariant-loop-at : goal.invariant-loop-at
invariant-loop-at l = record {
  within : l.at < length l.states;
  way : way_to l.states l.fn.state ≡ way_to l.states l.at ++ reverse l.back.items;
}

abbrev pub decreases-loop-at : goal.decreases-loop-at
decreases-loop-at l = l.at
