use Rattle.std.proofs.Common.{◌≤◌, ◌-◌, length}
use Rattle.sa_keys.specs.Key.{key_of}
use Rattle.sa_explore.specs.Ahead.{AreAhead}
use Rattle.sa_explore.specs.Doing.{states_of, HasDone}
use Rattle.sa_explore.proofs.search.Search.go_through.Given as goal

abbrev pub invariant-loop-at : goal.invariant-loop-at
invariant-loop-at g l = record {
  done : HasDone g.U.UserLevel.calls g.U.Keyed.plain (key_of g.U.Keyed.value_key g.U.Keyed.context_key) l.scope l.self l.at 0;
  ahead : AreAhead g.U.UserLevel.calls g.U.Keyed.plain (key_of g.U.Keyed.value_key g.U.Keyed.context_key) l.scope l.self;
  within : l.at ≤ length (states_of l.self);
}

abbrev pub decreases-loop-at : goal.decreases-loop-at
decreases-loop-at g l = l.scope.most - l.at
