use Rattle.std.proofs.Common.{◌≡◌, ◌<◌, length, slice_get}
use Rattle.sa_keys.specs.Key.{key_of}
use Rattle.sa_explore.specs.Ahead.{AreAhead}
use Rattle.sa_explore.specs.Doing.{states_of, turns_to, HasDone}
use Rattle.sa_explore.proofs.search.Search.turn_each.Given as goal

abbrev pub invariant-loop-p : goal.invariant-loop-p
invariant-loop-p g l = record {
  done : HasDone g.U.UserLevel.calls g.U.Keyed.plain (key_of g.U.Keyed.value_key g.U.Keyed.context_key) l.scope l.self l.at l.p;
  ahead : AreAhead g.U.UserLevel.calls g.U.Keyed.plain (key_of g.U.Keyed.value_key g.U.Keyed.context_key) l.scope l.self;
  within : l.at < length (states_of l.self);
  turns : turns_to l.scope l.self l.at ≡ turns_to l.scope l.initial.self l.at;
  state : slice_get (states_of l.self) l.at ≡ slice_get (states_of l.initial.self) l.at;
}
