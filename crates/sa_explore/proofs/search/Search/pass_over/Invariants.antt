use Rattle.std.proofs.Common.{◌≡◌}
use Rattle.sa_keys.specs.Key.{key_of}
use Rattle.sa_explore.specs.Ahead.{AreAhead}
use Rattle.sa_explore.specs.Doing.{HasDone}
use Rattle.sa_explore.proofs.search.Search.pass_over.Given as goal

abbrev pub invariant-loop-p : goal.invariant-loop-p
invariant-loop-p g l = record {
  done : HasDone g.U.UserLevel.calls g.U.Keyed.plain (key_of g.U.Keyed.value_key g.U.Keyed.context_key) l.scope l.self l.at l._p;
  ahead : AreAhead g.U.UserLevel.calls g.U.Keyed.plain (key_of g.U.Keyed.value_key g.U.Keyed.context_key) l.scope l.self;
  store : l.self.store ≡ l.initial.self.store;
}
