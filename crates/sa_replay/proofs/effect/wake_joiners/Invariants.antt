use Rattle.std.proofs.Common.{◌≡◌, ◌+◌, ◌≤◌, length, [], ◌++◌, vec_capacity}
use Rattle.sa_base.specs.declared.limits.TheConstants.{MAX_THREADS}
use Rattle.sa_sync.specs.Sync.{joiners_at, with_joiners}
use Rattle.sa_replay.specs.Space.{named}
use Rattle.sa_replay.proofs.effect.wake_joiners.Given as goal

abbrev pub invariant-loop-u : goal.invariant-loop-u
invariant-loop-u l = record {
  capacity : vec_capacity l.roused ≡ vec_capacity l.initial.roused;
  room : length l.roused.items + length (joiners_at l.sync l.t.0) ≤ vec_capacity l.roused;
  threads : length l.sync.joiners ≡ MAX_THREADS;
  rest : l.roused.items ++ named (joiners_at l.sync l.t.0) ≡ named (joiners_at l.initial.sync l.t.0);
  same : with_joiners l.sync l.t.0 [] ≡ with_joiners l.initial.sync l.t.0 [];
}

abbrev pub decreases-loop-u : goal.decreases-loop-u
decreases-loop-u l = length (joiners_at l.sync l.t.0)
