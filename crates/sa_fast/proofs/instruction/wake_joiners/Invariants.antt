use Rattle.std.proofs.Common.{◌≡◌, ℕ, length, []}
use Rattle.sa_base.specs.declared.limits.TheConstants.{MAX_THREADS}
use Rattle.sa_sync.specs.Sync.{Waits, WaitsOnce, joiners_at, with_joiners}
use Rattle.sa_fast.specs.Work.{with_name, added_all, IsUnlisted, IsWork}
use Rattle.sa_fast.proofs.instruction.wake_joiners.Given as goal

abbrev pub invariant-loop-u : goal.invariant-loop-u
invariant-loop-u l = record {
  once : WaitsOnce l.sync;
  threads : length l.sync.joiners ≡ MAX_THREADS;
  named : IsWork l.works l.work;
  waiting : (u : ℕ) → Waits l.sync u → IsUnlisted l.works u;
  rest : added_all (with_name l.works l.work) (joiners_at l.sync l.t.0)
      ≡ added_all (with_name l.initial.works l.initial.work) (joiners_at l.initial.sync l.t.0);
  same : with_joiners l.sync l.t.0 [] ≡ with_joiners l.initial.sync l.t.0 [];
}

abbrev pub decreases-loop-u : goal.decreases-loop-u
decreases-loop-u l = length (joiners_at l.sync l.t.0)
