use Rattle.std.proofs.Common.{◌≡◌, ◌<◌, ◌≤◌, ℕ, ◌||◌, false, length}
use Rattle.std.specs.Prelude.{slice_index_or}
use Rattle.sa_base.specs.declared.limits.TheConstants.{MAX_THREADS}
use Rattle.sa_driven_model.proofs.threads.ThreadSet.add_all.Given as goal

abbrev pub invariant-loop-t : goal.invariant-loop-t
invariant-loop-t l = record {
  all : length l.self-inside.is_in ≡ MAX_THREADS;
  done : (k : ℕ) → k < l.t
      → slice_index_or l.self-inside.is_in k false ≡ (slice_index_or l.initial.self-inside.is_in k false || slice_index_or l.others-inside.is_in k false);
  left : (k : ℕ) → l.t ≤ k → slice_index_or l.self-inside.is_in k false ≡ slice_index_or l.initial.self-inside.is_in k false;
}
