-- What entries to come add to the trace for what was done already: each notice is told once, and each context that is handed
-- over is given back once.
use Rattle.std.specs.Prelude.{ℕ, ◌+◌, sum_by}
use Rattle.sa_base.specs.declared.record.Note.{Note}
use Rattle.sa_base.specs.declared.record.Note.TheVariants.{Add, Preempted, Blocked, Unblocked}
use Rattle.sa_kernel_model.specs.State.{KernelState}
use Rattle.sa_kernel_model.specs.Enters.{untold_count, taken_count}

-- a notice hands over a context, once or not
abbrev pub hand_over : Note → ℕ
hand_over (Add p) = 0
hand_over (Preempted a) = 1
hand_over (Blocked a) = 0
hand_over (Unblocked a) = 1

module _ {C : Type 0} where
  -- how many told notices that hand over a context were not fetched
  abbrev pub told_count : KernelState C → ℕ
  told_count k = sum_by hand_over k.telling

  -- how many notices are on their way, from the event that gave them to the end of the activation that they hand over
  abbrev pub pending_count : KernelState C → ℕ
  pending_count k = untold_count k + told_count k + taken_count k

  -- that many items are owed at most: two for a notice that was not told, one for a told one and for a taken activation
  abbrev pub owed_items : KernelState C → ℕ
  owed_items k = untold_count k + pending_count k
