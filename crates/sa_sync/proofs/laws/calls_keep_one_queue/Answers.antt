use Rattle.sa_sync.specs.Calls.{locked, waited, signalled, joined}
use Rattle.sa_sync.proofs.LawLemmas.{keeps_one_queue, wakes_keep_one_queue, unlocked_keeps, without_joiner_keeps, locked_tells, waited_tells, signalled_tells, joined_tells}
use Rattle.sa_sync.proofs.laws.calls_keep_one_queue.Goals as goal

pub returns : goal.returns
returns c = (
  λ s t m once thread nowhere h. keeps_one_queue s t (locked s t m) once thread nowhere (locked_tells s t m h),
  unlocked_keeps,
  λ s t k once thread nowhere h. keeps_one_queue s t (waited s t k) once thread nowhere (waited_tells s t k h),
  λ s k once h. wakes_keep_one_queue s (signalled s k) once (λ t. signalled_tells s t k h),
  λ s t other made once thread nowhere few. keeps_one_queue s t (joined s t other made) once thread nowhere (joined_tells s t other made few),
  λ s t once. record { threads = once.threads; once = once.once },
  without_joiner_keeps,
)
