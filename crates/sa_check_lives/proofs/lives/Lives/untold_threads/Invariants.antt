use Rattle.std.proofs.Common.{◌≡◌, ◌+◌, ◌≤◌, drop}
use Rattle.std.specs.Prelude.{sum_by}
use Rattle.sa_check_lives.specs.View.{lives_of, thread_of_note, untold_threads}
use Rattle.sa_check_lives.proofs.lives.Lives.untold_threads.Given as goal

abbrev pub invariant-loop-note : goal.invariant-loop-note
invariant-loop-note l = record {
  rest : l.threads + sum_by (thread_of_note (lives_of l.self)) (drop l.note-index l.note-items) ≡ untold_threads (lives_of l.self) l.fn.s;
  few : l.threads ≤ l.note-index;
}
