use Rattle.std.proofs.Common.{◌≡◌, ◌+◌, ◌-◌, ◌++◌, replicate}
use Rattle.sa_base.specs.Items.{items_from}
use Rattle.sa_abstract.specs.OneThread.{round_in}
use Rattle.sa_abstract.proofs.one_thread.go_round.Given as goal

abbrev pub invariant-loop-done : goal.invariant-loop-done
invariant-loop-done l = record {
  spare : l.trace.spare + l.done ≡ l.initial.trace.spare;
  items : l.trace.items ++ items_from (l.seen.event + l.done) l.seen.proc (replicate (l.n - l.done) (round_in l.space))
      ≡ l.initial.trace.items ++ items_from l.seen.event l.seen.proc (replicate l.n (round_in l.space));
}
