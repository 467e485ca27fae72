use Rattle.std.proofs.Common.{◌≡◌, drop}
use Rattle.sa_trace_events.specs.Whole.{threads_from, threads_of}
use Rattle.sa_trace_events.proofs.whole.threads_of.Given as goal

abbrev pub invariant-loop-item : goal.invariant-loop-item
invariant-loop-item l = threads_from l.threads (drop l.item-index l.items) ≡ threads_of l.items
