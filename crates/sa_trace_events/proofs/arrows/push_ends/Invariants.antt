use Rattle.std.proofs.Common.{◌≡◌, ◌++◌, drop}
use Rattle.sa_trace_events.specs.Arrows.{ends_from, ends_of}
use Rattle.sa_trace_events.proofs.arrows.push_ends.Given as goal

abbrev pub invariant-loop-item : goal.invariant-loop-item
invariant-loop-item l =
    l.out.items ++ ends_from l.arrow l.begun (drop l.item-index l.items) ≡ l.initial.out.items ++ ends_of l.items l.arrow
