use Rattle.std.proofs.Common.{◌≡◌, ◌++◌, take}
use Rattle.std.specs.List.{flat_map}
use Rattle.sa_trace_events.specs.Events.{notice_of}
use Rattle.sa_trace_events.proofs.whole.push_notices.Given as goal

abbrev pub invariant-loop-item : goal.invariant-loop-item
invariant-loop-item l = l.out.items ≡ l.initial.out.items ++ flat_map notice_of (take l.item-index l.items)
