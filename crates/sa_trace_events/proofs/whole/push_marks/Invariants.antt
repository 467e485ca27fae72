use Rattle.std.proofs.Common.{◌≡◌, ◌++◌, take}
use Rattle.std.specs.List.{flat_map}
use Rattle.sa_trace_events.specs.Events.{mark_text}
use Rattle.sa_trace_events.proofs.whole.push_marks.Given as goal

abbrev pub invariant-loop-item : goal.invariant-loop-item
invariant-loop-item l = l.out.items ≡ l.initial.out.items ++ flat_map mark_text (take l.item-index l.items)
