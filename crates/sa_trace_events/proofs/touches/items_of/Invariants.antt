use Rattle.std.proofs.Common.{◌≡◌, map, take}
use Rattle.sa_trace_events.proofs.touches.items_of.Given as goal

abbrev pub invariant-loop-touch : goal.invariant-loop-touch
invariant-loop-touch l = l.own.items ≡ map (λ e. e.item) (take l.touch-index l.touches)
