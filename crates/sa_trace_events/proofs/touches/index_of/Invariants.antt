use Rattle.std.proofs.Common.{◌≡◌, map, drop}
use Rattle.sa_trace_events.specs.Touches.{on_at, clock_from, lists_from, lists_of}
use Rattle.sa_trace_events.proofs.touches.index_of.Given as goal

abbrev pub invariant-loop-at : goal.invariant-loop-at
invariant-loop-at l = record {
  lists : lists_from l.group (on_at l.on.items) l.clock l.at (drop l.at l.items) (map (λ v. v.items) l.lists.items) ≡ lists_of l.group l.begin l.count l.items;
  clock : clock_from l.group l.clock (drop l.at l.items) ≡ clock_from l.group l.begin l.items;
}
