use Rattle.std.proofs.Common.{◌≡◌, [], ◌++◌, drop}
use Rattle.sa_trace_events.specs.Slices.{slice_begun}
use Rattle.sa_trace_events.specs.Along.{text_from}
use Rattle.sa_trace_events.proofs.events.push_along.Given as goal

abbrev pub invariant-loop-touch : goal.invariant-loop-touch
invariant-loop-touch l =
    l.out.items ++ text_from l.track l.end l.len l.going l.lines.items (drop l.touch-index l.touches)
    ≡ l.initial.out.items ++ text_from l.track l.end l.len (slice_begun l.track l.begin) [] l.touches
