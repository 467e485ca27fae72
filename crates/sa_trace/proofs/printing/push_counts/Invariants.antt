use Rattle.std.proofs.Common.{◌≡◌, ◌+◌, ◌*◌, ◌≤◌, ◌++◌, length, take}
use Rattle.sa_trace.specs.TraceText.{counts_text}
use Rattle.sa_trace.proofs.printing.push_counts.Given as goal

abbrev pub invariant-loop-count : goal.invariant-loop-count
invariant-loop-count l =
    (l.out.items ≡ l.initial.out.items ++ counts_text (take l.count-index l.counts))
    × (length l.out.items ≤ length l.initial.out.items + l.count-index * 21)
