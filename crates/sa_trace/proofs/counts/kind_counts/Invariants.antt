use Rattle.std.proofs.Common.{◌≡◌, ℕ, ◌+◌, ◌<◌, length, get_or, take}
use Rattle.sa_trace.specs.declared.kind.TheConstants.{RECORD_KINDS}
use Rattle.sa_trace.specs.TraceText.{count_of_kind}
use Rattle.sa_trace.proofs.counts.kind_counts.Given as goal

abbrev pub invariant-loop-item : goal.invariant-loop-item
invariant-loop-item l =
    (length l.counts ≡ RECORD_KINDS) × ((k : ℕ) → k < RECORD_KINDS → get_or l.counts k 0 ≡ count_of_kind (take l.item-index l.items) (k + 1))
