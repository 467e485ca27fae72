use Rattle.std.proofs.Common.{◌≡◌, ◌*◌, ◌≤◌, length, get_or}
use Rattle.std.specs.List.{flat_map, range_with_len}
use Rattle.sa_trace.specs.Losses.{loss_line}
use Rattle.sa_trace.proofs.losses.print_losses.Given as goal

-- the lines of the first spaces are there
abbrev pub invariant-loop-s : goal.invariant-loop-s
invariant-loop-s l =
    (l.out.items ≡ flat_map (λ s. loss_line s (get_or l.lost s 0)) (range_with_len 0 l.s))
    × (length l.out.items ≤ l.s * 29)
