use Rattle.std.proofs.Common.{◌≡◌, ◌++◌}
use Rattle.std.specs.List.{flat_map, range_with_len}
use Rattle.sa_svg.specs.Drawing.{piece_text}
use Rattle.sa_svg.proofs.drawing.push_stretch.Given as goal

abbrev pub invariant-loop-k : goal.invariant-loop-k
invariant-loop-k l = l.out.items ≡ l.initial.out.items ++ flat_map (piece_text l.layout l.stretch) (range_with_len 0 l.k)
