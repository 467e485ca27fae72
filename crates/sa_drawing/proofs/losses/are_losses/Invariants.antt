use Rattle.std.proofs.Common.{◌≡◌, length}
use Rattle.std.specs.List.{list_all}
use Rattle.sa_text.specs.Line.{lines_of}
use Rattle.sa_drawing.specs.Losses.{is_loss}
use Rattle.sa_drawing.proofs.losses.are_losses.Given as goal

abbrev pub invariant-loop-line : goal.invariant-loop-line
invariant-loop-line l = (l.lines.text ≡ l.text) × (list_all (is_loss l.text) l.lines.left ≡ list_all (is_loss l.text) (lines_of l.text))

abbrev pub decreases-loop-line : goal.decreases-loop-line
decreases-loop-line l = length l.lines.left
