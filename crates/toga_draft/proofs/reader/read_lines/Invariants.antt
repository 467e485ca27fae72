use Rattle.std.proofs.Common.{◌≡◌, length}
use Rattle.sa_text.specs.Line.{lines_of}
use Rattle.toga_draft.specs.Lines.{read_line_of}
use Rattle.toga_draft.specs.Reader.{IsReady, state_of}
use Rattle.toga_draft.specs.Reading.{in_turn}
use Rattle.toga_draft.specs.State.{start}
use Rattle.toga_draft.proofs.reader.read_lines.Given as goal

abbrev pub invariant-loop-line : goal.invariant-loop-line
invariant-loop-line l = record {
  text : l.lines.text ≡ l.text;
  ready : IsReady (state_of l.reader);
  left : in_turn (read_line_of l.text) l.lines.left (state_of l.reader) ≡ in_turn (read_line_of l.text) (lines_of l.text) start;
}

abbrev pub decreases-loop-line : goal.decreases-loop-line
decreases-loop-line l = length l.lines.left
