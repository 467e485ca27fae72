use Rattle.std.proofs.Common.{◌≡◌, ◌++◌, length, map}
use Rattle.sa_text.specs.Line.{text_of_line}
use Rattle.sa_text.specs.LineText.{line_texts}
use Rattle.toga_say.specs.Given.{before_turns}
use Rattle.toga_say.proofs.given.before_turns.Given as goal

abbrev pub invariant-loop-line : goal.invariant-loop-line
invariant-loop-line l = record {
  text : l.lines.text ≡ l.fn.text;
  all : l.before.items ++ before_turns (map (text_of_line l.fn.text) l.lines.left) ≡ before_turns (line_texts l.fn.text);
}

abbrev pub decreases-loop-line : goal.decreases-loop-line
decreases-loop-line l = length l.lines.left
