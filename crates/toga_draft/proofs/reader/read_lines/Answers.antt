use Rattle.std.proofs.Common.{ap, subst, sym, ◌∙◌}
use Rattle.sa_text.specs.Line.{lines_of}
use Rattle.toga_draft.specs.Lines.{read_line_of}
use Rattle.toga_draft.specs.Reader.{IsReady, state_of}
use Rattle.toga_draft.specs.Reading.{in_turn}
use Rattle.toga_draft.proofs.Loops.{turn-next}
use Rattle.toga_draft.proofs.Ready.{ready-line_of, start-ready}
use Rattle.toga_draft.proofs.reader.read_lines.Goals as goal

pub loop-line-init : goal.loop-line-init
loop-line-init c = record {
  text = c.new-lines.ensures.text;
  ready = subst IsReady (sym c.in_ok-reader.ensures) start-ready;
  left = ap (λ ls. in_turn (read_line_of c.args.text.now) ls (state_of c.in_ok-reader.reader)) c.new-lines.ensures.lines
      ∙ ap (in_turn (read_line_of c.args.text.now) (lines_of c.args.text.now)) c.in_ok-reader.ensures;
}

pub loop-line-preserved : goal.loop-line-preserved
loop-line-preserved c = record {
  text = c.in-Some.ensures.text ∙ c.loop-line.invariant.text;
  ready = ready-line_of c.args.text.now c.in-Some.line (state_of c.loop-line.reader) (state_of c.read_line_of.new.self) c.loop-line.invariant.ready
      c.in_ok-read_line_of.ensures;
  left = turn-next (read_line_of c.args.text.now) c.loop-line.lines.left c.next.new.self.left c.in-Some.line (state_of c.loop-line.reader)
      (state_of c.read_line_of.new.self) _ c.in-Some.ensures.first c.loop-line.invariant.left c.in_ok-read_line_of.ensures;
}
