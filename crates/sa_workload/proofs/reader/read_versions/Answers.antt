use Rattle.std.proofs.Common.{ap, sym, ◌∙◌, map}
use Rattle.sa_text.specs.Line.{text_of_line}
use Rattle.sa_workload.specs.Position.{AtVersion}
use Rattle.sa_workload.specs.Reading.{read_of, read_from}
use Rattle.sa_workload.specs.Stage.{position_of}
use Rattle.sa_workload.proofs.OneLine.{read_on}
use Rattle.sa_workload.proofs.whole.Whole.{reached_behind}
use Rattle.sa_workload.proofs.reader.read_versions.Goals as goal

pub loop-line-init : goal.loop-line-init
unfolding read_of
loop-line-init c = rw c.new-reader.ensures (
  c.new-lines.ensures.text,
  tt,
  ap (read_from c.args.versions 1 AtVersion) (sym c.new-lines.ensures.bytes)
      ∙ ap (λ n. read_from c.args.versions n AtVersion (map (text_of_line c.args.bytes.now) c.new-lines.result.left)) (sym c.new-lines.ensures.number),
)

pub loop-line-preserved : goal.loop-line-preserved
loop-line-preserved c = (
  c.in-Some.ensures.text ∙ c.loop-line.invariant.0,
  reached_behind c.args.versions c.requires (position_of c.loop-line.reader) (position_of c.read_line.new.reader)
      (text_of_line c.args.bytes.now c.in-Some.line) c.loop-line.invariant.1 c.in_default-read_line.ensures,
  c.loop-line.invariant.2
      ∙ read_on c.args.versions c.loop-line.lines.number c.next.new.self.number (position_of c.loop-line.reader) (position_of c.read_line.new.reader)
      (map (text_of_line c.args.bytes.now) c.loop-line.lines.left) (map (text_of_line c.args.bytes.now) c.next.new.self.left)
      (text_of_line c.args.bytes.now c.in-Some.line)
      (ap (map (text_of_line c.args.bytes.now)) c.in-Some.ensures.first) c.in-Some.ensures.number.1 c.in_default-read_line.ensures,
)
