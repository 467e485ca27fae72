use Rattle.std.proofs.Common.{ap, sym, ◌∙◌, [], map}
use Rattle.sa_text.specs.Line.{text_of_line}
use Rattle.sa_debug.specs.script.Reading.{script_of, read_from}
use Rattle.sa_debug.proofs.script.reading.read_script.Goals as goal

pub loop-line-init : goal.loop-line-init
unfolding script_of
loop-line-init c = (
  c.new-lines.ensures.text,
  ap (read_from c.args.w.now 1 []) (sym c.new-lines.ensures.bytes)
      ∙ ap (λ n. read_from c.args.w.now n [] (map (text_of_line c.args.bytes.now) c.new-lines.result.left)) (sym c.new-lines.ensures.number)
      ∙ ap (λ cs. read_from c.args.w.now c.new-lines.result.number cs (map (text_of_line c.args.bytes.now) c.new-lines.result.left)) (sym c.new-commands.ensures.items),
)
