use Rattle.std.proofs.Common.{arith, ◌∙◌, length, sym, ap, length-append}
use Rattle.std.specs.Prelude.{Err}
use Rattle.sa_lines_in.specs.Line.{line_len}
use Rattle.sa_lines_in.proofs.Lines.{few-open}
use Rattle.sa_lines_in.proofs.reader.LineReader.next_line.Goals as goal

pub fill-requires : goal.fill-requires
fill-requires g c =
    few-open c.loop-len.self
    (ap line_len (sym c.kept.ensures) ∙ sym c.line_len.ensures.len ∙ c.in-Err-Missing.is ∙ ap (λ e. Err e) c.in-Err-Missing.field-0-is)

pub loop-len-smaller : goal.loop-len-smaller
loop-len-smaller g c =
    let few = few-open c.loop-len.self
    (ap line_len (sym c.kept.ensures) ∙ sym c.line_len.ensures.len ∙ c.in-Err-Missing.is ∙ ap (λ e. Err e) c.in-Err-Missing.field-0-is) in
    let came = c.in-Ok-fill.ensures.ok in
    let all = ap length came.rest in
    let sum = length-append c.loop-len.self came.got in
    omega (arith, came.count, c.in-Ok-fill.field-0-test)
