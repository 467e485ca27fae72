use Rattle.std.proofs.Common.{arith, sym}
use Rattle.sa_text.specs.LineText.{line_texts}
use Rattle.sa_text.proofs.LineLemmas.{placed-texts, line_texts-joined, length-placed, length-line_texts-le}
use Rattle.sa_text.proofs.line_reader.Lines.new.Goals as goal

pub returns-clause-bytes : goal.returns-clause-bytes
returns-clause-bytes c = placed-texts c.args.text.now 1 0 _ (sym (line_texts-joined c.args.text.now))

pub returns-clause-few : goal.returns-clause-few
returns-clause-few c = omega (arith, length-placed 1 0 (line_texts c.args.text.now), length-line_texts-le c.args.text.now)
