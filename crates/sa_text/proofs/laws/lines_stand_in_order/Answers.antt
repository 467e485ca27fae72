use Rattle.std.proofs.Common.{sym, arith}
use Rattle.sa_text.specs.LineText.{line_texts}
use Rattle.sa_text.proofs.LineLemmas.{placed-texts, placed-within, placed-number, line_texts-joined}
use Rattle.sa_text.proofs.laws.lines_stand_in_order.Goals as goal

pub returns-clause-hold : goal.returns-clause-hold
returns-clause-hold c = λ text. placed-texts text 1 0 (line_texts text) (sym (line_texts-joined text))

pub returns-clause-within : goal.returns-clause-within
returns-clause-within c = λ text. placed-within text (line_texts text) 1 0 (sym (line_texts-joined text)) (omega arith)

pub returns-clause-numbers : goal.returns-clause-numbers
returns-clause-numbers c = λ text k line e. omega (arith, placed-number (line_texts text) 1 0 k line e)
