use Rattle.std.proofs.Common.{subst, sym}
use Rattle.sa_text.specs.LineText.{IsLinesOf}
use Rattle.sa_text.proofs.LineLemmas.{lines_only, line_texts-are_lines}
use Rattle.sa_text.proofs.laws.lines_are_the_text.Goals as goal

pub returns : goal.returns
returns c = λ text ls. (lines_only ls text, λ e. subst (IsLinesOf text) (sym e) (line_texts-are_lines text))
