use Rattle.std.proofs.Common.{subst, sym, arith}
use Rattle.std.proofs.lemmas.Fmt.{decimal_injective}
use Rattle.sa_text.specs.Number.{IsSpellingOf}
use Rattle.sa_text.proofs.Spelling.{spelling_only, decimal-is_spelling, decimal-lacks}
use Rattle.sa_text.proofs.laws.numbers_have_one_spelling.Goals as goal

pub returns-clause-one : goal.returns-clause-one
returns-clause-one c = λ n bytes h. (spelling_only n bytes h, λ e. subst (IsSpellingOf n) (sym e) (decimal-is_spelling n h))

pub returns-clause-differ : goal.returns-clause-differ
returns-clause-differ c = decimal_injective

pub returns-clause-piece : goal.returns-clause-piece
returns-clause-piece c = λ n h. (decimal-lacks n 32 h (omega arith), decimal-lacks n 10 h (omega arith))
