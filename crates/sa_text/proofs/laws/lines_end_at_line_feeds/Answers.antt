use Rattle.sa_text.proofs.LineLemmas.{line_texts-append, line_texts-ended, line_texts-rest, line_texts-printed}
use Rattle.std.proofs.Common.{[]}
use Rattle.sa_text.proofs.laws.lines_end_at_line_feeds.Goals as goal

pub returns-clause-follow : goal.returns-clause-follow
returns-clause-follow c = line_texts-append

pub returns-clause-end : goal.returns-clause-end
returns-clause-end c = λ bytes lacks. line_texts-ended bytes [] lacks

pub returns-clause-rest : goal.returns-clause-rest
returns-clause-rest c = line_texts-rest

pub returns-clause-printed : goal.returns-clause-printed
returns-clause-printed c = line_texts-printed
