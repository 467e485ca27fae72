use Rattle.sa_text.proofs.PieceLemmas.{pieces_of-more, pieces_of-one, pieces_of-spaced}
use Rattle.sa_text.proofs.laws.pieces_end_at_spaces.Goals as goal

pub returns-clause-end : goal.returns-clause-end
returns-clause-end c = pieces_of-more

pub returns-clause-rest : goal.returns-clause-rest
returns-clause-rest c = pieces_of-one

pub returns-clause-spaced : goal.returns-clause-spaced
returns-clause-spaced c = pieces_of-spaced
