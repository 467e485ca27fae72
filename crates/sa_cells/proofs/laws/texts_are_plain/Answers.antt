use Rattle.sa_cells.proofs.Plain.{plain-name, plain-text}
use Rattle.sa_cells.proofs.PlainWords.{plain-words}
use Rattle.sa_cells.proofs.laws.texts_are_plain.Goals as goal

pub returns-clause-names : goal.returns-clause-names
returns-clause-names c = plain-name

pub returns-clause-texts : goal.returns-clause-texts
returns-clause-texts c = plain-text

pub returns-clause-words : goal.returns-clause-words
returns-clause-words c = plain-words
