use Rattle.sa_workload.proofs.whole.TextLemmas.{line_texts-text_of, words_of-text_of, text_of-from_words, text_of-printed}
use Rattle.sa_workload.proofs.laws.texts_are_lines_of_words.Goals as goal

pub returns-clause-lines : goal.returns-clause-lines
returns-clause-lines c = line_texts-text_of

pub returns-clause-words : goal.returns-clause-words
returns-clause-words c = words_of-text_of

pub returns-clause-only : goal.returns-clause-only
returns-clause-only c = text_of-from_words

pub returns-clause-printed : goal.returns-clause-printed
returns-clause-printed c = text_of-printed
