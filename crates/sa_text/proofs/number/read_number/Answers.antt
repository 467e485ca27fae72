use Rattle.std.proofs.Common.{rules, sym}
use Rattle.sa_text.proofs.NumberOf.{reads_any, reads_none}
use Rattle.sa_text.proofs.Spelling.{begins_no_number, read_is, read_back}
use Rattle.sa_text.proofs.number.read_number.Goals as goal

pub returns-then-not-begins_number-clause-none : goal.returns-then-not-begins_number-clause-none
returns-then-not-begins_number-clause-none c = search (rules, begins_no_number)

pub returns-then-not-begins_number-clause-printed : goal.returns-then-not-begins_number-clause-printed
returns-then-not-begins_number-clause-printed c = λ n h e. absurd (begins_no_number _ (search (rules)) n h e)

pub returns-then-not-begins_number-clause-number : goal.returns-then-not-begins_number-clause-number
returns-then-not-begins_number-clause-number c = sym (reads_none c.args.piece.now (λ n h e. begins_no_number c.args.piece.now (search (rules)) n h e))

pub returns-clause-number : goal.returns-clause-number
returns-clause-number c = reads_any c.parse_digits.result c.args.piece.now (search rules) (search (rules, read_is)) (search (rules, read_is))

pub returns-clause-some : goal.returns-clause-some
returns-clause-some c = search (rules, read_is)

pub returns-clause-none : goal.returns-clause-none
returns-clause-none c = search (rules, read_is)

pub returns-clause-printed : goal.returns-clause-printed
returns-clause-printed c = read_back _ _ (read_is _ _ (search rules) c.parse_digits.ensures)
