use Rattle.std.proofs.Common.{sym, ap, ◌∙◌, subst}
use Rattle.sa_workload.specs.Next.{made_by}
use Rattle.sa_workload.specs.Rooms.{AllHaveRoom}
use Rattle.sa_workload.proofs.calls.Calls.{operation-none, operation-is}
use Rattle.sa_workload.proofs.instr.instr_in.Goals as goal

pub instr_of-requires : goal.instr_of-requires
instr_of-requires c =
    subst (λ o. AllHaveRoom o c.args.numbers.now) (operation-is c.in_ok-of_word.field-0 c.args.word.now c.in_ok-of_word.ensures.found) c.requires

pub returns-in_err-of_word : goal.returns-in_err-of_word
returns-in_err-of_word c = c.from_residual.ensures ∙ ap (made_by c.args.numbers.now) (sym (operation-none c.args.word.now c.in_err-of_word.ensures.none))

pub returns : goal.returns
returns c = c.instr_of.ensures ∙ ap (made_by c.args.numbers.now) (sym (operation-is c.in_ok-of_word.field-0 c.args.word.now c.in_ok-of_word.ensures.found))
