use Rattle.toga_draft.proofs.Operations.{operation-is}
use Rattle.toga_draft.proofs.first.operation_of.Goals as goal

pub returns : goal.returns
returns c = operation-is c.of_word.result c.args.word.now c.of_word.ensures.found c.of_word.ensures.none
