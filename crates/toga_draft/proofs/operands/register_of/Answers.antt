use Rattle.toga_draft.proofs.Operations.{register-is}
use Rattle.toga_draft.proofs.operands.register_of.Goals as goal

pub returns : goal.returns
returns c = register-is c.register_of.result c.args.word.now c.register_of.ensures.some c.register_of.ensures.number
