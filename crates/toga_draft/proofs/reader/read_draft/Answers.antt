use Rattle.toga_draft.proofs.Holds.{is-whole}
use Rattle.toga_draft.proofs.reader.read_draft.Goals as goal

pub returns-clause-whole : goal.returns-clause-whole
returns-clause-whole c = is-whole c.args.text.now c.read_all.result c.read_all.ensures
