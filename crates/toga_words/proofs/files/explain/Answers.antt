use Rattle.std.proofs.Common.{ap}
use Rattle.toga_words.specs.Asked.{explain}
use Rattle.toga_words.proofs.files.explain.Goals as goal

pub returns : goal.returns
returns c = ap explain c.in_ok-words.ensures
