use Rattle.std.proofs.Common.{ap₂}
use Rattle.toga_words.specs.Asked.{show}
use Rattle.toga_words.proofs.files.show.Goals as goal

pub returns : goal.returns
returns c = ap₂ show c.input.ensures c.one.ensures
