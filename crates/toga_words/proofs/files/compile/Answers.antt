use Rattle.std.proofs.Common.{ap₂}
use Rattle.toga_words.specs.Asked.{compile}
use Rattle.toga_words.proofs.files.compile.Goals as goal

pub returns : goal.returns
returns c = ap₂ compile c.input.ensures c.one.ensures
