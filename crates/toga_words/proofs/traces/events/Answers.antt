use Rattle.std.proofs.Common.{ap₂}
use Rattle.toga_words.specs.Asked.{events}
use Rattle.toga_words.proofs.traces.events.Goals as goal

pub returns : goal.returns
returns c = ap₂ events c.input.ensures c.one.ensures
