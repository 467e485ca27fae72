use Rattle.std.proofs.Common.{◌≡◌, ◌++◌, take}
use Rattle.toga_explain.specs.Explain.{lines_in}
use Rattle.toga_explain.proofs.looking.push_found.Given as goal

abbrev pub invariant-loop-topic : goal.invariant-loop-topic
invariant-loop-topic l = l.out.items ≡ l.initial.out.items ++ lines_in (take l.topic-index l.topics) l.word
