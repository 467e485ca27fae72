use Rattle.std.proofs.Common.{◌≡◌, ◌++◌, take}
use Rattle.toga_explain.specs.Explain.{words_in}
use Rattle.toga_explain.proofs.explaining.push_words.Given as goal

abbrev pub invariant-loop-topic : goal.invariant-loop-topic
invariant-loop-topic l = l.out.items ≡ l.initial.out.items ++ words_in (take l.topic-index l.topics)
