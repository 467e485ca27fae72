use Rattle.std.proofs.Common.{◌≡◌, ◌++◌, take}
use Rattle.sa_replies.specs.Telling.{hands_text}
use Rattle.sa_replies.proofs.telling.Teller.append_hands.Given as goal

-- the lines of the threads before this one are appended
abbrev pub invariant-loop-t : goal.invariant-loop-t
invariant-loop-t l = l.out.items ≡ l.initial.out.items ++ hands_text l.self l.s (take l.t-index l.threads)
