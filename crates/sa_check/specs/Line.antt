-- The line of a verdict.
use Rattle.std.specs.Prelude.{ℕ, List, ◌++◌, codes, decimal}
use Rattle.sa_laws.specs.declared.rule.Rule.{Rule}
use Rattle.sa_laws.specs.declared.rule.Rule.TheVariants.{Numbered, Stepwise, ToldOnce, ToldInTime, WhereOwned, AllTold, UpcallGiven, InterruptNext, LineCause, WantCause, SharesCovered, DemandAnnounced, TurnsTaken, LocksKept, OrderKept, EndTold}
use Rattle.sa_base.specs.declared.package.RulesName.{RulesName}
use Rattle.sa_base.specs.declared.package.RulesName.TheVariants.{Priorities}
use Rattle.sa_check.specs.declared.verdict.Verdict.{Verdict}
use Rattle.sa_check.specs.declared.verdict.Verdict.TheVariants.{Legal, Broken}

-- the word of a rule; with thread priorities that of announced demand says too that pairs are served
abbrev pub demand_word : RulesName → List ℕ
demand_word Priorities = codes "L6"
demand_word _ = codes "L2"

abbrev pub word_of : RulesName → Rule → List ℕ
word_of level Numbered = codes "D11"
word_of level Stepwise = codes "D6"
word_of level ToldOnce = codes "U1"
word_of level ToldInTime = codes "U2"
word_of level WhereOwned = codes "U3"
word_of level AllTold = codes "U4"
word_of level UpcallGiven = codes "U5"
word_of level InterruptNext = codes "U6"
word_of level LineCause = codes "U7"
word_of level WantCause = codes "U8"
word_of level SharesCovered = codes "L1"
word_of level DemandAnnounced = demand_word level
word_of level TurnsTaken = codes "L3"
word_of level LocksKept = codes "L4"
word_of level OrderKept = codes "L5"
word_of level EndTold = codes "D12"

-- the line of a verdict
abbrev pub line_of : RulesName → Verdict → List ℕ
line_of level Legal = codes "legal\n"
line_of level (Broken event rule) = codes "broken " ++ decimal event ++ codes " " ++ word_of level rule ++ codes "\n"
