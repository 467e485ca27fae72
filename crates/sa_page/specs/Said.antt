-- What is said of the whole trace, before its lines: each line, and after it its words.
use Rattle.std.specs.Prelude.{ℕ, ◌==◌, List, ◌++◌, codes, decimal, if◌then◌else◌}
use Rattle.sa_base.specs.declared.package.RulesName.{RulesName}
use Rattle.sa_base.specs.declared.package.RulesName.TheVariants.{FastThreads, Priorities, Any}
use Rattle.sa_base.specs.declared.record.End.{End}
use Rattle.sa_base.specs.declared.record.End.TheVariants.{AllDone, Stuck, Budget}
use Rattle.sa_trace.specs.TraceText.{end_word}
use Rattle.sa_laws.specs.declared.rule.Rule.{Rule}
use Rattle.sa_laws.specs.declared.rule.Rule.TheVariants.{Numbered, Stepwise, ToldOnce, ToldInTime, WhereOwned, AllTold, UpcallGiven, InterruptNext, LineCause, WantCause, SharesCovered, DemandAnnounced, TurnsTaken, LocksKept, OrderKept, EndTold}
use Rattle.sa_check.specs.declared.verdict.Verdict.{Verdict}
use Rattle.sa_check.specs.declared.verdict.Verdict.TheVariants.{Legal, Broken}
use Rattle.sa_check.specs.Line.{word_of, line_of}
use Rattle.sa_page.specs.declared.said.TheConstants.{AT_EVENT, RULE, FAILS}

-- what each rule asks, in a sentence; three differ by whose rules they are
abbrev pub demand_words : RulesName → List ℕ
demand_words Priorities = codes "demand is announced, and a ready thread that outranks a running one of its space is not left waiting by a thread that goes on"
demand_words _ = codes "demand is announced"

abbrev pub lock_words : RulesName → List ℕ
lock_words FastThreads = codes "the lock of a list is held where a thread is put into it or taken from it, and by one at a time"
lock_words Priorities = codes "the lock of list 0 is held where a thread is put into it or taken from it, and by one at a time"
lock_words Any = codes "a thread that is made ready or continued is heard of"

abbrev pub order_words : RulesName → List ℕ
order_words Priorities = codes "a thread that runs is of the greatest rank, and of these the newest"
order_words _ = codes "a thread that runs is the newest of its own list, or the oldest of another"

abbrev pub rule_words : RulesName → Rule → List ℕ
rule_words rules Numbered = codes "events are numbered from 0, and event 0 is the opening"
rule_words rules Stepwise = codes "each record is a step of the abstract machine of threads"
rule_words rules ToldOnce = codes "each stop, block and return is told at most once"
rule_words rules ToldInTime = codes "each stop, block and return is told in time"
rule_words rules WhereOwned = codes "each processor is owned by the space of the activation that runs there, an upcall comes where none runs, and a stop or a block names the one that runs"
rule_words rules AllTold = codes "an upcall is in a fresh activation, and tells all"
rule_words rules UpcallGiven = codes "a block gives an upcall"
rule_words rules InterruptNext = codes "a raised line is an interrupt at the next turn of its processor, and nothing else is"
rule_words rules LineCause = codes "a line has its cause"
rule_words rules WantCause = codes "a want has its cause"
rule_words rules SharesCovered = codes "each space has at least its share of aims, and aims come in their order"
rule_words rules DemandAnnounced = demand_words rules
rule_words rules TurnsTaken = codes "an event is one of those that may come, with the records that belong to it"
rule_words rules LocksKept = lock_words rules
rule_words rules OrderKept = order_words rules
rule_words rules EndTold = codes "no event comes after the end, and the last line says it"

-- the verdict: that every rule holds, or the first that does not, at which event, and what it asks
abbrev pub legal_words : RulesName → List ℕ
legal_words FastThreads = codes "Every rule of the kernel and of FastThreads holds at every event.\n"
legal_words Priorities = codes "Every rule of the kernel and of thread priorities holds at every event.\n"
legal_words Any = codes "Every rule of the kernel, and of any user level, holds at every event.\n"

unfoldable pub breaks_at : RulesName → ℕ → Rule → List ℕ
breaks_at rules event rule = AT_EVENT.now ++ decimal event ++ RULE.now ++ word_of rules rule ++ FAILS.now

unfoldable pub broken_words : RulesName → ℕ → Rule → List ℕ
broken_words rules event rule = breaks_at rules event rule ++ rule_words rules rule ++ codes ".\n"

abbrev pub verdict_words : RulesName → Verdict → List ℕ
verdict_words rules Legal = legal_words rules
verdict_words rules (Broken event rule) = broken_words rules event rule

abbrev pub verdict_said : RulesName → Verdict → List ℕ
verdict_said rules v = line_of rules v ++ verdict_words rules v

-- how the run ended
unfoldable pub end_text : End → ℕ → List ℕ
end_text end events = codes "end " ++ end_word end ++ codes " " ++ decimal events ++ codes "\n"

abbrev pub end_words : End → List ℕ
end_words AllDone = codes "All threads are done, after "
end_words Stuck = codes "Threads wait, and nothing can happen any more, after "
end_words Budget = codes "The run was cut off, since its budget was spent, after "

abbrev pub events_word : ℕ → List ℕ
events_word events = if events == 1 then codes " event." else codes " events."

unfoldable pub end_said : End → ℕ → List ℕ
end_said end events = end_text end events ++ end_words end ++ decimal events ++ events_word events
