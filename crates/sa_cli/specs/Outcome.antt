-- Statuses, and the history of the machine that ran.
use Rattle.std.specs.Prelude.{⊤, ℕ, List, []}
use Rattle.sa_base.specs.declared.refusal.Unread.{Unread}
use Rattle.sa_base.specs.declared.refusal.Unread.TheVariants as unread
use Rattle.sa_base.specs.declared.record.Item.{Item}
use Rattle.sa_base.specs.declared.record.End.{End}
use Rattle.sa_base.specs.declared.record.End.TheVariants as end
use Rattle.sa_cli.specs.declared.outcome.Status.{Status}
use Rattle.sa_cli.specs.declared.outcome.Status.TheVariants.{AllDone, Usage, BadWorkload, Stuck, Budget, ReadFault, WriteFault, OutOfMemory, Migrated, Checked, Broken, BadTrace, Quit, BadScript, Explored, BadReply}
use Rattle.sa_cli.specs.declared.outcome.Finding.TheVariants as say
use Rattle.sa_io.specs.declared.input.ReadError.{ReadError}
use Rattle.sa_io.specs.declared.input.ReadError.TheVariants as read
use Rattle.sa_io.specs.declared.words.NoWords.{NoWords}
use Rattle.sa_io.specs.declared.words.NoWords.TheVariants as words
use Rattle.sa_check.specs.declared.verdict.Verdict.{Verdict}
use Rattle.sa_check.specs.declared.verdict.Verdict.TheVariants.{Legal}
use Rattle.sa_check.specs.declared.verdict.Verdict.TheVariants as check
use Rattle.sa_cli.specs.declared.found.Found.{Found}
use Rattle.sa_cli.specs.declared.found.Found.TheVariants.{Judged}
use Rattle.sa_cli.specs.declared.found.Found.TheVariants as found
use Rattle.sa_cli.specs.declared.outcome.Ran.{Ran}
use Rattle.sa_cli.specs.declared.outcome.Ran.TheVariants.{Nothing, Plain, Shared}

-- the exit status of the program
abbrev pub code_of : Status → ℕ
code_of AllDone = 0
code_of Usage = 1
code_of (BadWorkload bad) = 2
code_of Stuck = 3
code_of Budget = 4
code_of ReadFault = 5
code_of WriteFault = 6
code_of OutOfMemory = 7
code_of Migrated = 0
code_of Checked = 0
code_of (Broken event rule) = 8
code_of (BadTrace bad) = 9
code_of Quit = 0
code_of (BadScript bad) = 10
code_of (BadReply bad) = 11
code_of (Explored say.Clear) = 0
code_of (Explored say.Stuck) = 3
code_of (Explored say.Open) = 4

-- the status of an input that was not read
abbrev pub status_of : ReadError → Status
status_of read.Fault = ReadFault
status_of read.OutOfMemory = OutOfMemory

-- the status of arguments that are no words
abbrev pub status_of_no_words : NoWords → Status
status_of_no_words words.NoText = Usage
status_of_no_words words.OutOfMemory = OutOfMemory

-- the status of a text that was not read
abbrev pub status_of_unread : Unread → Status
status_of_unread (unread.Bad bad) = BadWorkload bad
status_of_unread unread.OutOfMemory = OutOfMemory

-- the status of a run that ended so, once all is written
abbrev pub status_of_end : End → Status
status_of_end end.AllDone = AllDone
status_of_end end.Stuck = Stuck
status_of_end end.Budget = Budget

-- the status of a verdict that was written, and of what an input of two texts is found to be
abbrev pub status_of_verdict : Verdict → Status
status_of_verdict Legal = Checked
status_of_verdict (check.Broken event rule) = Broken event rule

abbrev pub status_of_found : Found → Status
status_of_found (Judged verdict) = status_of_verdict verdict
status_of_found (found.BadWorkload bad) = BadWorkload bad
status_of_found (found.BadTrace bad) = BadTrace bad

-- the history of the machine that ran, empty where none did
abbrev pub history : Ran → List Item
history Nothing = []
history (Plain trace) = trace.items
history (Shared closed) = closed.items

-- a machine ran on this thread, or none did; host threads shared the machine that ran, or none did
abbrev pub RanHere : Ran → Type 0
RanHere Nothing = ⊤
RanHere (Plain trace) = ⊤
RanHere (Shared closed) = ⊥

abbrev pub RanShared : Ran → Type 0
RanShared Nothing = ⊤
RanShared (Plain trace) = ⊥
RanShared (Shared closed) = ⊤

-- the statuses of a run that ended and was written
abbrev pub HasEnded : Status → Type 0
HasEnded AllDone = ⊤
HasEnded Stuck = ⊤
HasEnded Budget = ⊤
HasEnded other = ⊥

-- the statuses of a search that was written
abbrev pub HasExplored : Status → Type 0
HasExplored (Explored finding) = ⊤
HasExplored other = ⊥

-- the statuses of a session of replies that is over and was written
abbrev pub HasTalked : Status → Type 0
HasTalked (BadReply bad) = ⊤
HasTalked status = HasEnded status

-- the statuses with which there is no workload
abbrev pub LacksWorkload : Status → Type 0
LacksWorkload Usage = ⊤
LacksWorkload (BadWorkload bad) = ⊤
LacksWorkload other = ⊥

-- the statuses with which a command writes nothing that reads all before it writes
abbrev pub WritesNothing : Status → Type 0
WritesNothing Usage = ⊤
WritesNothing (BadWorkload bad) = ⊤
WritesNothing (BadTrace bad) = ⊤
WritesNothing (BadScript bad) = ⊤
WritesNothing ReadFault = ⊤
WritesNothing OutOfMemory = ⊤
WritesNothing other = ⊥
