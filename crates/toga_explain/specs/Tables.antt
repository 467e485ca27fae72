-- The table of what words mean.
use Rattle.std.specs.Prelude.{ℕ, ◌==◌, List, [], codes, find, Option}
use Rattle.std.specs.Option.{option_map, unwrap_or}
use Rattle.sa_base.specs.Cause.{cause_number}
use Rattle.sa_base.specs.declared.package.RulesName.{RulesName}
use Rattle.sa_base.specs.declared.package.RulesName.TheVariants.{Priorities}
use Rattle.sa_base.specs.declared.record.End.{End}
use Rattle.sa_base.specs.declared.record.End.TheVariants as end
use Rattle.sa_base.specs.declared.refusal.Cause.{Cause}
use Rattle.sa_base.specs.declared.refusal.Cause.TheVariants as cause
use Rattle.sa_instr.specs.declared.operation.Operation.{Operation}
use Rattle.sa_instr.specs.declared.operation.Operation.TheVariants as operation
use Rattle.sa_trace.specs.declared.kind.Kind.{Kind}
use Rattle.sa_trace.specs.declared.kind.Kind.TheVariants as kind
use Rattle.sa_laws.specs.declared.rule.Rule.{Rule}
use Rattle.sa_laws.specs.declared.rule.Rule.TheVariants as rule
use Rattle.toga_explain.specs.declared.source.SourceWord.{SourceWord}
use Rattle.toga_explain.specs.declared.source.SourceWord.TheVariants as source
use Rattle.toga_explain.specs.declared.status.ExitStatus.{ExitStatus}
use Rattle.toga_explain.specs.declared.status.ExitStatus.TheVariants as status
use Rattle.toga_explain.specs.declared.cause.TheConstants.{CAUSES}

-- the words of a source, and what they mean
unfoldable pub source_word : SourceWord → List ℕ
source_word source.Processors = codes "processors"
source_word source.Fetch = codes "fetch"
source_word source.Slice = codes "slice"
source_word source.Space = codes "space"
source_word source.Priority = codes "priority"
source_word source.Patience = codes "patience"
source_word source.Mutex = codes "mutex"
source_word source.Semaphore = codes "semaphore"
source_word source.Cell = codes "cell"
source_word source.Absent = codes "absent"
source_word source.Evict = codes "evict"
source_word source.Program = codes "program"
source_word source.Label = codes "label"
source_word source.Turns = codes "turns"

unfoldable pub source_text : SourceWord → List ℕ
source_text source.Processors = codes "`processors P`: how many processors the machine has, 1 to 16; without the line 2."
source_text source.Fetch = codes "`fetch F`: how many events an absent page takes to come, 1 to 1000; without the line 10."
source_text source.Slice = codes "`slice N`: after so many events the processors that cannot be shared evenly go on to the next space, 1 to 1000000; without the line, and with 0, never."
source_text source.Space = codes "`space NAME`: an address space begins; all lines up to the next `space` or `turns` are its own. Without it there is one, of the name main."
source_text source.Priority = codes "`priority R`: the priority of the space, 0 to 7, of which 7 is served first; without the line 0."
source_text source.Patience = codes "`patience H`: how often a processor looks for a thread in vain before its space says that it can use one less, 1 to 1000; without the line 1."
source_text source.Mutex = codes "`mutex NAME..`: declares mutexes, free at first."
source_text source.Semaphore = codes "`semaphore NAME N`: declares a semaphore that counts N at first, 0 to 1000000, or 0 if N is left out."
source_text source.Cell = codes "`cell NAME..`: declares cells of 64 bits that all threads of the space share, 0 at first."
source_text source.Absent = codes "`absent K..`: pages of the space, 0 to 15, that are not there at first. Upcalls need page 0, changes of ready lists page 1, and `touch` uses 2 to 15."
source_text source.Evict = codes "`evict K at E`: page K of the space goes away at event E."
source_text source.Program = codes "`program NAME`: a program begins; its instructions follow, the last one `end`. Thread 0 of a space runs its first program."
source_text source.Label = codes "`NAME:` names the place of the next instruction, for `jnz`."
source_text source.Turns = codes "`turns 0*10 1`: the schedule: ten turns of processor 0, then one of processor 1. After the last of them the turns go round."

-- what the instructions of each operation do
unfoldable pub operation_text : Operation → List ℕ
operation_text operation.Compute = codes "`compute` does nothing, for one event. It changes no register."
operation_text operation.Set = codes "`set rA N` puts the number N into rA."
operation_text operation.Add = codes "`add rA rB` puts rA + rB into rA, modulo 2^64. It leaves rB."
operation_text operation.Sub = codes "`sub rA rB` puts rA - rB into rA, modulo 2^64. It leaves rB."
operation_text operation.Jnz = codes "`jnz rA LABEL` goes on at the label if rA is not 0, else at the next instruction. It changes no register."
operation_text operation.Load = codes "`load rA CELL` puts the value of the cell into rA."
operation_text operation.Store = codes "`store rA CELL` puts rA into the cell. It leaves rA."
operation_text operation.Out = codes "`out rA` puts rA out: it stands in the trace and in the summary. It changes no register."
operation_text operation.Fork = codes "`fork rA PROGRAM` makes a thread that runs the program, and overwrites rA with its number; if the space has made 512 threads already it makes none, and rA becomes 2^64 - 1."
operation_text operation.Join = codes "`join rA` waits until thread number rA is done, and overwrites rA: with 1, or with 0 where there is no such thread, and then it does not wait. Keep the number elsewhere to use it again."
operation_text operation.Lock = codes "`lock MUTEX` takes the mutex, or waits in its queue; also if the thread holds it itself, and then it waits for ever. It changes no register."
operation_text operation.Unlock = codes "`unlock MUTEX` gives the mutex to the first in its queue, or frees it; it does nothing if the thread does not hold it. It changes no register."
operation_text operation.Wait = codes "`wait SEMAPHORE` takes one from the count, or waits in its queue if that is 0. It changes no register."
operation_text operation.Signal = codes "`signal SEMAPHORE` wakes the first in the queue, or adds one to the count if nobody waits. It changes no register."
operation_text operation.Io = codes "`io N` blocks the thread in the kernel for N events, 1 to 1000000. It changes no register."
operation_text operation.Touch = codes "`touch K` uses page K, 2 to 15; if it is absent the thread blocks in the kernel until it has come, and then runs the instruction again. It changes no register."
operation_text operation.End = codes "`end` ends the thread and wakes all that join it; mutexes that it holds stay held."

-- what the records of each kind say
unfoldable pub record_text : Kind → List ℕ
record_text kind.Ins = codes "`ins s t i`: thread t of space s ran its instruction at place i."
record_text kind.Out = codes "`out s t v`: and that was an `out`, which gave v."
record_text kind.Run = codes "`run s t`: thread t was taken from a ready list and runs."
record_text kind.Stop = codes "`stop s t a`: an interrupt stopped activation a, which carried thread t, or none if there is a dash."
record_text kind.Block = codes "`block s t a io`: activation a, which carried thread t or none, blocked in the kernel until its I/O or the fetch of its page is over, which has the number io."
record_text kind.Unblock = codes "`unblock s t a`: the I/O or fetch for which activation a blocked is over. It never goes on itself: the next upcall of space s tells of it."
record_text kind.Cont = codes "`cont s t`: a section of the package that was cut off goes on in its copy, with thread t or none."
record_text kind.Back = codes "`back s t`: the copy of a section gave control back; or, with thread priorities and no section open, thread t gave way."
record_text kind.Ready = codes "`ready s t`: thread t was put into a ready list."
record_text kind.Take = codes "`take s l t`: the lock of ready list l was taken; the activation carried thread t or none."
record_text kind.Free = codes "`free s l t`: the lock of ready list l was freed; it was taken with thread t or none."
record_text kind.Up = codes "`up s a`: space s got an upcall in the fresh activation a."
record_text kind.ToldAdd = codes "`told add p`: the upcall says that processor p has come to the space."
record_text kind.ToldPreempted = codes "`told preempted a`: the upcall says that an interrupt stopped activation a, and hands over what it had."
record_text kind.ToldBlocked = codes "`told blocked a`: the upcall says that activation a waits for an I/O or a page."
record_text kind.ToldUnblocked = codes "`told unblocked a`: the upcall says that activation a waits no more, and hands over what it had."
record_text kind.Move = codes "`move o n`: the processor went from space o to space n; a dash is no space."
record_text kind.Want = codes "`want s n`: the demand of space s is n processors from now on."
record_text kind.Aim = codes "`aim p s`: the policy gives processor p to space s, or to none if there is a dash. It goes there at its next turn."
record_text kind.Line = codes "`line p`: the interrupt line of processor p was raised: its next turn is an interrupt."
record_text kind.Fetch = codes "`fetch s`: the upcall page of space s is absent, and on its way from now on."
record_text kind.Fetched = codes "`fetched s`: the upcall page of space s has come."
record_text kind.GiveBack = codes "`giveback a`: the number a of an activation may be used again."
record_text kind.Idle = codes "`idle`: the package looked at the ready lists and found no thread."
record_text kind.Spin = codes "`spin l`: the lock of ready list l was held, and the turn passed."
record_text kind.Tick = codes "`tick`: a turn of a processor that no space owns, or on which no virtual processor is placed."

-- what each rule asks; one differs by whose rules they are
unfoldable pub demand_text : RulesName → List ℕ
demand_text Priorities = codes "With thread priorities, demand is announced, and no thread goes on while a ready thread that outranks a running one of its space is left waiting."
demand_text _ = codes "With FastThreads, demand is announced: an activation runs an instruction, or looks for a thread, only after it has made ready what it has in hand, and its space has announced as many processors as it can use."

unfoldable pub rule_text : RulesName → Rule → List ℕ
rule_text rules rule.Numbered = codes "Events are numbered in order from 0, each has a processor of the machine and at least one record, and event 0 is the opening."
rule_text rules rule.Stepwise = codes "Each record is a step that the machine can do: a thread that runs is where the record says, and at that instruction."
rule_text rules rule.ToldOnce = codes "Each stop, block and return of an activation is told at most once, and only what has happened is told."
rule_text rules rule.ToldInTime = codes "Each stop, block and return is told in time: after each event a space with something untold owns no processor, or one whose line is raised, or its upcall page is on its way."
rule_text rules rule.WhereOwned = codes "After each event each processor is owned by the space of the activation that runs there, or by none if none runs; a stop or a block names the one that runs, and an upcall comes where none does."
rule_text rules rule.AllTold = codes "An upcall is in a fresh activation and tells something: `told add` if the processor has just come to the space, and then all that the space was not told, in order. A number that is given back is of an activation that was handed over."
rule_text rules rule.UpcallGiven = codes "Directly after a block comes an upcall of its space on that processor; or, if its upcall page is absent, the processor leaves the space, and the page is fetched."
rule_text rules rule.InterruptNext = codes "A raised interrupt line is an interrupt at the next turn of its processor, and nothing else is an interrupt."
rule_text rules rule.LineCause = codes "A line is raised only if it is low, and has a cause: the processor's aim has just become a space, or something must be told, or with thread priorities a thread is outranked. The lines that are due are raised."
rule_text rules rule.WantCause = codes "A demand is set at the opening, and changes only by a hint of the package, or from 0 to 1 because its space must be told something."
rule_text rules rule.SharesCovered = codes "After each event each space has at least its share of aims; processors are aimed at a space only if it has fewer, and in their order."
rule_text rules rule.DemandAnnounced = demand_text rules
rule_text rules rule.TurnsTaken = codes "Each event is one of those that may come then, with the records that belong to it."
rule_text rules rule.LocksKept = codes "A thread is put into a ready list, or taken from it, under the lock of the list, which one activation has at a time; a section that was cut off goes on in its copy."
rule_text rules rule.OrderKept = codes "The thread that is taken is the newest of the processor's own ready list, or the oldest of another; with thread priorities one of the greatest rank, and of these the newest."
rule_text rules rule.EndTold = codes "No event comes after the end, and the last line says how and after how many events the run ended."

-- the words of each cause of a refusal, and what it is
unfoldable pub cause_word : Cause → List ℕ
cause_word cause.NotAscii = codes "why 1"
cause_word cause.BadWord = codes "why 2"
cause_word cause.BadNumber = codes "why 3"
cause_word cause.OutOfRange = codes "why 4"
cause_word cause.Twice = codes "why 5"
cause_word cause.NoSuchName = codes "why 6"
cause_word cause.BadTarget = codes "why 7"
cause_word cause.TooMany = codes "why 8"
cause_word cause.Missing = codes "why 9"

unfoldable pub cause_said : Cause → List ℕ
cause_said cause.NotAscii = codes "A byte that is no printed ASCII character, such as a tab or the carriage return of another system."
cause_said cause.BadWord = codes "A word that does not belong there, a register that is none of r0 to r7, or one word too many. Comments and blank lines are for sources alone."
cause_said cause.BadNumber = codes "A word where a number belongs, or a number above 2^64 - 1."
cause_said cause.OutOfRange = codes "A number out of its range, or a line that comes before the one above it. In a trace also a second processor in one event, and a last line with wrong numbers."
cause_said cause.Twice = codes "An `absent` or `evict` line that is the same as the one above it."
cause_said cause.NoSuchName = codes "A mutex, semaphore, cell, program or space that is not declared."
cause_said cause.BadTarget = codes "A jump to a place that the program does not have."
cause_said cause.TooMany = codes "One line too many, or the text is too long."
cause_said cause.Missing = codes "A line or a word is missing, the line has no line feed at its end, or a program does not end with `end`."

-- the same of the cause of a number; no bytes if there is none
unfoldable pub cause_of : ℕ → Option Cause
cause_of why = find (λ (c : Cause). cause_number c == why) CAUSES

abbrev pub cause_text : ℕ → List ℕ
cause_text why = unwrap_or (option_map cause_said (cause_of why)) []

-- what each end means
unfoldable pub end_text : End → List ℕ
end_text end.AllDone = codes "Every thread is done."
end_text end.Stuck = codes "Not every thread is done, and nothing can happen any more."
end_text end.Budget = codes "The run was ended after as many events as `--budget` says."

-- the words of each exit status, and what it means
unfoldable pub status_word : ExitStatus → List ℕ
status_word status.Done = codes "status 0"
status_word status.BadWords = codes "status 1"
status_word status.NoSource = codes "status 2"
status_word status.Stuck = codes "status 3"
status_word status.Open = codes "status 4"
status_word status.NotRead = codes "status 5"
status_word status.NotWritten = codes "status 6"
status_word status.OutOfMemory = codes "status 7"
status_word status.Illegal = codes "status 8"
status_word status.NoTrace = codes "status 9"
status_word status.TooMuch = codes "status 10"

unfoldable pub status_text : ExitStatus → List ℕ
status_text status.Done = codes "All is well: every thread is done, the trace is legal, no order of turns gets stuck or comes to where none leads to an end, or what was asked for was written."
status_text status.BadWords = codes "The words are not a command of togaslate, or `explain` does not know the word."
status_text status.NoSource = codes "What was read is no source and no workload text."
status_text status.Stuck = codes "The run is stuck; of `explore`: some order of turns gets stuck."
status_text status.Open = codes "The run was ended by the budget; of `explore`: nothing was found that gets stuck, but not every order of turns was looked at, or some order comes to where none leads to an end."
status_text status.NotRead = codes "A file or standard input cannot be read."
status_text status.NotWritten = codes "A file or standard output cannot be written."
status_text status.OutOfMemory = codes "Memory ran out."
status_text status.Illegal = codes "The trace is not legal."
status_text status.NoTrace = codes "What was read is no trace text."
status_text status.TooMuch = codes "There is too much to draw; nothing is written."
