-- What a record says, in words.
use Rattle.std.specs.Prelude.{ℕ, Bool, List, ◌++◌, ◌==◌, codes, Option, Some, None, if◌then◌else◌}
use Rattle.sa_base.specs.declared.number.ProcNo.{ProcNo}
use Rattle.sa_base.specs.declared.number.SpaceNo.{SpaceNo}
use Rattle.sa_base.specs.declared.number.ThreadNo.{ThreadNo}
use Rattle.sa_base.specs.declared.number.ActNo.{ActNo}
use Rattle.sa_base.specs.declared.number.IoNo.{IoNo}
use Rattle.sa_base.specs.declared.record.Note.{Note}
use Rattle.sa_base.specs.declared.record.Note.TheVariants.{Add, Preempted, Blocked, Unblocked}
use Rattle.sa_base.specs.declared.record.Record.{Record}
use Rattle.sa_base.specs.declared.record.Record.TheVariants as the
use Rattle.sa_instr.specs.declared.instr.Instr.{Instr}
use Rattle.sa_cells.specs.Pieces.{numbered, one, two, three, a_space, a_thread}
use Rattle.sa_cells.specs.Thread.{instr_text}

-- a stop, a block and an unblock: the activation, with its thread if it has one
unfoldable pub stop_words : SpaceNo → Option ThreadNo → ActNo → List ℕ
stop_words s t a =
    one (codes "An interrupt takes the processor from activation ") a.0 (codes ", which has ") ++ a_thread t
    ++ one (codes ". It will not go on as it was: space ") s.0 (codes " is owed the news.")

unfoldable pub block_words : SpaceNo → Option ThreadNo → ActNo → IoNo → List ℕ
block_words s t a io =
    one (codes "Activation ") a.0 (codes ", which has ") ++ a_thread t
    ++ two (codes ", waits in the kernel for I/O ") io.0 (codes ". The processor is still that of space ") s.0 (codes ", which is owed the news.")

unfoldable pub unblock_words : SpaceNo → Option ThreadNo → ActNo → List ℕ
unblock_words s t a =
    one (codes "What activation ") a.0 (codes " waited for is done; it has ") ++ a_thread t
    ++ one (codes ". Only space ") s.0 (codes " can go on with it, and is owed the news.")

-- a section in its copy, with its thread
unfoldable pub cont_words : SpaceNo → Option ThreadNo → List ℕ
cont_words s t = one (codes "A section of space ") s.0 (codes " that was cut off runs on in its copy, with ") ++ a_thread t ++ codes "."

-- a back: the copy of the section is through, or the thread gives way if none is open
unfoldable pub through_words : SpaceNo → Option ThreadNo → List ℕ
through_words s t =
    one (codes "The copy of the section is through: the handler of space ") s.0 (codes " has control, with ") ++ a_thread t ++ codes "."

abbrev pub way_words : SpaceNo → Option ThreadNo → List ℕ
way_words s None = one (codes "The handler of space ") s.0 (codes " has control again, with no thread.")
way_words s (Some t) = two (codes "Thread ") t.0 (codes " of space ") s.0 (codes " gives way, and is to be made ready again.")

abbrev pub back_words : Bool → SpaceNo → Option ThreadNo → List ℕ
back_words in_copy s t = if in_copy then through_words s t else way_words s t

-- a thread: what it does, with a number; what becomes of it
abbrev pub thread_words : SpaceNo → ThreadNo → List ℕ → ℕ → List ℕ
thread_words s t does n = three (codes "Thread ") t.0 (codes " of space ") s.0 does n (codes ".")

abbrev pub ready_words : SpaceNo → ThreadNo → List ℕ → List ℕ
ready_words s t does = two (codes "Thread ") t.0 (codes " of space ") s.0 does

-- an instruction, as the thread's program has it at its place, if that is known
unfoldable pub ran_words : Instr → List ℕ
ran_words i = codes ": " ++ instr_text i ++ codes "."

abbrev pub ran_text : Option Instr → List ℕ
ran_text None = codes "."
ran_text (Some i) = ran_words i

unfoldable pub ins_words : SpaceNo → ThreadNo → ℕ → Option Instr → List ℕ
ins_words s t i instr = ready_words s t (codes " runs ") ++ numbered (codes "its instruction ") i ++ ran_text instr

-- how many processors a space can use
abbrev pub processors_word : ℕ → List ℕ
processors_word n = if n == 1 then codes " processor." else codes " processors."

abbrev pub want_words : SpaceNo → ℕ → List ℕ
want_words s n = two (codes "Space ") s.0 (codes " says that it can use ") n (processors_word n)

-- the upcall page of a space; the lock of a list, with the thread that it has to do with
abbrev pub page_words : SpaceNo → List ℕ → List ℕ
page_words s becomes = one (codes "The upcall page of space ") s.0 becomes

unfoldable pub list_words : SpaceNo → ProcNo → List ℕ → Option ThreadNo → List ℕ
list_words s l becomes t = two (codes "The lock of list ") l.0 (codes " of space ") s.0 becomes ++ a_thread t ++ codes "."

-- owners and aims
unfoldable pub move_words : Option SpaceNo → Option SpaceNo → List ℕ
move_words old new = codes "The processor goes from " ++ a_space old ++ codes " to " ++ a_space new ++ codes "."

unfoldable pub aim_words : ProcNo → Option SpaceNo → List ℕ
aim_words p s = one (codes "By the policy, processor ") p.0 (codes " should go to ") ++ a_space s ++ codes "."

-- what an upcall tells
abbrev pub told_words : Note → List ℕ
told_words (Add p) = one (codes "It hears that processor ") p.0 (codes " is its own.")
told_words (Preempted a) = one (codes "It hears that activation ") a.0 (codes " was preempted.")
told_words (Blocked a) = one (codes "It hears that activation ") a.0 (codes " has blocked.")
told_words (Unblocked a) = one (codes "It hears that activation ") a.0 (codes " has unblocked.")

-- an upcall, a line, a fetch of an upcall page, a number that is given back, and a list that is locked
abbrev pub up_words : SpaceNo → ActNo → List ℕ
up_words s a = two (codes "Space ") s.0 (codes " gets an upcall, in the fresh activation ") a.0 (codes ".")

abbrev pub line_words : ProcNo → List ℕ
line_words p = one (codes "Processor ") p.0 (codes " is called into the kernel: its interrupt line goes up.")

abbrev pub fetch_words : SpaceNo → List ℕ
fetch_words s = page_words s (codes " is not there: it is being fetched, and the upcall must wait.")

abbrev pub give_back_words : ActNo → List ℕ
give_back_words a = one (codes "The space needs the number of activation ") a.0 (codes " no more: the kernel may use it again.")

abbrev pub spin_words : ProcNo → List ℕ
spin_words l = one (codes "List ") l.0 (codes " is locked by another: this turn only waits.")

-- what a record says, if the life that runs on its processor is in the copy of a section, or is not, and if this is the instruction that it
-- runs, where one is known
abbrev pub words_of : Bool → Option Instr → Record → List ℕ
words_of in_copy instr (the.Ins s t i) = ins_words s t i instr
words_of in_copy instr (the.Out s t value) = thread_words s t (codes " gives out ") value
words_of in_copy instr (the.Run s t) = ready_words s t (codes " leaves its ready list, and is to run here.")
words_of in_copy instr (the.Stop s t a) = stop_words s t a
words_of in_copy instr (the.Block s t a io) = block_words s t a io
words_of in_copy instr (the.Unblock s t a) = unblock_words s t a
words_of in_copy instr (the.Cont s t) = cont_words s t
words_of in_copy instr (the.Back s t) = back_words in_copy s t
words_of in_copy instr (the.Ready s t) = ready_words s t (codes " is ready, and stands in a list.")
words_of in_copy instr (the.Take s l t) = list_words s l (codes " is taken, for ") t
words_of in_copy instr (the.Free s l t) = list_words s l (codes " is free again; it was taken for ") t
words_of in_copy instr (the.Up s a) = up_words s a
words_of in_copy instr (the.Told note) = told_words note
words_of in_copy instr (the.Move old new) = move_words old new
words_of in_copy instr (the.Want s n) = want_words s n
words_of in_copy instr (the.Aim p s) = aim_words p s
words_of in_copy instr (the.Line p) = line_words p
words_of in_copy instr (the.Fetch s) = fetch_words s
words_of in_copy instr (the.Fetched s) = page_words s (codes " has come.")
words_of in_copy instr (the.GiveBack a) = give_back_words a
words_of in_copy instr the.Idle = codes "No list has a thread that could run."
words_of in_copy instr (the.Spin l) = spin_words l
words_of in_copy instr the.Tick = codes "The processor is nobody's, and its turn passes."
