-- The words of records hold no sign of markup.
use Rattle.std.proofs.Common.{◌≡◌, ℕ, Bool, true, List, ◌++◌, Option, Some, None, refl}
use Rattle.std.specs.Prelude.{codes, ◌==◌}
use Rattle.sa_base.specs.declared.number.ProcNo.{ProcNo}
use Rattle.sa_base.specs.declared.number.SpaceNo.{SpaceNo}
use Rattle.sa_base.specs.declared.number.ThreadNo.{ThreadNo}
use Rattle.sa_base.specs.declared.number.ActNo.{ActNo}
use Rattle.sa_base.specs.declared.number.IoNo.{IoNo}
use Rattle.sa_base.specs.declared.record.Note.TheVariants.{Add, Preempted, Blocked, Unblocked}
use Rattle.sa_base.specs.declared.record.Record.{Record}
use Rattle.sa_base.specs.declared.record.Record.TheVariants as the
use Rattle.sa_instr.specs.declared.instr.Instr.{Instr}
use Rattle.sa_svg.specs.Laws.{is_plain}
use Rattle.sa_cells.specs.Pieces.{numbered, one, two, a_space, a_thread}
use Rattle.sa_cells.specs.Thread.{instr_text}
use Rattle.sa_cells.specs.Words.{list_words, stop_words, block_words, unblock_words, cont_words, through_words, way_words, ready_words, ran_words, ran_text, ins_words, processors_word, move_words, aim_words, words_of}
use Rattle.sa_svg.proofs.Plain.{plain-append}
use Rattle.sa_cells.proofs.Plain.{plain-instr}
use Rattle.sa_cells.proofs.PlainPieces.{plain-choice, plain-numbered, plain-one, plain-two, plain-three, plain-a-space, plain-a-thread}

-- words, something that may be absent, and words
around : (before middle behind : List ℕ) → is_plain before ≡ true → is_plain middle ≡ true → is_plain behind ≡ true → is_plain (before ++ middle ++ behind) ≡ true
around before middle behind p q r = plain-append (before ++ middle) behind (plain-append before middle p q) r

plain-list : (s : SpaceNo) (l : ProcNo) (becomes : List ℕ) (t : Option ThreadNo) → is_plain becomes ≡ true → is_plain (list_words s l becomes t) ≡ true
unfolding list_words
plain-list s l becomes t p =
    around (two (codes "The lock of list ") l.0 (codes " of space ") s.0 becomes) (a_thread t) (codes ".")
    (plain-two (codes "The lock of list ") l.0 (codes " of space ") s.0 becomes refl refl p) (plain-a-thread t) refl

plain-stop : (s : SpaceNo) (t : Option ThreadNo) (a : ActNo) → is_plain (stop_words s t a) ≡ true
unfolding stop_words
plain-stop s t a =
    around (one (codes "An interrupt takes the processor from activation ") a.0 (codes ", which has ")) (a_thread t)
    (one (codes ". It will not go on as it was: space ") s.0 (codes " is owed the news."))
    (plain-one (codes "An interrupt takes the processor from activation ") a.0 (codes ", which has ") refl refl) (plain-a-thread t)
    (plain-one (codes ". It will not go on as it was: space ") s.0 (codes " is owed the news.") refl refl)

plain-block : (s : SpaceNo) (t : Option ThreadNo) (a : ActNo) (io : IoNo) → is_plain (block_words s t a io) ≡ true
unfolding block_words
plain-block s t a io =
    around (one (codes "Activation ") a.0 (codes ", which has ")) (a_thread t)
    (two (codes ", waits in the kernel for I/O ") io.0 (codes ". The processor is still that of space ") s.0 (codes ", which is owed the news."))
    (plain-one (codes "Activation ") a.0 (codes ", which has ") refl refl) (plain-a-thread t)
    (plain-two (codes ", waits in the kernel for I/O ") io.0 (codes ". The processor is still that of space ") s.0 (codes ", which is owed the news.") refl refl refl)

plain-unblock : (s : SpaceNo) (t : Option ThreadNo) (a : ActNo) → is_plain (unblock_words s t a) ≡ true
unfolding unblock_words
plain-unblock s t a =
    around (one (codes "What activation ") a.0 (codes " waited for is done; it has ")) (a_thread t)
    (one (codes ". Only space ") s.0 (codes " can go on with it, and is owed the news."))
    (plain-one (codes "What activation ") a.0 (codes " waited for is done; it has ") refl refl) (plain-a-thread t)
    (plain-one (codes ". Only space ") s.0 (codes " can go on with it, and is owed the news.") refl refl)

plain-cont : (s : SpaceNo) (t : Option ThreadNo) → is_plain (cont_words s t) ≡ true
unfolding cont_words
plain-cont s t =
    around (one (codes "A section of space ") s.0 (codes " that was cut off runs on in its copy, with ")) (a_thread t) (codes ".")
    (plain-one (codes "A section of space ") s.0 (codes " that was cut off runs on in its copy, with ") refl refl) (plain-a-thread t) refl

plain-through : (s : SpaceNo) (t : Option ThreadNo) → is_plain (through_words s t) ≡ true
unfolding through_words
plain-through s t =
    around (one (codes "The copy of the section is through: the handler of space ") s.0 (codes " has control, with ")) (a_thread t) (codes ".")
    (plain-one (codes "The copy of the section is through: the handler of space ") s.0 (codes " has control, with ") refl refl) (plain-a-thread t) refl

plain-way : (s : SpaceNo) (t : Option ThreadNo) → is_plain (way_words s t) ≡ true
plain-way s None = plain-one (codes "The handler of space ") s.0 (codes " has control again, with no thread.") refl refl
plain-way s (Some t) = plain-two (codes "Thread ") t.0 (codes " of space ") s.0 (codes " gives way, and is to be made ready again.") refl refl refl

plain-ran : (instr : Option Instr) → is_plain (ran_text instr) ≡ true
unfolding ran_words
plain-ran None = refl
plain-ran (Some i) = around (codes ": ") (instr_text i) (codes ".") refl (plain-instr i) refl

plain-ins : (s : SpaceNo) (t : ThreadNo) (i : ℕ) (instr : Option Instr) → is_plain (ins_words s t i instr) ≡ true
unfolding ins_words
plain-ins s t i instr =
    around (ready_words s t (codes " runs ")) (numbered (codes "its instruction ") i) (ran_text instr)
    (plain-two (codes "Thread ") t.0 (codes " of space ") s.0 (codes " runs ") refl refl refl) (plain-numbered (codes "its instruction ") i refl) (plain-ran instr)

plain-move : (old new : Option SpaceNo) → is_plain (move_words old new) ≡ true
unfolding move_words
plain-move old new =
    around (codes "The processor goes from " ++ a_space old ++ codes " to ") (a_space new) (codes ".")
    (around (codes "The processor goes from ") (a_space old) (codes " to ") refl (plain-a-space old) refl) (plain-a-space new) refl

plain-aim : (p : ProcNo) (s : Option SpaceNo) → is_plain (aim_words p s) ≡ true
unfolding aim_words
plain-aim p s =
    around (one (codes "By the policy, processor ") p.0 (codes " should go to ")) (a_space s) (codes ".")
    (plain-one (codes "By the policy, processor ") p.0 (codes " should go to ") refl refl) (plain-a-space s) refl

pub plain-words : (in_copy : Bool) (instr : Option Instr) (what : Record) → is_plain (words_of in_copy instr what) ≡ true
plain-words in_copy instr (the.Ins s t i) = plain-ins s t i instr
plain-words in_copy instr (the.Out s t value) = plain-three (codes "Thread ") t.0 (codes " of space ") s.0 (codes " gives out ") value (codes ".") refl refl refl refl
plain-words in_copy instr (the.Run s t) = plain-two (codes "Thread ") t.0 (codes " of space ") s.0 (codes " leaves its ready list, and is to run here.") refl refl refl
plain-words in_copy instr (the.Stop s t a) = plain-stop s t a
plain-words in_copy instr (the.Block s t a io) = plain-block s t a io
plain-words in_copy instr (the.Unblock s t a) = plain-unblock s t a
plain-words in_copy instr (the.Cont s t) = plain-cont s t
plain-words in_copy instr (the.Back s t) = plain-choice in_copy (through_words s t) (way_words s t) (plain-through s t) (plain-way s t)
plain-words in_copy instr (the.Ready s t) = plain-two (codes "Thread ") t.0 (codes " of space ") s.0 (codes " is ready, and stands in a list.") refl refl refl
plain-words in_copy instr (the.Take s l t) = plain-list s l (codes " is taken, for ") t refl
plain-words in_copy instr (the.Free s l t) = plain-list s l (codes " is free again; it was taken for ") t refl
plain-words in_copy instr (the.Up s a) = plain-two (codes "Space ") s.0 (codes " gets an upcall, in the fresh activation ") a.0 (codes ".") refl refl refl
plain-words in_copy instr (the.Told (Add p)) = plain-one (codes "It hears that processor ") p.0 (codes " is its own.") refl refl
plain-words in_copy instr (the.Told (Preempted a)) = plain-one (codes "It hears that activation ") a.0 (codes " was preempted.") refl refl
plain-words in_copy instr (the.Told (Blocked a)) = plain-one (codes "It hears that activation ") a.0 (codes " has blocked.") refl refl
plain-words in_copy instr (the.Told (Unblocked a)) = plain-one (codes "It hears that activation ") a.0 (codes " has unblocked.") refl refl
plain-words in_copy instr (the.Move old new) = plain-move old new
plain-words in_copy instr (the.Want s n) =
    plain-two (codes "Space ") s.0 (codes " says that it can use ") n (processors_word n) refl refl
    (plain-choice (n == 1) (codes " processor.") (codes " processors.") refl refl)
plain-words in_copy instr (the.Aim p s) = plain-aim p s
plain-words in_copy instr (the.Line p) = plain-one (codes "Processor ") p.0 (codes " is called into the kernel: its interrupt line goes up.") refl refl
plain-words in_copy instr (the.Fetch s) = plain-one (codes "The upcall page of space ") s.0 (codes " is not there: it is being fetched, and the upcall must wait.") refl refl
plain-words in_copy instr (the.Fetched s) = plain-one (codes "The upcall page of space ") s.0 (codes " has come.") refl refl
plain-words in_copy instr (the.GiveBack a) = plain-one (codes "The space needs the number of activation ") a.0 (codes " no more: the kernel may use it again.") refl refl
plain-words in_copy instr the.Idle = refl
plain-words in_copy instr (the.Spin l) = plain-one (codes "List ") l.0 (codes " is locked by another: this turn only waits.") refl refl
plain-words in_copy instr the.Tick = refl
