-- What a record says, with the names of its source.
use Rattle.std.specs.Prelude.{ℕ, List, [], ◌∷◌, ◌++◌, codes, decimal, slice_get, Option, None, Some}
use Rattle.std.specs.List.{flat_map}
use Rattle.std.specs.Option.{option_map, unwrap_or}
use Rattle.sa_base.specs.declared.number.ProcNo.{ProcNo}
use Rattle.sa_base.specs.declared.number.SpaceNo.{SpaceNo}
use Rattle.sa_base.specs.declared.number.ThreadNo.{ThreadNo}
use Rattle.sa_base.specs.declared.number.ActNo.{ActNo}
use Rattle.sa_base.specs.declared.record.Note.{Note}
use Rattle.sa_base.specs.declared.record.Note.TheVariants.{Add, Preempted, Blocked, Unblocked}
use Rattle.sa_base.specs.declared.record.Record.{Record}
use Rattle.sa_base.specs.declared.record.Record.TheVariants as the
use Rattle.sa_instr.specs.declared.instr.Instr.{Instr}
use Rattle.sa_programs.specs.Programs.{program_of, instr_in}
use Rattle.toga_source.specs.Names.{NamesView}
use Rattle.toga_source.specs.Words.{instr_text}
use Rattle.toga_verdict.specs.Source.{SourceView, line_at, labels_of, space_word, space_if, thread_word, thread_if}
use Rattle.toga_verdict.specs.declared.pieces.Piece.{Piece}
use Rattle.toga_verdict.specs.declared.pieces.Piece.TheVariants as piece

-- what is written of a piece
abbrev pub piece_text : List NamesView → List (List ℕ) → Piece → List ℕ
piece_text names programs (piece.Words words) = words.now
piece_text names programs (piece.Value n) = decimal n
piece_text names programs (piece.Count n) = decimal n
piece_text names programs (piece.Processor p) = decimal p.0
piece_text names programs (piece.Activation a) = decimal a.0
piece_text names programs (piece.Io io) = decimal io.0
piece_text names programs (piece.Space s) = space_if names s
piece_text names programs (piece.Thread s t) = thread_if names programs s t

abbrev pub pieces_text : List NamesView → List (List ℕ) → List Piece → List ℕ
pieces_text names programs pieces = flat_map (piece_text names programs) pieces

-- texts one after another
abbrev pub together : List (List ℕ) → List ℕ
together texts = flat_map (λ text. text) texts

-- a number between words, and so what an upcall tells
abbrev pub heard : List ℕ → ℕ → List ℕ → List ℕ
heard before n after = before ++ decimal n ++ after

abbrev pub told_words : Note → List ℕ
told_words (Add p) = heard (codes "it hears that processor ") p.0 (codes " is its own")
told_words (Preempted a) = heard (codes "it hears that activation ") a.0 (codes " was preempted")
told_words (Blocked a) = heard (codes "it hears that activation ") a.0 (codes " has blocked")
told_words (Unblocked a) = heard (codes "it hears that activation ") a.0 (codes " has unblocked")

-- what a record of a thread says by itself; of an instruction its place
abbrev pub thread_words : List NamesView → List (List ℕ) → Record → List ℕ
thread_words names programs (the.Ins s t i) = together (thread_if names programs s (Some t) ∷ codes " runs its instruction at " ∷ decimal i ∷ [])
thread_words names programs (the.Out s t value) = together (thread_if names programs s (Some t) ∷ codes " puts out " ∷ decimal value ∷ [])
thread_words names programs (the.Run s t) = together (thread_if names programs s (Some t) ∷ codes " leaves its ready list, and runs here" ∷ [])
thread_words names programs (the.Cont s t) = together (codes "a section that was cut off goes on in its copy, with " ∷ thread_if names programs s t ∷ [])
thread_words names programs (the.Back s t) = together (codes "the handler has control, with " ∷ thread_if names programs s t ∷ [])
thread_words names programs (the.Ready s t) = together (thread_if names programs s (Some t) ∷ codes " is ready, and stands in a list" ∷ [])
thread_words names programs _ = []

-- what a record of an activation says
abbrev pub act_words : List NamesView → List (List ℕ) → Record → List ℕ
act_words names programs (the.Stop s t a) =
    together (codes "an interrupt takes the processor from activation " ∷ decimal a.0 ∷ codes ", which has " ∷ thread_if names programs s t ∷ [])
act_words names programs (the.Block s t a io) =
    together (codes "activation " ∷ decimal a.0 ∷ codes ", which has " ∷ thread_if names programs s t ∷ codes ", waits in the kernel for I/O " ∷ decimal io.0 ∷ [])
act_words names programs (the.Unblock s t a) =
    together (codes "what activation " ∷ decimal a.0 ∷ codes " waited for is done; it has " ∷ thread_if names programs s t ∷ [])
act_words names programs (the.Up s a) = together (space_if names (Some s) ∷ codes " gets an upcall, in activation " ∷ decimal a.0 ∷ [])
act_words names programs (the.Told note) = told_words note
act_words names programs (the.GiveBack a) = together (codes "the number of activation " ∷ decimal a.0 ∷ codes " is free again" ∷ [])
act_words names programs _ = []

-- what a record of a list says, and one of a turn in which nothing is done
abbrev pub list_words : List NamesView → List (List ℕ) → Record → List ℕ
list_words names programs (the.Take s l t) =
    together (codes "the lock of list " ∷ decimal l.0 ∷ codes " is taken, for " ∷ thread_if names programs s t ∷ [])
list_words names programs (the.Free s l t) =
    together (codes "the lock of list " ∷ decimal l.0 ∷ codes " is free again; it was taken for " ∷ thread_if names programs s t ∷ [])
list_words names programs the.Idle = together (codes "no list has a thread that could run" ∷ [])
list_words names programs (the.Spin l) = together (codes "list " ∷ decimal l.0 ∷ codes " is locked by another: the turn passes" ∷ [])
list_words names programs the.Tick = together (codes "no space owns the processor: the turn passes" ∷ [])
list_words names programs _ = []

-- what a record of processors says, and one of an upcall page
abbrev pub processor_words : List NamesView → List (List ℕ) → Record → List ℕ
processor_words names programs (the.Move old new) =
    together (codes "the processor goes from " ∷ space_if names old ∷ codes " to " ∷ space_if names new ∷ [])
processor_words names programs (the.Want s n) = together (space_if names (Some s) ∷ codes " can use " ∷ decimal n ∷ codes " processors" ∷ [])
processor_words names programs (the.Aim p s) =
    together (codes "by the policy, processor " ∷ decimal p.0 ∷ codes " should go to " ∷ space_if names s ∷ [])
processor_words names programs (the.Line p) = together (codes "the interrupt line of processor " ∷ decimal p.0 ∷ codes " goes up" ∷ [])
processor_words names programs (the.Fetch s) = together (codes "the upcall page of " ∷ space_if names (Some s) ∷ codes " is absent, and on its way" ∷ [])
processor_words names programs (the.Fetched s) = together (codes "the upcall page of " ∷ space_if names (Some s) ∷ codes " has come" ∷ [])
processor_words names programs _ = []

-- what a record says by itself: it is of one of these kinds
unfoldable pub own_words : List NamesView → List (List ℕ) → Record → List ℕ
own_words names programs what =
    thread_words names programs what ++ act_words names programs what ++ list_words names programs what ++ processor_words names programs what

-- an instruction of a program with its operands by name; nothing if the space has no names
abbrev pub instr_words : SourceView → SpaceNo → ℕ → Instr → List ℕ
instr_words x s program instr =
    unwrap_or (option_map (λ (own : NamesView). instr_text own (labels_of x.names s program) instr) (slice_get x.names s.0)) []

-- an instruction of a thread that runs a program: its line, and itself
unfoldable pub ran_words : SourceView → List (List ℕ) → SpaceNo → ThreadNo → ℕ → ℕ → Instr → List ℕ
ran_words x programs s t program place instr =
    thread_word x.names programs s t ++ codes " runs line " ++ decimal (line_at x s program place) ++ codes ", `"
    ++ instr_words x s program instr ++ codes "`"

-- the program of the thread that a record runs, if it is known
abbrev pub program_in : List (List ℕ) → Record → Option ℕ
program_in programs (the.Ins s t i) = program_of programs s t
program_in programs _ = None

-- what a record says, after the threads of these programs were made
abbrev pub words_by : SourceView → List (List ℕ) → Record → Option ℕ → Option Instr → List ℕ
words_by x programs (the.Ins s t i) (Some program) (Some instr) = ran_words x programs s t program i instr
words_by x programs what program instr = own_words x.names programs what

abbrev pub words_of : SourceView → List (List ℕ) → Record → List ℕ
words_of x programs what = words_by x programs what (program_in programs what) (instr_in x.workload programs what)
