-- The words with which the lines of a script begin.
use Rattle.std.specs.Prelude.{ℕ, Bool, List, codes, find, Result}
use Rattle.std.specs.Str.{bytes_eq}
use Rattle.sa_base.specs.declared.refusal.Cause.{Cause}
use Rattle.sa_base.specs.declared.refusal.Cause.TheVariants.{BadWord}
use Rattle.sa_trace.specs.Pieces.{or_cause}
use Rattle.sa_debug.specs.declared.script.word.Word.{Word}
use Rattle.sa_debug.specs.declared.script.word.Word.TheVariants.{Break, Clear, Halt, Go, Step, Run, Show, Quit}
use Rattle.sa_debug.specs.declared.script.word.TheConstants.{WORDS}

abbrev pub word_text : Word → List ℕ
word_text Break = codes "break"
word_text Clear = codes "clear"
word_text Halt = codes "halt"
word_text Go = codes "go"
word_text Step = codes "step"
word_text Run = codes "run"
word_text Show = codes "show"
word_text Quit = codes "quit"

abbrev pub has_text : List ℕ → Word → Bool
has_text piece word = bytes_eq (word_text word) piece

-- the word that a piece is
abbrev pub word_in : List ℕ → Result Word Cause
word_in piece = or_cause (find (has_text piece) WORDS) BadWord
