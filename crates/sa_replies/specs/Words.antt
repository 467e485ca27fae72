-- The words with which replies begin.
use Rattle.std.specs.Prelude.{ℕ, Bool, List, codes, find, Result}
use Rattle.std.specs.Str.{bytes_eq}
use Rattle.sa_base.specs.declared.refusal.Cause.{Cause}
use Rattle.sa_base.specs.declared.refusal.Cause.TheVariants.{BadWord}
use Rattle.sa_trace.specs.Pieces.{or_cause}
use Rattle.sa_replies.specs.declared.word.Word.{Word}
use Rattle.sa_replies.specs.declared.word.Word.TheVariants.{Ins, Run, Ready, Cont, Back, Take, Free, Spin, Idle, Want, GiveBack, Line}
use Rattle.sa_replies.specs.declared.word.TheConstants.{WORDS}

abbrev pub word_text : Word → List ℕ
word_text Ins = codes "ins"
word_text Run = codes "run"
word_text Ready = codes "ready"
word_text Cont = codes "cont"
word_text Back = codes "back"
word_text Take = codes "take"
word_text Free = codes "free"
word_text Spin = codes "spin"
word_text Idle = codes "idle"
word_text Want = codes "want"
word_text GiveBack = codes "giveback"
word_text Line = codes "line"

abbrev pub has_text : List ℕ → Word → Bool
has_text piece word = bytes_eq (word_text word) piece

-- the word that a piece is
abbrev pub word_in : List ℕ → Result Word Cause
word_in piece = or_cause (find (has_text piece) WORDS) BadWord
