-- How the program ends.
use Rattle.std.specs.Prelude.{ℕ, ⊤}
use Rattle.sa_picture.specs.declared.status.Status.{Status}
use Rattle.sa_picture.specs.declared.status.Status.TheVariants.{Drawn, Usage, BadWorkload, ReadFault, WriteFault, OutOfMemory, BadTrace, TooMuch}
use Rattle.sa_io.specs.declared.input.ReadError.{ReadError}
use Rattle.sa_io.specs.declared.input.ReadError.TheVariants as read
use Rattle.sa_io.specs.declared.words.NoWords.{NoWords}
use Rattle.sa_io.specs.declared.words.NoWords.TheVariants as words

-- the exit status of the program
abbrev pub code_of : Status → ℕ
code_of Drawn = 0
code_of Usage = 1
code_of (BadWorkload bad) = 2
code_of ReadFault = 5
code_of WriteFault = 6
code_of OutOfMemory = 7
code_of (BadTrace bad) = 9
code_of TooMuch = 10

-- the status of an input that was not read
abbrev pub status_of : ReadError → Status
status_of read.Fault = ReadFault
status_of read.OutOfMemory = OutOfMemory

-- the status of arguments that are no words
abbrev pub status_of_no_words : NoWords → Status
status_of_no_words words.NoText = Usage
status_of_no_words words.OutOfMemory = OutOfMemory

-- the statuses with which nothing is written
abbrev pub WritesNothing : Status → Type 0
WritesNothing Drawn = ⊥
WritesNothing WriteFault = ⊥
WritesNothing other = ⊤
