-- The words of a command line.
use Rattle.std.specs.Prelude.{◌≡◌, ℕ, List, drop, map, string_bytes, Result, Ok, Err}
use Rattle.std.specs.declared.string.String.{String}
use Rattle.std.specs.declared.vec.IntoIter.{IntoIter}
use Rattle.std.specs.declared.io.Error.{Error}
use Rattle.std.specs.declared.io.ErrorKind.{ErrorKind}
use Rattle.std.specs.declared.io.ErrorKind.TheVariants as kind
use Rattle.std.specs.Vec.Iter.{into_iter_items}
use Rattle.std.specs.IoError.{error_kind}
use Rattle.sa_io.specs.declared.words.NoWords.{NoWords}
use Rattle.sa_io.specs.declared.words.NoWords.TheVariants.{NoText, OutOfMemory}

-- the words of these arguments, the first of which is the program's name
abbrev pub words_after_name : {Z : Type 0} → List (String Z) → List (List ℕ)
words_after_name args = map string_bytes (drop 1 args)

-- why there are no words where the arguments are refused with an error of this kind
abbrev pub without_words : ErrorKind → NoWords
without_words kind.OutOfMemory = OutOfMemory
without_words _ = NoText

-- what is read of the arguments: their words after the name, unless memory runs out, or why there are none
abbrev pub AreWords : {Z A : Type 0} → Result (IntoIter (String Z) A) Error → Result (List (List ℕ)) NoWords → Type 0
AreWords (Ok args) (Ok words) = words ≡ words_after_name (into_iter_items args)
AreWords (Ok args) (Err why) = why ≡ OutOfMemory
AreWords (Err error) (Ok words) = ⊥
AreWords (Err error) (Err why) = why ≡ without_words (error_kind error)
