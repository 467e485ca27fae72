-- What a piece of a line says where a number, a field or a word is expected, or what is wrong with it.
use Rattle.std.specs.Prelude.{ℕ, Bool, ◌&&◌, List, [], ◌∷◌, take, drop, find, codes, Option, Some, None, Result, Ok, Err, nat_le, if◌then◌else◌}
use Rattle.std.specs.Str.{bytes_eq}
use Rattle.sa_text.specs.Number.{number_of}
use Rattle.sa_trace.specs.declared.field.Field.{Field}
use Rattle.sa_trace.specs.declared.kind.Kind.{Kind}
use Rattle.sa_trace.specs.declared.kind.TheConstants.{KINDS}
use Rattle.sa_base.specs.declared.record.End.{End}
use Rattle.sa_base.specs.declared.record.End.TheVariants.{AllDone, Stuck, Budget}
use Rattle.sa_base.specs.declared.refusal.Cause.{Cause}
use Rattle.sa_base.specs.declared.refusal.Cause.TheVariants.{BadWord, BadNumber, OutOfRange, Missing}
use Rattle.sa_trace.specs.Field.{range_of}
use Rattle.sa_trace.specs.Kind.{form_of}
use Rattle.sa_trace.specs.TraceText.{end_word}

-- what is made of a value; a cause stays
abbrev pub and_then : {A B E : Type 0} → Result A E → (A → Result B E) → Result B E
and_then (Ok a) next = next a
and_then (Err cause) next = Err cause

-- the value, unless there is a cause
abbrev pub unless : {A E : Type 0} → Option E → A → Result A E
unless None a = Ok a
unless (Some cause) a = Err cause

-- the value where there is one, else the cause
abbrev pub or_cause : {A E : Type 0} → Option A → E → Result A E
or_cause None cause = Err cause
or_cause (Some a) cause = Ok a

-- what is read from the front of some pieces, with the pieces that are left
abbrev pub with_rest : {A B E : Type 0} → Result A E → B → Result (A × B) E
with_rest (Ok a) rest = Ok (a, rest)
with_rest (Err cause) rest = Err cause

-- a number from the one to the other
abbrev pub within : ℕ → ℕ → ℕ → Result ℕ Cause
within least greatest n = if nat_le least n && nat_le n greatest then Ok n else Err OutOfRange

abbrev pub number_in : ℕ → ℕ → List ℕ → Result ℕ Cause
number_in least greatest piece = and_then (or_cause (number_of piece) BadNumber) (within least greatest)

-- a field: a number in its range, or a dash where it may be absent
abbrev pub field_in : Field → List ℕ → Result (Option ℕ) Cause
field_in field piece =
    if (range_of field).optional && bytes_eq piece (codes "-") then Ok None
    else and_then (number_in 0 (range_of field).greatest piece) (λ n. Ok (Some n))

-- no piece is left, else it is a word too many
abbrev pub at_end : List (List ℕ) → Option Cause
at_end [] = None
at_end (piece ∷ rest) = Some BadWord

-- that many fields, each a piece, and none after them
abbrev pub fields_in : List Field → List (List ℕ) → Result (List (Option ℕ)) Cause
fields_in [] pieces = unless (at_end pieces) []
fields_in (field ∷ fields) [] = Err Missing
fields_in (field ∷ fields) (piece ∷ rest) =
    and_then (field_in field piece) (λ value. and_then (fields_in fields rest) (λ values. Ok (value ∷ values)))

-- the cause of a refusal, or else a later one
abbrev pub wrong_or : Result ℕ Cause → Option Cause → Option Cause
wrong_or (Ok n) later = later
wrong_or (Err cause) later = Some cause

-- the first thing that is wrong with pieces that have to be these numbers
abbrev pub wrong_count : List ℕ → List (List ℕ) → Option Cause
wrong_count [] pieces = at_end pieces
wrong_count (count ∷ counts) [] = Some Missing
wrong_count (count ∷ counts) (piece ∷ rest) = wrong_or (number_in count count piece) (wrong_count counts rest)

-- a kind's word is this one; or it is `told` and this one
abbrev pub has_word : List ℕ → Kind → Bool
has_word word kind = bytes_eq (form_of kind).word word

abbrev pub has_note : List ℕ → Kind → Bool
has_note word kind = bytes_eq (take 5 (form_of kind).word) (codes "told ") && bytes_eq (drop 5 (form_of kind).word) word

-- a kind with the pieces after its word; no kind has another word
abbrev pub known : Option Kind → List (List ℕ) → Result (Kind × List (List ℕ)) Cause
known None rest = Err BadWord
known (Some kind) rest = Ok (kind, rest)

abbrev pub note_at : List (List ℕ) → Result (Kind × List (List ℕ)) Cause
note_at [] = Err Missing
note_at (word ∷ rest) = known (find (has_note word) KINDS) rest

-- the kind that a record's word names, of which a notice has two, and the pieces after it
abbrev pub kind_at : List (List ℕ) → Result (Kind × List (List ℕ)) Cause
kind_at [] = Err Missing
kind_at (word ∷ rest) = if bytes_eq word (codes "told") then note_at rest else known (find (has_word word) KINDS) rest

-- how a run ended
abbrev pub end_of : List ℕ → Result End Cause
end_of word =
    if bytes_eq word (end_word AllDone) then Ok AllDone
    else (if bytes_eq word (end_word Stuck) then Ok Stuck
    else (if bytes_eq word (end_word Budget) then Ok Budget else Err BadWord))
