-- What the words after the first one of a line are read as, by its fields: the number of each, or the first cause that applies.
use Rattle.std.specs.Prelude.{ℕ, ◌+◌, ◌==◌, ◌&&◌, ◌||◌, nat_lt, Bool, false, codes, List, [], ◌∷◌, Option, Some, None, Result, Ok, Err, if◌then◌else◌}
use Rattle.sa_base.specs.declared.refusal.Cause.TheVariants.{BadWord, BadNumber, OutOfRange, Twice, Missing}
use Rattle.std.specs.Option.{option_map}
use Rattle.std.specs.Str.{bytes_eq}
use Rattle.sa_base.specs.declared.refusal.Cause.{Cause}
use Rattle.sa_base.specs.Cause.{cause_number}
use Rattle.sa_text.specs.Number.{number_of}

-- What follows the first word: a register, or a number below 2 ^ 64 that passes a test, else it is refused with a cause.
pub data Field : Type 0 where
  Register : Field
  Number : (ℕ → Bool) → ℕ → Field

-- the words of the registers
abbrev pub registers : List (List ℕ)
registers = codes "r0" ∷ codes "r1" ∷ codes "r2" ∷ codes "r3" ∷ codes "r4" ∷ codes "r5" ∷ codes "r6" ∷ codes "r7" ∷ []

-- one list of numbers before another of the same length, compared from the left
abbrev pub list_lt : List ℕ → List ℕ → Bool
list_lt (x ∷ xs) (y ∷ ys) = nat_lt x y || ((x == y) && list_lt xs ys)
list_lt xs ys = false

-- what is made of a value; a cause stays
abbrev pub and_then : {A B : Type 0} → Result A ℕ → (A → Result B ℕ) → Result B ℕ
and_then (Ok a) next = next a
and_then (Err cause) next = Err cause

-- what there is, unless there is a cause
abbrev pub unless : {A : Type 0} → Option ℕ → Result A ℕ → Result A ℕ
unless None r = r
unless (Some cause) r = Err cause

-- the value where there is one, else the cause
abbrev pub or_cause : {A : Type 0} → Option A → ℕ → Result A ℕ
or_cause None cause = Err cause
or_cause (Some a) cause = Ok a

-- an answer with the number of its cause
abbrev pub numbered : {A : Type 0} → Result A Cause → Result A ℕ
numbered (Ok a) = Ok a
numbered (Err cause) = Err (cause_number cause)

-- an answer and the words that are left
abbrev pub with_rest : {A B : Type 0} → Result A Cause → B → Result (A × B) ℕ
with_rest (Ok a) rest = Ok (a, rest)
with_rest (Err cause) rest = Err (cause_number cause)

-- the place of a word among these
abbrev pub index_of : List ℕ → List (List ℕ) → Option ℕ
index_of word [] = None
index_of word (k ∷ ks) = if bytes_eq word k then Some 0 else option_map (λ n. n + 1) (index_of word ks)

-- A word, as a number of a field; that of a register is its number. Else it is no register, or no number below 2 ^ 64 in its one
-- spelling.
abbrev pub read_field : Field → List ℕ → Result ℕ ℕ
read_field Register word = or_cause (index_of word registers) (cause_number BadWord)
read_field (Number test cause) word = and_then (or_cause (number_of word) (cause_number BadNumber)) (λ n. if test n then Ok n else Err cause)

-- the next word, and the words after it
abbrev pub field_at : Field → List (List ℕ) → Result (ℕ × List (List ℕ)) ℕ
field_at field [] = Err (cause_number Missing)
field_at field (word ∷ rest) = and_then (read_field field word) (λ n. Ok (n, rest))

-- a word for each field, and the words after them; else the cause of the first that is wrong or missing
abbrev pub fields_at : List Field → List (List ℕ) → Result (List ℕ × List (List ℕ)) ℕ
fields_at [] words = Ok ([], words)
fields_at (field ∷ fields) words =
    and_then (field_at field words) (λ first. and_then (fields_at fields first.1) (λ others. Ok (first.0 ∷ others.0, others.1)))

-- no word is left, else the next is one too many
abbrev pub at_end : List (List ℕ) → Option ℕ
at_end [] = None
at_end (word ∷ words) = Some (cause_number BadWord)

-- numbers have to come after those of the last such line: neither equal to them nor smaller
abbrev pub order_cause : Option (List ℕ) → List ℕ → Option ℕ
order_cause None ns = None
order_cause (Some last) ns = if bytes_eq ns last then Some (cause_number Twice) else (if list_lt ns last then Some (cause_number OutOfRange) else None)

-- the numbers of all words after the first one, or the first cause that applies to them
abbrev pub line_numbers : List Field → Option (List ℕ) → List (List ℕ) → Result (List ℕ) ℕ
line_numbers fields last words =
    and_then (fields_at fields words) (λ read. unless (order_cause last read.0) (unless (at_end read.1) (Ok read.0)))
