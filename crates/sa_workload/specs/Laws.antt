-- What holds of workload texts, whatever the bytes.
use Rattle.std.specs.Prelude.{◌≡◌, ◌≢◌, ◌⊎◌, ℕ, ◌+◌, ◌<◌, ◌≤◌, List, [], ◌∷◌, ◌++◌, length, take, true, Err, IfSome, IsTrue, All, Contains, codes, decimal}
use Rattle.std.specs.Result.{is_ok}
use Rattle.sa_spaces.specs.Workload.{WorkloadView}
use Rattle.sa_workload.specs.Text.{IsText}
use Rattle.sa_workload.specs.Fields.{Field, list_lt, fields_at}
use Rattle.sa_workload.specs.Bad.{Begins, MayFollow, IsRightWord, IsTooMany, BadAt, instr_words, first_word, last_line, fields_behind, ordered_words, numbers_before, numbers_of}

-- two workloads never share a text
abbrev pub TextsDiffer : Type 0
TextsDiffer = (bytes : List ℕ) (v w : WorkloadView) → IsText bytes v → IsText bytes w → v ≡ w

-- a text is never bad
abbrev pub TextsAreNotBad : Type 0
TextsAreNotBad = (bytes : List ℕ) (w : WorkloadView) (k why : ℕ) → IsText bytes w → ¬ BadAt bytes k why

-- bytes are bad in one line at most, with one cause
abbrev pub BadOnce : Type 0
BadOnce = (bytes : List ℕ) (k j why cause : ℕ) → BadAt bytes k why → BadAt bytes j cause → (k ≡ j) × (why ≡ cause)

-- bytes are the text of some workload, or bad
abbrev pub TextOrBad : Type 0
TextOrBad = (bytes : List ℕ) → ((w : WorkloadView) × IsText bytes w) ⊎ ((k why : ℕ) × BadAt bytes k why)

-- of the words after the first one, the first wrong or missing one has this cause
abbrev pub IsFirstWrong : List Field → List (List ℕ) → ℕ → Type 0
IsFirstWrong fields words why = fields_at fields words ≡ Err why

-- every field has its word, right, and words may follow
abbrev pub AreRight : List Field → List (List ℕ) → Type 0
AreRight fields words = is_ok (fields_at fields words) ≡ true

-- where the line has to come after the last line, its numbers are greater
abbrev pub IsInOrder : List (List (List ℕ)) → ℕ → List (List ℕ) → Type 0
IsInOrder lines count line = IfSome (numbers_before (last_line lines) (first_word line) count) (λ old. IsTrue (list_lt old (numbers_of count line)))

-- some text goes on after these lines with a line that begins with these words
pub record GoesOnWith (versions : ℕ) (lines : List (List (List ℕ))) (words : List (List ℕ)) : Type 0 where
  pub others : List (List ℕ)
  pub begins : Begins versions (lines ++ (words ++ others) ∷ [])

-- of the words after a first word, as many are right as the place says: some text goes on with these, and none with the next one too; where none
-- is next, it is missing
pub record IsFirstWrongPlace (versions : ℕ) (lines : List (List (List ℕ))) (word : List ℕ) (words : List (List ℕ)) (place : ℕ) : Type 0 where
  pub within : place ≤ length words
  pub before : GoesOnWith versions lines (word ∷ take place words)
  pub next : place < length words → ¬ GoesOnWith versions lines (word ∷ take (place + 1) words)
  pub missing : place ≡ length words → ¬ Begins versions (lines ++ (word ∷ words) ∷ [])

-- the word begins a line that does not have to come after another of its kind
abbrev pub IsFree : List (List (List ℕ)) → List ℕ → Type 0
IsFree lines word = ¬ (Contains ordered_words word × (first_word (last_line lines) ≡ word))

-- the first wrong word, by the table of lines, is the first with which no text goes on
abbrev pub FirstWrongWords : ℕ → Type 0
FirstWrongWords versions =
    (lines : List (List (List ℕ))) (word : List ℕ) (words : List (List ℕ)) (why : ℕ) → MayFollow versions lines word → IsFree lines word
    → IsFirstWrong (fields_behind versions lines word) words why → (place : ℕ) × IsFirstWrongPlace versions lines word words place

-- the lines end in a program of which the last instruction is missing
pub record IsLastPlace (lines : List (List (List ℕ))) : Type 0 where
  pub front : List (List (List ℕ))
  pub len : ℕ
  pub instrs : List (List (List ℕ))
  pub whole : lines ≡ front ++ (codes "program" ∷ decimal len ∷ []) ∷ instrs
  pub each : All (λ line. Contains instr_words (first_word line)) instrs
  pub last : length instrs + 1 ≡ len

-- a line whose words are all right and with which no text goes on is an instruction other than `end` in the last place
abbrev pub LastCauseIsNoEnd : ℕ → Type 0
LastCauseIsNoEnd versions =
    (lines : List (List (List ℕ))) (word : List ℕ) (words : List (List ℕ)) → Begins versions lines → IsRightWord versions lines word → ¬ IsTooMany lines word
    → AreRight (fields_behind versions lines word) words → IsInOrder lines (length (fields_behind versions lines word)) (word ∷ words)
    → length words ≡ length (fields_behind versions lines word) → ¬ Begins versions (lines ++ (word ∷ words) ∷ [])
    → IsLastPlace lines × Contains instr_words word × (word ≢ codes "end")
