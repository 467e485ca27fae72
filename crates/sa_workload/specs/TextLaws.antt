-- What holds of the texts of workloads, line by line and byte by byte.
use Rattle.std.specs.Prelude.{◌≡◌, ◌⊎◌, ◌↔◌, ℕ, ◌≤◌, true, List, map, All}
use Rattle.std.specs.List.{join_with_byte}
use Rattle.sa_spaces.specs.Workload.{WorkloadView, IsWorkload}
use Rattle.sa_text.specs.LineText.{LineText, line_texts}
use Rattle.sa_workload.specs.Text.{workload_lines, text_of, version_of, IsText1}
use Rattle.sa_workload.specs.Bad.{IsUpTo, words_of, BadAt1}

-- the lines of a text are those of its workload, each with single spaces between its words and with its line feed
abbrev pub LinesAreTheWorkload : Type 0
LinesAreTheWorkload =
    (w : WorkloadView) → IsWorkload w
    → line_texts (text_of w) ≡ map (λ line. record { bytes = join_with_byte 32 line; ended = true }) (workload_lines w)

-- and their words are the workload's
abbrev pub WordsAreTheWorkload : Type 0
WordsAreTheWorkload = (w : WorkloadView) → IsWorkload w → words_of (line_texts (text_of w)) ≡ workload_lines w

-- bytes of which each line has its line feed, and whose words are a workload's, are its text
abbrev pub WordsMakeTheText : Type 0
WordsMakeTheText =
    (bytes : List ℕ) (w : WorkloadView) → All (λ (l : LineText). l.ended ≡ true) (line_texts bytes)
    → words_of (line_texts bytes) ≡ workload_lines w → bytes ≡ text_of w

-- each byte is a printed ASCII character or a line feed
abbrev pub TextsArePrinted : Type 0
TextsArePrinted = (w : WorkloadView) → IsWorkload w → All (λ b. (b ≡ 10) ⊎ ((32 ≤ b) × (b ≤ 126))) (text_of w)

-- by version 1 alone as by all versions: a text is never bad, and bytes are bad in one line at most, with one cause
abbrev pub Texts1AreNotBad : Type 0
Texts1AreNotBad = (bytes : List ℕ) (w : WorkloadView) (k why : ℕ) → IsText1 bytes w → ¬ BadAt1 bytes k why

abbrev pub Bad1Once : Type 0
Bad1Once = (bytes : List ℕ) (k j why cause : ℕ) → BadAt1 bytes k why → BadAt1 bytes j cause → (k ≡ j) × (why ≡ cause)

-- no two workloads have the same lines
abbrev pub LinesDiffer : Type 0
LinesDiffer = (v w : WorkloadView) → IsWorkload v → IsWorkload w → workload_lines v ≡ workload_lines w → v ≡ w

-- by version 1 alone as by all versions: bytes are the text of some workload, or bad
abbrev pub Text1OrBad : Type 0
Text1OrBad = (bytes : List ℕ) → ((w : WorkloadView) × IsText1 bytes w) ⊎ ((k why : ℕ) × BadAt1 bytes k why)

-- the texts of three versions are those of all workloads, and of one version those of workloads that are written in the first
abbrev pub AllAreOfThree : Type 0
AllAreOfThree = (w : WorkloadView) → IsUpTo 3 w ↔ IsWorkload w

abbrev pub FirstsAreOfOne : Type 0
FirstsAreOfOne = (w : WorkloadView) → IsUpTo 1 w ↔ (IsWorkload w × (version_of w ≡ 1))
