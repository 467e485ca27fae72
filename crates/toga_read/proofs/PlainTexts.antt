-- A workload text is read as `sa_workload` reads it.
use Rattle.std.proofs.Common.{◌≡◌, ℕ, List, IfNone, IfSome, Option, None, Some, Result, Ok, Err, MatchResult, ap, ◌∙◌}
use Rattle.sa_base.specs.declared.refusal.Bad.{Bad}
use Rattle.sa_instr.specs.declared.operation.Operation.{Operation}
use Rattle.sa_instr.specs.Operation.{IsNoWord, form_of, operation_of}
use Rattle.sa_spaces.specs.Workload.{WorkloadView}
use Rattle.sa_base.specs.declared.refusal.Unread.{Unread}
use Rattle.sa_base.specs.declared.refusal.Unread.TheVariants as unread
use Rattle.sa_workload.specs.Answer.{IfBad}
use Rattle.sa_workload.specs.Bad.{BadAt}
use Rattle.sa_workload.specs.Reading.{read_of}
use Rattle.sa_workload.specs.Text.{IsText}
use Rattle.toga_read.specs.Reading.{Refuses, plain_by, plain_of, refusal}
use Rattle.sa_workload.proofs.calls.Calls.{operation-is, operation-none}
use Rattle.sa_workload.proofs.whole.Whole.{answers}

pub text-read : (bytes : List ℕ) (w : WorkloadView) → IsText bytes w → read_of 3 bytes ≡ Ok w
text-read bytes w text = pick (read_of 3 bytes) (answers bytes).found where
  pick : (r : Result WorkloadView Bad) → MatchResult r (IsText bytes) (λ bad. BadAt bytes bad.line bad.why) → r ≡ Ok w
  pick (Ok v) found = ap (λ (x : WorkloadView). Ok x) ((answers bytes).same v w found text)
  pick (Err bad) found = absurd ((answers bytes).not_bad w bad.line bad.why text found)

pub bad-read : (bytes : List ℕ) (bad : Bad) → BadAt bytes bad.line bad.why → read_of 3 bytes ≡ Err bad
bad-read bytes bad refused = pick (read_of 3 bytes) (answers bytes).found where
  pick : (r : Result WorkloadView Bad) → MatchResult r (IsText bytes) (λ b. BadAt bytes b.line b.why) → r ≡ Err bad
  pick (Ok v) found = absurd ((answers bytes).not_bad v bad.line bad.why found refused)
  pick (Err b) found =
      let same = (answers bytes).once b.line bad.line b.why bad.why found refused in
      ap (λ (line : ℕ). Err (record { line = line; why = b.why })) same.0 ∙ ap (λ (why : ℕ). Err (record { line = bad.line; why = why })) same.1

-- a refusal is that of the text
pub refused-so : (text : List ℕ) (unread : Unread) → IfBad unread (λ bad. BadAt text bad.line bad.why) → Refuses (refusal unread) (plain_of text)
unfolding plain_of
refused-so text (unread.Bad bad) refused = ap (plain_by text) (bad-read text bad refused)
refused-so text unread.OutOfMemory refused = tt

-- the operation of a word, as a call finds it
pub found-word : (o : Option Operation) (word : List ℕ) → IfSome o (λ operation. (form_of operation).word ≡ word) → IfNone o (IsNoWord word)
    → operation_of word ≡ o
found-word (Some o) word found none = operation-is o word found
found-word None word found none = operation-none word none
