use Rattle.std.proofs.Common.{◌≢◌, ℕ, ◌<◌, get_or}
use Rattle.sa_instr.specs.declared.operation.Operation.TheVariants.{End}
use Rattle.sa_instr.specs.declared.operation.TheConstants.{OPERATIONS}
use Rattle.sa_instr.specs.Operation.{form_of}
use Rattle.sa_instr.proofs.operation.Operation.of_word.Given as goal

-- none of the operations before this one has the word
abbrev pub invariant-loop-operation : goal.invariant-loop-operation
invariant-loop-operation l = (k : ℕ) → k < l.operation-index → (form_of (get_or OPERATIONS k End)).word ≢ l.word
