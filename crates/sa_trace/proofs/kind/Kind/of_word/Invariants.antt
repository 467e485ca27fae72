use Rattle.std.proofs.Common.{◌≢◌, ℕ, ◌<◌, get_or}
use Rattle.sa_trace.specs.declared.kind.Kind.TheVariants.{Tick}
use Rattle.sa_trace.specs.declared.kind.TheConstants.{KINDS}
use Rattle.sa_trace.specs.Kind.{form_of}
use Rattle.sa_trace.proofs.kind.Kind.of_word.Given as goal

-- none of the kinds before this one has the word
abbrev pub invariant-loop-kind : goal.invariant-loop-kind
invariant-loop-kind l = (k : ℕ) → k < l.kind-index → (form_of (get_or KINDS k Tick)).word ≢ l.word
