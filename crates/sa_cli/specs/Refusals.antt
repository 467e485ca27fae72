-- What an input is refused with.
use Rattle.std.specs.Prelude.{⊤, ℕ, List, Option, IfSome}
use Rattle.sa_base.specs.declared.refusal.Bad.{Bad}
use Rattle.sa_io.specs.Faults.{HasRisen}
use Rattle.sa_cli.specs.declared.outcome.Status.{Status}
use Rattle.sa_cli.specs.declared.outcome.Status.TheVariants.{BadWorkload, ReadFault, OutOfMemory}
use Rattle.sa_input.specs.Refusals.{Badness, IsInputRefused}

-- the refusal of an input that the source tells
abbrev pub IsRefused : Badness → Option (List ℕ) → Bad → Type 0
IsRefused is_bad left bad = IfSome left (λ input. IsInputRefused is_bad input bad)

-- the causes of the statuses with which no workload was read
abbrev pub NothingRead : Badness → Option (List ℕ) → ℕ → ℕ → Status → Type 0
NothingRead is_bad left faults_before faults_after (BadWorkload bad) = IsRefused is_bad left bad
NothingRead is_bad left faults_before faults_after ReadFault = HasRisen faults_before faults_after
NothingRead is_bad left faults_before faults_after OutOfMemory = ⊤
NothingRead is_bad left faults_before faults_after other = ⊥
