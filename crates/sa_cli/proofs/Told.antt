-- What a sink took of a text, by the status that a write is told with.
use Rattle.std.proofs.Common.{◌≡◌, ℕ, List, Option, Result, Ok, Err, inl, inr, ◌∙◌}
use Rattle.std.specs.Prelude.{OnOk, OnErr}
use Rattle.std.specs.Io.KnownBytes.{Appends}
use Rattle.sa_io.specs.Faults.{HasRisen, AppendsPrefix}
use Rattle.sa_cli.specs.declared.outcome.Status.{Status}
use Rattle.sa_cli.specs.declared.outcome.Status.TheVariants.{WriteFault}
use Rattle.sa_cli.specs.Answers.{Writes}

pub told-by : {T E : Type 0} (before after : Option (List ℕ)) (faults_before faults_after : ℕ) (text : List ℕ) (wrote : Result T E)
    (done whole status told : Status) → done ≡ whole → told ≡ status → OnOk wrote (status ≡ done) → OnErr wrote (status ≡ WriteFault)
    → OnOk wrote (Appends before after text) → OnErr wrote (AppendsPrefix before after text) → OnErr wrote (HasRisen faults_before faults_after)
    → Writes before after faults_before faults_after text whole told
told-by before after faults_before faults_after text (Ok x) done whole status told is tells ok err all some risen = inl (tells ∙ ok ∙ is, all)
told-by before after faults_before faults_after text (Err e) done whole status told is tells ok err all some risen = inr (tells ∙ err, risen, some)
