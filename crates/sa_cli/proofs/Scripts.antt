-- An input of a workload and a script is found to be one thing.
use Rattle.std.proofs.Common.{◌≡◌, ◌⊎◌, ℕ, ◌≤◌, List, ◌++◌, length, Option, Ok, Err, refl, sym, ap, ◌∙◌, arith, inl, inr}
use Rattle.sa_base.specs.declared.refusal.Bad.{Bad}
use Rattle.sa_spaces.specs.Workload.{WorkloadView}
use Rattle.sa_workload.specs.Bad.{BadAt}
use Rattle.sa_workload.specs.Text.{IsText}
use Rattle.sa_workload.proofs.whole.OneBad.{texts_differ}
use Rattle.sa_debug.specs.declared.script.command.DebugCommand.{DebugCommand}
use Rattle.sa_debug.specs.script.Reading.{script_of}
use Rattle.sa_input.specs.declared.limits.TheConstants.{SCRIPT_LIMIT}
use Rattle.sa_cli.specs.declared.outcome.Ran.{Ran}
use Rattle.sa_cli.specs.declared.outcome.Status.{Status}
use Rattle.sa_cli.specs.declared.outcome.Status.TheVariants as status
use Rattle.sa_cli.specs.Answers.{World}
use Rattle.sa_cli.specs.Complete.{Debugs}
use Rattle.sa_cli.specs.Debugging.{BeginsWith, IsScriptOf, RefusesWorkload, RefusesScript, Scripted, IsScripted, status_of_scripted, GaveScripted, AnswersDebug}
use Rattle.sa_cli.specs.Debugging.Scripted.{Accepted, BadWorkload, BadScript}
use Rattle.sa_io.specs.Input.{ReadsInput}
use Rattle.sa_workload.specs.Texts.{workload_part, second_part}
use Rattle.sa_cli.proofs.Inputs.{all-parted, refused-once, text-not_refused}
use Rattle.sa_cli.proofs.Refusals.{long-on, read-on}
use Rattle.sa_cli.proofs.ByStatus.{SaysFound, found-complete}

one-workload : (input : List ℕ) (w v : WorkloadView) → BeginsWith input w → BeginsWith input v → w ≡ v
one-workload input w v x y = texts_differ (workload_part input) w v x.is y.is

not-both : (input : List ℕ) (w : WorkloadView) (bad : Bad) → BeginsWith input w → RefusesWorkload input bad → ⊥
not-both input w bad has wrong = text-not_refused IsText BadAt all-parted (workload_part input) w bad has.is has.short wrong.refused

one-script : (input : List ℕ) (w v : WorkloadView) (cs ds : List DebugCommand) → IsScriptOf input w cs → IsScriptOf input v ds → Accepted w cs ≡ Accepted v ds
one-script input w v cs ds x y =
    let same = one-workload input w v x.has y.has in
    let e : Ok cs ≡ Ok ds = sym x.read ∙ ap (λ u. script_of u (second_part input)) same ∙ y.read in
    let commands : cs ≡ ds = cc in
    ap (λ u. Accepted u cs) same ∙ ap (λ xs. Accepted v xs) commands

not-script : (input : List ℕ) (w : WorkloadView) (cs : List DebugCommand) (bad : Bad) → IsScriptOf input w cs → RefusesScript input bad → ⊥
not-script input w cs bad x y =
    let e : Ok cs ≡ Err bad = sym x.read ∙ ap (λ u. script_of u (second_part input)) (one-workload input w y.workload x.has y.has) ∙ y.read in cc

one-refusal : (input : List ℕ) (a b : Bad) → RefusesScript input a → RefusesScript input b → a ≡ b
one-refusal input a b x y =
    let e : Err a ≡ Err b = sym x.read ∙ ap (λ u. script_of u (second_part input)) (one-workload input x.workload y.workload x.has y.has) ∙ y.read in cc

one-scripted : (input : List ℕ) (a b : Scripted) → IsScripted input a → IsScripted input b → a ≡ b
one-scripted input (Accepted w cs) (Accepted v ds) x y = one-script input w v cs ds x y
one-scripted input (Accepted w cs) (BadWorkload b) x y = absurd (not-both input w b x.has y)
one-scripted input (Accepted w cs) (BadScript b) x (inl long) = let whole = x.has.whole in absurd (omega (arith, long.0))
one-scripted input (Accepted w cs) (BadScript b) x (inr wrong) = absurd (not-script input w cs b x wrong)
one-scripted input (BadWorkload a) (Accepted v ds) x y = absurd (not-both input v a y.has x)
one-scripted input (BadWorkload a) (BadWorkload b) x y = ap BadWorkload (refused-once IsText BadAt all-parted (workload_part input) a b x.refused y.refused)
one-scripted input (BadWorkload a) (BadScript b) x (inl long) = let whole = x.whole in absurd (omega (arith, long.0))
one-scripted input (BadWorkload a) (BadScript b) x (inr wrong) = absurd (not-both input wrong.workload a wrong.has x)
one-scripted input (BadScript a) (Accepted v ds) (inl long) y = let whole = y.has.whole in absurd (omega (arith, long.0))
one-scripted input (BadScript a) (Accepted v ds) (inr wrong) y = absurd (not-script input v ds a y wrong)
one-scripted input (BadScript a) (BadWorkload b) (inl long) y = let whole = y.whole in absurd (omega (arith, long.0))
one-scripted input (BadScript a) (BadWorkload b) (inr wrong) y = absurd (not-both input wrong.workload b wrong.has y)
one-scripted input (BadScript a) (BadScript b) (inl long) (inl more) = ap BadScript (long.1 ∙ sym more.1)
one-scripted input (BadScript a) (BadScript b) (inl long) (inr wrong) = let whole = wrong.has.whole in absurd (omega (arith, long.0))
one-scripted input (BadScript a) (BadScript b) (inr wrong) (inl long) = let whole = wrong.has.whole in absurd (omega (arith, long.0))
one-scripted input (BadScript a) (BadScript b) (inr x) (inr y) = ap BadScript (one-refusal input a b x y)

-- what is found of the input as it was read is what it is found to be
scripted-on : (bytes : List ℕ) (a : Scripted) → IsScripted bytes a → (length bytes ≤ SCRIPT_LIMIT) ⊎ ((more : List ℕ) → IsScripted (bytes ++ more) a)
scripted-on bytes (Accepted w cs) found = inl found.has.whole
scripted-on bytes (BadWorkload bad) found = inl found.whole
scripted-on bytes (BadScript bad) (inl long) = inr (λ more. inl (long-on SCRIPT_LIMIT bytes more bad long))
scripted-on bytes (BadScript bad) (inr wrong) = inl wrong.has.whole

pub gave-scripted : (before after : Option (List ℕ)) (bytes : List ℕ) (a : Scripted) → ReadsInput SCRIPT_LIMIT before after bytes → IsScripted bytes a
    → GaveScripted before after a
gave-scripted before after bytes a reads is =
    let told = read-on SCRIPT_LIMIT (λ whole. IsScripted whole a) before after bytes reads is (scripted-on bytes a is) in
    record { input = bytes; reads = reads; is = is; told = told }

-- `debug` is complete
debug-says : (budget : ℕ) (old new : World) (ran : Ran) (s : Status) → AnswersDebug budget old new ran s → SaysFound IsScripted status_of_scripted old new s
debug-says budget old new ran status.Quit answers = (Accepted answers.workload answers.commands, refl, answers.gave.told)
debug-says budget old new ran (status.BadWorkload bad) answers = (BadWorkload bad, refl, answers.0.told)
debug-says budget old new ran (status.BadScript bad) answers = (BadScript bad, refl, answers.0.told)
debug-says budget old new ran status.OutOfMemory answers = tt
debug-says budget old new ran status.ReadFault answers = answers.0
debug-says budget old new ran status.WriteFault answers = answers.0
debug-says budget old new ran _ answers = absurd answers

pub debug-debugs : (budget : ℕ) (old new : World) (ran : Ran) (s : Status) → AnswersDebug budget old new ran s → Debugs old new s
debug-debugs budget old new ran s answers =
    found-complete IsScripted status_of_scripted one-scripted old new s (debug-says budget old new ran s answers)
