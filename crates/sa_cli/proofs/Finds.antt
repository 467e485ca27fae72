-- An input of two texts is found to be one thing.
use Rattle.std.proofs.Common.{◌≡◌, ◌⊎◌, ℕ, ◌≤◌, List, ◌++◌, length, Option, Ok, Err, sym, ap, ◌∙◌, subst, arith, inl, inr}
use Rattle.std.specs.Prelude.{IfSome}
use Rattle.sa_base.specs.declared.refusal.Bad.{Bad}
use Rattle.sa_spaces.specs.Workload.{WorkloadView}
use Rattle.sa_workload.specs.Bad.{BadAt}
use Rattle.sa_workload.specs.Text.{IsText}
use Rattle.sa_workload.proofs.whole.OneBad.{texts_differ}
use Rattle.sa_trace.specs.Reading.{Told, read_of}
use Rattle.sa_check.specs.declared.verdict.Verdict.{Verdict}
use Rattle.sa_check.specs.Verdict.{IsVerdict}
use Rattle.sa_base.specs.declared.package.RulesName.{RulesName}
use Rattle.sa_ranks.specs.Packages.{rules_named}
use Rattle.sa_check.proofs.VerdictLemmas.{one-verdict}
use Rattle.sa_cli.specs.declared.found.Found.{Found}
use Rattle.sa_cli.specs.declared.found.Found.TheVariants.{Judged, BadWorkload, BadTrace}
use Rattle.sa_input.specs.declared.limits.TheConstants.{TRACE_LIMIT}
use Rattle.sa_io.specs.Input.{ReadsInput}
use Rattle.sa_workload.specs.Texts.{workload_part, second_part}
use Rattle.sa_input.specs.Parts.{HasWorkload, HasBadWorkload, HasBadTrace}
use Rattle.sa_cli.specs.Texts.{last_told, IsJudged, IsFound}
use Rattle.sa_cli.proofs.Inputs.{all-parted, refused-once, text-not_refused}
use Rattle.sa_cli.proofs.Refusals.{long-on, read-on}

one-workload : (input : List ℕ) (w v : WorkloadView) → HasWorkload input w → HasWorkload input v → w ≡ v
one-workload input w v x y = texts_differ (workload_part input) w v x.is y.is

not-both : (input : List ℕ) (w : WorkloadView) (bad : Bad) → HasWorkload input w → HasBadWorkload input bad → ⊥
not-both input w bad has wrong = text-not_refused IsText BadAt all-parted (workload_part input) w bad has.is has.short wrong.refused

same-told : (input : List ℕ) (t u : Told) → read_of (second_part input) ≡ Ok t → read_of (second_part input) ≡ Ok u → t ≡ u
same-told input t u x y = let e = sym x ∙ y in cc

same-refusal : (input : List ℕ) (a b : Bad) → read_of (second_part input) ≡ Err a → read_of (second_part input) ≡ Err b → a ≡ b
same-refusal input a b x y = let e : Err a ≡ Err b = sym x ∙ y in cc

one-judged : (rules : RulesName) (input : List ℕ) (a b : Verdict) → IsJudged rules input a → IsJudged rules input b → a ≡ b
one-judged rules input a b x y =
    let told = same-told input x.told y.told x.read y.read in
    let there : IsVerdict (rules_named rules) x.workload y.told.items (last_told y.told) a =
    subst (λ (t : Told). IsVerdict (rules_named rules) x.workload t.items (last_told t) a) told x.holds in
    let here : IsVerdict (rules_named rules) y.workload y.told.items (last_told y.told) a =
    subst (λ (w : WorkloadView). IsVerdict (rules_named rules) w y.told.items (last_told y.told) a) (one-workload input x.workload y.workload x.has y.has) there in
    one-verdict (rules_named rules) y.workload y.told.items (last_told y.told) a b here y.holds

judged-not_bad : (rules : RulesName) (input : List ℕ) (verdict : Verdict) (bad : Bad) → IsJudged rules input verdict → HasBadTrace input bad → ⊥
judged-not_bad rules input verdict bad x y = let e : Ok x.told ≡ Err bad = sym x.read ∙ y.read in cc

pub one-found : (rules : RulesName) (input : List ℕ) (a b : Found) → IsFound rules input a → IsFound rules input b → a ≡ b
one-found rules input (Judged a) (Judged b) x y = ap Judged (one-judged rules input a b x y)
one-found rules input (Judged a) (BadWorkload b) x y = absurd (not-both input x.workload b x.has y)
one-found rules input (Judged a) (BadTrace b) x (inl long) = let whole = x.has.whole in absurd (omega (arith, long.0))
one-found rules input (Judged a) (BadTrace b) x (inr wrong) = absurd (judged-not_bad rules input a b x wrong)
one-found rules input (BadWorkload a) (Judged b) x y = absurd (not-both input y.workload a y.has x)
one-found rules input (BadWorkload a) (BadWorkload b) x y = ap BadWorkload (refused-once IsText BadAt all-parted (workload_part input) a b x.refused y.refused)
one-found rules input (BadWorkload a) (BadTrace b) x (inl long) = let whole = x.whole in absurd (omega (arith, long.0))
one-found rules input (BadWorkload a) (BadTrace b) x (inr wrong) = absurd (not-both input wrong.workload a wrong.has x)
one-found rules input (BadTrace a) (Judged b) (inl long) y = let whole = y.has.whole in absurd (omega (arith, long.0))
one-found rules input (BadTrace a) (Judged b) (inr wrong) y = absurd (judged-not_bad rules input b a y wrong)
one-found rules input (BadTrace a) (BadWorkload b) (inl long) y = let whole = y.whole in absurd (omega (arith, long.0))
one-found rules input (BadTrace a) (BadWorkload b) (inr wrong) y = absurd (not-both input wrong.workload b wrong.has y)
one-found rules input (BadTrace a) (BadTrace b) (inl long) (inl more) = ap BadTrace (long.1 ∙ sym more.1)
one-found rules input (BadTrace a) (BadTrace b) (inl long) (inr wrong) = let whole = wrong.has.whole in absurd (omega (arith, long.0))
one-found rules input (BadTrace a) (BadTrace b) (inr wrong) (inl long) = let whole = wrong.has.whole in absurd (omega (arith, long.0))
one-found rules input (BadTrace a) (BadTrace b) (inr x) (inr y) = ap BadTrace (same-refusal input a b x.read y.read)

-- what is found of the input as it was read is what it is found to be
found-on : (rules : RulesName) (bytes : List ℕ) (a : Found) → IsFound rules bytes a
    → (length bytes ≤ TRACE_LIMIT) ⊎ ((more : List ℕ) → IsFound rules (bytes ++ more) a)
found-on rules bytes (Judged verdict) found = inl found.has.whole
found-on rules bytes (BadWorkload bad) found = inl found.whole
found-on rules bytes (BadTrace bad) (inl long) = inr (λ more. inl (long-on TRACE_LIMIT bytes more bad long))
found-on rules bytes (BadTrace bad) (inr wrong) = inl wrong.has.whole

pub read-found : (rules : RulesName) (before after : Option (List ℕ)) (bytes : List ℕ) (a : Found) → ReadsInput TRACE_LIMIT before after bytes → IsFound rules bytes a
    → IfSome before (λ whole. IsFound rules whole a)
read-found rules before after bytes a reads found =
    read-on TRACE_LIMIT (λ whole. IsFound rules whole a) before after bytes reads found (found-on rules bytes a found)
