-- An input is the text of a workload, or refused in one way.
use Rattle.std.proofs.Common.{◌≡◌, ℕ, ◌≤◌, List, length, Option, Some, sym, ◌∙◌, subst, arith, inl, inr}
use Rattle.std.specs.Prelude.{IfSome}
use Rattle.sa_base.specs.declared.refusal.Bad.{Bad}
use Rattle.sa_spaces.specs.Workload.{WorkloadView}
use Rattle.sa_workload.specs.Text.{IsText, IsText1}
use Rattle.sa_workload.specs.Bad.{BadAt, BadAt1}
use Rattle.sa_workload.proofs.whole.Whole.{answers, answers1}
use Rattle.sa_input.specs.declared.limits.TheConstants.{WORKLOAD_LIMIT}
use Rattle.sa_cli.specs.Input.{Texts, GaveText}
use Rattle.sa_input.specs.Refusals.{Badness, IsInputRefused}
use Rattle.sa_cli.specs.Refusals.{IsRefused}

-- texts and what is bad are apart, and bytes are bad in one way
pub record AreParted (is_text : Texts) (is_bad : Badness) : Type 0 where
  pub once : (input : List ℕ) (k j why cause : ℕ) → is_bad input k why → is_bad input j cause → (k ≡ j) × (why ≡ cause)
  pub apart : (input : List ℕ) (w : WorkloadView) (k why : ℕ) → is_text input w → is_bad input k why → ⊥

pub all-parted : AreParted IsText BadAt
all-parted = record { once = λ input. (answers input).once; apart = λ input. (answers input).not_bad }

pub first-parted : AreParted IsText1 BadAt1
first-parted = record { once = λ input. (answers1 input).once; apart = λ input. (answers1 input).not_bad }

same_bad : (a b : Bad) → a.line ≡ b.line → a.why ≡ b.why → a ≡ b
same_bad a b line why = λ i. record { line = line i; why = why i }

-- what is told of a source that has an input is told of the input
pub told-is : (Is : List ℕ → Type 0) (left : Option (List ℕ)) (input : List ℕ) → left ≡ Some input → IfSome left Is → Is input
told-is Is left input told is = let P : Option (List ℕ) → Type 0 = λ o. IfSome o Is in subst P told is

module _ (is_text : Texts) (is_bad : Badness) (parted : AreParted is_text is_bad) where
  pub refused-once : (input : List ℕ) (a b : Bad) → IsInputRefused is_bad input a → IsInputRefused is_bad input b → a ≡ b
  refused-once input a b (inl long) (inl more) = long.1 ∙ sym more.1
  refused-once input a b (inl long) (inr wrong) = absurd (omega (arith, long.0, wrong.0))
  refused-once input a b (inr wrong) (inl long) = absurd (omega (arith, long.0, wrong.0))
  refused-once input a b (inr wrong) (inr bad) =
      let one = parted.once input a.line b.line a.why b.why wrong.1 bad.1 in same_bad a b one.0 one.1

  pub text-not_refused : (input : List ℕ) (w : WorkloadView) (bad : Bad) → is_text input w → length input ≤ WORKLOAD_LIMIT
      → IsInputRefused is_bad input bad → ⊥
  text-not_refused input w bad is short (inl long) = absurd (omega (arith, long.0, short))
  text-not_refused input w bad is short (inr wrong) = parted.apart input w bad.line bad.why is wrong.1

  -- the same of what a source told
  pub told-not_refused : (left : Option (List ℕ)) (input : List ℕ) (w : WorkloadView) (bad : Bad) → left ≡ Some input
      → is_text input w → length input ≤ WORKLOAD_LIMIT → IsRefused is_bad left bad → ⊥
  told-not_refused left input w bad told is short refused =
      text-not_refused input w bad is short (told-is (λ v. IsInputRefused is_bad v bad) left input told refused)

  pub told-refused_once : (left : Option (List ℕ)) (input : List ℕ) (a b : Bad) → left ≡ Some input
      → IsRefused is_bad left a → IsInputRefused is_bad input b → a ≡ b
  told-refused_once left input a b told refused is = refused-once input a b (told-is (λ v. IsInputRefused is_bad v a) left input told refused) is

  -- a source that gave the text of a workload is not refused
  pub gave-not_refused : (before after : Option (List ℕ)) (w : WorkloadView) (input : List ℕ) (bad : Bad) → before ≡ Some input
      → GaveText is_text before after w → IsInputRefused is_bad input bad → ⊥
  gave-not_refused before after w input bad told gave refused =
      text-not_refused gave.text w bad gave.is gave.short
      (subst (λ (v : List ℕ). IsInputRefused is_bad v bad) (told-is (λ (v : List ℕ). v ≡ gave.text) before input told gave.input) refused)
