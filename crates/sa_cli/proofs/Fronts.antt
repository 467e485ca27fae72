-- What stands in front of replies.
use Rattle.std.proofs.Common.{◌≡◌, ◌⊎◌, ℕ, ◌≤◌, List, [], ◌++◌, length, Option, Some, None, refl, sym, ap, ◌∙◌, subst, arith, inl, inr, append_assoc, append-nil}
use Rattle.std.specs.Prelude.{◌+◌, IsSome, IfSome, IfErr, IsErrAnd, Result, Ok, Err}
use Rattle.std.specs.Io.KnownBytes.{IsAtEnd}
use Rattle.sa_base.specs.declared.refusal.Bad.{Bad}
use Rattle.sa_base.specs.declared.refusal.Unread.{Unread}
use Rattle.sa_base.specs.declared.refusal.Unread.TheVariants as unread
use Rattle.sa_spaces.specs.Workload.{WorkloadView}
use Rattle.sa_workload.specs.Answer.{IfBad}
use Rattle.sa_workload.specs.Bad.{BadAt}
use Rattle.sa_workload.specs.Text.{IsText}
use Rattle.sa_workload.specs.Texts.{through_close, workload_part}
use Rattle.sa_input.specs.declared.limits.TheConstants.{WORKLOAD_LIMIT}
use Rattle.sa_input.specs.Refusals.{IsInputRefused}
use Rattle.sa_front.specs.Front.{IsOpen, IsClosed, LacksClose, ReadsFront}
use Rattle.sa_cli.specs.declared.outcome.Status.{Status}
use Rattle.sa_cli.specs.Outcome.{status_of_unread}
use Rattle.sa_cli.specs.Kernel.{IsFrontRefused, HasFront, LacksFront}
use Rattle.sa_cli.proofs.Refusals.{long-on}

-- the front of what begins with a text
closed-front : (text more input : List ℕ) → input ≡ text ++ more → IsClosed text → workload_part input ≡ text
closed-front text more input is closed = ap workload_part is ∙ closed more

open-front : (text line more input : List ℕ) → input ≡ text ++ more → IsOpen text line → workload_part input ≡ text ++ through_close line more
open-front text line more input is goes = ap workload_part is ∙ goes more

-- what holds of it as it was read holds of the front of the whole, if it is not too long, or if more after it changes nothing
front-on : (limit : ℕ) (Is : List ℕ → Type 0) (before after : Option (List ℕ)) (text kept : List ℕ) → ReadsFront limit before after text kept → Is text
    → (length text ≤ limit) ⊎ ((more : List ℕ) → Is (text ++ more)) → IfSome before (λ input. Is (workload_part input))
front-on limit Is None after text kept reads is rest = tt
front-on limit Is (Some xs) None text kept reads is rest = absurd reads.taken
front-on limit Is (Some xs) (Some ys) text kept reads is rest = go reads.whole where
  whole : xs ≡ text ++ (kept ++ ys)
  whole = reads.taken ∙ append_assoc text kept ys

  longer : (line : List ℕ) → length text ≡ limit + 1 → (length text ≤ limit) ⊎ ((more : List ℕ) → Is (text ++ more))
      → Is (text ++ through_close line (kept ++ ys))
  longer line long (inl short) = absurd (omega (arith, long, short))
  longer line long (inr more) = more (through_close line (kept ++ ys))

  behind : (line : List ℕ) → IsOpen text line → kept ≡ [] → (IsSome (Some xs) → IsAtEnd (Some ys)) ⊎ (length text ≡ limit + 1) → Is (workload_part xs)
  behind line goes none (inl ended) =
      let nothing : kept ++ ys ≡ [] = ap (λ v. v ++ ys) none ∙ ended refl in
      subst Is (sym (open-front text line [] xs (whole ∙ ap (λ v. text ++ v) nothing) goes ∙ append-nil text)) is
  behind line goes none (inr long) =
      subst Is (sym (open-front text line (kept ++ ys) xs whole goes)) (longer line long rest)

  go : IsClosed text ⊎ (LacksClose text × (kept ≡ []) × ((IsSome (Some xs) → IsAtEnd (Some ys)) ⊎ (length text ≡ limit + 1))) → Is (workload_part xs)
  go (inl closed) = subst Is (sym (closed-front text (kept ++ ys) xs whole closed)) is
  go (inr unclosed) = behind unclosed.0.0 unclosed.0.1 unclosed.1 unclosed.2

-- what stands in front is the text of a workload
pub has-front : (before after : Option (List ℕ)) (w : WorkloadView) (text shown kept : List ℕ) → shown ≡ text
    → ReadsFront WORKLOAD_LIMIT before after text kept → length shown ≤ WORKLOAD_LIMIT → IsText shown w → HasFront before after w kept
has-front before after w text shown kept same reads short is =
    let shorter : length text ≤ WORKLOAD_LIMIT = omega (arith, short, ap length same) in
    record {
      text = text;
      is = subst (λ (v : List ℕ). IsText v w) same is;
      short = shorter;
      front = front-on WORKLOAD_LIMIT (λ (v : List ℕ). text ≡ v) before after text kept reads refl (inl shorter);
      taken = reads.taken;
    }

-- or it is refused
front-refused : (before after : Option (List ℕ)) (text kept : List ℕ) (bad : Bad) → ReadsFront WORKLOAD_LIMIT before after text kept
    → IsInputRefused BadAt text bad → IsFrontRefused before bad
front-refused before after text kept bad reads refused =
    front-on WORKLOAD_LIMIT (λ v. IsInputRefused BadAt v bad) before after text kept reads refused (elim refused [
      | inl long ↦ inr (λ more. inl (long-on WORKLOAD_LIMIT text more bad long))
      | inr wrong ↦ inl wrong.0
    ])

pub lacks-front : {A : Type 0} (before after : Option (List ℕ)) (text kept : List ℕ) (old new : ℕ) (why : Unread) (result : Result A Status)
    → ReadsFront WORKLOAD_LIMIT before after text kept → IfBad why (IsInputRefused BadAt text)
    → IsErrAnd result (λ (status : Status). status ≡ status_of_unread why) → IfErr result (LacksFront before old new)
lacks-front before after text kept old new why (Ok x) reads refused is = absurd is
lacks-front before after text kept old new (unread.Bad bad) (Err status) reads refused is =
    subst (λ (s : Status). LacksFront before old new s) (sym is) (front-refused before after text kept bad reads refused)
lacks-front before after text kept old new unread.OutOfMemory (Err status) reads refused is =
    subst (λ (s : Status). LacksFront before old new s) (sym is) tt
