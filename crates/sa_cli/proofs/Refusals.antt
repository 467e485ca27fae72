-- What an input is refused with that is too long.
use Rattle.std.proofs.Common.{◌≡◌, ◌⊎◌, ℕ, ◌+◌, ◌<◌, ◌≤◌, List, ◌++◌, length, Option, Some, None, sym, ap, ◌∙◌, arith, inl, inr, refl, subst, length-append}
use Rattle.std.specs.Prelude.{count_by, ◌==◌, Result, Ok, Err, IfErr, IfSome, IsErrAnd}
use Rattle.std.proofs.lemmas.List.{take-append-le, append-nil}
use Rattle.sa_base.specs.Cause.{bad_at}
use Rattle.sa_base.specs.declared.refusal.Cause.TheVariants.{TooMany}
use Rattle.sa_base.specs.declared.refusal.Bad.{Bad}
use Rattle.sa_base.specs.declared.refusal.Unread.{Unread}
use Rattle.sa_base.specs.declared.refusal.Unread.TheVariants as unread
use Rattle.sa_workload.specs.Answer.{IfBad}
use Rattle.sa_cli.specs.declared.outcome.Status.{Status}
use Rattle.sa_cli.specs.Outcome.{status_of_unread}
use Rattle.sa_input.specs.declared.limits.TheConstants.{WORKLOAD_LIMIT}
use Rattle.sa_input.specs.Refusals.{Badness, IsInputRefused, too_long}
use Rattle.sa_cli.specs.Refusals.{IsRefused, NothingRead}
use Rattle.sa_io.specs.Input.{ReadsInput}

-- the line is told by what comes before the limit
long-front : (limit : ℕ) (bytes more : List ℕ) → limit ≤ length bytes → too_long limit (bytes ++ more) ≡ too_long limit bytes
unfolding too_long
long-front limit bytes more long =
    ap (λ (v : List ℕ). bad_at (count_by (λ b. b == 10) v + 1) TooMany) (take-append-le limit bytes more long)

-- an input that is too long stays so with more behind it, and is refused in the same line
pub long-on : (limit : ℕ) (bytes more : List ℕ) (bad : Bad) → (limit < length bytes) × (bad ≡ too_long limit bytes)
    → (limit < length (bytes ++ more)) × (bad ≡ too_long limit (bytes ++ more))
long-on limit bytes more bad long =
    let len = length-append bytes more in
    (omega (arith, long.0, len), long.1 ∙ sym (long-front limit bytes more (omega (arith, long.0))))

-- what holds of an input as it was read holds of the whole, where that is no longer, or where more behind it changes nothing
pub read-on : (limit : ℕ) (Is : List ℕ → Type 0) (before after : Option (List ℕ)) (bytes : List ℕ) → ReadsInput limit before after bytes → Is bytes
    → (length bytes ≤ limit) ⊎ ((more : List ℕ) → Is (bytes ++ more)) → IfSome before Is
read-on limit Is None after bytes reads is rest = tt
read-on limit Is (Some xs) None bytes reads is rest = absurd reads.taken
read-on limit Is (Some xs) (Some ys) bytes reads is (inl short) =
    subst Is (sym (reads.taken ∙ ap (λ v. bytes ++ v) (reads.end refl short) ∙ append-nil bytes)) is
read-on limit Is (Some xs) (Some ys) bytes reads is (inr rest) = subst Is (sym reads.taken) (rest ys)

-- an input that was read, and is refused as it was read, is refused
pub read-refused : (is_bad : Badness) (before after : Option (List ℕ)) (bytes : List ℕ) (bad : Bad) → ReadsInput WORKLOAD_LIMIT before after bytes
    → IsInputRefused is_bad bytes bad → IsRefused is_bad before bad
read-refused is_bad before after bytes bad reads refused =
    read-on WORKLOAD_LIMIT (λ v. IsInputRefused is_bad v bad) before after bytes reads refused (elim refused [
      | inl long ↦ inr (λ more. inl (long-on WORKLOAD_LIMIT bytes more bad long))
      | inr wrong ↦ inl wrong.0
    ])

pub unread-refused : {A : Type 0} (is_bad : Badness) (before after : Option (List ℕ)) (bytes : List ℕ) (old new : ℕ) (why : Unread) (result : Result A Status)
    → ReadsInput WORKLOAD_LIMIT before after bytes → IfBad why (IsInputRefused is_bad bytes)
    → IsErrAnd result (λ (status : Status). status ≡ status_of_unread why) → IfErr result (NothingRead is_bad before old new)
unread-refused is_bad before after bytes old new why (Ok x) reads refused is = absurd is
unread-refused is_bad before after bytes old new (unread.Bad bad) (Err status) reads refused is =
    subst (λ (s : Status). NothingRead is_bad before old new s) (sym is) (read-refused is_bad before after bytes bad reads refused)
unread-refused is_bad before after bytes old new unread.OutOfMemory (Err status) reads refused is =
    subst (λ (s : Status). NothingRead is_bad before old new s) (sym is) tt
