use Rattle.std.proofs.Common.{ℕ, List, subst}
use Rattle.sa_lemmas.proofs.Results.{err_along}
use Rattle.sa_workload.specs.Bad.{BadAt}
use Rattle.sa_workload.specs.Text.{IsText}
use Rattle.sa_workload.specs.Answer.{IfBad}
use Rattle.sa_workload.specs.Texts.{workload_part}
use Rattle.sa_base.specs.declared.refusal.Unread.{Unread}
use Rattle.sa_input.specs.Refusals.{IsInputRefused}
use Rattle.sa_input.proofs.parts.parts_of.Goals as goal

pub returns-in_err-workload-clause-err : goal.returns-in_err-workload-clause-err
returns-in_err-workload-clause-err c =
    let first = c.two_texts.ensures.first in
    let why = c.in_err-workload.field-0.0 in
    let P : List ℕ → Type 0 = λ v. IfBad why (IsInputRefused BadAt v) in
    err_along (λ (unread : Unread). IfBad unread (IsInputRefused BadAt (workload_part c.args.input.now))) why c.from_residual.result
    (subst P first c.in_err-workload.ensures.err) c.from_residual.ensures.1

pub returns-clause-workload : goal.returns-clause-workload
returns-clause-workload c =
    let first = c.two_texts.ensures.first in
    subst (λ (v : List ℕ). IsText v c.in_ok-workload.workload) first c.in_ok-workload.ensures.ok.1
