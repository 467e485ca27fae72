use Rattle.std.proofs.Common.{List, ℕ, subst}
use Rattle.sa_workload.specs.Bad.{BadAt}
use Rattle.sa_workload.specs.Answer.{IfBad}
use Rattle.sa_input.specs.Refusals.{IsInputRefused}
use Rattle.sa_cli.proofs.Refusals.{unread-refused}
use Rattle.sa_cli.proofs.reading.read_workload.Goals as goal

pub returns-in_err-workload-clause-err : goal.returns-in_err-workload-clause-err
returns-in_err-workload-clause-err g c =
    let why = c.in_err-workload.field-0.0 in
    let P : List ℕ → Type 0 = λ v. IfBad why (IsInputRefused BadAt v) in
    unread-refused BadAt (g.S.Source.left c.args.source.now) _ c.in_ok-input.input.items _ _ why c.from_residual-in_err-workload.result
    c.in_ok-input.ensures.input (subst P c.deref.ensures.value c.in_err-workload.ensures.err) c.from_residual-in_err-workload.ensures.1
