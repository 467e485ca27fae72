use Rattle.std.proofs.Common.{List, ℕ, subst}
use Rattle.sa_workload.specs.Bad.{BadAt}
use Rattle.sa_workload.specs.Answer.{IfBad}
use Rattle.sa_input.specs.Refusals.{IsInputRefused}
use Rattle.sa_cli.proofs.Fronts.{has-front, lacks-front}
use Rattle.sa_cli.proofs.kernel.read_workload_in_front.Goals as goal

pub returns-in_err-workload-clause-err : goal.returns-in_err-workload-clause-err
returns-in_err-workload-clause-err g c =
    let why = c.in_err-workload.field-0.0 in
    let P : List ℕ → Type 0 = λ v. IfBad why (IsInputRefused BadAt v) in
    lacks-front (g.S.Source.left c.args.source.now) _ c.in_ok-text.field-0.text.items c.in_ok-text.field-0.lines _ _ why
    c.from_residual-in_err-workload.result c.in_ok-text.ensures.front (subst P c.deref.ensures.value c.in_err-workload.ensures.err)
    c.from_residual-in_err-workload.ensures.1

pub returns-clause-ok : goal.returns-clause-ok
returns-clause-ok g c =
    has-front (g.S.Source.left c.args.source.now) _ c.in_ok-workload.workload c.in_ok-text.field-0.text.items c.deref.result.now
    c.in_ok-text.field-0.lines c.deref.ensures.value c.in_ok-text.ensures.front c.in_ok-workload.ensures.ok.0 c.in_ok-workload.ensures.ok.1
