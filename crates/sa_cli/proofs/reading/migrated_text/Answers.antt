use Rattle.std.proofs.Common.{arith, ap, ◌∙◌, inl}
use Rattle.sa_workload.specs.Bad.{BadAt1}
use Rattle.sa_input.specs.declared.limits.TheConstants.{WORKLOAD_LIMIT}
use Rattle.sa_input.specs.Refusals.{too_long}
use Rattle.sa_cli.proofs.Refusals.{read-refused}
use Rattle.sa_cli.proofs.reading.migrated_text.Goals as goal

pub returns-then-len-gt-WORKLOAD_LIMIT-clause-err : goal.returns-then-len-gt-WORKLOAD_LIMIT-clause-err
returns-then-len-gt-WORKLOAD_LIMIT-clause-err g c =
    read-refused BadAt1 (g.S.Source.left c.args.source.now) _ c.in_ok-input.input.items c.refusal_of_long.result c.in_ok-input.ensures.input
    (inl (omega arith, c.refusal_of_long.ensures ∙ ap (too_long WORKLOAD_LIMIT) c.deref.ensures.value))
