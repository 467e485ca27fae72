use Rattle.std.proofs.Common.{◌∙◌, ap, Some}
use Rattle.sa_laws.specs.Record.{with_life}
use Rattle.sa_check_lives.proofs.table.pass_to.Goals as goal

pub returns-in-Err-clause-err : goal.returns-in-Err-clause-err
returns-in-Err-clause-err c = c.put_back.ensures ∙ ap (with_life (λ other. c.args.from) (Some c.args.a)) c.in-Err.ensures.err
