use Rattle.std.proofs.Common.{rules}
use Rattle.std.proofs.lemmas.Fn.{filter_same}
use Rattle.sa_laws.specs.Record.{fetches_other}
use Rattle.sa_check_ios.proofs.under_way.drop_fetches.Goals as goal

pub returns : goal.returns
returns c = filter_same _ (fetches_other c.args.s) _ (λ x b f' k. search rules) _ _ c.retain.ensures.filtered
