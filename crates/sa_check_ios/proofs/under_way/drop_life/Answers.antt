use Rattle.std.proofs.Common.{rules}
use Rattle.std.proofs.lemmas.Fn.{filter_same}
use Rattle.sa_laws.specs.Record.{is_io_of_other}
use Rattle.sa_check_ios.proofs.under_way.drop_life.Goals as goal

pub returns : goal.returns
returns c = filter_same _ (is_io_of_other c.args.a) _ (λ x b f' k. search rules) _ _ c.retain.ensures.filtered
