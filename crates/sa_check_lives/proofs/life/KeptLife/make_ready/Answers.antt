use Rattle.std.proofs.Common.{rules, ◌≡◌, not}
use Rattle.std.specs.Prelude.{filter}
use Rattle.std.proofs.lemmas.Fn.{filter_same}
use Rattle.sa_laws.specs.Life.{same_thread}
use Rattle.sa_check_lives.proofs.life.KeptLife.make_ready.Goals as goal

pub returns : goal.returns
returns c =
    let left : c.retain.new.self.items ≡ filter (λ u. not (same_thread u c.args.t)) c.self.inside.hand.items =
    filter_same _ _ _ (λ x b f' k. search rules) _ _ c.retain.ensures.filtered in
    search rules
