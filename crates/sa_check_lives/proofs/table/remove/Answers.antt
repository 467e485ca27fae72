use Rattle.std.proofs.Common.{rules, ◌≡◌, not, ◌==◌, subst, sym}
use Rattle.std.specs.Prelude.{Contains, filter}
use Rattle.std.proofs.lemmas.Fn.{filter_same}
use Rattle.sa_check_lives.proofs.Numbers.{numbers-removed}
use Rattle.sa_check_lives.proofs.table.remove.Goals as goal

pub returns : goal.returns
returns c = record {
  each = λ k apart there.
      let same : c.retain.new.self.items ≡ filter (λ m. not (m == c.args.n)) c.args.numbers.now.items =
      filter_same _ _ _ (λ x b f' k. search rules) _ _ c.retain.ensures.filtered in
      subst (λ xs. Contains xs k) (sym same) (numbers-removed c.args.n k c.args.numbers.now.items apart there);
}
