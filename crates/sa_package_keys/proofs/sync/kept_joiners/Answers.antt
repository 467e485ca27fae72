use Rattle.std.proofs.Common.{◌-◌, [], sym, ◌∙◌, arith}
use Rattle.std.proofs.lemmas.Bool.{true≢false}
use Rattle.sa_links.specs.Lists.{list_at}
use Rattle.sa_package_keys.proofs.Trimmed.{trimmed-kept, trimmed-none}
use Rattle.sa_package_keys.specs.Packages.{is_empty}
use Rattle.sa_package_keys.proofs.Tests.{filled}
use Rattle.sa_package_keys.proofs.sync.kept_joiners.Goals as goal

pub returns-then-not-has_no_joiners-clause-kept : goal.returns-then-not-has_no_joiners-clause-kept
returns-then-not-has_no_joiners-clause-kept c =
    trimmed-kept is_empty [] c.args.sync.now.joiners (c.loop-t.t - 1) (omega arith) (filled (list_at c.args.sync.now.joiners (c.loop-t.t - 1)) (λ none. true≢false (sym (c.has_no_joiners.ensures.1 none) ∙ c.if-not-has_no_joiners.true)))
    (λ t from low. c.loop-t.invariant t (omega arith) low)

pub returns-clause-kept : goal.returns-clause-kept
returns-clause-kept c = trimmed-none is_empty [] c.args.sync.now.joiners (λ t from low. c.loop-t.invariant t (omega arith) low)
