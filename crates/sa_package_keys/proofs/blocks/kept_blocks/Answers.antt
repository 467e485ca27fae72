use Rattle.std.proofs.Common.{◌-◌, length, refl, sym, ap, ◌∙◌, arith}
use Rattle.std.proofs.lemmas.List.{get_or_read_under}
use Rattle.sa_fast.specs.Threads.{unmade}
use Rattle.sa_package_keys.proofs.Trimmed.{trimmed-kept, trimmed-none}
use Rattle.sa_package_keys.specs.Packages.{is_new}
use Rattle.sa_package_keys.proofs.blocks.kept_blocks.Goals as goal

pub returns-then-not-is_new-clause-kept : goal.returns-then-not-is_new-clause-kept
returns-then-not-is_new-clause-kept c =
    let here = sym (get_or_read_under c.args.blocks.now (c.loop-i.i - 1) (length c.args.blocks.now) c.index-blocks-i.result unmade c.index-blocks-i.is (omega arith) refl) in
    trimmed-kept is_new unmade c.args.blocks.now (c.loop-i.i - 1) (omega arith) (ap is_new here ∙ sym c.is_new.ensures ∙ c.if-not-is_new.true)
    (λ t from low. c.loop-i.invariant t (omega arith) low)

pub returns-clause-kept : goal.returns-clause-kept
returns-clause-kept c = trimmed-none is_new unmade c.args.blocks.now (λ t from low. c.loop-i.invariant t (omega arith) low)
