use Rattle.std.proofs.Common.{◌++◌, [], take, ap, ◌∙◌, arith}
use Rattle.std.proofs.lemmas.List.{length-take-le}
use Rattle.sa_package_keys.specs.Codes.{number, list}
use Rattle.sa_package_keys.proofs.Loops.{so_far-none, so_far-kept, so_far-all, padded-all}
use Rattle.sa_package_keys.specs.Packages.{is_empty}
use Rattle.sa_package_keys.proofs.sync.put_joiners.Goals as goal

pub loop-t-init : goal.loop-t-init
loop-t-init c =
    let count = length-take-le c.kept_joiners-kept.result c.args.sync.now.joiners (omega arith) in
    so_far-none (list number) (take c.kept_joiners-kept.result c.args.sync.now.joiners) _ _ _ (omega arith)
    (c.in_ok-put_number-2.ensures ∙ ap (λ z. z ++ number c.from-2.result) c.in_ok-put_number.ensures
    ∙ ap (λ n. (c.args.key.now.items ++ number n) ++ number c.from-2.result) c.from.ensures)

pub loop-t-preserved : goal.loop-t-preserved
loop-t-preserved c = so_far-kept (list number) c.args.sync.now.joiners [] c.kept_joiners-kept.result c.loop-t.t _ _ _ (omega arith) (omega arith) c.loop-t.invariant c.in_ok-put_joiners_of.ensures

pub returns : goal.returns
returns c =
    let count = length-take-le c.kept_joiners-kept.result c.args.sync.now.joiners (omega arith) in
    padded-all is_empty (list number) c.args.sync.now.joiners c.kept_joiners-kept.result _ _ _ (omega arith) c.kept_joiners-kept.ensures.kept
    (so_far-all (list number) (take c.kept_joiners-kept.result c.args.sync.now.joiners) c.loop-t.t _ _ (omega arith) c.loop-t.invariant)
