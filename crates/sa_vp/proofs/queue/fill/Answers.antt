use Rattle.std.proofs.Common.{◌<◌, [], ◌∷◌, ◌++◌, length, get_or, refl, sym, ap, subst, ◌∙◌, arith}
use Rattle.sa_links.specs.Lists.{Lists, list_at, with_list, IsFree}
use Rattle.sa_vp.proofs.Filling.{free, more, among}
use Rattle.sa_vp.proofs.queue.fill.Goals as goal

pub push_back-requires-clause-node : goal.push_back-requires-clause-node
push_back-requires-clause-node c =
    let xs = c.args.numbers.now in
    let i = c.loop-number.number-index in
    let inside : 0 < length c.args.links.now.lists = omega (arith, c.requires.list) in
    let below : i < length xs = omega (arith, c.loop-number-test.true) in
    let nodes = ap (λ (l : Lists). l.nodes) c.loop-number.invariant in
    omega (arith, nodes, c.requires.below (get_or xs i 0) (among c.args.links.now 0 xs inside i (get_or xs i 0) below refl))

pub push_back-requires-clause-free : goal.push_back-requires-clause-free
push_back-requires-clause-free c =
    let xs = c.args.numbers.now in
    let i = c.loop-number.number-index in
    let inside : 0 < length c.args.links.now.lists = omega (arith, c.requires.list) in
    let below : i < length xs = omega (arith, c.loop-number-test.true) in
    subst (λ (l : Lists). IsFree l (get_or xs i 0)) (sym c.loop-number.invariant)
    (free c.args.links.now 0 xs inside i (get_or xs i 0) below refl (c.requires.once (get_or xs i 0)))

pub loop-number-preserved : goal.loop-number-preserved
loop-number-preserved c =
    let xs = c.args.numbers.now in
    let i = c.loop-number.number-index in
    let inside : 0 < length c.args.links.now.lists = omega (arith, c.requires.list) in
    let below : i < length xs = omega (arith, c.loop-number-test.true) in
    c.push_back.ensures ∙ ap (λ (l : Lists). with_list l 0 (list_at l.lists 0 ++ get_or xs i 0 ∷ [])) c.loop-number.invariant
    ∙ more c.args.links.now 0 xs inside i (get_or xs i 0) below refl
