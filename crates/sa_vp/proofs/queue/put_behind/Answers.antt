use Rattle.std.proofs.Common.{◌≡◌, ℕ, ◌<◌, [], ◌∷◌, ◌++◌, length, get_or, sym, ap, subst, ◌∙◌, arith}
use Rattle.sa_links.specs.Lists.{Lists, list_at, with_list, IsFree}
use Rattle.sa_virtual.specs.Holding.{numbers}
use Rattle.sa_vp.proofs.Filling.{free, more, among, numbers_at, numbers_many}
use Rattle.sa_vp.proofs.queue.put_behind.Goals as goal

pub push_back-requires-clause-node : goal.push_back-requires-clause-node
push_back-requires-clause-node c =
    let ts = c.args.threads.now in
    let i = c.loop-t.t-index in
    let u = c.from-in-loop-t.result in
    let below : i < length (numbers ts) = omega (arith, c.loop-t-test.true, numbers_many ts) in
    let at : u ≡ get_or (numbers ts) i 0 = c.from-in-loop-t.ensures ∙ sym (numbers_at ts i (record { 0 = 0 }) (c.loop-t-test.true)) in
    let nodes = ap (λ (l : Lists). l.nodes) c.loop-t.invariant in
    omega (arith, nodes, c.requires.below u (among c.args.links.now c.args.l.0 (numbers ts) c.requires.list i u below at))

pub push_back-requires-clause-free : goal.push_back-requires-clause-free
push_back-requires-clause-free c =
    let ts = c.args.threads.now in
    let i = c.loop-t.t-index in
    let u = c.from-in-loop-t.result in
    let below : i < length (numbers ts) = omega (arith, c.loop-t-test.true, numbers_many ts) in
    let at : u ≡ get_or (numbers ts) i 0 = c.from-in-loop-t.ensures ∙ sym (numbers_at ts i (record { 0 = 0 }) (c.loop-t-test.true)) in
    subst (λ (l : Lists). IsFree l u) (sym c.loop-t.invariant) (free c.args.links.now c.args.l.0 (numbers ts) c.requires.list i u below at (c.requires.once u))

pub loop-t-preserved : goal.loop-t-preserved
loop-t-preserved c =
    let ts = c.args.threads.now in
    let i = c.loop-t.t-index in
    let u = c.from-in-loop-t.result in
    let below : i < length (numbers ts) = omega (arith, c.loop-t-test.true, numbers_many ts) in
    let at : u ≡ get_or (numbers ts) i 0 = c.from-in-loop-t.ensures ∙ sym (numbers_at ts i (record { 0 = 0 }) (c.loop-t-test.true)) in
    c.push_back.ensures ∙ ap (λ (k : ℕ). with_list c.loop-t.links k (list_at c.loop-t.links.lists k ++ u ∷ [])) c.from.ensures
    ∙ ap (λ (l : Lists). with_list l c.args.l.0 (list_at l.lists c.args.l.0 ++ u ∷ [])) c.loop-t.invariant
    ∙ more c.args.links.now c.args.l.0 (numbers ts) c.requires.list i u below at
