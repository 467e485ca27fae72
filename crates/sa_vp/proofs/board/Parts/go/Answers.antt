use Rattle.std.proofs.Common.{◌≡◌, ◌<◌, ◌≤◌, List, length, get_or, ap, subst, ◌∙◌, arith}
use Rattle.sa_base.specs.declared.number.SpaceNo.{SpaceNo}
use Rattle.sa_base.specs.declared.number.ThreadNo.{ThreadNo}
use Rattle.sa_base.specs.declared.limits.TheConstants.{MAX_THREADS}
use Rattle.sa_links.specs.Lists.{Lists, count_in}
use Rattle.sa_laws.specs.Machine.{next_effect}
use Rattle.sa_virtual.specs.Virtual.{space_of}
use Rattle.sa_virtual.specs.Holding.{numbers}
use Rattle.sa_vp.specs.declared.board.Parts.{Parts}
use Rattle.sa_vp.proofs.Reading.{row}
use Rattle.sa_vp.proofs.board.Parts.go.Goals as goal

pub put_behind-requires-clause-below : goal.put_behind-requires-clause-below
put_behind-requires-clause-below c = λ u some.
    let m = c.args.self.now in
    let s = space_of c.args.a in
    let can = c.requires.can in
    let work = ap (λ (x : Parts). x.work.items) c.say.ensures in
    let inside : s.0 < length m.work.items = omega (arith, can.virtual.space, can.tabled.work) in
    let here = row m.work.items c.from.result s.0 c.index_mut.result.now (c.from.ensures ∙ ap (λ (q : SpaceNo). q.0) c.space_of-s.ensures) inside
    (c.index_mut.ensures.value ∙ ap (λ (rows : List Lists). get_or rows c.from.result c.index_mut.result.now) work) in
    let nodes : c.index_mut.result.now.nodes ≡ MAX_THREADS = ap (λ (x : Lists). x.nodes) here ∙ (can.tabled.work_rows s.0 can.virtual.space).nodes in
    let roused = c.roused-roused.ensures ∙ ap (λ (x : Parts). x.replay.roused) c.say.ensures
    ∙ ap (λ (q : SpaceNo). (next_effect m.replay.workload m.replay.state q c.args.t).roused) c.space_of-s.ensures in
    omega (arith, nodes, can.below u (subst (λ (ts : List ThreadNo). 1 ≤ count_in u (numbers ts)) roused some))
