use Rattle.std.proofs.Common.{true, refl, sym, ap, ◌∙◌, eqb}
use Rattle.sa_base.specs.declared.number.SpaceNo.{SpaceNo}
use Rattle.sa_virtual.specs.Virtual.{space_of}
use Rattle.sa_vp_model.specs.Board.{list_in}
use Rattle.sa_vp_model.specs.Turn.{picked}
use Rattle.sa_vp.specs.declared.board.Parts.{Parts}
use Rattle.sa_vp.proofs.Reading.{can-run, of-number}
use Rattle.sa_vp.proofs.board.Parts.look.Goals as goal

pub say-requires-3-clause-can : goal.say-requires-3-clause-can
say-requires-3-clause-can c =
    let m = c.args.self.now in
    let s = c.space_of-s.result in
    let l = c.in-Some.l in
    let own = eqb l.0 c.list_of-own.result.0 in
    let t = c.in-Some-take.t in
    let taken = ap (λ (q : SpaceNo). picked (list_in m.ready.items q l) own) (sym c.space_of-s.ensures)
    ∙ of-number (picked (list_in m.ready.items s l) own) t (sym c.in-Some-take.is ∙ c.take.ensures.thread) in
    can-run m.replay.workload c.args.p c.say-2.new.self.replay.state m.replay.state s (space_of c.args.a) t t
    (ap (λ (x : Parts). x.replay.state) c.say-2.ensures ∙ ap (λ (x : Parts). x.replay.state) c.take.ensures.rest) c.space_of-s.ensures refl
    (c.requires.can.can l own t.0 c.in-Some.ensures.inside taken)

pub seek-requires-clause-ready : goal.seek-requires-clause-ready
seek-requires-clause-ready c = λ l t below is. (c.requires.can.can l true t below is).2
