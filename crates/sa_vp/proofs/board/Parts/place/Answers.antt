use Rattle.std.proofs.Common.{◌≡◌, get_or, Some, None, sym, ap, ◌∙◌}
use Rattle.sa_base.specs.declared.number.SpaceNo.{SpaceNo}
use Rattle.sa_laws.specs.State.{with_owner}
use Rattle.sa_virtual.specs.Virtual.{space_of}
use Rattle.sa_vp.specs.declared.board.Parts.{Parts}
use Rattle.sa_vp.proofs.Reading.{can-cont}
use Rattle.sa_vp.proofs.board.Parts.place.Goals as goal

pub say-requires-in-Some-clause-can : goal.say-requires-in-Some-clause-can
say-requires-in-Some-clause-can c =
    let m = c.args.self.now in
    let a = c.args.a in
    let held : get_or m.threads.items a.0 None ≡ Some c.in-Some.t =
    ap (λ (x : Parts). get_or x.threads.items a.0 None) (sym c.say.ensures) ∙ sym c.held.ensures ∙ c.in-Some.is in
    can-cont m.replay.workload c.args.p c.say.new.self.replay.state (with_owner m.replay.state c.args.p (Some (space_of a))) c.space_of-s.result
    (space_of a) c.in-Some.t
    (ap (λ (x : Parts). x.replay.state) c.say.ensures
    ∙ ap (λ (r : SpaceNo). with_owner m.replay.state c.args.p (Some r)) c.space_of-s.ensures) c.space_of-s.ensures (c.requires.can.can c.in-Some.t held)
