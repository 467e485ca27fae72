use Rattle.sa_vp.proofs.Kept.{kept-room}
use Rattle.sa_vp.proofs.vp.Vp.reserve.Goals as goal

pub invariant_of-self : goal.invariant_of-self
invariant_of-self c =
    kept-room c.self.inside.parts c.reserve.new.self c.self.inside.budget c.self.inside.spare c.self.inside.spare c.self.invariant c.reserve.ensures.board
    (c.reserve.ensures.grows c.self.inside.spare c.self.invariant.room)
