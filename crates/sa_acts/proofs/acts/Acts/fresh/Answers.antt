use Rattle.std.proofs.Common.{◌+◌, ◌≤◌, ◌<◌, ◌^◌, sym, subst}
use Rattle.slab.specs.Slab.{slab_len}
use Rattle.sa_acts.specs.Table.{Slots}
use Rattle.sa_acts.proofs.RoomLemmas.{room-fresh}
use Rattle.sa_acts.proofs.acts.Acts.fresh.Goals as goal

pub invariant_of-self : goal.invariant_of-self
invariant_of-self g c =
    let insert = c.insert_reserved-key in
    room-fresh c.self.inside.slots insert.new.self c.self.inside.taken c.self.inside.spare insert.result c.args.s
    c.self.invariant (subst (λ (v : Slots g.row.C.Denot). 1 ≤ v.spare) (sym c.self.view_is) c.requires.room)
    (subst (λ (v : Slots g.row.C.Denot). slab_len v.table + 1 < 2 ^ 32)
    (sym c.self.view_is) c.requires.few) c.requires.space insert.ensures.was_vacant insert.ensures.updates insert.ensures.capacity
