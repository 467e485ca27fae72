use Rattle.std.proofs.Common.{rules, ◌≡◌, ◌+◌, sym, ap, ◌∙◌, subst}
use Rattle.slab.specs.Slab.{Slab, slab_len}
use Rattle.sa_acts.specs.declared.acts.Act.{Act}
use Rattle.sa_acts.specs.Queues.{HaveRoom}
use Rattle.sa_acts.proofs.RoomLemmas.{room-reserved, room-requeued, room-respared}
use Rattle.sa_acts.proofs.acts.Acts.reserve.Goals as goal

pub invariant_of-self : goal.invariant_of-self
invariant_of-self g c =
    room-reserved c.self.inside.slots c.reserve.new.self c.self.inside.taken c.self.inside.spare
    c.self.invariant c.reserve.ensures.rest_kept c.reserve.ensures.capacity

pub invariant_of-self-in_err-reserve_all : goal.invariant_of-self-in_err-reserve_all
invariant_of-self-in_err-reserve_all g c =
    room-requeued c.reserve.new.self c.self.inside.taken c.reserve_all.new.queues c.self.inside.spare
    (room-reserved c.self.inside.slots c.reserve.new.self c.self.inside.taken c.self.inside.spare
    c.self.invariant c.reserve.ensures.rest_kept c.reserve.ensures.capacity)
    c.reserve_all.ensures.numbers c.reserve_all.ensures.grows

pub invariant_of-self-then-self-n : goal.invariant_of-self-then-self-n
invariant_of-self-then-self-n g c =
    let old = c.self.inside.slots in
    let same : slab_len old ≡ slab_len c.reserve.new.self = sym (ap (λ (t : Slab (Act g.row.C.Denot)). slab_len t) c.reserve.ensures.rest_kept) in
    let room : c.in_ok-room.room ≡ slab_len old + c.args.n = search rules in
    room-respared c.reserve.new.self c.reserve_all.new.queues c.self.inside.spare c.args.n
    (room-requeued c.reserve.new.self c.self.inside.taken c.reserve_all.new.queues c.self.inside.spare
    (room-reserved old c.reserve.new.self c.self.inside.taken c.self.inside.spare
    c.self.invariant c.reserve.ensures.rest_kept c.reserve.ensures.capacity)
    c.reserve_all.ensures.numbers c.reserve_all.ensures.grows)
    c.in_ok-reserve.ensures.room
    (subst (λ n. HaveRoom n c.reserve_all.new.queues) (room ∙ ap (λ n. n + c.args.n) same) c.in_ok-reserve_all.ensures.ok)
