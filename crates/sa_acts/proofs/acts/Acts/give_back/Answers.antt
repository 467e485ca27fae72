use Rattle.std.proofs.Common.{List, slice_get, sym, ap, ◌∙◌, subst}
use Rattle.sa_acts.specs.Queues.{QueueView, all_numbers}
use Rattle.sa_acts.specs.Table.{acts_of, gave_back, taken_in, Slots}
use Rattle.sa_acts.specs.Room.{HasRoom}
use Rattle.sa_acts.proofs.RoomLemmas.{room-gave, view-gave, view-kept, shorter-none, first-number}
use Rattle.sa_acts.proofs.acts.Acts.give_back.Goals as goal

pub invariant_of-self-2 : goal.invariant_of-self-2
invariant_of-self-2 g c =
    subst (λ qs. HasRoom c.try_remove.new.self qs c.self.inside.spare) (sym c.pop_from.ensures.rest)
    (room-gave c.self.inside.slots c.try_remove.new.self c.self.inside.taken c.self.inside.spare c.in_ok-a.a.0 c.args.s.0 c.in_ok-a.a
    c.self.invariant c.try_remove.ensures.updates c.try_remove.ensures.capacity (sym c.in_ok-a.ensures.first))

pub returns-clause-gave : goal.returns-clause-gave
returns-clause-gave g c =
    let queues =
    ap (λ (qs : List QueueView). acts_of
    (record { table = c.try_remove.new.self; taken = all_numbers qs; spare = c.self.inside.spare })) c.pop_from.ensures.rest in
    queues ∙ view-gave c.self.inside.slots c.try_remove.new.self c.self.inside.taken c.self.inside.spare c.args.s.0 c.in_ok-a.a
    c.try_remove.ensures.updates (sym c.in_ok-a.ensures.first)
    ∙ ap (λ (v : Slots g.row.C.Denot). gave_back (acts_of v) c.args.s.0) c.self.view_is

pub invariant_of-self : goal.invariant_of-self
invariant_of-self g c =
    let queues = c.self.inside.taken in
    subst (λ qs. HasRoom c.self.inside.slots qs c.self.inside.spare)
    (sym (c.pop_from.ensures.rest ∙ shorter-none queues c.args.s.0 (sym c.in_err-a.ensures.first))) c.self.invariant

pub returns-in_err-a-clause-first : goal.returns-in_err-a-clause-first
returns-in_err-a-clause-first g c =
    c.from_residual.ensures ∙ c.in_err-a.ensures.first ∙ first-number c.self.inside.taken c.args.s.0
    ∙ ap (λ (v : Slots g.row.C.Denot). slice_get (taken_in (acts_of v) c.args.s.0) 0) c.self.view_is

pub returns-in_err-a-clause-gave : goal.returns-in_err-a-clause-gave
returns-in_err-a-clause-gave g c =
    let queues =
    ap (λ (qs : List QueueView). acts_of
    (record { table = c.self.inside.slots; taken = all_numbers qs; spare = c.self.inside.spare })) c.pop_from.ensures.rest in
    queues ∙ view-kept c.self.inside.slots c.self.inside.taken c.self.inside.spare c.args.s.0 (sym c.in_err-a.ensures.first)
    ∙ ap (λ (v : Slots g.row.C.Denot). gave_back (acts_of v) c.args.s.0) c.self.view_is

pub returns-clause-first : goal.returns-clause-first
returns-clause-first g c =
    c.in_ok-a.ensures.first ∙ first-number c.self.inside.taken c.args.s.0
    ∙ ap (λ (v : Slots g.row.C.Denot). slice_get (taken_in (acts_of v) c.args.s.0) 0) c.self.view_is
