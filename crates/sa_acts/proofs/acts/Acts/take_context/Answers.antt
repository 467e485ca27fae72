use Rattle.std.proofs.Common.{◌≡◌, true, List, Option, Some, None, IsSome, refl, sym, ap, ◌∙◌, subst}
use Rattle.std.proofs.lemmas.Bool.{false≢true}
use Rattle.slab.specs.Slab.{get, with_value}
use Rattle.sa_base.specs.declared.context.Stopped.{Stopped}
use Rattle.sa_acts.specs.declared.acts.Act.{Act}
use Rattle.sa_acts.specs.Queues.{QueueView, all_numbers}
use Rattle.sa_acts.specs.Table.{acts_of, took, Slots}
use Rattle.sa_acts.specs.Room.{HasRoom}
use Rattle.sa_acts.proofs.RoomLemmas.{room-took, view-took}
use Rattle.sa_acts.proofs.acts.Acts.take_context.Goals as goal

pub invariant_of-self : goal.invariant_of-self
invariant_of-self g c =
    let x : Act g.row.C.Denot = c.in-Some.act.now in
    let y : Act g.row.C.Denot = record x { held = None; taken = true } in
    let is : get c.self.inside.slots c.args.a.0 ≡ Some x = sym c.in-Some.ensures.value in
    let held : IsSome x.held = subst IsSome (sym c.in-Some-take.is ∙ c.take.ensures.value) refl in
    let kept = c.self.invariant.kept c.args.a.0 x is in
    let room = room-took c.self.inside.slots c.self.inside.taken c.self.inside.spare c.args.a.0 x y x.space.0 c.args.a
    c.self.invariant is (kept.held held) refl (record { space = kept.space; held = λ h. absurd (false≢true h) }) kept.space in
    subst (λ (h : Option (Stopped g.row.C.Denot)). HasRoom (with_value c.self.inside.slots c.args.a.0
    (record x { held = h; taken = true })) c.push_on.new.queues c.self.inside.spare)
    (sym c.take.ensures.after) (subst (λ (qs : List QueueView). HasRoom (with_value c.self.inside.slots c.args.a.0 y) qs c.self.inside.spare)
    (sym c.push_on.ensures) room)

pub returns-clause-took : goal.returns-clause-took
returns-clause-took g c =
    let x : Act g.row.C.Denot = c.in-Some.act.now in
    let is : get c.self.inside.slots c.args.a.0 ≡ Some x = sym c.in-Some.ensures.value in
    let changed =
    ap (λ (h : Option (Stopped g.row.C.Denot)). acts_of
    (record {
      table = with_value c.self.inside.slots c.args.a.0 (record x { held = h; taken = true });
      taken = all_numbers c.push_on.new.queues;
      spare = c.self.inside.spare;
    })) c.take.ensures.after in
    let queues =
    ap (λ (qs : List QueueView). acts_of
    (record {
      table = with_value c.self.inside.slots c.args.a.0 (record x { held = None; taken = true });
      taken = all_numbers qs;
      spare = c.self.inside.spare;
    })) c.push_on.ensures in
    changed ∙ queues ∙ view-took c.self.inside.slots c.self.inside.taken c.self.inside.spare c.args.a x is
    ∙ ap (λ (v : Slots g.row.C.Denot). took (acts_of v) c.args.a) c.self.view_is
