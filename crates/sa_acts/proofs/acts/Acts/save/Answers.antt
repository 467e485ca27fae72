use Rattle.std.proofs.Common.{◌≡◌, Some, refl, sym, ap, ◌∙◌}
use Rattle.std.proofs.lemmas.Option.{same_Some}
use Rattle.slab.specs.Slab.{get}
use Rattle.sa_acts.specs.declared.acts.Act.{Act}
use Rattle.sa_acts.specs.Table.{acts_of, saved, Slots}
use Rattle.sa_acts.proofs.RoomLemmas.{room-put, view-saved}
use Rattle.sa_acts.proofs.acts.Acts.save.Goals as goal

pub invariant_of-self : goal.invariant_of-self
invariant_of-self g c =
    let x : Act g.row.C.Denot = c.in-Some.act.now in
    let y : Act g.row.C.Denot = record x { held = Some c.args.held } in
    let is : get c.self.inside.slots c.args.a.0 ≡ Some x = sym c.in-Some.ensures.value in
    let same = ap (λ (v : Slots g.row.C.Denot). get v.table c.args.a.0) c.self.view_is in
    let before = ap (λ (z : Act g.row.C.Denot). z.taken) (same_Some x c.requires.here (sym is ∙ same ∙ c.requires.is)) ∙ c.requires.not_taken in
    room-put c.self.inside.slots c.self.inside.taken c.self.inside.spare c.args.a.0 x y c.self.invariant is refl
    (record { space = (c.self.invariant.kept c.args.a.0 x is).space; held = λ _. before })

pub returns : goal.returns
returns g c =
    view-saved c.self.inside.slots _ c.self.inside.spare c.args.a c.in-Some.act.now c.args.held (sym c.in-Some.ensures.value)
    ∙ ap (λ (v : Slots g.row.C.Denot). saved (acts_of v) c.args.a c.args.held) c.self.view_is
