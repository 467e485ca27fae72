use Rattle.std.specs.Prelude.{slice_set}
use Rattle.std.proofs.Common.{IsSome, Some, refl, sym, ap, subst}
use Rattle.std.proofs.lemmas.Option.{slice_get_within}
use Rattle.sa_machine.specs.View.{machine_of}
use Rattle.sa_machine.proofs.EntryLemmas.{begun-as, user-so, before-so}
use Rattle.sa_machine.proofs.machine.MachineParts.begin.Goals as goal

pub seen-seen-requires-clause-owned : goal.seen-seen-requires-clause-owned
seen-seen-requires-clause-owned g c = subst IsSome (sym c.requires.owner) refl

pub begin-ctx-requires-clause-within : goal.begin-ctx-requires-clause-within
begin-ctx-requires-clause-within g c = λ κs k.
    let new = c.requires.welcomes in
    let m = machine_of c.args.self.now in
    slice_get_within m.users c.args.s.0 new.user
    (user-so g.U.UserLevel.calls g.U.UserLevel.stands c.args.p c.args.s m new c.requires.owner)

pub begin-ctx-requires-clause-before : goal.begin-ctx-requires-clause-before
begin-ctx-requires-clause-before g c = λ κs k u at.
    before-so g.U.UserLevel.calls g.U.UserLevel.stands c.args.p c.args.s (machine_of c.args.self.now) u c.seen-seen.result c.requires.welcomes
    c.requires.owner at (c.seen-seen.ensures c.args.s c.requires.owner)

pub returns-clause-machine : goal.returns-clause-machine
returns-clause-machine g c =
    let new = c.requires.welcomes in
    let m = machine_of c.args.self.now in
    let p = c.args.p in
    let s = c.args.s in
    let user = user-so g.U.UserLevel.calls g.U.UserLevel.stands p s m new c.requires.owner in
    let done = c.begin-ctx.ensures in
    begun-as g.U.UserLevel.calls p s m new.user c.seen-seen.result c.begin-ctx.result c.begin-ctx.new.self _ user
    (c.seen-seen.ensures s c.requires.owner) (done.user new.user user) (ap (λ n. slice_set m.contexts n (Some c.begin-ctx.result)) c.from.ensures)
    (done.ctx new.user user)
