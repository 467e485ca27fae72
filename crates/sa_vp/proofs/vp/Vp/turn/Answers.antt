use Rattle.std.proofs.Common.{ap, ◌∙◌, arith}
use Rattle.sa_vp_model.specs.Turn.{turned}
use Rattle.sa_vp.specs.View.{VpView}
use Rattle.sa_vp.proofs.Kept.{inside-view, can, lose, few, waits, work, kept-turn, number-turn, workload-turn}
use Rattle.sa_vp.proofs.vp.Vp.turn.Goals as goal

pub turn-requires-clause-can : goal.turn-requires-clause-can
turn-requires-clause-can c =
    let k = c.self.inside in
    let is = inside-view k.parts k.budget k.spare c.make_room.new.self c.args.self.now c.self.view_is c.make_room.ensures.rest in
    can k.parts k.budget k.spare c.self.invariant c.args.p c.args.self.now is c.requires.within c.requires.not_ended

pub turn-requires-clause-lose : goal.turn-requires-clause-lose
turn-requires-clause-lose c =
    let k = c.self.inside in
    let is = inside-view k.parts k.budget k.spare c.make_room.new.self c.args.self.now c.self.view_is c.make_room.ensures.rest in
    lose k.parts k.budget k.spare c.self.invariant c.args.p c.args.self.now is c.requires.within c.requires.not_ended

pub turn-requires-clause-few : goal.turn-requires-clause-few
turn-requires-clause-few c =
    let k = c.self.inside in
    let is = inside-view k.parts k.budget k.spare c.make_room.new.self c.args.self.now c.self.view_is c.make_room.ensures.rest in
    few k.parts k.budget k.spare c.self.invariant c.args.p c.args.self.now is c.requires.within c.requires.not_ended

pub turn-requires-clause-ios : goal.turn-requires-clause-ios
turn-requires-clause-ios c =
    let k = c.self.inside in
    let is = inside-view k.parts k.budget k.spare c.make_room.new.self c.args.self.now c.self.view_is c.make_room.ensures.rest in
    waits k.parts k.budget k.spare c.self.invariant c.args.p c.args.self.now is c.requires.within c.requires.not_ended

pub turn-requires-clause-counted : goal.turn-requires-clause-counted
turn-requires-clause-counted c =
    let k = c.self.inside in
    let is = inside-view k.parts k.budget k.spare c.make_room.new.self c.args.self.now c.self.view_is c.make_room.ensures.rest in
    work k.parts k.budget k.spare c.self.invariant c.args.p c.args.self.now is c.requires.within c.requires.not_ended

pub invariant_of-self : goal.invariant_of-self
invariant_of-self c =
    let k = c.self.inside in
    let is = inside-view k.parts k.budget k.spare c.make_room.new.self c.args.self.now c.self.view_is c.make_room.ensures.rest in
    let spare = ap (λ (v : VpView). v.spare) c.self.view_is in
    let room = c.in_ok-make_room.ensures.ok in
    kept-turn k.parts k.budget k.spare c.self.invariant c.args.p c.args.self.now is c.requires.within c.requires.not_ended c.turn.new.self c.turn.ensures.board
    c.turn.ensures.room (omega (arith, spare, room))

pub returns-clause-number : goal.returns-clause-number
returns-clause-number c =
    let k = c.self.inside in
    let is = inside-view k.parts k.budget k.spare c.make_room.new.self c.args.self.now c.self.view_is c.make_room.ensures.rest in
    number-turn k.parts k.budget k.spare c.self.invariant c.args.p c.args.self.now is c.requires.within c.requires.not_ended c.turn.new.self
    c.turn.ensures.board c.turn.ensures.room

pub returns-clause-workload : goal.returns-clause-workload
returns-clause-workload c =
    let k = c.self.inside in
    let is = inside-view k.parts k.budget k.spare c.make_room.new.self c.args.self.now c.self.view_is c.make_room.ensures.rest in
    workload-turn k.parts k.budget k.spare c.self.invariant c.args.p c.args.self.now is c.requires.within c.requires.not_ended c.turn.new.self
    c.turn.ensures.board c.turn.ensures.room

pub returns-clause-ok : goal.returns-clause-ok
returns-clause-ok c =
    let k = c.self.inside in
    let is = inside-view k.parts k.budget k.spare c.make_room.new.self c.args.self.now c.self.view_is c.make_room.ensures.rest in
    c.turn.ensures.board ∙ ap (turned c.args.p) is.board
