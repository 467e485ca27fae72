use Rattle.std.proofs.Common.{Some, None, slice_get, refl, sym, ap, subst, ◌∙◌}
use Rattle.sa_virtual.specs.Virtual.{space_of, list_of}
use Rattle.sa_vp_model.specs.Board.{Board, list_in}
use Rattle.sa_vp_model.specs.Needs.{CanReady}
use Rattle.sa_vp_model.specs.Turn.{carried_on}
use Rattle.sa_vp.specs.declared.board.Parts.{Parts}
use Rattle.sa_vp.specs.View.{board_of}
use Rattle.sa_vp.proofs.Cases.{stepped, no-number}
use Rattle.sa_vp.proofs.Reading.{of-number}
use Rattle.sa_vp.proofs.board.Parts.step.Goals as goal

pub make_ready-requires-clause-can : goal.make_ready-requires-clause-can
make_ready-requires-clause-can c =
    let a = c.args.a in
    let first = c.in-Some.first in
    let same = ap (λ (x : Parts). slice_get (list_in x.work.items (space_of a) (list_of a)) 0) c.count_step.ensures.rest in
    let here = of-number (slice_get (list_in c.count_step.new.self.work.items (space_of a) (list_of a)) 0) first
    (sym c.in-Some.is ∙ c.first_due.ensures.first) in
    subst (λ (b : Board). CanReady c.args.p a first b) (sym c.count_step.ensures.steps) (c.requires.can.readies first.0 (sym same ∙ here))

pub returns-in-Some-clause-board : goal.returns-in-Some-clause-board
returns-in-Some-clause-board c =
    let a = c.args.a in
    let now = board_of c.count_step.new.self in
    let due = of-number (slice_get (list_in now.work (space_of a) (list_of a)) 0) c.in-Some.first (sym c.in-Some.is ∙ c.first_due.ensures.first) in
    c.make_ready.ensures.board
    ∙ stepped c.args.p a (Some c.in-Some.first.0) (carried_on c.args.p now) (board_of c.args.self.now) now c.count_step.ensures.steps due refl

pub returns-in-Some-carried-clause-board : goal.returns-in-Some-carried-clause-board
returns-in-Some-carried-clause-board c =
    let a = c.args.a in
    let now = board_of c.count_step.new.self in
    let due = no-number (slice_get (list_in now.work (space_of a) (list_of a)) 0) (sym c.in_default.is ∙ c.first_due.ensures.first) in
    c.run.ensures.board
    ∙ stepped c.args.p a None (Some c.in-Some-carried.t) (board_of c.args.self.now) now c.count_step.ensures.steps due
    (sym c.carried.ensures ∙ c.in-Some-carried.is)

pub returns-in-None-clause-board : goal.returns-in-None-clause-board
returns-in-None-clause-board c =
    let a = c.args.a in
    let now = board_of c.count_step.new.self in
    let due = no-number (slice_get (list_in now.work (space_of a) (list_of a)) 0) (sym c.in_default.is ∙ c.first_due.ensures.first) in
    c.look.ensures.board
    ∙ stepped c.args.p a None None (board_of c.args.self.now) now c.count_step.ensures.steps due (sym c.carried.ensures ∙ c.in-None.is)
