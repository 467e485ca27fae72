use Rattle.std.proofs.Common.{Option, None, true, false, sym, ap, ◌∙◌, arith}
use Rattle.std.specs.Option.{option_map}
use Rattle.sa_base.specs.declared.number.IoNo.{IoNo}
use Rattle.sa_devices.specs.Ios.{due_of, io_no}
use Rattle.sa_vp_model.specs.Turn.{acts}
use Rattle.sa_vp.specs.View.{board_of}
use Rattle.sa_vp.proofs.Cases.{none-due, one-placed}
use Rattle.sa_vp.proofs.board.Parts.act.Goals as goal

pub has_had_its_turn-requires-clause-inside : goal.has_had_its_turn-requires-clause-inside
has_had_its_turn-requires-clause-inside c =
    let can = c.requires.can.steps c.in-Some-placed_on.a (sym c.placed_on.ensures ∙ c.in-Some-placed_on.is) in
    omega (arith, can.virtual.small, c.requires.can.tabled.steps)

pub returns-in-Some-clause-board : goal.returns-in-Some-clause-board
returns-in-Some-clause-board c =
    c.complete.ensures.board ∙ ap (λ (o : Option IoNo). acts c.args.p o (board_of c.args.self.now)) (sym c.in-Some.is ∙ c.due.ensures.soonest)

pub returns-in_default-placed_on-clause-board : goal.returns-in_default-placed_on-clause-board
returns-in_default-placed_on-clause-board c =
    let m = c.args.self.now in
    c.place_first.ensures.board
    ∙ none-due c.args.p (option_map io_no (due_of m.number m.devices.ios.under_way)) None (board_of m) (sym c.due.ensures.soonest ∙ c.in_default.is)
    (sym c.placed_on.ensures ∙ c.in_default-placed_on.is)

pub returns-then-has_had_its_turn-clause-board : goal.returns-then-has_had_its_turn-clause-board
returns-then-has_had_its_turn-clause-board c =
    let m = c.args.self.now in
    c.relieve.ensures.board
    ∙ one-placed c.args.p (option_map io_no (due_of m.number m.devices.ios.under_way)) c.in-Some-placed_on.a true (board_of m)
    (sym c.due.ensures.soonest ∙ c.in_default.is) (sym c.placed_on.ensures ∙ c.in-Some-placed_on.is) (sym c.has_had_its_turn.ensures ∙ c.if-has_had_its_turn.true)

pub returns-else-has_had_its_turn-clause-board : goal.returns-else-has_had_its_turn-clause-board
returns-else-has_had_its_turn-clause-board c =
    let m = c.args.self.now in
    c.step.ensures.board
    ∙ one-placed c.args.p (option_map io_no (due_of m.number m.devices.ios.under_way)) c.in-Some-placed_on.a false (board_of m)
    (sym c.due.ensures.soonest ∙ c.in_default.is) (sym c.placed_on.ensures ∙ c.in-Some-placed_on.is) (sym c.has_had_its_turn.ensures ∙ c.if-has_had_its_turn.false)
