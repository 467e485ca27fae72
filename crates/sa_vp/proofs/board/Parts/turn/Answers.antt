use Rattle.std.proofs.Common.{◌<◌, ◌^◌, ap, sym, subst, ◌∙◌}
use Rattle.std.specs.Option.{option_map}
use Rattle.sa_devices.specs.DevicesView.{DevicesView}
use Rattle.sa_devices.specs.Ios.{due_of, io_no}
use Rattle.sa_vp_model.specs.Board.{Board}
use Rattle.sa_vp_model.specs.Turn.{acts, counted}
use Rattle.sa_vp.specs.View.{board_of}
use Rattle.sa_vp.proofs.board.Parts.turn.Goals as goal

pub count-requires-clause-number : goal.count-requires-clause-number
count-requires-clause-number c =
    let m = c.args.self.now in
    subst (λ (b : Board). b.number < 2 ^ 63) (sym (c.act.ensures.board
    ∙ ap (λ (d : DevicesView). acts c.args.p (option_map io_no (due_of m.number d.ios.under_way)) (board_of (record m { devices = d }))) c.evict.ensures))
    c.requires.few

pub returns-clause-board : goal.returns-clause-board
returns-clause-board c =
    let m = c.args.self.now in
    c.count.ensures.board
    ∙ ap counted (c.act.ensures.board
    ∙ ap (λ (d : DevicesView). acts c.args.p (option_map io_no (due_of m.number d.ios.under_way)) (board_of (record m { devices = d }))) c.evict.ensures)
