use Rattle.std.proofs.Common.{Some, None, sym, ap, ◌∙◌}
use Rattle.sa_laws.specs.State.{Thread, instr_of}
use Rattle.sa_vp.specs.View.{board_of}
use Rattle.sa_vp.proofs.Cases.{ran}
use Rattle.sa_vp.proofs.board.Parts.run.Goals as goal

pub returns-in-Some-clause-board : goal.returns-in-Some-clause-board
returns-in-Some-clause-board c =
    let m = c.args.self.now in
    let at = c.pc-pc.ensures ∙ ap (λ (x : Thread). x.pc) c.thread.ensures in
    c.fetch.ensures.board
    ∙ ran c.args.p c.args.a c.args.t c.instr_of-instr.result (Some c.in-Some.page) c.space_of-s.result (board_of m) c.space_of-s.ensures
    (c.instr_of-instr.ensures ∙ ap (instr_of m.replay.workload m.replay.state c.space_of-s.result c.args.t) at) (sym c.in-Some.is ∙ c.missed_page.ensures)

pub returns-in-None-clause-board : goal.returns-in-None-clause-board
returns-in-None-clause-board c =
    let m = c.args.self.now in
    let at = c.pc-pc.ensures ∙ ap (λ (x : Thread). x.pc) c.thread.ensures in
    c.go_on.ensures.board
    ∙ ran c.args.p c.args.a c.args.t c.instr_of-instr.result None c.space_of-s.result (board_of m) c.space_of-s.ensures
    (c.instr_of-instr.ensures ∙ ap (instr_of m.replay.workload m.replay.state c.space_of-s.result c.args.t) at) (sym c.in-None.is ∙ c.missed_page.ensures)
