use Rattle.std.proofs.Common.{sym, ap, ◌∙◌}
use Rattle.sa_base.specs.declared.number.SpaceNo.{SpaceNo}
use Rattle.sa_replay.specs.Counts.{is_ready, count_in}
use Rattle.sa_laws.specs.State.{space_at}
use Rattle.sa_vp.specs.View.{board_of}
use Rattle.sa_vp.proofs.Waits.{none_sought}
use Rattle.sa_vp.proofs.board.Parts.seek.Goals as goal

pub returns-then-ready_threads-eq0-clause-found : goal.returns-then-ready_threads-eq0-clause-found
returns-then-ready_threads-eq0-clause-found c =
    let m = c.args.self.now in
    let none = ap (λ (s : SpaceNo). count_in is_ready (space_at m.replay.state s).threads) (sym c.space_of-s.ensures) ∙ sym c.ready_threads.ensures
    ∙ c.if-ready_threads-eq0.true in
    none_sought c.args.a (board_of m) c.requires.tabled c.requires.known c.requires.ready none
