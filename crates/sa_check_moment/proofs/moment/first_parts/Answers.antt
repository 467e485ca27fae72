use Rattle.std.proofs.Common.{refl, ap, None, length}
use Rattle.sa_laws.specs.State.{opening_state}
use Rattle.sa_check_lives.specs.View.{no_lives}
use Rattle.sa_check_ios.specs.PendingView as pending
use Rattle.sa_check_ios.specs.Ready.{first_ready}
use Rattle.sa_replay.specs.Replayed.{Replayed}
use Rattle.sa_check_moment.specs.Board.{no_board}
use Rattle.sa_check_moment.specs.declared.moment.Parts.{Parts}
use Rattle.sa_check_moment.specs.KeptFields.{kept_in}
use Rattle.sa_check_moment.proofs.JoinLemmas.{seen-as}
use Rattle.sa_check_moment.proofs.moment.first_parts.Goals as goal

pub returns : goal.returns
returns c =
    let w = c.args.workload.now in
    let states = c.in_ok-replay in
    let lists = c.in_ok-ready in
    let fields : Parts = record {
      replay = states.replay;
      lives = states.lives;
      pending = states.pending;
      ready = lists.ready;
      board = lists.board;
      level = lists.level;
      number = 0;
      last = None;
      moved = None;
    } in
    record {
      seen = seen-as (kept_in fields) c.args.rules w 0 (opening_state w) (no_board w.processors (length w.spaces))
          (no_lives w.processors (length w.spaces)) (pending.opened w) (first_ready (length w.spaces)) None None lists.ensures.rules
          (ap (λ (r : Replayed). r.workload) states.ensures.replay) refl (ap (λ (r : Replayed). r.state) states.ensures.replay)
          lists.ensures.board states.ensures.lives states.ensures.pending lists.ensures.ready refl refl;
      kept = lists.ensures.kept;
    }
