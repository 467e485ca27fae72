use Rattle.std.proofs.Common.{refl}
use Rattle.sa_vp.proofs.OpenedBoard.{opened-board}
use Rattle.sa_vp.proofs.board.Parts.start.Goals as goal

pub returns : goal.returns
returns c =
    let rows = c.in_ok-tables.field-0.rows in
    let tables = c.in_ok-tables.field-0.tables in
    let lists = c.in_ok-tables.ensures.rows in
    let made = c.in_ok-tables.ensures.tables in
    opened-board (record {
      replay = c.in_ok-replay.replay;
      devices = c.in_ok-devices.devices;
      queue = rows.queue;
      placed = tables.placed;
      threads = tables.threads;
      steps = tables.steps;
      ready = rows.ready;
      work = rows.work;
      due = 0;
      blocked = tables.blocked;
      lost = tables.lost;
      trace = c.new-2.result;
      number = 1;
    }) c.args.w.now c.in_ok-replay.ensures c.in_ok-devices.ensures lists.queue made.placed made.threads made.steps lists.ready lists.work refl
    made.blocked made.lost c.new-2.ensures.items refl
