-- A moment's fields as a contract sees them.
use Rattle.sa_check_moment.specs.declared.moment.Moment.TheInside.{Inside}
use Rattle.sa_check_moment.specs.declared.moment.Parts.{Parts}
use Rattle.sa_check_moment.specs.Level.{rules_in}
use Rattle.sa_check_moment.specs.Seen.{Kept}

abbrev pub kept_in : Parts → Kept
kept_in m = record {
  rules = rules_in m.level;
  workload = m.replay.workload;
  number = m.number;
  state = m.replay.state;
  board = m.board;
  lives = m.lives;
  pending = m.pending;
  ready = m.ready;
  last = m.last;
  moved = m.moved;
}

abbrev pub kept_of : Inside → Kept
kept_of m = kept_in m.parts.value
