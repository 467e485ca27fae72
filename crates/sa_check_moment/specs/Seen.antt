-- What is read of a history of a workload at a moment, by whose rules it is judged, and what an event's end needs of the moment before the event.
use Rattle.std.specs.Prelude.{ℕ, Bool, false, nat_lt, List, [], ◌∷◌, Option}
use Rattle.sa_base.specs.declared.number.ProcNo.{ProcNo}
use Rattle.sa_base.specs.declared.number.SpaceNo.{SpaceNo}
use Rattle.sa_base.specs.declared.record.Record.{Record}
use Rattle.sa_base.specs.declared.record.Record.TheVariants.{Want}
use Rattle.sa_spaces.specs.Workload.{WorkloadView}
use Rattle.sa_laws.specs.Event.{Event}
use Rattle.sa_laws.specs.State.{State}
use Rattle.sa_laws.specs.Readings.{Readings, Listed, opening_readings, demand_of}
use Rattle.sa_laws.specs.Record.{after_record}
use Rattle.sa_laws.specs.History.{event_begun, ended}
use Rattle.sa_check_lives.specs.View.{LivesView, Stored, lives_of}
use Rattle.sa_check_ios.specs.PendingView.{PendingView}
use Rattle.sa_base.specs.declared.package.RulesName.{RulesName}
use Rattle.sa_ranks.specs.Packages.{rules_named}
use Rattle.sa_check_moment.specs.Board.{BoardView}

pub record Seen : Type 0 where
  pub rules : RulesName
  pub workload : WorkloadView
  pub readings : Readings

-- a moment as it is stored: the same, in which the lives in use are in a table
pub record Kept : Type 0 where
  pub rules : RulesName
  pub workload : WorkloadView
  pub number : ℕ
  pub state : State
  pub board : BoardView
  pub lives : Stored
  pub pending : PendingView
  pub ready : List (List Listed)
  pub last : Option Record
  pub moved : Option SpaceNo

-- the readings of these parts
abbrev pub joined : ℕ → State → BoardView → LivesView → PendingView → List (List Listed) → Option Record → Option SpaceNo → Readings
joined number state board lives pending ready last moved = record {
  number = number;
  state = state;
  aims = board.aims;
  lines = board.lines;
  marks = board.marks;
  running = lives.running;
  lives = lives.lives;
  taken = lives.taken;
  demands = board.demands;
  untold = lives.untold;
  io_count = pending.io_count;
  under_way = pending.under_way;
  pages = pending.pages;
  ready = ready;
  upped = lives.upped;
  last = last;
  moved = moved;
}

unfoldable pub seen : Kept → Seen
seen m = record {
  rules = m.rules;
  workload = m.workload;
  readings = joined m.number m.state m.board (lives_of m.lives) m.pending m.ready m.last m.moved;
}

-- before any record
abbrev pub opened : RulesName → WorkloadView → Seen
opened rules w = record { rules = rules; workload = w; readings = opening_readings w }

-- an event of this number and processor with these records
abbrev pub event : ℕ → ProcNo → List Record → Event
event number p records = record { number = number; proc = p; records = records }

-- at the beginning of an event, after one record of it, and at its end, where this was read before it
abbrev pub at_event : ℕ → ProcNo → Seen → Seen
at_event number p m = record m { readings = event_begun m.workload (event number p []) m.readings }

abbrev pub behind_record : ℕ → ProcNo → Record → Seen → Seen
behind_record number p what m = record m { readings = after_record m.workload number p m.readings what }

abbrev pub at_end : Readings → ℕ → ProcNo → List Record → Seen → Seen
at_end before number p records m =
    record m { readings = ended (rules_named m.rules).inside m.workload before (event number p records) m.readings }

-- the first record is a want of less than the space announced before
abbrev pub lowers : Readings → List Record → Bool
lowers r (Want s n ∷ records) = nat_lt n (demand_of r s)
lowers r _ = false
