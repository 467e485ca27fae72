-- What the records of a trace say themselves of processors and spaces, and what each of them changes there.
use Rattle.std.specs.Prelude.{ℕ, Bool, false, List, replicate, Option, None, slice_index, slice_index_or, slice_set}
use Rattle.sa_base.specs.declared.number.ProcNo.{ProcNo}
use Rattle.sa_base.specs.declared.number.SpaceNo.{SpaceNo}
use Rattle.sa_base.specs.declared.record.Record.{Record}
use Rattle.sa_base.specs.declared.record.Record.TheVariants.{Up, Want}
use Rattle.sa_laws.specs.Readings.{Readings}
use Rattle.sa_laws.specs.Record.{aims_after, demands_after, lines_after, mark_after}

-- of each processor: the space of its last aim record, the event that raised its line, its idle mark; and of each space
-- the number of its last want record
pub record BoardView : Type 0 where
  pub aims : List (Option SpaceNo)
  pub lines : List (Option ℕ)
  pub marks : List Bool
  pub demands : List ℕ

-- before any record
abbrev pub no_board : ℕ → ℕ → BoardView
no_board processors spaces = record {
  aims = replicate processors None;
  lines = replicate processors None;
  marks = replicate processors false;
  demands = replicate spaces 0;
}

-- a part of the readings of a history
abbrev pub board_of : Readings → BoardView
board_of r = record { aims = r.aims; lines = r.lines; marks = r.marks; demands = r.demands }

-- the line of a processor is low
abbrev pub lowered : ProcNo → BoardView → BoardView
lowered p b = record b { lines = slice_set b.lines p.0 None }

-- after a record of an event of a processor, which comes after another of the same event, or after none
abbrev pub marks_on : ProcNo → Option Record → BoardView → Record → List Bool
marks_on p last b (Up s a) = slice_set b.marks p.0 false
marks_on p last b (Want s n) =
    slice_set b.marks p.0 (mark_after last (slice_index b.demands s.0) n (slice_index_or b.marks p.0 false))
marks_on p last b _ = b.marks

abbrev pub noted : ℕ → ProcNo → Option Record → Record → BoardView → BoardView
noted e p last x b = record {
  aims = aims_after b.aims x;
  lines = lines_after e b.lines x;
  marks = marks_on p last b x;
  demands = demands_after b.demands x;
}
