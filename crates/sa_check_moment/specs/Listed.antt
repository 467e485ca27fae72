-- The lists of a moment have one entry for each processor, or for each space.
use Rattle.std.specs.Prelude.{◌≡◌, length}
use Rattle.sa_check_moment.specs.declared.moment.Moment.TheInside.{Inside}
use Rattle.sa_check_moment.specs.Level.{IsKeptFor}
use Rattle.sa_check_moment.specs.Seen.{Seen, seen}
use Rattle.sa_check_moment.specs.KeptFields.{kept_of}

pub record IsListed (m : Seen) : Type 0 where
  pub owners : length m.readings.state.owners ≡ m.workload.processors
  pub aims : length m.readings.aims ≡ m.workload.processors
  pub lines : length m.readings.lines ≡ m.workload.processors
  pub marks : length m.readings.marks ≡ m.workload.processors
  pub running : length m.readings.running ≡ m.workload.processors
  pub taken : length m.readings.taken ≡ length m.workload.spaces
  pub untold : length m.readings.untold ≡ length m.workload.spaces

-- what holds of every moment: that, and what is kept for the rules is what they need
pub record IsMoment (m : Inside) : Type 0 where
  pub listed : IsListed (seen (kept_of m))
  pub kept : IsKeptFor m.parts.value.level (kept_of m).state (kept_of m).ready
