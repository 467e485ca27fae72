-- How the fields of a schedule show its value.
use Rattle.std.specs.Prelude.{◌≤◌, ◌<◌}
use Rattle.sa_base.specs.declared.limits.TheConstants.{MAX_PROCESSORS}
use Rattle.sa_sched.specs.declared.schedule.Schedule.TheInside.{Inside}
use Rattle.sa_sched.specs.Rest.{rest_of, IsOrder}
use Rattle.sa_sched.specs.Turns.{Turns}

abbrev pub turns_of : Inside → Turns
turns_of s = record { processors = s.processors; turn = s.turn; rest = rest_of s.order }

pub record IsSchedule (s : Inside) : Type 0 where
  pub turn : s.turn < s.processors
  pub processors : s.processors ≤ MAX_PROCESSORS
  pub order : IsOrder s.processors s.order
