-- The order of turns that a word asks for.
use Rattle.std.specs.Prelude.{map}
use Rattle.sa_spaces.specs.Workload.{WorkloadView}
use Rattle.sa_sched.specs.Order.{Order, RoundRobin, Seed, Given, Hold}
use Rattle.sa_command.specs.declared.command.ScheduleWord.{ScheduleWord}
use Rattle.sa_command.specs.declared.command.ScheduleWord.TheVariants as word

-- the turn lines are those of the workload
abbrev pub order_by : ScheduleWord → WorkloadView → Order
order_by word.RoundRobin w = RoundRobin
order_by (word.Seed seed) w = Seed seed
order_by word.Given w = Given (map (λ p. p.0) w.turns)
order_by (word.Hold proc from) w = Hold proc.0 from
