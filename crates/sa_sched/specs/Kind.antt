-- The order that a `Kind` names.
use Rattle.std.specs.Prelude.{ℕ, ◌<◌, map, All}
use Rattle.sa_sched.specs.declared.kind.Kind.{Kind}
use Rattle.sa_sched.specs.declared.kind.Kind.TheVariants as kind
use Rattle.sa_sched.specs.Order.{Order, RoundRobin, Seed, Given, Hold}

abbrev pub order_of : Kind → Order
order_of kind.RoundRobin = RoundRobin
order_of (kind.Seed seed) = Seed seed
order_of (kind.Given procs) = Given (map (λ p. p.0) procs.items)
order_of (kind.Hold proc from) = Hold proc.0 from

-- the processors that are given are among that many
abbrev pub AreAmong : ℕ → Order → Type 0
AreAmong processors RoundRobin = Unit {0}
AreAmong processors (Seed seed) = Unit {0}
AreAmong processors (Given procs) = All (λ p. p < processors) procs
AreAmong processors (Hold held from) = Unit {0}
