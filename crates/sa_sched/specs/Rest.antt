-- What a schedule holds of its order.
use Rattle.std.specs.Prelude.{ℕ, ◌≤◌, ◌<◌, List, map, drop, All, vec_len}
use Rattle.sa_base.specs.declared.number.ProcNo.{ProcNo}
use Rattle.sa_sched.specs.declared.TheConstants.{HOLD_EVENTS}
use Rattle.sa_sched.specs.declared.schedule.Order.{Order}
use Rattle.sa_sched.specs.declared.schedule.Order.TheVariants as order
use Rattle.sa_sched.specs.Turns.{Rest, NoRest, Words, Procs, Holding}

-- the processors of a given list from a place on
abbrev pub procs_from : List ProcNo → ℕ → List ℕ
procs_from procs next = drop next (map (λ p. p.0) procs)

abbrev pub rest_of : Order → Rest
rest_of order.RoundRobin = NoRest
rest_of (order.Seed rng) = Words rng.increment rng.state
rest_of (order.Given procs next) = Procs (procs_from procs.items next)
rest_of (order.Hold proc before over) = Holding proc.0 before over

-- a place in a given list is in it or at its end, and its processors are among that many; a hold has its end
abbrev pub IsOrder : ℕ → Order → Type 0
IsOrder processors order.RoundRobin = Unit {0}
IsOrder processors (order.Seed rng) = Unit {0}
IsOrder processors (order.Given procs next) = (next ≤ vec_len procs) × All (λ p. p.0 < processors) procs.items
IsOrder processors (order.Hold proc before over) = over ≤ HOLD_EVENTS
