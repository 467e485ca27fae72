-- What is said of each session.
use Rattle.std.specs.Prelude.{◌≡◌, ℕ, Some}
use Rattle.sa_base.specs.declared.record.End.{End}
use Rattle.sa_spaces.specs.Workload.{WorkloadView, IsWorkload}
use Rattle.sa_sched.specs.Order.{Order}
use Rattle.sa_laws.specs.Any.{any}
use Rattle.sa_laws.specs.Legal.{EndOf}
use Rattle.sa_core_model.specs.End.{end_of}
use Rattle.sa_driven_model.specs.Step.{driven_calls}
use Rattle.sa_package_runs.specs.Whole.{IsTurnByTurn, IsEnded}
use Rattle.sa_session.specs.Moments.{Moment, Reaches}

-- as far as it came
abbrev pub SessionsAreLegal : Type 0
SessionsAreLegal =
    (w : WorkloadView) (order : Order) (budget events : ℕ) (x : Moment) → IsWorkload w → Reaches w order budget events x
    → IsTurnByTurn any w order x.machine.items events

-- its end is as it is defined, if it has one
abbrev pub SessionsEndAsDefined : Type 0
SessionsEndAsDefined =
    (w : WorkloadView) (order : Order) (budget events : ℕ) (x : Moment) → IsWorkload w → Reaches w order budget events x
    → EndOf any w budget x.machine.items (end_of driven_calls budget x.machine)

-- and with a last line that says it, it breaks no rule
abbrev pub WholeSessionsAreRight : Type 0
WholeSessionsAreRight =
    (w : WorkloadView) (order : Order) (budget events : ℕ) (x : Moment) (end : End) → IsWorkload w → Reaches w order budget events x
    → end_of driven_calls budget x.machine ≡ Some end
    → IsEnded any w budget x.machine.items end events

-- and its machine counts its events
abbrev pub EventsAreCounted : Type 0
EventsAreCounted =
    (w : WorkloadView) (order : Order) (budget events : ℕ) (x : Moment) → IsWorkload w → Reaches w order budget events x
    → x.machine.event ≡ events
