-- The runs of each user level are legal by its rules.
use Rattle.std.proofs.Common.{ℕ, List, None, sym, subst}
use Rattle.sa_base.specs.declared.record.Item.{Item}
use Rattle.sa_spaces.specs.Workload.{WorkloadView, IsWorkload}
use Rattle.sa_abstract.specs.Calls.{Calls}
use Rattle.sa_sched.specs.Order.{Order}
use Rattle.sa_laws.specs.Legal.{EndOf}
use Rattle.sa_laws.specs.Rules.{UserRules}
use Rattle.sa_run.specs.Run.{RunsUnended}
use Rattle.sa_user_laws.specs.Level.{UserLevel}
use Rattle.sa_package_runs.proofs.Chains.{chain-ends}
use Rattle.sa_package_runs.proofs.Leading.{turns_by, turns-lead}
use Rattle.sa_fast_laws.proofs.FastLaws.{fast_level}
use Rattle.sa_prio_laws.proofs.PrioLaws.{prio_level}
use Rattle.sa_package_runs.specs.Whole.{RunsSoFarAreLegal, WholeRunsAreLegal}
use Rattle.sa_package_runs.proofs.Whole.{so-far-legal, whole-legal}
use Rattle.sa_base.specs.declared.package.PackageName.{PackageName}
use Rattle.sa_base.specs.declared.package.PackageName.TheVariants.{FastThreads, Priorities}
use Rattle.sa_cli.specs.Packages.{PackageRuns, fast_runs, runs_of}

-- a run of a user level's calls that came so far without an end has not ended as defined
abbrev pub UnendedAsDefined : {U C : Type 0} → Calls U C → UserRules → Type 0
UnendedAsDefined f u =
    (w : WorkloadView) (order : Order) (budget : ℕ) (items : List Item) → IsWorkload w → RunsUnended f w order budget items → EndOf u w budget items None

unended-so : {U C : Type 0} (level : UserLevel U C) → UnendedAsDefined level.calls level.rules
unended-so level w order budget items ok run =
    let moves = turns_by order w.processors run.so_far.events in
    let chain = turns-lead level.calls budget w order run.so_far.events run.so_far.machine run.so_far.turns in
    subst (λ (xs : List Item). EndOf level.rules w budget xs None) (sym run.so_far.shows)
    (subst (EndOf level.rules w budget run.so_far.machine.items) run.unended (chain-ends level w ok budget moves run.so_far.machine chain))

pub record AreKept (runs : PackageRuns) : Type 0 where
  pub came : RunsSoFarAreLegal runs.calls runs.rules
  pub unended : UnendedAsDefined runs.calls runs.rules
  pub ended : WholeRunsAreLegal runs.calls runs.rules

pub fast-kept : AreKept fast_runs
fast-kept = record { came = so-far-legal fast_level; unended = unended-so fast_level; ended = whole-legal fast_level }

pub kept-by : (word : PackageName) → AreKept (runs_of word)
kept-by FastThreads = fast-kept
kept-by Priorities = record { came = so-far-legal prio_level; unended = unended-so prio_level; ended = whole-legal prio_level }
