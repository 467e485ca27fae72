-- The user level that a run has in each space, and by which rules its runs are legal.
use Rattle.sa_abstract.specs.Calls.{Calls}
use Rattle.sa_laws.specs.Rules.{UserRules, fast_threads}
use Rattle.sa_ranks.specs.Rules.{prio_threads}
use Rattle.sa_package_model.specs.declared.package.Package.{Package}
use Rattle.sa_package_model.specs.declared.context.Context.{Context}
use Rattle.sa_package_model.specs.Step.{fast_calls}
use Rattle.sa_prio_model.specs.Prio.{Prio}
use Rattle.sa_prio_model.specs.declared.context.PrioContext.{PrioContext}
use Rattle.sa_prio_model.specs.Step.{prio_calls}
use Rattle.sa_base.specs.declared.package.PackageName.{PackageName}
use Rattle.sa_base.specs.declared.package.PackageName.TheVariants.{FastThreads, Priorities}

-- a user level by its calls, and its rules
pub record PackageRuns : Type 1 where
  pub Value : Type 0
  pub Held : Type 0
  pub calls : Calls Value Held
  pub rules : UserRules

-- FastThreads
abbrev pub fast_runs : PackageRuns
fast_runs = record { Value = Package; Held = Context; calls = fast_calls; rules = fast_threads }

-- FastThreads with thread priorities
abbrev pub prio_runs : PackageRuns
prio_runs = record { Value = Prio; Held = PrioContext; calls = prio_calls; rules = prio_threads }

-- the user level of a name
abbrev pub runs_of : PackageName → PackageRuns
runs_of FastThreads = fast_runs
runs_of Priorities = prio_runs
