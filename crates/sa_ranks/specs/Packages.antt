-- The rules of each package, by its name: a clause can speak of all of these, as it cannot of all user levels' rules.
use Rattle.sa_base.specs.declared.package.PackageName.{PackageName}
use Rattle.sa_base.specs.declared.package.PackageName.TheVariants.{FastThreads, Priorities}
use Rattle.sa_base.specs.declared.package.RulesName.{RulesName}
use Rattle.sa_base.specs.declared.package.RulesName.TheVariants as rules
use Rattle.sa_laws.specs.Rules.{UserRules, fast_threads}
use Rattle.sa_laws.specs.Any.{any}
use Rattle.sa_ranks.specs.Rules.{prio_threads}

abbrev pub rules_of : PackageName → UserRules
rules_of FastThreads = fast_threads
rules_of Priorities = prio_threads

-- the rules by which a trace can be judged: those of a package, or of any user level
abbrev pub rules_named : RulesName → UserRules
rules_named rules.FastThreads = fast_threads
rules_named rules.Priorities = prio_threads
rules_named rules.Any = any
