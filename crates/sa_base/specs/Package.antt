-- The words of packages and of rules.
use Rattle.std.specs.Prelude.{ℕ, List, codes, Option, Some, None, if◌then◌else◌}
use Rattle.std.specs.Str.{bytes_eq}
use Rattle.sa_base.specs.declared.package.PackageName.{PackageName}
use Rattle.sa_base.specs.declared.package.PackageName.TheVariants.{FastThreads, Priorities}
use Rattle.sa_base.specs.declared.package.RulesName.{RulesName}
use Rattle.sa_base.specs.declared.package.RulesName.TheVariants as rules

-- the package that a word names: `fast` or `prio`
abbrev pub package_of : List ℕ → Option PackageName
package_of word =
    if bytes_eq word (codes "fast") then Some FastThreads else (if bytes_eq word (codes "prio") then Some Priorities else None)

-- the rules that a word names: those of a package, or `any`
abbrev pub rules_or_any : List ℕ → Option PackageName → Option RulesName
rules_or_any word (Some FastThreads) = Some rules.FastThreads
rules_or_any word (Some Priorities) = Some rules.Priorities
rules_or_any word None = if bytes_eq word (codes "any") then Some rules.Any else None

abbrev pub rules_word : List ℕ → Option RulesName
rules_word word = rules_or_any word (package_of word)
