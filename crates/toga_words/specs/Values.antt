-- The values of options. A number is spelled as in a workload text, in its range.
use Rattle.std.specs.Prelude.{ℕ, Option, Some, None, Result, Ok, Err}
use Rattle.std.specs.Option.{option_map}
use Rattle.sa_base.specs.declared.package.PackageName.{PackageName}
use Rattle.sa_base.specs.declared.package.PackageName.TheVariants.{FastThreads}
use Rattle.sa_base.specs.Package.{package_of}
use Rattle.sa_command.specs.Values.{number_within, schedule_of, give_of}
use Rattle.sa_command.specs.declared.command.ScheduleWord.{ScheduleWord}
use Rattle.sa_command.specs.declared.command.ScheduleWord.TheVariants.{Given}
use Rattle.sa_command.specs.declared.command.GiveWord.{GiveWord}
use Rattle.toga_words.specs.declared.refusal.Setting.{Setting}
use Rattle.toga_words.specs.declared.refusal.Setting.TheVariants as setting
use Rattle.toga_words.specs.Asked.{Bytes, Objection, value}

-- what a word of an option says, or that the option does not take it
abbrev pub taken : {X : Type 0} → Setting → Bytes → Option X → Result X Objection
taken which word None = Err (value which word)
taken which word (Some x) = Ok x

-- the number of an option, or the usual one
abbrev pub number_of : Setting → ℕ → ℕ → ℕ → Option Bytes → Result ℕ Objection
number_of which low high usual None = Ok usual
number_of which low high usual (Some word) = taken which word (number_within low high word)

-- the number of an option, where it is named
abbrev pub number_if : Setting → ℕ → ℕ → Option Bytes → Result (Option ℕ) Objection
number_if which low high None = Ok None
number_if which low high (Some word) = taken which word (option_map Some (number_within low high word))

abbrev pub package_by : Option Bytes → Result PackageName Objection
package_by None = Ok FastThreads
package_by (Some word) = taken setting.Package word (package_of word)

abbrev pub schedule_by : Option Bytes → Result ScheduleWord Objection
schedule_by None = Ok Given
schedule_by (Some word) = taken setting.Schedule word (schedule_of word)

abbrev pub give_by : Option Bytes → Result (Option GiveWord) Objection
give_by None = Ok None
give_by (Some word) = taken setting.Give word (option_map Some (give_of word))
