-- Why a line of a text is refused.
use Rattle.std.specs.Prelude.{ℕ}
use Rattle.sa_base.specs.declared.refusal.Bad.{Bad}
use Rattle.sa_base.specs.declared.refusal.Cause.{Cause}
use Rattle.sa_base.specs.declared.refusal.Cause.TheVariants.{NotAscii, BadWord, BadNumber, OutOfRange, Twice, NoSuchName, BadTarget, TooMany, Missing}

-- the number of a cause
abbrev pub cause_number : Cause → ℕ
cause_number NotAscii = 1
cause_number BadWord = 2
cause_number BadNumber = 3
cause_number OutOfRange = 4
cause_number Twice = 5
cause_number NoSuchName = 6
cause_number BadTarget = 7
cause_number TooMany = 8
cause_number Missing = 9

-- a line is refused for a cause
abbrev pub bad_at : ℕ → Cause → Bad
bad_at line cause = record { line = line; why = cause_number cause }
