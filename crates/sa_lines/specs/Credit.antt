-- Accounts, what is credited to them, and the number that hands a credit over.
use Rattle.std.specs.Prelude.{◌≡◌, ℕ, ◌+◌, ◌-◌, ◌==◌, ◌<◌, ◌≤◌, ◌⊎◌, nat_lt, if◌then◌else◌, Some, None}
use Rattle.sa_base.specs.declared.limits.TheConstants.{MAX_EVENTS}
use Rattle.sa_base.specs.declared.record.End.{End}
use Rattle.sa_base.specs.declared.record.End.TheVariants.{AllDone, Stuck, Budget}
use Rattle.sa_lines.specs.declared.credit.Account.{Account}
use Rattle.sa_lines.specs.declared.credit.Credit.{Credit}
use Rattle.sa_lines.specs.declared.credit.Credit.TheVariants.{Turns, End as Ended}

-- an account to which nothing was credited
abbrev pub fresh_account : Account
fresh_account = record { count = 0; end = None }

-- the account with a credit applied: turns are counted, an end is kept
abbrev pub credited : Credit → Account → Account
credited (Turns n) a = record a { count = a.count + n }
credited (Ended x) a = record a { end = Some x }

-- at least one turn and at most 1,000,000 in all, or an end where the account has none or the same
-- one
abbrev pub MayCredit : Account → Credit → Type 0
MayCredit a (Turns n) = (0 < n) × (a.count + n ≤ MAX_EVENTS)
MayCredit a (Ended x) = (a.end ≡ None) ⊎ (a.end ≡ Some x)

-- the number that hands a credit over: that of the turns, or one of three above all of these
abbrev pub number_of : Credit → ℕ
number_of (Turns n) = n
number_of (Ended AllDone) = MAX_EVENTS + 1
number_of (Ended Stuck) = MAX_EVENTS + 2
number_of (Ended Budget) = MAX_EVENTS + 3

-- the end of one of those three, counted from 1
abbrev pub end_of : ℕ → End
end_of k = if k == 1 then AllDone else (if k == 2 then Stuck else Budget)

-- the credit that a number hands over
abbrev pub credit_of : ℕ → Credit
credit_of n = if nat_lt MAX_EVENTS n then Ended (end_of (n - MAX_EVENTS)) else Turns n

-- the account with a number applied
abbrev pub applied : ℕ → Account → Account
applied n a = credited (credit_of n) a
