-- Pairs, as a moment is asked for them.
use Rattle.std.specs.Prelude.{◌≡◌, ℕ, ◌==◌, nat_lt, Bool, true, false, ◌&&◌, ◌||◌, List, [], ◌∷◌, Option, Some, None}
use Rattle.sa_base.specs.declared.number.ProcNo.{ProcNo}
use Rattle.sa_base.specs.declared.record.Record.{Record}
use Rattle.sa_spaces.specs.Workload.{WorkloadView}
use Rattle.sa_laws.specs.Event.{Event}
use Rattle.sa_laws.specs.Life.{Life}
use Rattle.sa_laws.specs.Readings.{Readings, running_of, life_if}
use Rattle.sa_laws.specs.Shape.{closing_part}
use Rattle.sa_ranks.specs.Pairs.{has_pair}
use Rattle.sa_ranks.specs.Inside.{has_entry, settling}
use Rattle.sa_base.specs.declared.package.RulesName.{RulesName}
use Rattle.sa_base.specs.declared.package.RulesName.TheVariants.{FastThreads, Priorities, Any}

-- a thread on another processor is in a pair, and of a lower rank, or of the same on a lower processor
abbrev pub is_lower : Option ℕ → ProcNo → ProcNo → ℕ → Bool
is_lower None other q rank = false
is_lower (Some n) other q rank = nat_lt n rank || (n == rank && nat_lt other.0 q.0)

-- by rules of ranks: there is a life, and a pair of its space exists
abbrev pub urged_by : RulesName → WorkloadView → Readings → Option Life → Bool
urged_by FastThreads w r life = false
urged_by Any w r life = false
urged_by Priorities w r None = false
urged_by Priorities w r (Some life) = has_pair w r life.space

-- pairs are asked for after all records of an event, where an entry closes it, or nothing
abbrev pub is_closed : List Record → Bool
is_closed [] = true
is_closed (x ∷ xs) = false

abbrev pub asks_last : List Record → Bool
asks_last records = has_entry records || is_closed (closing_part records)

-- whether a pair existed is known of the life that ran before the event, where it is not asked after all records
pub record IsUrged (rules : RulesName) (w : WorkloadView) (before : Readings) (e : Event) (after : Readings) (urged : Bool) : Type 0 where
  pub known : rules ≡ Priorities → asks_last e.records ≡ false → (life : Life) → life_if after (running_of before e.proc) ≡ Some life
      → urged ≡ has_pair w (settling w before e after) life.space
