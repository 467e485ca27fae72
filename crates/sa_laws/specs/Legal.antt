-- Legal runs: how a flat trace is judged.
use Rattle.std.specs.Prelude.{◌≡◌, ◌≢◌, ℕ, ◌+◌, ◌-◌, ◌<◌, ◌==◌, if◌then◌else◌, List, [], ◌∷◌, length, Option, Some, None, slice_get}
use Rattle.sa_base.specs.declared.record.End.{End}
use Rattle.sa_base.specs.declared.record.Item.{Item}
use Rattle.sa_spaces.specs.Workload.{WorkloadView}
use Rattle.sa_laws.specs.declared.rule.Rule.{Rule}
use Rattle.sa_laws.specs.declared.rule.Rule.TheVariants.{Numbered}
use Rattle.sa_laws.specs.Event.{Event, events_of}
use Rattle.sa_laws.specs.Readings.{Readings}
use Rattle.sa_laws.specs.History.{readings, read_before}
use Rattle.sa_laws.specs.Turns.{IsStrict}
use Rattle.sa_laws.specs.Ends.{LastLine, EndsWith}
use Rattle.sa_laws.specs.Rules.{UserRules, HoldEach, IsLawful, Breaks, rules}

-- what is read before the event at a place, by a user level's rules
abbrev pub before : UserRules → WorkloadView → List Event → ℕ → Readings
before u w events n = read_before u.inside w events n

-- all laws hold at each event of a history, and there is an event
pub record IsLegalHistory (u : UserRules) (w : WorkloadView) (events : List Event) : Type 0 where
  pub some : events ≢ []
  pub each : (n : ℕ) (e : Event) → slice_get events n ≡ Some e → IsLawful u w (before u w events n) e

-- A flat trace is a legal run of a workload.
abbrev pub IsLegal : UserRules → WorkloadView → List Item → Type 0
IsLegal u w items = IsLegalHistory u w (events_of items)

-- A flat trace is strict: no local instruction comes while an I/O is due.
pub record IsStrictRun (u : UserRules) (w : WorkloadView) (items : List Item) : Type 0 where
  pub each : (n : ℕ) (e : Event) → slice_get (events_of items) n ≡ Some e → IsStrict (before u w (events_of items) n) e

-- The end of a run with a budget, after its last event; the opening is event 0.
abbrev pub EndOf : UserRules → WorkloadView → ℕ → List Item → Option End → Type 0
EndOf u w budget items end =
    EndsWith budget (readings u.inside w (events_of items)) (length (events_of items) - 1) end

-- the last line of a trace belongs to its last event
abbrev pub line_at : List Event → LastLine → ℕ → Option LastLine
line_at events line n = if n + 1 == length events then Some line else None

-- every rule holds at the events before n
abbrev pub HoldsBefore : UserRules → WorkloadView → List Event → LastLine → ℕ → Type 0
HoldsBefore u w events line n =
    (k : ℕ) (e : Event) → k < n → slice_get events k ≡ Some e
    → HoldEach u w rules (before u w events k) e (line_at events line k)

-- A trace with its last line is right: every rule holds at each of its events.
pub record IsRight (u : UserRules) (w : WorkloadView) (items : List Item) (line : LastLine) : Type 0 where
  pub some : events_of items ≢ []
  pub each : HoldsBefore u w (events_of items) line (length (events_of items))

-- The first break of a history: every rule holds at the events before the one at n, whose number is this, and at that
-- one this rule is the first that does not hold.
pub record BreaksAt (u : UserRules) (w : WorkloadView) (events : List Event) (line : LastLine) (number : ℕ) (rule : Rule) : Type 0 where
  pub place : ℕ
  pub event : Event
  pub at : slice_get events place ≡ Some event
  pub numbered : event.number ≡ number
  pub earlier : HoldsBefore u w events line place
  pub breaks : Breaks u w (before u w events place) event (line_at events line place) rule

-- The first break of a trace; a trace without an item breaks the law of the opening at event 0.
abbrev pub FirstBreakIn : UserRules → WorkloadView → List Event → LastLine → ℕ → Rule → Type 0
FirstBreakIn u w [] line number rule = (number ≡ 0) × (rule ≡ Numbered)
FirstBreakIn u w (e ∷ es) line number rule = BreaksAt u w (e ∷ es) line number rule

abbrev pub FirstBreak : UserRules → WorkloadView → List Item → LastLine → ℕ → Rule → Type 0
FirstBreak u w items line number rule = FirstBreakIn u w (events_of items) line number rule
