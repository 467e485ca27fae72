-- What the end of an event changes in the lives.
use Rattle.std.specs.Prelude.{◌≡◌, Bool, true, false, not, ◌&&◌, ◌||◌, if◌then◌else◌, List, [], ◌∷◌, Option, Some, None}
use Rattle.std.specs.List.{list_any}
use Rattle.sa_base.specs.declared.number.ProcNo.{ProcNo}
use Rattle.sa_base.specs.declared.number.ActNo.{ActNo}
use Rattle.sa_base.specs.declared.record.Record.{Record}
use Rattle.sa_base.specs.declared.record.Record.TheVariants.{Ins, Block, Want, Idle}
use Rattle.sa_laws.specs.State.{thread_at}
use Rattle.sa_laws.specs.Life.{Life}
use Rattle.sa_laws.specs.Readings.{Readings, life_if, life_on}
use Rattle.sa_laws.specs.Event.{Event}
use Rattle.sa_laws.specs.Any.{has_heard_hand, is_tied, is_hint_due, begins_local}
use Rattle.sa_laws.specs.History.{is_inside, behind_all, is_step, is_up, is_free, is_running_or_blocked}
use Rattle.sa_check_lives.specs.declared.change.Scan.{Scan}
use Rattle.sa_check_lives.specs.declared.change.Scan.TheVariants.{More, Same, Over}
use Rattle.sa_check_lives.specs.declared.change.Stepped.{Stepped}
use Rattle.sa_check_lives.specs.Change.{stepped_by, arisen_by}
use Rattle.sa_check_lives.specs.View.{LivesView, changed, changed_on}
use Rattle.sa_ranks.specs.Pairs.{has_pair}
use Rattle.sa_base.specs.declared.package.RulesName.{RulesName}
use Rattle.sa_base.specs.declared.package.RulesName.TheVariants.{FastThreads, Priorities, Any}
use Rattle.sa_check_moment.specs.Seen.{Seen, event}
use Rattle.sa_check_moment.specs.Urged.{asks_last, IsUrged}

-- FastThreads' test looks neither at the moment before the event nor at the event
abbrev pub is_inside_at : Seen → Bool → Life → Bool
is_inside_at m settled life = is_inside m.workload m.readings (event 0 (record { 0 = 0 }) []) m.readings settled life

-- a pair of the life's space exists where pairs are asked for, after these records or before their last
abbrev pub owes_pair : Seen → List Record → Bool → Life → Bool
owes_pair m records urged life = if asks_last records then has_pair m.workload m.readings life.space else urged

-- these records begin with an idle record or a lowering hint, if it is known that a want that they begin with lowers the demand
abbrev pub idles_by : Bool → List Record → Bool
idles_by low (Idle ∷ others) = true
idles_by low (Want s n ∷ others) = low
idles_by low _ = false

-- the life is in by the test of any user level
abbrev pub is_in_any : Seen → Bool → Bool → List Record → Life → Bool
is_in_any m low true records life = has_heard_hand m.readings life || is_tied life || is_hint_due m.workload m.readings life
is_in_any m low false records life =
    if begins_local m.workload m.readings records then life.inside
    else (has_heard_hand m.readings life || (not (idles_by low records) && is_tied life))

-- the life is in, at the end of an own event with these records that settled it or did not: by FastThreads' test; or also by a pair;
-- or by the test of any user level
abbrev pub is_in_by : RulesName → Seen → Bool → Bool → List Record → Bool → Life → Bool
is_in_by FastThreads m low settled records urged life = is_inside_at m settled life
is_in_by Priorities m low settled records urged life = is_inside_at m settled life || (settled && owes_pair m records urged life)
is_in_by Any m low settled records urged life = is_in_any m low settled records life

abbrev pub is_in : Seen → Bool → Bool → List Record → Bool → Life → Bool
is_in m low settled records urged life = is_in_by m.rules m low settled records urged life

abbrev pub is_in_if : Seen → Bool → Bool → List Record → Bool → Option Life → Bool
is_in_if m low settled records urged None = false
is_in_if m low settled records urged (Some life) = is_in m low settled records urged life

-- the moment is that after the records of an event, before which this was read, and what is known of pairs is so
pub record IsOver (before : Readings) (e : Event) (urged : Bool) (m : Seen) : Type 0 where
  pub moment : m.readings ≡ behind_all m.workload e before
  pub pairs : IsUrged m.rules m.workload before e m.readings urged

-- a step settles its life, and what becomes of its scans, where its want lowers the demand or does not
abbrev pub settles_by : Bool → Readings → Record → Bool
settles_by low r (Ins s t i) = not (is_running_or_blocked (thread_at r.state s t).place)
settles_by low r Idle = false
settles_by low r (Want s n) = not low
settles_by low r (Block s t a io) = false
settles_by low r _ = true

abbrev pub scan_by : Bool → Record → Scan
scan_by low Idle = More
scan_by low (Want s n) = if low then Same else Over
scan_by low _ = Over

-- what a step makes of the life of this number, if the event is one
abbrev pub step_with : Seen → Bool → Option ActNo → Bool → List Record → Record → Stepped
step_with m low a urged records first = record {
  freed = is_free first;
  scan = scan_by low first;
  inside = is_in_if m low (settles_by low m.readings first) records urged (life_if m.readings a);
}

abbrev pub step_by : Seen → Bool → Option ActNo → Bool → List Record → Option Stepped
step_by m low a urged [] = None
step_by m low a urged (first ∷ others) =
    if is_step first then Some (step_with m low a urged (first ∷ others) first) else None

-- whether the life of an up is in, if the event has one
abbrev pub up_by : Seen → Bool → ProcNo → Bool → List Record → Option Bool
up_by m low p urged records = if list_any is_up records then Some (is_in_if m low true records urged (life_on m.readings p)) else None

abbrev pub stepped_if : Option Stepped → Option ActNo → LivesView → LivesView
stepped_if None a v = v
stepped_if (Some x) a v = changed (stepped_by x) a v

abbrev pub arisen_if : Option Bool → ProcNo → LivesView → LivesView
arisen_if None p v = v
arisen_if (Some inside) p v = changed_on (arisen_by inside) p v
