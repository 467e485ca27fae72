-- What is written of cells along a history.
use Rattle.std.specs.Prelude.{◌≡◌, ◌⊎◌, ℕ, List, [], ◌∷◌, ◌++◌, codes, decimal, Option, Some, None}
use Rattle.sa_base.specs.declared.number.ActNo.{ActNo}
use Rattle.sa_laws.specs.Event.{Event}
use Rattle.sa_laws.specs.Step.{IsStepwise}
use Rattle.sa_check_moment.specs.Seen.{Seen, seen}
use Rattle.sa_check.specs.Judged.{after}
use Rattle.sa_cells.specs.Cells.{ups_in}
use Rattle.sa_cells.specs.Change.{change_lines}
use Rattle.sa_page.specs.declared.shown.Pair.{Pair}

-- the line that says that the page ends with an event, since one of its records is no step of the abstract machine
unfoldable pub stop_line : ℕ → List ℕ
stop_line event = decimal event ++ codes " page.end no step of the machine\n"

-- all ups up to an event, which comes after these, and what the event changes, if it is stepwise
abbrev pub ups_after : List ActNo → Event → List ActNo
ups_after ups e = ups ++ ups_in e.records

abbrev pub changes : Seen → List ActNo → Event → List ℕ
changes m ups e = change_lines e.number (ups_after ups e) m (after m e) e.records

-- of these events, from the moment before them on, before which these were all ups: what each changes, up to the first that is not
-- stepwise, at which the page ends
abbrev pub Shows : Seen → List ActNo → List Event → List ℕ → Type 0
Shows m ups [] text = text ≡ []
Shows m ups (e ∷ es) text =
    (IsStepwise m.workload m.readings e × ((rest : List ℕ) × Shows (after m e) (ups_after ups e) es rest × (text ≡ changes m ups e ++ rest)))
    ⊎ ((IsStepwise m.workload m.readings e → ⊥) × (text ≡ stop_line e.number))

-- the text is written behind another
pub record WritesShown (m : Seen) (ups : List ActNo) (events : List Event) (old new : List ℕ) : Type 0 where
  pub text : List ℕ
  pub shows : Shows m ups events text
  pub written : new ≡ old ++ text

-- one event: what it changes is written, or it is not stepwise
pub record WritesOne (m : Seen) (ups : List ActNo) (e : Event) (old new : List ℕ) (next : Seen) (later : List ActNo) : Type 0 where
  pub steps : IsStepwise m.workload m.readings e
  pub moment : next ≡ after m e
  pub all : later ≡ ups_after ups e
  pub written : new ≡ old ++ changes m ups e

abbrev pub ShowsOne : Seen → List ActNo → Event → List ℕ → List ℕ → Option Pair → Type 0
ShowsOne m ups e old new None = (IsStepwise m.workload m.readings e → ⊥) × (new ≡ old)
ShowsOne m ups e old new (Some pair) = WritesOne m ups e old new (seen pair.now.moment) pair.ups.items
