-- What is lawful at an event, and what its end leaves.
use Rattle.std.proofs.Common.{◌≡◌, ℕ, ◌∙◌, ap, refl, Bool, true, false, Option, Some, List, [], ◌∷◌, ◌++◌}
use Rattle.std.specs.List.{list_all, list_any}
use Rattle.std.specs.Prelude.{if◌then◌else◌}
use Rattle.std.proofs.lemmas.Bool.{and_parts}
use Rattle.sa_base.specs.declared.number.ProcNo.{ProcNo}
use Rattle.sa_base.specs.declared.number.ActNo.{ActNo}
use Rattle.sa_base.specs.declared.record.Record.{Record}
use Rattle.sa_base.specs.declared.record.Record.TheVariants.{Want, Aim, Line}
use Rattle.sa_spaces.specs.Workload.{WorkloadView}
use Rattle.sa_laws.specs.Event.{Event}
use Rattle.sa_laws.specs.Life.{Life}
use Rattle.sa_laws.specs.Readings.{Readings, running_of}
use Rattle.sa_laws.specs.Record.{after_record, with_life}
use Rattle.sa_laws.specs.History.{Test, after_records, ended, with_step, with_up, stepped, arisen, is_step, is_up}
use Rattle.sa_laws.specs.Opening.{IsNumbered}
use Rattle.sa_laws.specs.Step.{AreSteps, IsStepwise}
use Rattle.sa_laws.specs.Shape.{is_of_closing}
use Rattle.sa_laws.specs.Turns.{TurnsAreTaken}
use Rattle.sa_laws.specs.Upcalls.{FirstLineIsAsked}
use Rattle.sa_laws.specs.Rules.{UserRules, IsLawful}
use Rattle.sa_laws.proofs.Closings.{AreClosing}
use Rattle.sa_histories.proofs.Appended.{steps-append}
use Rattle.sa_kernel_laws.specs.Laws.{AllHold}
use Rattle.sa_user_laws.specs.Steps.{begins_step, RulesPass}
use Rattle.sa_legal_runs.proofs.frames.Moments.{StaysPut}

-- The laws of the kernel and those of the user level are all laws at an event.
pub event-lawful : (rules : UserRules) (w : WorkloadView) (r : Readings) (ev : Event) → AllHold rules.inside w r ev
    → IsNumbered w r ev → IsStepwise w r ev → FirstLineIsAsked rules.Lines w r ev.proc ev.records
    → TurnsAreTaken rules.Steps w r ev → RulesPass rules w r ev → IsLawful rules w r ev
event-lawful rules w r ev h numbered steps first turns pass = record {
  numbered = numbered;
  stepwise = steps;
  told_once = h.told_once;
  told_in_time = h.told_in_time;
  where_owned = h.where_owned;
  all_told = h.all_told;
  upcall_given = h.upcall_given;
  interrupt_next = h.interrupt_next;
  line_cause = record { heard = h.line_cause.heard; first = first; order = h.line_cause.order; due = h.line_cause.due };
  want_cause = h.want_cause;
  shares_covered = h.shares_covered;
  demand_announced = pass.demand;
  turns_taken = turns;
  locks_kept = pass.locks;
  order_kept = pass.order;
}

-- A closing's records need nothing of the abstract machine.
closing-steps : (w : WorkloadView) (e : ℕ) (p : ProcNo) (r : Readings) (cl : List Record) → AreClosing cl → AreSteps w e p r cl
closing-steps w e p r [] closes = tt
closing-steps w e p r (Want s n ∷ cl) closes = (tt, closing-steps w e p (after_record w e p r (Want s n)) cl closes)
closing-steps w e p r (Aim q (Some s) ∷ cl) closes = (tt, closing-steps w e p (after_record w e p r (Aim q (Some s))) cl closes)
closing-steps w e p r (Line q ∷ cl) closes = (tt, closing-steps w e p (after_record w e p r (Line q)) cl closes)
closing-steps w e p r (x ∷ cl) closes = absurd (let z = (and_parts (is_of_closing x) (list_all is_of_closing cl) closes).0 in cc)

pub own-steps : (w : WorkloadView) (e : ℕ) (p : ProcNo) (r : Readings) (own cl : List Record) → AreSteps w e p r own
    → AreClosing cl → AreSteps w e p r (own ++ cl)
own-steps w e p r own cl steps closes = steps-append w e p r own cl steps (closing-steps w e p (after_records w e p r own) cl closes)

-- An event that does not begin with a step ends no life's own event.
pub no-step : (test : Test) (w : WorkloadView) (before : Readings) (e : Event) (after : Readings) (records : List Record)
    (lives : ℕ → Option Life) → begins_step records ≡ false
    → with_step test w before e after records lives ≡ lives
no-step test w before e after [] lives none = refl
no-step test w before e after (x ∷ xs) lives none =
    ap (λ (b : Bool). if b then with_life (stepped test w before e after x) (running_of before e.proc) lives else lives) none

pub some-step : (test : Test) (w : WorkloadView) (before : Readings) (e : Event) (after : Readings) (x : Record)
    (xs : List Record) (lives : ℕ → Option Life) → is_step x ≡ true
    → with_step test w before e after (x ∷ xs) lives ≡ with_life (stepped test w before e after x) (running_of before e.proc) lives
some-step test w before e after x xs lives is =
    ap (λ (b : Bool). if b then with_life (stepped test w before e after x) (running_of before e.proc) lives else lives) is

no-up : (test : Test) (w : WorkloadView) (before : Readings) (e : Event) (after : Readings) (lives : ℕ → Option Life)
    → list_any is_up e.records ≡ false → with_up test w before e after lives ≡ lives
no-up test w before e after lives none =
    ap (λ (b : Bool). if b then with_life (arisen test w before e after) (running_of after e.proc) lives else lives) none

some-up : (test : Test) (w : WorkloadView) (before : Readings) (e : Event) (after : Readings) (lives : ℕ → Option Life)
    → list_any is_up e.records ≡ true
    → with_up test w before e after lives ≡ with_life (arisen test w before e after) (running_of after e.proc) lives
some-up test w before e after lives is =
    ap (λ (b : Bool). if b then with_life (arisen test w before e after) (running_of after e.proc) lives else lives) is

-- An event without an up changes the life of its step alone.
pub ended-step : (test : Test) (w : WorkloadView) (before : Readings) (e : Event) (after : Readings) → list_any is_up e.records ≡ false
    → (ended test w before e after).lives ≡ with_step test w before e after e.records after.lives
ended-step test w before e after none = no-up test w before e after (with_step test w before e after e.records after.lives) none

pub ended-stays : (test : Test) (w : WorkloadView) (before : Readings) (e : Event) (after : Readings)
    → begins_step e.records ≡ false → list_any is_up e.records ≡ false
    → StaysPut after (ended test w before e after)
ended-stays test w before e after step up = record {
  spaces = refl;
  lives = ended-step test w before e after up ∙ no-step test w before e after e.records after.lives step;
  running = refl;
  taken = refl;
  untold = refl;
  ready = refl;
  lines = λ p raised. raised;
}

-- An event with both changes the one and then the other.
pub ended-both : (test : Test) (w : WorkloadView) (before : Readings) (e : Event) (after : Readings) (n : ActNo)
    → list_any is_up e.records ≡ true → running_of after e.proc ≡ Some n
    → (ended test w before e after).lives ≡ with_life (arisen test w before e after) (Some n)
    (with_step test w before e after e.records after.lives)
ended-both test w before e after n up runs =
    some-up test w before e after (with_step test w before e after e.records after.lives) up
    ∙ ap (λ (o : Option ActNo). with_life (arisen test w before e after) o (with_step test w before e after e.records after.lives)) runs

-- A closing has no up.
pub closing-no_up : (cl : List Record) → AreClosing cl → list_any is_up cl ≡ false
closing-no_up [] closes = refl
closing-no_up (Want s n ∷ cl) closes = closing-no_up cl closes
closing-no_up (Aim q (Some s) ∷ cl) closes = closing-no_up cl closes
closing-no_up (Line q ∷ cl) closes = closing-no_up cl closes
closing-no_up (x ∷ cl) closes = absurd (let z = (and_parts (is_of_closing x) (list_all is_of_closing cl) closes).0 in cc)
