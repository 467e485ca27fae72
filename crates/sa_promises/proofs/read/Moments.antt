-- Each reading at each moment of a legal run.
use Rattle.std.proofs.Common.{◌≡◌, ℕ, zero, suc, refl, sym, ◌∙◌, ap, subst, None, List, [], ◌∷◌, ◌++◌, take, append_assoc, append-nil}
use Rattle.std.specs.Prelude.{Contains}
use Rattle.std.proofs.lemmas.Option.{none-some}
use Rattle.sa_base.specs.declared.record.Record.{Record}
use Rattle.sa_base.specs.declared.record.Item.{Item}
use Rattle.sa_spaces.specs.Workload.{WorkloadView, IsWorkload}
use Rattle.sa_laws.specs.Event.{Event, items_of, events_of}
use Rattle.sa_laws.specs.Readings.{Readings, opening_readings}
use Rattle.sa_laws.specs.History.{Test, after_event, after_events}
use Rattle.sa_laws.specs.Rules.{UserRules}
use Rattle.sa_promises.specs.Needs.{HasForms}
use Rattle.sa_histories.specs.Lawful.{AreLawful}
use Rattle.sa_laws.specs.Legal.{IsLegal, before}
use Rattle.sa_histories.proofs.Traces.{legal-lawful}
use Rattle.sa_base.specs.declared.package.PackageName.{PackageName}
use Rattle.sa_promises.specs.Steps.{with_event}
use Rattle.sa_promises.specs.Reads.{AreRead, AreReadAtEvents, MachineIsRead, MarksAreRead, LinesAreRead, LoadsAreRead, HoldingsAreRead, ReadyAreRead, TakenAreRead, IosAreRead, PagesAreRead, StepsAreRead, CountsAreRead, step_of, OwnEventIsRead, LivesHaveSpaces}
use Rattle.sa_promises.proofs.read.Loads.{loads-same}
use Rattle.sa_promises.proofs.read.Events.{read-start}
use Rattle.sa_promises.proofs.read.OwnEvents.{stepper}
use Rattle.sa_promises.proofs.read.Inside.{settles-same}
use Rattle.sa_promises.proofs.read.Urged.{AsksMore, lines-start}
use Rattle.sa_promises.proofs.read.Ends.{IsSaidAt, event-at, said-next}

after-each : (rules : UserRules) → HasForms rules → (w : WorkloadView) (es : List Event) (r : Readings) (events : List Event)
    → IsSaidAt rules.inside w es r → AreLawful rules w r events → (n : ℕ)
    → IsSaidAt rules.inside w (es ++ take n events) (after_events rules.inside w r (take n events))
after-each rules meets w es r [] inv law zero = subst (λ xs. IsSaidAt rules.inside w xs r) (sym (append-nil es)) inv
after-each rules meets w es r [] inv law (suc n) = subst (λ xs. IsSaidAt rules.inside w xs r) (sym (append-nil es)) inv
after-each rules meets w es r (e ∷ events) inv law zero = subst (λ xs. IsSaidAt rules.inside w xs r) (sym (append-nil es)) inv
after-each rules meets w es r (e ∷ events) inv law (suc n) =
    subst (λ xs. IsSaidAt rules.inside w xs (after_events rules.inside w (after_event rules.inside w r e) (take n events))) (append_assoc es (e ∷ []) (take n events))
    (after-each rules meets w (es ++ e ∷ []) (after_event rules.inside w r e) events (said-next rules meets w es r e inv law.0) law.1 n)

pub after-start : (test : Test) (w : WorkloadView) → IsSaidAt test w [] (opening_readings w)
after-start test w = record {
  at = read-start w;
  owned = owned-start w.processors;
  lines = lines-start w;
  inside = λ which asks b life is. absurd (none-some life is);
  scans = λ b life is. absurd (none-some life is);
  freed = λ b life is. absurd (none-some life is);
  idle = λ which asks b life is. absurd (none-some life is);
} where
  owned-start : (n : ℕ)
      → Rattle.std.specs.Prelude.replicate n None ≡ Rattle.std.specs.Prelude.map (Rattle.sa_laws.specs.Readings.space_of_life (opening_readings w))
      (Rattle.std.specs.Prelude.replicate n None)
  owned-start zero = refl
  owned-start (suc n) = ap (λ os. None ∷ os) (owned-start n)

pub legal-after : (rules : UserRules) → HasForms rules → (w : WorkloadView) (items : List Item) → IsLegal rules w items
    → AreRead rules (IsSaidAt rules.inside w) w items
legal-after rules meets w items legal n = after-each rules meets w [] (opening_readings w) (events_of items) (after-start rules.inside w) (legal-lawful rules w items legal) n

-- the readings one by one
pub legal-machines : (rules : UserRules) → HasForms rules → (w : WorkloadView) (items : List Item) → IsLegal rules w items
    → AreRead rules (MachineIsRead w) w items
legal-machines rules meets w items legal n = let read = (legal-after rules meets w items legal n).at.read in record {
  state = read.state;
  running = read.running;
  upped = read.upped;
}

pub legal-marks : (rules : UserRules) → HasForms rules → (w : WorkloadView) (items : List Item) → IsLegal rules w items → AreRead rules (MarksAreRead w) w items
legal-marks rules meets w items legal n = (legal-after rules meets w items legal n).at.read.marks

pub legal-lines : (rules : UserRules) → HasForms rules → (w : WorkloadView) (items : List Item) → IsLegal rules w items → AreRead rules (LinesAreRead w) w items
legal-lines rules meets w items legal n p event within raised = (legal-after rules meets w items legal n).at.raised p event within raised

pub legal-loads : (rules : UserRules) → HasForms rules → (w : WorkloadView) (items : List Item) → IsLegal rules w items → AreRead rules (LoadsAreRead w) w items
legal-loads rules meets w items legal n = let read = (legal-after rules meets w items legal n).at.read in record {
  untold = read.untold;
  load = λ s within. loads-same w _ _ s read within;
}

pub legal-holdings : (rules : UserRules) → HasForms rules → (w : WorkloadView) (items : List Item) → IsLegal rules w items
    → AreRead rules (HoldingsAreRead w) w items
legal-holdings rules meets w items legal n a life is = let read = (legal-after rules meets w items legal n).at.read in record {
  home = sym (read.homes a.0 life is);
  locks = read.locks a.0 life is;
  hand = read.hands a.0 life is;
  cont = read.conts a.0 life is;
  thread = read.stopped a.0 life is;
}

pub legal-ready : (rules : UserRules) → HasForms rules → (w : WorkloadView) (items : List Item) → IsLegal rules w items → AreRead rules (ReadyAreRead w) w items
legal-ready rules meets w items legal n = (legal-after rules meets w items legal n).at.read.ready

pub legal-taken : (rules : UserRules) → HasForms rules → (w : WorkloadView) (items : List Item) → IsLegal rules w items → AreRead rules (TakenAreRead w) w items
legal-taken rules meets w items legal n = let after = legal-after rules meets w items legal n in record {
  order = after.at.read.taken;
  said =
      λ a home is taken. subst (λ acts. Contains acts a) (sym (after.at.read.taken home.space (after.at.range.homes a home is)))
      (after.at.read.all_taken a home is taken);
}

pub legal-ios : (rules : UserRules) → HasForms rules → (w : WorkloadView) (items : List Item) → IsLegal rules w items
    → AreRead rules (IosAreRead w) w items
legal-ios rules meets w items legal n = let read = (legal-after rules meets w items legal n).at.read in record { io_count = read.io_count; under_way = read.ios }

pub legal-pages : (rules : UserRules) → HasForms rules → (w : WorkloadView) (items : List Item) → IsWorkload w → IsLegal rules w items
    → AreRead rules (PagesAreRead w) w items
legal-pages rules meets w items ok legal n s page within few = (legal-after rules meets w items legal n).at.pages s page ok within few

pub legal-steps : (rules : UserRules) (which : PackageName) → HasForms rules → AsksMore which rules.inside → (w : WorkloadView) (items : List Item)
    → IsLegal rules w items → AreRead rules (StepsAreRead which w) w items
legal-steps rules which meets asks w items legal n a life is = let said = (legal-after rules meets w items legal n) in record {
  inside = said.inside which asks a.0 life is;
  scans = said.scans a.0 life is;
  freed = said.freed a.0 life is;
  idle = said.idle which asks a.0 life is;
}

pub legal-counts : (rules : UserRules) → HasForms rules → (w : WorkloadView) (items : List Item) → IsLegal rules w items → AreRead rules CountsAreRead w items
legal-counts rules meets w items legal n a life is = let said = (legal-after rules meets w items legal n) in record {
  scans = said.scans a.0 life is;
  freed = said.freed a.0 life is;
}

stepper-is : (r : Readings) (e : Event) (xs : List Record) → step_of r e xs ≡ stepper r e xs
stepper-is r e [] = refl
stepper-is r e (x ∷ xs) = refl

pub legal-own-events : (rules : UserRules) → HasForms rules → (w : WorkloadView) (items : List Item) → IsLegal rules w items
    → AreReadAtEvents rules (OwnEventIsRead w) w items
legal-own-events rules meets w items legal n e at =
    let past = items_of (take n (events_of items)) in
    let r = before rules w (events_of items) n in
    let said = (legal-after rules meets w items legal n) in
    let known = event-at rules meets w past r e said.at said.owned (legal.each n e at) in
    record {
      own = stepper-is r e e.records ∙ known.own;
      settles =
          λ first others is. settles-same w past (with_event past e) r (Rattle.sa_laws.specs.History.behind_all w e r) first known.after.state
          (known.wants first others is);
    }

pub legal-life-spaces : (rules : UserRules) → HasForms rules → (w : WorkloadView) (items : List Item) → IsLegal rules w items
    → AreRead rules (LivesHaveSpaces w) w items
legal-life-spaces rules meets w items legal n a life is =
    let after = legal-after rules meets w items legal n in
    after.at.range.homes a (record { space = life.space; proc = life.proc }) (sym (after.at.read.homes a.0 life is))
