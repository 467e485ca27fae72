-- The items of a lawful history are records that the abstract machine can do, one after another.
use Rattle.std.proofs.Common.{◌≡◌, ℕ, List, [], ◌∷◌, ◌++◌, refl, sym, ap, ◌∙◌, subst}
use Rattle.sa_base.specs.declared.number.ProcNo.{ProcNo}
use Rattle.sa_base.specs.declared.record.Record.{Record}
use Rattle.sa_base.specs.declared.record.Item.{Item}
use Rattle.sa_base.specs.Items.{items_at}
use Rattle.sa_spaces.specs.Workload.{WorkloadView}
use Rattle.sa_laws.specs.Event.{Event, items_of}
use Rattle.sa_laws.specs.State.{State}
use Rattle.sa_laws.specs.Machine.{changed}
use Rattle.sa_laws.specs.Step.{AreSteps}
use Rattle.sa_laws.specs.Readings.{Readings}
use Rattle.sa_laws.specs.Record.{after_record}
use Rattle.sa_laws.specs.History.{Test, event_begun, after_records, after_event, after_events}
use Rattle.sa_laws.specs.Rules.{UserRules}
use Rattle.sa_histories.specs.Lawful.{AreLawful}
use Rattle.sa_replay.proofs.NeedLemmas.{can-change}
use Rattle.sa_debug.specs.Reached.{CanPlay}
use Rattle.sa_debug.specs.Views.{state_behind}

-- the state behind the records of an event, and behind events, is the one that is read
records-state : (w : WorkloadView) (e : ℕ) (p : ProcNo) (r : Readings) (xs : List Record)
    → (after_records w e p r xs).state ≡ state_behind w r.state (items_at e p xs)
records-state w e p r [] = refl
records-state w e p r (x ∷ xs) = records-state w e p (after_record w e p r x) xs

state-append : (w : WorkloadView) (a : State) (xs ys : List Item) → state_behind w a (xs ++ ys) ≡ state_behind w (state_behind w a xs) ys
state-append w a [] ys = refl
state-append w a (x ∷ xs) ys = state-append w (changed w x.proc a x.what) xs ys

pub events-state : (test : Test) (w : WorkloadView) (r : Readings) (es : List Event) → (after_events test w r es).state ≡ state_behind w r.state (items_of es)
events-state test w r [] = refl
events-state test w r (e ∷ es) =
    events-state test w (after_event test w r e) es
    ∙ ap (λ a. state_behind w a (items_of es)) (records-state w e.number e.proc (event_begun w e r) e.records)
    ∙ sym (state-append w r.state (items_at e.number e.proc e.records) (items_of es))

-- the records of an event can be played, and so can those of lawful events
records-play : (w : WorkloadView) (e : ℕ) (p : ProcNo) (r : Readings) (xs : List Record) → AreSteps w e p r xs → CanPlay w r.state (items_at e p xs)
records-play w e p r [] steps = tt
records-play w e p r (x ∷ xs) steps = (can-change w p r x steps.0, records-play w e p (after_record w e p r x) xs steps.1)

play-append : (w : WorkloadView) (a : State) (xs ys : List Item) → CanPlay w a xs → CanPlay w (state_behind w a xs) ys → CanPlay w a (xs ++ ys)
play-append w a [] ys one other = other
play-append w a (x ∷ xs) ys one other = (one.0, play-append w (changed w x.proc a x.what) xs ys one.1 other)

pub events-play : (u : UserRules) (w : WorkloadView) (r : Readings) (es : List Event) → AreLawful u w r es → CanPlay w r.state (items_of es)
events-play u w r [] law = tt
events-play u w r (e ∷ es) law =
    play-append w r.state (items_at e.number e.proc e.records) (items_of es)
    (records-play w e.number e.proc (event_begun w e r) e.records law.0.stepwise.steps)
    (subst (λ a. CanPlay w a (items_of es)) (records-state w e.number e.proc (event_begun w e r) e.records)
    (events-play u w (after_event u.inside w r e) es law.1))
