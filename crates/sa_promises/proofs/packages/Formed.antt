-- Where its steps have forms and their first records are guarded, a user level meets what is needed of it.
use Rattle.std.proofs.Common.{◌≡◌, ℕ, ◌≤◌, inl, inr, refl, sym, ap, subst, Some, None, List, [], ◌∷◌, true, false}
use Rattle.std.specs.Prelude.{Option, Bool, ◌||◌}
use Rattle.std.specs.List.{list_any}
use Rattle.sa_base.specs.declared.number.ProcNo.{ProcNo}
use Rattle.sa_base.specs.declared.number.SpaceNo.{SpaceNo}
use Rattle.sa_base.specs.declared.number.ActNo.{ActNo}
use Rattle.sa_base.specs.declared.record.Record.{Record}
use Rattle.sa_base.specs.declared.record.Record.TheVariants.{Ins, Run, Block, Cont, Back, Ready, Take, Free, Want, Line, GiveBack, Idle, Spin}
use Rattle.sa_spaces.specs.Workload.{WorkloadView}
use Rattle.sa_devices.specs.Ios.{Io, due_of}
use Rattle.sa_laws.specs.Event.{Event}
use Rattle.sa_laws.specs.Life.{Life, Lock}
use Rattle.sa_laws.specs.Readings.{Readings, owner_of, running_of, life_on, taken_of}
use Rattle.sa_laws.specs.Record.{after_record}
use Rattle.sa_laws.specs.History.{event_begun}
use Rattle.sa_laws.specs.Shape.{own_part}
use Rattle.sa_laws.specs.Upcalls.{EachRecord}
use Rattle.sa_laws.specs.Rules.{UserRules, IsLawful}
use Rattle.sa_laws.specs.Locks.{WithFirst, StandsAlone}
use Rattle.sa_laws.specs.Turns.{Steps, IsTickOrStep, IsTurnWhileDue, IsTurn, is_of_locks}
use Rattle.sa_promises.specs.Needs.{TellsBehindUps, ListsApart, KeepsListsApart, KnowsHolders, FormedBy, FormedIn, IsFormed, OwnTakes, HasForms}
use Rattle.sa_promises.proofs.lives.Shapes.{AllFit, FirstOf, IsShaped, ins-fit, passage-fit, none-fit, given-fit}
use Rattle.sa_promises.proofs.lives.Moves.{event-shaped, told-each, guards-each}

-- the records of a step that has a form are in their places
formed-fit : (w : WorkloadView) (r : Readings) (p : ProcNo) (a : ActNo) (life : Life) (x : Record) (xs : List Record) → FormedBy w r p a life x xs
    → AllFit None (x ∷ xs)
formed-fit w r p a life (Ins s t i) xs is = (refl, ins-fit (Ins s t i) _ xs is)
formed-fit w r p a life (Block s t b io) xs is = (refl, passage-fit (Block s t b io) xs is)
formed-fit w r p a life (GiveBack b) xs is = subst (λ zs. AllFit None zs) (sym is) (given-fit None (taken_of r life.space))
formed-fit w r p a life (Want s n) xs is = (refl, none-fit (Want s n) xs is.0)
formed-fit w r p a life (Run s t) xs is = (refl, none-fit (Run s t) xs is)
formed-fit w r p a life (Cont s t) xs is = (refl, none-fit (Cont s t) xs is)
formed-fit w r p a life (Back s t) xs is = (refl, none-fit (Back s t) xs is)
formed-fit w r p a life (Ready s t) xs is = (refl, none-fit (Ready s t) xs is)
formed-fit w r p a life (Take s l t) xs is = (refl, none-fit (Take s l t) xs is)
formed-fit w r p a life (Free s l t) xs is = (refl, none-fit (Free s l t) xs is)
formed-fit w r p a life (Line q) xs is = (refl, none-fit (Line q) xs is)
formed-fit w r p a life Idle xs is = (refl, none-fit Idle xs is)
formed-fit w r p a life (Spin l) xs is = (refl, none-fit (Spin l) xs is)
formed-fit w r p a life x xs is = absurd (is)

formed-in : (w : WorkloadView) (r : Readings) (p : ProcNo) (a : Option ActNo) (life : Option Life) (xs : List Record) → FormedIn w r p a life xs
    → AllFit None xs
formed-in w r p (Some a) (Some life) (x ∷ xs) is = formed-fit w r p a life x xs is
formed-in w r p _ _ _ is = absurd is

-- A user level's steps have forms, and their first records are guarded.
abbrev pub StepsAreFormed : UserRules → Type 0
StepsAreFormed u =
    (w : WorkloadView) (r : Readings) (e : Event) → IsLawful u w r e → 1 ≤ e.number
    → u.Steps w (event_begun w e r) e.proc (own_part e.records)
    → IsFormed w (event_begun w e r) e.proc (own_part e.records) × FirstOf e.proc (event_begun w e r) (own_part e.records)

shaped : (u : UserRules) → StepsAreFormed u → (w : WorkloadView) (r : Readings) (e : Event) → IsLawful u w r e
    → IsShaped e.proc (event_begun w e r) e.records
shaped u forms w r e law = event-shaped u w r e
    (λ later is.
    let step = forms w r e law later is in
    (formed-in w (event_begun w e r) e.proc (running_of (event_begun w e r) e.proc) (life_on (event_begun w e r) e.proc) (own_part e.records) step.0, step.1))
    law

pub formed-tells : (u : UserRules) → StepsAreFormed u → TellsBehindUps u
formed-tells u forms = record {
  told = λ w r e law. told-each w e.number e.proc (event_begun w e r) e.records None refl (shaped u forms w r e law).0;
}

pub formed-apart : (u : UserRules) → StepsAreFormed u → KeepsListsApart u
formed-apart u forms = record {
  tells = formed-tells u forms;
  apart = λ w r e law.
      let is = shaped u forms w r e law in (guards-each w e.number e.proc (event_begun w e r) e.records None is.0 is.1).0;
}

pub formed-knows : (u : UserRules) → StepsAreFormed u → KnowsHolders u
formed-knows u forms = record {
  tells = formed-tells u forms;
  known = λ w r e law.
      let is = shaped u forms w r e law in (guards-each w e.number e.proc (event_begun w e r) e.records None is.0 is.1).1;
}

-- a turn whose steps have forms is one of such steps
turn-while : (S T : Steps) (w : WorkloadView) (r : Readings) (p : ProcNo) (o : Option Io) (xs : List Record) → (S w r p xs → T w r p xs)
    → IsTurnWhileDue S o w r p xs → IsTurnWhileDue T o w r p xs
turn-while S T w r p None xs gives is = owned (owner_of r p) is where
  owned : (k : Option SpaceNo) → IsTickOrStep S k w r p xs → IsTickOrStep T k w r p xs
  owned None tick = tick
  owned (Some s) step = gives step
turn-while S T w r p (Some io) xs gives (inl over) = inl over
turn-while S T w r p (Some io) xs gives (inr local) = inr (local.0, gives local.1)

turn-map : (S T : Steps) (w : WorkloadView) (r : Readings) (p : ProcNo) (e : ℕ) (raised : Bool) (xs : List Record) → (S w r p xs → T w r p xs)
    → IsTurn S raised e w r p xs → IsTurn T raised e w r p xs
turn-map S T w r p e true xs gives is = is
turn-map S T w r p e false xs gives is = turn-while S T w r p (due_of e r.under_way) xs gives is

-- where lists are kept apart, takes are of the life's space
own-each : (w : WorkloadView) (e : ℕ) (p : ProcNo) (r : Readings) (xs : List Record) → EachRecord (ListsApart p) w e p r xs
    → EachRecord (OwnTakes p) w e p r xs
own-each w e p r [] apart = tt
own-each w e p r (x ∷ xs) apart = (one x apart.0, own-each w e p (after_record w e p r x) xs apart.1) where
  one : (y : Record) → ListsApart p r y xs → OwnTakes p r y xs
  one (Take s l t) law = (law.0, law.1, law.2.space)
  one y law = tt

pub formed-has : (u : UserRules) → StepsAreFormed u → HasForms u
formed-has u forms = record {
  tells = formed-tells u forms;
  own = λ w r e law. own-each w e.number e.proc (event_begun w e r) e.records (let lists = formed-apart u forms in lists.apart w r e law);
  formed = λ w r e law. let turns = law.turns_taken in record {
    turn = λ later. turn-map u.Steps IsFormed w (event_begun w e r) e.proc e.number _ (own_part e.records)
        (λ step. (forms w r e law later step).0) (turns.turn later);
    closing = turns.closing;
  };
}

-- a record of the operations on ready lists is alone
pub stands-alone : (x : Record) (xs : List Record) → is_of_locks x ≡ true → StandsAlone (list_any is_of_locks (x ∷ xs)) xs → xs ≡ []
stands-alone x xs of stands = subst (λ b. StandsAlone b xs) (let any : list_any is_of_locks (x ∷ xs) ≡ true = ap (λ b. b || list_any is_of_locks xs) of in any) stands

-- what is so of a first lock
pub with-first : (o : Option Lock) (P Q : Lock → Type 0) → ((lock : Lock) → P lock → Q lock) → WithFirst o P → WithFirst o Q
with-first None P Q gives is = absurd is
with-first (Some lock) P Q gives is = gives lock is
