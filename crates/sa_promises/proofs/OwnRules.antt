-- What the rules that are a package's own ask of a step of one record, by how its life stands.
use Rattle.std.proofs.Common.{◌≡◌, ℕ, ◌≤◌, inl, inr, refl, sym, ◌∙◌, ap, subst, Some, None, List, [], ◌∷◌, true, false}
use Rattle.std.specs.Prelude.{Option, Bool, slice_index_or, ◌&&◌, not, nat_lt, is_some}
use Rattle.std.specs.List.{list_any}
use Rattle.std.specs.Option.{option_map}
use Rattle.std.proofs.lemmas.Bool.{false≢true, ltb-false, or_right}
use Rattle.std.proofs.lemmas.Option.{same_Some}
use Rattle.sa_base.specs.declared.number.ActNo.{ActNo}
use Rattle.sa_base.specs.declared.number.ProcNo.{ProcNo}
use Rattle.sa_base.specs.declared.number.SpaceNo.{SpaceNo}
use Rattle.sa_base.specs.declared.number.ThreadNo.{ThreadNo}
use Rattle.sa_base.specs.declared.record.Record.{Record}
use Rattle.sa_spaces.specs.Workload.{WorkloadView}
use Rattle.sa_devices.specs.Ios.{Io, due_of}
use Rattle.sa_laws.specs.Event.{Event}
use Rattle.sa_laws.specs.Life.{Life, Lock}
use Rattle.sa_laws.specs.Readings.{Readings, line_of, life_on, owner_of, running_of, carried_by, demand_of, usable, many_taken, has_hand}
use Rattle.sa_laws.specs.History.{event_begun, is_step}
use Rattle.sa_laws.specs.Shape.{own_part}
use Rattle.sa_laws.specs.Demand.{StepIsFree, BeginsFreely, is_bound}
use Rattle.sa_laws.specs.Turns.{IsStep, StepBy, StepIn, IsTurn, IsTurnWhileDue, TurnsAreTaken, is_of_locks}
use Rattle.sa_laws.specs.Locks.{KeepsLocks, KeepsLocksIf, KeepsLocksIn, StandsAlone, RunsNext, back_is_due, is_back}
use Rattle.sa_ranks.specs.Pairs.{has_pair}
use Rattle.sa_ranks.specs.Steps.{IsRankedStep, RankedStepBy, RankedStepIn}
use Rattle.sa_ranks.specs.Locks.{BeginsUnurged, IsUnurgedIf, KeepsTheLock, KeepsTheLockIf, KeepsTheLockIn, RunsGreatest}
use Rattle.sa_base.specs.declared.package.PackageName.{PackageName}
use Rattle.sa_base.specs.declared.package.PackageName.TheVariants.{FastThreads, Priorities}
use Rattle.sa_ranks.specs.Packages.{rules_of}
use Rattle.sa_promises.proofs.Plain.{alone}

-- how the running life of a processor stands
pub record Stand : Type 0 where
  pub space : SpaceNo
  pub locks : List Lock
  pub cont : Bool
  pub due : List ThreadNo
  pub hand : Bool
  pub thread : Option ThreadNo

abbrev pub stand : Readings → Life → Stand
stand r life = record {
  space = life.space;
  locks = life.locks;
  cont = life.cont;
  due = life.hand;
  hand = has_hand r life;
  thread = carried_by r life;
}

-- it stands so, and has no open cont
abbrev pub stands : SpaceNo → List Lock → List ThreadNo → Bool → Option ThreadNo → Stand
stands s locks due hand thread = record { space = s; locks = locks; cont = false; due = due; hand = hand; thread = thread }

abbrev pub standing : Readings → ProcNo → Option Stand
standing r p = option_map (stand r) (life_on r p)

-- a lock that its life took itself
abbrev pub taken : ProcNo → Option ThreadNo → Bool → Bool → Bool → Lock
taken l t push used own = record { list = l; thread = t; for_push = push; used = used; own = own; inherited = false }

-- Demand: a step that does not bind its life, or one of a life that owes nothing, in a space without a pair
pub record IsAllowed (w : WorkloadView) (r : Readings) (x : Record) (life : Option Life) : Type 0 where
  pub free : StepIsFree w r life x
  pub unurged : IsUnurgedIf true w r life x

pub unbound : (w : WorkloadView) (r : Readings) (x : Record) (life : Option Life) (y : Stand) → option_map (stand r) life ≡ Some y
    → ((one : Life) → stand r one ≡ y → is_bound r one x ≡ false) → IsAllowed w r x life
unbound w r x None y is never = absurd (cc)
unbound w r x (Some life) y is never = let no = never life (same_Some (stand r life) y is) in record {
  free = record { free = λ bound. absurd (false≢true (sym no ∙ bound)) };
  unurged = record { unurged = λ bound. absurd (false≢true (sym no ∙ bound)) };
}

-- what a space has announced too little of, what it has to give back, and a pair
abbrev pub owed : WorkloadView → Readings → SpaceNo → List Bool
owed w r s = nat_lt (demand_of r s) (usable w r s) ∷ many_taken r s ∷ has_pair w r s ∷ []

abbrev pub OwesNone : WorkloadView → Readings → SpaceNo → Type 0
OwesNone w r s = owed w r s ≡ false ∷ false ∷ false ∷ []

pub nothing-owed : (w : WorkloadView) (r : Readings) (x : Record) (life : Option Life) (s : SpaceNo) (due : List ThreadNo) (thread : Option ThreadNo)
    → option_map (stand r) life ≡ Some (stands s [] due false thread) → OwesNone w r s → IsAllowed w r x life
nothing-owed w r x None s due thread is none = absurd (cc)
nothing-owed w r x (Some life) s due thread is none =
    let same = same_Some (stand r life) (stands s [] due false thread) is in
    let of = ap (λ (y : Stand). owed w r y.space) same ∙ none in
    let announced : nat_lt (demand_of r life.space) (usable w r life.space) ≡ false = ap (λ tests. slice_index_or tests 0 true) of in
    let few : many_taken r life.space ≡ false = ap (λ tests. slice_index_or tests 1 true) of in
    record {
      free = record {
        free = λ bound. inr (record {
          nothing = record {
            locks = ap (λ (y : Stand). y.locks) same;
            cont = ap (λ (y : Stand). y.cont) same;
            hand = ap (λ (y : Stand). y.hand) same;
          };
          announced = ltb-false (demand_of r life.space) (usable w r life.space) announced;
          given = or_right (is_some (carried_by r life)) (not (many_taken r life.space)) (ap not few);
        });
      };
      unurged = record { unurged = λ bound. inr (ap (λ tests. slice_index_or tests 2 true) of) };
    }

pub in-demand : (which : PackageName) (w : WorkloadView) (r : Readings) (e : Event) → (1 ≤ e.number → BeginsFreely w r e.proc e.records)
    → (1 ≤ e.number → BeginsUnurged w r e.proc e.records) → (rules_of which).Demand w r e
in-demand FastThreads w r e free unurged = record { step = free }
in-demand Priorities w r e free unurged = record { demand_announced = record { step = free }; step = unurged }

-- Turns: a row of FastThreads' table that the other one has too
abbrev pub TurnOf : WorkloadView → Readings → Event → Type 0
TurnOf w r e = IsTurn IsStep (is_some (line_of r e.proc)) e.number w (event_begun w e r) e.proc e.records

abbrev pub IsSameRow : Record → Type 0
IsSameRow x = (w : WorkloadView) (r : Readings) (p : ProcNo) (a : ActNo) (life : Life) → StepBy w r p a life x [] → RankedStepBy w r p a life x []

ranked-turn : (w : WorkloadView) (r : Readings) (p : ProcNo) (x : Record) → IsSameRow x → (raised : Bool) (n : ℕ) → IsTurn IsStep raised n w r p (x ∷ [])
    → IsTurn IsRankedStep raised n w r p (x ∷ [])
ranked-turn w r p x same true n turn = turn
ranked-turn w r p x same false n turn = by_due (due_of n r.under_way) turn where
  by_life : (a : Option ActNo) (life : Option Life) → StepIn w r p a life (x ∷ []) → RankedStepIn w r p a life (x ∷ [])
  by_life (Some a) (Some life) step = same w r p a life step
  by_life (Some a) None step = absurd step
  by_life None life step = absurd step

  by_due : (due : Option Io) → IsTurnWhileDue IsStep due w r p (x ∷ []) → IsTurnWhileDue IsRankedStep due w r p (x ∷ [])
  by_due (Some io) (inl over) = inl over
  by_due (Some io) (inr step) = inr (step.0, by_life (running_of r p) (life_on r p) step.1)
  by_due None step = by_owner (owner_of r p) step where
    by_owner : (owner : Option SpaceNo) → Rattle.sa_laws.specs.Turns.IsTickOrStep IsStep owner w r p (x ∷ [])
        → Rattle.sa_laws.specs.Turns.IsTickOrStep IsRankedStep owner w r p (x ∷ [])
    by_owner None tick = tick
    by_owner (Some s) step = by_life (running_of r p) (life_on r p) step

pub in-turn : (which : PackageName) {w : WorkloadView} {r : Readings} {n : ℕ} {p : ProcNo} {x : Record} → IsSameRow x → TurnOf w r (alone n p x)
    → TurnsAreTaken (rules_of which).Steps w r (alone n p x)
in-turn FastThreads same turn = record { turn = λ _. turn; closing = λ _. tt }
in-turn Priorities {w} {r} {n} {p} {x} same turn =
    record { turn = λ _. ranked-turn w (event_begun w (alone n p x) r) p x same (is_some (line_of r p)) n turn; closing = λ _. tt }

-- Locks: a step of a life with no open cont, which no back can be due of
pub all-locks : (which : PackageName) (w : WorkloadView) (r : Readings) (e : Event)
    → (1 ≤ e.number → KeepsLocksIn w (event_begun w e r) e.proc (own_part e.records))
    → (1 ≤ e.number → KeepsTheLockIn w (event_begun w e r) e.proc (own_part e.records)) → (rules_of which).Locks w r e
all-locks FastThreads w r e kept ranked = record { step = kept }
all-locks Priorities w r e kept ranked = record { step = ranked }

abbrev pub KeepsBy : PackageName → WorkloadView → Readings → ProcNo → Life → Record → Type 0
KeepsBy FastThreads w r p life x = KeepsLocks w r p life x
KeepsBy Priorities w r p life x = KeepsTheLock w r p life x

pub kept-by : (which : PackageName) (w : WorkloadView) (r : Readings) (p : ProcNo) (life : Life) (x : Record) → KeepsLocks w r p life x → KeepsTheLock w r p life x
    → KeepsBy which w r p life x
kept-by FastThreads w r p life x kept ranked = kept
kept-by Priorities w r p life x kept ranked = ranked

pub in-locks : (which : PackageName) (w : WorkloadView) (r : Readings) (n : ℕ) (p : ProcNo) (x : Record) {y : Stand} → standing r p ≡ Some y → y.cont ≡ false
    → is_step x ≡ true → is_back x ≡ false
    → ((life : Life) → stand r life ≡ y → KeepsBy which w (event_begun w (alone n p x) r) p life x) → (rules_of which).Locks w r (alone n p x)
in-locks which w r n p x {y} is shut step other keeps = by_package which keeps where
  begun : Readings
  begun = event_begun w (alone n p x) r

  none_due : (life : Life) → stand r life ≡ y → back_is_due life ≡ false
  none_due life same = ap (λ (z : Stand). z.cont && life.freed) same ∙ ap (λ b. b && life.freed) shut

  stands_alone : (b : Bool) → StandsAlone b []
  stands_alone true = refl
  stands_alone false = tt

  in_fast : ((life : Life) → stand r life ≡ y → KeepsLocks w begun p life x) → (life : Option Life) → option_map (stand r) life ≡ Some y
      → KeepsLocksIf true w begun p life x
  in_fast keeps None none = absurd (cc)
  in_fast keeps (Some life) some = let same = same_Some (stand r life) y some in
      record { keeps = keeps life same; back = other ∙ sym (none_due life same) }

  in_prio : ((life : Life) → stand r life ≡ y → KeepsTheLock w begun p life x) → (life : Option Life) → option_map (stand r) life ≡ Some y
      → KeepsTheLockIf true w begun p life x
  in_prio keeps None none = absurd (cc)
  in_prio keeps (Some life) some = let same = same_Some (stand r life) y some in record {
    keeps = keeps life same;
    due = λ due. absurd (false≢true (sym (none_due life same) ∙ due));
    back = λ back. absurd (false≢true (sym other ∙ back));
  }

  alone_then : StandsAlone (list_any is_of_locks (x ∷ [])) []
  alone_then = stands_alone (list_any is_of_locks (x ∷ []))

  by_package : (which : PackageName) → ((life : Life) → stand r life ≡ y → KeepsBy which w begun p life x) → (rules_of which).Locks w r (alone n p x)
  by_package FastThreads keeps =
      record { step = λ _. (subst (λ b. KeepsLocksIf b w begun p (life_on r p) x) (sym step) (in_fast keeps (life_on r p) is), alone_then) }
  by_package Priorities keeps =
      record { step = λ _. (subst (λ b. KeepsTheLockIf b w begun p (life_on r p) x) (sym step) (in_prio keeps (life_on r p) is), alone_then) }

-- Order: of a run alone
pub in-order : (which : PackageName) (w : WorkloadView) (r : Readings) (e : Event) → RunsNext r e.proc e.records → RunsGreatest r e.records
    → (rules_of which).Order w r e
in-order FastThreads w r e next greatest = record { run = next }
in-order Priorities w r e next greatest = record { run = greatest }
