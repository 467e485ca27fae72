-- The package with thread priorities meets what is needed of a user level.
use Rattle.std.proofs.Common.{◌≡◌, ℕ, refl, sym, ◌∙◌, subst, Some, None, List, ◌∷◌, true, false}
use Rattle.std.specs.Prelude.{Option, Bool, nat_lt}
use Rattle.std.proofs.lemmas.Bool.{or_left}
use Rattle.sa_base.specs.declared.number.ProcNo.{ProcNo}
use Rattle.sa_base.specs.declared.number.ThreadNo.{ThreadNo}
use Rattle.sa_base.specs.declared.number.ActNo.{ActNo}
use Rattle.sa_base.specs.declared.record.Record.{Record}
use Rattle.sa_base.specs.declared.record.Record.TheVariants.{Ins, Run, Block, Cont, Back, Ready, Take, Free, Want, Line, GiveBack, Idle, Spin}
use Rattle.sa_spaces.specs.Workload.{WorkloadView}
use Rattle.sa_laws.specs.Life.{Life}
use Rattle.sa_laws.specs.Readings.{Readings, IsLocked, running_of, life_on, demand_of, carried_by, has_hand}
use Rattle.sa_laws.specs.History.{event_begun, is_inside}
use Rattle.sa_laws.specs.Shape.{own_part}
use Rattle.sa_ranks.specs.Rules.{prio_threads}
use Rattle.sa_ranks.specs.Steps.{RankedStepBy, RankedStepIn, CanHint}
use Rattle.sa_ranks.specs.Locks.{TakesFor, KeepsTheLock, KeepsTheLockIf, KeepsTheLockIn}
use Rattle.sa_promises.specs.Needs.{TellsBehindUps, KeepsListsApart, KnowsHolders, Hints, FormedBy, FormedIn, HasForms, AnnouncesDemand}
use Rattle.sa_promises.proofs.lives.Shapes.{Guards, FirstOf}
use Rattle.sa_promises.proofs.packages.Formed.{StepsAreFormed, formed-tells, formed-apart, formed-knows, formed-has, stands-alone}
use Rattle.sa_promises.proofs.packages.FastThreads.{keeps-guards}

-- the forms of its steps
hints : (b : Bool) (w : WorkloadView) (r : Readings) (life : Life) (n : ℕ) → CanHint b w r life n → Hints b w r life n
hints true w r life n can = record { above = can.above; number = can.number }
hints false w r life n can = can.below

by-ranks : (w : WorkloadView) (r : Readings) (p : ProcNo) (a : ActNo) (life : Life) (x : Record) (xs : List Record) → RankedStepBy w r p a life x xs
    → KeepsTheLockIn w r p (x ∷ xs) → FormedBy w r p a life x xs
by-ranks w r p a life (Ins s t i) xs is keeps = is
by-ranks w r p a life (Block s t b io) xs is keeps = is.0
by-ranks w r p a life (Spin l) xs is keeps = is.0
by-ranks w r p a life (Want s n) xs is keeps = (is.0, is.1, hints (nat_lt n (demand_of r s)) w r life n is.2)
by-ranks w r p a life Idle xs is keeps = is.0
by-ranks w r p a life (Back s t) xs is keeps = is.0
by-ranks w r p a life (Line q) xs is keeps = is.0
by-ranks w r p a life (GiveBack b) xs is keeps = is.all
by-ranks w r p a life (Run s t) xs is keeps = stands-alone (Run s t) xs refl keeps.1
by-ranks w r p a life (Ready s t) xs is keeps = stands-alone (Ready s t) xs refl keeps.1
by-ranks w r p a life (Take s l t) xs is keeps = stands-alone (Take s l t) xs refl keeps.1
by-ranks w r p a life (Free s l t) xs is keeps = stands-alone (Free s l t) xs refl keeps.1
by-ranks w r p a life (Cont s t) xs is keeps = stands-alone (Cont s t) xs refl keeps.1
by-ranks w r p a life x xs is keeps = absurd (cc)

in-ranks : (w : WorkloadView) (r : Readings) (p : ProcNo) (a : Option ActNo) (life : Option Life) (xs : List Record) → RankedStepIn w r p a life xs
    → KeepsTheLockIn w r p xs → FormedIn w r p a life xs
in-ranks w r p (Some a) (Some life) (x ∷ xs) is keeps = by-ranks w r p a life x xs is keeps
in-ranks w r p _ _ _ is keeps = absurd is

-- the guards of their first records, by its rules of the list lock
pop-takes-none : (r : Readings) (life : Life) (t : Option ThreadNo) (b : Bool) → has_hand r life ≡ b → TakesFor b r life → t ≡ carried_by r life
    → has_hand r life ≡ false → t ≡ None
pop-takes-none r life t true is target names free = absurd (let clash = sym is ∙ free in cc)
pop-takes-none r life t false is target names free = names ∙ target.0

keeps : (w : WorkloadView) (r : Readings) (p : ProcNo) (life : Life) (x : Record) (xs : List Record) → life_on r p ≡ Some life
    → KeepsTheLock w r p life x → Guards p r x xs
keeps w r p life (Take s l t) xs on law = (
  (life, on, record { space = law.space; unlocked = λ locked. law.unlocked (subst (λ m. IsLocked r s m) law.list locked) }),
  (life, on, record { space = law.space; pop = pop-takes-none r life t (has_hand r life) refl law.target law.thread }),
)
keeps w r p life (Run s t) xs on law = keeps-guards w r p life (Run s t) xs on law
keeps w r p life (Free s l t) xs on law = keeps-guards w r p life (Free s l t) xs on law
keeps w r p life (Ready s t) xs on law = keeps-guards w r p life (Ready s t) xs on law
keeps w r p life x xs on law = (tt, tt)

kept : (w : WorkloadView) (r : Readings) (p : ProcNo) (life : Life) (x : Record) (o : Option Life) → o ≡ Some life → KeepsTheLockIf true w r p o x
    → KeepsTheLock w r p life x
kept w r p life x o on law = let step : KeepsTheLockIf true w r p (Some life) x = subst (λ o'. KeepsTheLockIf true w r p o' x) on law in step.keeps

guards : (w : WorkloadView) (r : Readings) (p : ProcNo) (life : Life) (x : Record) (xs : List Record) → life_on r p ≡ Some life
    → KeepsTheLockIn w r p (x ∷ xs) → Guards p r x xs
guards w r p life (Take s l t) xs on law = keeps w r p life (Take s l t) xs on (kept w r p life _ (life_on r p) on law.0)
guards w r p life (Run s t) xs on law = keeps w r p life (Run s t) xs on (kept w r p life _ (life_on r p) on law.0)
guards w r p life (Free s l t) xs on law = keeps w r p life (Free s l t) xs on (kept w r p life _ (life_on r p) on law.0)
guards w r p life (Ready s t) xs on law = keeps w r p life (Ready s t) xs on (kept w r p life _ (life_on r p) on law.0)
guards w r p life x xs on law = (tt, tt)

first-guarded : (w : WorkloadView) (r : Readings) (p : ProcNo) (a : Option ActNo) (life : Option Life) (xs : List Record) → life_on r p ≡ life
    → RankedStepIn w r p a life xs → KeepsTheLockIn w r p xs → FirstOf p r xs
first-guarded w r p (Some a) (Some life) (x ∷ xs) on is law = guards w r p life x xs on law
first-guarded w r p _ _ _ on is law = absurd is

prio-formed : StepsAreFormed prio_threads
prio-formed w r e law later is =
    let locks = law.locks_kept in
    let locked = locks.step later in
    let a = running_of (event_begun w e r) e.proc in
    let life = life_on (event_begun w e r) e.proc in (
      in-ranks w (event_begun w e r) e.proc a life (own_part e.records) is locked,
      first-guarded w (event_begun w e r) e.proc a life (own_part e.records) refl is locked,
    )

pub prio-tells : TellsBehindUps prio_threads
prio-tells = formed-tells prio_threads prio-formed

pub prio-apart : KeepsListsApart prio_threads
prio-apart = formed-apart prio_threads prio-formed

pub prio-knows : KnowsHolders prio_threads
prio-knows = formed-knows prio_threads prio-formed

pub prio-forms : HasForms prio_threads
prio-forms = formed-has prio_threads prio-formed

pub prio-announces : AnnouncesDemand prio_threads
prio-announces = record {
  forms = prio-forms;
  announced = λ w r e law. law.demand_announced.demand_announced;
  inside = λ w before e after settled life is. or_left (is_inside w before e after settled life) _ is;
}
