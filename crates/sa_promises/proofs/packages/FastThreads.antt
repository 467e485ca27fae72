-- FastThreads meets what is needed of a user level.
use Rattle.std.proofs.Common.{◌≡◌, ℕ, refl, sym, ◌∙◌, subst, Some, None, List, ◌∷◌, true, false}
use Rattle.std.specs.Prelude.{Option, Bool, nat_lt}
use Rattle.sa_base.specs.declared.number.ProcNo.{ProcNo}
use Rattle.sa_base.specs.declared.number.SpaceNo.{SpaceNo}
use Rattle.sa_base.specs.declared.number.ThreadNo.{ThreadNo}
use Rattle.sa_base.specs.declared.number.ActNo.{ActNo}
use Rattle.sa_base.specs.declared.record.Record.{Record}
use Rattle.sa_base.specs.declared.record.Record.TheVariants.{Ins, Run, Block, Cont, Back, Ready, Take, Free, Want, GiveBack, Idle, Spin}
use Rattle.sa_spaces.specs.Workload.{WorkloadView}
use Rattle.sa_laws.specs.Life.{Life, Lock, first_lock}
use Rattle.sa_laws.specs.Readings.{Readings, running_of, life_on, demand_of, carried_by, has_hand}
use Rattle.sa_laws.specs.History.{event_begun}
use Rattle.sa_laws.specs.Shape.{own_part}
use Rattle.sa_laws.specs.Rules.{fast_threads}
use Rattle.sa_laws.specs.Locks.{HoldsLock, TakesFor, CanReady, CanRun, CanFree, WithFirst, KeepsLocks, KeepsLocksIf, KeepsLocksIn}
use Rattle.sa_laws.specs.Turns.{StepBy, StepIn, CanHint}
use Rattle.sa_promises.specs.Needs.{TellsBehindUps, KeepsListsApart, KnowsHolders, RunsFirst, FreesFirst, Hints, FormedBy, FormedIn, HasForms, AnnouncesDemand}
use Rattle.sa_promises.proofs.lives.Shapes.{Guards, FirstOf}
use Rattle.sa_promises.proofs.packages.Formed.{StepsAreFormed, formed-tells, formed-apart, formed-knows, formed-has, stands-alone, with-first}

-- the forms of its steps
hints : (b : Bool) (w : WorkloadView) (r : Readings) (life : Life) (n : ℕ) → CanHint b w r life n → Hints b w r life n
hints true w r life n can = record { above = can.above; number = can.number }
hints false w r life n can = can.below

by-fast : (w : WorkloadView) (r : Readings) (p : ProcNo) (a : ActNo) (life : Life) (x : Record) (xs : List Record) → StepBy w r p a life x xs
    → KeepsLocksIn w r p (x ∷ xs) → FormedBy w r p a life x xs
by-fast w r p a life (Ins s t i) xs is keeps = is
by-fast w r p a life (Block s t b io) xs is keeps = is.0
by-fast w r p a life (Spin l) xs is keeps = is.0
by-fast w r p a life (Want s n) xs is keeps = (is.0, is.1, hints (nat_lt n (demand_of r s)) w r life n is.2)
by-fast w r p a life Idle xs is keeps = is.0
by-fast w r p a life (GiveBack b) xs is keeps = is.all
by-fast w r p a life (Run s t) xs is keeps = stands-alone (Run s t) xs refl keeps.1
by-fast w r p a life (Ready s t) xs is keeps = stands-alone (Ready s t) xs refl keeps.1
by-fast w r p a life (Take s l t) xs is keeps = stands-alone (Take s l t) xs refl keeps.1
by-fast w r p a life (Free s l t) xs is keeps = stands-alone (Free s l t) xs refl keeps.1
by-fast w r p a life (Cont s t) xs is keeps = stands-alone (Cont s t) xs refl keeps.1
by-fast w r p a life (Back s t) xs is keeps = stands-alone (Back s t) xs refl keeps.1
by-fast w r p a life x xs is keeps = absurd (cc)

in-fast : (w : WorkloadView) (r : Readings) (p : ProcNo) (a : Option ActNo) (life : Option Life) (xs : List Record) → StepIn w r p a life xs
    → KeepsLocksIn w r p xs → FormedIn w r p a life xs
in-fast w r p (Some a) (Some life) (x ∷ xs) is keeps = by-fast w r p a life x xs is keeps
in-fast w r p _ _ _ is keeps = absurd is

-- the guards of their first records, by its rules of list locks
kept : (w : WorkloadView) (r : Readings) (p : ProcNo) (life : Life) (x : Record) (o : Option Life) → o ≡ Some life → KeepsLocksIf true w r p o x
    → KeepsLocks w r p life x
kept w r p life x o on keeps = let step : KeepsLocksIf true w r p (Some life) x = subst (λ o'. KeepsLocksIf true w r p o' x) on keeps in step.keeps

-- a take for a pop names no thread
pop-takes-none : (w : WorkloadView) (r : Readings) (p : ProcNo) (life : Life) (l : ProcNo) (t : Option ThreadNo) (b : Bool)
    → has_hand r life ≡ b → TakesFor b w r p life l → t ≡ carried_by r life → has_hand r life ≡ false → t ≡ None
pop-takes-none w r p life l t true is target names free = absurd (let clash = sym is ∙ free in cc)
pop-takes-none w r p life l t false is target names free = names ∙ target.0

no-holder : (r : Readings) (life : Life) (s : SpaceNo) (t : ThreadNo) (o : Option Lock) → WithFirst o (λ lock. CanReady r life lock s t)
    → HoldsLock r s t → ⊥
no-holder r life s t None is = absurd is
no-holder r life s t (Some lock) is = is.holds

pub keeps-guards : (w : WorkloadView) (r : Readings) (p : ProcNo) (life : Life) (x : Record) (xs : List Record) → life_on r p ≡ Some life
    → KeepsLocks w r p life x → Guards p r x xs
keeps-guards w r p life (Take s l t) xs on law = (
  (life, on, record { space = law.space; unlocked = law.unlocked }),
  (life, on, record { space = law.space; pop = pop-takes-none w r p life l t (has_hand r life) refl law.target law.thread }),
)
keeps-guards w r p life (Run s t) xs on law = (
  tt,
  (
    life,
    on,
    with-first (first_lock life) (λ lock. CanRun r life lock s) (RunsFirst s life)
        (λ lock can. record { space = can.space; pop = can.pop; unused = can.used.unused }) law,
  ),
)
keeps-guards w r p life (Free s l t) xs on law = (
  tt,
  (life, on, with-first (first_lock life) (λ lock. CanFree life lock s l t) (FreesFirst s t life) (λ lock can. record { space = can.space; thread = can.thread }) law),
)
keeps-guards w r p life (Ready s t) xs on law = (tt, no-holder r life s t (first_lock life) law)
keeps-guards w r p life x xs on law = (tt, tt)

guards : (w : WorkloadView) (r : Readings) (p : ProcNo) (life : Life) (x : Record) (xs : List Record) → life_on r p ≡ Some life
    → KeepsLocksIn w r p (x ∷ xs) → Guards p r x xs
guards w r p life (Take s l t) xs on keeps = keeps-guards w r p life (Take s l t) xs on (kept w r p life _ (life_on r p) on keeps.0)
guards w r p life (Run s t) xs on keeps = keeps-guards w r p life (Run s t) xs on (kept w r p life _ (life_on r p) on keeps.0)
guards w r p life (Free s l t) xs on keeps = keeps-guards w r p life (Free s l t) xs on (kept w r p life _ (life_on r p) on keeps.0)
guards w r p life (Ready s t) xs on keeps = keeps-guards w r p life (Ready s t) xs on (kept w r p life _ (life_on r p) on keeps.0)
guards w r p life x xs on keeps = (tt, tt)

first-guarded : (w : WorkloadView) (r : Readings) (p : ProcNo) (a : Option ActNo) (life : Option Life) (xs : List Record) → life_on r p ≡ life
    → StepIn w r p a life xs → KeepsLocksIn w r p xs → FirstOf p r xs
first-guarded w r p (Some a) (Some life) (x ∷ xs) on is keeps = guards w r p life x xs on keeps
first-guarded w r p _ _ _ on is keeps = absurd is

fast-formed : StepsAreFormed fast_threads
fast-formed w r e law later is =
    let locks = law.locks_kept in
    let locked = locks.step later in
    let a = running_of (event_begun w e r) e.proc in
    let life = life_on (event_begun w e r) e.proc in (
      in-fast w (event_begun w e r) e.proc a life (own_part e.records) is locked,
      first-guarded w (event_begun w e r) e.proc a life (own_part e.records) refl is locked,
    )

pub fast-tells : TellsBehindUps fast_threads
fast-tells = formed-tells fast_threads fast-formed

pub fast-apart : KeepsListsApart fast_threads
fast-apart = formed-apart fast_threads fast-formed

pub fast-knows : KnowsHolders fast_threads
fast-knows = formed-knows fast_threads fast-formed

pub fast-forms : HasForms fast_threads
fast-forms = formed-has fast_threads fast-formed

pub fast-announces : AnnouncesDemand fast_threads
fast-announces = record {
  forms = fast-forms;
  announced = λ w r e law. law.demand_announced;
  inside = λ w before e after settled life is. is;
}
