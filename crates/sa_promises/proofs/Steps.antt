-- An event of one record by either package's rules: for each kind of record one lemma says what is left to compute, and at an
-- event that is written out each of those facts is `refl`.
use Rattle.std.proofs.Common.{◌≡◌, ℕ, refl, sym, ◌∙◌, ap, subst, arith, Some, None, List, [], ◌∷◌, true, false}
use Rattle.std.specs.Prelude.{Option, Bool, slice_get, slice_index_or, not}
use Rattle.std.proofs.lemmas.Bool.{false≢true}
use Rattle.sa_lemmas.proofs.Membership.{contains-head}
use Rattle.sa_base.specs.declared.number.ProcNo.{ProcNo}
use Rattle.sa_base.specs.declared.number.SpaceNo.{SpaceNo}
use Rattle.sa_base.specs.declared.number.ThreadNo.{ThreadNo}
use Rattle.sa_base.specs.declared.limits.TheConstants.{PACKAGE_PAGE}
use Rattle.sa_base.specs.declared.record.Record.{Record}
use Rattle.sa_base.specs.declared.record.Record.TheVariants.{Ins, Run, Ready, Take, Free}
use Rattle.sa_spaces.specs.Workload.{WorkloadView}
use Rattle.sa_laws.specs.Life.{Life, Lock}
use Rattle.sa_laws.specs.State.{space_at}
use Rattle.sa_laws.specs.Readings.{Readings, IsLocked, life_on, has_ready, counts, is_resident}
use Rattle.sa_laws.specs.History.{event_begun}
use Rattle.sa_laws.specs.Step.{AreSteps}
use Rattle.sa_laws.specs.Ends.{LastLine}
use Rattle.sa_laws.specs.Turns.{TurnsAreTaken}
use Rattle.sa_laws.specs.Locks as fast
use Rattle.sa_laws.specs.Locks.{IsFirstOpen, WithFirst, CanFree, CanReady, CanRun, list_round}
use Rattle.sa_laws.specs.Rules.{HoldEach, rules_before}
use Rattle.sa_laws.specs.declared.rule.Rule.TheVariants.{OrderKept}
use Rattle.sa_ranks.specs.Steps.{the_list}
use Rattle.sa_ranks.specs.Locks.{TakesFor}
use Rattle.sa_base.specs.declared.package.PackageName.{PackageName}
use Rattle.sa_base.specs.declared.package.PackageName.TheVariants.{FastThreads, Priorities}
use Rattle.sa_ranks.specs.Packages.{rules_of}
use Rattle.sa_promises.proofs.Plain.{is_plain, alone, IsCalm, before-order, plain-lawful}
use Rattle.sa_promises.proofs.Right.{IsRightAt, lawfully}
use Rattle.sa_promises.proofs.Unlocked.{NoLock, is_of, is_held_by, none-locked, holds-none}
use Rattle.sa_promises.proofs.Seen.{Seen, SeemsCalm, Covers, is-calm}
use Rattle.sa_promises.proofs.OwnRules.{Stand, stand, stands, standing, taken, OwesNone, unbound, nothing-owed, in-demand, TurnOf, in-turn, KeepsBy, kept-by, in-locks, in-order}

-- All laws but the last hold, and the run goes on.
pub record ButOrder (which : PackageName) (w : WorkloadView) (r : Readings) (n : ℕ) (p : ProcNo) (x : Record) : Type 0 where
  pub plain : is_plain x ≡ true
  pub seems : SeemsCalm (rules_of which) w r (alone n p x)
  pub calm : IsCalm (rules_of which) w r (alone n p x)
  pub demand : (rules_of which).Demand w r (alone n p x)
  pub turns : TurnsAreTaken (rules_of which).Steps w r (alone n p x)
  pub locks : (rules_of which).Locks w r (alone n p x)

pub up-to-order : {which : PackageName} {w : WorkloadView} {r : Readings} {n : ℕ} {p : ProcNo} {x : Record} (last : Option LastLine) → ButOrder which w r n p x
    → HoldEach (rules_of which) w (rules_before OrderKept) r (alone n p x) last
up-to-order {which} {w} {r} {n} {p} {x} last step = before-order (rules_of which) w r n p x last step.plain step.calm step.demand step.turns step.locks

pub with-order : (which : PackageName) {w : WorkloadView} {r : Readings} {n : ℕ} {p : ProcNo} {x : Record} → ButOrder which w r n p x
    → (rules_of which).Order w r (alone n p x) → IsRightAt (rules_of which) w r (alone n p x)
with-order which {w} {r} {n} {p} {x} step order =
    lawfully (plain-lawful (rules_of which) w r n p x step.plain step.calm step.demand step.turns step.locks order)
    (ap (λ (y : Seen). slice_index_or y.6 0 true) step.seems) (ap (λ (y : Seen). slice_index_or y.6 1 true) step.seems)

-- a free, after the ready or run of its lock
pub frees : (which : PackageName) {w : WorkloadView} {r : Readings} {n : ℕ} {p : ProcNo} {s : SpaceNo} {l : ProcNo} {t : Option ThreadNo} {push own hand : Bool}
    {locks : List Lock} {due : List ThreadNo} {thread : Option ThreadNo}
    → Covers (rules_of which) w r (alone n p (Free s l t)) → SeemsCalm (rules_of which) w r (alone n p (Free s l t))
    → standing r p ≡ Some (stands s (taken l t push true own ∷ locks) due hand thread)
    → TurnOf w r (alone n p (Free s l t)) → IsRightAt (rules_of which) w r (alone n p (Free s l t))
frees which {w} {r} {n} {p} {s} {l} {t} {push} {own} {hand} {locks} {due} {thread} covered seems is turn =
    let y : Stand = stands s (taken l t push true own ∷ locks) due hand thread in
    let allowed = unbound w r (Free s l t) (life_on r p) y is (λ life same. refl) in
    with-order which (record {
      plain = refl;
      seems = seems;
      calm = is-calm seems covered (tt, tt);
      demand = in-demand which _ _ _ (λ _. allowed.free) (λ _. allowed.unurged);
      turns = in-turn which (λ _ _ _ _ _ step. step) turn;
      locks = in-locks which _ _ _ _ _ is refl refl refl (λ life same.
          let kept : WithFirst (slice_get life.locks 0) (λ lock. CanFree life lock s l t) =
          subst (λ (ls : List Lock). WithFirst (slice_get ls 0) (λ lock. CanFree life lock s l t)) (sym (ap (λ (z : Stand). z.locks) same)) (record {
            space = sym (ap (λ (z : Stand). z.space) same);
            list = refl;
            thread = refl;
            used = refl;
            cont = λ no. absurd (false≢true no);
          }) in
          kept-by which _ _ _ _ _ kept kept);
    }) (in-order which _ _ _ tt tt)

-- a run, after a take for a pop; that its thread is the next one is left to its order
pub run-but-order : (which : PackageName) {w : WorkloadView} {r : Readings} {n : ℕ} {p : ProcNo} {s : SpaceNo} {t : ThreadNo} {l : ProcNo} {of : Option ThreadNo}
    {own hand : Bool} {locks : List Lock} {due : List ThreadNo} {thread : Option ThreadNo}
    → Covers (rules_of which) w r (alone n p (Run s t)) → SeemsCalm (rules_of which) w r (alone n p (Run s t))
    → standing r p ≡ Some (stands s (taken l of false false own ∷ locks) due hand thread)
    → AreSteps w n p (event_begun w (alone n p (Run s t)) r) (Run s t ∷ [])
    → is_resident (event_begun w (alone n p (Run s t)) r) s PACKAGE_PAGE ≡ true
    → TurnOf w r (alone n p (Run s t)) → ButOrder which w r n p (Run s t)
run-but-order which {w} {r} {n} {p} {s} {t} {l} {of} {own} {hand} {locks} {due} {thread} covered seems is steps page turn =
    let y : Stand = stands s (taken l of false false own ∷ locks) due hand thread in
    let begun = event_begun w (alone n p (Run s t)) r in
    let allowed = unbound w r (Run s t) (life_on r p) y is (λ life same. refl) in
    record {
      plain = refl;
      seems = seems;
      calm = is-calm seems covered steps;
      demand = in-demand which _ _ _ (λ _. allowed.free) (λ _. allowed.unurged);
      turns = in-turn which (λ _ _ _ _ _ step. step) turn;
      locks = in-locks which _ _ _ _ _ is refl refl refl (λ life same.
          let space : life.space ≡ s = ap (λ (z : Stand). z.space) same in
          let kept : WithFirst (slice_get life.locks 0) (λ lock. CanRun begun life lock s) =
          subst (λ (ls : List Lock). WithFirst (slice_get ls 0) (λ lock. CanRun begun life lock s)) (sym (ap (λ (z : Stand). z.locks) same)) (record {
            pop = refl;
            used = record {
              unused = refl;
              page = subst (λ z. is_resident begun z PACKAGE_PAGE ≡ true) (sym space) page;
              cont = λ no. absurd (false≢true no);
            };
            space = sym space;
          }) in
          kept-by which _ _ _ _ _ kept kept);
    }

-- a ready, after a take for a push, of the first thread of the hand, which holds no lock
pub readies : (which : PackageName) {w : WorkloadView} {r : Readings} {n : ℕ} {p : ProcNo} {s : SpaceNo} {t : ThreadNo} {l : ProcNo} {of : Option ThreadNo}
    {own hand : Bool} {locks : List Lock} {due : List ThreadNo} {thread : Option ThreadNo}
    → Covers (rules_of which) w r (alone n p (Ready s t)) → SeemsCalm (rules_of which) w r (alone n p (Ready s t))
    → standing r p ≡ Some (stands s (taken l of true false own ∷ locks) (t ∷ due) hand thread)
    → AreSteps w n p (event_begun w (alone n p (Ready s t)) r) (Ready s t ∷ [])
    → is_resident (event_begun w (alone n p (Ready s t)) r) s PACKAGE_PAGE ≡ true
    → counts (space_at r.state s) t ≡ true
    → NoLock (is_held_by t) r.lives
    → TurnOf w r (alone n p (Ready s t)) → IsRightAt (rules_of which) w r (alone n p (Ready s t))
readies which {w} {r} {n} {p} {s} {t} {l} {of} {own} {hand} {locks} {due} {thread} covered seems is steps page counted none turn =
    let y : Stand = stands s (taken l of true false own ∷ locks) (t ∷ due) hand thread in
    let begun = event_begun w (alone n p (Ready s t)) r in
    let allowed = unbound w r (Ready s t) (life_on r p) y is (λ life same. refl) in
    with-order which (record {
      plain = refl;
      seems = seems;
      calm = is-calm seems covered steps;
      demand = in-demand which _ _ _ (λ _. allowed.free) (λ _. allowed.unurged);
      turns = in-turn which (λ _ _ _ _ _ step. step) turn;
      locks = in-locks which _ _ _ _ _ is refl refl refl (λ life same.
          let space : life.space ≡ s = ap (λ (z : Stand). z.space) same in
          let kept : WithFirst (slice_get life.locks 0) (λ lock. CanReady begun life lock s t) =
          subst (λ (ls : List Lock). WithFirst (slice_get ls 0) (λ lock. CanReady begun life lock s t)) (sym (ap (λ (z : Stand). z.locks) same)) (record {
            push = refl;
            used = record {
              unused = refl;
              page = subst (λ z. is_resident begun z PACKAGE_PAGE ≡ true) (sym space) page;
              cont = λ no. absurd (false≢true no);
            };
            space = sym space;
            hand = subst (λ ts. Rattle.std.specs.Prelude.Contains ts t) (sym (ap (λ (z : Stand). z.due) same)) (contains-head t due);
            counts = counted;
            holds = holds-none {r = begun} none;
          }) in
          kept-by which _ _ _ _ _ kept kept);
    }) (in-order which _ _ _ tt tt)

-- the list that a life takes first: its own processor's, and the one list
abbrev pub TakesList : PackageName → WorkloadView → ProcNo → ProcNo → Type 0
TakesList FastThreads w p l = (l ≡ p) × (l ≡ list_round w p 0)
TakesList Priorities w p l = l ≡ the_list

-- a take for a push, on a life with something to make ready
pub takes_for_push : (which : PackageName) {w : WorkloadView} {r : Readings} {n : ℕ} {p : ProcNo} {s : SpaceNo} {l : ProcNo} {t : Option ThreadNo}
    {due : List ThreadNo}
    → Covers (rules_of which) w r (alone n p (Take s l t)) → SeemsCalm (rules_of which) w r (alone n p (Take s l t))
    → standing r p ≡ Some (stands s [] due true t)
    → TakesList which w p l → NoLock (is_of l) r.lives
    → TurnOf w r (alone n p (Take s l t)) → IsRightAt (rules_of which) w r (alone n p (Take s l t))
takes_for_push which {w} {r} {n} {p} {s} {l} {t} {due} covered seems is list none turn =
    let allowed = unbound w r (Take s l t) (life_on r p) (stands s [] due true t) is (λ life same. ap (λ (z : Stand). not z.hand) same) in
    with-order which (record {
      plain = refl;
      seems = seems;
      calm = is-calm seems covered (tt, tt);
      demand = in-demand which _ _ _ (λ _. allowed.free) (λ _. allowed.unurged);
      turns = in-turn which (λ _ _ _ _ _ step. step) turn;
      locks = in-locks which _ _ _ _ _ is refl refl refl (keeps which list);
    }) (in-order which _ _ _ tt tt)
  where
    begun : Readings
    begun = event_begun w (alone n p (Take s l t)) r

    keeps : (which : PackageName) → TakesList which w p l → (life : Life) → stand r life ≡ stands s [] due true t → KeepsBy which w begun p life (Take s l t)
    keeps FastThreads list life same = record {
      space = sym (ap (λ (z : Stand). z.space) same);
      unlocked = none-locked {r = begun} none;
      locks = ap (λ (z : Stand). z.locks) same;
      cont = ap (λ (z : Stand). z.cont) same;
      thread = sym (ap (λ (z : Stand). z.thread) same);
      target = subst (λ b. fast.TakesFor b w begun p life l) (sym (ap (λ (z : Stand). z.hand) same)) list.0;
    }
    keeps Priorities list life same = record {
      space = sym (ap (λ (z : Stand). z.space) same);
      list = list;
      unlocked = subst (λ k. IsLocked begun s k → ⊥) list (none-locked {r = begun} none);
      locks = ap (λ (z : Stand). z.locks) same;
      cont = ap (λ (z : Stand). z.cont) same;
      thread = sym (ap (λ (z : Stand). z.thread) same);
      target = subst (λ b. TakesFor b begun life) (sym (ap (λ (z : Stand). z.hand) same)) tt;
    }

-- a take for a pop, on a life that owes nothing, of a list with a thread, where no pair exists
pub takes_for_pop : (which : PackageName) {w : WorkloadView} {r : Readings} {n : ℕ} {p : ProcNo} {s : SpaceNo} {l : ProcNo} {due : List ThreadNo}
    → Covers (rules_of which) w r (alone n p (Take s l None)) → SeemsCalm (rules_of which) w r (alone n p (Take s l None))
    → standing r p ≡ Some (stands s [] due false None)
    → OwesNone w r s → has_ready r s l ≡ true
    → TakesList which w p l → NoLock (is_of l) r.lives
    → TurnOf w r (alone n p (Take s l None)) → IsRightAt (rules_of which) w r (alone n p (Take s l None))
takes_for_pop which {w} {r} {n} {p} {s} {l} {due} covered seems is owes some list none turn =
    let allowed = nothing-owed w r (Take s l None) (life_on r p) s due None is owes in
    with-order which (record {
      plain = refl;
      seems = seems;
      calm = calm;
      demand = in-demand which _ _ _ (λ _. allowed.free) (λ _. allowed.unurged);
      turns = in-turn which (λ _ _ _ _ _ step. step) turn;
      locks = in-locks which _ _ _ _ _ is refl refl refl (keeps which list);
    }) (in-order which _ _ _ tt tt)
  where
    calm : IsCalm (rules_of which) w r (alone n p (Take s l None))
    calm = is-calm seems covered (tt, tt)

    begun : Readings
    begun = event_begun w (alone n p (Take s l None)) r

    keeps : (which : PackageName) → TakesList which w p l → (life : Life) → stand r life ≡ stands s [] due false None
        → KeepsBy which w begun p life (Take s l None)
    keeps FastThreads list life same = record {
      space = sym (ap (λ (z : Stand). z.space) same);
      unlocked = none-locked {r = begun} none;
      locks = ap (λ (z : Stand). z.locks) same;
      cont = ap (λ (z : Stand). z.cont) same;
      thread = sym (ap (λ (z : Stand). z.thread) same);
      target = subst (λ b. fast.TakesFor b w begun p life l) (sym (ap (λ (z : Stand). z.hand) same)) (
        ap (λ (z : Stand). z.thread) same,
        subst (λ of. IsFirstOpen w begun of p l) (sym (ap (λ (z : Stand). z.space) same)) (record {
          steps = 0;
          within = let proc = calm.proc in omega arith;
          list = list.1;
          opens = record { ready = some; unlocked = none-locked {r = begun} none };
          first = λ k no. absurd (omega arith);
        }),
      );
    }
    keeps Priorities list life same = record {
      space = sym (ap (λ (z : Stand). z.space) same);
      list = list;
      unlocked = subst (λ k. IsLocked begun s k → ⊥) list (none-locked {r = begun} none);
      locks = ap (λ (z : Stand). z.locks) same;
      cont = ap (λ (z : Stand). z.cont) same;
      thread = sym (ap (λ (z : Stand). z.thread) same);
      target = subst (λ b. TakesFor b begun life) (sym (ap (λ (z : Stand). z.hand) same)) (
        ap (λ (z : Stand). z.thread) same,
        ap (λ (z : Stand). has_ready r z.space the_list) same ∙ ap (has_ready r s) (sym list) ∙ some,
      );
    }

-- an instruction with nothing after it, on a life that owes nothing, where no pair exists
pub goes : (which : PackageName) {w : WorkloadView} {r : Readings} {n : ℕ} {p : ProcNo} {s : SpaceNo} {t : ThreadNo} {i : ℕ} {due : List ThreadNo}
    {thread : Option ThreadNo}
    → Covers (rules_of which) w r (alone n p (Ins s t i)) → SeemsCalm (rules_of which) w r (alone n p (Ins s t i))
    → standing r p ≡ Some (stands s [] due false thread)
    → OwesNone w r s
    → AreSteps w n p (event_begun w (alone n p (Ins s t i)) r) (Ins s t i ∷ [])
    → TurnOf w r (alone n p (Ins s t i)) → IsRightAt (rules_of which) w r (alone n p (Ins s t i))
goes which {w} {r} {n} {p} {s} {t} {i} {due} {thread} covered seems is owes steps turn =
    let allowed = nothing-owed w r (Ins s t i) (life_on r p) s due thread is owes in
    with-order which (record {
      plain = refl;
      seems = seems;
      calm = is-calm seems covered steps;
      demand = in-demand which _ _ _ (λ _. allowed.free) (λ _. allowed.unurged);
      turns = in-turn which (λ _ _ _ _ _ step. step) turn;
      locks = in-locks which _ _ _ _ _ is refl refl refl (λ life same. kept-by which _ _ _ _ _ tt tt);
    }) (in-order which _ _ _ tt tt)
