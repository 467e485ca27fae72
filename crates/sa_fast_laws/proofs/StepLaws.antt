-- The laws of the kernel's events, of the opening and of steps.
use Rattle.std.proofs.Common.{◌≡◌, ℕ, None, false, ◌&&◌, List, ◌∷◌, map, is_none, refl, sym, ◌∙◌, subst, inl, arith, zero, suc, ◌<◌, ◌++◌}
use Rattle.std.specs.Prelude.{length, not, ◌≤◌}
use Rattle.std.specs.List.{list_any, range_with_len}
use Rattle.sa_base.specs.declared.context.Seen.{Seen}
use Rattle.sa_base.specs.declared.limits.TheConstants.{MAX_EVENTS}
use Rattle.sa_base.specs.declared.number.ActNo.{ActNo}
use Rattle.sa_base.specs.declared.number.ProcNo.{ProcNo}
use Rattle.sa_base.specs.declared.record.Record.{Record}
use Rattle.sa_base.specs.declared.record.Record.TheVariants as records
use Rattle.sa_spaces.specs.Workload.{WorkloadView, IsWorkload}
use Rattle.sa_assign.specs.Aims.{space_no}
use Rattle.sa_assign.specs.Reaim.{proc_no}
use Rattle.sa_abstract.specs.Calls.{Contexts}
use Rattle.sa_abstract.specs.Setting.{Setting}
use Rattle.sa_package_model.specs.Context.{carried_by, stands_inside, stands_idle}
use Rattle.sa_package_model.specs.Stands.{fast_stands}
use Rattle.sa_package_model.specs.Step.{fast_calls}
use Rattle.sa_package_model.specs.declared.context.Context.{Context}
use Rattle.sa_package_model.specs.declared.context.ContextState.{ContextState}
use Rattle.sa_package_model.specs.declared.context.ContextState.TheVariants.{Code}
use Rattle.sa_package_model.specs.declared.package.Package.{Package}
use Rattle.sa_laws.specs.Closing.{want_one}
use Rattle.sa_laws.specs.Demand.{BeginsFreely, StepIsFreeIf}
use Rattle.sa_laws.specs.History.{event_begun, is_step}
use Rattle.sa_laws.specs.Life.{Life}
use Rattle.sa_laws.specs.Locks.{KeepsLocksIf, KeepsLocksIn, RunsNext}
use Rattle.sa_laws.specs.Opening.{opening_event}
use Rattle.sa_laws.specs.Readings.{Readings, life_on, line_of, opening_readings}
use Rattle.sa_laws.specs.Rules.{fast_threads}
use Rattle.sa_laws.specs.Turns.{is_of_locks}
use Rattle.sa_laws.proofs.Records.{alone-plain}
use Rattle.sa_user_laws.specs.Moments.{IsMoment, Sees}
use Rattle.sa_user_laws.specs.Scene.{IsActing, event_begun_at}
use Rattle.sa_user_laws.specs.Steps.{event_with, IsClosed, RulesPass, AreKernels}
use Rattle.sa_fast_laws.specs.FastFits.{fast_fits}
use Rattle.sa_fast_laws.proofs.lives.KernelEvents.{kernels-are}
use Rattle.sa_fast_laws.proofs.steps.Events.{IsLegal}
use Rattle.sa_fast_laws.proofs.steps.Scenes.{IsFastScene}
use Rattle.sa_fast_laws.proofs.AllSteps.{step-legal}

no_run : (r : Readings) (p : ProcNo) (x : Record) (xs : List Record) → is_step x ≡ false → RunsNext r p (x ∷ xs)
no_run r p (records.Run s t) xs e = absurd cc
no_run r p _ xs e = tt

pub fast-kernels : (w : WorkloadView) (r : Readings) (e : ℕ) (p : ProcNo) (own closing : List Record) → IsWorkload w → IsMoment r → AreKernels own
    → IsClosed own closing
    → RulesPass fast_threads w r (event_with e p own closing)
fast-kernels w r e p own closing ok moment are closed =
    let k = kernels-are own are in
    record {
      demand =
          record {
            step = λ later. subst (λ xs. BeginsFreely w r p (xs ++ closing)) (sym k.is)
                (subst (λ b. StepIsFreeIf b w r (life_on r p) k.first) (sym k.step) tt);
          };
      locks = record {
        step =
            λ later. subst (KeepsLocksIn w (event_begun w (event_with e p own closing) r) p) (sym closed.is_own)
            (subst (KeepsLocksIn w (event_begun w (event_with e p own closing) r) p) (sym k.is) (
              subst (λ b. KeepsLocksIf b w (event_begun w (event_with e p own closing) r) p (life_on r p) k.first) (sym k.step) tt,
              alone-plain (list_any is_of_locks (k.first ∷ k.rest)) k.rest k.locks,
            ));
      };
      order = record { run = subst (λ xs. RunsNext r p (xs ++ closing)) (sym k.is) (no_run r p k.first (k.rest ++ closing) k.step) };
    }

pub fast-opening : (w : WorkloadView) → IsWorkload w → RulesPass fast_threads w (opening_readings w) (opening_event w)
fast-opening w ok = record {
  demand = record { step = λ later. absurd (let no_such : 1 ≤ 0 = later in omega arith) };
  locks = record { step = λ later. absurd (let no_such : 1 ≤ 0 = later in omega arith) };
  order = record { run = by (length w.spaces) _ ok.some_space };
} where
  by : (k : ℕ) (rest : List Record) → 1 ≤ k → RunsNext (opening_readings w) (proc_no 0) (map want_one (map space_no (range_with_len 0 k)) ++ rest)
  by zero rest some = absurd (omega arith)
  by (suc k) rest some = tt

-- STEPS: the scene from what the composition gives
pub the-scene : (w : WorkloadView) (s : Setting) (e : ℕ) (r : Readings) (u : Package) (cs : Contexts Context) (p : ProcNo) (a : ActNo) (life : Life)
    (c : Context) (seen : Seen)
    → IsActing fast_calls fast_stands fast_fits w s e r u cs p a life c
    → Sees s.space (event_begun_at w seen.event p r) p seen.event seen → e < seen.event → seen.event ≤ MAX_EVENTS
    → IsFastScene s e u cs w r p a life c seen
the-scene w s e r u cs p a life c seen i sees later within =
    let mark = (i.fit.rest a c life i.on.mine i.on.is).marks in
    record {
      scene = record {
        of = i.holds.of;
        moment = i.holds.moment;
        sizes = i.holds.sizes;
        stands = i.holds.value;
        holds = i.fit.holds;
        own = record { back = mark.back; scans = mark.scans; left = mark.left; lone = mark.lone };
        on = i.on;
        runner = i.runner;
        sees = sees;
        given = i.holds.taken;
        later = later;
        within = within;
      };
      lists = i.fit.lists;
      others = λ x d l ne at is. i.fit.rest x d l at is;
      free = λ outside. inl (mark.inside ∙ outside);
    }

pub fast-steps : (w : WorkloadView) (s : Setting) (e : ℕ) (r : Readings) (u : Package) (cs : Contexts Context) (p : ProcNo) (a : ActNo) (life : Life)
    (c : Context) (seen : Seen)
    → IsActing fast_calls fast_stands fast_fits w s e r u cs p a life c
    → Sees s.space (event_begun_at w seen.event p r) p seen.event seen → line_of r p ≡ None → 1 ≤ seen.event → e < seen.event → seen.event ≤ MAX_EVENTS
    → IsLegal w s r p seen.event a cs (fast_calls.stepped u seen c)
fast-steps w s e r u cs p a life c seen i sees low some later within =
    step-legal s e u w r p a life seen cs c.state c.sections c.work (the-scene w s e r u cs p a life c seen i sees later within)

-- A STOP: who is idle is read
pub idle_is : (state : ContextState) → stands_idle state ≡ (not (stands_inside state) && is_none (carried_by state))
idle_is (Code f) = refl
idle_is _ = refl
