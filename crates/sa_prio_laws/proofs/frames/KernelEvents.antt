-- The laws of the kernel's events and of the opening.
use Rattle.std.proofs.Common.{◌≡◌, ℕ, ◌≤◌, zero, suc, false, List, ◌∷◌, ◌++◌, map, length, sym, subst, arith}
use Rattle.std.specs.List.{list_any, range_with_len}
use Rattle.sa_base.specs.declared.number.ProcNo.{ProcNo}
use Rattle.sa_base.specs.declared.record.Record.{Record}
use Rattle.sa_base.specs.declared.record.Record.TheVariants as records
use Rattle.sa_spaces.specs.Workload.{WorkloadView, IsWorkload}
use Rattle.sa_assign.specs.Aims.{space_no}
use Rattle.sa_laws.specs.Closing.{want_one}
use Rattle.sa_laws.specs.Demand.{BeginsFreely, StepIsFreeIf}
use Rattle.sa_laws.specs.History.{event_begun, is_step}
use Rattle.sa_laws.specs.Opening.{opening_event}
use Rattle.sa_laws.specs.Readings.{Readings, life_on, opening_readings}
use Rattle.sa_laws.specs.Turns.{is_of_locks}
use Rattle.sa_laws.proofs.Records.{alone-plain}
use Rattle.sa_user_laws.specs.Moments.{IsMoment}
use Rattle.sa_user_laws.specs.Steps.{event_with, IsClosed, RulesPass, AreKernels}
use Rattle.sa_fast_laws.proofs.lives.KernelEvents.{kernels-are}
use Rattle.sa_ranks.specs.Locks.{BeginsUnurged, IsUnurgedIf, KeepsTheLockIf, KeepsTheLockIn, RunsGreatest}
use Rattle.sa_ranks.specs.Rules.{prio_threads}

no-run : (r : Readings) (x : Record) (xs : List Record) → is_step x ≡ false → RunsGreatest r (x ∷ xs)
no-run r (records.Run s t) xs e = absurd cc
no-run r _ xs e = tt

pub prio-kernels : (w : WorkloadView) (r : Readings) (e : ℕ) (p : ProcNo) (own closing : List Record) → IsWorkload w → IsMoment r → AreKernels own
    → IsClosed own closing
    → RulesPass prio_threads w r (event_with e p own closing)
prio-kernels w r e p own closing ok moment are closed =
    let k = kernels-are own are in
    let b = event_begun w (event_with e p own closing) r in
    record {
      demand = record {
        demand_announced =
            record {
              step = λ later. subst (λ xs. BeginsFreely w r p (xs ++ closing)) (sym k.is)
                  (subst (λ b. StepIsFreeIf b w r (life_on r p) k.first) (sym k.step) tt);
            };
        step = λ later. subst (λ xs. BeginsUnurged w r p (xs ++ closing)) (sym k.is) (subst (λ b. IsUnurgedIf b w r (life_on r p) k.first) (sym k.step) tt);
      };
      locks = record {
        step = λ later. subst (KeepsTheLockIn w b p) (sym closed.is_own) (subst (KeepsTheLockIn w b p) (sym k.is)
            (subst (λ z. KeepsTheLockIf z w b p (life_on b p) k.first) (sym k.step) tt, alone-plain (list_any is_of_locks (k.first ∷ k.rest)) k.rest k.locks));
      };
      order = record { run = subst (λ xs. RunsGreatest r (xs ++ closing)) (sym k.is) (no-run r k.first (k.rest ++ closing) k.step) };
    }

pub prio-opening : (w : WorkloadView) → IsWorkload w → RulesPass prio_threads w (opening_readings w) (opening_event w)
prio-opening w ok = record {
  demand = record {
    demand_announced = record { step = λ later. absurd (let no_such : 1 ≤ 0 = later in omega arith) };
    step = λ later. absurd (let no_such : 1 ≤ 0 = later in omega arith);
  };
  locks = record { step = λ later. absurd (let no_such : 1 ≤ 0 = later in omega arith) };
  order = record { run = by (length w.spaces) _ ok.some_space };
} where
  by : (k : ℕ) (rest : List Record) → 1 ≤ k → RunsGreatest (opening_readings w) (map want_one (map space_no (range_with_len 0 k)) ++ rest)
  by zero rest some = absurd (omega arith)
  by (suc k) rest some = tt
