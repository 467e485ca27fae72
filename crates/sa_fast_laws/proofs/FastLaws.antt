-- FastThreads meets all that a user level owes to the history, with its own rules.
use Rattle.std.proofs.Common.{ℕ}
use Rattle.sa_base.specs.declared.number.ActNo.{ActNo}
use Rattle.sa_base.specs.declared.number.ProcNo.{ProcNo}
use Rattle.sa_spaces.specs.Workload.{WorkloadView}
use Rattle.sa_abstract.specs.Calls.{Contexts}
use Rattle.sa_abstract.specs.Setting.{Setting}
use Rattle.sa_package_model.proofs.Keeping.{fast_keeps}
use Rattle.sa_package_model.specs.Context.{carried_by}
use Rattle.sa_package_model.specs.Stands.{fast_stands}
use Rattle.sa_package_model.specs.Step.{fast_calls}
use Rattle.sa_package_model.specs.declared.context.Context.{Context}
use Rattle.sa_package_model.specs.declared.package.Package.{Package}
use Rattle.sa_laws.specs.Life.{Life}
use Rattle.sa_laws.specs.Readings.{Readings}
use Rattle.sa_laws.specs.Rules.{fast_threads}
use Rattle.sa_user_laws.specs.Laws.{UserLaws}
use Rattle.sa_user_laws.specs.Level.{UserLevel}
use Rattle.sa_user_laws.specs.Scene.{Holds as HoldsNow, IsOn, RunsAlone}
use Rattle.sa_fast_laws.proofs.relation.Runners.{alone-runs}
use Rattle.sa_fast_laws.specs.FastFits.{fast_fits, fast_hears}
use Rattle.sa_fast_laws.specs.View.{view}
use Rattle.sa_fast_laws.proofs.lives.Ends.{all-done, none-active, must-hear}
use Rattle.sa_fast_laws.proofs.lives.Running.{run-threads}
use Rattle.sa_fast_laws.proofs.FrameLaws.{fast-same, hears-same, fast-based}
use Rattle.sa_fast_laws.proofs.HandedNotices.{fast-tells_add, fast-tells_blocked, fast-tells, fast-answers}
use Rattle.sa_fast_laws.proofs.LocalRuns.{fast-goes}
use Rattle.sa_fast_laws.proofs.Openings.{fast-starts, fast-inside}
use Rattle.sa_fast_laws.proofs.StepLaws.{fast-kernels, fast-opening, fast-steps}
use Rattle.sa_fast_laws.proofs.StopLaws.{fast-stops, fast-unblocks, fast-begins, fast-owes}

fast-carries : (w : WorkloadView) (s : Setting) (e : ℕ) (r : Readings) (u : Package) (cs : Contexts Context) (p : ProcNo) (a : ActNo) (life : Life)
    (c : Context)
    → HoldsNow fast_stands w s e r u cs → fast_fits w s r u cs → IsOn s.space r p a life cs c → RunsAlone s.space r p (carried_by c.state)
fast-carries w s e r u cs p a life c h k on = alone-runs s e u cs h.value s.space r k.holds p a c life on.mine on.is on.space on.runs

pub fast-laws : UserLaws fast_calls fast_stands fast_threads fast_fits fast_hears
fast-laws = record {
  same = fast-same;
  hears_same = hears-same;
  threads = λ w s e r u cs of h k. run-threads s e r u cs h k.holds;
  hears_threads = λ w s e r a u cs of h k. run-threads s e r u cs h k.holds;
  carries = fast-carries;
  kernels = fast-kernels;
  opening = fast-opening;
  starts = fast-starts;
  steps = fast-steps;
  goes = fast-goes;
  stops = fast-stops;
  unblocks = fast-unblocks;
  begins = fast-begins;
  tells_add = fast-tells_add;
  tells_blocked = fast-tells_blocked;
  tells = fast-tells;
  answers = fast-answers;
  done = λ w s e r u cs h k. all-done s e r u cs h.value k.holds;
  rest = λ w s e r u cs h k none. none-active s e r u cs h.value k.holds none;
  must = λ w s e r u cs note h k has must. must-hear s e r u cs h.value k.holds view (λ c. c) cs (fast-based cs) k.rest note has must;
  inside = fast-inside;
  owes = fast-owes;
}

-- the user level whose every run is legal
abbrev pub fast_level : UserLevel Package Context
fast_level = record {
  calls = fast_calls;
  stands = fast_stands;
  keep = fast_keeps;
  rules = fast_threads;
  fits = fast_fits;
  hears = fast_hears;
  laws = fast-laws;
}
