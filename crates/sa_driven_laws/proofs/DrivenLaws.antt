-- The driven user level meets all that a user level owes to the history, with the rules of any user level.
use Rattle.std.proofs.Common.{ℕ}
use Rattle.sa_base.specs.declared.number.ActNo.{ActNo}
use Rattle.sa_base.specs.declared.number.ProcNo.{ProcNo}
use Rattle.sa_spaces.specs.Workload.{WorkloadView}
use Rattle.sa_abstract.specs.Calls.{Contexts}
use Rattle.sa_abstract.specs.Setting.{Setting}
use Rattle.sa_driven_model.proofs.Keeping.{driven_keeps}
use Rattle.sa_driven_model.specs.declared.context.DrivenContext.{DrivenContext}
use Rattle.sa_driven_model.specs.declared.space.DrivenSpace.{DrivenSpace}
use Rattle.sa_driven_model.specs.Stands.{driven_stands}
use Rattle.sa_driven_model.specs.Step.{driven_calls}
use Rattle.sa_laws.specs.Any.{any}
use Rattle.sa_laws.specs.Life.{Life}
use Rattle.sa_laws.specs.Readings.{Readings}
use Rattle.sa_user_laws.specs.Laws.{UserLaws}
use Rattle.sa_user_laws.specs.Level.{UserLevel}
use Rattle.sa_user_laws.specs.Scene.{Holds as HoldsNow, IsOn, RunsAlone}
use Rattle.sa_driven_laws.specs.DrivenFits.{driven_fits, driven_hears}
use Rattle.sa_driven_laws.proofs.Answers.{driven-answers}
use Rattle.sa_driven_laws.proofs.EndLaws.{all-done, none-active, must-hear}
use Rattle.sa_driven_laws.proofs.Frames.{driven-same, driven-hears_same}
use Rattle.sa_driven_laws.proofs.LocalRuns.{driven-goes}
use Rattle.sa_driven_laws.proofs.NoticeLaws.{driven-stops, driven-unblocks, driven-begins, driven-tells_add, driven-tells_blocked, driven-tells, driven-inside, driven-owes}
use Rattle.sa_driven_laws.proofs.Openings.{driven-kernels, driven-opening, driven-starts}
use Rattle.sa_driven_laws.proofs.Runners.{alone-runs, run-threads}
use Rattle.sa_driven_laws.proofs.Steps.{driven-steps}

driven-carries : (w : WorkloadView) (s : Setting) (e : ℕ) (r : Readings) (u : DrivenSpace) (cs : Contexts DrivenContext) (p : ProcNo) (a : ActNo)
    (life : Life) (c : DrivenContext)
    → HoldsNow driven_stands w s e r u cs → driven_fits w s r u cs → IsOn s.space r p a life cs c → RunsAlone s.space r p c.thread
driven-carries w s e r u cs p a life c h k on = alone-runs s e u cs h.value s.space r k.holds p a c life on.mine on.is on.space on.runs

pub driven-laws : UserLaws driven_calls driven_stands any driven_fits driven_hears
driven-laws = record {
  same = driven-same;
  hears_same = driven-hears_same;
  threads = λ w s e r u cs of h k. run-threads s e u cs h s.space r k.holds;
  hears_threads = λ w s e r a u cs of h k. run-threads s e u cs h s.space r k.holds;
  carries = driven-carries;
  kernels = driven-kernels;
  opening = driven-opening;
  starts = driven-starts;
  steps = driven-steps;
  goes = driven-goes;
  stops = driven-stops;
  unblocks = driven-unblocks;
  begins = driven-begins;
  tells_add = driven-tells_add;
  tells_blocked = driven-tells_blocked;
  tells = driven-tells;
  answers = driven-answers;
  done = λ w s e r u cs h k. all-done s e r u cs h.value k.holds;
  rest = λ w s e r u cs h k none. none-active s e r u cs h.value k.holds none;
  must = λ w s e r u cs note h k has must. must-hear s e r u cs h.value k.holds k.rest note has must;
  inside = driven-inside;
  owes = driven-owes;
}

-- the user level whose every run is legal
abbrev pub driven_level : UserLevel DrivenSpace DrivenContext
driven_level = record {
  calls = driven_calls;
  stands = driven_stands;
  keep = driven_keeps;
  rules = any;
  fits = driven_fits;
  hears = driven_hears;
  laws = driven-laws;
}
