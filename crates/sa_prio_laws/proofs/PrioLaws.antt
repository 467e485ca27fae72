-- The package with thread priorities meets all that a user level owes to the history, with its own rules.
use Rattle.sa_user_laws.specs.Laws.{UserLaws}
use Rattle.sa_user_laws.specs.Level.{UserLevel}
use Rattle.sa_ranks.specs.Rules.{prio_threads}
use Rattle.sa_prio_model.proofs.Keeping.{prio_keeps}
use Rattle.sa_prio_model.specs.Prio.{Prio}
use Rattle.sa_prio_model.specs.Stands.{prio_stands}
use Rattle.sa_prio_model.specs.Step.{prio_calls}
use Rattle.sa_prio_model.specs.declared.context.PrioContext.{PrioContext}
use Rattle.sa_prio_laws.specs.PrioFits.{prio_fits, prio_hears}
use Rattle.sa_prio_laws.proofs.notices.Answers.{prio-answers}
use Rattle.sa_prio_laws.proofs.notices.Ceases.{prio-stops, prio-unblocks, prio-begins, prio-inside, prio-owes}
use Rattle.sa_prio_laws.proofs.frames.Ends.{prio-threads, prio-hears_threads, prio-done, prio-rest, prio-must}
use Rattle.sa_prio_laws.proofs.frames.Frames.{prio-same, prio-hears_same, prio-carries}
use Rattle.sa_prio_laws.proofs.frames.KernelEvents.{prio-kernels, prio-opening}
use Rattle.sa_prio_laws.proofs.user_steps.LocalRuns.{prio-goes}
use Rattle.sa_prio_laws.proofs.frames.Openings.{prio-starts}
use Rattle.sa_prio_laws.proofs.AllSteps.{prio-steps}
use Rattle.sa_prio_laws.proofs.notices.Told.{prio-tells_add, prio-tells_blocked, prio-tells}

pub prio-laws : UserLaws prio_calls prio_stands prio_threads prio_fits prio_hears
prio-laws = record {
  same = prio-same;
  hears_same = prio-hears_same;
  threads = prio-threads;
  hears_threads = prio-hears_threads;
  carries = prio-carries;
  kernels = prio-kernels;
  opening = prio-opening;
  starts = prio-starts;
  steps = prio-steps;
  goes = prio-goes;
  stops = prio-stops;
  unblocks = prio-unblocks;
  begins = prio-begins;
  tells_add = prio-tells_add;
  tells_blocked = prio-tells_blocked;
  tells = prio-tells;
  answers = prio-answers;
  done = prio-done;
  rest = prio-rest;
  must = prio-must;
  inside = prio-inside;
  owes = prio-owes;
}

-- the user level whose every run is legal
abbrev pub prio_level : UserLevel Prio PrioContext
prio_level = record {
  calls = prio_calls;
  stands = prio_stands;
  keep = prio_keeps;
  rules = prio_threads;
  fits = prio_fits;
  hears = prio_hears;
  laws = prio-laws;
}
