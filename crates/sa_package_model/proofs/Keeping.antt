-- The calls keep it so.
use Rattle.sa_abstract.specs.Keeps.{Keeps}
use Rattle.sa_package_model.specs.Step.{fast_calls}
use Rattle.sa_package_model.specs.Stands.{fast_stands}
use Rattle.sa_package_model.proofs.BeginRule.{starts, later, begins, answers}
use Rattle.sa_package_model.proofs.StepRule.{told_stands, steps_well}
use Rattle.sa_package_model.proofs.GoRule.{goes, seats}

pub fast_keeps : Keeps fast_calls fast_stands
fast_keeps = record {
  starts = starts;
  later = later;
  begins = λ s e u cs a seen h none sees. begins s e u cs a h none;
  tells = λ s e u cs a c note held h is handed. told_stands s e u cs h a c is note held handed;
  answers = λ s e u cs a c seen h is sees. answers s e u cs h a c is seen;
  steps = λ s e u cs a c seen h is sees after within. steps_well s e u cs a c seen h is sees after within;
  goes = λ s e u cs a c seen n h is sees after some within local. goes s e u cs h a c is seen n after local;
  seats = λ s e u cs a c h is. seats s e u cs h a c is;
}
