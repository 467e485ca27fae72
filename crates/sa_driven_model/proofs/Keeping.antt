-- The calls keep it so.
use Rattle.sa_abstract.specs.Keeps.{Keeps}
use Rattle.sa_driven_model.specs.Step.{driven_calls}
use Rattle.sa_driven_model.specs.Stands.{driven_stands}
use Rattle.sa_driven_model.proofs.BeginRule.{starts, later, begins, answers}
use Rattle.sa_driven_model.proofs.StepRule.{told_stands, steps_well}
use Rattle.sa_driven_model.proofs.GoRule.{goes, seats}

pub driven_keeps : Keeps driven_calls driven_stands
driven_keeps = record {
  starts = starts;
  later = later;
  begins = λ s e u cs a seen h none sees. begins s e u cs a h none;
  tells = λ s e u cs a c note held h is handed. told_stands s e u cs h a c is note held handed;
  answers = λ s e u cs a c seen h is sees. answers s e u cs h a c is seen;
  steps = steps_well;
  goes = λ s e u cs a c seen n h is sees after some within local. goes s e u cs h a c is seen n after local;
  seats = λ s e u cs a c h is. seats s e u cs h a c is;
}
