-- The calls keep it so.
use Rattle.sa_abstract.specs.Keeps.{Keeps}
use Rattle.sa_prio_model.specs.Step.{prio_calls}
use Rattle.sa_prio_model.specs.Stands.{prio_stands}
use Rattle.sa_prio_model.proofs.Calling.{prio_starts, prio_later, prio_begins, prio_tells, prio_answers, prio_goes, prio_seats}
use Rattle.sa_prio_model.proofs.Stepping.{prio_steps}

pub prio_keeps : Keeps prio_calls prio_stands
prio_keeps = record {
  starts = prio_starts;
  later = prio_later;
  begins = λ s e v cs a seen h none sees. prio_begins s e v cs h a seen none sees;
  tells = λ s e v cs a c note held h is handed. prio_tells s e v cs h a c is note held handed;
  answers = λ s e v cs a c seen h is sees. prio_answers s e v cs h a c is seen;
  steps = λ s e v cs a c seen h is sees after within. prio_steps s e v cs h a seen sees after within c is;
  goes = λ s e v cs a c seen n h is sees after some within on. prio_goes s e v cs h a c is seen n after on;
  seats = λ s e v cs a c h is. prio_seats s e v cs h a c is;
}
