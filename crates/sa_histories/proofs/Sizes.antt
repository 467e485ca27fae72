-- What is read has an entry for each processor and each space of the workload, and each record keeps it so.
use Rattle.std.proofs.Common.{◌≡◌, ℕ, refl, ◌∙◌, Some, None, List, length, false}
use Rattle.std.specs.Prelude.{Option, filter}
use Rattle.std.proofs.lemmas.List.{length-map, length-set}
use Rattle.sa_base.specs.declared.number.ProcNo.{ProcNo}
use Rattle.sa_base.specs.declared.number.SpaceNo.{SpaceNo}
use Rattle.sa_base.specs.declared.number.ThreadNo.{ThreadNo}
use Rattle.sa_base.specs.declared.record.Note.TheVariants as note
use Rattle.sa_base.specs.declared.record.Record.{Record}
use Rattle.sa_base.specs.declared.record.Record.TheVariants.{Ins, Run, Stop, Block, Unblock, Cont, Back, Ready, Up, Told, Move, Want, GiveBack}
use Rattle.sa_spaces.specs.Workload.{WorkloadView}
use Rattle.sa_devices.specs.Ios.{Io}
use Rattle.sa_devices.proofs.SoundLemmas.{length-completed}
use Rattle.sa_laws.specs.declared.place.Place.{Place}
use Rattle.sa_laws.specs.State.{State, placed_if}
use Rattle.sa_laws.specs.Machine.{changed}
use Rattle.sa_laws.specs.Readings.{Readings, space_of_life}
use Rattle.sa_laws.specs.Record.{after_record, marks_after, untold_after, taken_after, ready_after, pages_after, with_page, io_over, is_other_note}
use Rattle.sa_laws.proofs.Lengths.{running-length, demands-length, lines-length, with-length, without-length}

pub record IsSized (w : WorkloadView) (r : Readings) : Type 0 where
  pub spaces : length r.state.spaces ≡ length w.spaces
  pub running : length r.running ≡ w.processors
  pub marks : length r.marks ≡ w.processors
  pub lines : length r.lines ≡ w.processors
  pub demands : length r.demands ≡ length w.spaces
  pub untold : length r.untold ≡ length w.spaces
  pub taken : length r.taken ≡ length w.spaces
  pub ready : length r.ready ≡ length w.spaces
  pub pages : length r.pages ≡ length w.spaces

-- the spaces of the abstract machine
placed-length : (a : State) (s : SpaceNo) (t : Option ThreadNo) (place : Place) → length (placed_if a s t place).spaces ≡ length a.spaces
placed-length a s None place = refl
placed-length a s (Some t) place = length-set a.spaces s.0 _

pub spaces-length : (w : WorkloadView) (p : ProcNo) (a : State) (x : Record) → length (changed w p a x).spaces ≡ length a.spaces
spaces-length w p a (Ins s t i) = length-set a.spaces s.0 _
spaces-length w p a (Stop s t b) = placed-length a s t _
spaces-length w p a (Block s t b io) = placed-length a s t _
spaces-length w p a (Unblock s t b) = placed-length a s t _
spaces-length w p a (Cont s t) = placed-length a s t _
spaces-length w p a (Back s t) = placed-length a s t _
spaces-length w p a (Run s t) = length-set a.spaces s.0 _
spaces-length w p a (Ready s t) = length-set a.spaces s.0 _
spaces-length w p a (Move old new) = refl
spaces-length w p a x = refl

-- the idle marks
pub marks-length : (p : ProcNo) (r : Readings) (x : Record) → length (marks_after p r x) ≡ length r.marks
marks-length p r (Up s a) = length-set r.marks p.0 false
marks-length p r (Want s n) = length-set r.marks p.0 _
marks-length p r x = refl

-- what is untold
pub untold-length : (r : Readings) (x : Record) → length (untold_after r x) ≡ length r.untold
untold-length r (Stop of t a) = length-set r.untold of.0 _
untold-length r (Block of t a io) = length-set r.untold of.0 _
untold-length r (Unblock of t a) = length-set r.untold of.0 _
untold-length r (Told m) = length-map r.untold (filter (is_other_note m))
untold-length r x = refl

-- the ready threads
pub ready-length : (p : ProcNo) (r : Readings) (x : Record) → length (ready_after p r x) ≡ length r.ready
ready-length p r (Ready s t) = length-set r.ready s.0 _
ready-length p r (Run s t) = length-set r.ready s.0 _
ready-length p r x = refl

-- the taken lives
pub taken-length : (r : Readings) (x : Record) → length (taken_after r x) ≡ length r.taken
taken-length r (Told (note.Preempted a)) = with-length r.taken (space_of_life r (Some a)) a
taken-length r (Told (note.Unblocked a)) = with-length r.taken (space_of_life r (Some a)) a
taken-length r (GiveBack a) = without-length r.taken (space_of_life r (Some a)) a
taken-length r _ = refl

-- the resident pages
over-length : (pages : List ℕ) (o : Option Io) → length (with_page pages o) ≡ length pages
over-length pages None = refl
over-length pages (Some io) = length-completed io.kind pages

pub pages-length : (r : Readings) (x : Record) → length (pages_after r x) ≡ length r.pages
pages-length r x = over-length r.pages (io_over r x)

pub sized-step : (w : WorkloadView) (e : ℕ) (p : ProcNo) (r : Readings) (x : Record) → IsSized w r → IsSized w (after_record w e p r x)
sized-step w e p r x sized = record {
  spaces = spaces-length w p r.state x ∙ sized.spaces;
  running = running-length p r.running x ∙ sized.running;
  marks = marks-length p r x ∙ sized.marks;
  lines = lines-length e r.lines x ∙ sized.lines;
  demands = demands-length r.demands x ∙ sized.demands;
  untold = untold-length r x ∙ sized.untold;
  taken = taken-length r x ∙ sized.taken;
  ready = ready-length p r x ∙ sized.ready;
  pages = pages-length r x ∙ sized.pages;
}
