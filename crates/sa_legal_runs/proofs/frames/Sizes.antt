-- Each list of the readings keeps its length.
use Rattle.std.proofs.Common.{ℕ, Option, None, List, [], ◌∷◌, ◌∙◌}
use Rattle.std.proofs.lemmas.List.{length-set}
use Rattle.sa_base.specs.declared.number.ProcNo.{ProcNo}
use Rattle.sa_base.specs.declared.record.Record.{Record}
use Rattle.sa_spaces.specs.Workload.{WorkloadView}
use Rattle.sa_devices.proofs.SoundLemmas.{length-evicted}
use Rattle.sa_laws.specs.Event.{Event}
use Rattle.sa_laws.specs.Life.{Life}
use Rattle.sa_laws.specs.Readings.{Readings}
use Rattle.sa_laws.specs.Record.{after_record}
use Rattle.sa_laws.specs.History.{Test, event_begun, after_records, after_event}
use Rattle.sa_histories.proofs.Sizes.{IsSized, sized-step}
use Rattle.sa_user_laws.specs.Moments.{AreSized}

pub sized-records : (w : WorkloadView) (e : ℕ) (p : ProcNo) (r : Readings) (xs : List Record) → IsSized w r
    → IsSized w (after_records w e p r xs)
sized-records w e p r [] sized = sized
sized-records w e p r (x ∷ xs) sized = sized-records w e p (after_record w e p r x) xs (sized-step w e p r x sized)

pub sized-begun : (w : WorkloadView) (ev : Event) (r : Readings) → IsSized w r → IsSized w (event_begun w ev r)
sized-begun w ev r sized = record {
  spaces = sized.spaces;
  running = sized.running;
  marks = sized.marks;
  lines = length-set r.lines ev.proc.0 None ∙ sized.lines;
  demands = sized.demands;
  untold = sized.untold;
  taken = sized.taken;
  ready = sized.ready;
  pages = length-evicted ev.number w.evictions r.pages ∙ sized.pages;
}

pub sized-event : (test : Test) (w : WorkloadView) (r : Readings) (ev : Event) → IsSized w r → IsSized w (after_event test w r ev)
sized-event test w r ev sized =
    let last = sized-records w ev.number ev.proc (event_begun w ev r) ev.records (sized-begun w ev r sized) in
    record {
      spaces = last.spaces;
      running = last.running;
      marks = last.marks;
      lines = last.lines;
      demands = last.demands;
      untold = last.untold;
      taken = last.taken;
      ready = last.ready;
      pages = last.pages;
    }

pub are-sized : (w : WorkloadView) (r : Readings) → IsSized w r → AreSized w r
are-sized w r sized = record {
  spaces = sized.spaces;
  ready = sized.ready;
  untold = sized.untold;
  taken = sized.taken;
  demands = sized.demands;
  pages = sized.pages;
  running = sized.running;
  lines = sized.lines;
}

-- Other lives leave all sizes.
pub sized-lives : (w : WorkloadView) (r : Readings) (lives : ℕ → Option Life) → IsSized w r → IsSized w (record r { lives = lives })
sized-lives w r lives sized = record {
  spaces = sized.spaces;
  running = sized.running;
  marks = sized.marks;
  lines = sized.lines;
  demands = sized.demands;
  untold = sized.untold;
  taken = sized.taken;
  ready = sized.ready;
  pages = sized.pages;
}
