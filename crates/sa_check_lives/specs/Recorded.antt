-- What a record does to the lives, as the readings of a history say it.
use Rattle.std.specs.Prelude.{◌≡◌, ℕ, ◌==◌, Bool, true, false, List, [], Option, Some}
use Rattle.sa_base.specs.declared.number.ProcNo.{ProcNo}
use Rattle.sa_base.specs.declared.number.ThreadNo.{ThreadNo}
use Rattle.sa_base.specs.declared.number.ActNo.{ActNo}
use Rattle.sa_base.specs.declared.record.Record.{Record}
use Rattle.sa_base.specs.declared.record.Record.TheVariants.{Ins, Run, Stop, Block, Unblock, Cont, Back, Ready, Take, Free, Up, Told, GiveBack}
use Rattle.sa_spaces.specs.Workload.{WorkloadView}
use Rattle.sa_laws.specs.Event.{Event}
use Rattle.sa_laws.specs.Life.{Life, Lock, with_hand, with_first, ran, with_cont, with_lock, without_lock}
use Rattle.sa_laws.specs.Readings.{Readings, life_on, has_hand}
use Rattle.sa_laws.specs.Record.{after_record, back_with, made_ready, with_life}
use Rattle.sa_laws.specs.Machine.{next_effect}
use Rattle.sa_laws.specs.History.{Test, is_free, scans_after, settles, stepped, arisen}
use Rattle.sa_check_lives.specs.declared.change.Stepped.{Stepped}
use Rattle.sa_check_lives.specs.Change.{stepped_by, arisen_by, scans_by}
use Rattle.sa_check_lives.specs.View.{LivesView, read_of, changed_on, with_up, stopped, blocked, unblocked, told, given_back}

-- a lock at its take on a processor
abbrev pub taken_lock : ProcNo → ProcNo → Option ThreadNo → Bool → Lock
taken_lock p l t for_push = record {
  list = l;
  thread = t;
  for_push = for_push;
  used = false;
  own = l.0 == p.0;
  inherited = false;
}

-- the lives after a record of a processor, where its instruction roused these threads, and its take is for a push or not
abbrev pub recorded : List ThreadNo → Bool → ProcNo → Record → LivesView → LivesView
recorded roused for_push p (Ins s t i) v = changed_on (with_hand roused) p v
recorded roused for_push p (Run s t) v = changed_on (with_first (ran t)) p v
recorded roused for_push p (Stop s t a) v = stopped p s t a v
recorded roused for_push p (Block s t a io) v = blocked p s t a v
recorded roused for_push p (Unblock s t a) v = unblocked s t a v
recorded roused for_push p (Cont s t) v = changed_on (with_cont true) p v
recorded roused for_push p (Back s t) v = changed_on (back_with t) p v
recorded roused for_push p (Ready s t) v = changed_on (made_ready t) p v
recorded roused for_push p (Take s l t) v = changed_on (with_lock (taken_lock p l t for_push)) p v
recorded roused for_push p (Free s l t) v = changed_on without_lock p v
recorded roused for_push p (Up s a) v = with_up p s a v
recorded roused for_push p (Told note) v = told note v
recorded roused for_push p (GiveBack a) v = given_back a v
recorded roused for_push p _ v = v

-- the threads that a record's instruction rouses
abbrev pub roused_by : WorkloadView → Readings → Record → List ThreadNo
roused_by w r (Ins s t i) = (next_effect w r.state s t).roused
roused_by w r _ = []

-- a take of the life that runs on a processor would be for a push, or not
pub record IsForPush (r : Readings) (p : ProcNo) (for_push : Bool) : Type 0 where
  pub each : (life : Life) → life_on r p ≡ Some life → for_push ≡ has_hand r life

-- the readings of lives after a record are what the calls make of those before it
abbrev pub RecordsAreRead : Type 0
RecordsAreRead = (w : WorkloadView) (e : ℕ) (p : ProcNo) (r : Readings) (x : Record) (for_push : Bool)
    → IsForPush r p for_push → read_of (after_record w e p r x) ≡ recorded (roused_by w r x) for_push p x (read_of r)

-- what was said of a step is what the readings say of it, at the life of this number
pub record IsSaid (test : Test) (w : WorkloadView) (before : Readings) (e : Event) (after : Readings) (first : Record) (a : Option ActNo)
    (lives : ℕ → Option Life) (x : Stepped) : Type 0 where
  pub freed : x.freed ≡ is_free first
  pub scan : (scans : ℕ) → scans_by x.scan scans ≡ scans_after before first scans
  pub inside : (act : ActNo) (life : Life) → a ≡ Some act → lives act.0 ≡ Some life
      → x.inside ≡ test w before e after (settles before after first) life

-- a step, and the event of an up, change a life as the readings say
abbrev pub StepsAreRead : Type 0
StepsAreRead = (test : Test) (w : WorkloadView) (before : Readings) (e : Event) (after : Readings) (first : Record)
    (a : Option ActNo) (lives : ℕ → Option Life) (x : Stepped)
    → IsSaid test w before e after first a lives x
    → with_life (stepped test w before e after first) a lives ≡ with_life (stepped_by x) a lives

abbrev pub UpsAreRead : Type 0
UpsAreRead = (test : Test) (w : WorkloadView) (before : Readings) (e : Event) (after : Readings)
    (a : Option ActNo) (lives : ℕ → Option Life) (inside : Bool)
    → ((act : ActNo) (life : Life) → a ≡ Some act → lives act.0 ≡ Some life → inside ≡ test w before e after true life)
    → with_life (arisen test w before e after) a lives ≡ with_life (arisen_by inside) a lives
