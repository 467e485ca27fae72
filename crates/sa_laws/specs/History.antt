-- What is read off a history, event by event: one fold over its events and their records.
use Rattle.std.specs.Prelude.{Option, ℕ, ◌+◌, Bool, true, false, not, ◌&&◌, ◌||◌, nat_lt, is_none, if◌then◌else◌, List, [], ◌∷◌, take, None, slice_set}
use Rattle.std.specs.List.{list_any}
use Rattle.sa_base.specs.declared.number.ProcNo.{ProcNo}
use Rattle.sa_base.specs.declared.record.Record.{Record}
use Rattle.sa_base.specs.declared.record.Record.TheVariants.{Ins, Run, Block, Cont, Back, Ready, Take, Free, Up, Want, Line, GiveBack, Idle, Spin}
use Rattle.sa_spaces.specs.Workload.{WorkloadView}
use Rattle.sa_devices.specs.Pages.{evicted}
use Rattle.sa_laws.specs.declared.place.Place.{Place}
use Rattle.sa_laws.specs.declared.place.Place.TheVariants.{Running, Blocked}
use Rattle.sa_laws.specs.Event.{Event}
use Rattle.sa_laws.specs.State.{thread_at}
use Rattle.sa_laws.specs.Life.{Life, has_lock}
use Rattle.sa_laws.specs.Readings.{Readings, opening_readings, demand_of, usable, running_of, carried_by, has_hand, many_taken}
use Rattle.sa_laws.specs.Record.{after_record, with_life}

-- at the beginning of an event its evictions are done and its processor's line is low
abbrev pub event_begun : WorkloadView → Event → Readings → Readings
event_begun w e r = record r {
  lines = slice_set r.lines e.proc.0 None;
  pages = evicted e.number w.evictions r.pages;
  last = None;
  moved = None;
}

abbrev pub after_records : WorkloadView → ℕ → ProcNo → Readings → List Record → Readings
after_records w e p r [] = r
after_records w e p r (x ∷ xs) = after_records w e p (after_record w e p r x) xs

-- the moment before a record of an event, which comes after these
abbrev pub behind : WorkloadView → Event → Readings → List Record → Readings
behind w e r records = after_records w e.number e.proc (event_begun w e r) records

-- the moment after all records of an event
abbrev pub behind_all : WorkloadView → Event → Readings → Readings
behind_all w e r = behind w e r e.records

-- an event is a step of its processor's running life where it begins with one of these; else that life has no part in
-- it
abbrev pub is_step : Record → Bool
is_step (Ins s t i) = true
is_step (Run s t) = true
is_step (Block s t a io) = true
is_step (Cont s t) = true
is_step (Back s t) = true
is_step (Ready s t) = true
is_step (Take s l t) = true
is_step (Free s l t) = true
is_step (Want s n) = true
is_step (Line q) = true
is_step (GiveBack a) = true
is_step Idle = true
is_step (Spin l) = true
is_step _ = false

abbrev pub is_up : Record → Bool
is_up (Up s a) = true
is_up _ = false

abbrev pub is_free : Record → Bool
is_free (Free s l t) = true
is_free _ = false

-- a step settles its life, but for these four: an instruction after which the life's thread runs or is blocked, an idle
-- record, a lowering hint, and the life's block
abbrev pub is_running_or_blocked : Place → Bool
is_running_or_blocked (Running p) = true
is_running_or_blocked Blocked = true
is_running_or_blocked _ = false

abbrev pub settles : Readings → Readings → Record → Bool
settles before after (Ins s t i) = not (is_running_or_blocked (thread_at after.state s t).place)
settles before after Idle = false
settles before after (Want s n) = not (nat_lt n (demand_of before s))
settles before after (Block s t a io) = false
settles before after _ = true

-- the scan count after a step
abbrev pub scans_after : Readings → Record → ℕ → ℕ
scans_after before Idle scans = scans + 1
scans_after before (Want s n) scans = if nat_lt n (demand_of before s) then scans else 0
scans_after before _ scans = 0

-- the test of a user level: which lives are in. It is asked at the end of each own event of a life, and sees the moment
-- before the event, the event, the moment after its records, whether the event settled the life, and the life.
abbrev pub Test : Type 0
Test = WorkloadView → Readings → Event → Readings → Bool → Life → Bool

-- FastThreads' test: at the end of its last own event the life had a lock, or a cont without its back, or a thread in
-- its hand; or that event settled it, and the demand was below what the load can use, or it carried no thread while 8
-- or more lives of its space were taken and not given back
abbrev pub is_inside : Test
is_inside w before e after settled life =
    has_lock life || life.cont || has_hand after life
    || (settled && nat_lt (demand_of after life.space) (usable w after life.space))
    || (settled && is_none (carried_by after life) && many_taken after life.space)

-- a life at the end of an own event that began with this record, and at the end of the event of its up
abbrev pub stepped : Test → WorkloadView → Readings → Event → Readings → Record → Life → Life
stepped test w before e after first life = record life {
  freed = is_free first;
  scans = scans_after before first life.scans;
  inside = test w before e after (settles before after first) life;
}

abbrev pub arisen : Test → WorkloadView → Readings → Event → Readings → Life → Life
arisen test w before e after life = record life { inside = test w before e after true life }

-- the lives after an event: the one that ran on the processor before it is changed where the event is a step of it, and
-- that of an up in the event
abbrev pub with_step : Test → WorkloadView → Readings → Event → Readings → List Record → (ℕ → Option Life) → ℕ → Option Life
with_step test w before e after [] lives = lives
with_step test w before e after (first ∷ others) lives =
    if is_step first then with_life (stepped test w before e after first) (running_of before e.proc) lives else lives

abbrev pub with_up : Test → WorkloadView → Readings → Event → Readings → (ℕ → Option Life) → ℕ → Option Life
with_up test w before e after lives =
    if list_any is_up e.records then with_life (arisen test w before e after) (running_of after e.proc) lives else lives

-- the moment after an event
abbrev pub ended : Test → WorkloadView → Readings → Event → Readings → Readings
ended test w before e after = record after {
  number = after.number + 1;
  lives = with_up test w before e after (with_step test w before e after e.records after.lives);
  last = None;
  moved = None;
}

abbrev pub after_event : Test → WorkloadView → Readings → Event → Readings
after_event test w r e = ended test w r e (behind_all w e r)

abbrev pub after_events : Test → WorkloadView → Readings → List Event → Readings
after_events test w r [] = r
after_events test w r (e ∷ es) = after_events test w (after_event test w r e) es

-- what is read off a history, and before the event at a place of it
abbrev pub readings : Test → WorkloadView → List Event → Readings
readings test w events = after_events test w (opening_readings w) events

abbrev pub read_before : Test → WorkloadView → List Event → ℕ → Readings
read_before test w events n = readings test w (take n events)
