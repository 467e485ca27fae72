-- What one record changes, part by part.
use Rattle.std.specs.Prelude.{◌≡◌, ℕ, Bool, true, false, List, Option, Some, None}
use Rattle.sa_base.specs.declared.number.ProcNo.{ProcNo}
use Rattle.sa_base.specs.declared.record.Record.{Record}
use Rattle.sa_base.specs.declared.record.Record.TheVariants.{Block, Unblock, Ready, Take, Run, Fetch, Fetched, Idle, Spin, Tick}
use Rattle.sa_spaces.specs.Workload.{WorkloadView}
use Rattle.sa_devices.specs.declared.kind.IoKind.TheVariants.{Upcall}
use Rattle.sa_laws.specs.Readings.{Readings, Listed, life_on}
use Rattle.sa_laws.specs.Record.{Blocking, blocking, first_list}
use Rattle.sa_check_lives.specs.Recorded.{IsForPush}
use Rattle.sa_check_ios.specs.PendingView.{PendingView, begun_for, without_life, without_fetch}
use Rattle.sa_check_ios.specs.Ready.{with_ready, without_ready}
use Rattle.sa_check_moment.specs.Seen.{Seen}

-- at a take, whether it is for a push; at a ready, the list into which the thread is put
abbrev pub ReadsPush : Readings → ProcNo → Record → Bool → Type 0
ReadsPush r p (Take s l t) for_push = IsForPush r p for_push
ReadsPush r p _ for_push = Unit {0}

abbrev pub ReadsList : Readings → ProcNo → Record → ProcNo → Type 0
ReadsList r p (Ready s t) list = list ≡ first_list (life_on r p) p
ReadsList r p _ list = Unit {0}

-- the I/O that a record begins
abbrev pub begun_by : WorkloadView → Readings → Record → Option Blocking
begun_by w r (Block s t a io) = Some (blocking w r s t a)
begun_by w r (Fetch s) = Some (record { kind = Upcall s; length = w.fetch })
begun_by w r _ = None

-- the I/Os and pages after a record that begins this one
abbrev pub ended_by : Record → PendingView → PendingView
ended_by (Unblock s t a) v = without_life a v
ended_by (Fetched s) v = without_fetch s v
ended_by _ v = v

abbrev pub pending_after : Option Blocking → ℕ → Record → PendingView → PendingView
pending_after None e x v = ended_by x v
pending_after (Some b) e x v = begun_for b e v

-- the ready threads after a record, where a thread that it makes ready is put into this list
abbrev pub ready_after : ProcNo → Record → List (List Listed) → List (List Listed)
ready_after l (Ready s t) ready = with_ready ready s t l
ready_after l (Run s t) ready = without_ready ready s t
ready_after l _ ready = ready

-- a record that changes nothing but which record comes directly before the next
abbrev pub changes_nothing : Record → Bool
changes_nothing Idle = true
changes_nothing (Spin l) = true
changes_nothing Tick = true
changes_nothing _ = false

-- the moment after such a record
abbrev pub passing : Record → Seen → Seen
passing x m = record m { readings = record m.readings { last = Some x } }
