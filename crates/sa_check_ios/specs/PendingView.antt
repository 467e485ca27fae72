-- What a contract sees of the I/Os under way and the resident pages, and what each record does to them.
use Rattle.std.specs.Prelude.{◌≡◌, ℕ, ◌+◌, List, [], ◌∷◌, ◌++◌, map, find, filter}
use Rattle.sa_base.specs.declared.number.ProcNo.{ProcNo}
use Rattle.sa_base.specs.declared.number.SpaceNo.{SpaceNo}
use Rattle.sa_base.specs.declared.number.ActNo.{ActNo}
use Rattle.sa_base.specs.declared.record.Record.{Record}
use Rattle.sa_base.specs.declared.record.Record.TheVariants.{Block, Unblock, Fetch, Fetched}
use Rattle.sa_spaces.specs.Workload.{WorkloadView}
use Rattle.sa_devices.specs.Ios.{Io, fetches}
use Rattle.sa_devices.specs.Pages.{opening_pages}
use Rattle.sa_devices.specs.declared.kind.IoKind.{IoKind}
use Rattle.sa_devices.specs.declared.kind.IoKind.TheVariants.{Upcall}
use Rattle.sa_laws.specs.Readings.{Readings}
use Rattle.sa_laws.specs.Record.{after_record, blocking, Blocking, with_page, is_io_of, is_io_of_other, fetches_other}

pub record PendingView : Type 0 where
  -- how many I/Os were begun, which is the number of the next; and those under way
  pub io_count : ℕ
  pub under_way : List Io
  -- of each space: bit k says that page k is resident
  pub pages : List ℕ

-- these are parts of the readings of a history
abbrev pub pending_of : Readings → PendingView
pending_of r = record { io_count = r.io_count; under_way = r.under_way; pages = r.pages }

-- before any record
abbrev pub opened : WorkloadView → PendingView
opened w = record { io_count = 0; under_way = []; pages = map opening_pages w.spaces }

-- an I/O begins, and is due `length` events after this one
abbrev pub begun_with : IoKind → ℕ → ℕ → PendingView → PendingView
begun_with kind event length v = record v {
  io_count = v.io_count + 1;
  under_way = v.under_way ++ record { number = v.io_count; ends = event + length; kind = kind } ∷ [];
}

-- that of a life is over; the fetch of a space's upcall page is
abbrev pub without_life : ActNo → PendingView → PendingView
without_life a v = record v {
  under_way = filter (is_io_of_other a) v.under_way;
  pages = with_page v.pages (find (is_io_of a) v.under_way);
}

abbrev pub without_fetch : SpaceNo → PendingView → PendingView
without_fetch s v = record v {
  under_way = filter (fetches_other s) v.under_way;
  pages = with_page v.pages (find (fetches s.0) v.under_way);
}

-- what a record of an event does, at these readings
abbrev pub begun_for : Blocking → ℕ → PendingView → PendingView
begun_for b event v = begun_with b.kind event b.length v

abbrev pub recorded : WorkloadView → ℕ → Readings → Record → PendingView → PendingView
recorded w e r (Block s t a io) v = begun_for (blocking w r s t a) e v
recorded w e r (Fetch s) v = begun_with (Upcall s) e w.fetch v
recorded w e r (Unblock s t a) v = without_life a v
recorded w e r (Fetched s) v = without_fetch s v
recorded w e r _ v = v

-- the readings after a record are what it does to those before it
abbrev pub RecordsAreRead : Type 0
RecordsAreRead = (w : WorkloadView) (e : ℕ) (p : ProcNo) (r : Readings) (x : Record)
    → pending_of (after_record w e p r x) ≡ recorded w e r x (pending_of r)
