-- Resident pages, and with them the I/Os under way.
use Rattle.std.specs.Prelude.{ℕ, ◌==◌, Bool, true, false, not, ◌&&◌, if◌then◌else◌, List, [], find, Option, Some, None}
use Rattle.std.specs.List.{list_any}
use Rattle.sa_base.specs.declared.number.SpaceNo.{SpaceNo}
use Rattle.sa_base.specs.declared.record.Record.{Record}
use Rattle.sa_base.specs.declared.record.Record.TheVariants.{Unblock, Fetched}
use Rattle.sa_base.specs.declared.record.Item.{Item}
use Rattle.sa_spaces.specs.Workload.{WorkloadView}
use Rattle.sa_spaces.specs.declared.workload.Evict.{Evict}
use Rattle.sa_devices.specs.declared.kind.IoKind.{IoKind}
use Rattle.sa_devices.specs.declared.kind.IoKind.TheVariants.{Plain, Page, Upcall}
use Rattle.sa_devices.specs.Ios.{Io, fetches}
use Rattle.sa_devices.specs.Pages.{upcall_page}
use Rattle.sa_laws.specs.State.{space_def}
use Rattle.sa_laws.specs.Record.{is_io_of}
use Rattle.sa_promises.specs.Along.{along}
use Rattle.sa_promises.specs.Moments.{is_first}
use Rattle.sa_promises.specs.Ios.{Resident, ios_by}

-- the page is one that its space says is absent at the opening; an evict line of the event names it
abbrev pub is_absent : WorkloadView → SpaceNo → ℕ → Bool
is_absent w s page = list_any (λ k. k == page) (space_def w s).absent

abbrev pub names_page : ℕ → SpaceNo → ℕ → Evict → Bool
names_page event s page e = e.event == event && (e.space.0 == s.0 && e.page == page)

abbrev pub is_evicted : WorkloadView → ℕ → SpaceNo → ℕ → Bool
is_evicted w event s page = list_any (names_page event s page) w.evictions

-- an I/O is for this page; an I/O for it is over at a record
abbrev pub is_kind_for : SpaceNo → ℕ → IoKind → Bool
is_kind_for s page (Plain of a) = false
is_kind_for s page (Page of a k) = of.0 == s.0 && k == page
is_kind_for s page (Upcall of) = of.0 == s.0 && upcall_page == page

abbrev pub is_io_for : SpaceNo → ℕ → Option Io → Bool
is_io_for s page None = false
is_io_for s page (Some io) = is_kind_for s page io.kind

abbrev pub comes_at : List Io → SpaceNo → ℕ → Record → Bool
comes_at ios s page (Unblock of t a) = is_io_for s page (find (is_io_of a) ios)
comes_at ios s page (Fetched of) = is_io_for s page (find (fetches of.0) ios)
comes_at ios s page _ = false

-- before a record the pages are as the record before left them; but before the first record of an event its evict lines are done
abbrev pub evicted_if : Bool → WorkloadView → ℕ → SpaceNo → ℕ → Bool → Bool
evicted_if begins w event s page old = if begins && is_evicted w event s page then false else old

abbrev pub pages_before : WorkloadView → List Item → ℕ → Resident → Resident
pages_before w past event resident s page = evicted_if (is_first event past) w event s page (resident s page)

-- A page is resident by the last of these that names it: the absent pages of the opening, the evict lines of events, each
-- before the event's records, and the completions of I/Os for it; one that none names is resident. What a block is for depends on
-- this, and which I/Os there are to be completed on the blocks: so pages and I/Os are one value along the items.
pub record Devices : Type 0 where
  pub ios : List Io
  pub resident : Resident

abbrev pub first_devices : WorkloadView → Devices
first_devices w = record { ios = []; resident = λ s page. not (is_absent w s page) }

abbrev pub devices_at : WorkloadView → List Item → Devices → Item → Devices
devices_at w past old x = record {
  ios = ios_by w past (pages_before w past x.event old.resident) old.ios x.event x.what;
  resident = λ s page. if comes_at old.ios s page x.what then true else pages_before w past x.event old.resident s page;
}

abbrev pub devices_of : WorkloadView → List Item → Devices
devices_of w items = along (devices_at w) (first_devices w) items

abbrev pub ios_of : WorkloadView → List Item → List Io
ios_of w items = (devices_of w items).ios

abbrev pub is_resident_in : WorkloadView → List Item → SpaceNo → ℕ → Bool
is_resident_in w items s page = (devices_of w items).resident s page
