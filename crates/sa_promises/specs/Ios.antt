-- I/Os: their numbers, lengths and pages, and how a record changes which of them are under way.
use Rattle.std.specs.Prelude.{ℕ, ◌+◌, ◌==◌, Bool, not, ◌&&◌, if◌then◌else◌, List, [], ◌∷◌, ◌++◌, filter, Option, Some, None}
use Rattle.sa_base.specs.declared.number.SpaceNo.{SpaceNo}
use Rattle.sa_base.specs.declared.number.ThreadNo.{ThreadNo}
use Rattle.sa_base.specs.declared.number.ActNo.{ActNo}
use Rattle.sa_base.specs.declared.record.Record.{Record}
use Rattle.sa_base.specs.declared.record.Record.TheVariants.{Ins, Block, Unblock, Fetch, Fetched}
use Rattle.sa_base.specs.declared.record.Item.{Item}
use Rattle.sa_base.specs.declared.limits.TheConstants.{PACKAGE_PAGE}
use Rattle.sa_spaces.specs.Workload.{WorkloadView}
use Rattle.sa_devices.specs.declared.kind.IoKind.TheVariants.{Plain, Page, Upcall}
use Rattle.sa_devices.specs.Ios.{Io}
use Rattle.sa_laws.specs.State.{State, instr_of, next_instr}
use Rattle.sa_laws.specs.Life.{some_lock}
use Rattle.sa_laws.specs.Record.{Blocking, length_in, page_in, is_thread, is_io_of_other, fetches_other}
use Rattle.sa_promises.specs.Words.{ios_begun}
use Rattle.sa_promises.specs.Moments.{machine_of, directly_before}
use Rattle.sa_promises.specs.Holdings.{locks_of}

-- the length of the `io` instruction of a thread whose record comes directly before, if one does
abbrev pub io_before : WorkloadView → State → SpaceNo → Option ThreadNo → Option Record → Option ℕ
io_before w m s t (Some (Ins of u i)) = if of.0 == s.0 && is_thread u t then length_in (instr_of w m of u i) else None
io_before w m s t _ = None

-- the page that a thread touches
abbrev pub touched : WorkloadView → State → SpaceNo → Option ThreadNo → ℕ
touched w m s None = 0
touched w m s (Some t) = page_in (next_instr w m s t)

-- which pages of which spaces are resident
abbrev pub Resident : Type 0
Resident = SpaceNo → ℕ → Bool

-- What a block is for: directly after an `io` it has the length of that, and no page; else it has the length of a fetch, and is for
-- the package's page if its life has a lock and that page is absent, and if not, for the page that its thread touches.
abbrev pub block_with : WorkloadView → List Item → Resident → SpaceNo → Option ThreadNo → ActNo → Option ℕ → Blocking
block_with w past resident s t a (Some length) = record { kind = Plain s a; length = length }
block_with w past resident s t a None = record {
  kind = Page s a (if some_lock (locks_of w past a) && not (resident s PACKAGE_PAGE) then PACKAGE_PAGE else touched w (machine_of w past) s t);
  length = w.fetch;
}

abbrev pub block_for : WorkloadView → List Item → Resident → ℕ → SpaceNo → Option ThreadNo → ActNo → Blocking
block_for w past resident event s t a = block_with w past resident s t a (io_before w (machine_of w past) s t (directly_before event past))

-- The I/Os under way: a block or a fetch begins one, whose number is that of the blocks and fetches before it, and which
-- is due from its event plus its length on; the unblock of its life ends it, or the next `fetched` of its space.
abbrev pub io_from : List Item → ℕ → Blocking → Io
io_from past event b = record { number = ios_begun past; ends = event + b.length; kind = b.kind }

abbrev pub ios_by : WorkloadView → List Item → Resident → List Io → ℕ → Record → List Io
ios_by w past resident ios event (Block s t a io) = ios ++ io_from past event (block_for w past resident event s t a) ∷ []
ios_by w past resident ios event (Fetch s) = ios ++ io_from past event (record { kind = Upcall s; length = w.fetch }) ∷ []
ios_by w past resident ios event (Unblock s t a) = filter (is_io_of_other a) ios
ios_by w past resident ios event (Fetched s) = filter (fetches_other s) ios
ios_by w past resident ios event _ = ios
