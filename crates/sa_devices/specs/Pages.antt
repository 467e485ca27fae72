-- The resident pages of each space: a number whose bit k says that page k is resident.
use Rattle.std.specs.Prelude.{ℕ, ◌-◌, ◌^◌, ◌<◌, ◌≤◌, ◌==◌, if◌then◌else◌, List, [], ◌∷◌, bit_and, bit_or, slice_index, slice_set}
use Rattle.sa_base.specs.declared.limits.TheConstants.{PAGES}
use Rattle.sa_instr.specs.declared.limits.TheConstants.{LAST_PAGE}
use Rattle.sa_spaces.specs.declared.workload.Evict.{Evict}
use Rattle.sa_spaces.specs.Space.{SpaceView}
use Rattle.sa_devices.specs.declared.kind.IoKind.{IoKind}
use Rattle.sa_devices.specs.declared.kind.IoKind.TheVariants.{Plain, Page, Upcall}

-- the pages of a space with page k, and without it
abbrev pub with_page : ℕ → ℕ → ℕ
with_page bits k = bit_or bits (2 ^ k)

abbrev pub without_page : ℕ → ℕ → ℕ
without_page bits k = bit_and bits (2 ^ 16 - 1 - 2 ^ k)

abbrev pub without_pages : ℕ → List ℕ → ℕ
without_pages bits [] = bits
without_pages bits (k ∷ ks) = without_pages (without_page bits k) ks

-- at the opening all pages but those that the space says are absent
abbrev pub opening_pages : SpaceView → ℕ
opening_pages s = without_pages (2 ^ 16 - 1) s.absent

-- the page that an upcall needs
abbrev pub upcall_page : ℕ
upcall_page = 0

-- the page of a space becomes resident
abbrev pub come : List ℕ → ℕ → ℕ → List ℕ
come pages s k = slice_set pages s (with_page (slice_index pages s) k)

-- the page of a space becomes absent
abbrev pub gone : List ℕ → ℕ → ℕ → List ℕ
gone pages s k = slice_set pages s (without_page (slice_index pages s) k)

-- the pages when an I/O is over: its page is resident
abbrev pub completed : IoKind → List ℕ → List ℕ
completed (Plain s a) pages = pages
completed (Page s a k) pages = come pages s.0 k
completed (Upcall s) pages = come pages s.0 upcall_page

-- the pages when the evictions of an event are done
abbrev pub evicted : ℕ → List Evict → List ℕ → List ℕ
evicted event [] pages = pages
evicted event (e ∷ es) pages = evicted event es (if e.event == event then gone pages e.space.0 e.page else pages)

-- the I/O is for one of n spaces, and a page that it is for is not the upcall page
abbrev pub IsKind : ℕ → IoKind → Type 0
IsKind spaces (Plain s a) = s.0 < spaces
IsKind spaces (Page s a k) = (s.0 < spaces) × (1 ≤ k) × (k ≤ LAST_PAGE)
IsKind spaces (Upcall s) = s.0 < spaces

-- a page that an I/O is for is one of a space's
abbrev pub HasPage : IoKind → Type 0
HasPage (Page s a page) = page < PAGES
HasPage _ = Unit {0}
