-- Readings of the own events of a life: which they are, which of them settle it, whether the life is in, how often it found
-- no thread, and whether its last own event was a free.
use Rattle.std.specs.Prelude.{ℕ, ◌+◌, Bool, true, false, not, ◌&&◌, ◌||◌, nat_lt, nat_le, min, if◌then◌else◌, is_none, List, [], ◌∷◌, ◌++◌, length, Option, Some, None}
use Rattle.std.specs.List.{list_any}
use Rattle.sa_base.specs.declared.number.ActNo.{ActNo}
use Rattle.sa_base.specs.declared.number.SpaceNo.{SpaceNo}
use Rattle.sa_base.specs.declared.limits.TheConstants.{BULK_RETURN}
use Rattle.sa_base.specs.declared.record.Note.TheVariants.{Preempted, Unblocked}
use Rattle.sa_base.specs.declared.record.Record.{Record}
use Rattle.sa_base.specs.declared.record.Record.TheVariants.{Ins, Stop, Block, Unblock, Free, Up, Told, Want, Fetched, Idle}
use Rattle.sa_base.specs.declared.record.Item.{Item}
use Rattle.sa_base.specs.Items.{items_at}
use Rattle.sa_spaces.specs.Workload.{WorkloadView}
use Rattle.sa_lemmas.specs.Function.{put}
use Rattle.sa_laws.specs.Event.{Event, items_of}
use Rattle.sa_laws.specs.State.{space_at, thread_at, runner_on}
use Rattle.sa_laws.specs.Life.{some_lock}
use Rattle.sa_laws.specs.Readings.{counts}
use Rattle.sa_laws.specs.History.{is_running_or_blocked, is_up}
use Rattle.sa_base.specs.declared.package.PackageName.{PackageName}
use Rattle.sa_promises.specs.Words.{last_want}
use Rattle.sa_promises.specs.Along.{along}
use Rattle.sa_promises.specs.Moments.{Home, machine_of, runs_on, home_of}
use Rattle.sa_promises.specs.Loads.{load_in}
use Rattle.sa_promises.specs.Urged.{is_urged, asked_at}
use Rattle.sa_promises.specs.Holdings.{change, locks_of, hand_of, has_cont, taken_in}

-- Of each number a value, which the up of its life sets, and the telling of its stop or unblock too where that is given.
abbrev pub told_of : {A : Type 0} → Option A → ActNo → (ℕ → A) → ℕ → A
told_of None a has = has
told_of (Some value) a has = put has a.0 value

abbrev pub renewed_at : {A : Type 0} → A → Option A → Record → (ℕ → A) → ℕ → A
renewed_at first told (Up s a) has = put has a.0 first
renewed_at first told (Told (Preempted a)) has = told_of told a has
renewed_at first told (Told (Unblocked a)) has = told_of told a has
renewed_at first told _ has = has

abbrev pub renewed : {A : Type 0} → A → Option A → List Record → (ℕ → A) → ℕ → A
renewed first told [] has = has
renewed first told (x ∷ xs) has = renewed first told xs (renewed_at first told x has)

-- An event is an own event of the life that runs on its processor before it, if it begins neither with a stop, as an
-- interrupt does, nor with an unblock or a `fetched`, as a completion does. The event with a life's up is its first own
-- event; the one with its block is its last.
abbrev pub begins_otherwise : List Record → Bool
begins_otherwise [] = true
begins_otherwise (Stop s t a ∷ others) = true
begins_otherwise (Unblock s t a ∷ others) = true
begins_otherwise (Fetched s ∷ others) = true
begins_otherwise (first ∷ others) = false

abbrev pub stepping : List Item → Event → Option ActNo
stepping past e = if begins_otherwise e.records then None else runs_on past e.proc

abbrev pub rising : List Item → Event → Option ActNo
rising now e = if list_any is_up e.records then runs_on now e.proc else None

-- the items up to the end of an event
abbrev pub with_event : List Item → Event → List Item
with_event past e = past ++ items_at e.number e.proc e.records

-- An own event settles its life, but for four: an instruction after which its thread runs or is blocked, an idle record, a
-- lowering hint, and the life's block. (The event of its up settles it too.)
abbrev pub settles_by : WorkloadView → List Item → List Item → Record → Bool
settles_by w past now (Ins s t i) = not (is_running_or_blocked (thread_at (machine_of w now) s t).place)
settles_by w past now Idle = false
settles_by w past now (Want s n) = not (nat_lt n (last_want past s))
settles_by w past now (Block s t a io) = false
settles_by w past now _ = true

abbrev pub settles_at : WorkloadView → List Item → List Item → List Record → Bool
settles_at w past now [] = false
settles_at w past now (first ∷ others) = settles_by w past now first

-- at a moment: the life has a lock, an open cont, or a thread in its hand that is carried or due
abbrev pub has_something : WorkloadView → List Item → ActNo → Home → Bool
has_something w now a home =
    some_lock (locks_of w now a) || has_cont now a
    || list_any (counts (space_at (machine_of w now) home.space)) (hand_of w now a)

-- It owes a want where its space announced less than its load can use, and owes a return where it carries no thread while
-- 8 or more lives of its space are taken.
abbrev pub owes_want : WorkloadView → List Item → Home → Bool
owes_want w now home = nat_lt (last_want now home.space) (min w.processors (load_in w now home.space))

abbrev pub owes_return : WorkloadView → List Item → Home → Bool
owes_return w now home =
    is_none (runner_on (machine_of w now) home.proc) && nat_le BULK_RETURN (length (taken_in now home.space))

-- A life is in where at the end of its last own event it had something; or where that event settled it, and it owed a want
-- or a return then, or by thread priorities its space had a pair. Once it is told of, it is in no longer.
abbrev pub is_in_with : WorkloadView → List Item → (SpaceNo → Bool) → Bool → ActNo → Option Home → Bool
is_in_with w now urged settled a None = false
is_in_with w now urged settled a (Some home) =
    has_something w now a home || (settled && owes_want w now home) || (settled && owes_return w now home)
    || (settled && urged home.space)

abbrev pub is_in_at : WorkloadView → List Item → (SpaceNo → Bool) → Bool → ActNo → Bool
is_in_at w now urged settled a = is_in_with w now urged settled a (home_of now a)

abbrev pub set_in : WorkloadView → List Item → (SpaceNo → Bool) → Bool → Option ActNo → (ℕ → Bool) → ℕ → Bool
set_in w now urged settled None has = has
set_in w now urged settled (Some a) has = put has a.0 (is_in_at w now urged settled a)

abbrev pub in_with : WorkloadView → List Item → (SpaceNo → Bool) → List Item → Event → (ℕ → Bool) → ℕ → Bool
in_with w past urged now e has =
    set_in w now urged true (rising now e)
    (set_in w now urged (settles_at w past now e.records) (stepping past e) (renewed false (Some false) e.records has))

abbrev pub in_by : PackageName → WorkloadView → List Event → (ℕ → Bool) → Event → ℕ → Bool
in_by which w before has e =
    let past = items_of before in
    in_with w past (is_urged which w (asked_at past e)) (with_event past e) e has

abbrev pub is_in : PackageName → WorkloadView → List Event → ActNo → Bool
is_in which w events a = along (in_by which w) (λ b. false) events a.0

-- A life whose stop was recorded was idle then, where directly before it was not in and its stop names no thread.
abbrev pub idle_at : (ℕ → Bool) → Record → (ℕ → Bool) → ℕ → Bool
idle_at ins (Up s a) has = put has a.0 false
idle_at ins (Stop s t a) has = put has a.0 (not (ins a.0) && is_none t)
idle_at ins _ has = has

abbrev pub idle_behind : (ℕ → Bool) → List Record → (ℕ → Bool) → ℕ → Bool
idle_behind ins [] has = has
idle_behind ins (x ∷ xs) has = idle_behind (renewed_at false (Some false) x ins) xs (idle_at ins x has)

abbrev pub idle_by : PackageName → WorkloadView → List Event → (ℕ → Bool) → Event → ℕ → Bool
idle_by which w before has e = idle_behind (along (in_by which w) (λ b. false) before) e.records has

abbrev pub was_idle : PackageName → WorkloadView → List Event → ActNo → Bool
was_idle which w events a = along (idle_by which w) (λ b. false) events a.0

-- The scan count of a life: how many idle records it has since its up or its last own event of another kind; a lowering
-- hint neither counts nor ends the count.
abbrev pub scans_by : List Item → List Record → ℕ → ℕ
scans_by past (Idle ∷ others) scans = scans + 1
scans_by past (Want s n ∷ others) scans = if nat_lt n (last_want past s) then scans else 0
scans_by past _ scans = 0

abbrev pub scans_at : List Event → (ℕ → ℕ) → Event → ℕ → ℕ
scans_at before has e =
    change (scans_by (items_of before) e.records) (stepping (items_of before) e) (renewed 0 None e.records has)

abbrev pub scans_of : List Event → ActNo → ℕ
scans_of events a = along scans_at (λ b. 0) events a.0

-- The last own event of a life was a free.
abbrev pub is_free_event : List Record → Bool
is_free_event (Free s l t ∷ others) = true
is_free_event _ = false

abbrev pub freed_at : List Event → (ℕ → Bool) → Event → ℕ → Bool
freed_at before has e =
    change (λ old. is_free_event e.records) (stepping (items_of before) e) (renewed false None e.records has)

abbrev pub was_free : List Event → ActNo → Bool
was_free events a = along freed_at (λ b. false) events a.0
