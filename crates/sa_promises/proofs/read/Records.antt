-- What one record changes in what is read, reading by reading, as the words have it.
use Rattle.std.proofs.Common.{◌≡◌, ℕ, ◌+◌, ◌<◌, refl, sym, ◌∙◌, ap, Some, None, List, [], ◌∷◌, ◌++◌, length, map, false}
use Rattle.std.specs.Prelude.{Option, Bool, not, ◌&&◌, ◌==◌, nat_lt, is_none, if◌then◌else◌, get_or, slice_set, unwrap_or, filter}
use Rattle.std.proofs.lemmas.List.{set-get_or, map-append}
use Rattle.sa_base.specs.declared.number.SpaceNo.{SpaceNo}
use Rattle.sa_base.specs.declared.number.ProcNo.{ProcNo}
use Rattle.sa_base.specs.declared.number.ThreadNo.{ThreadNo}
use Rattle.sa_base.specs.declared.number.ActNo.{ActNo}
use Rattle.sa_base.specs.declared.number.IoNo.{IoNo}
use Rattle.sa_base.specs.declared.record.Note.{Note}
use Rattle.sa_base.specs.declared.record.Note.TheVariants as note
use Rattle.sa_base.specs.declared.record.Record.{Record}
use Rattle.sa_base.specs.declared.record.Record.TheVariants.{Ins, Run, Stop, Block, Unblock, Ready, Up, Told, Want, Fetch, Fetched, GiveBack}
use Rattle.sa_base.specs.declared.record.Item.{Item}
use Rattle.sa_base.specs.declared.limits.TheConstants.{PACKAGE_PAGE}
use Rattle.sa_spaces.specs.Workload.{WorkloadView}
use Rattle.sa_lemmas.proofs.ListReads.{map-list}
use Rattle.sa_devices.specs.declared.kind.IoKind.TheVariants.{Page, Upcall}
use Rattle.sa_devices.specs.Ios.{Io}
use Rattle.sa_laws.specs.State.{State, next_instr}
use Rattle.sa_laws.specs.Life.{some_lock}
use Rattle.sa_laws.specs.Readings.{Readings, Listed, demand_of, untold_of, taken_of, ready_of, space_of_life, life_of, life_on, is_resident}
use Rattle.sa_laws.specs.Record.{running_after, marks_after, mark_after, untold_after, taken_after, with_act, without_act, is_other_note, is_other_act, length_behind, blocking, blocking_for, locks_one, under_way_after, with_io, page_touched, page_in, is_io_of_other, fetches_other, first_list, is_other_thread, ready_after}
use Rattle.sa_promises.specs.Words.{last_want, ios_begun}
use Rattle.sa_promises.proofs.words.Reads.{set-said}
use Rattle.sa_promises.specs.Moments.{Home, machine_of, directly_before, run_in, home_of, runs_on}
use Rattle.sa_promises.specs.Marks.{mark_in}
use Rattle.sa_promises.specs.Loads.{Untold, untold, untold_by, with_noted}
use Rattle.sa_promises.specs.Holdings.{is_home, is_other, taken_by, locks_of, first_list_of, ready_by}
use Rattle.sa_promises.specs.Ios.{Resident, io_before, touched, block_with, block_for, io_from, ios_by}
use Rattle.sa_promises.proofs.read.Lists.{if-out, none-said, set-absent, set-list, map-filter}

-- the running lives
pub run-more : (running : List (Option ActNo)) (p q : ProcNo) (x : Record) → p.0 < length running
    → get_or (running_after p running x) q.0 None ≡ unwrap_or (if p.0 == q.0 then run_in x else None) (get_or running q.0 None)
run-more running p q (Up s a) within = set-absent running p.0 q.0 (Some a) within
run-more running p q (Stop s t a) within = set-absent running p.0 q.0 None within
run-more running p q (Block s t a io) within = set-absent running p.0 q.0 None within
run-more running p q x within = sym (none-said (p.0 == q.0) (get_or running q.0 None))

-- the idle marks: a want that is its event's first record is of a space of the workload
abbrev pub WantKnown : WorkloadView → Readings → Record → Type 0
WantKnown w r (Want s n) = r.last ≡ None → s.0 < length w.spaces
WantKnown w r _ = Unit {0}

want-mark : (marks : List Bool) (p q : ℕ) (last : Option Record) (old n lw : ℕ) → q < length marks → (last ≡ None → old ≡ lw)
    → get_or (slice_set marks p (mark_after last old n (get_or marks p false))) q false
    ≡ unwrap_or (if p == q then (if is_none last then Some (nat_lt n lw) else None) else None) (get_or marks q false)
want-mark marks p q None old n lw within same =
    ap (λ m. get_or (slice_set marks p (nat_lt n m)) q false) (same refl) ∙ set-said marks p q (nat_lt n lw) false within
want-mark marks p q (Some y) old n lw within same =
    ap (λ ms. get_or ms q false) (set-get_or marks p false) ∙ sym (none-said (p == q) (get_or marks q false))

pub mark-more : (w : WorkloadView) (e : ℕ) (p q : ProcNo) (past : List Item) (r : Readings) (x : Record) → q.0 < length r.marks
    → r.last ≡ directly_before e past → ((s : SpaceNo) → s.0 < length w.spaces → demand_of r s ≡ last_want past s) → WantKnown w r x
    → get_or (marks_after p r x) q.0 false ≡ unwrap_or (if p.0 == q.0 then mark_in e past x else None) (get_or r.marks q.0 false)
mark-more w e p q past r (Up s a) within last demands known = set-said r.marks p.0 q.0 false false within
mark-more w e p q past r (Want s n) within last demands known =
    want-mark r.marks p.0 q.0 r.last (demand_of r s) n (last_want past s) within (λ none. demands s (known none))
    ∙ ap
    (λ (o : Option Record). unwrap_or (if p.0 == q.0 then (if is_none o then Some (nat_lt n (last_want past s)) else None) else None)
    (get_or r.marks q.0 false)) last
mark-more w e p q past r x within last demands known = sym (none-said (p.0 == q.0) (get_or r.marks q.0 false))

-- what is untold
abbrev pub note_of : Untold → Note
note_of noted = noted.note

note-more : (xs : List (List Note)) (of s : SpaceNo) (n : Note) (t : Option ThreadNo) (us : List Untold) → s.0 < length xs → get_or xs s.0 [] ≡ map note_of us
    → get_or (slice_set xs of.0 (get_or xs of.0 [] ++ n ∷ [])) s.0 [] ≡ map note_of (with_noted s of (untold n t) us)
note-more xs of s n t us within is =
    set-list (λ ns. ns ++ n ∷ []) xs of.0 s.0 within
    ∙ ap (λ ns. if of.0 == s.0 then ns ++ n ∷ [] else ns) is
    ∙ ap (λ ns. if of.0 == s.0 then ns else map note_of us) (sym (map-append note_of us (untold n t ∷ [])))
    ∙ sym (if-out (map note_of) (of.0 == s.0) (us ++ untold n t ∷ []) us)

pub untold-more : (r : Readings) (x : Record) (s : SpaceNo) (us : List Untold) → s.0 < length r.untold → untold_of r s ≡ map note_of us
    → get_or (untold_after r x) s.0 [] ≡ map note_of (untold_by s us x)
untold-more r (Stop of t a) s us within is = note-more r.untold of s (note.Preempted a) t us within is
untold-more r (Block of t a io) s us within is = note-more r.untold of s (note.Blocked a) t us within is
untold-more r (Unblock of t a) s us within is = note-more r.untold of s (note.Unblocked a) t us within is
untold-more r (Told n) s us within is =
    map-list (filter (is_other_note n)) r.untold s.0 refl ∙ ap (filter (is_other_note n)) is ∙ sym (map-filter note_of (is_other_note n) us)
untold-more r x s us within is = is

-- the ready threads
pub ready-more : (w : WorkloadView) (p : ProcNo) (past : List Item) (r : Readings) (x : Record) (s : SpaceNo) (all : List Listed) → s.0 < length r.ready
    → ready_of r s ≡ all
    → first_list (life_on r p) p ≡ first_list_of w past (runs_on past p) p → get_or (ready_after p r x) s.0 [] ≡ ready_by w s past all p x
ready-more w p past r (Ready of t) s all within is first =
    set-list (λ ls. ls ++ record { thread = t; list = first_list (life_on r p) p } ∷ []) r.ready of.0 s.0 within
    ∙ ap (λ ls. if of.0 == s.0 then ls ++ record { thread = t; list = first_list (life_on r p) p } ∷ [] else ls) is
    ∙ ap (λ (l : ProcNo). if of.0 == s.0 then all ++ record { thread = t; list = l } ∷ [] else all) first
ready-more w p past r (Run of t) s all within is first =
    set-list (filter (is_other_thread t)) r.ready of.0 s.0 within ∙ ap (λ ls. if of.0 == s.0 then filter (is_other_thread t) ls else ls) is
ready-more w p past r x s all within is first = is

-- what is taken
pub record AtHome (r : Readings) (past : List Item) (a : ActNo) : Type 0 where
  pub home : Home
  pub space : space_of_life r (Some a) ≡ Some home.space
  pub said : home_of past a ≡ Some home

taken-told : (r : Readings) (past : List Item) (a : ActNo) (s : SpaceNo) (ts : List ActNo) → AtHome r past a → s.0 < length r.taken → taken_of r s ≡ ts
    → get_or (with_act r.taken (space_of_life r (Some a)) a) s.0 [] ≡ (if is_home s (home_of past a) then ts ++ a ∷ [] else ts)
taken-told r past a s ts at within is =
    ap (λ o. get_or (with_act r.taken o a) s.0 []) at.space
    ∙ set-list (λ acts. acts ++ a ∷ []) r.taken at.home.space.0 s.0 within
    ∙ ap (λ acts. if at.home.space.0 == s.0 then acts ++ a ∷ [] else acts) is
    ∙ ap (λ (o : Option Home). if is_home s o then ts ++ a ∷ [] else ts) (sym at.said)

-- the lives that records of telling, giving back, stopping and coming back name
abbrev pub NamesHome : Readings → List Item → Record → Type 0
NamesHome r past (Told (note.Preempted a)) = AtHome r past a
NamesHome r past (Told (note.Unblocked a)) = AtHome r past a
NamesHome r past (GiveBack a) = AtHome r past a
NamesHome r past _ = Unit {0}

pub taken-more : (r : Readings) (past : List Item) (x : Record) (s : SpaceNo) (ts : List ActNo) → NamesHome r past x → s.0 < length r.taken → taken_of r s ≡ ts
    → get_or (taken_after r x) s.0 [] ≡ taken_by s past ts x
taken-more r past (Told (note.Preempted a)) s ts at within is = taken-told r past a s ts at within is
taken-more r past (Told (note.Unblocked a)) s ts at within is = taken-told r past a s ts at within is
taken-more r past (GiveBack a) s ts at within is =
    ap (λ o. get_or (without_act r.taken o a) s.0 []) at.space
    ∙ set-list (filter (is_other_act a)) r.taken at.home.space.0 s.0 within
    ∙ ap (λ acts. if at.home.space.0 == s.0 then filter (is_other_act a) acts else acts) is
    ∙ ap (λ (o : Option Home). if is_home s o then filter (is_other a) ts else ts) (sym at.said)
taken-more r past _ s ts at within is = is

behind-same : (w : WorkloadView) (r : Readings) (s : SpaceNo) (t : Option ThreadNo) (last : Option Record)
    → length_behind w r s t last ≡ io_before w r.state s t last
behind-same w r s t None = refl
behind-same w r s t (Some (Ins of u i)) = refl
behind-same w r s t (Some x) = refl

touched-same : (w : WorkloadView) (r : Readings) (m : State) (s : SpaceNo) (t : Option ThreadNo) → r.state ≡ m → page_touched w r s t ≡ touched w m s t
touched-same w r m s None is = refl
touched-same w r m s (Some t) is = ap (λ (k : State). page_in (next_instr w k s t)) is

-- the life of a block has the locks that are said, and the package's page is resident or absent as is said
abbrev pub BlocksWith : WorkloadView → Readings → List Item → Resident → Record → Type 0
BlocksWith w r past resident (Block s t a io) =
    (locks_one (life_of r a) ≡ some_lock (locks_of w past a)) × (is_resident r s PACKAGE_PAGE ≡ resident s PACKAGE_PAGE)
BlocksWith w r past resident _ = Unit {0}

blocks-same : (w : WorkloadView) (r : Readings) (past : List Item) (resident : Resident) (s : SpaceNo) (t : Option ThreadNo) (a : ActNo) (io : IoNo)
    (o : Option ℕ)
    → r.state ≡ machine_of w past
    → BlocksWith w r past resident (Block s t a io) → blocking_for w r s t a o ≡ block_with w past resident s t a o
blocks-same w r past resident s t a io (Some n) state has = refl
blocks-same w r past resident s t a io None state has =
    ap (λ page. record { kind = Page s a page; length = w.fetch })
    (ap (λ b. if b && not (is_resident r s PACKAGE_PAGE) then PACKAGE_PAGE else page_touched w r s t) has.0
    ∙ ap (λ b. if some_lock (locks_of w past a) && not b then PACKAGE_PAGE else page_touched w r s t) has.1
    ∙ ap (λ k. if some_lock (locks_of w past a) && not (resident s PACKAGE_PAGE) then PACKAGE_PAGE else k)
    (touched-same w r (machine_of w past) s t state))

pub block-same : (w : WorkloadView) (r : Readings) (past : List Item) (resident : Resident) (e : ℕ) (s : SpaceNo) (t : Option ThreadNo) (a : ActNo)
    (io : IoNo)
    → r.state ≡ machine_of w past
    → r.last ≡ directly_before e past
    → BlocksWith w r past resident (Block s t a io) → blocking w r s t a ≡ block_for w past resident e s t a
block-same w r past resident e s t a io state last has =
    blocks-same w r past resident s t a io (length_behind w r s t r.last) state has
    ∙ ap (block_with w past resident s t a)
    (behind-same w r s t r.last ∙ ap (λ (m : State). io_before w m s t r.last) state ∙ ap (io_before w (machine_of w past) s t) last)

pub under-more : (w : WorkloadView) (r : Readings) (past : List Item) (resident : Resident) (e : ℕ) (x : Record) (ios : List Io) → r.under_way ≡ ios
    → r.io_count ≡ ios_begun past
    → r.state ≡ machine_of w past
    → r.last ≡ directly_before e past → BlocksWith w r past resident x → under_way_after w e r x ≡ ios_by w past resident ios e x
under-more w r past resident e (Block s t a io) ios is io_count state last has =
    ap (λ b. with_io e b r) (block-same w r past resident e s t a io state last has)
    ∙ ap
    (λ (n : ℕ). r.under_way ++ record {
      number = n;
      ends = e + (block_for w past resident e s t a).length;
      kind = (block_for w past resident e s t a).kind;
    } ∷ []) io_count
    ∙ ap (λ us. us ++ io_from past e (block_for w past resident e s t a) ∷ []) is
under-more w r past resident e (Fetch s) ios is io_count state last has =
    ap (λ (n : ℕ). r.under_way ++ record { number = n; ends = e + w.fetch; kind = Upcall s } ∷ []) io_count
    ∙ ap (λ us. us ++ io_from past e (record { kind = Upcall s; length = w.fetch }) ∷ []) is
under-more w r past resident e (Unblock s t a) ios is io_count state last has = ap (filter (is_io_of_other a)) is
under-more w r past resident e (Fetched s) ios is io_count state last has = ap (filter (fetches_other s)) is
under-more w r past resident e x ios is io_count state last has = is
