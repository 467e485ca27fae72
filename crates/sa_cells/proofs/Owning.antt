-- What cells are made of stays in an event that is not loud, and so do they.
use Rattle.std.proofs.Common.{◌≡◌, ℕ, zero, suc, ◌+◌, ◌==◌, Bool, true, false, not, if◌then◌else◌, List, [], ◌∷◌, ◌++◌, length, slice_index, slice_index_or, codes, decimal, Option, Some, None, refl, sym, ◌∙◌, ap, true≢false, arith}
use Rattle.std.proofs.lemmas.Bool.{eqb-true, false≢true}
use Rattle.std.proofs.lemmas.Grind.{flat_map-append}
use Rattle.std.proofs.Math.Path.{fun_ext}
use Rattle.std.specs.Prelude.{is_some, find, slice_get}
use Rattle.std.specs.List.{flat_map, range_with_len, list_any}
use Rattle.std.specs.Option.{option_map}
use Rattle.sa_base.specs.declared.number.ProcNo.{ProcNo}
use Rattle.sa_base.specs.declared.number.SpaceNo.{SpaceNo}
use Rattle.sa_base.specs.declared.number.ThreadNo.{ThreadNo}
use Rattle.sa_base.specs.declared.number.ActNo.{ActNo}
use Rattle.sa_base.specs.declared.record.Note.{Note}
use Rattle.sa_base.specs.declared.record.Note.TheVariants.{Preempted, Blocked, Unblocked}
use Rattle.sa_base.specs.declared.record.Record.{Record}
use Rattle.sa_base.specs.declared.record.Record.TheVariants as the
use Rattle.sa_spaces.specs.Workload.{WorkloadView}
use Rattle.sa_devices.specs.Ios.{Io}
use Rattle.sa_laws.specs.Event.{Event}
use Rattle.sa_laws.specs.Machine.{next_effect}
use Rattle.sa_laws.specs.Life.{Life, Lock, with_hand, with_cont}
use Rattle.sa_laws.specs.Readings.{Readings, Listed as ListedThread, running_of, life_of}
use Rattle.sa_laws.specs.Record.{after_record, with_life, back_with, same_note, is_io_of}
use Rattle.sa_laws.specs.declared.place.Place.TheVariants.{Running, Carried}
use Rattle.sa_laws.specs.State.{space_def}
use Rattle.sa_laws.proofs.Spaces.{placed-owners}
use Rattle.sa_laws.specs.History.{Test, is_step, is_up, stepped, arisen, with_step, with_up, event_begun, after_event, behind_all}
use Rattle.sa_check_moment.specs.Seen.{Seen}
use Rattle.sa_cells.specs.declared.cell.Cell.{Cell}
use Rattle.sa_cells.specs.declared.cell.Cell.TheVariants.{Owner, Aim, Line, Activation, Runs, Demand, Untold, Holder, Listed, Mutex, Semaphore, Shared, Where, Locks, Hand}
use Rattle.sa_cells.specs.Space.{act_if, act_of_io_if, act_of_note, untold_text, list_text, lock_among, lock_in, lock_at, held_or, held_if, holder_text}
use Rattle.sa_cells.specs.Text.{text_of}
use Rattle.sa_cells.specs.Cells.{list_cells, own_cells, sync_cells, processor_cells, act_cells, mutex_cell, semaphore_cell, shared_cell, up_to}
use Rattle.sa_cells.specs.Change.{change_line}
use Rattle.sa_cells.specs.Name.{name_of}
use Rattle.sa_cells.specs.Stays.{IsAfter, is_loud, is_instr, stays}
use Rattle.sa_cells.specs.Pieces.{space_if, act_if as text_if, numbered, one, and_thread}
use Rattle.sa_cells.specs.Life.{is_act, place_text, resting_text, locks_text, of_life}
use Rattle.sa_cells.proofs.Kept.{kept}
use Rattle.sa_cells.proofs.Stayed.{untouched}
use Rattle.sa_cells.proofs.Skipped.{more, nothing}

pub negated : (b : Bool) → not b ≡ true → b ≡ false
negated true h = absurd (false≢true h)
negated false h = refl

-- what of a life its place and its locks are made of
record Locked : Type 0 where
  space : SpaceNo
  proc : ProcNo
  locks : List Lock
  thread : Option ThreadNo

abbrev locked : Life → Locked
locked life = record { space = life.space; proc = life.proc; locks = life.locks; thread = life.thread }

abbrev owned : (ℕ → Option Life) → ℕ → Option Locked
owned lives n = option_map locked (lives n)

-- what these cells are made of
record Owning : Type 0 where
  lives : ℕ → Option Locked
  running : List (Option ActNo)
  under_way : List Io
  untold : List (List Note)
  demands : List ℕ
  ready : List (List ListedThread)
  owners : List (Option SpaceNo)
  aims : List (Option SpaceNo)

abbrev owning : Readings → Owning
owning r = record {
  lives = owned r.lives;
  running = r.running;
  under_way = r.under_way;
  untold = r.untold;
  demands = r.demands;
  ready = r.ready;
  owners = r.state.owners;
  aims = r.aims;
}

-- a life of which nothing of that changes
put-owned : (f : Life → Life) → ((x : Life) → locked (f x) ≡ locked x) → (lives : ℕ → Option Life) (a n : ℕ) (b : Bool) → (n == a) ≡ b
    → option_map locked (if b then option_map f (lives a) else lives n) ≡ option_map locked (lives n)
put-owned f same lives a n true is = mapped (lives a) ∙ ap (λ (k : ℕ). option_map locked (lives k)) (sym (eqb-true n a is))
  where
    mapped : (o : Option Life) → option_map locked (option_map f o) ≡ option_map locked o
    mapped None = refl
    mapped (Some x) = ap Some (same x)
put-owned f same lives a n false is = refl

with-owned : (f : Life → Life) → ((x : Life) → locked (f x) ≡ locked x) → (o : Option ActNo) (lives : ℕ → Option Life)
    → owned (with_life f o lives) ≡ owned lives
with-owned f same None lives = refl
with-owned f same (Some a) lives = fun_ext (λ n. put-owned f same lives a.0 n (n == a.0) refl)

-- the readings with other lives, of which that is the same
other-lives : (r : Readings) (lives : ℕ → Option Life) → owned lives ≡ owned r.lives → owning (record r { lives = lives }) ≡ owning r
other-lives r lives same = ap (λ (o : ℕ → Option Locked). record (owning r) { lives = o }) same

-- also with other owners
other-owners : (r : Readings) (lives : ℕ → Option Life) (owners : List (Option SpaceNo)) → owners ≡ r.state.owners → owned lives ≡ owned r.lives
    → record (owning r) { lives = owned lives; owners = owners } ≡ owning r
other-owners r lives owners stay same =
    ap (λ (o : List (Option SpaceNo)). record (owning r) { lives = owned lives; owners = o }) stay
    ∙ ap (λ (o : ℕ → Option Locked). record (owning r) { lives = o }) same

owning-stays : (w : WorkloadView) (e : ℕ) (p : ProcNo) (r : Readings) (x : Record) → is_loud x ≡ false → owning (after_record w e p r x) ≡ owning r
owning-stays w e p r (the.Ins u t i) un = other-lives r _ (with-owned (with_hand (next_effect w r.state u t).roused) (λ x. refl) (running_of r p) r.lives)
owning-stays w e p r (the.Out u t n) un = refl
owning-stays w e p r (the.Run u t) un = absurd (true≢false un)
owning-stays w e p r (the.Stop u t a) un = absurd (true≢false un)
owning-stays w e p r (the.Block u t a io) un = absurd (true≢false un)
owning-stays w e p r (the.Unblock u t a) un = absurd (true≢false un)
owning-stays w e p r (the.Cont u t) un = other-owners r _ _ (placed-owners r.state u t (Running p)) (with-owned (with_cont true) (λ x. refl) (running_of r p) r.lives)
owning-stays w e p r (the.Back u t) un = other-owners r _ _ (placed-owners r.state u t Carried) (with-owned (back_with t) (λ x. refl) (running_of r p) r.lives)
owning-stays w e p r (the.Ready u t) un = absurd (true≢false un)
owning-stays w e p r (the.Take u l t) un = absurd (true≢false un)
owning-stays w e p r (the.Free u l t) un = absurd (true≢false un)
owning-stays w e p r (the.Up u a) un = absurd (true≢false un)
owning-stays w e p r (the.Told note) un = absurd (true≢false un)
owning-stays w e p r (the.Move old new) un = absurd (true≢false un)
owning-stays w e p r (the.Want u n) un = absurd (true≢false un)
owning-stays w e p r (the.Aim q u) un = absurd (true≢false un)
owning-stays w e p r (the.Line q) un = refl
owning-stays w e p r (the.Fetch u) un = absurd (true≢false un)
owning-stays w e p r (the.Fetched u) un = absurd (true≢false un)
owning-stays w e p r (the.GiveBack a) un = absurd (true≢false un)
owning-stays w e p r the.Idle un = refl
owning-stays w e p r (the.Spin l) un = refl
owning-stays w e p r the.Tick un = refl

-- the end of an event
step-owned : (test : Test) (w : WorkloadView) (before : Readings) (e : Event) (after : Readings) (records : List Record) (lives : ℕ → Option Life)
    → owned (with_step test w before e after records lives) ≡ owned lives
step-owned test w before e after [] lives = refl
step-owned test w before e after (x ∷ xs) lives = if-owned (is_step x)
  where
    if-owned : (b : Bool) → owned (if b then with_life (stepped test w before e after x) (running_of before e.proc) lives else lives) ≡ owned lives
    if-owned true = with-owned (stepped test w before e after x) (λ y. refl) (running_of before e.proc) lives
    if-owned false = refl

up-owned : (test : Test) (w : WorkloadView) (before : Readings) (e : Event) (after : Readings) (lives : ℕ → Option Life)
    → owned (with_up test w before e after lives) ≡ owned lives
up-owned test w before e after lives = if-owned (list_any is_up e.records)
  where
    if-owned : (b : Bool) → owned (if b then with_life (arisen test w before e after) (running_of after e.proc) lives else lives) ≡ owned lives
    if-owned true = with-owned (arisen test w before e after) (λ y. refl) (running_of after e.proc) lives
    if-owned false = refl

event-owning : (test : Test) (w : WorkloadView) (r : Readings) (e : Event) → list_any is_loud e.records ≡ false → owning (after_event test w r e) ≡ owning r
event-owning test w r e un =
    let all = behind_all w e r in
    other-lives all _ (up-owned test w r e all (with_step test w r e all e.records all.lives) ∙ step-owned test w r e all e.records all.lives)
    ∙ kept owning is_loud w e.number e.proc (owning-stays w e.number e.proc) (event_begun w e r) e.records un

-- who holds a lock, by that
abbrev lock_of : SpaceNo → ProcNo → Option Locked → Option Lock
lock_of s l None = None
lock_of s l (Some x) = if x.space.0 == s.0 then lock_among l x.locks else None

lock-is : (s : SpaceNo) (l : ProcNo) (o : Option Life) → lock_in s l o ≡ lock_of s l (option_map locked o)
lock-is s l None = refl
lock-is s l (Some life) = refl

abbrev candidates_by : Owning → SpaceNo → List ActNo
candidates_by x s =
    flat_map act_if x.running
    ++ flat_map (λ (k : ℕ). act_of_io_if (option_map (λ (io : Io). io.kind) (slice_get x.under_way k))) (range_with_len 0 (length x.under_way))
    ++ flat_map act_of_note (slice_index_or x.untold s.0 [])

abbrev held_by_if : Owning → SpaceNo → ProcNo → Option ActNo → List ℕ
held_by_if x s l None = codes "free"
held_by_if x s l (Some a) = held_or (lock_of s l (x.lives a.0)) a

abbrev holder_by : Owning → List ActNo → SpaceNo → ProcNo → List ℕ
holder_by x ups s l = held_by_if x s l (find (λ (a : ActNo). is_some (lock_of s l (x.lives a.0))) (candidates_by x s ++ ups))

held-is : (r : Readings) (s : SpaceNo) (l : ProcNo) (o : Option ActNo) → held_if r s l o ≡ held_by_if (owning r) s l o
held-is r s l None = refl
held-is r s l (Some a) = ap (λ (o : Option Lock). held_or o a) (lock-is s l (life_of r a))

holder-is : (r : Readings) (ups : List ActNo) (s : SpaceNo) (l : ProcNo) → holder_text r ups s l ≡ holder_by (owning r) ups s l
holder-is r ups s l =
    let has : (λ (a : ActNo). is_some (lock_at r s l a)) ≡ (λ (a : ActNo). is_some (lock_of s l (owned r.lives a.0))) =
    fun_ext (λ (a : ActNo). ap is_some (lock-is s l (life_of r a))) in
    ap (λ (test : ActNo → Bool). held_if r s l (find test (candidates_by (owning r) s ++ ups))) has
    ∙ held-is r s l (find (λ (a : ActNo). is_some (lock_of s l (owned r.lives a.0))) (candidates_by (owning r) s ++ ups))

-- nothing is written of these cells
nothing-of : (f : Cell → List ℕ) (cells : ℕ → List Cell) (n : ℕ) → ((k : ℕ) → flat_map f (cells k) ≡ []) → flat_map f (up_to cells n) ≡ []
nothing-of f cells zero none = refl
nothing-of f cells (suc n) none =
    ap (λ (k : ℕ). flat_map f (up_to cells k)) (let e : suc n ≡ n + 1 = omega arith in e)
    ∙ more f cells n ∙ ap (λ (xs : List ℕ). xs ++ flat_map f (cells n)) (nothing-of f cells n none) ∙ none n

two-nothing : (xs ys : List ℕ) → xs ≡ [] → ys ≡ [] → xs ++ (ys ++ []) ≡ []
two-nothing xs ys first second = ap (λ (zs : List ℕ). zs ++ (ys ++ [])) first ∙ ap (λ (zs : List ℕ). zs ++ []) second

-- where a life is, by that
abbrev is_on_by : Owning → ActNo → Locked → Bool
is_on_by x a life = is_act a (slice_index_or x.running life.proc.0 None)

abbrev is_untold_by : Owning → Locked → Note → Bool
is_untold_by x life note = list_any (same_note note) (slice_index_or x.untold life.space.0 [])

abbrev off_by : Owning → ActNo → Locked → List ℕ
off_by x a life =
    if list_any (is_io_of a) x.under_way then (if is_untold_by x life (Blocked a) then codes "blocked, untold" else codes "blocked")
    else (if is_untold_by x life (Unblocked a) then codes "unblocked, untold"
    else (if is_untold_by x life (Preempted a) then codes "preempted, untold" else codes "over, and told"))

abbrev place_by : Owning → ActNo → Option Locked → List ℕ
place_by x a None = codes "-"
place_by x a (Some life) =
    one (codes "space ") life.space.0 (codes ", ")
    ++ (if is_on_by x a life then numbered (codes "on processor ") life.proc.0 else off_by x a life ++ and_thread life.thread)

place-is : (r : Readings) (a : ActNo) (o : Option Life) → of_life (place_text r a) o ≡ place_by (owning r) a (option_map locked o)
unfolding place_text resting_text
place-is r a None = refl
place-is r a (Some life) = refl

abbrev locks_by : Option Locked → List ℕ
locks_by None = codes "-"
locks_by (Some life) = locks_text life.locks

locks-is : (o : Option Life) → of_life (λ (life : Life). locks_text life.locks) o ≡ locks_by (option_map locked o)
locks-is None = refl
locks-is (Some life) = refl

module _ (event : ℕ) (ups : List ActNo) (m n : Seen) (e : Event) (after : IsAfter m n e) (un : list_any is_loud e.records ≡ false) where
  same : owning m.readings ≡ owning n.readings
  same = sym (event-owning after.test m.workload m.readings e un) ∙ sym (ap (λ (x : Seen). owning x.readings) after.is)

  stays-so : (c : Cell) → text_of ups m c ≡ text_of ups n c → change_line event ups m n c ≡ []
  stays-so c is = nothing event (name_of c) (text_of ups m c) (text_of ups n c) is

  owner : (q : ProcNo) → change_line event ups m n (Owner q) ≡ []
  owner q = stays-so (Owner q) (ap (λ (x : Owning). space_if (slice_index_or x.owners q.0 None)) same)

  aim : (q : ProcNo) → change_line event ups m n (Aim q) ≡ []
  aim q = stays-so (Aim q) (ap (λ (x : Owning). space_if (slice_index_or x.aims q.0 None)) same)

  activation : (q : ProcNo) → change_line event ups m n (Activation q) ≡ []
  activation q = stays-so (Activation q) (ap (λ (x : Owning). text_if (slice_index_or x.running q.0 None)) same)

  demand : (s : SpaceNo) → change_line event ups m n (Demand s) ≡ []
  demand s = stays-so (Demand s) (ap (λ (x : Owning). decimal (slice_index x.demands s.0)) same)

  untold : (s : SpaceNo) → change_line event ups m n (Untold s) ≡ []
  untold s = stays-so (Untold s) (ap (λ (x : Owning). untold_text (slice_index_or x.untold s.0 [])) same)

  holder : (s : SpaceNo) (l : ProcNo) → change_line event ups m n (Holder s l) ≡ []
  holder s l = stays-so (Holder s l) (holder-is m.readings ups s l ∙ ap (λ (x : Owning). holder_by x ups s l) same ∙ sym (holder-is n.readings ups s l))

  list : (s : SpaceNo) (l : ProcNo) → change_line event ups m n (Listed s l) ≡ []
  list s l = stays-so (Listed s l) (ap (λ (x : Owning). list_text l (slice_index_or x.ready s.0 [])) same)

  where-is : (a : ActNo) → change_line event ups m n (Where a) ≡ []
  where-is a = stays-so (Where a)
      (place-is m.readings a (life_of m.readings a) ∙ ap (λ (x : Owning). place_by x a (x.lives a.0)) same ∙ sym (place-is n.readings a (life_of n.readings a)))

  locks-are : (a : ActNo) → change_line event ups m n (Locks a) ≡ []
  locks-are a = stays-so (Locks a)
      (locks-is (life_of m.readings a) ∙ ap (λ (x : Owning). locks_by (x.lives a.0)) same ∙ sym (locks-is (life_of n.readings a)))

  pub own-stay : (s : SpaceNo) → flat_map (change_line event ups m n) (own_cells n s) ≡ []
  unfolding own_cells
  own-stay s =
      let rest = flat_map (change_line event ups m n) (up_to (list_cells s) n.workload.processors) in
      ap (λ (xs : List ℕ). xs ++ (change_line event ups m n (Untold s) ++ rest)) (demand s) ∙ ap (λ (xs : List ℕ). xs ++ rest) (untold s)
      ∙ nothing-of (change_line event ups m n) (list_cells s) n.workload.processors
      (λ k. let l : ProcNo = record { 0 = k } in two-nothing (change_line event ups m n (Holder s l)) (change_line event ups m n (Listed s l)) (holder s l) (list s l))

  -- of a processor the line, and what runs there; of an activation the hand
  pub processor-stays : (q : ProcNo) → flat_map (change_line event ups m n) (Line q ∷ Runs q ∷ []) ≡ flat_map (change_line event ups m n) (processor_cells q.0)
  processor-stays q =
      let f = change_line event ups m n in
      sym (ap (λ (xs : List ℕ). xs ++ (f (Aim q) ++ (f (Line q) ++ (f (Activation q) ++ (f (Runs q) ++ []))))) (owner q)
      ∙ ap (λ (xs : List ℕ). xs ++ (f (Line q) ++ (f (Activation q) ++ (f (Runs q) ++ [])))) (aim q)
      ∙ ap (λ (xs : List ℕ). f (Line q) ++ (xs ++ (f (Runs q) ++ []))) (activation q))

  pub act-stays : (a : ActNo) → flat_map (change_line event ups m n) (Hand a ∷ []) ≡ flat_map (change_line event ups m n) (act_cells a)
  act-stays a =
      let f = change_line event ups m n in
      sym (ap (λ (xs : List ℕ). xs ++ (f (Locks a) ++ (f (Hand a) ++ []))) (where-is a) ∙ ap (λ (xs : List ℕ). xs ++ (f (Hand a) ++ [])) (locks-are a))

-- what the threads of a space wait on and share, if none of them runs an instruction
pub sync-stay : (event : ℕ) (ups : List ActNo) (m n : Seen) (e : Event) (s : SpaceNo) → IsAfter m n e → list_any (is_instr s) e.records ≡ false
    → flat_map (change_line event ups m n) (sync_cells n s) ≡ []
unfolding sync_cells
sync-stay event ups m n e s after un =
    let f = change_line event ups m n in
    let def = space_def n.workload s in
    let yes : not (list_any (is_instr s) e.records) ≡ true = ap not un in
    let one-of : (c : Cell) → stays e.records c ≡ true → f c ++ [] ≡ [] =
    λ c is. ap (λ (xs : List ℕ). xs ++ []) (nothing event (name_of c) (text_of ups m c) (text_of ups n c) (untouched ups m n e c after is)) in
    let mutexes = up_to (mutex_cell s) def.mutexes in
    let semaphores = up_to (semaphore_cell s) (length def.sems) in
    let cells = up_to (shared_cell s) def.cells in
    flat_map-append f (mutexes ++ semaphores) cells
    ∙ ap (λ (xs : List ℕ). xs ++ flat_map f cells)
    (flat_map-append f mutexes semaphores ∙ ap (λ (xs : List ℕ). xs ++ flat_map f semaphores) (nothing-of f (mutex_cell s) def.mutexes (λ k. one-of (Mutex s k) yes))
    ∙ nothing-of f (semaphore_cell s) (length def.sems) (λ k. one-of (Semaphore s k) yes))
    ∙ nothing-of f (shared_cell s) def.cells (λ k. one-of (Shared s k) yes)
