-- What a text is made of is the same at two moments, so the text is.
use Rattle.std.proofs.Common.{◌≡◌, ℕ, suc, arith, ◌-◌, ◌==◌, Bool, true, false, not, ◌&&◌, if◌then◌else◌, List, [], ◌∷◌, ◌++◌, length, nat_lt, slice_index_or, codes, flat_map, Option, Some, None, refl, sym, ◌∙◌, ap}
use Rattle.std.proofs.lemmas.Bool.{false≢true, and_parts, and_from, eqb-true}
use Rattle.sa_base.specs.declared.number.ProcNo.{ProcNo}
use Rattle.sa_base.specs.declared.number.SpaceNo.{SpaceNo}
use Rattle.sa_base.specs.declared.number.ThreadNo.{ThreadNo}
use Rattle.sa_base.specs.declared.number.ActNo.{ActNo}
use Rattle.sa_instr.specs.declared.instr.Instr.{Instr}
use Rattle.sa_instr.specs.declared.instr.Instr.TheVariants as instr
use Rattle.sa_instr.specs.Local.{instr_at}
use Rattle.sa_spaces.specs.Workload.{WorkloadView}
use Rattle.sa_sync.specs.Sync.{Sync, mutex_at}
use Rattle.sa_laws.specs.declared.place.Place.{Place}
use Rattle.sa_laws.specs.declared.place.Place.TheVariants.{Running, Ready, Blocked, Waiting, Carried, Done}
use Rattle.sa_laws.specs.State.{State, space_at, space_def, thread_at, instr_of}
use Rattle.sa_laws.specs.Life.{Life, Lock, some_lock}
use Rattle.sa_laws.specs.Readings.{Readings, IsLocked, line_of, life_of, life_on}
use Rattle.sa_check_moment.specs.Seen.{Seen}
use Rattle.sa_cells.specs.declared.cell.Cell.{Cell}
use Rattle.sa_cells.specs.declared.cell.Cell.TheVariants.{Owner, Aim, Line, Activation, Runs, Demand, Untold, Holder, Listed, Thread as ThreadCell, Mutex, Semaphore, Shared, Where, Locks, Hand}
use Rattle.sa_cells.specs.Pieces.{numbered, one}
use Rattle.sa_cells.specs.Processor.{line_text, thread_text as run_text, carrying_text, runs_in, carried_on}
use Rattle.sa_cells.specs.Space.{candidates, held_if, holder_text}
use Rattle.sa_cells.specs.Life.{is_on, on_or_off, place_text, resting_text, locks_text, hand_thread, hand_text, of_life}
use Rattle.sa_cells.specs.Thread.{instr_text, held_by, awaited_text, waiting_text, standing_text, waits, made_text, thread_text}
use Rattle.sa_cells.specs.Text.{text_of}
use Rattle.sa_cells.specs.Stays.{same_flag, same_line, same_thread, same_run, both_if, same_place, no_lock, no_hand, same_where, same_standing, same_awaited, same_wait, made_same, has_made, thread_same, is_same}
use Rattle.sa_cells.proofs.Holders.{nobody_has}

flag : (a b : Bool) → same_flag a b ≡ true → a ≡ b
flag true true h = refl
flag true false h = sym h
flag false true h = absurd (false≢true h)
flag false false h = refl

line : (a b : Option ℕ) → same_line a b ≡ true → a ≡ b
line None None h = refl
line None (Some n) h = absurd (false≢true h)
line (Some m) None h = absurd (false≢true h)
line (Some m) (Some n) h = ap Some (eqb-true m n h)

thread : (a b : Option ThreadNo) → same_thread a b ≡ true → a ≡ b
thread None None h = refl
thread None (Some u) h = absurd (false≢true h)
thread (Some t) None h = absurd (false≢true h)
thread (Some t) (Some u) h = ap (λ (n : ℕ). Some (record { 0 = n })) (eqb-true t.0 u.0 h)

-- what runs on a processor
carrying : (x y : Life) (t : Option ThreadNo) → x.cont ≡ y.cont → x.scans ≡ y.scans → carrying_text x t ≡ carrying_text y t
unfolding run_text
carrying x y None cont scans =
    ap (λ (c : Bool). if c then codes "the handler, in the copy of a section" else (if x.scans == 0 then codes "the handler" else codes "a look in vain")) cont
    ∙ ap (λ (n : ℕ). if y.cont then codes "the handler, in the copy of a section" else (if n == 0 then codes "the handler" else codes "a look in vain")) scans
carrying x y (Some t) cont scans =
    ap (λ (c : Bool). numbered (codes "thread ") t.0 ++ (if c then codes ", in the copy of its section" else codes "")) cont

running : (x y : Option Life) (t u : Option ThreadNo) → both_if same_run x y ≡ true → t ≡ u → runs_in x t ≡ runs_in y u
running None y t u h same = absurd (false≢true h)
running (Some x) None t u h same = absurd (false≢true h)
running (Some x) (Some y) t u h same =
    let both = and_parts (same_flag x.cont y.cont) (x.scans == y.scans) h in
    carrying x y t (flag x.cont y.cont both.0) (eqb-true x.scans y.scans both.1) ∙ ap (carrying_text y) same

-- where a life is
placing : (a b : Readings) (c : ActNo) (x y : Option Life) → both_if (same_place a b c) x y ≡ true → of_life (place_text a c) x ≡ of_life (place_text b c) y
unfolding place_text
placing a b c None y h = absurd (false≢true h)
placing a b c (Some x) None h = absurd (false≢true h)
placing a b c (Some x) (Some y) h =
    let space = and_parts (x.space.0 == y.space.0) (x.proc.0 == y.proc.0 && (is_on a c x && is_on b c y)) h in
    let proc = and_parts (x.proc.0 == y.proc.0) (is_on a c x && is_on b c y) space.1 in
    let on = and_parts (is_on a c x) (is_on b c y) proc.1 in
    ap (λ (n : ℕ). one (codes "space ") n (codes ", ") ++ on_or_off a c x) (eqb-true x.space.0 y.space.0 space.0)
    ∙ ap (λ (rest : List ℕ). one (codes "space ") y.space.0 (codes ", ") ++ rest)
    (ap (λ (on : Bool). if on then numbered (codes "on processor ") x.proc.0 else resting_text a c x) on.0
    ∙ ap (λ (n : ℕ). numbered (codes "on processor ") n) (eqb-true x.proc.0 y.proc.0 proc.0)
    ∙ sym (ap (λ (on : Bool). if on then numbered (codes "on processor ") y.proc.0 else resting_text b c y) on.1))

-- no locks, and nothing in hand
lockless : (locks : List Lock) → not (some_lock locks) ≡ true → locks ≡ []
lockless [] h = refl
lockless (lock ∷ locks) h = absurd (false≢true h)

empty : {A : Type 0} (xs : List A) → (length xs == 0) ≡ true → xs ≡ []
empty [] h = refl
empty (x ∷ xs) h = absurd (let e : suc (length xs) ≡ 0 = eqb-true (length (x ∷ xs)) 0 h in omega (arith, e))

locking : (x y : Option Life) → both_if no_lock x y ≡ true → of_life (λ (life : Life). locks_text life.locks) x ≡ of_life (λ (life : Life). locks_text life.locks) y
locking None y h = absurd (false≢true h)
locking (Some x) None h = absurd (false≢true h)
locking (Some x) (Some y) h =
    let both = and_parts (not (some_lock x.locks)) (not (some_lock y.locks)) h in
    ap locks_text (lockless x.locks both.0) ∙ sym (ap locks_text (lockless y.locks both.1))

handless : (r : Readings) (life : Life) → life.hand ≡ [] → hand_text r life ≡ []
handless r life none = ap (λ (hand : List ThreadNo). flat_map (hand_thread (space_at r.state life.space)) hand) none

handing : (a b : Readings) (x y : Option Life) → both_if no_hand x y ≡ true → of_life (hand_text a) x ≡ of_life (hand_text b) y
handing a b None y h = absurd (false≢true h)
handing a b (Some x) None h = absurd (false≢true h)
handing a b (Some x) (Some y) h =
    let both = and_parts (length x.hand == 0) (length y.hand == 0) h in
    handless a x (empty x.hand both.0) ∙ sym (handless b y (empty y.hand both.1))

-- a thread
placed : (a b : Place) → same_where a b ≡ true → a ≡ b
placed (Running p) (Running q) h = ap (λ (n : ℕ). Running (record { 0 = n })) (eqb-true p.0 q.0 h)
placed Ready Ready h = refl
placed Blocked Blocked h = refl
placed Waiting Waiting h = refl
placed Carried Carried h = refl
placed Done Done h = refl
placed (Running p) Ready h = absurd (false≢true h)
placed (Running p) Blocked h = absurd (false≢true h)
placed (Running p) Waiting h = absurd (false≢true h)
placed (Running p) Carried h = absurd (false≢true h)
placed (Running p) Done h = absurd (false≢true h)
placed Ready (Running q) h = absurd (false≢true h)
placed Ready Blocked h = absurd (false≢true h)
placed Ready Waiting h = absurd (false≢true h)
placed Ready Carried h = absurd (false≢true h)
placed Ready Done h = absurd (false≢true h)
placed Blocked (Running q) h = absurd (false≢true h)
placed Blocked Ready h = absurd (false≢true h)
placed Blocked Waiting h = absurd (false≢true h)
placed Blocked Carried h = absurd (false≢true h)
placed Blocked Done h = absurd (false≢true h)
placed Waiting (Running q) h = absurd (false≢true h)
placed Waiting Ready h = absurd (false≢true h)
placed Waiting Blocked h = absurd (false≢true h)
placed Waiting Carried h = absurd (false≢true h)
placed Waiting Done h = absurd (false≢true h)
placed Carried (Running q) h = absurd (false≢true h)
placed Carried Ready h = absurd (false≢true h)
placed Carried Blocked h = absurd (false≢true h)
placed Carried Waiting h = absurd (false≢true h)
placed Carried Done h = absurd (false≢true h)
placed Done (Running q) h = absurd (false≢true h)
placed Done Ready h = absurd (false≢true h)
placed Done Blocked h = absurd (false≢true h)
placed Done Waiting h = absurd (false≢true h)
placed Done Carried h = absurd (false≢true h)

awaited : (x y : Sync) (i : Instr) → same_awaited x y i ≡ true → awaited_text x i ≡ awaited_text y i
awaited x y instr.Compute h = refl
awaited x y (instr.Set k n) h = refl
awaited x y (instr.Add k n) h = refl
awaited x y (instr.Sub k n) h = refl
awaited x y (instr.Jnz k n) h = refl
awaited x y (instr.Load k n) h = refl
awaited x y (instr.Store k n) h = refl
awaited x y (instr.Out k) h = refl
awaited x y (instr.Fork k n) h = refl
awaited x y (instr.Join k) h = refl
awaited x y (instr.Lock k) h = ap (λ (holder : Option ℕ). numbered (codes ", for mutex ") k ++ held_by holder) (line (mutex_at x k).holder (mutex_at y k).holder h)
awaited x y (instr.Unlock k) h = refl
awaited x y (instr.Wait k) h = refl
awaited x y (instr.Signal k) h = refl
awaited x y (instr.Io k) h = refl
awaited x y (instr.Touch k) h = refl
awaited x y instr.End h = refl

-- the text of a thread that waits or not, at an instruction of a program, in a place
abbrev made_by : WorkloadView → SpaceNo → Sync → Bool → ℕ → ℕ → Place → List ℕ
made_by w s x wait program pc place =
    if wait then waiting_text x (instr_at (slice_index_or (space_def w s).programs program []) (pc - 1))
    else standing_text place pc (instr_at (slice_index_or (space_def w s).programs program []) pc)

waiting : (w : WorkloadView) (s : SpaceNo) (x y : Sync) (wait : Bool) (program pc : ℕ) (place : Place)
    → (wait ≡ true → same_awaited x y (instr_at (slice_index_or (space_def w s).programs program []) (pc - 1)) ≡ true)
    → made_by w s x wait program pc place ≡ made_by w s y wait program pc place
unfolding waiting_text
waiting w s x y true program pc place same =
    let i = instr_at (slice_index_or (space_def w s).programs program []) (pc - 1) in
    ap (λ (rest : List ℕ). codes "waits in " ++ instr_text i ++ rest) (awaited x y i (same refl))
waiting w s x y false program pc place same = refl

waits-alike : (a b c : Bool) → (if a then b && c else not b) ≡ true → (a ≡ b) × (a ≡ true → c ≡ true)
waits-alike true true c h = (refl, λ is. h)
waits-alike true false c h = absurd (false≢true h)
waits-alike false true c h = absurd (false≢true h)
waits-alike false false c h = (refl, λ is. absurd (false≢true is))

making : (w : WorkloadView) (a b : State) (s : SpaceNo) (t : ThreadNo) → made_same w a b s t ≡ true → made_text w a s t ≡ made_text w b s t
making w a b s t h =
    let x = thread_at a s t in
    let y = thread_at b s t in
    let i = instr_of w a s t (x.pc - 1) in
    let both = and_parts (same_standing x y) (same_wait w a b s t x.pc) h in
    let first = and_parts (x.program == y.program) (x.pc == y.pc && same_where x.place y.place) both.0 in
    let second = and_parts (x.pc == y.pc) (same_where x.place y.place) first.1 in
    let wait = waits-alike (waits a s t) (waits b s t) (same_awaited (space_at a s).sync (space_at b s).sync i) both.1 in
    waiting w s (space_at a s).sync (space_at b s).sync (waits a s t) x.program x.pc x.place wait.1
    ∙ ap (λ (on : Bool). made_by w s (space_at b s).sync on x.program x.pc x.place) wait.0
    ∙ ap (λ (n : ℕ). made_by w s (space_at b s).sync (waits b s t) n x.pc x.place) (eqb-true x.program y.program first.0)
    ∙ ap (λ (n : ℕ). made_by w s (space_at b s).sync (waits b s t) y.program n x.place) (eqb-true x.pc y.pc second.0)
    ∙ ap (λ (place : Place). made_by w s (space_at b s).sync (waits b s t) y.program y.pc place) (placed x.place y.place second.1)

if-parts : (b c : Bool) → (if b then c else false) ≡ true → (b ≡ true) × (c ≡ true)
if-parts true c h = (refl, h)
if-parts false c h = absurd (false≢true h)

threading : (w : WorkloadView) (a b : State) (s : SpaceNo) (t : ThreadNo) → thread_same w a b s t ≡ true → thread_text w a s t ≡ thread_text w b s t
threading w a b s t h =
    let parts = if-parts (nat_lt s.0 (length a.spaces) && nat_lt s.0 (length b.spaces)) (has_made a s t && (has_made b s t && made_same w a b s t)) h in
    let spaces = and_parts (nat_lt s.0 (length a.spaces)) (nat_lt s.0 (length b.spaces)) parts.0 in
    let made = and_parts (has_made a s t) (has_made b s t && made_same w a b s t) parts.1 in
    let same = and_parts (has_made b s t) (made_same w a b s t) made.1 in
    ap (λ (is : Bool). if is then made_text w a s t else codes "-") (and_from (nat_lt s.0 (length a.spaces)) (has_made a s t) spaces.0 made.0)
    ∙ making w a b s t same.1
    ∙ sym (ap (λ (is : Bool). if is then made_text w b s t else codes "-") (and_from (nat_lt s.0 (length b.spaces)) (has_made b s t) spaces.1 same.0))

-- a cell
pub same-text : (ups : List ActNo) (m n : Seen) (c : Cell) → n.workload ≡ m.workload → is_same m n c ≡ true → text_of ups m c ≡ text_of ups n c
same-text ups m n (Owner p) w h = absurd (false≢true h)
same-text ups m n (Aim p) w h = absurd (false≢true h)
same-text ups m n (Line p) w h = ap line_text (line (line_of m.readings p) (line_of n.readings p) h)
same-text ups m n (Activation p) w h = absurd (false≢true h)
same-text ups m n (Runs p) w h =
    let both = and_parts (both_if same_run (life_on m.readings p) (life_on n.readings p)) (same_thread (carried_on m.readings p) (carried_on n.readings p)) h in
    running (life_on m.readings p) (life_on n.readings p) (carried_on m.readings p) (carried_on n.readings p) both.0
    (thread (carried_on m.readings p) (carried_on n.readings p) both.1)
same-text ups m n (Demand s) w h = absurd (false≢true h)
same-text ups m n (Untold s) w h = absurd (false≢true h)
same-text ups m n (Holder s l) w h = absurd (false≢true h)
same-text ups m n (Listed s l) w h = absurd (false≢true h)
same-text ups m n (ThreadCell s t) w h =
    threading m.workload m.readings.state n.readings.state s t h ∙ ap (λ (x : WorkloadView). thread_text x n.readings.state s t) (sym w)
same-text ups m n (Mutex s k) w h = absurd (false≢true h)
same-text ups m n (Semaphore s k) w h = absurd (false≢true h)
same-text ups m n (Shared s k) w h = absurd (false≢true h)
same-text ups m n (Where a) w h = placing m.readings n.readings a (life_of m.readings a) (life_of n.readings a) h
same-text ups m n (Locks a) w h = locking (life_of m.readings a) (life_of n.readings a) h
same-text ups m n (Hand a) w h = handing m.readings n.readings (life_of m.readings a) (life_of n.readings a) h

-- nobody has a lock
pub free-text : (r : Readings) (ups : List ActNo) (s : SpaceNo) (l : ProcNo) → (IsLocked r s l → ⊥) → holder_text r ups s l ≡ codes "free"
free-text r ups s l nobody = ap (held_if r s l) (nobody_has r s l (candidates r s ++ ups) nobody)
