-- The names and texts of cells hold no sign of markup.
use Rattle.std.proofs.Common.{◌≡◌, ℕ, ◌-◌, true, List, [], ◌∷◌, ◌++◌, length, Option, Some, None, refl}
use Rattle.std.specs.Prelude.{codes, decimal, nat_lt, ◌==◌, if◌then◌else◌, slice_index}
use Rattle.std.specs.List.{flat_map}
use Rattle.sa_base.specs.declared.number.ProcNo.{ProcNo}
use Rattle.sa_base.specs.declared.number.SpaceNo.{SpaceNo}
use Rattle.sa_base.specs.declared.number.ThreadNo.{ThreadNo}
use Rattle.sa_base.specs.declared.number.ActNo.{ActNo}
use Rattle.sa_base.specs.declared.record.Note.{Note}
use Rattle.sa_base.specs.declared.record.Note.TheVariants as note
use Rattle.sa_instr.specs.declared.instr.Instr.{Instr}
use Rattle.sa_instr.specs.declared.instr.Instr.TheVariants as instr
use Rattle.sa_instr.specs.declared.operand.Operand.{Operand}
use Rattle.sa_instr.specs.declared.operand.Operand.TheVariants as operand
use Rattle.sa_instr.specs.declared.operation.Operation.{Operation}
use Rattle.sa_instr.specs.declared.operation.Operation.TheVariants as does
use Rattle.sa_instr.specs.Instr.{reg_number}
use Rattle.sa_instr.specs.Operation.{form_of}
use Rattle.sa_instr.specs.Parts.{parts_of}
use Rattle.sa_workload.specs.Text.{operand_word}
use Rattle.sa_sync.specs.Sync.{Sync, Mutex, Semaphore, mutex_at, semaphore_at}
use Rattle.sa_laws.specs.declared.place.Place.{Place}
use Rattle.sa_laws.specs.declared.place.Place.TheVariants as place
use Rattle.sa_laws.specs.State.{State, SpaceState, space_at, thread_at, instr_of}
use Rattle.sa_laws.specs.Life.{Life, Lock}
use Rattle.sa_laws.specs.Readings.{Readings, Listed, life_of, life_on, line_of, owner_of, aim_of, running_of, demand_of, untold_of, ready_of, counts}
use Rattle.sa_laws.specs.Step.{has_io}
use Rattle.sa_check_moment.specs.Seen.{Seen}
use Rattle.sa_svg.specs.Laws.{is_plain}
use Rattle.sa_cells.specs.declared.cell.Cell.{Cell}
use Rattle.sa_cells.specs.declared.cell.Cell.TheVariants.{Owner, Aim, Line, Activation, Runs, Demand, Untold, Holder, Listed as ListOf, Thread, Mutex as MutexOf, Semaphore as SemaphoreOf, Shared, Where, Locks, Hand}
use Rattle.sa_cells.specs.Pieces.{numbered, one, and_thread}
use Rattle.sa_cells.specs.Name.{of_space, name_of}
use Rattle.sa_cells.specs.Processor.{line_text, handler_text, copy_text, thread_text as thread_in_text, carrying_text, runs_in, carried_on}
use Rattle.sa_cells.specs.Space.{note_text, listed_in, held_or, held_if, lock_at, first_holder}
use Rattle.sa_cells.specs.Life.{is_on, is_untold, off_text, resting_text, on_or_off, place_text as life_place, lock_text, hand_thread, hand_text, locks_text, of_life}
use Rattle.sa_cells.specs.Thread.{operand_text, instr_text, place_text, next_text, going_text, standing_text, held_by, awaited_text, waiting_text, waits, made_text, is_made}
use Rattle.sa_cells.specs.Sync.{queue_text, holder_text, mutex_text, semaphore_text, mutex_in, semaphore_in, cell_in, of_sync}
use Rattle.sa_cells.specs.Text.{text_of}
use Rattle.sa_svg.proofs.Plain.{plain-append}
use Rattle.sa_cells.proofs.PlainPieces.{plain-decimal, plain-choice, plain-numbered, plain-one, plain-each, plain-space, plain-act, plain-and-thread}

-- names
of-space : (s : ℕ) (word : List ℕ) (n : ℕ) → is_plain word ≡ true → is_plain (of_space s word n) ≡ true
of-space s word n p = plain-append (numbered (codes "s") s) (numbered word n) (plain-numbered (codes "s") s refl) (plain-numbered word n p)

pub plain-name : (c : Cell) → is_plain (name_of c) ≡ true
plain-name (Owner p) = plain-one (codes "p") p.0 (codes ".space") refl refl
plain-name (Aim p) = plain-one (codes "p") p.0 (codes ".aim") refl refl
plain-name (Line p) = plain-one (codes "p") p.0 (codes ".line") refl refl
plain-name (Activation p) = plain-one (codes "p") p.0 (codes ".activation") refl refl
plain-name (Runs p) = plain-one (codes "p") p.0 (codes ".runs") refl refl
plain-name (Demand s) = plain-one (codes "s") s.0 (codes ".demand") refl refl
plain-name (Untold s) = plain-one (codes "s") s.0 (codes ".untold") refl refl
plain-name (Holder s l) = of-space s.0 (codes ".lock") l.0 refl
plain-name (ListOf s l) = of-space s.0 (codes ".list") l.0 refl
plain-name (Thread s t) = of-space s.0 (codes ".thread") t.0 refl
plain-name (MutexOf s m) = of-space s.0 (codes ".mutex") m refl
plain-name (SemaphoreOf s k) = of-space s.0 (codes ".semaphore") k refl
plain-name (Shared s c) = of-space s.0 (codes ".cell") c refl
plain-name (Where a) = plain-one (codes "a") a.0 (codes ".place") refl refl
plain-name (Locks a) = plain-one (codes "a") a.0 (codes ".locks") refl refl
plain-name (Hand a) = plain-one (codes "a") a.0 (codes ".hand") refl refl

-- of a processor
plain-line : (line : Option ℕ) → is_plain (line_text line) ≡ true
plain-line None = refl
plain-line (Some event) = plain-numbered (codes "raised at event ") event refl

plain-handler : (life : Life) → is_plain (handler_text life) ≡ true
plain-handler life =
    plain-choice life.cont (codes "the handler, in the copy of a section") (if life.scans == 0 then codes "the handler" else codes "a look in vain") refl
    (plain-choice (life.scans == 0) (codes "the handler") (codes "a look in vain") refl refl)

plain-carrying : (life : Life) (t : Option ThreadNo) → is_plain (carrying_text life t) ≡ true
unfolding thread_in_text
plain-carrying life None = plain-handler life
plain-carrying life (Some t) =
    plain-append (numbered (codes "thread ") t.0) (copy_text life) (plain-numbered (codes "thread ") t.0 refl)
    (plain-choice life.cont (codes ", in the copy of its section") (codes "") refl refl)

plain-runs : (life : Option Life) (t : Option ThreadNo) → is_plain (runs_in life t) ≡ true
plain-runs None t = refl
plain-runs (Some life) t = plain-carrying life t

-- of a space
plain-note : (n : Note) → is_plain (note_text n) ≡ true
plain-note (note.Add p) = plain-numbered (codes " add ") p.0 refl
plain-note (note.Preempted a) = plain-numbered (codes " preempted ") a.0 refl
plain-note (note.Blocked a) = plain-numbered (codes " blocked ") a.0 refl
plain-note (note.Unblocked a) = plain-numbered (codes " unblocked ") a.0 refl

plain-listed : (l : ProcNo) (x : Listed) → is_plain (listed_in l x) ≡ true
plain-listed l x = plain-choice (x.list.0 == l.0) (numbered (codes " ") x.thread.0) [] (plain-numbered (codes " ") x.thread.0 refl) refl

plain-held : (lock : Option Lock) (a : ActNo) → is_plain (held_or lock a) ≡ true
plain-held None a = refl
plain-held (Some lock) a =
    plain-append (numbered (codes "activation ") a.0) (and_thread lock.thread) (plain-numbered (codes "activation ") a.0 refl) (plain-and-thread lock.thread)

plain-holder : (r : Readings) (s : SpaceNo) (l : ProcNo) (a : Option ActNo) → is_plain (held_if r s l a) ≡ true
plain-holder r s l None = refl
plain-holder r s l (Some a) = plain-held (lock_at r s l a) a

-- of a life
plain-off : (r : Readings) (a : ActNo) (life : Life) → is_plain (off_text r a life) ≡ true
plain-off r a life =
    plain-choice (has_io r a) (if is_untold r life (note.Blocked a) then codes "blocked, untold" else codes "blocked")
    (if is_untold r life (note.Unblocked a) then codes "unblocked, untold"
    else (if is_untold r life (note.Preempted a) then codes "preempted, untold" else codes "over, and told"))
    (plain-choice (is_untold r life (note.Blocked a)) (codes "blocked, untold") (codes "blocked") refl refl)
    (plain-choice (is_untold r life (note.Unblocked a)) (codes "unblocked, untold")
    (if is_untold r life (note.Preempted a) then codes "preempted, untold" else codes "over, and told") refl
    (plain-choice (is_untold r life (note.Preempted a)) (codes "preempted, untold") (codes "over, and told") refl refl))

plain-place : (r : Readings) (a : ActNo) (life : Life) → is_plain (life_place r a life) ≡ true
unfolding life_place resting_text
plain-place r a life =
    plain-append (one (codes "space ") life.space.0 (codes ", ")) (on_or_off r a life) (plain-one (codes "space ") life.space.0 (codes ", ") refl refl)
    (plain-choice (is_on r a life) (numbered (codes "on processor ") life.proc.0) (off_text r a life ++ and_thread life.thread)
    (plain-numbered (codes "on processor ") life.proc.0 refl)
    (plain-append (off_text r a life) (and_thread life.thread) (plain-off r a life) (plain-and-thread life.thread)))

plain-lock : (lock : Lock) → is_plain (lock_text lock) ≡ true
plain-lock lock =
    plain-append (numbered (codes " list ") lock.list.0) (and_thread lock.thread) (plain-numbered (codes " list ") lock.list.0 refl)
    (plain-and-thread lock.thread)

plain-hand : (x : SpaceState) (t : ThreadNo) → is_plain (hand_thread x t) ≡ true
plain-hand x t = plain-choice (counts x t) (numbered (codes " ") t.0) [] (plain-numbered (codes " ") t.0 refl) refl

plain-life : (text : Life → List ℕ) → ((life : Life) → is_plain (text life) ≡ true) → (life : Option Life) → is_plain (of_life text life) ≡ true
plain-life text p None = refl
plain-life text p (Some life) = p life

-- of a thread
plain-operand : (o : Operand) → is_plain (operand_word o) ≡ true
plain-operand (operand.Register r) = plain-numbered (codes "r") (reg_number r) refl
plain-operand (operand.Value n) = plain-decimal n
plain-operand (operand.Place n) = plain-decimal n
plain-operand (operand.Cell n) = plain-decimal n
plain-operand (operand.Program n) = plain-decimal n
plain-operand (operand.Mutex n) = plain-decimal n
plain-operand (operand.Semaphore n) = plain-decimal n
plain-operand (operand.Length n) = plain-decimal n
plain-operand (operand.Page n) = plain-decimal n

plain-operation : (o : Operation) → is_plain (form_of o).word ≡ true
plain-operation does.Compute = refl
plain-operation does.Set = refl
plain-operation does.Add = refl
plain-operation does.Sub = refl
plain-operation does.Jnz = refl
plain-operation does.Load = refl
plain-operation does.Store = refl
plain-operation does.Out = refl
plain-operation does.Fork = refl
plain-operation does.Join = refl
plain-operation does.Lock = refl
plain-operation does.Unlock = refl
plain-operation does.Wait = refl
plain-operation does.Signal = refl
plain-operation does.Io = refl
plain-operation does.Touch = refl
plain-operation does.End = refl

pub plain-instr : (i : Instr) → is_plain (instr_text i) ≡ true
plain-instr i =
    plain-append (form_of (parts_of i).operation).word (flat_map operand_text (parts_of i).operands) (plain-operation (parts_of i).operation)
    (plain-each operand_text (λ o. plain-append (codes " ") (operand_word o) refl (plain-operand o)) (parts_of i).operands)

plain-place-of : (p : Place) → is_plain (place_text p) ≡ true
plain-place-of (place.Running p) = plain-numbered (codes "runs on processor ") p.0 refl
plain-place-of place.Ready = refl
plain-place-of place.Blocked = refl
plain-place-of place.Waiting = refl
plain-place-of place.Carried = refl
plain-place-of place.Done = refl

plain-next : (pc : ℕ) (i : Instr) → is_plain (next_text pc i) ≡ true
unfolding next_text
plain-next pc i =
    plain-append (one (codes ", at ") pc (codes ": ")) (instr_text i) (plain-one (codes ", at ") pc (codes ": ") refl refl) (plain-instr i)

plain-going : (p : Place) (pc : ℕ) (i : Instr) → is_plain (going_text p pc i) ≡ true
plain-going place.Done pc i = refl
plain-going p pc i = plain-next pc i

plain-standing : (p : Place) (pc : ℕ) (i : Instr) → is_plain (standing_text p pc i) ≡ true
unfolding standing_text
plain-standing p pc i = plain-append (place_text p) (going_text p pc i) (plain-place-of p) (plain-going p pc i)

plain-held-by : (t : Option ℕ) → is_plain (held_by t) ≡ true
plain-held-by None = refl
plain-held-by (Some t) = plain-one (codes ", which thread ") t (codes " holds") refl refl

plain-awaited : (x : Sync) (i : Instr) → is_plain (awaited_text x i) ≡ true
plain-awaited x (instr.Lock m) =
    plain-append (numbered (codes ", for mutex ") m) (held_by (mutex_at x m).holder) (plain-numbered (codes ", for mutex ") m refl)
    (plain-held-by (mutex_at x m).holder)
plain-awaited x (instr.Wait k) = plain-numbered (codes ", for semaphore ") k refl
plain-awaited x (instr.Join r) = refl
plain-awaited x _ = refl

plain-waiting : (x : Sync) (i : Instr) → is_plain (waiting_text x i) ≡ true
unfolding waiting_text
plain-waiting x i =
    plain-append (codes "waits in " ++ instr_text i) (awaited_text x i) (plain-append (codes "waits in ") (instr_text i) refl (plain-instr i)) (plain-awaited x i)

-- of what is waited on
plain-queue : (queue : List ℕ) → is_plain (queue_text queue) ≡ true
plain-queue [] = refl
plain-queue (t ∷ ts) =
    plain-append (codes ", queue") (flat_map (numbered (codes " ")) (t ∷ ts)) refl
    (plain-each (numbered (codes " ")) (λ n. plain-numbered (codes " ") n refl) (t ∷ ts))

plain-holding : (t : Option ℕ) → is_plain (holder_text t) ≡ true
plain-holding None = refl
plain-holding (Some t) = plain-numbered (codes "thread ") t refl

plain-mutex : (m : Mutex) → is_plain (mutex_text m) ≡ true
unfolding mutex_text
plain-mutex m = plain-append (holder_text m.holder) (queue_text m.queue) (plain-holding m.holder) (plain-queue m.queue)

plain-semaphore : (k : Semaphore) → is_plain (semaphore_text k) ≡ true
unfolding semaphore_text
plain-semaphore k =
    plain-append (numbered (codes "count ") k.count) (queue_text k.queue) (plain-numbered (codes "count ") k.count refl) (plain-queue k.queue)

plain-of : (text : Sync → List ℕ) → ((x : Sync) → is_plain (text x) ≡ true) → (a : State) (s : SpaceNo) → is_plain (of_sync text a s) ≡ true
plain-of text p a s = plain-choice (nat_lt s.0 (length a.spaces)) (text (space_at a s).sync) (codes "-") (p (space_at a s).sync) refl

pub plain-text : (ups : List ActNo) (m : Seen) (c : Cell) → is_plain (text_of ups m c) ≡ true
plain-text ups m (Owner p) = plain-space (owner_of m.readings p)
plain-text ups m (Aim p) = plain-space (aim_of m.readings p)
plain-text ups m (Line p) = plain-line (line_of m.readings p)
plain-text ups m (Activation p) = plain-act (running_of m.readings p)
plain-text ups m (Runs p) = plain-runs (life_on m.readings p) (carried_on m.readings p)
plain-text ups m (Demand s) = plain-decimal (demand_of m.readings s)
plain-text ups m (Untold s) = plain-each note_text plain-note (untold_of m.readings s)
plain-text ups m (Holder s l) = plain-holder m.readings s l (first_holder m.readings ups s l)
plain-text ups m (ListOf s l) = plain-each (listed_in l) (plain-listed l) (ready_of m.readings s)
plain-text ups m (Thread s t) =
    let a = m.readings.state in
    let thread = thread_at a s t in
    let x = (space_at a s).sync in
    let i = instr_of m.workload a s t thread.pc in
    let j = instr_of m.workload a s t (thread.pc - 1) in
    plain-choice (is_made a s t) (made_text m.workload a s t) (codes "-")
    (plain-choice (waits a s t) (waiting_text x j) (standing_text thread.place thread.pc i) (plain-waiting x j) (plain-standing thread.place thread.pc i)) refl
plain-text ups m (MutexOf s k) =
    plain-of (λ x. mutex_in x k) (λ x. plain-choice (nat_lt k (length x.mutexes)) (mutex_text (mutex_at x k)) (codes "-") (plain-mutex (mutex_at x k)) refl)
    m.readings.state s
plain-text ups m (SemaphoreOf s k) =
    plain-of (λ x. semaphore_in x k)
    (λ x. plain-choice (nat_lt k (length x.semaphores)) (semaphore_text (semaphore_at x k)) (codes "-") (plain-semaphore (semaphore_at x k)) refl)
    m.readings.state s
plain-text ups m (Shared s c) =
    plain-of (λ x. cell_in x c) (λ x. plain-choice (nat_lt c (length x.cells)) (decimal (slice_index x.cells c)) (codes "-") (plain-decimal (slice_index x.cells c)) refl)
    m.readings.state s
plain-text ups m (Where a) = plain-life (life_place m.readings a) (plain-place m.readings a) (life_of m.readings a)
plain-text ups m (Locks a) = plain-life (λ (life : Life). locks_text life.locks) (λ life. plain-each lock_text plain-lock life.locks) (life_of m.readings a)
plain-text ups m (Hand a) =
    plain-life (hand_text m.readings) (λ life. plain-each (hand_thread (space_at m.readings.state life.space)) (plain-hand (space_at m.readings.state life.space)) life.hand)
    (life_of m.readings a)
