-- A cell that no record of an event touches stays.
use Rattle.std.proofs.Common.{◌≡◌, ℕ, ◌-◌, ◌++◌, append-nil, Bool, true, false, not, ◌&&◌, if◌then◌else◌, List, [], length, nat_lt, slice_index, slice_index_or, codes, decimal, Option, None, refl, sym, ◌∙◌, ap}
use Rattle.std.proofs.lemmas.Bool.{false≢true}
use Rattle.std.proofs.lemmas.Slice.Eq.{bytes_eq-Decides}
use Rattle.std.specs.List.{list_any}
use Rattle.sa_base.specs.declared.number.SpaceNo.{SpaceNo}
use Rattle.sa_base.specs.declared.number.ThreadNo.{ThreadNo}
use Rattle.sa_base.specs.declared.number.ActNo.{ActNo}
use Rattle.sa_base.specs.declared.record.Note.{Note}
use Rattle.sa_base.specs.declared.record.Record.{Record}
use Rattle.sa_instr.specs.Local.{instr_at}
use Rattle.sa_spaces.specs.Workload.{WorkloadView}
use Rattle.sa_sync.specs.Sync.{Sync}
use Rattle.sa_laws.specs.Event.{Event}
use Rattle.sa_laws.specs.State.{State, SpaceState, space_at, space_def, thread_in, is_due, is_waiting}
use Rattle.sa_laws.specs.Readings.{Readings, ready_of}
use Rattle.sa_laws.specs.History.{Test, event_begun, after_event}
use Rattle.sa_check_moment.specs.Seen.{Seen}
use Rattle.sa_cells.specs.declared.cell.Cell.{Cell}
use Rattle.sa_cells.specs.declared.cell.Cell.TheVariants.{Owner, Aim, Line, Activation, Runs, Demand, Untold, Holder, Listed, Thread as ThreadCell, Mutex, Semaphore, Shared, Where, Locks, Hand}
use Rattle.sa_cells.specs.Pieces.{space_if, act_if}
use Rattle.sa_cells.specs.Space.{untold_text, list_text}
use Rattle.sa_cells.specs.Sync.{of_sync, mutex_in, semaphore_in, cell_in}
use Rattle.sa_cells.specs.Thread.{waiting_text, standing_text, thread_text}
use Rattle.sa_cells.specs.Text.{text_of}
use Rattle.sa_cells.specs.Change.{cell_line, changed_line}
use Rattle.sa_cells.specs.Stays.{IsAfter, is_move, is_aim, is_want, is_switch, is_news, is_listing, is_instr, is_threads, stays}
use Rattle.sa_cells.proofs.Kept.{kept, owners-stay, aims-stay, running-stays, demands-stay, untold-stays, ready-stays, space-stays, sync-stays, spaces-stay}

none : (b : Bool) → not b ≡ true → b ≡ false
none true h = absurd (false≢true h)
none false h = refl

-- what was read before an event, and what is read after it
abbrev later : Seen → Event → Test → Seen
later m e test = record m { readings = after_event test m.workload m.readings e }

abbrev begun : Seen → Event → Readings
begun m e = event_begun m.workload e m.readings

-- the text of a thread, of its space and how many spaces there are
abbrev thread_by : WorkloadView → SpaceNo → ThreadNo → ℕ → SpaceState → List ℕ
thread_by w s t n x =
    let thread = thread_in x t in
    if nat_lt s.0 n && nat_lt t.0 (length x.threads)
    then (if is_waiting thread.place && not (is_due x t)
    then waiting_text x.sync (instr_at (slice_index_or (space_def w s).programs thread.program []) (thread.pc - 1))
    else standing_text thread.place thread.pc (instr_at (slice_index_or (space_def w s).programs thread.program []) thread.pc))
    else codes "-"

thread-is : (w : WorkloadView) (a : State) (s : SpaceNo) (t : ThreadNo) → thread_text w a s t ≡ thread_by w s t (length a.spaces) (space_at a s)
thread-is w a s t = refl

thread-stays : (w : WorkloadView) (a b : State) (s : SpaceNo) (t : ThreadNo) → length b.spaces ≡ length a.spaces → space_at b s ≡ space_at a s
    → thread_text w b s t ≡ thread_text w a s t
thread-stays w a b s t spaces same =
    thread-is w b s t ∙ ap (λ (n : ℕ). thread_by w s t n (space_at b s)) spaces
    ∙ ap (λ (x : SpaceState). thread_by w s t (length a.spaces) x) same ∙ sym (thread-is w a s t)

sync-same : (text : Sync → List ℕ) (a b : State) (s : SpaceNo) → length b.spaces ≡ length a.spaces → (space_at b s).sync ≡ (space_at a s).sync
    → of_sync text b s ≡ of_sync text a s
sync-same text a b s spaces same =
    ap (λ (n : ℕ). if nat_lt s.0 n then text (space_at b s).sync else codes "-") spaces
    ∙ ap (λ (x : Sync). if nat_lt s.0 (length a.spaces) then text x else codes "-") same

module _ (ups : List ActNo) (m : Seen) (e : Event) (test : Test) where
  spaces-same : (touched : Record → Bool) → list_any touched e.records ≡ false
      → length (later m e test).readings.state.spaces ≡ length m.readings.state.spaces
  spaces-same touched un =
      kept (λ (r : Readings). length r.state.spaces) touched m.workload e.number e.proc (λ r x un. spaces-stay m.workload e.number e.proc r x) (begun m e) e.records un

  sync-stays-at : (text : Sync → List ℕ) (s : SpaceNo) → list_any (is_instr s) e.records ≡ false
      → of_sync text (later m e test).readings.state s ≡ of_sync text m.readings.state s
  sync-stays-at text s un =
      sync-same text m.readings.state (later m e test).readings.state s (spaces-same (is_instr s) un)
      (kept (λ (r : Readings). (space_at r.state s).sync) (is_instr s) m.workload e.number e.proc (sync-stays s m.workload e.number e.proc) (begun m e) e.records un)

  pub stays-by-records : (c : Cell) → stays e.records c ≡ true → text_of ups (later m e test) c ≡ text_of ups m c
  stays-by-records (Owner p) h =
      ap (λ (owners : List (Option SpaceNo)). space_if (slice_index_or owners p.0 None))
      (kept (λ (r : Readings). r.state.owners) is_move m.workload e.number e.proc (owners-stay m.workload e.number e.proc) (begun m e) e.records (none (list_any is_move e.records) h))
  stays-by-records (Aim p) h =
      ap (λ (aims : List (Option SpaceNo)). space_if (slice_index_or aims p.0 None))
      (kept (λ (r : Readings). r.aims) is_aim m.workload e.number e.proc (aims-stay m.workload e.number e.proc) (begun m e) e.records (none (list_any is_aim e.records) h))
  stays-by-records (Line p) h = absurd (false≢true h)
  stays-by-records (Activation p) h =
      ap (λ (running : List (Option ActNo)). act_if (slice_index_or running p.0 None))
      (kept (λ (r : Readings). r.running) is_switch m.workload e.number e.proc (running-stays m.workload e.number e.proc) (begun m e) e.records (none (list_any is_switch e.records) h))
  stays-by-records (Runs p) h = absurd (false≢true h)
  stays-by-records (Demand s) h =
      ap (λ (demands : List ℕ). decimal (slice_index demands s.0))
      (kept (λ (r : Readings). r.demands) is_want m.workload e.number e.proc (demands-stay m.workload e.number e.proc) (begun m e) e.records (none (list_any is_want e.records) h))
  stays-by-records (Untold s) h =
      ap (λ (untold : List (List Note)). untold_text (slice_index_or untold s.0 []))
      (kept (λ (r : Readings). r.untold) is_news m.workload e.number e.proc (untold-stays m.workload e.number e.proc) (begun m e) e.records (none (list_any is_news e.records) h))
  stays-by-records (Holder s l) h = absurd (false≢true h)
  stays-by-records (Listed s l) h =
      ap (list_text l)
      (kept (λ (r : Readings). ready_of r s) (is_listing s) m.workload e.number e.proc (ready-stays s m.workload e.number e.proc) (begun m e) e.records (none (list_any (is_listing s) e.records) h))
  stays-by-records (ThreadCell s t) h =
      thread-stays m.workload m.readings.state (later m e test).readings.state s t (spaces-same (is_threads s) (none (list_any (is_threads s) e.records) h))
      (kept (λ (r : Readings). space_at r.state s) (is_threads s) m.workload e.number e.proc (space-stays s m.workload e.number e.proc) (begun m e) e.records (none (list_any (is_threads s) e.records) h))
  stays-by-records (Mutex s k) h = sync-stays-at (λ (x : Sync). mutex_in x k) s (none (list_any (is_instr s) e.records) h)
  stays-by-records (Semaphore s k) h = sync-stays-at (λ (x : Sync). semaphore_in x k) s (none (list_any (is_instr s) e.records) h)
  stays-by-records (Shared s k) h = sync-stays-at (λ (x : Sync). cell_in x k) s (none (list_any (is_instr s) e.records) h)
  stays-by-records (Where a) h = absurd (false≢true h)
  stays-by-records (Locks a) h = absurd (false≢true h)
  stays-by-records (Hand a) h = absurd (false≢true h)

pub untouched : (ups : List ActNo) (m n : Seen) (e : Event) (c : Cell) → IsAfter m n e → stays e.records c ≡ true → text_of ups m c ≡ text_of ups n c
untouched ups m n e c after h = sym (stays-by-records ups m e after.test c h) ∙ sym (ap (λ (x : Seen). text_of ups x c) after.is)

-- nothing is written of it
pub unwritten : (event : ℕ) (name old new out : List ℕ) → old ≡ new → out ≡ out ++ changed_line event name old new
unwritten event name old new out same =
    sym (append-nil out) ∙ ap (λ (xs : List ℕ). out ++ xs)
    (sym (ap (λ (b : Bool). if b then [] else cell_line (decimal event) name new) ((bytes_eq-Decides old new).1 same)))
