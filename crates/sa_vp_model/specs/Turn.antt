-- A turn of a processor on the board: the first that applies of four.
use Rattle.std.specs.Prelude.{ℕ, ◌+◌, ◌-◌, ◌==◌, min, nat_le, Bool, true, false, ◌&&◌, if◌then◌else◌, List, [], ◌∷◌, ◌++◌, length, map, find, take, drop, Option, Some, None, slice_get, slice_index, slice_index_or, slice_set}
use Rattle.std.specs.List.{range_with_len}
use Rattle.std.specs.Option.{option_map}
use Rattle.sa_base.specs.declared.number.ProcNo.{ProcNo}
use Rattle.sa_base.specs.declared.number.SpaceNo.{SpaceNo}
use Rattle.sa_base.specs.declared.number.ThreadNo.{ThreadNo}
use Rattle.sa_base.specs.declared.number.ActNo.{ActNo}
use Rattle.sa_base.specs.declared.number.IoNo.{IoNo}
use Rattle.sa_base.specs.declared.record.Record.TheVariants.{Ins, Out, Run, Stop, Block, Unblock, Cont, Ready, Take, Free, Move, Idle, Tick}
use Rattle.sa_instr.specs.declared.instr.Instr.{Instr}
use Rattle.sa_instr.specs.declared.instr.Instr.TheVariants.{Out as OutOf, Io as IoOf, Touch}
use Rattle.sa_instr.specs.Regs.{reg_value}
use Rattle.sa_devices.specs.declared.kind.IoKind.{IoKind}
use Rattle.sa_devices.specs.declared.kind.IoKind.TheVariants.{Plain, Page}
use Rattle.sa_devices.specs.Ios.{Io, due_of, io_at, io_no}
use Rattle.sa_devices.specs.Pages.{completed, evicted}
use Rattle.sa_devices.specs.DevicesView.{begun_with, ended_with}
use Rattle.sa_base.specs.Pages.{has_page}
use Rattle.sa_links.specs.Lists.{with_list}
use Rattle.sa_laws.specs.State.{State, Runner, thread_at, next_instr, runner_on, owner_at, space_at}
use Rattle.sa_laws.specs.Machine.{next_effect}
use Rattle.sa_replay.specs.Counts.{is_ready, count_in}
use Rattle.sa_virtual.specs.Virtual.{space_of, list_of}
use Rattle.sa_virtual.specs.Turn.{of_io, quantum, round_from}
use Rattle.sa_virtual.specs.Holding.{numbers}
use Rattle.sa_vp_model.specs.Board.{Board, list_in, with_list_in, queued, said}

abbrev pub act : ℕ → ActNo
act n = record { 0 = n }

abbrev pub thread : ℕ → ThreadNo
thread n = record { 0 = n }

abbrev pub held_by : Board → ActNo → Option ThreadNo
held_by b a = slice_index_or b.threads a.0 None

abbrev pub with_queue : List ℕ → Board → Board
with_queue queue b = record b { queue = with_list b.queue 0 queue }

-- one more, or one less, virtual processor of a space is blocked
abbrev pub one_more : List ℕ → SpaceNo → List ℕ
one_more counts s = slice_set counts s.0 (slice_index_or counts s.0 0 + 1)

abbrev pub one_less : List ℕ → SpaceNo → List ℕ
one_less counts s = slice_set counts s.0 (slice_index_or counts s.0 0 - 1)

-- 1. AN I/O IS OVER: its virtual processor goes to the end of the queue
abbrev pub come_back : ProcNo → ActNo → Board → Board
come_back p a b =
    said p (Unblock (space_of a) (held_by b a) a)
    (with_queue (queued b ++ a.0 ∷ []) (record b { blocked = one_less b.blocked (space_of a) }))

abbrev pub completed_by : ProcNo → ℕ → Option IoKind → Board → Board
completed_by p n None b = b
completed_by p n (Some kind) b =
    come_back p (of_io kind) (record b { devices = record b.devices { ios = ended_with b.devices.ios n; pages = completed kind b.devices.pages } })

abbrev pub completes : ProcNo → IoNo → Board → Board
completes p io b = completed_by p io.0 (option_map (λ (x : Io). x.kind) (io_at io.0 b.devices.ios.under_way)) b

-- 2. ONE IS PLACED, and goes on with its thread
abbrev pub continued : ProcNo → SpaceNo → Option ThreadNo → Board → Board
continued p s None b = b
continued p s (Some t) b = said p (Cont s (Some t)) b

abbrev pub places : ProcNo → ActNo → Board → Board
places p a b =
    continued p (space_of a) (held_by b a)
    (said p (Move (owner_at b.state p) (Some (space_of a))) (record b { placed = slice_set b.placed p.0 (Some a); steps = slice_set b.steps a.0 0 }))

abbrev pub places_first : ProcNo → Option ℕ → Board → Board
places_first p None b = said p Tick b
places_first p (Some a) b = places p (act a) (with_queue (drop 1 (queued b)) b)

-- 3. ONE THAT HAS MADE ITS STEPS gives way to the first of the queue
abbrev pub carried_on : ProcNo → Board → Option ThreadNo
carried_on p b = option_map (λ (runner : Runner). runner.thread) (runner_on b.state p)

abbrev pub stops : ProcNo → ActNo → Option ThreadNo → Board → Board
stops p a t b = said p (Stop (space_of a) t a) (record b { threads = slice_set b.threads a.0 t })

abbrev pub gives_way : ProcNo → ActNo → Option ℕ → Board → Board
gives_way p a None b = b
gives_way p a (Some first) b = places p (act first) (with_queue (drop 1 (queued b) ++ a.0 ∷ []) b)

abbrev pub relieves : ProcNo → ActNo → Board → Board
relieves p a b = gives_way p a (slice_get (queued b) 0) (stops p a (carried_on p b) b)

-- 4. A STEP. The first thread of its work list becomes ready, as the newest of its own list
abbrev pub readies : ProcNo → ActNo → Option ThreadNo → ThreadNo → Board → Board
readies p a t first b =
    let s = space_of a in
    let l = list_of a in
    said p (Free s l t) (said p (Ready s first) (said p (Take s l t) (record b {
      work = with_list_in b.work s l (drop 1 (list_in b.work s l));
      ready = with_list_in b.ready s l (first.0 ∷ list_in b.ready s l);
      due = b.due - 1;
    })))

-- In a step its thread may also block.
abbrev pub blocks : ProcNo → ActNo → ThreadNo → IoKind → ℕ → Board → Board
blocks p a t kind len b =
    let s = space_of a in
    said p (Move (Some s) None) (said p (Block s (Some t) a (record { 0 = b.devices.ios.io_count })) (record b {
      devices = record b.devices { ios = begun_with b.devices.ios kind (b.number + len) };
      threads = slice_set b.threads a.0 (Some t);
      placed = slice_set b.placed p.0 None;
      blocked = one_more b.blocked s;
    }))

-- In a step its thread may also run an instruction.
abbrev pub rouses : ActNo → List ThreadNo → Board → Board
rouses a ts b =
    let s = space_of a in
    record b {
      work = with_list_in b.work s (list_of a) (list_in b.work s (list_of a) ++ numbers ts);
      due = b.due + length ts;
    }

abbrev pub goes : ProcNo → ActNo → ThreadNo → Board → Board
goes p a t b =
    let s = space_of a in
    rouses a (next_effect b.workload b.state s t).roused (said p (Ins s t (thread_at b.state s t).pc) b)

abbrev pub ends_with : ProcNo → ActNo → ThreadNo → List ℕ → Instr → Board → Board
ends_with p a t regs (OutOf reg) b = said p (Out (space_of a) t (reg_value regs reg)) b
ends_with p a t regs (IoOf length) b = blocks p a t (Plain (space_of a) a) length b
ends_with p a t regs _ b = b

abbrev pub missed_page : Board → SpaceNo → Instr → Option ℕ
missed_page b s (Touch page) = if has_page (slice_index b.devices.pages s.0) page then None else Some page
missed_page b s _ = None

abbrev pub runs_on : ProcNo → ActNo → ThreadNo → Instr → Option ℕ → Board → Board
runs_on p a t i (Some page) b = blocks p a t (Page (space_of a) a page) b.workload.fetch b
runs_on p a t i None b = ends_with p a t (thread_at b.state (space_of a) t).regs i (goes p a t b)

abbrev pub runs : ProcNo → ActNo → ThreadNo → Board → Board
runs p a t b =
    let s = space_of a in
    let i = next_instr b.workload b.state s t in
    runs_on p a t i (missed_page b s i) b

-- In a step it may also take a thread from the first list, round from its own, that has one: the newest of its own, the oldest of
-- another.
abbrev pub is_some_list : List ℕ → Bool
is_some_list [] = false
is_some_list (t ∷ ts) = true

abbrev pub picked : List ℕ → Bool → Option ℕ
picked ts true = slice_get ts 0
picked ts false = slice_get ts (length ts - 1)

abbrev pub left_of : List ℕ → Bool → List ℕ
left_of ts true = drop 1 ts
left_of ts false = take (length ts - 1) ts

abbrev pub takes : ProcNo → SpaceNo → ProcNo → Option ℕ → List ℕ → Board → Board
takes p s l None left b = b
takes p s l (Some t) left b =
    said p (Free s l (Some (thread t))) (said p (Run s (thread t)) (said p (Take s l None) (record b { ready = with_list_in b.ready s l left })))

abbrev pub takes_from : ProcNo → ActNo → Option ProcNo → Board → Board
takes_from p a None b = said p Idle b
takes_from p a (Some l) b =
    let s = space_of a in
    let own = l.0 == (list_of a).0 in
    takes p s l (picked (list_in b.ready s l) own) (left_of (list_in b.ready s l) own) b

abbrev pub looks : ProcNo → ActNo → Board → Board
looks p a b = takes_from p a (find (λ l. is_some_list (list_in b.ready (space_of a) l)) (round_from b.workload (list_of a))) b

abbrev pub steps_on : ProcNo → ActNo → Option ℕ → Option ThreadNo → Board → Board
steps_on p a (Some first) t b = readies p a t (thread first) b
steps_on p a None (Some t) b = runs p a t b
steps_on p a None None b = looks p a b

abbrev pub with_step : ActNo → Board → Board
with_step a b = record b { steps = slice_set b.steps a.0 (slice_index_or b.steps a.0 0 + 1) }

abbrev pub steps : ProcNo → ActNo → Board → Board
steps p a b = steps_on p a (slice_get (list_in b.work (space_of a) (list_of a)) 0) (carried_on p b) (with_step a b)

-- the first of these that applies
abbrev pub has_had_its_turn : Board → ActNo → Bool
has_had_its_turn b a = nat_le quantum (slice_index_or b.steps a.0 0) && is_some_list (queued b)

abbrev pub moves_on : ProcNo → ActNo → Bool → Board → Board
moves_on p a true b = relieves p a b
moves_on p a false b = steps p a b

abbrev pub proceeds : ProcNo → Option ActNo → Board → Board
proceeds p None b = places_first p (slice_get (queued b) 0) b
proceeds p (Some a) b = moves_on p a (has_had_its_turn b a) b

abbrev pub acts : ProcNo → Option IoNo → Board → Board
acts p (Some io) b = completes p io b
acts p None b = proceeds p (slice_index_or b.placed p.0 None) b

-- the evictions of the event come first
abbrev pub after_evictions : Board → Board
after_evictions b = record b { devices = record b.devices { pages = evicted b.number b.devices.evictions b.devices.pages } }

-- at the end of the event each space loses as many of its ready threads as it has blocked virtual processors
abbrev pub loss : State → List ℕ → ℕ → ℕ
loss state blocked s = min (slice_index_or blocked s 0) (count_in is_ready (space_at state (record { 0 = s })).threads)

abbrev pub lost_now : Board → ℕ → ℕ
lost_now b s = loss b.state b.blocked s

abbrev pub loses : Board → List ℕ
loses b = map (λ s. slice_index_or b.lost s 0 + lost_now b s) (range_with_len 0 (length b.lost))

abbrev pub counted : Board → Board
counted b = record b { lost = loses b; number = b.number + 1 }

abbrev pub turned : ProcNo → Board → Board
turned p b = let now = after_evictions b in counted (acts p (option_map io_no (due_of now.number now.devices.ios.under_way)) now)
