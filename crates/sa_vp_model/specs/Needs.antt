-- What each part of a turn needs of the board.
use Rattle.std.specs.Prelude.{◌≡◌, ℕ, ◌+◌, ◌^◌, ◌<◌, ◌≤◌, Bool, true, List, length, Option, Some, None, slice_get, slice_index_or}
use Rattle.sa_base.specs.declared.number.ProcNo.{ProcNo}
use Rattle.sa_base.specs.declared.number.ThreadNo.{ThreadNo}
use Rattle.sa_base.specs.declared.number.ActNo.{ActNo}
use Rattle.sa_base.specs.declared.number.IoNo.{IoNo}
use Rattle.sa_base.specs.declared.limits.TheConstants.{MAX_EVENTS, MAX_SPACES, MAX_THREADS}
use Rattle.sa_base.specs.declared.record.Record.TheVariants.{Ins, Run, Stop, Block, Unblock, Cont, Ready}
use Rattle.sa_spaces.specs.Workload.{WorkloadView}
use Rattle.sa_links.specs.Lists.{Lists, count_in, count_in_all}
use Rattle.sa_instr.specs.declared.instr.Instr.TheVariants.{Io as IoOf}
use Rattle.sa_devices.specs.declared.kind.IoKind.{IoKind}
use Rattle.sa_devices.specs.declared.kind.IoKind.TheVariants.{Plain, Page}
use Rattle.sa_devices.specs.Ios.{Io, due_of, io_at, io_no}
use Rattle.sa_devices.specs.Pages.{IsKind}
use Rattle.sa_laws.specs.State.{State, next_instr, thread_at, with_owner}
use Rattle.sa_laws.specs.Machine.{next_effect}
use Rattle.sa_replay.specs.Needs.{CanChange, IsOverfull}
use Rattle.std.specs.Option.{option_map}
use Rattle.sa_virtual.specs.Virtual.{space_of, list_of}
use Rattle.sa_virtual.specs.Turn.{of_io}
use Rattle.sa_virtual.specs.Holding.{numbers}
use Rattle.sa_vp_model.specs.declared.limits.TheConstants.{VIRTUALS}
use Rattle.sa_vp_model.specs.Board.{Board, of_space, list_in, queued}
use Rattle.sa_vp_model.specs.Turn.{act, thread, held_by, with_step, carried_on, stops, picked, missed_page, has_had_its_turn, goes as goes_with}
use Rattle.sa_vp_model.specs.Mirror.{rows}

-- there are as many entries as there are of each
pub record AreRows (processors : ℕ) (c : Lists) : Type 0 where
  pub nodes : c.nodes ≡ MAX_THREADS
  pub many : length c.lists ≡ processors

pub record IsTabled (b : Board) : Type 0 where
  pub threads : length b.threads ≡ VIRTUALS
  pub steps : length b.steps ≡ VIRTUALS
  pub placed : length b.placed ≡ b.workload.processors
  pub ready : length b.ready ≡ length b.workload.spaces
  pub work : length b.work ≡ length b.workload.spaces
  pub blocked : length b.blocked ≡ length b.workload.spaces
  pub lost : length b.lost ≡ length b.workload.spaces
  pub pages : length b.devices.pages ≡ length b.workload.spaces
  pub queue_nodes : b.queue.nodes ≡ VIRTUALS
  pub queue_lists : length b.queue.lists ≡ 1
  pub ready_rows : (s : ℕ) → s < length b.workload.spaces → AreRows b.workload.processors (rows b.ready s)
  pub work_rows : (s : ℕ) → s < length b.workload.spaces → AreRows b.workload.processors (rows b.work s)

-- the number of a virtual processor
pub record IsVirtual (b : Board) (a : ActNo) : Type 0 where
  pub space : (space_of a).0 < length b.workload.spaces
  pub list : (list_of a).0 < b.workload.processors
  pub small : a.0 < VIRTUALS

-- one comes back from an I/O
pub record CanComeBack (p : ProcNo) (a : ActNo) (b : Board) : Type 0 where
  pub tabled : IsTabled b
  pub virtual : IsVirtual b a
  pub free : count_in_all a.0 b.queue.lists ≡ 0
  pub some : 1 ≤ slice_index_or b.blocked (space_of a).0 0
  pub can : CanChange b.workload p b.state (Unblock (space_of a) (held_by b a) a)

-- one is placed
pub record CanPlace (p : ProcNo) (a : ActNo) (w : WorkloadView) (state : State) (threads : List (Option ThreadNo)) (steps : List ℕ)
    (placed : List (Option ActNo)) : Type 0 where
  pub many_threads : length threads ≡ VIRTUALS
  pub many_steps : length steps ≡ VIRTUALS
  pub many_placed : length placed ≡ w.processors
  pub small : a.0 < VIRTUALS
  pub can : (t : ThreadNo) → slice_index_or threads a.0 None ≡ Some t → CanChange w p (with_owner state p (Some (space_of a))) (Cont (space_of a) (Some t))

abbrev pub CanPlaceOn : ProcNo → ActNo → Board → Type 0
CanPlaceOn p a b = CanPlace p a b.workload b.state b.threads b.steps b.placed

-- one gives way
pub record CanGiveWay (p : ProcNo) (a : ActNo) (b : Board) : Type 0 where
  pub tabled : IsTabled b
  pub small : a.0 < VIRTUALS
  pub can : CanChange b.workload p b.state (Stop (space_of a) (carried_on p b) a)
  pub free : count_in_all a.0 b.queue.lists ≡ 0
  pub next : (first : ℕ) → slice_get (queued b) 0 ≡ Some first → CanPlaceOn p (act first) (stops p a (carried_on p b) b)

-- a thread becomes ready
pub record CanReady (p : ProcNo) (a : ActNo) (first : ThreadNo) (b : Board) : Type 0 where
  pub tabled : IsTabled b
  pub virtual : IsVirtual b a
  pub unlisted : count_in_all first.0 (of_space b.ready (space_of a)).lists ≡ 0
  pub due : 1 ≤ b.due
  pub can : CanChange b.workload p b.state (Ready (space_of a) first)

-- one blocks
pub record CanBlockOn (p : ProcNo) (a : ActNo) (t : ThreadNo) (reason : IoKind) (b : Board) : Type 0 where
  pub tabled : IsTabled b
  pub virtual : IsVirtual b a
  pub event : b.number ≤ MAX_EVENTS
  pub io_count : b.devices.ios.io_count < b.number
  pub kind : IsKind (length b.devices.pages) reason
  pub blocked : slice_index_or b.blocked (space_of a).0 0 < b.number
  pub can : CanChange b.workload p b.state (Block (space_of a) (Some t) a (record { 0 = b.devices.ios.io_count }))

-- an instruction
pub record CanGoOn (p : ProcNo) (a : ActNo) (t : ThreadNo) (b : Board) : Type 0 where
  pub tabled : IsTabled b
  pub virtual : IsVirtual b a
  pub can : CanChange b.workload p b.state (Ins (space_of a) t (thread_at b.state (space_of a) t).pc)
  pub room : IsOverfull b.workload b.state (Ins (space_of a) t (thread_at b.state (space_of a) t).pc) → ⊥
  pub below : (u : ℕ) → 1 ≤ count_in u (numbers (next_effect b.workload b.state (space_of a) t).roused) → u < MAX_THREADS
  pub once : (u : ℕ) → count_in_all u (of_space b.work (space_of a)).lists + count_in u (numbers (next_effect b.workload b.state (space_of a) t).roused) ≤ 1
  pub due : b.due + length (next_effect b.workload b.state (space_of a) t).roused < 2 ^ 64

-- one looks for a thread
pub record CanLook (p : ProcNo) (a : ActNo) (b : Board) : Type 0 where
  pub tabled : IsTabled b
  pub virtual : IsVirtual b a
  pub can : (l : ProcNo) (own : Bool) (t : ℕ) → l.0 < b.workload.processors → picked (list_in b.ready (space_of a) l) own ≡ Some t
      → CanChange b.workload p b.state (Run (space_of a) (thread t))

-- one runs its thread
pub record CanRunOn (p : ProcNo) (a : ActNo) (t : ThreadNo) (b : Board) : Type 0 where
  pub tabled : IsTabled b
  pub virtual : IsVirtual b a
  pub goes : CanGoOn p a t b
  pub faults : (page : ℕ) → missed_page b (space_of a) (next_instr b.workload b.state (space_of a) t) ≡ Some page
      → CanBlockOn p a t (Page (space_of a) a page) b
  pub blocks : (n : ℕ) → next_instr b.workload b.state (space_of a) t ≡ IoOf n → CanBlockOn p a t (Plain (space_of a) a) (goes_with p a t b)

-- one does a step
pub record CanStep (p : ProcNo) (a : ActNo) (b : Board) : Type 0 where
  pub tabled : IsTabled b
  pub virtual : IsVirtual b a
  pub few : slice_index_or b.steps a.0 0 < MAX_EVENTS + 1
  pub readies : (first : ℕ) → slice_get (list_in b.work (space_of a) (list_of a)) 0 ≡ Some first → CanReady p a (thread first) (with_step a b)
  pub runs : (t : ThreadNo) → carried_on p b ≡ Some t → CanRunOn p a t (with_step a b)
  pub looks : carried_on p b ≡ None → CanLook p a (with_step a b)

-- a processor acts
pub record CanAct (p : ProcNo) (b : Board) : Type 0 where
  pub tabled : IsTabled b
  pub inside : p.0 < b.workload.processors
  pub back : (n : IoNo) (reason : IoKind) → option_map io_no (due_of b.number b.devices.ios.under_way) ≡ Some n
      → option_map (λ (io : Io). io.kind) (io_at n.0 b.devices.ios.under_way) ≡ Some reason → CanComeBack p (of_io reason) b
  pub first : slice_index_or b.placed p.0 None ≡ None → (a : ℕ) → slice_get (queued b) 0 ≡ Some a → CanPlaceOn p (act a) b
  pub gives_way : (a : ActNo) → slice_index_or b.placed p.0 None ≡ Some a → has_had_its_turn b a ≡ true → CanGiveWay p a b
  pub steps : (a : ActNo) → slice_index_or b.placed p.0 None ≡ Some a → CanStep p a b

-- losses are counted
pub record CanLose (b : Board) : Type 0 where
  pub same : length b.blocked ≡ length b.lost
  pub spaces : length b.lost ≤ MAX_SPACES
  pub few : (s : ℕ) → slice_index_or b.lost s 0 < 2 ^ 63
