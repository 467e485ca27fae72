-- Virtual processors on their processors, as a value that does not grow but for its items: what is read off the history
-- of a run, kept. Virtual processor k of space s has the number 16 s + k; the lists of its space have its place k.
use Rattle.std.specs.Prelude.{ℕ, List, [], ◌∷◌, ◌++◌, length, map, replicate, Option, None, slice_index_or, slice_set}
use Rattle.sa_base.specs.declared.number.ProcNo.{ProcNo}
use Rattle.sa_base.specs.declared.number.SpaceNo.{SpaceNo}
use Rattle.sa_base.specs.declared.number.ThreadNo.{ThreadNo}
use Rattle.sa_base.specs.declared.number.ActNo.{ActNo}
use Rattle.sa_base.specs.declared.limits.TheConstants.{MAX_THREADS}
use Rattle.sa_base.specs.declared.record.Item.{Item}
use Rattle.sa_base.specs.declared.record.Record.{Record}
use Rattle.sa_spaces.specs.Workload.{WorkloadView}
use Rattle.sa_links.specs.Lists.{Lists, list_at, with_list}
use Rattle.sa_devices.specs.DevicesView.{DevicesView, opening as no_ios}
use Rattle.sa_laws.specs.State.{State, opening_state}
use Rattle.sa_laws.specs.Machine.{changed}
use Rattle.sa_virtual.specs.Virtual.{opening_queue}
use Rattle.sa_vp_model.specs.declared.limits.TheConstants.{VIRTUALS}

pub record Board : Type 0 where
  pub workload : WorkloadView
  -- the number of the next event
  pub number : ℕ
  -- the state of the abstract machine
  pub state : State
  pub devices : DevicesView
  -- the queue, the only list of its kind, of the numbers of virtual processors
  pub queue : Lists
  -- of each processor: the one that is placed there
  pub placed : List (Option ActNo)
  -- of each virtual processor: the thread of its last stop or block; the steps that it has made since it was placed
  pub threads : List (Option ThreadNo)
  pub steps : List ℕ
  -- of each space, at each place: the ready list, the newest thread first; the work list
  pub ready : List Lists
  pub work : List Lists
  -- how many threads are in work lists
  pub due : ℕ
  -- of each space: how many of its virtual processors are blocked, and what it has lost
  pub blocked : List ℕ
  pub lost : List ℕ
  pub items : List Item

-- that many lists without a thread
abbrev pub empty : ℕ → Lists
empty lists = record { nodes = MAX_THREADS; lists = replicate lists [] }

-- thread 0 is ready in the first list
abbrev pub first_ready : ℕ → Lists
first_ready lists = with_list (empty lists) 0 (0 ∷ [])

-- the numbers of virtual processors
abbrev pub act_numbers : List ActNo → List ℕ
act_numbers queue = map (λ (a : ActNo). a.0) queue

abbrev pub opened : WorkloadView → Board
opened w = record {
  workload = w;
  number = 1;
  state = opening_state w;
  devices = no_ios w;
  queue = record { nodes = VIRTUALS; lists = act_numbers (opening_queue w) ∷ [] };
  placed = replicate w.processors None;
  threads = replicate VIRTUALS None;
  steps = replicate VIRTUALS 0;
  ready = replicate (length w.spaces) (first_ready w.processors);
  work = replicate (length w.spaces) (empty w.processors);
  due = 0;
  blocked = replicate (length w.spaces) 0;
  lost = replicate (length w.spaces) 0;
  items = [];
}

-- the lists of a space
abbrev pub no_lists : Lists
no_lists = record { nodes = 0; lists = [] }

abbrev pub of_space : List Lists → SpaceNo → Lists
of_space rows s = slice_index_or rows s.0 no_lists

-- one of them
abbrev pub list_in : List Lists → SpaceNo → ProcNo → List ℕ
list_in rows s l = list_at (of_space rows s).lists l.0

abbrev pub with_list_in : List Lists → SpaceNo → ProcNo → List ℕ → List Lists
with_list_in rows s l xs = slice_set rows s.0 (with_list (of_space rows s) l.0 xs)

-- the first of the queue, and the queue without it
abbrev pub queued : Board → List ℕ
queued b = list_at b.queue.lists 0

-- after a record of the event on a processor
abbrev pub said : ProcNo → Record → Board → Board
said p what b = record b {
  state = changed b.workload p b.state what;
  items = b.items ++ record { event = b.number; proc = p; what = what } ∷ [];
}
