-- The opening of a workload.
use Rattle.std.specs.Prelude.{ℕ, zero, suc, ◌+◌, false, List, [], ◌∷◌, length, map, replicate, None}
use Rattle.sa_base.specs.declared.limits.TheConstants.{MAX_SPACES}
use Rattle.sa_base.specs.declared.record.Record.{Record}
use Rattle.sa_base.specs.declared.record.Record.TheVariants.{Want}
use Rattle.sa_base.specs.Items.{items_at}
use Rattle.sa_spaces.specs.Space.{SpaceView}
use Rattle.sa_spaces.specs.Workload.{WorkloadView}
use Rattle.sa_assign.specs.Aims.{space_no}
use Rattle.sa_assign.specs.Reaim.{proc_no}
use Rattle.sa_devices.specs.Pages.{opening_pages}
use Rattle.sa_kernel_model.specs.State.{KernelState, Scene}
use Rattle.sa_kernel_model.specs.Closing.{closed}

-- nothing runs, and each space wants one processor
abbrev pub opening_state : {C : Type 0} → WorkloadView → KernelState C
opening_state w = record {
  fixed = record {
    priorities = map (λ (s : SpaceView). s.priority) w.spaces;
    fetch = w.fetch;
    slice = w.slice;
    evictions = w.evictions;
  };
  assign = record {
    owners = replicate w.processors None;
    aims = replicate w.processors None;
    lines = replicate w.processors None;
    marks = replicate w.processors false;
  };
  lives = replicate w.processors None;
  acts = λ n. None;
  taken = replicate MAX_SPACES [];
  demands = replicate (length w.spaces) 1;
  untold = replicate (length w.spaces) [];
  telling = [];
  io_count = 0;
  under_way = [];
  pages = map opening_pages w.spaces;
}

-- n spaces from s on want one processor each
abbrev pub first_wants : ℕ → ℕ → List Record
first_wants s zero = []
first_wants s (suc n) = Want (space_no s) 1 ∷ first_wants (s + 1) n

-- event 0: each space wants a processor, and the closing follows
abbrev pub opened : {C : Type 0} → WorkloadView → Scene C
opened w = closed 0 (proc_no 0) (record {
  state = opening_state w;
  items = items_at 0 (proc_no 0) (first_wants 0 (length w.spaces));
})
