-- The parts of the kernel as the state, and their room.
use Rattle.std.specs.Prelude.{ℕ, ◌+◌, ◌≤◌}
use Rattle.sa_base.specs.Recorded.{Recorded}
use Rattle.sa_acts.specs.Table.{acts_of}
use Rattle.sa_kernel.specs.declared.parts.Parts.{Parts}
use Rattle.sa_kernel_model.specs.State.{KernelState, Scene}

module _ {C : Type 0} where
  abbrev pub state_of : Parts C → KernelState C
  state_of m = record {
    fixed = record { priorities = m.priorities.items; fetch = m.fetch; slice = m.slice; evictions = m.devices.evictions };
    assign = m.assign;
    lives = m.lives.items;
    acts = (acts_of m.acts).acts;
    taken = m.acts.taken;
    demands = m.demands.items;
    untold = m.notices.untold;
    telling = m.notices.telling;
    io_count = m.devices.ios.io_count;
    under_way = m.devices.ios.under_way;
    pages = m.devices.pages;
  }

  abbrev pub scene_of : Parts C → Recorded → Scene C
  scene_of m trace = record { state = state_of m; items = trace.items }

  -- how many numbers are in use
  abbrev pub used : Parts C → ℕ
  used m = (acts_of m.acts).used

  -- no more room was spent than this: for notices, for activations, for I/Os; and no more I/Os were begun, nor numbers used
  pub record Spends (old new : Parts C) (notes fresh io_count : ℕ) : Type 0 where
    pub notices : old.notices.spare ≤ new.notices.spare + notes
    pub acts : old.acts.spare ≤ new.acts.spare + fresh
    pub ios : old.devices.ios.spare ≤ new.devices.ios.spare + io_count
    pub count : new.devices.ios.io_count ≤ old.devices.ios.io_count + io_count
    pub used : used new ≤ used old + fresh
