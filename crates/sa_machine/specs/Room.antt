-- Room for events.
use Rattle.std.specs.Prelude.{ℕ, ◌+◌, ◌*◌, ◌≤◌, max}
use Rattle.sa_kernel.specs.Kept.{kernel_of}
use Rattle.sa_kernel_model.specs.Owed.{owed_items}
use Rattle.sa_machine.specs.declared.machine.MachineParts.{MachineParts}
use Rattle.sa_machine.specs.declared.machine.TheConstants.{EVENT_ITEMS}

module _ {U C : Type 0} where
  -- how many items the entries to come owe for what was done already
  abbrev pub owed : MachineParts U C → ℕ
  owed m = owed_items (kernel_of m.kernel)

  -- the kernel has room for n entries, and the trace for n events and for what is owed before them
  pub record HasRoom (m : MachineParts U C) (n : ℕ) : Type 0 where
    pub entries : n ≤ m.kernel.spare
    pub items : EVENT_ITEMS * n + owed m ≤ m.trace.spare

  -- at most that many items and entries were spent, and no entry is later than the last event
  pub record Spends (old new : MachineParts U C) (most turns : ℕ) : Type 0 where
    pub items : old.trace.spare + owed new ≤ new.trace.spare + owed old + most
    pub entries : old.kernel.spare ≤ new.kernel.spare + turns
    pub last : new.kernel.last ≤ max old.kernel.last new.events
    pub events : old.events ≤ new.events
