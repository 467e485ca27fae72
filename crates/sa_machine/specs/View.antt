-- The machine as a value.
use Rattle.sa_kernel.specs.Kept.{kernel_of}
use Rattle.sa_core_model.specs.Machine.{Machine}
use Rattle.sa_machine.specs.declared.machine.MachineParts.{MachineParts}

abbrev pub machine_of : {U C : Type 0} → MachineParts U C → Machine U C
machine_of m = record {
  workload = m.workload;
  kernel = kernel_of m.kernel;
  users = m.users;
  contexts = m.contexts.items;
  event = m.events;
  items = m.trace.items;
}
