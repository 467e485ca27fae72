-- A workload's fields as a contract sees them.
use Rattle.sa_spaces.specs.declared.workload.Workload.TheInside.{Inside}
use Rattle.sa_spaces.specs.Workload.{WorkloadView}

abbrev pub workload_of : Inside → WorkloadView
workload_of w = record {
  processors = w.processors;
  fetch = w.fetch;
  spaces = w.spaces.items;
  evictions = w.evictions.items;
  turns = w.turns.items;
  slice = w.slice;
}
