use Rattle.std.proofs.Common.{◌≡◌, ◌+◌, ◌-◌, ◌<◌, ◌++◌, length}
use Rattle.sa_base.specs.Items.{items_from}
use Rattle.sa_package_model.specs.Step.{block_after, says_between}
use Rattle.sa_driven.proofs.instruction.run_on.Given as goal

abbrev pub invariant-loop-done : goal.invariant-loop-done
invariant-loop-done l = record {
  place : l.block.pc < length l.program;
  spare : l.trace.spare + l.done ≡ l.initial.trace.spare;
  block : block_after l.program (l.n - l.done) l.block ≡ block_after l.program l.n l.initial.block;
  items : l.trace.items ++ items_from (l.seen.event + l.done) l.seen.proc (says_between l.space l.thread l.program (l.n - l.done) l.block)
      ≡ l.initial.trace.items ++ items_from l.seen.event l.seen.proc (says_between l.space l.thread l.program l.n l.initial.block);
}
