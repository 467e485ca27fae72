use Rattle.std.proofs.Common.{◌≡◌, ◌+◌, ◌-◌, ◌≤◌, length}
use Rattle.sa_kernel_model.specs.Sound.{HasSizes}
use Rattle.sa_kernel.specs.View.{state_of, scene_of, Spends}
use Rattle.sa_kernel_model.specs.Closing.{for_spaces, interrupt_for}
use Rattle.sa_kernel.proofs.parts.Parts.interrupt_all.Given as goal

-- what is left to be done makes up the rest
abbrev pub invariant-loop-s : goal.invariant-loop-s
invariant-loop-s g l = record {
  exact : for_spaces (interrupt_for l.event l.p) l.s (l.s-end - l.s) (scene_of l.self l.trace)
      ≡ for_spaces (interrupt_for l.event l.p) 0 l.s-end (scene_of l.fn.self l.fn.trace);
  sizes : HasSizes (state_of l.self);
  spaces : length l.self.demands.items ≡ l.s-end;
  room : Spends l.fn.self l.self 0 0 0;
  cost : l.fn.trace.spare ≤ l.trace.spare + l.s;
  same : l.trace.spare + length l.trace.items ≡ l.fn.trace.spare + length l.fn.trace.items;
}
