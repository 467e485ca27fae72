use Rattle.std.proofs.Common.{◌≡◌, length}
use Rattle.sa_base.specs.declared.limits.TheConstants.{MAX_SPACES}
use Rattle.sa_kernel.specs.View.{state_of}
use Rattle.sa_kernel.proofs.Lows.{AreLowBelow}
use Rattle.sa_kernel.proofs.parts.Parts.lows.Given as goal

-- what was read of the processors that were looked at
abbrev pub invariant-loop-q : goal.invariant-loop-q
invariant-loop-q g l = record {
  length : length l.lows ≡ MAX_SPACES;
  below : AreLowBelow (state_of l.self) l.q l.lows;
}
