use Rattle.std.proofs.Common.{◌≡◌, ◌-◌, ◌++◌, length}
use Rattle.sa_kernel.specs.View.{state_of}
use Rattle.sa_kernel_model.specs.Closing.{claims, claims_from}
use Rattle.sa_kernel.proofs.parts.Parts.claims.Given as goal

-- what is left to be claimed makes up the rest
abbrev pub invariant-loop-s : goal.invariant-loop-s
invariant-loop-s g l = record {
  claims : l.claims.items ++ claims_from (state_of l.self) l.s (l.s-end - l.s) ≡ claims (state_of l.self);
  len : length l.claims.items ≡ l.s;
}
