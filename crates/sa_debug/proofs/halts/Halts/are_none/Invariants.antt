use Rattle.std.proofs.Common.{◌≡◌, ℕ, ◌<◌, true}
use Rattle.sa_assign.specs.Reaim.{proc_no}
use Rattle.sa_debug.specs.Order.{goes}
use Rattle.sa_debug.proofs.halts.Halts.are_none.Given as goal

-- none before this one is halted
abbrev pub invariant-loop-p : goal.invariant-loop-p
invariant-loop-p l = (q : ℕ) → q < l.p → goes l.self (proc_no q) ≡ true
