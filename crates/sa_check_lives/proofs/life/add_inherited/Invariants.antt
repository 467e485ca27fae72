use Rattle.std.proofs.Common.{◌≡◌, ◌+◌, ◌-◌, ◌≤◌, ◌++◌, length, drop, map, vec_len}
use Rattle.std.specs.Prelude.{vec_capacity}
use Rattle.sa_laws.specs.Life.{inherited}
use Rattle.sa_check_lives.proofs.life.add_inherited.Given as goal

abbrev pub invariant-loop-lock : goal.invariant-loop-lock
invariant-loop-lock l = record {
  items : l.locks.items ++ map inherited (drop l.lock-index l.from) ≡ l.fn.locks.items ++ map inherited l.from;
  room : vec_len l.locks + (length l.from - l.lock-index) ≤ vec_capacity l.locks;
}
