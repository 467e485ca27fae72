-- The ready lists of a space between two events.
use Rattle.std.specs.Prelude.{◌≡◌, ℕ, ◌+◌, ◌%◌, false, List, [], length, map, replicate}
use Rattle.std.specs.List.{range_with_len}
use Rattle.sa_base.specs.declared.number.ProcNo.{ProcNo}
use Rattle.sa_assign.specs.Reaim.{proc_no}
use Rattle.sa_lists.specs.ReadyView.{ReadyView}

-- no lock is held, and there is one rank
pub record IsUnlocked (r : ReadyView) : Type 0 where
  pub locked : r.locked ≡ replicate (length r.lists) false
  pub ranks : r.ranks ≡ []

-- that many numbers, from one on and round
abbrev pub round : ℕ → ProcNo → List ProcNo
round count l = map (λ n. proc_no ((l.0 + n) % count)) (range_with_len 0 count)
