use Rattle.std.proofs.Common.{◌≡◌, ◌+◌, drop}
use Rattle.std.specs.List.{prefix_len}
use Rattle.sa_check.specs.Items.{is_with}
use Rattle.toga_kinds.proofs.history.with_first.Given as goal

abbrev pub invariant-loop-i : goal.invariant-loop-i
invariant-loop-i l = prefix_len (is_with l.first) l.items ≡ prefix_len (is_with l.first) (drop l.i l.items) + l.i
