use Rattle.std.proofs.Common.{◌≡◌, take, false}
use Rattle.std.specs.List.{list_any}
use Rattle.toga_source.specs.Plain.{jumps_to}
use Rattle.toga_source.proofs.plain.is_target.Given as goal

abbrev pub invariant-loop-pc : goal.invariant-loop-pc
invariant-loop-pc l = list_any (jumps_to l.place) (take l.pc l.program) ≡ false
