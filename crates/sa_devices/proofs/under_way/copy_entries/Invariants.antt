use Rattle.std.proofs.Common.{◌≡◌, ◌++◌, take}
use Rattle.sa_devices.proofs.Copying.{entries}
use Rattle.sa_devices.proofs.under_way.copy_entries.Given as goal

abbrev pub invariant-loop-place : goal.invariant-loop-place
invariant-loop-place l = l.out.items ≡ l.fn.out.items ++ entries (take l.place-index l.places)
