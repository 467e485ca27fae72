use Rattle.std.proofs.Common.{◌≡◌, find, None, take}
use Rattle.toga_read.specs.Lookup.{is_label}
use Rattle.toga_read.proofs.lookup.place_named.Given as goal

abbrev pub invariant-loop-label : goal.invariant-loop-label
invariant-loop-label l = find (is_label l.name) (take l.label-index l.labels) ≡ None
