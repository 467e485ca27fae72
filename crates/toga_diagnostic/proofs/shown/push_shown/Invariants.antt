use Rattle.std.proofs.Common.{◌≡◌, ◌++◌, take, map}
use Rattle.toga_diagnostic.specs.Shown.{shown_byte}
use Rattle.toga_diagnostic.proofs.shown.push_shown.Given as goal

abbrev pub invariant-loop-byte : goal.invariant-loop-byte
invariant-loop-byte l = l.out.items ≡ l.initial.out.items ++ map shown_byte (take l.byte-index l.bytes)
