use Rattle.std.proofs.Common.{◌≡◌, take}
use Rattle.toga_say.specs.Lines.{behind_spaces}
use Rattle.toga_say.proofs.lines.behind_spaces.Given as goal

abbrev pub invariant-loop-space : goal.invariant-loop-space
invariant-loop-space l = l.rest ≡ behind_spaces l.lines (take l.space-index l.spaces)
