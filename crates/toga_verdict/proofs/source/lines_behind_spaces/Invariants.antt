use Rattle.std.proofs.Common.{◌≡◌, take}
use Rattle.toga_verdict.specs.Source.{lines_behind_spaces}
use Rattle.toga_verdict.proofs.source.lines_behind_spaces.Given as goal

abbrev pub invariant-loop-space : goal.invariant-loop-space
invariant-loop-space l = l.rest ≡ lines_behind_spaces l.lines (take l.space-index l.spaces)
