use Rattle.std.proofs.Common.{◌≡◌, ◌++◌, length}
use Rattle.std.specs.List.{flat_map}
use Rattle.toga_read.specs.Reading.{instr_line, instr_lines}
use Rattle.toga_read.proofs.plain.instr_lines.Given as goal

-- the numbers so far, and those of the lines that are left, are those of the text
abbrev pub invariant-loop-line : goal.invariant-loop-line
invariant-loop-line l =
    (l.lines.text ≡ l.text) × (l.numbers.items ++ flat_map (instr_line l.text) l.lines.left ≡ instr_lines l.text)

abbrev pub decreases-loop-line : goal.decreases-loop-line
decreases-loop-line l = length l.lines.left
