use Rattle.std.proofs.Common.{◌≡◌, length, map}
use Rattle.sa_text.specs.Line.{text_of_line}
use Rattle.sa_debug.specs.script.Reading.{script_of, read_from}
use Rattle.sa_debug.proofs.script.reading.read_script.Given as goal

-- after the commands so far, the lines that are left are read as the whole text is
abbrev pub invariant-loop-line : goal.invariant-loop-line
invariant-loop-line l =
    (l.lines.text ≡ l.bytes)
    × (script_of l.w l.bytes ≡ read_from l.w l.lines.number l.commands.items (map (text_of_line l.bytes) l.lines.left))

abbrev pub decreases-loop-line : goal.decreases-loop-line
decreases-loop-line l = length l.lines.left
