use Rattle.std.proofs.Common.{◌≡◌, ◌≤◌, drop}
use Rattle.sa_lines_in.specs.declared.line.TheConstants.{LINE_LIMIT}
use Rattle.sa_lines_in.specs.Line.{line_len, len_from}
use Rattle.sa_lines_in.proofs.line.line_len.Given as goal

-- the bytes before are of the line
abbrev pub invariant-loop-i : goal.invariant-loop-i
invariant-loop-i l = record {
  few : l.i ≤ LINE_LIMIT;
  rest : line_len l.bytes ≡ len_from l.i (drop l.i l.bytes);
}
