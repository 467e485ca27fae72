use Rattle.toga_read.proofs.Programs.{looked-up}
use Rattle.toga_read.proofs.operands.instr_in.Goals as goal

pub fitting-requires : goal.fitting-requires
fitting-requires c =
    (looked-up c.args.space.now c.args.program.now c.args.instr.now c.in_ok-first.first c.in_ok-second.second c.requires.space c.requires.program
    c.requires.instr c.in_ok-first.ensures.ok c.in_ok-second.ensures.ok).0
