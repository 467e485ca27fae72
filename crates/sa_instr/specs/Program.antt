-- What a program is: the list of its instructions.
use Rattle.std.specs.Prelude.{◌≡◌, ◌-◌, ◌≤◌, List, length, Some, slice_get, All}
use Rattle.sa_instr.specs.declared.limits.TheConstants.{MAX_INSTRUCTIONS}
use Rattle.sa_instr.specs.declared.instr.Instr.{Instr}
use Rattle.sa_instr.specs.declared.instr.Instr.TheVariants.{End}
use Rattle.sa_instr.specs.Instr.{IsInRange, JumpsBelow}

-- a program: some instructions and not too many, the last one `end`, each in its range, and no jump out of it
pub record IsProgram (instrs : List Instr) : Type 0 where
  pub not_empty : 1 ≤ length instrs
  pub not_too_long : length instrs ≤ MAX_INSTRUCTIONS
  pub ends : slice_get instrs (length instrs - 1) ≡ Some End
  pub jumps : All (JumpsBelow (length instrs)) instrs
  pub ranges : All IsInRange instrs
