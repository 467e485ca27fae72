-- An instruction's parts as a contract sees them.
use Rattle.std.specs.Prelude.{List, []}
use Rattle.sa_instr.specs.declared.operand.Operand.{Operand}
use Rattle.sa_instr.specs.declared.parts.Operands.{Operands}
use Rattle.sa_instr.specs.declared.parts.Operands.TheVariants.{None, One, Two}
use Rattle.sa_instr.specs.declared.parts.InstrParts.TheInside.{Inside}
use Rattle.sa_instr.specs.Parts.{InstrView, parts}

abbrev pub operand_list : Operands → List Operand
operand_list None = []
operand_list (One operands) = operands
operand_list (Two operands) = operands

abbrev pub parts_inside : Inside → InstrView
parts_inside p = parts p.operation (operand_list p.operands)
