-- Registers, and what one instruction must keep to.
use Rattle.std.specs.Prelude.{ℕ}
use Rattle.sa_instr.specs.declared.instr.Reg.{Reg}
use Rattle.sa_instr.specs.declared.instr.Reg.TheVariants.{R0, R1, R2, R3, R4, R5, R6, R7}
use Rattle.sa_instr.specs.declared.instr.Instr.{Instr}
use Rattle.sa_instr.specs.Operand.{InRange, IsPlaceBelow, IsDeclared, Each}
use Rattle.sa_instr.specs.Parts.{parts_of}

-- a register's number
abbrev pub reg_number : Reg → ℕ
reg_number R0 = 0
reg_number R1 = 1
reg_number R2 = 2
reg_number R3 = 3
reg_number R4 = 4
reg_number R5 = 5
reg_number R6 = 6
reg_number R7 = 7

-- each number with a range of its own is in it
abbrev pub IsInRange : Instr → Type 0
IsInRange instr = Each InRange (parts_of instr).operands

-- a jump goes to a place below len
abbrev pub JumpsBelow : (len : ℕ) → Instr → Type 0
JumpsBelow len instr = Each (IsPlaceBelow len) (parts_of instr).operands

-- the mutex, semaphore, cell or program that the instruction names is declared, where there are that many of each
abbrev pub NamesDeclared : (mutexes sems cells programs : ℕ) → Instr → Type 0
NamesDeclared mutexes sems cells programs instr = Each (IsDeclared mutexes sems cells programs) (parts_of instr).operands
