-- A thread's registers: the list of what they hold.
use Rattle.std.specs.Prelude.{◌≡◌, ℕ, ◌^◌, ◌<◌, List, length, slice_index, slice_set, All}
use Rattle.sa_instr.specs.declared.limits.TheConstants.{REGISTERS}
use Rattle.sa_instr.specs.declared.instr.Reg.{Reg}
use Rattle.sa_instr.specs.Instr.{reg_number}

-- eight numbers of 64 bits
pub record AreRegisters (regs : List ℕ) : Type 0 where
  pub eight : length regs ≡ REGISTERS
  pub words : All (λ value. value < 2 ^ 64) regs

-- what a register holds
abbrev pub reg_value : List ℕ → Reg → ℕ
reg_value regs reg = slice_index regs (reg_number reg)

-- the registers with a value put into one of them
abbrev pub with_reg : List ℕ → Reg → ℕ → List ℕ
with_reg regs reg value = slice_set regs (reg_number reg) value
