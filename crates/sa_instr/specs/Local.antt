-- The local effect: what an instruction that stays within its thread does to the thread's place and registers.
use Rattle.std.specs.Prelude.{ℕ, ◌+◌, ◌-◌, ◌%◌, ◌^◌, ◌==◌, if◌then◌else◌, List, slice_index_or}
use Rattle.sa_instr.specs.declared.instr.Instr.{Instr}
use Rattle.sa_instr.specs.declared.instr.Instr.TheVariants.{Compute, Set, Add, Sub, Jnz, End}
use Rattle.sa_instr.specs.declared.answer.Local.{Local}
use Rattle.sa_instr.specs.declared.answer.Local.TheVariants.{Went, NotLocal, Ended}
use Rattle.sa_instr.specs.Regs.{reg_value, with_reg}

-- the instruction at a place of a program, and `end` after its last one
abbrev pub instr_at : List Instr → ℕ → Instr
instr_at program pc = slice_index_or program pc End

-- the place after an instruction: the next one, but for a jump whose register is not 0; what is not local leaves it
abbrev pub pc_after : Instr → (pc : ℕ) → (regs : List ℕ) → ℕ
pc_after Compute pc regs = pc + 1
pc_after (Set reg n) pc regs = pc + 1
pc_after (Add reg other) pc regs = pc + 1
pc_after (Sub reg other) pc regs = pc + 1
pc_after (Jnz reg place) pc regs = if reg_value regs reg == 0 then pc + 1 else place
pc_after _ pc regs = pc

-- the registers after an instruction, sums modulo 2 ^ 64; what is not local leaves them
abbrev pub regs_after : Instr → List ℕ → List ℕ
regs_after (Set reg n) regs = with_reg regs reg n
regs_after (Add reg other) regs = with_reg regs reg ((reg_value regs reg + reg_value regs other) % 2 ^ 64)
regs_after (Sub reg other) regs = with_reg regs reg ((2 ^ 64 + reg_value regs reg - reg_value regs other) % 2 ^ 64)
regs_after _ regs = regs

-- what a step answers: whether the instruction is local, and which one it is where it is not
abbrev pub local_answer : Instr → Local
local_answer Compute = Went
local_answer (Set reg n) = Went
local_answer (Add reg other) = Went
local_answer (Sub reg other) = Went
local_answer (Jnz reg place) = Went
local_answer End = Ended
local_answer instr = NotLocal instr
