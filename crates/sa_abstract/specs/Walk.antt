-- A run of local instructions of one thread.
use Rattle.std.specs.Prelude.{◌≡◌, ℕ, zero, suc, List, [], ◌∷◌, slice_index_or}
use Rattle.sa_base.specs.declared.number.SpaceNo.{SpaceNo}
use Rattle.sa_base.specs.declared.number.ThreadNo.{ThreadNo}
use Rattle.sa_base.specs.declared.record.Record.{Record}
use Rattle.sa_base.specs.declared.record.Record.TheVariants.{Ins}
use Rattle.sa_instr.specs.declared.instr.Instr.{Instr}
use Rattle.sa_instr.specs.declared.answer.Local.TheVariants.{Went}
use Rattle.sa_instr.specs.Local.{instr_at, local_answer, pc_after, regs_after}

-- where a thread is: its place and its registers
pub record Spot : Type 0 where
  pub pc : ℕ
  pub regs : List ℕ

-- the spot after one instruction
abbrev pub after_one : List Instr → Spot → Spot
after_one program spot = record {
  pc = pc_after (instr_at program spot.pc) spot.pc spot.regs;
  regs = regs_after (instr_at program spot.pc) spot.regs;
}

-- the spot after n instructions
abbrev pub after_many : List Instr → ℕ → Spot → Spot
after_many program zero spot = spot
after_many program (suc n) spot = after_many program n (after_one program spot)

-- each of the next n instructions is local
abbrev pub AreLocal : List Instr → ℕ → Spot → Type 0
AreLocal program zero spot = Unit {0}
AreLocal program (suc n) spot =
    (local_answer (instr_at program spot.pc) ≡ Went) × AreLocal program n (after_one program spot)

-- the records of the next n instructions, one each
abbrev pub ins_records : SpaceNo → ThreadNo → List Instr → ℕ → Spot → List Record
ins_records s t program zero spot = []
ins_records s t program (suc n) spot = Ins s t spot.pc ∷ ins_records s t program n (after_one program spot)

-- a program of a space, by its number
abbrev pub program_at : List (List Instr) → ℕ → List Instr
program_at programs g = slice_index_or programs g []
