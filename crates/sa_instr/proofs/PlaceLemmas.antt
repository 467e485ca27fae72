-- An instruction that stays within its thread leads to a place of its program.
use Rattle.std.proofs.Common.{◌≡◌, ◌≢◌, ℕ, ◌+◌, ◌-◌, ◌<◌, Bool, true, false, cond, eqb, List, length, sym, ap, ◌∙◌, subst, inl, inr, arith}
use Rattle.std.proofs.lemmas.Bool.{cases_lt}
use Rattle.std.proofs.lemmas.Option.{get_or_from_slice_get}
use Rattle.std.proofs.lemmas.List.Elements.{All-get_or}
use Rattle.sa_instr.specs.declared.instr.Instr.{Instr}
use Rattle.sa_instr.specs.declared.instr.Instr.TheVariants.{Compute, Set, Add, Sub, Jnz, End}
use Rattle.sa_instr.specs.Instr.{JumpsBelow}
use Rattle.sa_instr.specs.Local.{instr_at, pc_after}
use Rattle.sa_instr.specs.Program.{IsProgram}
use Rattle.sa_instr.specs.Regs.{reg_value}

-- the last instruction is `end`, so after any other there is one
pub next_inside : (p : List Instr) (pc : ℕ) → IsProgram p → pc < length p → instr_at p pc ≢ End → pc + 1 < length p
next_inside p pc is inside more = elim (cases_lt (pc + 1) (length p)) [
  | inl h ↦ h
  | inr h ↦
      let last : pc ≡ length p - 1 = omega arith in
      absurd (more (ap (instr_at p) last ∙ get_or_from_slice_get p (length p - 1) End End is.ends))
]

-- where both ways of a test are below
test_below : (b : Bool) (m k n : ℕ) → m < n → k < n → cond b m k < n
test_below true m k n left right = left
test_below false m k n left right = right

-- an instruction that stays within its thread leads to a place of the program, and others stay at theirs
pub place_inside : (p : List Instr) (pc : ℕ) (regs : List ℕ) (i : Instr)
    → IsProgram p → pc < length p → i ≡ instr_at p pc → pc_after i pc regs < length p
place_inside p pc regs Compute is inside at = next_inside p pc is inside (λ e. let no = at ∙ e in cc)
place_inside p pc regs (Set reg n) is inside at = next_inside p pc is inside (λ e. let no = at ∙ e in cc)
place_inside p pc regs (Add reg other) is inside at = next_inside p pc is inside (λ e. let no = at ∙ e in cc)
place_inside p pc regs (Sub reg other) is inside at = next_inside p pc is inside (λ e. let no = at ∙ e in cc)
place_inside p pc regs (Jnz reg place) is inside at =
    let jumps : JumpsBelow (length p) (Jnz reg place) = subst (JumpsBelow (length p)) (sym at) (All-get_or (JumpsBelow (length p)) p pc End inside is.jumps) in
    test_below (eqb (reg_value regs reg) 0) (pc + 1) place (length p) (next_inside p pc is inside (λ e. let no = at ∙ e in cc)) jumps.1.0
place_inside p pc regs i is inside at = inside
