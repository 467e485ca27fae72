-- The eight registers one after another are all of them.
use Rattle.std.proofs.Common.{◌≡◌, ℕ, List, [], ◌∷◌, length, refl, arith}
use Rattle.std.specs.List.{flat_map}
use Rattle.sa_debug.specs.declared.script.printing.TheConstants.{REGS}
use Rattle.sa_debug.specs.script.Reply.{number_text, register_text}

pub all-registers : (regs : List ℕ) → length regs ≡ 8 → flat_map (register_text regs) REGS ≡ flat_map number_text regs
all-registers (a ∷ b ∷ c ∷ d ∷ e ∷ f ∷ g ∷ h ∷ []) is = refl
all-registers (a ∷ b ∷ c ∷ d ∷ e ∷ f ∷ g ∷ h ∷ i ∷ more) is = absurd (omega arith)
all-registers (a ∷ b ∷ c ∷ d ∷ e ∷ f ∷ g ∷ []) is = absurd (omega arith)
all-registers (a ∷ b ∷ c ∷ d ∷ e ∷ f ∷ []) is = absurd (omega arith)
all-registers (a ∷ b ∷ c ∷ d ∷ e ∷ []) is = absurd (omega arith)
all-registers (a ∷ b ∷ c ∷ d ∷ []) is = absurd (omega arith)
all-registers (a ∷ b ∷ c ∷ []) is = absurd (omega arith)
all-registers (a ∷ b ∷ []) is = absurd (omega arith)
all-registers (a ∷ []) is = absurd (omega arith)
all-registers [] is = absurd (omega arith)
