use Rattle.std.proofs.Common.{◌≡◌, ℕ, ◌∷◌, [], ◌⊎◌, inl, inr, decimal, ap}
use Rattle.std.proofs.lemmas.Result.{on_ok_weaker}
use Rattle.sa_lemmas.proofs.Texts.{appended_twice}
use Rattle.sa_instr.specs.declared.operand.Operand.{Operand}
use Rattle.sa_instr.specs.declared.operand.Operand.TheVariants.{Place, Cell, Program, Mutex, Semaphore, Page}
use Rattle.sa_workload.specs.Text.{operand_word}
use Rattle.sa_workload.proofs.push.push_operand.Goals as goal

-- the word of an operand that is a number of 16 bits is that number
short : (o : Operand) (n : ℕ)
    → (o ≡ Place n) ⊎ ((o ≡ Cell n) ⊎ ((o ≡ Program n) ⊎ ((o ≡ Mutex n) ⊎ ((o ≡ Semaphore n) ⊎ (o ≡ Page n))))) → operand_word o ≡ decimal n
short o n (inl is) = ap operand_word is
short o n (inr (inl is)) = ap operand_word is
short o n (inr (inr (inl is))) = ap operand_word is
short o n (inr (inr (inr (inl is)))) = ap operand_word is
short o n (inr (inr (inr (inr (inl is))))) = ap operand_word is
short o n (inr (inr (inr (inr (inr is))))) = ap operand_word is

pub returns-in_ok-extend_from_slice-in-Register : goal.returns-in_ok-extend_from_slice-in-Register
returns-in_ok-extend_from_slice-in-Register c =
    rw (c.in-Register.is, ← c.number.ensures.number, ← c.from.ensures)
    (on_ok_weaker c.print_number.result
    (appended_twice c.args.out.now.items (114 ∷ []) (decimal c.from.result) _ _ (c.in_ok-extend_from_slice-in-Register).ensures.items)
    c.print_number.ensures.ok)

pub returns-in-Value : goal.returns-in-Value
returns-in-Value c = rw c.in-Value.is c.print_number-in-Value.ensures.ok

pub returns-in-Length : goal.returns-in-Length
returns-in-Length c = rw (c.in-Length.is, ← c.from-in-Length.ensures) c.print_number-in-Length.ensures.ok

pub returns-in-Place : goal.returns-in-Place
returns-in-Place c =
    rw (short c.args.operand c.in-Place.n c.in-Place.is, ← c.from-in-Place.ensures) c.print_number-in-Place.ensures.ok
