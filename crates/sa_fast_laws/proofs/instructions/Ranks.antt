-- An instruction gives no thread a rank where threads have none.
use Rattle.std.proofs.Common.{◌≡◌, ℕ, Bool, true, false, [], Option, Some, None}
use Rattle.sa_base.specs.declared.number.ThreadNo.{ThreadNo}
use Rattle.sa_instr.specs.declared.instr.Instr.{Instr}
use Rattle.sa_instr.specs.declared.instr.Instr.TheVariants.{Fork, Join, Lock, Unlock, Wait, Signal, Touch}
use Rattle.sa_instr.specs.declared.instr.Reg.{Reg}
use Rattle.sa_lists.proofs.Changes.{no_rank}
use Rattle.sa_lists.specs.ReadyView.{next_made}
use Rattle.sa_sync.specs.declared.answer.SyncAnswer.{SyncAnswer}
use Rattle.sa_sync.specs.declared.answer.SyncAnswer.TheVariants as answer
use Rattle.sa_code.specs.Micro.{is_resident}
use Rattle.sa_fast.specs.Instruction.{told_by, forked, touched, outcome_of}
use Rattle.sa_fast.specs.declared.shared.Shared.{Shared}
use Rattle.sa_fast.specs.declared.threads.Block.{Block}

told-ranks : (x : Shared) (w : Option ThreadNo) (t : ThreadNo) (b : Block) (a : SyncAnswer) → x.state.lists.ranks ≡ []
    → (told_by x w t b a).shared.state.lists.ranks ≡ []
told-ranks x w t b answer.Goes none = none
told-ranks x w t b _ none = none

touched-ranks : (x : Shared) (w : Option ThreadNo) (t : ThreadNo) (b : Block) (fetch page : ℕ) (there : Bool) → x.state.lists.ranks ≡ []
    → (touched x w t b fetch page there).shared.state.lists.ranks ≡ []
touched-ranks x w t b fetch page true none = none
touched-ranks x w t b fetch page false none = none

forked-ranks : (x : Shared) (w : Option ThreadNo) (t : ThreadNo) (b : Block) (reg : Reg) (program : ℕ) (next : Option ℕ) → x.state.lists.ranks ≡ []
    → (forked x w t b reg program next).shared.state.lists.ranks ≡ []
forked-ranks x w t b reg program None none = none
forked-ranks x w t b reg program (Some n) none = no_rank x.state.lists n program none

pub ranks-stay : (fetch pages : ℕ) (x : Shared) (w : Option ThreadNo) (t : ThreadNo) (b : Block) (k : Instr) → x.state.lists.ranks ≡ []
    → (outcome_of fetch pages x w t b k).shared.state.lists.ranks ≡ []
ranks-stay fetch pages x w t b (Fork reg program) none = forked-ranks x w t b reg program (next_made x.state.lists) none
ranks-stay fetch pages x w t b (Join reg) none = told-ranks _ w t _ _ none
ranks-stay fetch pages x w t b (Lock m) none = told-ranks _ w t _ _ none
ranks-stay fetch pages x w t b (Unlock m) none = told-ranks _ w t _ _ none
ranks-stay fetch pages x w t b (Wait k) none = told-ranks _ w t _ _ none
ranks-stay fetch pages x w t b (Signal k) none = told-ranks _ w t _ _ none
ranks-stay fetch pages x w t b (Touch page) none = touched-ranks x w t b fetch page (is_resident pages page) none
ranks-stay fetch pages x w t b _ none = none
