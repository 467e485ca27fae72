-- The instructions that stay within their thread, and what they leave as it is.
use Rattle.std.specs.Prelude.{◌≡◌, Bool, true, false, []}
use Rattle.sa_base.specs.declared.number.ThreadNo.{ThreadNo}
use Rattle.sa_instr.specs.declared.instr.Instr.{Instr}
use Rattle.sa_instr.specs.declared.answer.Local.{Local}
use Rattle.sa_instr.specs.declared.answer.Local.TheVariants.{Went}
use Rattle.sa_instr.specs.Local.{local_answer, pc_after, regs_after}
use Rattle.sa_spaces.specs.Space.{SpaceView}
use Rattle.sa_laws.specs.State.{Thread, SpaceState, thread_in}
use Rattle.sa_laws.specs.Effect.{effect, effect_of}
use Rattle.sa_laws.specs.Ends.{are_done, are_at_rest}
use Rattle.sa_replay.specs.Running.{instr_in, IsFull}
use Rattle.sa_replay.specs.Shape.{IsShaped}

-- the answer of a step that stays within its thread, and its instruction
abbrev pub is_went : Local → Bool
is_went Went = true
is_went _ = false

abbrev pub is_local : Instr → Bool
is_local instr = is_went (local_answer instr)

-- the thread after such an instruction
abbrev pub after_local : Instr → Thread → Thread
after_local instr thread = record thread {
  pc = pc_after instr thread.pc thread.regs;
  regs = regs_after instr thread.regs;
}

-- thread t has run its next instruction, which stays within it: it runs on, needs no room, and rouses nobody
pub record HasRunLocal (def : SpaceView) (old : SpaceState) (t : ThreadNo) (new : SpaceState) : Type 0 where
  pub room : IsFull old.sync (instr_in def (thread_in old t)) → ⊥
  pub effect : effect_of old t (thread_in old t) (instr_in def (thread_in old t)) ≡ effect new []
  pub shape : IsShaped old t (thread_in old t).place new
  pub place : (thread_in new t).place ≡ (thread_in old t).place
  pub done : are_done new ≡ are_done old
  pub rest : are_at_rest new ≡ are_at_rest old
