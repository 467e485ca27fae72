-- What the smallest user level does.
use Rattle.std.specs.Prelude.{◌≡◌, ℕ, zero, ◌-◌, ◌==◌, Bool, true, false, ◌&&◌, not, if◌then◌else◌, Option, Some, None, List, [], ◌∷◌, replicate}
use Rattle.sa_base.specs.declared.number.SpaceNo.{SpaceNo}
use Rattle.sa_base.specs.declared.number.ThreadNo.{ThreadNo}
use Rattle.sa_base.specs.declared.context.Seen.{Seen}
use Rattle.sa_base.specs.declared.record.Record.{Record}
use Rattle.sa_base.specs.declared.record.Record.TheVariants.{Ins, Idle as IdleRecord}
use Rattle.sa_instr.specs.declared.limits.TheConstants.{REGISTERS}
use Rattle.sa_instr.specs.declared.instr.Reg.TheVariants.{R0}
use Rattle.sa_instr.specs.declared.instr.Instr.{Instr}
use Rattle.sa_instr.specs.declared.instr.Instr.TheVariants.{Jnz}
use Rattle.sa_instr.specs.Local.{instr_at}
use Rattle.sa_instr.specs.Regs.{with_reg}
use Rattle.sa_abstract.specs.declared.answer.SeatState.{SeatState}
use Rattle.sa_abstract.specs.declared.answer.SeatState.TheVariants.{Local, Away}
use Rattle.sa_abstract.specs.declared.answer.Step.{Step}
use Rattle.sa_abstract.specs.declared.answer.Step.TheVariants.{Did, Idle}
use Rattle.sa_abstract.specs.Walk.{program_at}
use Rattle.sa_abstract.specs.Calls.{Calls}
use Rattle.sa_abstract.specs.Keeps.{Standing}
use Rattle.sa_abstract.specs.Setting.{Setting}
use Rattle.sa_abstract.specs.declared.one_thread.OneThread.{OneThread}

-- the instruction that a space's first thread begins with
abbrev pub first_instr : List (List Instr) → Instr
first_instr programs = instr_at (program_at programs 0) 0

-- at place 0, an instruction that stays there while register 0 is not 0
abbrev pub jumps_to_itself : Instr → Bool
jumps_to_itself (Jnz R0 zero) = true
jumps_to_itself _ = false

abbrev pub the_thread : ThreadNo
the_thread = record { 0 = 0 }

-- register 0 is 1
abbrev pub loop_regs : List ℕ
loop_regs = with_reg (replicate REGISTERS 0) R0 1

-- one time round
abbrev pub round_in : SpaceNo → Record
round_in s = Ins s the_thread 0

-- where the thread stands: at the jump, or nowhere
abbrev pub seat_in : Bool → SpaceNo → SeatState
seat_in true s = Local s the_thread 0 0 loop_regs
seat_in false s = Away

-- what a step adds
abbrev pub said_in : Bool → SpaceNo → Record
said_in true s = round_in s
said_in false s = IdleRecord

abbrev pub carried : Bool → Option ThreadNo
carried true = Some the_thread
carried false = None

abbrev pub is_done : OneThread → Bool
is_done u = not u.loops && u.left == 0

-- whether it hints that its processor is idle: nothing is left, and the space still wants a processor
abbrev pub hints : OneThread → Seen → Bool
hints u seen = is_done u && not (seen.demand == 0)

abbrev pub asked_if : Bool → Step
asked_if true = Idle
asked_if false = Did

abbrev pub one_thread_calls : Calls OneThread (Unit {0})
one_thread_calls = record {
  started = λ s. record { space = s.space; loops = jumps_to_itself (first_instr s.def.programs); left = s.def.cells };
  begun = λ u seen. (u, tt);
  told = λ u c note held. (u, c);
  answered = λ u seen c. (u, c);
  stepped = λ u seen c. record { user = record u { left = u.left - 1 }; ctx = c; says = said_in u.loops u.space ∷ []; answer = asked_if (hints u seen) };
  went = λ u seen c n. record { user = u; ctx = c; says = replicate n (round_in u.space) };
  thread = λ u c. carried u.loops;
  idle = λ u c. is_done u;
  owes = λ u c. false;
  in_section = λ u c. None;
  local = λ u c. seat_in u.loops u.space;
  tally = λ u. record { made = 1; done = if is_done u then 1 else 0; active = if is_done u then 0 else 1 };
}

-- it is of this space, and it loops exactly where the space's first instruction does
pub record IsInSpace (s : Setting) (u : OneThread) : Type 0 where
  pub space : u.space ≡ s.space
  pub loops : u.loops ≡ jumps_to_itself (first_instr s.def.programs)

-- nothing more has to hold between its contexts
abbrev pub one_thread_stands : Standing OneThread (Unit {0})
one_thread_stands s e u contexts = IsInSpace s u
