-- The calls of the smallest user level keep what the core needs.
use Rattle.std.proofs.Common.{◌≡◌, ℕ, zero, suc, ◌<◌, length, ◌||◌, Bool, true, false, is_none, List, [], ◌∷◌, replicate, All, refl, sym, ap, ◌∙◌, arith}
use Rattle.std.proofs.lemmas.Bool.Decides.{nat_tests}
use Rattle.sa_base.specs.declared.number.SpaceNo.{SpaceNo}
use Rattle.sa_base.specs.declared.context.Seen.{Seen}
use Rattle.sa_instr.specs.declared.instr.Reg.TheVariants.{R0}
use Rattle.sa_instr.specs.declared.instr.Instr.{Instr}
use Rattle.sa_instr.specs.declared.instr.Instr.TheVariants.{Jnz}
use Rattle.sa_instr.specs.Local.{instr_at, pc_after, regs_after}
use Rattle.sa_abstract.specs.Walk.{Spot, after_many, ins_records, program_at}
use Rattle.sa_abstract.specs.Keeps.{Keeps, IsAsked, IsOwn, IsSeat, StaysLocal, is_away, state_after, records_of, moved_to}
use Rattle.sa_abstract.specs.Setting.{Setting}
use Rattle.sa_abstract.specs.declared.one_thread.OneThread.{OneThread}
use Rattle.sa_abstract.specs.OneThread.{one_thread_calls, one_thread_stands, first_instr, jumps_to_itself, the_thread, loop_regs, round_in, seat_in, said_in, carried, hints, asked_if}

can-ask : (s : Setting) (u : OneThread) (seen : Seen) (b : Bool) → b ≡ hints u seen → IsAsked s seen (asked_if b)
can-ask s u seen true is = grind (arith, nat_tests)
can-ask s u seen false is = tt

says-own : (s : Setting) (b : Bool) (space : SpaceNo) → space ≡ s.space → All (IsOwn s.space) (said_in b space ∷ [])
says-own s true space is zero d below = is
says-own s false space is zero d below = tt
says-own s b space is (suc k) d below = absurd (omega (arith, below))

-- the spot of the jump to itself
abbrev start : Spot
start = record { pc = 0; regs = loop_regs }

-- the jump stays where it is
stays : (instr : Instr) → true ≡ jumps_to_itself instr → record { pc = pc_after instr 0 loop_regs; regs = regs_after instr loop_regs } ≡ start
stays (Jnz R0 zero) is = refl
stays instr is = absurd (cc)

module _ (program : List Instr) (is : true ≡ jumps_to_itself (instr_at program 0)) where
  spot-stays : (n : ℕ) → after_many program n start ≡ start
  spot-stays zero = refl
  spot-stays (suc n) = ap (after_many program n) (stays (instr_at program 0) is) ∙ spot-stays n

  says-rounds : (s : SpaceNo) (n : ℕ) → replicate n (round_in s) ≡ ins_records s the_thread program n start
  says-rounds s zero = refl
  says-rounds s (suc n) =
      ap (λ rest. round_in s ∷ rest) (says-rounds s n ∙ ap (ins_records s the_thread program n) (sym (stays (instr_at program 0) is)))

-- there is a first instruction where it is a jump
has-first : (program : List Instr) → true ≡ jumps_to_itself (instr_at program 0) → 0 < length program
has-first [] is = absurd (cc)
has-first (first ∷ rest) is = omega arith

has-program : (programs : List (List Instr)) → true ≡ jumps_to_itself (first_instr programs) → 0 < length programs
has-program [] is = absurd (cc)
has-program (first ∷ rest) is = omega arith

module _ (s : Setting) (space : SpaceNo) (here : space ≡ s.space) where
  seats-in : (b : Bool) → b ≡ jumps_to_itself (first_instr s.def.programs)
      → IsSeat s (seat_in b space) × (is_away (seat_in b space) ≡ (false || is_none (carried b)))
  seats-in true is = ((here, has-program s.def.programs is, has-first (program_at s.def.programs 0) is), refl)
  seats-in false is = (tt, refl)

  goes-says : (b : Bool) → b ≡ jumps_to_itself (first_instr s.def.programs) → (n : ℕ) → StaysLocal s n (seat_in b space)
      → replicate n (round_in space) ≡ records_of s n (seat_in b space)
  goes-says true is n goes = says-rounds (program_at s.def.programs 0) is space n
  goes-says false is n goes = absurd goes

  goes-state : (b : Bool) → b ≡ jumps_to_itself (first_instr s.def.programs) → (n : ℕ) → seat_in b space ≡ state_after s n (seat_in b space)
  goes-state true is n = ap (moved_to space the_thread 0) (sym (spot-stays (program_at s.def.programs 0) is n))
  goes-state false is n = refl

pub one_thread_keeps : Keeps one_thread_calls one_thread_stands
one_thread_keeps = record {
  starts = λ s is. record { space = refl; loops = refl };
  later = λ s e f u cs h below. h;
  begins = λ s e u cs a seen h none sees. h;
  tells = λ s e u cs a c note held h is handed. h;
  answers = λ s e u cs a c seen h is sees. h;
  steps = λ s e u cs a c seen h is sees after within. record {
    value = record { space = h.space; loops = h.loops };
    asked = can-ask s u seen (hints u seen) refl;
    own = says-own s u.loops u.space h.space;
    few = omega arith;
  };
  goes = λ s e u cs a c seen n h is sees after some within goes. record {
    value = h;
    says = goes-says s u.space h.space u.loops h.loops n goes;
    state = goes-state s u.space h.space u.loops h.loops n;
  };
  seats = λ s e u cs a c h is. seats-in s u.space h.space u.loops h.loops;
}
