-- The pages for which lives block are pages of a space.
use Rattle.std.proofs.Common.{ℕ, ◌<◌, List, [], length, get_or, Option, Some, None, inl, inr, sym, subst, arith}
use Rattle.std.specs.Prelude.{All}
use Rattle.std.proofs.lemmas.Bool.{cases_lt}
use Rattle.std.proofs.lemmas.List.{get_or_past}
use Rattle.std.proofs.lemmas.List.Elements.{All-get_or, All-nil}
use Rattle.sa_base.specs.declared.number.SpaceNo.{SpaceNo}
use Rattle.sa_base.specs.declared.number.ThreadNo.{ThreadNo}
use Rattle.sa_base.specs.declared.limits.TheConstants.{PAGES}
use Rattle.sa_instr.specs.declared.instr.Instr.{Instr}
use Rattle.sa_instr.specs.declared.instr.Instr.TheVariants as instrs
use Rattle.sa_instr.specs.Instr.{IsInRange}
use Rattle.sa_instr.specs.Program.{IsProgram}
use Rattle.sa_spaces.specs.Space.{SpaceView, IsSpace}
use Rattle.sa_spaces.specs.Workload.{WorkloadView, IsWorkload}
use Rattle.sa_laws.specs.State.{State, no_space, space_def, next_instr, thread_at}
use Rattle.sa_laws.specs.Readings.{Readings}
use Rattle.sa_laws.specs.Record.{page_in, page_touched}

-- what follows from what each holds, and holds of the default, holds at each place
at_place : {X : Type 0} (P Q : X → Type 0) (xs : List X) (i : ℕ) (d : X) → ((x : X) → P x → Q x) → Q d → All P xs → Q (get_or xs i d)
at_place P Q xs i d follows here all = elim (cases_lt i (length xs)) [
  | inl within ↦ follows (get_or xs i d) (All-get_or P xs i d within all)
  | inr past ↦ subst Q (sym (get_or_past xs i d past)) here
]

-- an instruction of a workload is in its range
in_range : (w : WorkloadView) (a : State) (s : SpaceNo) (t : ThreadNo) → IsWorkload w → IsInRange (next_instr w a s t)
in_range w a s t is =
    let programs : All IsProgram (space_def w s).programs =
    at_place IsSpace (λ (x : SpaceView). All IsProgram x.programs) w.spaces s.0 no_space (λ x space. space.programs) (All-nil _) is.spaces in
    let program : All IsInRange (get_or (space_def w s).programs (thread_at a s t).program []) =
    at_place IsProgram (λ (xs : List Instr). All IsInRange xs) (space_def w s).programs (thread_at a s t).program [] (λ x p. p.ranges) (All-nil _) programs in
    at_place IsInRange IsInRange (get_or (space_def w s).programs (thread_at a s t).program []) (thread_at a s t).pc instrs.End (λ x h. h) tt program

few : (instr : Instr) → IsInRange instr → page_in instr < PAGES
few (instrs.Touch page) h = let most = h.0.1 in omega arith
few _ h = omega arith

pub touches_few : (w : WorkloadView) (r : Readings) (s : SpaceNo) (t : Option ThreadNo) → IsWorkload w → page_touched w r s t < PAGES
touches_few w r s None is = omega arith
touches_few w r s (Some t) is = few (next_instr w r.state s t) (in_range w r.state s t is)
