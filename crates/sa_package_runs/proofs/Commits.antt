-- Where each space has FastThreads, local instructions that are committed at once are as many turns of the processor.
use Rattle.std.proofs.Common.{◌≡◌, ℕ, zero, suc, ◌+◌, ◌<◌, true, false, ◌||◌, is_some, Option, Some, None, List, [], ◌∷◌, length, slice_get, replicate, refl, sym, ap, subst, ◌∙◌, arith}
use Rattle.std.proofs.lemmas.List.{get_or-set_same, length-set, set-set}
use Rattle.sa_base.specs.declared.context.Seen.{Seen}
use Rattle.sa_base.specs.declared.number.ActNo.{ActNo}
use Rattle.sa_base.specs.declared.number.ProcNo.{ProcNo}
use Rattle.sa_base.specs.declared.number.SpaceNo.{SpaceNo}
use Rattle.sa_base.specs.declared.number.ThreadNo.{ThreadNo}
use Rattle.sa_instr.specs.Local.{local_answer}
use Rattle.sa_instr.specs.declared.answer.Local.TheVariants.{Went}
use Rattle.sa_instr.specs.declared.instr.Instr.{Instr}
use Rattle.sa_spaces.specs.Space.{SpaceView}
use Rattle.sa_spaces.specs.Workload.{WorkloadView, IsWorkload}
use Rattle.sa_devices.specs.Ios.{due_of}
use Rattle.sa_code.specs.declared.state.Frame.{Frame}
use Rattle.sa_fast.specs.declared.threads.Block.{Block}
use Rattle.sa_fast.specs.Threads.{unmade, block_at}
use Rattle.sa_fast.specs.Instruction.{instr_of}
use Rattle.sa_abstract.specs.Calls.{Gone, Contexts}
use Rattle.sa_abstract.specs.Walk.{AreLocal, ins_records, program_at}
use Rattle.sa_abstract.specs.declared.answer.SeatState.{SeatState}
use Rattle.sa_kernel_model.specs.State.{owner_of}
use Rattle.sa_core_model.specs.End.{local_on}
use Rattle.sa_core_model.specs.Machine.{user_of, context_on}
use Rattle.sa_core_model.specs.Run.{setting, opening, programs_in, AreNextLocal, CanCommit, IsRun}
use Rattle.sa_core_model.specs.Run.Move.{turn}
use Rattle.sa_core_model.specs.Standing.{contexts_of, IsBetween}
use Rattle.sa_core_model.specs.Steps.{as_step, both, IsFirstOf, AreSteps, CanStep}
use Rattle.sa_core_model.specs.Turn.{next_event, committed}
use Rattle.sa_core_model.proofs.Commits.{commits-run, runs-commit}
use Rattle.sa_core_model.proofs.Phases.{IsAt, at-owned}
use Rattle.sa_core_model.proofs.Runs.{local-is, runs-stand}
use Rattle.sa_package_model.specs.declared.context.Context.{Context}
use Rattle.sa_package_model.specs.declared.context.ContextState.{ContextState}
use Rattle.sa_package_model.specs.declared.context.ContextState.TheVariants.{User}
use Rattle.sa_package_model.specs.declared.package.Package.{Package}
use Rattle.sa_package_model.specs.Context.{has_some}
use Rattle.sa_package_model.specs.Rules.{with_shared}
use Rattle.sa_package_model.specs.Stands.{IsStanding}
use Rattle.sa_package_model.specs.Step.{fast_calls, stepped, went, gone_by, local_at, spot_of, block_after}
use Rattle.sa_package_model.proofs.Holding.{own_below}
use Rattle.sa_package_model.proofs.UseRule.{user_has}
use Rattle.sa_fast_laws.specs.View.{view, has_left, left_at}
use Rattle.sa_fast_laws.proofs.user_steps.LocalMoves.{local-step}
use Rattle.sa_legal_runs.proofs.matching.EventBegins.{begins-now, acts-at}
use Rattle.sa_legal_runs.proofs.runs.LegalRuns.{reached-run, reached-opening}
use Rattle.sa_fast_laws.proofs.FastLaws.{fast_level}
use Rattle.sa_package_runs.specs.Runs.{FastMachine}
use Rattle.sa_package_runs.specs.Calls.{IsReached}

-- a context at an instruction of a thread, with nothing to do first
abbrev at_user : ThreadNo → Context
at_user t = record { state = User t; sections = []; work = None }

abbrev program_of : Package → ThreadNo → List Instr
program_of u t = program_at u.def.programs (block_at u.shared.threads t.0).program

-- the thread's block after its next instruction, and the package with it
abbrev block_next : Package → ThreadNo → Block
block_next u t = block_after (program_of u t) 1 (block_at u.shared.threads t.0)

abbrev package_next : Package → ThreadNo → Package
package_next u t = (gone_by u (at_user t) 1 t (block_at u.shared.threads t.0)).user

next-there : (u : Package) (t : ThreadNo) → t.0 < length u.shared.threads → block_at (package_next u t).shared.threads t.0 ≡ block_next u t
next-there u t below = get_or-set_same u.shared.threads t.0 (block_next u t) unmade below

-- ONE STEP
one-step : (u : Package) (seen : Seen) (t : ThreadNo) → local_answer (instr_of u.def (block_at u.shared.threads t.0)) ≡ Went
    → stepped u seen (at_user t) ≡ as_step (went u seen (at_user t) 1)
one-step u seen t local = (local-step u seen t (instr_of u.def (block_at u.shared.threads t.0)) local).step

-- THE FIRST of some, and then the others
first-of : (n : ℕ) (u : Package) (seen : Seen) (t : ThreadNo) → t.0 < length u.shared.threads → IsFirstOf fast_calls n u seen (at_user t)
first-of zero u seen t below = tt
first-of (suc n) u seen t below = λ next.
    let b = block_at u.shared.threads t.0 in
    let first : Gone Package Context = went u seen (at_user t) 1 in
    let rest : List Block → Gone Package Context = λ blocks. record {
      user = with_shared u (record u.shared { threads = blocks });
      ctx = at_user t;
      says = ins_records u.shared.state.space t (program_of u t) (suc (suc n)) (spot_of b);
    } in
    let read = ap (λ (y : Block). both first (gone_by (package_next u t) (at_user t) (suc n) t y)) (next-there u t below) in
    let written = ap rest (set-set u.shared.threads t.0 (block_next u t) (block_after (program_of u t) (suc (suc n)) b)) in
    sym (read ∙ written)

-- ALL STEPS
are-steps : (n : ℕ) (u : Package) (t : ThreadNo) → t.0 < length u.shared.threads
    → AreLocal (program_of u t) n (spot_of (block_at u.shared.threads t.0)) → AreSteps fast_calls n u (at_user t)
are-steps zero u t below local = tt
are-steps (suc n) u t below local = (
  λ seen. one-step u seen t local.0,
  λ seen. first-of n u seen t below,
  λ seen. are-steps n (package_next u t) t (omega (arith, below, length-set u.shared.threads t.0 (block_next u t)))
      (subst (λ (y : Block). AreLocal (program_at u.def.programs y.program) n (spot_of y)) (sym (next-there u t below)) local.1),
)

-- a context at an instruction has nothing to do first, where what is left agrees with its state
nothing-left : (c : Context) (t : ThreadNo) → c.state ≡ User t → has_left (view c) ≡ (view c).left → c ≡ at_user t
nothing-left c t at left = by c.state c.sections c.work at left where
  by : (state : ContextState) (fs : List Frame) (wk : Option ThreadNo) → state ≡ User t
      → (has_some fs || is_some wk) ≡ left_at state (has_some fs || is_some wk)
      → record { state = state; sections = fs; work = wk } ≡ at_user t
  by state [] None at left = ap (λ (x : ContextState). record { state = x; sections = []; work = None }) at
  by state [] (Some n) at left = absurd (let z : true ≡ false = left ∙ ap (λ (x : ContextState). left_at x true) at in cc)
  by state (f ∷ fs) wk at left = absurd (let z : true ≡ false = left ∙ ap (λ (x : ContextState). left_at x true) at in cc)

-- A CONTEXT OF A SPACE, beside its package
module _ (w : WorkloadView) (s : SpaceNo) (def : SpaceView) (of : slice_get w.spaces s.0 ≡ Some def) (e : ℕ) (u : Package) (cs : Contexts Context)
    (h : IsStanding (setting w s.0 def) e u cs) (a : ℕ) (c : Context) (is : cs a ≡ Some c) (left : has_left (view c) ≡ (view c).left) (n : ℕ) where
  programs : programs_in (slice_get w.spaces u.shared.state.space.0) ≡ u.def.programs
  programs =
      ap (λ (x : SpaceNo). programs_in (slice_get w.spaces x.0)) h.made.space ∙ ap programs_in of
      ∙ ap (λ (d : SpaceView). d.programs) (sym h.made.def)

  steps-by : (state : ContextState) → c.state ≡ state → AreNextLocal w n (local_at u state) → AreSteps fast_calls n u c
  steps-by (User t) at local =
      let b = block_at u.shared.threads t.0 in
      let below : t.0 < length u.shared.threads =
      omega (arith, h.parts.blocks, own_below (setting w s.0 def) e u cs h a c is t.0 (user_has u.shared.works c t at)) in
      subst (AreSteps fast_calls n u) (sym (nothing-left c t at left))
      (are-steps n u t below (subst (λ (ps : List (List Instr)). AreLocal (program_at ps b.program) n (spot_of b)) programs local))
  steps-by _ at local = absurd local

-- THE CONTEXT ON A PROCESSOR of a machine that was reached
pub local-instructions-are-steps : (w : WorkloadView) (m : FastMachine) (p : ProcNo) (n : ℕ) → IsWorkload w → IsReached w m
    → AreNextLocal m.workload n (local_on fast_calls m p) → (s : SpaceNo) (u : Package) (c : Context)
    → owner_of m.kernel p ≡ Some s → user_of m s ≡ Some u → context_on m p ≡ Some c → AreSteps fast_calls n u c
local-instructions-are-steps w m p n ok is next s u c owner user ctx =
    let done = reached-run fast_level w [] (opening fast_calls w) is.moves m (reached-opening fast_level w ok) is.run in
    let composed = done.1.composed in
    let standing = (begins-now fast_level w done.0 m p composed).rest.standing in
    let found = at-owned fast_calls fast_level.stands fast_level.keep m.event (next_event m) p s standing owner in
    let here : IsAt fast_calls fast_level.stands fast_level.keep (next_event m) p s =
    record found { user = u; ctx = c; is_user = user; is_ctx = ctx } in
    let acts = acts-at fast_level w done.0 m p s composed here in
    let marks = (acts.acting.fit.rest here.act c acts.life acts.on.mine acts.on.is).marks in
    let seat = local-is fast_calls fast_level.stands fast_level.keep (next_event m) p s here in
    steps-by w s here.def acts.def_at m.event u (contexts_of m s.0) acts.acting.holds.value here.act.0 c acts.on.mine marks.left n c.state refl
    (subst (λ (v : WorkloadView). AreNextLocal v n (local_at u c.state)) composed.workload
    (subst (λ (x : SeatState). AreNextLocal m.workload n x) seat next))

-- A COMMIT
can-step : (w : WorkloadView) (m : FastMachine) (p : ProcNo) (n : ℕ) → IsWorkload w → IsReached w m → CanCommit fast_calls m p n
    → due_of (m.event + n) m.kernel.under_way ≡ None → CanStep fast_calls m p n
can-step w m p n ok is can none = record { none_due = none; steps = local-instructions-are-steps w m p n ok is can.go }

stands : (w : WorkloadView) (m : FastMachine) → IsWorkload w → IsReached w m → IsBetween fast_level.stands m
stands w m ok is = runs-stand fast_calls fast_level.stands fast_level.keep w is.moves m ok is.run

pub commits-are-turns : (w : WorkloadView) (m : FastMachine) (p : ProcNo) (n : ℕ) (fresh : ActNo) → IsWorkload w → IsReached w m
    → CanCommit fast_calls m p n → due_of (m.event + n) m.kernel.under_way ≡ None → m.kernel.acts fresh.0 ≡ None
    → IsRun fast_calls m (replicate n (turn p)) (committed fast_calls p n m)
commits-are-turns w m p n fresh ok is can none unused =
    commits-run fast_calls fast_level.stands fast_level.keep m p n fresh (stands w m ok is) can (can-step w m p n ok is can none) unused

pub turns-are-commits : (w : WorkloadView) (m : FastMachine) (p : ProcNo) (n : ℕ) (after : FastMachine) → IsWorkload w → IsReached w m
    → CanCommit fast_calls m p n → due_of (m.event + n) m.kernel.under_way ≡ None → IsRun fast_calls m (replicate n (turn p)) after
    → after ≡ committed fast_calls p n m
turns-are-commits w m p n after ok is can none run =
    runs-commit fast_calls fast_level.stands fast_level.keep m p n after (stands w m ok is) can (can-step w m p n ok is can none) run
