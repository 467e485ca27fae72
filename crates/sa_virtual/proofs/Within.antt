-- Each thread stands within its program, whatever the instruction.
use Rattle.std.proofs.Common.{◌≡◌, ◌≢◌, ℕ, ◌+◌, ◌-◌, ◌^◌, ◌<◌, length-append, Bool, true, false, cond, nat_lt, [], ◌∷◌, ◌++◌, length, get_or, set, inl, inr, sym, ap, subst, ◌∙◌, arith}
use Rattle.std.specs.Prelude.{All}
use Rattle.std.proofs.lemmas.Bool.{cases_eq, cases_lt}
use Rattle.std.proofs.lemmas.List.{length-set, get_or-set_same, get_or-set_other, get_or_append_left, get_or-append_right}
use Rattle.std.proofs.lemmas.List.Elements.{All-get_or}
use Rattle.sa_base.specs.declared.number.ThreadNo.{ThreadNo}
use Rattle.sa_base.specs.declared.limits.TheConstants.{MAX_THREADS}
use Rattle.sa_instr.specs.declared.instr.Instr.{Instr}
use Rattle.sa_instr.specs.declared.instr.Instr.TheVariants.{Compute, Load, Store, Out, Fork, Join, Lock, Unlock, Wait, Signal, Io, Touch, End}
use Rattle.sa_instr.specs.declared.instr.Reg.{Reg}
use Rattle.sa_instr.specs.Instr.{NamesDeclared}
use Rattle.sa_instr.specs.Local.{pc_after, regs_after}
use Rattle.sa_instr.specs.Program.{IsProgram}
use Rattle.sa_instr.specs.Regs.{reg_value}
use Rattle.sa_instr.proofs.PlaceLemmas.{next_inside, place_inside}
use Rattle.sa_spaces.specs.Space.{SpaceView, IsSpace}
use Rattle.sa_sync.specs.declared.answer.SyncAnswer.{SyncAnswer}
use Rattle.sa_sync.specs.declared.answer.SyncAnswer.TheVariants as answers
use Rattle.sa_sync.specs.Sync.{Sync}
use Rattle.sa_sync.specs.Calls.{Change, locked, unlocked, waited, signalled, joined, stored}
use Rattle.sa_laws.specs.declared.place.Place.TheVariants as places
use Rattle.sa_laws.specs.State.{Thread, SpaceState, at_start, thread_in, with_thread}
use Rattle.sa_laws.specs.Effect.{Effect, effect, next, next_with, with_sync, answered, sync_effect, fork_effect, end_effect, effect_of, local_effect}
use Rattle.sa_replay.specs.Running.{IsAt, instr_in}

-- all threads of a space
abbrev pub AllAt : SpaceView → SpaceState → Type 0
AllAt def x = (t : ℕ) → t < length x.threads → IsAt def (thread_in x (record { 0 = t }))

module _ (def : SpaceView) (space : IsSpace def) (x : SpaceState) (t : ThreadNo) (thread : Thread) (at : IsAt def thread) (all : AllAt def x) where
  program_is : IsProgram (get_or def.programs thread.program [])
  program_is = All-get_or IsProgram def.programs thread.program [] at.in_space space.programs

  pub named : (i : Instr) → i ≡ instr_in def thread → NamesDeclared def.mutexes (length def.sems) def.cells (length def.programs) i
  named i is =
      subst (NamesDeclared def.mutexes (length def.sems) def.cells (length def.programs)) (sym is)
      (All-get_or (NamesDeclared def.mutexes (length def.sems) def.cells (length def.programs))
      (get_or def.programs thread.program []) thread.pc End at.in_program
      (All-get_or (All (NamesDeclared def.mutexes (length def.sems) def.cells (length def.programs))) def.programs thread.program [] at.in_space space.names))

  pub next_place : (i : Instr) → i ≡ instr_in def thread → i ≢ End → thread.pc + 1 < length (get_or def.programs thread.program [])
  next_place i is more = next_inside (get_or def.programs thread.program []) thread.pc program_is at.in_program (λ ends. more (is ∙ ends))

  pub next_small : (i : Instr) → i ≡ instr_in def thread → i ≢ End → thread.pc + 1 < 2 ^ 16
  next_small i is more = omega (arith, next_place i is more, program_is.not_too_long)

  -- one thread is another
  one : (after : Thread) (sync : Sync) → IsAt def after → AllAt def (with_thread (with_sync x sync) t after)
  one after sync there u below =
      let made : u < length x.threads = omega (arith, below, length-set x.threads t.0 after) in
      elim (cases_eq u t.0) [
        | inl e ↦ subst (λ n. IsAt def (get_or (set x.threads t.0 after) n (at_start 0 places.Done))) (sym e)
            (subst (IsAt def) (sym (get_or-set_same x.threads t.0 after (at_start 0 places.Done) (omega (arith, e, made)))) there)
        | inr ne ↦ subst (IsAt def) (sym (get_or-set_other x.threads t.0 u after (at_start 0 places.Done) ne)) (all u made)
      ]

  goes : (after : Thread) → IsAt def after → AllAt def (with_thread x t after)
  goes after there = one after x.sync there

  told : (after : Thread) (sync : Sync) (answer : SyncAnswer) → IsAt def after → AllAt def (answered (with_sync x sync) t after answer).space
  told after sync answers.Waits there = one (record after { place = places.Waiting }) sync (record { in_space = there.in_space; in_program = there.in_program })
  told after sync _ there = one after sync there

  synced : (after : Thread) (change : Change) → IsAt def after → AllAt def (sync_effect x t after change).space
  synced after change there = told after change.state change.answer there

  behind : (i : Instr) → i ≡ instr_in def thread → i ≢ End → IsAt def (next thread)
  behind i is more = record { in_space = at.in_space; in_program = next_place i is more }

  behind_with : (i : Instr) (reg : Reg) (value : ℕ) → i ≡ instr_in def thread → i ≢ End → IsAt def (next_with thread reg value)
  behind_with i reg value is more = record { in_space = at.in_space; in_program = next_place i is more }

  local : (i : Instr) → i ≡ instr_in def thread → AllAt def (local_effect x t thread i).space
  local i is = goes (record thread { pc = pc_after i thread.pc thread.regs; regs = regs_after i thread.regs })
      (record { in_space = at.in_space; in_program = place_inside (get_or def.programs thread.program []) thread.pc thread.regs i program_is at.in_program is })

  forked : (after : Thread) (program : ℕ) → IsAt def after → program < length def.programs
      → AllAt def (record x { threads = set x.threads t.0 after ++ at_start program places.Waiting ∷ [] })
  forked after program there inside u below =
      let parents = set x.threads t.0 after in
      let child = at_start program places.Waiting in
      let size : length parents ≡ length x.threads = length-set x.threads t.0 after in
      let some : IsProgram (get_or def.programs program []) = All-get_or IsProgram def.programs program [] inside space.programs in
      elim (cases_lt u (length x.threads)) [
        | inl old ↦ subst (IsAt def) (sym (get_or_append_left parents (child ∷ []) (at_start 0 places.Done) u (omega (arith, size, old))))
            (goes after there u (omega (arith, size, old)))
        | inr new ↦
            let last : u - length x.threads ≡ 0 = omega (arith, new, below, size, length-append parents (child ∷ [])) in
            subst (IsAt def) (sym (get_or-append_right parents (child ∷ []) (length x.threads) u (at_start 0 places.Done) size new
            ∙ ap (λ n. get_or (child ∷ []) n (at_start 0 places.Done)) last))
            (record { in_space = inside; in_program = omega (arith, some.not_empty) })
      ]

  forks : (reg : Reg) (program : ℕ) → Fork reg program ≡ instr_in def thread → AllAt def (fork_effect x t thread reg program).space
  forks reg program is =
      let made' = length x.threads in
      let forking = with_thread x t (next_with thread reg made') in
      let done : Bool → Effect = λ b. cond b
      (effect (record forking { threads = forking.threads ++ at_start program places.Waiting ∷ [] }) (record { 0 = made' } ∷ []))
      (effect (with_thread x t (next_with thread reg (2 ^ 64 - 1))) []) in
      elim (nat_lt made' MAX_THREADS) as (λ b. AllAt def (done b).space) [
        | true ↦ forked (next_with thread reg made') program (behind_with (Fork reg program) reg made' is (λ e. cc)) (named (Fork reg program) is).1.0
        | false ↦ goes (next_with thread reg (2 ^ 64 - 1)) (behind_with (Fork reg program) reg (2 ^ 64 - 1) is (λ e. cc))
      ]

  pub within_of : (i : Instr) → i ≡ instr_in def thread → AllAt def (effect_of x t thread i).space
  within_of Compute is = local Compute is
  within_of (Load reg cell) is = goes _ (behind_with (Load reg cell) reg _ is (λ e. cc))
  within_of (Store reg cell) is = one (next thread) (stored x.sync cell (reg_value thread.regs reg)) (behind (Store reg cell) is (λ e. cc))
  within_of (Out reg) is = goes (next thread) (behind (Out reg) is (λ e. cc))
  within_of (Fork reg program) is = forks reg program is
  within_of (Join reg) is = synced _ (joined x.sync t.0 (reg_value thread.regs reg) (length x.threads)) (behind_with (Join reg) reg _ is (λ e. cc))
  within_of (Lock m) is = synced (next thread) (locked x.sync t.0 m) (behind (Lock m) is (λ e. cc))
  within_of (Unlock m) is = synced (next thread) (unlocked x.sync t.0 m) (behind (Unlock m) is (λ e. cc))
  within_of (Wait k) is = synced (next thread) (waited x.sync t.0 k) (behind (Wait k) is (λ e. cc))
  within_of (Signal k) is = synced (next thread) (signalled x.sync k) (behind (Signal k) is (λ e. cc))
  within_of (Io n) is = goes (next thread) (behind (Io n) is (λ e. cc))
  within_of (Touch n) is = goes (next thread) (behind (Touch n) is (λ e. cc))
  within_of End is =
      one (record thread { place = places.Done }) (end_effect x t thread).space.sync (record { in_space = at.in_space; in_program = at.in_program })
  within_of i is = local i is
