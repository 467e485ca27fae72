-- The run of the smallest workload is right up to its instruction, whatever the programs, by either package's rules; and it is legal.
use Rattle.std.proofs.Common.{ℕ, refl, arith, Some, None, List, [], ◌∷◌, take}
use Rattle.std.proofs.lemmas.Bool.{false≢true}
use Rattle.sa_base.specs.declared.record.Note.TheVariants.{Add}
use Rattle.sa_base.specs.declared.record.Record.TheVariants.{Ins, Run, Take, Free, Up, Told, Move, Want, Aim, Line}
use Rattle.sa_instr.specs.declared.instr.Instr.{Instr}
use Rattle.sa_instr.specs.declared.instr.Instr.TheVariants.{End}
use Rattle.sa_laws.specs.Readings.{Readings, opening_readings, life_on}
use Rattle.sa_laws.specs.History.{after_events}
use Rattle.sa_laws.specs.Rules.{IsLawful}
use Rattle.sa_laws.specs.Legal.{IsLegal}
use Rattle.sa_histories.specs.Short.{workload_of, smallest, at, s0, p0, t0, act}
use Rattle.sa_histories.proofs.Legality.{legal-along}
use Rattle.sa_base.specs.declared.package.PackageName.{PackageName}
use Rattle.sa_base.specs.declared.package.PackageName.TheVariants.{FastThreads, Priorities}
use Rattle.sa_ranks.specs.Packages.{rules_of}
use Rattle.sa_promises.specs.Examples.{smallest_run, smallest_trace}
use Rattle.sa_promises.proofs.Calm.{prompt-calm, no-wants, one-share}
use Rattle.sa_promises.proofs.Plain.{plain-lawful}
use Rattle.sa_promises.proofs.Right.{IsRightAt, RightAlong, over, ◌►◌, lawfully, lawful-to}
use Rattle.sa_promises.proofs.Unlocked.{AreFew, few-along}
use Rattle.sa_promises.proofs.OwnRules.{nothing-owed, in-demand, in-turn, all-locks, kept-by, in-locks, in-order}
use Rattle.sa_promises.proofs.Steps.{TakesList, frees, run-but-order, with-order, takes_for_pop}

abbrev pub before : PackageName → List (List Instr) → ℕ → Readings
before which g n = after_events (rules_of which).inside (workload_of g) (opening_readings (workload_of g)) (take n smallest_run)

-- the smallest workload's programs
abbrev pub smallest_programs : List (List Instr)
smallest_programs = (End ∷ []) ∷ []

lawful0 : (which : PackageName) (g : List (List Instr))
    → IsLawful (rules_of which) (workload_of g) (before which g 0) (at 0 (Want s0 1 ∷ Aim p0 (Some s0) ∷ Line p0 ∷ []))
lawful0 which g = record {
  numbered = record { number = refl; proc = omega arith; some = λ no. cc; opening = λ _. refl };
  stepwise = record { steps = (tt, (tt, (tt, tt))) };
  told_once = record { told = (tt, (tt, (tt, tt))) };
  told_in_time = record { prompt = prompt-calm (before which g 1) refl };
  where_owned = record { named = (tt, (tt, (tt, tt))); owned = refl };
  all_told = record { told = (tt, (tt, (tt, tt))) };
  upcall_given = record { blocks = (tt, (tt, (tt, tt))) };
  interrupt_next = record { interrupt = λ no. absurd (false≢true no); calm = λ no. absurd no };
  line_cause = record { heard = (tt, (record { line = λ _. refl }, (refl, tt))); first = tt; order = refl; due = refl };
  want_cause = record { due = λ no. absurd (omega arith); none = no-wants (before which g 1) refl };
  shares_covered = record { covered = one-share; due = refl };
  demand_announced = in-demand which _ _ _ (λ no. absurd (omega arith)) (λ no. absurd (omega arith));
  turns_taken = record { turn = λ no. absurd (omega arith); closing = λ no. absurd (omega arith) };
  locks_kept = all-locks which _ _ _ (λ no. absurd (omega arith)) (λ no. absurd (omega arith));
  order_kept = in-order which _ _ _ tt tt;
}

lawful1 : (which : PackageName) (g : List (List Instr))
    → IsLawful (rules_of which) (workload_of g) (before which g 1) (at 1 (Move None (Some s0) ∷ Up s0 (act 0) ∷ Told (Add p0) ∷ []))
lawful1 which g = record {
  numbered = record { number = refl; proc = omega arith; some = λ no. cc; opening = λ no. absurd (omega arith) };
  stepwise = record { steps = ((refl, refl), (tt, (tt, tt))) };
  told_once = record { told = (tt, (tt, (tt, tt))) };
  told_in_time = record { prompt = prompt-calm (before which g 2) refl };
  where_owned = record { named = (tt, (refl, (tt, tt))); owned = refl };
  all_told = record { told = (tt, (record { fresh = refl; notes = refl; some = λ no. cc }, (tt, tt))) };
  upcall_given = record { blocks = (tt, (tt, (tt, tt))) };
  interrupt_next = record { interrupt = λ _. (refl, refl, refl); calm = λ _. refl };
  line_cause = record { heard = (tt, (tt, (tt, tt))); first = tt; order = refl; due = refl };
  want_cause = record { due = λ _. refl; none = no-wants (before which g 2) refl };
  shares_covered = record { covered = one-share; due = refl };
  demand_announced = in-demand which _ _ _ (λ _. tt) (λ _. tt);
  turns_taken = record { turn = λ _. tt; closing = λ _. tt };
  locks_kept = all-locks which _ _ _ (λ _. (tt, tt)) (λ _. (tt, tt));
  order_kept = in-order which _ _ _ tt tt;
}

-- processor 0 takes its own list first
pub takes0 : (which : PackageName) (g : List (List Instr)) → TakesList which (workload_of g) p0 p0
takes0 FastThreads g = (refl, refl)
takes0 Priorities g = refl

pub few : (which : PackageName) (g : List (List Instr)) (n : ℕ) → AreFew (before which g n).lives
few which g n =
    few-along (rules_of which).inside (workload_of g) (opening_readings (workload_of g)) n smallest_run refl (record { others = λ a high. refl })

right2 : (which : PackageName) (g : List (List Instr)) → IsRightAt (rules_of which) (workload_of g) (before which g 2) (at 2 (Take s0 p0 None ∷ []))
right2 which g = takes_for_pop which one-share refl refl refl refl (takes0 which g) (record { few = few which g 2; zeroth = refl; first = refl }) refl

right3 : (which : PackageName) (g : List (List Instr)) → IsRightAt (rules_of which) (workload_of g) (before which g 3) (at 3 (Run s0 t0 ∷ []))
right3 which g = with-order which (run-but-order which one-share refl refl ((refl, refl, refl), tt) refl refl) (in-order which _ _ _ refl refl)

pub right4 : (which : PackageName) (g : List (List Instr)) → IsRightAt (rules_of which) (workload_of g) (before which g 4) (at 4 (Free s0 p0 (Some t0) ∷ []))
right4 which g = frees which one-share refl refl refl

pub before-instruction : (which : PackageName) (g : List (List Instr)) → RightAlong (rules_of which) (workload_of g) (before which g 0) (take 5 smallest_run)
before-instruction which g =
    lawfully (lawful0 which g) refl refl ► lawfully (lawful1 which g) refl refl ► right2 which g ► right3 which g ► right4 which g ► over

-- the instruction ends the only thread, so the run does not go on after it
lawful5 : (which : PackageName) → IsLawful (rules_of which) smallest (before which smallest_programs 5) (at 5 (Ins s0 t0 0 ∷ []))
lawful5 which =
    let r = before which smallest_programs 5 in
    let allowed = nothing-owed smallest r (Ins s0 t0 0) (life_on r p0) s0 [] (Some t0) refl refl in
    plain-lawful (rules_of which) smallest r 5 p0 (Ins s0 t0 0) refl
    (record {
      later = omega arith;
      proc = omega arith;
      steps = (record { owned = refl; runs = refl; pc = refl; within = omega arith; page = tt }, tt);
      reads = (refl, refl, refl, refl, refl, refl, refl);
      covered = one-share;
    })
    (in-demand which _ _ _ (λ _. allowed.free) (λ _. allowed.unurged)) (in-turn which (λ _ _ _ _ _ step. step) refl)
    (in-locks which _ _ _ _ _ refl refl refl refl (λ life same. kept-by which _ _ _ _ _ tt tt)) (in-order which _ _ _ tt tt)

pub smallest-legal : (which : PackageName) → IsLegal (rules_of which) smallest smallest_trace
smallest-legal which = legal-along (rules_of which) smallest smallest_run (λ no. cc)
    (lawful-to (at 5 (Ins s0 t0 0 ∷ [])) (before-instruction which smallest_programs) (lawful5 which))
