-- A run in which two threads are ready, and the older one is taken, by either package's rules.
use Rattle.std.proofs.Common.{◌≡◌, ℕ, inr, refl, ap, arith, Some, None, [], ◌∷◌, take}
use Rattle.std.proofs.lemmas.Option.{same_Some}
use Rattle.sa_base.specs.declared.number.ThreadNo.{ThreadNo}
use Rattle.sa_base.specs.declared.record.Record.TheVariants.{Ins, Run, Ready, Take, Free}
use Rattle.sa_laws.specs.declared.rule.Rule.TheVariants.{OrderKept}
use Rattle.sa_laws.specs.Event.{Event}
use Rattle.sa_laws.specs.Readings.{Readings, opening_readings}
use Rattle.sa_laws.specs.History.{after_events}
use Rattle.sa_laws.specs.Rules.{Holds}
use Rattle.sa_laws.specs.Legal.{FirstBreak}
use Rattle.sa_histories.specs.Short.{at, s0, p0, t0}
use Rattle.sa_base.specs.declared.package.PackageName.{PackageName}
use Rattle.sa_base.specs.declared.package.PackageName.TheVariants.{FastThreads, Priorities}
use Rattle.sa_ranks.specs.Packages.{rules_of}
use Rattle.sa_promises.specs.Examples.{forking_program, forking, forking_run, older_taken, stops_at, t1, t2}
use Rattle.sa_promises.proofs.Calm.{one-share}
use Rattle.sa_promises.proofs.Right.{IsRightAt, RightAlong, over, ◌►◌, and-then, breaks-then}
use Rattle.sa_promises.proofs.Unlocked.{AreFew, few-along}
use Rattle.sa_promises.proofs.Smallest.{before-instruction, takes0}
use Rattle.sa_promises.proofs.Steps.{up-to-order, frees, run-but-order, readies, takes_for_push, takes_for_pop, goes}

abbrev before : PackageName → ℕ → Readings
before which n = after_events (rules_of which).inside forking (opening_readings forking) (take n forking_run)

abbrev Right : PackageName → ℕ → Event → Type 0
Right which n e = IsRightAt (rules_of which) forking (before which n) e

few : (which : PackageName) (n : ℕ) → AreFew (before which n).lives
few which n = few-along (rules_of which).inside forking (opening_readings forking) n forking_run refl (record { others = λ a high. refl })

right5 : (which : PackageName) → Right which 5 (at 5 (Ins s0 t0 0 ∷ []))
right5 which = goes which one-share refl refl refl (record { owned = refl; runs = refl; pc = refl; within = omega arith; page = tt }, tt) refl

right6 : (which : PackageName) → Right which 6 (at 6 (Take s0 p0 (Some t0) ∷ []))
right6 which = takes_for_push which one-share refl refl (takes0 which (forking_program ∷ [])) (record { few = few which 6; zeroth = refl; first = refl }) refl

right7 : (which : PackageName) → Right which 7 (at 7 (Ready s0 t1 ∷ []))
right7 which = readies which one-share refl refl ((refl, inr refl), tt) refl refl (record { few = few which 7; zeroth = refl; first = refl }) refl

right8 : (which : PackageName) → Right which 8 (at 8 (Free s0 p0 (Some t0) ∷ []))
right8 which = frees which one-share refl refl refl

right9 : (which : PackageName) → Right which 9 (at 9 (Ins s0 t0 1 ∷ []))
right9 which = goes which one-share refl refl refl (record { owned = refl; runs = refl; pc = refl; within = omega arith; page = tt }, tt) refl

right10 : (which : PackageName) → Right which 10 (at 10 (Take s0 p0 (Some t0) ∷ []))
right10 which = takes_for_push which one-share refl refl (takes0 which (forking_program ∷ [])) (record { few = few which 10; zeroth = refl; first = refl }) refl

right11 : (which : PackageName) → Right which 11 (at 11 (Ready s0 t2 ∷ []))
right11 which = readies which one-share refl refl ((refl, inr refl), tt) refl refl (record { few = few which 11; zeroth = refl; first = refl }) refl

right12 : (which : PackageName) → Right which 12 (at 12 (Free s0 p0 (Some t0) ∷ []))
right12 which = frees which one-share refl refl refl

right13 : (which : PackageName) → Right which 13 (at 13 (Ins s0 t0 2 ∷ []))
right13 which = goes which one-share refl refl refl (record { owned = refl; runs = refl; pc = refl; within = omega arith; page = tt }, tt) refl

right14 : (which : PackageName) → Right which 14 (at 14 (Take s0 p0 None ∷ []))
right14 which =
    takes_for_pop which one-share refl refl refl refl (takes0 which (forking_program ∷ [])) (record { few = few which 14; zeroth = refl; first = refl }) refl

run-right : (which : PackageName) → RightAlong (rules_of which) forking (before which 0) forking_run
run-right which =
    and-then (before-instruction which (forking_program ∷ []))
    (right5 which ► right6 which ► right7 which ► right8 which ► right9 which ► right10 which ► right11 which ► right12 which ► right13 which ► right14 which ► over)

apart21 : Some t2 ≡ Some t1 → ⊥
apart21 e = let same = ap (λ (t : ThreadNo). t.0) (same_Some t2 t1 e) in omega (arith, same)

-- by either order the newer one is next
no-order : (which : PackageName) → Holds (rules_of which) forking OrderKept (before which 15) (at 15 (Run s0 t1 ∷ [])) None → ⊥
no-order FastThreads h = apart21 h.run
no-order Priorities h = apart21 h.run

pub breaks-OrderKept : (which : PackageName) → FirstBreak (rules_of which) forking older_taken (stops_at 15) 15 OrderKept
breaks-OrderKept which = breaks-then 15 (Run s0 t1 ∷ []) (run-right which)
    (record { earlier = up-to-order None (run-but-order which one-share refl refl ((refl, refl, refl), tt) refl refl); broken = no-order which })
