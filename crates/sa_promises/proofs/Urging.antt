-- A run in which a thread forks one that outranks it; and what breaks the package's own rules first.
use Rattle.std.proofs.Common.{◌≡◌, ℕ, inl, inr, refl, ap, arith, Some, None, [], ◌∷◌, take}
use Rattle.std.proofs.lemmas.Bool.{true≢false}
use Rattle.std.proofs.lemmas.Option.{same_Some}
use Rattle.sa_base.specs.declared.number.ProcNo.{ProcNo}
use Rattle.sa_base.specs.declared.number.ThreadNo.{ThreadNo}
use Rattle.sa_base.specs.declared.record.Record.TheVariants.{Ins, Run, Ready, Back, Take, Free, Line}
use Rattle.sa_laws.specs.declared.rule.Rule.TheVariants.{LineCause, DemandAnnounced, TurnsTaken, LocksKept, OrderKept}
use Rattle.sa_laws.specs.Event.{Event}
use Rattle.sa_laws.specs.Readings.{Readings, opening_readings, life_on}
use Rattle.sa_laws.specs.History.{after_events}
use Rattle.sa_laws.specs.Legal.{FirstBreak}
use Rattle.sa_ranks.specs.Rules.{prio_threads}
use Rattle.sa_ranks.specs.Inside.{is_inside_or_urged}
use Rattle.sa_histories.specs.Short.{smallest, at, s0, p0, t0}
use Rattle.sa_base.specs.declared.package.PackageName.TheVariants.{Priorities}
use Rattle.sa_promises.specs.Examples.{smallest_run, stops_at, t1}
use Rattle.sa_promises.specs.RankedExamples.{urging_programs, urging, urging_run, back_for_nothing, own_line, p1, other_list_taken, goes_on_outranked, lesser_taken}
use Rattle.sa_promises.proofs.Plain.{before-demand, before-locks}
use Rattle.sa_promises.proofs.Calm.{one-share}
use Rattle.sa_promises.proofs.Right.{IsRightAt, RightAlong, over, ◌►◌, and-then, breaks-then}
use Rattle.sa_promises.proofs.Unlocked.{AreFew, few-along}
use Rattle.sa_promises.proofs.Smallest.{smallest_programs, before-instruction}
use Rattle.sa_promises.proofs.Seen.{is-calm}
use Rattle.sa_promises.proofs.OwnRules.{nothing-owed, in-demand, in-turn}
use Rattle.sa_promises.proofs.Steps.{up-to-order, frees, run-but-order, readies, takes_for_push, takes_for_pop, goes}
use Rattle.sa_promises.proofs.RankedSteps.{gives_way, back-but-turns, before-line}

abbrev before : ℕ → Readings
before n = after_events is_inside_or_urged urging (opening_readings urging) (take n urging_run)

abbrev Right : ℕ → Event → Type 0
Right n e = IsRightAt prio_threads urging (before n) e

few : (n : ℕ) → AreFew (before n).lives
few n = few-along is_inside_or_urged urging (opening_readings urging) n urging_run refl (record { others = λ a high. refl })

right5 : Right 5 (at 5 (Ins s0 t0 0 ∷ []))
right5 = goes Priorities one-share refl refl refl (record { owned = refl; runs = refl; pc = refl; within = omega arith; page = tt }, tt) refl

right6 : Right 6 (at 6 (Take s0 p0 (Some t0) ∷ []))
right6 = takes_for_push Priorities one-share refl refl refl (record { few = few 6; zeroth = refl; first = refl }) refl

right7 : Right 7 (at 7 (Ready s0 t1 ∷ []))
right7 = readies Priorities one-share refl refl ((refl, inr refl), tt) refl refl (record { few = few 7; zeroth = refl; first = refl }) refl

right8 : Right 8 (at 8 (Free s0 p0 (Some t0) ∷ []))
right8 = frees Priorities one-share refl refl refl

right9 : Right 9 (at 9 (Back s0 (Some t0) ∷ []))
right9 = gives_way one-share refl refl ((refl, refl), tt) (
  refl,
  record { nothing = record { locks = refl; cont = refl; hand = refl }; space = refl; thread = refl; pair = record { rank = 0; pair = refl } },
)

right10 : Right 10 (at 10 (Take s0 p0 None ∷ []))
right10 = takes_for_push Priorities one-share refl refl refl (record { few = few 10; zeroth = refl; first = refl }) refl

right11 : Right 11 (at 11 (Ready s0 t0 ∷ []))
right11 = readies Priorities one-share refl refl ((refl, inl refl), tt) refl refl (record { few = few 11; zeroth = refl; first = refl }) refl

right12 : Right 12 (at 12 (Free s0 p0 None ∷ []))
right12 = frees Priorities one-share refl refl refl

right13 : Right 13 (at 13 (Take s0 p0 None ∷ []))
right13 = takes_for_pop Priorities one-share refl refl refl refl refl (record { few = few 13; zeroth = refl; first = refl }) refl

run-right : RightAlong prio_threads urging (before 0) urging_run
run-right =
    and-then (before-instruction Priorities urging_programs)
    (right5 ► right6 ► right7 ► right8 ► right9 ► right10 ► right11 ► right12 ► right13 ► over)

pub breaks-own_line : FirstBreak prio_threads smallest own_line (stops_at 5) 5 LineCause
breaks-own_line =
    breaks-then 5 (Line p0 ∷ []) (before-instruction Priorities smallest_programs) (record { earlier = before-line None refl; broken = λ h. h.first.apart refl })

pub breaks-back : FirstBreak prio_threads smallest back_for_nothing (stops_at 5) 5 TurnsTaken
breaks-back = breaks-then 5 (Back s0 (Some t0) ∷ []) (before-instruction Priorities smallest_programs)
    (record { earlier = back-but-turns None one-share refl refl ((refl, refl), tt); broken = λ h. let none = (h.turn (omega arith)).1.pair.pair in cc })

pub breaks-locks : FirstBreak prio_threads smallest other_list_taken (stops_at 2) 2 LocksKept
breaks-locks =
    let r = after_events is_inside_or_urged smallest (opening_readings smallest) (take 2 smallest_run) in
    let allowed = nothing-owed smallest r (Take s0 p1 None) (life_on r p0) s0 [] None refl refl in
    breaks-then 2 (Take s0 p1 None ∷ []) (before-instruction Priorities smallest_programs) (record {
      earlier = before-locks prio_threads smallest r 2 p0 (Take s0 p1 None) (Some (stops_at 2)) refl (is-calm refl one-share (tt, tt))
          (in-demand Priorities smallest r (at 2 (Take s0 p1 None ∷ [])) (λ _. allowed.free) (λ _. allowed.unurged)) (in-turn Priorities (λ _ _ _ _ _ step. step) refl);
      broken = λ h. let list = ap (λ (l : ProcNo). l.0) (h.step (omega arith)).0.keeps.list in omega (arith, list);
    })

pub breaks-urge : FirstBreak prio_threads urging goes_on_outranked (stops_at 9) 9 DemandAnnounced
breaks-urge = breaks-then 9 (Ins s0 t0 1 ∷ []) run-right (record {
  earlier = before-demand prio_threads urging (before 9) 9 p0 (Ins s0 t0 1) (Some (stops_at 9)) refl
      (is-calm refl one-share (record { owned = refl; runs = refl; pc = refl; within = omega arith; page = tt }, tt));
  broken = λ h. elim ((h.step (omega arith)).unurged refl) [ inl out ↦ true≢false out | inr none ↦ true≢false none ];
})

apart10 : Some t1 ≡ Some t0 → ⊥
apart10 e = let same = ap (λ (t : ThreadNo). t.0) (same_Some t1 t0 e) in omega (arith, same)

pub breaks-rank : FirstBreak prio_threads urging lesser_taken (stops_at 14) 14 OrderKept
breaks-rank = breaks-then 14 (Run s0 t0 ∷ []) run-right
    (record { earlier = up-to-order None (run-but-order Priorities one-share refl refl ((refl, refl, refl), tt) refl refl); broken = λ h. apart10 h.run })
