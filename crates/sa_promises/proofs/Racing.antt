-- A race on two processors: a thread forks one that outranks it, and that one another; and what breaks the package's own
-- rules first on the way.
use Rattle.std.proofs.Common.{◌≡◌, ℕ, zero, suc, ◌≤◌, inl, inr, refl, ap, arith, Some, None, [], ◌∷◌, take}
use Rattle.std.specs.Prelude.{◌+◌, ◌==◌, if◌then◌else◌, slice_index, replicate}
use Rattle.std.proofs.lemmas.Bool.{false≢true, true≢false}
use Rattle.std.proofs.lemmas.Option.{same_Some}
use Rattle.sa_base.specs.declared.number.ThreadNo.{ThreadNo}
use Rattle.sa_base.specs.declared.record.Note.TheVariants.{Add}
use Rattle.sa_base.specs.declared.record.Record.TheVariants.{Ins, Run, Ready, Back, Take, Free, Up, Told, Move, Want, Aim, Line}
use Rattle.sa_laws.specs.declared.rule.Rule.TheVariants.{LineCause, DemandAnnounced, TurnsTaken, OrderKept}
use Rattle.sa_laws.specs.Event.{Event}
use Rattle.sa_laws.specs.Readings.{Readings, opening_readings}
use Rattle.sa_laws.specs.History.{after_events}
use Rattle.sa_laws.specs.Rules.{IsLawful}
use Rattle.sa_laws.specs.Legal.{FirstBreak}
use Rattle.sa_ranks.specs.Rules.{prio_threads}
use Rattle.sa_ranks.specs.Inside.{is_inside_or_urged}
use Rattle.sa_promises.specs.Examples.{stops_at, t1, t2}
use Rattle.sa_histories.specs.Short.{at, act, s0, p0, t0}
use Rattle.sa_base.specs.declared.package.PackageName.TheVariants.{Priorities}
use Rattle.sa_promises.specs.RankedExamples.{racing, racing_run, p1, at1, line_again, line_unasked, outranked_run, back_alone, pair_unserved}
use Rattle.sa_promises.proofs.Plain.{before-demand}
use Rattle.sa_promises.proofs.Calm.{prompt-calm, no-wants, no-shares}
use Rattle.sa_promises.proofs.Right.{IsRightAt, RightAlong, over, ◌►◌, lawfully, breaks-then}
use Rattle.sa_promises.proofs.Unlocked.{AreFew, few-along}
use Rattle.sa_promises.proofs.Seen.{is-calm}
use Rattle.sa_promises.proofs.Steps.{up-to-order, with-order, frees, run-but-order, readies, takes_for_push, takes_for_pop, goes}
use Rattle.sa_promises.proofs.RankedSteps.{gives_way, back-but-turns, before-line}

apart10 : Some t1 ≡ Some t0 → ⊥
apart10 e = let same = ap (λ (t : ThreadNo). t.0) (same_Some t1 t0 e) in omega (arith, same)

-- the space has its share: one processor, and then two
share1 : (k : ℕ) → slice_index (1 ∷ replicate 15 0) k ≤ 0 + (if 0 == k then 1 else 0) + 0
share1 zero = omega arith
share1 (suc k) = let e : slice_index (replicate 15 0) k ≡ 0 = no-shares 15 k in omega (arith, e)

share2 : (k : ℕ) → slice_index (2 ∷ replicate 15 0) k ≤ 0 + (if 0 == k then 1 else 0) + (if 0 == k then 1 else 0)
share2 zero = omega arith
share2 (suc k) = let e : slice_index (replicate 15 0) k ≡ 0 = no-shares 15 k in omega (arith, e)

abbrev start : Readings
start = opening_readings racing

abbrev before : ℕ → Readings
before n = after_events is_inside_or_urged racing start (take n racing_run)

abbrev Right : ℕ → Event → Type 0
Right n e = IsRightAt prio_threads racing (before n) e

few : (n : ℕ) → AreFew (before n).lives
few n = few-along is_inside_or_urged racing start n racing_run refl (record { others = λ a high. refl })

lawful0 : IsLawful prio_threads racing (before 0) (at 0 (Want s0 1 ∷ Aim p0 (Some s0) ∷ Line p0 ∷ []))
lawful0 = record {
  numbered = record { number = refl; proc = omega arith; some = λ no. cc; opening = λ _. refl };
  stepwise = record { steps = (tt, (tt, (tt, tt))) };
  told_once = record { told = (tt, (tt, (tt, tt))) };
  told_in_time = record { prompt = prompt-calm (before 1) refl };
  where_owned = record { named = (tt, (tt, (tt, tt))); owned = refl };
  all_told = record { told = (tt, (tt, (tt, tt))) };
  upcall_given = record { blocks = (tt, (tt, (tt, tt))) };
  interrupt_next = record { interrupt = λ no. absurd (false≢true no); calm = λ no. absurd no };
  line_cause = record { heard = (tt, (record { line = λ _. refl }, (refl, tt))); first = tt; order = refl; due = refl };
  want_cause = record { due = λ no. absurd (omega arith); none = no-wants (before 1) refl };
  shares_covered = record { covered = share1; due = refl };
  demand_announced = record { demand_announced = record { step = λ no. absurd (omega arith) }; step = λ no. absurd (omega arith) };
  turns_taken = record { turn = λ no. absurd (omega arith); closing = λ no. absurd (omega arith) };
  locks_kept = record { step = λ no. absurd (omega arith) };
  order_kept = record { run = tt };
}

lawful1 : IsLawful prio_threads racing (before 1) (at 1 (Move None (Some s0) ∷ Up s0 (act 0) ∷ Told (Add p0) ∷ []))
lawful1 = record {
  numbered = record { number = refl; proc = omega arith; some = λ no. cc; opening = λ no. absurd (omega arith) };
  stepwise = record { steps = ((refl, refl), (tt, (tt, tt))) };
  told_once = record { told = (tt, (tt, (tt, tt))) };
  told_in_time = record { prompt = prompt-calm (before 2) refl };
  where_owned = record { named = (tt, (refl, (tt, tt))); owned = refl };
  all_told = record { told = (tt, (record { fresh = refl; notes = refl; some = λ no. cc }, (tt, tt))) };
  upcall_given = record { blocks = (tt, (tt, (tt, tt))) };
  interrupt_next = record { interrupt = λ _. (refl, refl, refl); calm = λ _. refl };
  line_cause = record { heard = (tt, (tt, (tt, tt))); first = tt; order = refl; due = refl };
  want_cause = record { due = λ _. refl; none = no-wants (before 2) refl };
  shares_covered = record { covered = share1; due = refl };
  demand_announced = record { demand_announced = record { step = λ _. tt }; step = λ _. tt };
  turns_taken = record { turn = λ _. tt; closing = λ _. tt };
  locks_kept = record { step = λ _. (tt, tt) };
  order_kept = record { run = tt };
}

lawful9 : IsLawful prio_threads racing (before 9) (at 9 (Want s0 2 ∷ Aim p1 (Some s0) ∷ Line p1 ∷ []))
lawful9 = record {
  numbered = record { number = refl; proc = omega arith; some = λ no. cc; opening = λ no. absurd (omega arith) };
  stepwise = record { steps = (tt, (tt, (tt, tt))) };
  told_once = record { told = (tt, (tt, (tt, tt))) };
  told_in_time = record { prompt = prompt-calm (before 10) refl };
  where_owned = record { named = (tt, (tt, (tt, tt))); owned = refl };
  all_told = record { told = (tt, (tt, (tt, tt))) };
  upcall_given = record { blocks = (tt, (tt, (tt, tt))) };
  interrupt_next = record { interrupt = λ no. absurd (false≢true no); calm = λ no. absurd no };
  line_cause = record { heard = (tt, (record { line = λ _. refl }, (refl, tt))); first = tt; order = refl; due = refl };
  want_cause = record { due = λ _. refl; none = no-wants (before 10) refl };
  shares_covered = record { covered = share2; due = refl };
  demand_announced = record {
    demand_announced = record { step = λ _. record { free = λ no. absurd (false≢true no) } };
    step = λ _. record { unurged = λ no. absurd (false≢true no) };
  };
  turns_taken = record {
    turn = λ _. (refl, refl, record { nothing = record { locks = refl; cont = refl; hand = refl }; below = omega arith; number = refl });
    closing = λ _. tt;
  };
  locks_kept = record { step = λ _. (record { keeps = tt; due = λ no. absurd (false≢true no); back = λ no. absurd (false≢true no) }, tt) };
  order_kept = record { run = tt };
}

lawful17 : IsLawful prio_threads racing (before 17) (at1 17 (Move None (Some s0) ∷ Up s0 (act 1) ∷ Told (Add p1) ∷ []))
lawful17 = record {
  numbered = record { number = refl; proc = omega arith; some = λ no. cc; opening = λ no. absurd (omega arith) };
  stepwise = record { steps = ((refl, refl), (tt, (tt, tt))) };
  told_once = record { told = (tt, (tt, (tt, tt))) };
  told_in_time = record { prompt = prompt-calm (before 18) refl };
  where_owned = record { named = (tt, (refl, (tt, tt))); owned = refl };
  all_told = record { told = (tt, (record { fresh = refl; notes = refl; some = λ no. cc }, (tt, tt))) };
  upcall_given = record { blocks = (tt, (tt, (tt, tt))) };
  interrupt_next = record { interrupt = λ _. (refl, refl, refl); calm = λ _. refl };
  line_cause = record { heard = (tt, (tt, (tt, tt))); first = tt; order = refl; due = refl };
  want_cause = record { due = λ _. refl; none = no-wants (before 18) refl };
  shares_covered = record { covered = share2; due = refl };
  demand_announced = record { demand_announced = record { step = λ _. tt }; step = λ _. tt };
  turns_taken = record { turn = λ _. tt; closing = λ _. tt };
  locks_kept = record { step = λ _. (tt, tt) };
  order_kept = record { run = tt };
}

right0 : Right 0 (at 0 (Want s0 1 ∷ Aim p0 (Some s0) ∷ Line p0 ∷ []))
right0 = lawfully lawful0 refl refl

right1 : Right 1 (at 1 (Move None (Some s0) ∷ Up s0 (act 0) ∷ Told (Add p0) ∷ []))
right1 = lawfully lawful1 refl refl

right2 : Right 2 (at 2 (Take s0 p0 None ∷ []))
right2 = takes_for_pop Priorities share1 refl refl refl refl refl (record { few = few 2; zeroth = refl; first = refl }) refl

right3 : Right 3 (at 3 (Run s0 t0 ∷ []))
right3 = with-order Priorities (run-but-order Priorities share1 refl refl ((refl, refl, refl), tt) refl refl) (record { run = refl })

right4 : Right 4 (at 4 (Free s0 p0 (Some t0) ∷ []))
right4 = frees Priorities share1 refl refl refl

right5 : Right 5 (at 5 (Ins s0 t0 0 ∷ []))
right5 = goes Priorities share1 refl refl refl (record { owned = refl; runs = refl; pc = refl; within = omega arith; page = tt }, tt) refl

right6 : Right 6 (at 6 (Take s0 p0 (Some t0) ∷ []))
right6 = takes_for_push Priorities share1 refl refl refl (record { few = few 6; zeroth = refl; first = refl }) refl

right7 : Right 7 (at 7 (Ready s0 t1 ∷ []))
right7 = readies Priorities share1 refl refl ((refl, inr refl), tt) refl refl (record { few = few 7; zeroth = refl; first = refl }) refl

right8 : Right 8 (at 8 (Free s0 p0 (Some t0) ∷ []))
right8 = frees Priorities share1 refl refl refl

right9 : Right 9 (at 9 (Want s0 2 ∷ Aim p1 (Some s0) ∷ Line p1 ∷ []))
right9 = lawfully lawful9 refl refl

right10 : Right 10 (at 10 (Back s0 (Some t0) ∷ []))
right10 = gives_way share2 refl refl ((refl, refl), tt) (
  refl,
  record { nothing = record { locks = refl; cont = refl; hand = refl }; space = refl; thread = refl; pair = record { rank = 0; pair = refl } },
)

right11 : Right 11 (at 11 (Take s0 p0 None ∷ []))
right11 = takes_for_push Priorities share2 refl refl refl (record { few = few 11; zeroth = refl; first = refl }) refl

right12 : Right 12 (at 12 (Ready s0 t0 ∷ []))
right12 = readies Priorities share2 refl refl ((refl, inl refl), tt) refl refl (record { few = few 12; zeroth = refl; first = refl }) refl

right13 : Right 13 (at 13 (Free s0 p0 None ∷ []))
right13 = frees Priorities share2 refl refl refl

right14 : Right 14 (at 14 (Take s0 p0 None ∷ []))
right14 = takes_for_pop Priorities share2 refl refl refl refl refl (record { few = few 14; zeroth = refl; first = refl }) refl

right15 : Right 15 (at 15 (Run s0 t1 ∷ []))
right15 = with-order Priorities (run-but-order Priorities share2 refl refl ((refl, refl, refl), tt) refl refl) (record { run = refl })

right16 : Right 16 (at 16 (Free s0 p0 (Some t1) ∷ []))
right16 = frees Priorities share2 refl refl refl

right17 : Right 17 (at1 17 (Move None (Some s0) ∷ Up s0 (act 1) ∷ Told (Add p1) ∷ []))
right17 = lawfully lawful17 refl refl

right18 : Right 18 (at1 18 (Take s0 p0 None ∷ []))
right18 = takes_for_pop Priorities share2 refl refl refl refl refl (record { few = few 18; zeroth = refl; first = refl }) refl

right19 : Right 19 (at1 19 (Run s0 t0 ∷ []))
right19 = with-order Priorities (run-but-order Priorities share2 refl refl ((refl, refl, refl), tt) refl refl) (record { run = refl })

right20 : Right 20 (at1 20 (Free s0 p0 (Some t0) ∷ []))
right20 = frees Priorities share2 refl refl refl

right21 : Right 21 (at 21 (Ins s0 t1 0 ∷ []))
right21 = goes Priorities share2 refl refl refl (record { owned = refl; runs = refl; pc = refl; within = omega arith; page = tt }, tt) refl

right22 : Right 22 (at 22 (Take s0 p0 (Some t1) ∷ []))
right22 = takes_for_push Priorities share2 refl refl refl (record { few = few 22; zeroth = refl; first = refl }) refl

right23 : Right 23 (at 23 (Ready s0 t2 ∷ []))
right23 = readies Priorities share2 refl refl ((refl, inr refl), tt) refl refl (record { few = few 23; zeroth = refl; first = refl }) refl

right24 : Right 24 (at 24 (Free s0 p0 (Some t1) ∷ []))
right24 = frees Priorities share2 refl refl refl

race : RightAlong prio_threads racing start racing_run
race =
    right0 ► right1 ► right2 ► right3 ► right4 ► right5 ► right6 ► right7 ► right8 ► right9 ► right10 ► right11
    ► right12 ► right13 ► right14 ► right15 ► right16 ► right17 ► right18 ► right19 ► right20 ► right21 ► right22 ► right23
    ► right24 ► over

pub breaks-line_again : FirstBreak prio_threads racing line_again (stops_at 10) 10 LineCause
breaks-line_again = breaks-then 10 (Line p1 ∷ []) race (record {
  earlier = before-line None refl;
  broken = λ h. let low : Some 9 ≡ None = h.heard.0 in cc;
})

pub breaks-line_unasked : FirstBreak prio_threads racing line_unasked (stops_at 21) 21 LineCause
breaks-line_unasked = breaks-then 21 (Line p1 ∷ []) race (record { earlier = before-line None refl; broken = λ h. let none = h.first.asked.lowest.pair in cc })

pub breaks-outranked_run : FirstBreak prio_threads racing outranked_run (stops_at 15) 15 OrderKept
breaks-outranked_run = breaks-then 15 (Run s0 t0 ∷ []) race
    (record { earlier = up-to-order None (run-but-order Priorities share2 refl refl ((refl, refl, refl), tt) refl refl); broken = λ h. apart10 h.run })

pub breaks-back_alone : FirstBreak prio_threads racing back_alone (stops_at 21) 21 TurnsTaken
breaks-back_alone = breaks-then 21 (Back s0 (Some t1) ∷ []) race
    (record { earlier = back-but-turns None share2 refl refl ((refl, refl), tt); broken = λ h. let none = (h.turn (omega arith)).1.pair.pair in cc })

pub breaks-pair_unserved : FirstBreak prio_threads racing pair_unserved (stops_at 25) 25 DemandAnnounced
breaks-pair_unserved = breaks-then 25 (Ins s0 t1 1 ∷ []) race (record {
  earlier = before-demand prio_threads racing (before 25) 25 p0 (Ins s0 t1 1) (Some (stops_at 25)) refl
      (is-calm refl share2 (record { owned = refl; runs = refl; pc = refl; within = omega arith; page = tt }, tt));
  broken = λ h. elim ((h.step (omega arith)).unurged refl) [ inl out ↦ true≢false out | inr none ↦ true≢false none ];
})
