-- For each rule a history that breaks it first, by either package's rules.
use Rattle.std.proofs.Common.{◌≡◌, ℕ, zero, suc, inl, inr, refl, ap, arith, Some, None, List, [], ◌∷◌, length, take, true}
use Rattle.std.proofs.lemmas.Bool.{false≢true, true≢false}
use Rattle.std.specs.Prelude.{slice_get, slice_index_or, is_some, Option}
use Rattle.sa_base.specs.declared.record.Note.TheVariants.{Add, Preempted, Blocked}
use Rattle.sa_base.specs.declared.record.Record.{Record}
use Rattle.sa_base.specs.declared.record.Record.TheVariants.{Ins, Stop, Block, Take, Free, Up, Told, Move, Want, Aim, Line, Idle, Tick}
use Rattle.sa_instr.specs.declared.instr.Instr.{Instr}
use Rattle.sa_instr.specs.declared.instr.Instr.TheVariants.{Io as IoOf, End}
use Rattle.sa_laws.specs.declared.rule.Rule.TheVariants.{Numbered, Stepwise, ToldOnce, ToldInTime, WhereOwned, AllTold, UpcallGiven, InterruptNext, LineCause, WantCause, SharesCovered, DemandAnnounced, TurnsTaken, LocksKept, EndTold}
use Rattle.sa_laws.specs.Event.{Event}
use Rattle.sa_laws.specs.Readings.{Readings, IsLocked, life_on}
use Rattle.sa_laws.specs.History.{after_event, event_begun}
use Rattle.sa_laws.specs.Rules.{Holds}
use Rattle.sa_laws.specs.Legal.{FirstBreak}
use Rattle.sa_histories.specs.Short.{smallest, at, s0, p0, t0, act}
use Rattle.sa_histories.proofs.Legality.{laws-hold, break-behind}
use Rattle.sa_base.specs.declared.package.PackageName.{PackageName}
use Rattle.sa_base.specs.declared.package.PackageName.TheVariants.{FastThreads, Priorities}
use Rattle.sa_ranks.specs.Packages.{rules_of}
use Rattle.sa_promises.specs.Examples.{smallest_run, blocking, stops_at, told_done, other_opening, other_place, told_of_nothing, stopped_untold, two_lives, not_told_added, other_io, interrupt_put_off, raised_for_nothing, wanted_for_nothing, aimed_for_nothing, idle_with_lock, idle_beside_thread, freed_unused, not_done}
use Rattle.sa_promises.proofs.Plain.{before-demand, before-locks, before-turns}
use Rattle.sa_promises.proofs.Calm.{prompt-calm, no-wants, one-share}
use Rattle.sa_promises.proofs.Right.{◌&◌, are-right, first-right, breaks-then}
use Rattle.sa_promises.proofs.Smallest.{before, smallest_programs, few, right4, before-instruction}
use Rattle.sa_promises.proofs.Seen.{is-calm}
use Rattle.sa_promises.proofs.OwnRules.{nothing-owed, unbound, in-demand, in-turn}
use Rattle.sa_promises.proofs.Unlocked.{none-locked}

-- before the event at n of the smallest run
abbrev r : PackageName → ℕ → Readings
r which n = before which smallest_programs n

abbrev after : PackageName → ℕ → List Record → Readings
after which n records = after_event (rules_of which).inside smallest (r which n) (at n records)

pub breaks-Numbered : (which : PackageName) → FirstBreak (rules_of which) smallest other_opening (stops_at 0) 0 Numbered
breaks-Numbered which = breaks-then 0 (Want s0 2 ∷ []) (before-instruction which smallest_programs)
    (record { earlier = tt; broken = λ h. let e = ap (λ (x : Event). slice_get x.records 0) (h.opening refl) in differs e })
  where
    differs : Some (Want s0 2) ≡ Some (Want s0 1) → ⊥
    differs e = cc

pub breaks-Stepwise : (which : PackageName) → FirstBreak (rules_of which) smallest other_place (stops_at 5) 5 Stepwise
breaks-Stepwise which = breaks-then 5 (Ins s0 t0 1 ∷ []) (before-instruction which smallest_programs) (record {
  earlier = record { number = refl; proc = omega arith; some = λ no. cc; opening = λ no. absurd (omega arith) } & tt;
  broken = λ h. let place = h.steps.0.pc in omega (arith, place);
})

pub breaks-ToldOnce : (which : PackageName) → FirstBreak (rules_of which) smallest told_of_nothing (stops_at 1) 1 ToldOnce
breaks-ToldOnce which =
    breaks-then 1 (Move None (Some s0) ∷ Up s0 (act 0) ∷ Told (Add p0) ∷ Told (Preempted (act 7)) ∷ []) (before-instruction which smallest_programs) (record {
      earlier =
          record { number = refl; proc = omega arith; some = λ no. cc; opening = λ no. absurd (omega arith) }
          & record { steps = ((refl, refl), (tt, (tt, (tt, tt)))) }
          & tt;
      broken = λ h. let has = h.told.1.1.1.0 in omega (arith, has.1);
    })

-- no line is raised
abbrev low_lines : List (Option ℕ)
low_lines = None ∷ []

low : (k : ℕ) → is_some (slice_index_or low_lines k None) ≡ true → ⊥
low zero raised = cc
low (suc k) raised = cc

pub breaks-ToldInTime : (which : PackageName) → FirstBreak (rules_of which) smallest stopped_untold (stops_at 5) 5 ToldInTime
breaks-ToldInTime which = breaks-then 5 (Stop s0 (Some t0) (act 0) ∷ []) (before-instruction which smallest_programs) (record {
  earlier =
      record { number = refl; proc = omega arith; some = λ no. cc; opening = λ no. absurd (omega arith) }
      & record { steps = ((refl, refl), tt) }
      & record { told = (tt, tt) }
      & tt;
  broken = λ h. elim (h.prompt.each s0 (λ no. cc)) [
    | inl none ↦ none p0 refl
    | inr (inl fetching) ↦ cc
    | inr (inr raised) ↦ low raised.0.0 raised.2
  ];
})

pub breaks-WhereOwned : (which : PackageName) → FirstBreak (rules_of which) smallest two_lives (stops_at 2) 2 WhereOwned
breaks-WhereOwned which = breaks-then 2 (Up s0 (act 1) ∷ Told (Add p0) ∷ []) (before-instruction which smallest_programs) (record {
  earlier =
      record { number = refl; proc = omega arith; some = λ no. cc; opening = λ no. absurd (omega arith) }
      & record { steps = (tt, (tt, tt)) }
      & record { told = (tt, (tt, tt)) }
      & record { prompt = prompt-calm (after which 2 (Up s0 (act 1) ∷ Told (Add p0) ∷ [])) refl }
      & tt;
  broken = λ h. let no : Some (act 0) ≡ None = h.named.0 in cc;
})

pub breaks-AllTold : (which : PackageName) → FirstBreak (rules_of which) smallest not_told_added (stops_at 1) 1 AllTold
breaks-AllTold which = breaks-then 1 (Move None (Some s0) ∷ Up s0 (act 0) ∷ []) (before-instruction which smallest_programs) (record {
  earlier =
      record { number = refl; proc = omega arith; some = λ no. cc; opening = λ no. absurd (omega arith) }
      & record { steps = ((refl, refl), (tt, tt)) }
      & record { told = (tt, (tt, tt)) }
      & record { prompt = prompt-calm (after which 1 (Move None (Some s0) ∷ Up s0 (act 0) ∷ [])) refl }
      & record { named = (tt, (refl, tt)); owned = refl }
      & tt;
  broken = λ h. h.told.1.0.some refl;
})

abbrev block : List Record
block = Ins s0 t0 0 ∷ Block s0 (Some t0) (act 0) (record { 0 = 1 }) ∷ Up s0 (act 1) ∷ Told (Blocked (act 0)) ∷ []

abbrev blocks : List (List Instr)
blocks = (IoOf 2 ∷ End ∷ []) ∷ []

pub breaks-UpcallGiven : (which : PackageName) → FirstBreak (rules_of which) blocking other_io (stops_at 5) 5 UpcallGiven
breaks-UpcallGiven which = breaks-then 5 block (before-instruction which blocks) (record {
  earlier =
      record { number = refl; proc = omega arith; some = λ no. cc; opening = λ no. absurd (omega arith) }
      & record {
        steps = (
          record { owned = refl; runs = refl; pc = refl; within = omega arith; page = tt },
          (record { owned = refl; runs = refl; cause = inl refl }, (tt, (tt, tt))),
        );
      }
      & record { told = (tt, (tt, (tt, ((0, omega arith, refl), tt)))) }
      & record { prompt = prompt-calm (after_event (rules_of which).inside blocking (before which blocks 5) (at 5 block)) refl }
      & record { named = (tt, (record { act = refl; space = refl }, (refl, (tt, tt)))); owned = refl }
      & record { told = (tt, (tt, (record { fresh = refl; notes = refl; some = λ no. cc }, (tt, tt)))) }
      & tt;
  broken = λ h. let number = h.blocks.1.0.number in omega (arith, number);
})

pub breaks-InterruptNext : (which : PackageName) → FirstBreak (rules_of which) smallest interrupt_put_off (stops_at 1) 1 InterruptNext
breaks-InterruptNext which = breaks-then 1 (Tick ∷ []) (before-instruction which smallest_programs) (record {
  earlier =
      record { number = refl; proc = omega arith; some = λ no. cc; opening = λ no. absurd (omega arith) }
      & record { steps = (tt, tt) }
      & record { told = (tt, tt) }
      & record { prompt = prompt-calm (after which 1 (Tick ∷ [])) refl }
      & record { named = (tt, tt); owned = refl }
      & record { told = (tt, tt) }
      & record { blocks = (tt, tt) }
      & tt;
  broken = λ h. h.interrupt refl;
})

pub breaks-LineCause : (which : PackageName) → FirstBreak (rules_of which) smallest raised_for_nothing (stops_at 2) 2 LineCause
breaks-LineCause which = breaks-then 2 (Take s0 p0 None ∷ Line p0 ∷ []) (before-instruction which smallest_programs) (record {
  earlier =
      record { number = refl; proc = omega arith; some = λ no. cc; opening = λ no. absurd (omega arith) }
      & record { steps = (tt, (tt, tt)) }
      & record { told = (tt, (tt, tt)) }
      & record { prompt = prompt-calm (after which 2 (Take s0 p0 None ∷ Line p0 ∷ [])) refl }
      & record { named = (tt, (tt, tt)); owned = refl }
      & record { told = (tt, (tt, tt)) }
      & record { blocks = (tt, (tt, tt)) }
      & record { interrupt = λ no. absurd (false≢true no); calm = λ no. absurd no }
      & tt;
  broken = λ h. let due : Line p0 ∷ [] ≡ [] = h.due in cc;
})

pub breaks-WantCause : (which : PackageName) → FirstBreak (rules_of which) smallest wanted_for_nothing (stops_at 2) 2 WantCause
breaks-WantCause which = breaks-then 2 (Take s0 p0 None ∷ Want s0 1 ∷ []) (before-instruction which smallest_programs) (record {
  earlier =
      record { number = refl; proc = omega arith; some = λ no. cc; opening = λ no. absurd (omega arith) }
      & record { steps = (tt, (tt, tt)) }
      & record { told = (tt, (tt, tt)) }
      & record { prompt = prompt-calm (after which 2 (Take s0 p0 None ∷ Want s0 1 ∷ [])) refl }
      & record { named = (tt, (tt, tt)); owned = refl }
      & record { told = (tt, (tt, tt)) }
      & record { blocks = (tt, (tt, tt)) }
      & record { interrupt = λ no. absurd (false≢true no); calm = λ no. absurd no }
      & record { heard = (tt, (tt, tt)); first = tt; order = refl; due = refl }
      & tt;
  broken = λ h. let due : Want s0 1 ∷ [] ≡ [] = h.due (omega arith) in cc;
})

pub breaks-SharesCovered : (which : PackageName) → FirstBreak (rules_of which) smallest aimed_for_nothing (stops_at 2) 2 SharesCovered
breaks-SharesCovered which = breaks-then 2 (Take s0 p0 None ∷ Aim p0 (Some s0) ∷ Line p0 ∷ []) (before-instruction which smallest_programs) (record {
  earlier =
      record { number = refl; proc = omega arith; some = λ no. cc; opening = λ no. absurd (omega arith) }
      & record { steps = (tt, (tt, (tt, tt))) }
      & record { told = (tt, (tt, (tt, tt))) }
      & record { prompt = prompt-calm (after which 2 (Take s0 p0 None ∷ Aim p0 (Some s0) ∷ Line p0 ∷ [])) refl }
      & record { named = (tt, (tt, (tt, tt))); owned = refl }
      & record { told = (tt, (tt, (tt, tt))) }
      & record { blocks = (tt, (tt, (tt, tt))) }
      & record { interrupt = λ no. absurd (false≢true no); calm = λ no. absurd no }
      & record { heard = (tt, (record { line = λ _. refl }, (refl, tt))); first = tt; order = refl; due = refl }
      & record { due = λ _. refl; none = no-wants (after which 2 (Take s0 p0 None ∷ Aim p0 (Some s0) ∷ Line p0 ∷ [])) refl }
      & tt;
  broken = λ h. let due = ap length h.due in omega (arith, due);
})

-- the life has a lock: it is in, and owes something
idles-with-lock : (which : PackageName) → Holds (rules_of which) smallest DemandAnnounced (r which 3) (at 3 (Idle ∷ [])) None → ⊥
idles-with-lock FastThreads h = elim ((h.step (omega arith)).free refl) [
  | inl out ↦ true≢false out
  | inr owes ↦ let no = ap length owes.nothing.locks in omega (arith, no)
]
idles-with-lock Priorities h = elim ((h.demand_announced.step (omega arith)).free refl) [
  | inl out ↦ true≢false out
  | inr owes ↦ let no = ap length owes.nothing.locks in omega (arith, no)
]

pub breaks-DemandAnnounced : (which : PackageName) → FirstBreak (rules_of which) smallest idle_with_lock (stops_at 3) 3 DemandAnnounced
breaks-DemandAnnounced which = breaks-then 3 (Idle ∷ []) (before-instruction which smallest_programs) (record {
  earlier = before-demand (rules_of which) smallest (r which 3) 3 p0 Idle (Some (stops_at 3)) refl (is-calm refl one-share (tt, tt));
  broken = idles-with-lock which;
})

-- the list is open
unlocked : (which : PackageName) → IsLocked (event_begun smallest (at 2 (Idle ∷ [])) (r which 2)) s0 p0 → ⊥
unlocked which =
    none-locked {r = event_begun smallest (at 2 (Idle ∷ [])) (r which 2)} (record { few = few which smallest_programs 2; zeroth = refl; first = refl })

idles-beside-thread : (which : PackageName) → Holds (rules_of which) smallest TurnsTaken (r which 2) (at 2 (Idle ∷ [])) None → ⊥
idles-beside-thread FastThreads h = unlocked FastThreads ((h.turn (omega arith)).1.finds.none.locked p0 refl)
idles-beside-thread Priorities h = unlocked Priorities ((h.turn (omega arith)).1.finds.none refl)

pub breaks-TurnsTaken : (which : PackageName) → FirstBreak (rules_of which) smallest idle_beside_thread (stops_at 2) 2 TurnsTaken
breaks-TurnsTaken which =
    let allowed = nothing-owed smallest (r which 2) Idle (life_on (r which 2) p0) s0 [] None refl refl in
    breaks-then 2 (Idle ∷ []) (before-instruction which smallest_programs) (record {
      earlier = before-turns (rules_of which) smallest (r which 2) 2 p0 Idle (Some (stops_at 2)) refl (is-calm refl one-share (tt, tt))
          (in-demand which _ _ _ (λ _. allowed.free) (λ _. allowed.unurged));
      broken = idles-beside-thread which;
    })

frees-unused : (which : PackageName) → Holds (rules_of which) smallest LocksKept (r which 3) (at 3 (Free s0 p0 None ∷ [])) None → ⊥
frees-unused FastThreads h = false≢true (h.step (omega arith)).0.keeps.used
frees-unused Priorities h = false≢true (h.step (omega arith)).0.keeps.used

pub breaks-LocksKept : (which : PackageName) → FirstBreak (rules_of which) smallest freed_unused (stops_at 3) 3 LocksKept
breaks-LocksKept which =
    let allowed = unbound smallest (r which 3) (Free s0 p0 None) (life_on (r which 3) p0) _ refl (λ life same. refl) in
    breaks-then 3 (Free s0 p0 None ∷ []) (before-instruction which smallest_programs) (record {
      earlier = before-locks (rules_of which) smallest (r which 3) 3 p0 (Free s0 p0 None) (Some (stops_at 3)) refl (is-calm refl one-share (tt, tt))
          (in-demand which _ _ _ (λ _. allowed.free) (λ _. allowed.unurged)) (in-turn which (λ _ _ _ _ _ step. step) refl);
      broken = frees-unused which;
    })

pub breaks-EndTold : (which : PackageName) → FirstBreak (rules_of which) smallest not_done told_done 4 EndTold
breaks-EndTold which =
    let last = at 4 (Free s0 p0 (Some t0) ∷ []) in
    break-behind (rules_of which) smallest (take 4 smallest_run) last told_done EndTold (are-right (first-right 4 (before-instruction which smallest_programs))) (record {
      earlier = laws-hold (rules_of which) smallest (r which 4) last (Some told_done) (right4 which smallest_programs).lawful;
      broken = λ h. let done = h.1 in cc;
    })
