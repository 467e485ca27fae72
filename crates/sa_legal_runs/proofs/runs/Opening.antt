-- The opening is lawful, and each space fits after it.
use Rattle.sa_kernel_model.specs.Opening as kernel
use Rattle.std.proofs.Common.{replicate, get_or, IsSome, cond, suc, false, Option, None, length-append, ◌≡◌, ◌≢◌, ℕ, ◌+◌, arith, sym, ◌∙◌, ap, subst, refl, Bool, true, List, [], ◌∷◌, ◌++◌, map, length}
use Rattle.std.proofs.lemmas.List.{length-map, length-replicate}
use Rattle.std.proofs.lemmas.Option.{none-some}
use Rattle.sa_devices.specs.Pages.{opening_pages}
use Rattle.sa_laws.specs.Readings.{first_listed, opening_readings, Readings, running_of}
use Rattle.sa_histories.proofs.Sizes.{IsSized}
use Rattle.sa_core_model.proofs.Runs.{started-at, is-setting, stands-opening}
use Rattle.sa_user_laws.specs.Moments.{StaysRaised}
use Rattle.sa_legal_runs.proofs.frames.Sizes.{sized-event}
use Rattle.sa_legal_runs.proofs.frames.Idle.{idle-event, no-stops, closing-no_stop}
use Rattle.sa_legal_runs.proofs.matching.EventLaws.{some-step, event-lawful, own-steps, ended-step, closing-no_up}
use Rattle.std.specs.List.{range_with_len}
use Rattle.std.proofs.lemmas.List.FromFn.{length-range_with_len}
use Rattle.std.proofs.Math.Path.{fun_ext}
use Rattle.sa_base.specs.declared.number.ProcNo.{ProcNo}
use Rattle.sa_base.specs.declared.number.SpaceNo.{SpaceNo}
use Rattle.sa_base.specs.declared.number.ActNo.{ActNo}
use Rattle.sa_base.specs.declared.record.Record.{Record}
use Rattle.sa_base.specs.Items.{items_at}
use Rattle.sa_spaces.specs.Workload.{WorkloadView, IsWorkload}
use Rattle.sa_lemmas.proofs.ListReads.{all-same}
use Rattle.sa_abstract.specs.Calls.{Contexts}
use Rattle.sa_acts.specs.declared.acts.Act.{Act}
use Rattle.sa_assign.specs.Aims.{Change, space_no}
use Rattle.sa_assign.specs.Reaim.{proc_no, records_of}
use Rattle.sa_laws.specs.Step.{AreSteps}
use Rattle.sa_laws.specs.Event.{Event}
use Rattle.sa_laws.specs.Life.{Life}
use Rattle.sa_laws.specs.State.{opening_space}
use Rattle.sa_laws.specs.Record.{with_life}
use Rattle.sa_laws.specs.History.{Test, after_records, after_event, event_begun, with_step, stepped, is_step}
use Rattle.sa_laws.specs.Opening.{opening_event, opening_records, first_wants}
use Rattle.sa_laws.specs.Closing.{spaces_of, aims_due, want_one}
use Rattle.sa_laws.specs.Upcalls.{FirstLineIsAsked}
use Rattle.sa_laws.specs.Rules.{UserRules}
use Rattle.sa_laws.proofs.Closings.{closing-opening}
use Rattle.sa_laws.proofs.Records.{number-kept}
use Rattle.sa_kernel_model.specs.State.{Scene}
use Rattle.sa_kernel_model.specs.Opening.{opening_state}
use Rattle.sa_kernel_laws.proofs.histories.Histories.{history-opens}
use Rattle.sa_core_model.specs.Machine.{Machine}
use Rattle.sa_core_model.specs.Run.{setting, opening}
use Rattle.sa_core_model.specs.Standing.{context_in, contexts_of, running}
use Rattle.sa_core_model.proofs.Effects.{same-closed}
use Rattle.sa_user_laws.specs.Level.{UserLevel}
use Rattle.sa_legal_runs.proofs.frames.IoNumbers.{rising-event}
use Rattle.sa_legal_runs.proofs.frames.Moments.{closing-alike, alike-stays, same-for, put-again, StaysPut}
use Rattle.sa_legal_runs.proofs.frames.Lives.{AreMatched, matched-ended}
use Rattle.sa_legal_runs.proofs.matching.Spaces.{of-space, fit-same}
use Rattle.sa_legal_runs.proofs.matching.Composed.{IsComposed}

opening-some : (w : WorkloadView) → IsWorkload w → opening_records w ≢ []
opening-some w ok empty =
    let wanting = after_records w 0 (proc_no 0) (opening_readings w) (first_wants w) in
    let size : length (first_wants w) ≡ length w.spaces =
    length-map (spaces_of w) want_one ∙ length-map (range_with_len 0 (length w.spaces)) space_no
    ∙ length-range_with_len 0 (length w.spaces) in
    let all = length-append (first_wants w) (records_of 0 wanting.lines (aims_due w 0 wanting)) in
    let none : length (opening_records w) ≡ 0 = ap (λ (xs : List Record). length xs) empty in
    absurd (omega (arith, size, all, none, ok.some_space))

opening-first : (rules : UserRules) (w : WorkloadView) (r : Readings) (p : ProcNo) (ss : List SpaceNo) (lines : List (Option ℕ))
    (cs : List Change) → FirstLineIsAsked rules.Lines w r p (map want_one ss ++ records_of 0 lines cs)
opening-first rules w r p [] lines [] = tt
opening-first rules w r p _ lines _ = tt

-- Where nobody ran, an event is a step of nobody.
no-runner : (test : Test) (w : WorkloadView) (before : Readings) (e : Event) (after : Readings) (records : List Record)
    (lives : ℕ → Option Life) → running_of before e.proc ≡ None
    → with_step test w before e after records lives ≡ lives
no-runner test w before e after [] lives none = refl
no-runner test w before e after (x ∷ xs) lives none = go (is_step x) refl where
  go : (b : Bool) → is_step x ≡ b → with_step test w before e after (x ∷ xs) lives ≡ lives
  go true is = some-step test w before e after x xs lives is
      ∙ ap (λ (o : Option ActNo). with_life (stepped test w before e after x) o lives) none
  go false is = ap (λ (b : Bool). cond b (with_life (stepped test w before e after x) (running_of before e.proc) lives) lives) is

-- Nothing is read before the opening.
none-read : {A : Type 0} (n i : ℕ) → get_or (replicate {A = Option A} n None) i None ≡ None
none-read (suc n) (suc i) = none-read n i
none-read _ _ = refl

sized-opening : (w : WorkloadView) → IsSized w (opening_readings w)
sized-opening w = record {
  spaces = length-map w.spaces opening_space;
  running = length-replicate w.processors None;
  marks = length-replicate w.processors false;
  lines = length-replicate w.processors None;
  demands = length-replicate (length w.spaces) 0;
  untold = length-replicate (length w.spaces) [];
  taken = length-replicate (length w.spaces) [];
  ready = length-replicate (length w.spaces) (first_listed ∷ []);
  pages = length-map w.spaces opening_pages;
}

module _ {U C : Type 0} (level : UserLevel U C) where
  pub composed-opening : (w : WorkloadView) → IsWorkload w → IsComposed level w [] (opening level.calls w)
  composed-opening w ok =
      let m : Machine U C = opening level.calls w in
      let r = opening_readings w in
      let ev = opening_event w in
      let history = history-opens {C = C} level.rules.inside w ok in
      let holds = history.lawful.0 in
      let last = after_records w 0 (proc_no 0) (event_begun w ev r) (opening_records w) in
      let final = after_event level.rules.inside w r ev in
      let closes = closing-opening w in
      let alike = closing-alike w 0 (proc_no 0) (event_begun w ev r) (opening_records w) closes in
      let lives : final.lives ≡ last.lives =
      ended-step level.rules.inside w r ev last (closing-no_up (opening_records w) closes)
      ∙ no-runner level.rules.inside w r ev last (opening_records w) last.lives (all-same w.processors 0 None) in
      let x : Scene C = record { state = opening_state w; items = items_at 0 (proc_no 0) (kernel.first_wants 0 (length w.spaces)) } in
      let same = same-closed 0 (proc_no 0) x in
      let low : (q : ProcNo) → StaysRaised r (event_begun w ev r) q =
      λ q raised. absurd (let z : IsSome {T = ℕ} None = subst (λ (o : Option ℕ). IsSome o) (none-read w.processors q.0) raised in cc) in
      let put : StaysPut r final = put-again r last final
      (put-again r (event_begun w ev r) last
      (record { spaces = refl; lives = refl; running = refl; taken = refl; untold = refl; ready = refl; lines = low })
      (alike-stays (event_begun w ev r) last alike))
      (record { spaces = refl; lives = lives; running = refl; taken = refl; untold = refl; ready = refl; lines = λ q raised. raised }) in
      let none : ℕ → Option (Act C) = λ a. None in
      record {
        between = stands-opening level.calls level.stands level.keep w ok;
        workload = refl;
        history = history;
        lawful = (
          event-lawful level.rules w r ev holds
              (record { number = refl; proc = ok.some_processor; some = opening-some w ok; opening = λ is. refl })
              (record {
                steps = subst (λ (xs : List Record). AreSteps w 0 (proc_no 0) (event_begun w ev r) xs) refl
                    (own-steps w 0 (proc_no 0) (event_begun w ev r) [] (opening_records w) tt closes);
              })
              (opening-first level.rules w r (proc_no 0) (spaces_of w) _ _)
              (record { turn = λ later. absurd (omega (arith, later)); closing = λ later. absurd (omega (arith, later)) })
              (level.laws.opening w ok),
          tt,
        );
        number = ap (λ (n : ℕ). n + 1) (number-kept w 0 (proc_no 0) (event_begun w ev r) (opening_records w));
        last = refl;
        sized = sized-event level.rules.inside w r ev (sized-opening w);
        calm = holds.want_cause.none;
        ios = rising-event level.rules.inside w r ev (omega arith);
        idle = idle-event level.rules.inside w r ev holds.where_owned
            (λ p q a runs other. absurd (none-some a (sym (none-read w.processors p.0) ∙ runs)))
            (no-stops (opening_records w) (closing-no_stop (opening_records w) closes)) (λ a life is quiet. absurd (none-some life is));
        matched = subst (λ (fs : ℕ → Option (Act C)). AreMatched fs final.lives) (sym same.acts)
            (matched-ended level.rules.inside w r ev last none
            (subst (λ (ls : ℕ → Option Life). AreMatched none ls) (sym alike.lives) (λ a. tt)));
        fit = fit-same level w r final m.users (contexts_of m) ok (λ t. same-for r final put (space_no t))
            (λ s u def at of. subst (λ (v : U). level.fits w (setting w s def) r v (contexts_of m s))
            (sym (started-at level.calls level.stands level.keep w 0 s w.spaces u def at of
            ∙ ap (λ (k : ℕ). level.calls.started (setting w k def)) (omega arith)))
            (subst (λ (cs : Contexts C). level.fits w (setting w s def) r (level.calls.started (setting w s def)) cs)
            (fun_ext (λ a. sym (ap (λ (g : ℕ → Option (Act C)). context_in s (g a) (running m.kernel.lives m.contexts a)) same.acts)))
            (level.laws.starts w (setting w s def) (of-space w s def ok of)
            (is-setting level.calls level.stands level.keep w s def ok of))));
      }
