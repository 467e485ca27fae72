-- A pop: of the ranked list the first thread runs, which is the one of the greatest rank. And with it every step in the code.
use Rattle.std.proofs.Common.{◌≡◌, ℕ, ◌<◌, ◌≤◌, Bool, true, false, List, [], length, Option, Some, slice_get, refl, sym, ap, ◌∙◌, subst, arith}
use Rattle.std.proofs.lemmas.Bool.{lt-ltb}
use Rattle.sa_base.specs.declared.context.Seen.{Seen}
use Rattle.sa_base.specs.declared.limits.TheConstants.{PACKAGE_PAGE}
use Rattle.sa_base.specs.declared.number.ActNo.{ActNo}
use Rattle.sa_base.specs.declared.number.ProcNo.{ProcNo}
use Rattle.sa_base.specs.declared.number.ThreadNo.{ThreadNo}
use Rattle.sa_base.specs.declared.record.Record.{Record}
use Rattle.sa_base.specs.declared.record.Record.TheVariants as records
use Rattle.sa_links.proofs.Counting.{count_at}
use Rattle.sa_links.specs.Lists.{count_in}
use Rattle.sa_spaces.specs.Workload.{WorkloadView}
use Rattle.sa_lists.specs.ReadyView.{ReadyView, list_of, with_list, newest, thread}
use Rattle.sa_code.specs.Micro.{micro, popped, stays, takes_first, chosen, without_chosen, list_in, is_resident as is_page_resident}
use Rattle.sa_code.specs.declared.code.Op.TheVariants as ops
use Rattle.sa_code.specs.declared.state.Frame.{Frame}
use Rattle.sa_code.specs.declared.state.MicroDone.TheVariants as micros
use Rattle.sa_copies.specs.Copies.{package_ops}
use Rattle.sa_fast.proofs.WorkSteps.{one_same}
use Rattle.sa_fast.specs.declared.threads.KeptPlace.TheVariants as kept
use Rattle.sa_abstract.specs.Calls.{Contexts}
use Rattle.sa_abstract.specs.Setting.{Setting}
use Rattle.sa_package_model.proofs.Holding.{own_inside, rest_once}
use Rattle.sa_package_model.proofs.Parts.{count_chosen}
use Rattle.sa_package_model.proofs.Views.{section_locks}
use Rattle.sa_package_model.specs.declared.context.Context.{Context}
use Rattle.sa_package_model.specs.declared.context.ContextState.TheVariants.{Code}
use Rattle.sa_laws.specs.Life.{Life}
use Rattle.sa_laws.specs.Readings.{Readings, ready_of}
use Rattle.sa_user_laws.specs.Scene.{event_begun_at}
use Rattle.sa_user_laws.specs.Steps.{IsLegalStep}
use Rattle.sa_fast_laws.proofs.lists.Pops.{listed_made, run-keeps, run-listed}
use Rattle.sa_fast_laws.proofs.steps.CodeMoves.{k0, known, named, page, pop-fits, pop-resident, with_run, run-move, code-cases}
use Rattle.sa_ranks.specs.Rules.{prio_threads}
use Rattle.sa_prio_model.specs.Prio.{Prio}
use Rattle.sa_prio_model.specs.Stands.{bases}
use Rattle.sa_prio_model.specs.Step.{prio_calls, goes}
use Rattle.sa_prio_model.specs.declared.context.PrioContext.{PrioContext}
use Rattle.sa_prio_laws.proofs.relation.Placed.{placed-programs}
use Rattle.sa_prio_laws.proofs.relation.Popped.{ranked-popped, first-next}
use Rattle.sa_prio_laws.specs.PrioFits.{prio_fits}
use Rattle.sa_prio_laws.specs.Ready.{FitsRanked}
use Rattle.sa_prio_laws.proofs.steps.CodeSteps.{keeps-with, free-legal, back-legal, ready-legal}
use Rattle.sa_prio_laws.proofs.frames.Frames.{base-is}
use Rattle.sa_prio_laws.proofs.steps.Moves.{base-scene, move-legal}
use Rattle.sa_prio_laws.proofs.steps.Scenes.{IsPrioScene}
use Rattle.sa_fast_laws.proofs.relation.InCode.{section-copy}

-- where threads have ranks a pop takes the first
takes-first : (z : ReadyView) (own : Bool) → 0 < length z.ranks → takes_first z own ≡ true
takes-first z true some = refl
takes-first z false some = lt-ltb 0 (length z.ranks) some

module _ (set : Setting) (e : ℕ) (v : Prio) (cs : Contexts PrioContext) (w : WorkloadView) (r : Readings) (p : ProcNo) (a : ActNo) (life : Life)
    (seen : Seen) (f : Frame) (fs : List Frame) (wk : Option ThreadNo)
    (i : IsPrioScene set e v cs w r p a life (record { base = record { state = Code f; sections = fs; work = wk }; urge = false }) seen) where
  abbrev c : Context
  c = record { state = Code f; sections = fs; work = wk }

  abbrev r0 : Readings
  r0 = event_begun_at w seen.event p r

  abbrev z : ReadyView
  z = v.base.shared.state.lists

  pub run-legal : (t : ℕ) → slice_get package_ops f.pc ≡ Some ops.Pop
      → chosen v.base.shared.state.lists (takes_first v.base.shared.state.lists f.own) (list_in f).0 ≡ Some t
      → micro v.base.shared.state f seen.pages ≡ popped v.base.shared.state f true (list_in f) (Some t)
      → IsLegalStep prio_calls prio_threads prio_fits w set r p seen.event a cs (goes v seen (record { state = Code f; sections = fs; work = wk }))
  run-legal t op takes is =
      let scene = base-scene set e v cs w r p a life c seen i in
      let known = known set e v.base (bases cs) w r p a life seen f fs wk scene in
      let named = named set e v.base (bases cs) w r p a life seen f fs wk scene in
      let copy = section-copy f ops.Pop refl op in
      let k = k0 set e v.base (bases cs) w r p a life seen f fs wk scene in
      let own = pop-fits set e v.base (bases cs) w r p a life seen f fs wk scene op in
      let here = page set e v.base (bases cs) w r p a life seen f fs wk scene (pop-resident set e v.base (bases cs) w r p a life seen f fs wk scene t op is) in
      let m = run-move set e v.base (bases cs) w r p a life seen f fs wk scene t op takes is in
      let mine = base-is cs a.0 _ i.on.mine in
      let x : Record = records.Run set.space (thread t) in
      let room = own_inside set e v.base (bases cs) i.stands.base a.0 c mine (list_in f).0 (let all = section_locks c f copy.0 refl copy.1 (list_in f).0 in
      let one = one_same (list_in f).0 (list_in f).0 refl in omega arith) in
      let first : (list_in f).0 ≡ 0 = let one = i.ranked.one in omega arith in
      let ranked : takes_first z f.own ≡ true = takes-first z f.own (
      let one = count_chosen z (takes_first z f.own) (list_in f).0 t t takes in let same = one_same t t refl in let all = count_at t z.lists (list_in f).0 in
      let below = listed_made set e v.base (bases cs) i.stands.base set.space r0 k t (omega arith) in
      let most = i.stands.base.parts.state.ready.made in let many = i.ranked.many in omega arith) in
      let next : newest z 0 ≡ Some t =
      sym (ap (λ b. chosen z b (list_in f).0) ranked ∙ ap (newest z) first) ∙ takes in
      let once : count_in t (list_of z 0) ≤ 1 =
      (let all = count_at t z.lists 0 in let rest = rest_once set e v.base (bases cs) i.stands.base t in omega arith) in
      let now = with_run set e v.base (bases cs) w r p a life seen f fs wk scene t in
      move-legal set e v cs w r p a life c seen i x [] _ _ m (record {
        ruled = record {
          step = refl;
          table = refl;
          keeps =
              keeps-with w r0 p life x
              (run-keeps set e v.base (bases cs) i.stands.base set.space r0 k a f fs wk mine w seen.event p life i.on.runs i.on.is i.on.space
              known named copy.0 copy.1 op own.2 own.1 t takes here) m.back;
          alone = refl;
          free = record { free = λ bound. absurd cc };
          unurged = record { unurged = λ bound. absurd cc };
          next = λ behind. first-next set e v.base (bases cs) i.stands.base set.space r i.holds i.ranked t next;
        };
        ranked = subst (FitsRanked now)
            (sym (run-listed set e v.base (bases cs) i.stands.base set.space r0 k a f fs wk mine w seen.event p life i.on.runs i.on.is i.on.space
            known named copy.0 copy.1 op own.2 own.1 t takes))
            (ranked-popped v.base now (thread t) (ready_of r0 set.space) (let one = i.ranked.one in omega arith)
            (ap (λ l. with_list z l (without_chosen z (takes_first z f.own) l)) first ∙ ap (λ b. with_list z 0 (without_chosen z b 0)) ranked)
            (λ n. placed-programs v.base.shared.threads (Some (thread t)) kept.Running n.0) once next i.ranked);
        settled = λ last state out. absurd cc;
      })

  -- ALL OF THE CODE: ready, run, free and back, and where its page is absent a fault
  pub code-legal :
      (is_page_resident seen.pages PACKAGE_PAGE ≡ false → micro v.base.shared.state f seen.pages ≡ stays v.base.shared.state f micros.Faulted []
      → IsLegalStep prio_calls prio_threads prio_fits w set r p seen.event a cs (goes v seen (record { state = Code f; sections = fs; work = wk })))
      → IsLegalStep prio_calls prio_threads prio_fits w set r p seen.event a cs (goes v seen (record { state = Code f; sections = fs; work = wk }))
  code-legal faults =
      code-cases set e v.base (bases cs) w r p a life seen f fs wk (base-scene set e v cs w r p a life c seen i)
      (IsLegalStep prio_calls prio_threads prio_fits w set r p seen.event a cs (goes v seen (record { state = Code f; sections = fs; work = wk })))
      (record {
        faults = faults;
        readies = ready-legal set e v cs w r p a life seen f fs wk i;
        runs = run-legal;
        frees = free-legal set e v cs w r p a life seen f fs wk i;
        gives_back = back-legal set e v cs w r p a life seen f fs wk i;
      })
