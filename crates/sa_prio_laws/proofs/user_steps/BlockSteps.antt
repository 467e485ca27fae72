-- Steps that end with a block are legal: a fault in the code, the touch of an absent page, and an instruction for an I/O.
-- After a block nobody is on the processor, and the context, which has no mark, stays as it is.
use Rattle.std.proofs.Common.{◌≡◌, ◌≢◌, ℕ, Bool, true, false, not, ◌&&◌, ◌||◌, List, [], ◌∷◌, Option, Some, None, is_none, slice_set, slice_index_or, option_map, refl, sym, ap, ◌∙◌, subst, inl, inr}
use Rattle.std.specs.Prelude.{if◌then◌else◌, ◌++◌}
use Rattle.std.proofs.lemmas.Bool.{cases_eq}
use Rattle.std.proofs.lemmas.List.{get_or-set_same, get_or-set_other}
use Rattle.std.proofs.lemmas.Option.{none-some}
use Rattle.std.specs.List.{list_any}
use Rattle.sa_base.specs.declared.context.Seen.{Seen}
use Rattle.sa_base.specs.declared.limits.TheConstants.{PACKAGE_PAGE}
use Rattle.sa_base.specs.declared.number.ActNo.{ActNo}
use Rattle.sa_base.specs.declared.number.IoNo.{IoNo}
use Rattle.sa_base.specs.declared.number.ProcNo.{ProcNo}
use Rattle.sa_base.specs.declared.number.ThreadNo.{ThreadNo}
use Rattle.sa_base.specs.declared.record.Record.{Record}
use Rattle.sa_base.specs.declared.record.Record.TheVariants as records
use Rattle.sa_lemmas.proofs.FunctionUpdates.{put-self, put-same, put-other}
use Rattle.sa_lemmas.specs.Function.{put}
use Rattle.sa_instr.specs.declared.instr.Instr.TheVariants.{Io, Touch}
use Rattle.sa_spaces.specs.Workload.{WorkloadView}
use Rattle.sa_lemmas.proofs.ListReads.{some-below}
use Rattle.sa_code.specs.Micro.{micro, stays, is_resident as is_page_resident}
use Rattle.sa_code.specs.declared.state.Frame.{Frame}
use Rattle.sa_code.specs.declared.state.MicroDone.TheVariants as micros
use Rattle.sa_fast.specs.Instruction.{run, instr_of, next_of, with_thread}
use Rattle.sa_fast.specs.Threads.{block_at, moved_to}
use Rattle.sa_fast.specs.declared.instruction.Ran.TheVariants as rans
use Rattle.sa_fast.specs.declared.threads.KeptPlace.TheVariants as kept
use Rattle.sa_abstract.specs.Calls.{Contexts}
use Rattle.sa_abstract.specs.Setting.{Setting}
use Rattle.sa_abstract.specs.declared.answer.Step.TheVariants as asked
use Rattle.sa_package_model.specs.Context.{carried_by, stands_inside}
use Rattle.sa_package_model.specs.Rules.{placed_in, with_shared}
use Rattle.sa_package_model.specs.declared.context.ContextState.TheVariants.{Code, User}
use Rattle.sa_package_model.specs.declared.context.Context.{Context}
use Rattle.sa_package_model.specs.declared.package.Package.{Package}
use Rattle.sa_laws.specs.Demand.{IsFree}
use Rattle.sa_laws.specs.Event.{Event}
use Rattle.sa_laws.specs.History.{is_step, with_step, settles, is_running_or_blocked, stepped as ends}
use Rattle.sa_laws.specs.Life.{Life, some_lock, first_lock, held_with}
use Rattle.sa_laws.specs.Readings.{Readings, life_of, running_of, ready_of}
use Rattle.sa_laws.specs.Record.{after_record, with_life, blocking_for}
use Rattle.sa_laws.specs.State.{thread_in, no_threads}
use Rattle.sa_laws.specs.Turns.{CanFault, IsInsOf, is_of_locks}
use Rattle.sa_laws.proofs.Records.{passage-plain, alone-plain}
use Rattle.sa_user_laws.specs.Scene.{event_begun_at}
use Rattle.sa_user_laws.specs.Steps.{IsLegalStep, event_with}
use Rattle.sa_fast_laws.proofs.relation.ThreadsBeside.{life-here}
use Rattle.sa_fast_laws.specs.Stage.{was_idle, place_of}
use Rattle.sa_fast_laws.specs.Life.{IsAtRest}
use Rattle.sa_fast_laws.proofs.lives.LifeEnds.{end-fits}
use Rattle.sa_fast_laws.specs.Rests.{LivesFit, RestBut}
use Rattle.sa_fast_laws.proofs.steps.Scenes.{IsScene}
use Rattle.sa_fast_laws.proofs.user_steps.BlockMoves.{IsBlocked, IsFault, fault-for, fault-needs, fault-blocked}
use Rattle.sa_fast_laws.proofs.user_steps.FaultMoves.{code-fault, code-may_fault, code-locked, touch-fault, touch-may_fault, blocked_so}
use Rattle.sa_fast_laws.proofs.user_steps.IoMoves.{io-length, io-steps, io-needs, io-blocked, step_is}
use Rattle.sa_fast_laws.proofs.user_steps.UserMoves.{instr_is}
use Rattle.sa_ranks.specs.Inside.{is_inside_or_urged, settling}
use Rattle.sa_ranks.specs.Locks.{IsUnurged}
use Rattle.sa_ranks.specs.Pairs.{has_pair}
use Rattle.sa_ranks.specs.Rules.{prio_threads}
use Rattle.sa_prio_model.proofs.Contexts.{bases-put}
use Rattle.sa_prio_model.specs.Prio.{Prio, on_at, with_base, with_on}
use Rattle.sa_prio_model.specs.Stands.{bases}
use Rattle.sa_prio_model.specs.Step.{prio_calls, goes, going}
use Rattle.sa_prio_model.specs.Urge.{marked, came_out}
use Rattle.sa_prio_model.specs.declared.context.PrioContext.{PrioContext}
use Rattle.sa_prio_laws.proofs.relation.Placed.{placed-programs}
use Rattle.sa_prio_laws.proofs.relation.Ranked.{ranked-same}
use Rattle.sa_prio_laws.specs.PrioFits.{PrioFits, prio_fits, prio_view, KeepsOn}
use Rattle.sa_prio_laws.specs.Ready.{FitsRanked}
use Rattle.sa_prio_laws.proofs.steps.CodeSteps.{keeps-with}
use Rattle.sa_prio_laws.proofs.frames.Frames.{base-is}
use Rattle.sa_prio_laws.proofs.user_steps.InsRanks.{with-program}
use Rattle.sa_prio_laws.proofs.steps.Moves.{base-scene}
use Rattle.sa_prio_laws.proofs.steps.Rules.{rules-of}
use Rattle.sa_prio_laws.proofs.steps.Scenes.{IsPrioScene}
use Rattle.sa_prio_laws.proofs.steps.Unbound.{IsUnbound, is-free, is-unurged}

module _ (set : Setting) (e : ℕ) (v : Prio) (cs : Contexts PrioContext) (w : WorkloadView) (r : Readings) (p : ProcNo) (a : ActNo) (life : Life)
    (c : Context) (seen : Seen)
    (i : IsPrioScene set e v cs w r p a life (record { base = c; urge = false }) seen) where
  abbrev old : PrioContext
  old = record { base = c; urge = false }

  abbrev r0 : Readings
  r0 = event_begun_at w seen.event p r

  abbrev scene : IsScene set e v.base (bases cs) w r p a life c seen
  scene = base-scene set e v cs w r p a life c seen i

  -- nobody is on its processor
  abbrev pub left : Package → Prio
  left u = with_on (with_base v u) seen.proc None

  mine : bases cs a.0 ≡ Some c
  mine = base-is cs a.0 old i.on.mine

  bases-es : bases (put cs a.0 (Some old)) ≡ bases cs
  bases-es = bases-put cs a.0 (Some old) ∙ ap (put (bases cs) a.0) (sym mine) ∙ put-self (bases cs) a.0

  keeps : (u : Package) (here : Readings) → here.running ≡ slice_set r.running p.0 None → KeepsOn here (left u) (put cs a.0 (Some old))
  keeps u here running y b d at its = elim (cases_eq y.0 p.0) [
    | inl same ↦ absurd (none-some b (sym (gone same) ∙ at))
    | inr ne ↦
        let was : running_of r y ≡ Some b = sym (get_or-set_other r.running p.0 y.0 None None ne) ∙ sym (ap (λ ps. slice_index_or ps y.0 None) running) ∙ at in
        let apart : b.0 ≢ a.0 = λ one. ne (ap (λ (z : ProcNo). z.0) (i.moment.apart y p a (was ∙ ap (λ n. Some (record { 0 = n })) one) i.on.runs)) in
        ap (λ (z : ProcNo). on_at (with_on v z None) y.0) i.sees.proc ∙ get_or-set_other v.on p.0 y.0 None None ne
        ∙ i.kept y b d was (sym (put-other cs a.0 b.0 (Some old) apart) ∙ its)
  ] where
    gone : y.0 ≡ p.0 → running_of here y ≡ None
    gone same = ap (λ ps. slice_index_or ps y.0 None) running ∙ ap (λ n. slice_index_or (slice_set r.running p.0 None) n None) same
        ∙ get_or-set_same r.running p.0 None None (some-below r.running p.0 a i.on.runs)

  -- AFTER A BLOCK all fits, whatever the kernel writes after it
  pub blocked-fits : (u : Package) (here : Readings) (x : Record) (xs : List Record) (ev : Event) (last : Readings) → ev.proc ≡ p → ev.records ≡ x ∷ xs
      → is_step x ≡ true
      → settles r last x ≡ false → here.running ≡ slice_set r.running p.0 None
      → IsBlocked set (bases cs) w r a life c u here x → FitsRanked u (ready_of here set.space) → last.state.spaces ≡ here.state.spaces
      → PrioFits set.space (record here { lives = with_step is_inside_or_urged w r ev last ev.records here.lives }) (left u) (put cs a.0 (Some old))
  blocked-fits u here x xs ev last proc records step stays running b ranked spaces =
      let now : Life = held_with (carried_by c.state) life in
      let there : life_of here a ≡ Some now = ap (λ (f : ℕ → Option Life). f a.0) b.lives ∙ put-same r.lives a.0 (Some now) in
      let after : Life = ends is_inside_or_urged w r ev last x now in
      let mark = b.marks ev last spaces in
      let pair = has_pair w (settling w r ev last) now.space in
      let others : RestBut prio_view set.space here a (put cs a.0 (Some old)) = (λ y d l ne at is.
      subst (λ g. IsAtRest g (prio_view d) l) (sym (b.others y l ne))
      (i.others y d l ne (sym (put-other cs a.0 y.0 (Some old) ne) ∙ at)
      (sym (ap (λ (f : ℕ → Option Life). f y.0) b.lives ∙ put-other r.lives a.0 y.0 (Some now) ne) ∙ is))) in
      let fits = end-fits set.space here u (bases cs) b.holds a c mine now there after.freed after.inside after.scans here.number here.last here.moved
      prio_view (put cs a.0 (Some old)) old (put-same cs a.0 (Some old)) others
      (record {
        marks = record {
          inside = ap (λ z. z || (settles r last x && pair)) mark.inside ∙ ap (λ z. stands_inside c.state || (z && pair)) stays;
          back = mark.back;
          scans = mark.scans;
          left = mark.left;
          lone = mark.lone;
        };
        idle = λ no. ap (λ g. was_idle g after) b.stage ∙ sym b.busy ∙ ap (λ z. not z && is_none (carried_by c.state)) (or-none (stands_inside c.state));
      }) in
      let lives : with_step is_inside_or_urged w r ev last ev.records here.lives ≡ put here.lives a.0 (Some after) =
      ap (λ zs. with_step is_inside_or_urged w r ev last zs here.lives) records
      ∙ ap (λ z. if z then with_life (ends is_inside_or_urged w r ev last x) (running_of r ev.proc) here.lives else here.lives) step
      ∙ ap (λ o. with_life (ends is_inside_or_urged w r ev last x) (running_of r o) here.lives) proc
      ∙ ap (λ o. with_life (ends is_inside_or_urged w r ev last x) o here.lives) i.on.runs
      ∙ ap (λ o. put here.lives a.0 (option_map (ends is_inside_or_urged w r ev last x) o)) there in
      record {
        lives = subst (λ ls. LivesFit prio_view set.space (record here { lives = ls }) u (bases (put cs a.0 (Some old))) (put cs a.0 (Some old))) (sym lives)
            (subst (λ bs. LivesFit prio_view set.space (record here { lives = put here.lives a.0 (Some after) }) u bs (put cs a.0 (Some old)))
            (sym bases-es) fits);
        ranked = ranked;
        on = λ y z d at its. keeps u here running y z d at its;
      } where
        or-none : (z : Bool) → z ≡ (z || false)
        or-none true = refl
        or-none false = refl

  -- what the rules ask of a fault, and that the context did not come out by it
  pub record MayFault : Type 0 where
    pub fault : CanFault (event_begun_at w seen.event p r) life (first_lock life)
    pub free : (io : IoNo) → IsFree w r life (records.Block set.space (carried_by c.state) a io)
    pub unurged : (io : IoNo) → IsUnurged w r life (records.Block set.space (carried_by c.state) a io)
    pub stays : came_out c.state c.state ≡ false

  module _ {page : ℕ} (z : IsFault set e v.base (bases cs) w r p a life c seen (base-scene set e v cs w r p a life c seen i) page) (t : MayFault) where
    pub fault-legal : IsLegalStep prio_calls prio_threads prio_fits w set r p seen.event a cs (goes v seen c)
    fault-legal =
        let u = placed_in v.base (carried_by c.state) kept.Blocked in
        subst (IsLegalStep prio_calls prio_threads prio_fits w set r p seen.event a cs) (sym (ap (going v seen c.state) z.step))
        (subst (λ b. IsLegalStep prio_calls prio_threads prio_fits w set r p seen.event a cs
        (record { user = left u; ctx = marked (left u) seen b c; says = []; answer = asked.Block v.base.fetch (Some page) }))
        (sym t.stays) (record {
          steps = tt;
          answer = record {
            begins = λ io. refl;
            for = fault-for set e v.base (bases cs) w r p a life c seen scene z;
            needs = fault-needs set e v.base (bases cs) w r p a life c seen scene z;
            rules_hold = λ io passage closing passes closed.
                let x = records.Block set.space (carried_by c.state) a io in
                rules-of w r (event_with seen.event p (x ∷ passage) closing) a life x passage (passage ++ closing) i.on.runs i.on.is refl closed.is_own
                (record {
                  step = refl;
                  table = (passes, t.fault);
                  keeps = keeps-with w r0 p life x tt (sym (i.own.back ∙ z.yields));
                  alone = alone-plain (list_any is_of_locks passage) passage (passage-plain passage passes);
                  free = t.free io;
                  unurged = t.unurged io;
                  next = λ behind. tt;
                });
            after = λ io behind last spaces.
                let x = records.Block set.space (carried_by c.state) a io in
                blocked-fits u (after_record w seen.event p r0 x) x behind (event_with seen.event p (x ∷ []) behind) last refl refl refl refl refl
                (fault-blocked set e v.base (bases cs) w r p a life c seen scene z io)
                (ranked-same v.base u refl (λ n made. placed-programs v.base.shared.threads (carried_by c.state) kept.Blocked n.0)
                (ready_of r set.space) i.ranked) spaces;
          };
        }))

module _ (set : Setting) (e : ℕ) (v : Prio) (cs : Contexts PrioContext) (w : WorkloadView) (r : Readings) (p : ProcNo) (a : ActNo) (life : Life)
    (seen : Seen) where
  -- A FAULT IN THE CODE, where the life has a lock
  pub code-faults : (f : Frame) (fs : List Frame) (wk : Option ThreadNo)
      → IsPrioScene set e v cs w r p a life (record { base = record { state = Code f; sections = fs; work = wk }; urge = false }) seen
      → is_page_resident seen.pages PACKAGE_PAGE ≡ false → micro v.base.shared.state f seen.pages ≡ stays v.base.shared.state f micros.Faulted []
      → IsLegalStep prio_calls prio_threads prio_fits w set r p seen.event a cs (goes v seen (record { state = Code f; sections = fs; work = wk }))
  code-faults f fs wk i absent is =
      let c : Context = record { state = Code f; sections = fs; work = wk } in
      let scene = base-scene set e v cs w r p a life c seen i in
      let locked : not (some_lock life.locks) ≡ false = ap not (code-locked set e v.base (bases cs) w r p a life seen f fs wk scene absent is) in
      fault-legal set e v cs w r p a life c seen i (code-fault set e v.base (bases cs) w r p a life seen f fs wk scene absent is) (record {
        fault = code-may_fault set e v.base (bases cs) w r p a life seen f fs wk scene absent is;
        free = λ io. record { free = λ bound. absurd (let no_such = sym locked ∙ bound in cc) };
        unurged = λ io. record { unurged = λ bound. absurd (let no_such = sym locked ∙ bound in cc) };
        stays = refl;
      })

  module _ (t : ThreadNo) (i : IsPrioScene set e v cs w r p a life (record { base = record { state = User t; sections = []; work = None }; urge = false }) seen)
      (out : IsUnbound w r life) where
    abbrev d : Context
    d = record { state = User t; sections = []; work = None }

    abbrev user_scene : IsScene set e v.base (bases cs) w r p a life d seen
    user_scene = base-scene set e v cs w r p a life d seen i

    abbrev Legal : Type 0
    Legal = IsLegalStep prio_calls prio_threads prio_fits w set r p seen.event a cs (goes v seen (record { state = User t; sections = []; work = None }))

    -- AT A TOUCH
    touch-faults : (page : ℕ) → instr_of v.base.def (block_at v.base.shared.threads t.0) ≡ Touch page → is_page_resident seen.pages page ≡ false → Legal
    touch-faults page is absent =
        fault-legal set e v cs w r p a life d seen i (touch-fault set e v.base (bases cs) w r p a life seen t user_scene page is absent) (record {
          fault = touch-may_fault set e v.base (bases cs) w r p a life seen t user_scene;
          free = λ io. is-free w r life _ out;
          unurged = λ io. is-unurged w r life _ out;
          stays = refl;
        })

    -- AN I/O: the instruction, and after it its block
    module _ (m : ℕ) (is : instr_of v.base.def (block_at v.base.shared.threads t.0) ≡ Io m) where
      abbrev x : Record
      x = records.Ins set.space t (block_at v.base.shared.threads t.0).pc

      abbrev start : Readings
      start = event_begun_at w seen.event p r

      abbrev q : Readings
      q = after_record w seen.event p (event_begun_at w seen.event p r) (records.Ins set.space t (block_at v.base.shared.threads t.0).pc)

      abbrev u : Package
      u = with_shared v.base (with_thread v.base.shared t (moved_to (next_of (block_at v.base.shared.threads t.0)) kept.Blocked))

      -- its thread is blocked after it, so it does not settle
      io-stays : (io : IoNo) (last : Readings) → last.state.spaces ≡ (after_record w seen.event p q (records.Block set.space (Some t) a io)).state.spaces
          → settles r last x ≡ false
      io-stays io last spaces =
          let here = after_record w seen.event p q (records.Block set.space (Some t) a io) in
          let b = io-blocked set e v.base (bases cs) w r p a life seen t user_scene m is io in
          let now : Life = held_with (Some t) life in
          let there : life_of here a ≡ Some now = ap (λ (f : ℕ → Option Life). f a.0) b.lives ∙ put-same r.lives a.0 (Some now) in
          let its = life-here set.space here u (bases cs) b.holds a d now (base-is cs a.0 (record { base = d; urge = false }) i.on.mine) there in
          ap (λ ys. not (is_running_or_blocked (thread_in (slice_index_or ys set.space.0 no_threads) t).place)) spaces
          ∙ ap (λ y. not (is_running_or_blocked y)) (its.place t refl ∙ ap (λ g. place_of g now.proc) b.stage)

      pub io-legal : IsLegalStep prio_calls prio_threads prio_fits w set r p seen.event a cs
          (goes v seen (record { state = User t; sections = []; work = None }))
      io-legal = subst (IsLegalStep prio_calls prio_threads prio_fits w set r p seen.event a cs)
          (sym (ap (going v seen (User t)) (step_is set e v.base (bases cs) w r p a life seen t user_scene m is))) (record {
            steps = io-steps set e v.base (bases cs) w r p a life seen t user_scene m is;
            answer = record {
              begins = λ io. refl;
              for = ap (blocking_for w q set.space (Some t) a) (io-length set e v.base (bases cs) w r p a life seen t user_scene m is);
              needs = io-needs set e v.base (bases cs) w r p a life seen t user_scene m is;
              rules_hold = λ io passage closing passes closed.
                  let xs = records.Block set.space (Some t) a io ∷ passage in
                  rules-of w r (event_with seen.event p (x ∷ xs) closing) a life x xs (xs ++ closing) i.on.runs i.on.is refl closed.is_own (record {
                    step = refl;
                    table = subst (λ k. IsInsOf k xs) (sym (instr_is set e v.base (bases cs) w r p a life seen t user_scene ∙ is)) passes;
                    keeps = keeps-with w start p life x tt (sym i.own.back);
                    alone = alone-plain (list_any is_of_locks passage) xs (passage-plain passage passes);
                    free = is-free w r life x out;
                    unurged = is-unurged w r life x out;
                    next = λ behind. tt;
                  });
              after = λ io behind last spaces.
                  let block = records.Block set.space (Some t) a io in
                  blocked-fits set e v cs w r p a life d seen i u (after_record w seen.event p q block) x (block ∷ behind)
                  (event_with seen.event p (x ∷ block ∷ []) behind) last refl refl refl
                  (io-stays io last spaces) refl (io-blocked set e v.base (bases cs) w r p a life seen t user_scene m is io)
                  (ranked-same v.base u refl
                  (λ n made. with-program v.base.shared.threads t.0 (moved_to (next_of (block_at v.base.shared.threads t.0)) kept.Blocked) n.0 refl)
                  (ready_of r set.space) i.ranked) spaces;
            };
          })

    -- ALL THAT BLOCKS
    pub blocks-legal : (length : ℕ) (page : Option ℕ) → (run v.base.def v.base.fetch seen.pages v.base.shared None t).answer ≡ rans.Blocks length page
        → IsLegalStep prio_calls prio_threads prio_fits w set r p seen.event a cs (goes v seen (record { state = User t; sections = []; work = None }))
    blocks-legal len page at = elim (blocked_so set e v.base (bases cs) w r p a life seen t user_scene
        (instr_of v.base.def (block_at v.base.shared.threads t.0)) len page at) [
          | inl touch ↦ touch-faults touch.0 touch.1.0 touch.1.1
          | inr io ↦ io-legal io.0 io.1
        ]
