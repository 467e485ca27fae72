-- The moves of a context in the code of the package: ready, run, free and back, each a whole event.
use Rattle.std.proofs.Common.{◌≡◌, ℕ, ◌+◌, Bool, true, false, ◌||◌, ◌&&◌, List, [], ◌∷◌, map, Option, Some, None, is_some, is_none, slice_get, nat_le, refl, sym, ap, ◌∙◌, subst, arith}
use Rattle.std.specs.Prelude.{nat_lt, min, length, ◌<◌}
use Rattle.std.proofs.lemmas.Bool.{and_right}
use Rattle.sa_base.specs.declared.context.Seen.{Seen}
use Rattle.sa_base.specs.declared.limits.TheConstants.{PACKAGE_PAGE}
use Rattle.sa_base.specs.declared.number.ActNo.{ActNo}
use Rattle.sa_base.specs.declared.number.ProcNo.{ProcNo}
use Rattle.sa_base.specs.declared.number.SpaceNo.{SpaceNo}
use Rattle.sa_base.specs.declared.number.ThreadNo.{ThreadNo}
use Rattle.sa_base.specs.declared.record.Record.{Record}
use Rattle.sa_base.specs.declared.record.Record.TheVariants as records
use Rattle.sa_lemmas.specs.Function.{put}
use Rattle.sa_instr.specs.declared.limits.TheConstants.{MAX_PATIENCE}
use Rattle.sa_spaces.specs.Workload.{WorkloadView}
use Rattle.sa_lists.specs.ReadyView.{thread}
use Rattle.sa_code.proofs.Cases.{micro-outcome}
use Rattle.sa_code.specs.Micro.{Micro, micro, micro_at, stays, pushed, popped, freed, takes_first, chosen, list_in, is_resident as is_page_resident}
use Rattle.sa_code.specs.declared.code.Op.{Op}
use Rattle.sa_code.specs.declared.code.Op.TheVariants as ops
use Rattle.sa_code.specs.declared.state.Frame.{Frame}
use Rattle.sa_code.specs.declared.state.MicroDone.TheVariants as micros
use Rattle.sa_code.specs.declared.state.PackageState.{PackageState}
use Rattle.sa_copies.proofs.Places.{next-push, next-pop}
use Rattle.sa_copies.specs.Copies.{package_ops, copy_at}
use Rattle.sa_copies.specs.Runs.{is_section_op}
use Rattle.sa_fast.specs.declared.threads.KeptPlace.TheVariants as kept
use Rattle.sa_abstract.specs.Calls.{Contexts}
use Rattle.sa_abstract.specs.Setting.{Setting}
use Rattle.sa_package_model.proofs.Able.{step_can}
use Rattle.sa_package_model.proofs.Views.{settled_between, yields_between, section_fits, has_copy}
use Rattle.sa_package_model.specs.Context.{at_copy, has_some, settled_to, has_bulk}
use Rattle.sa_package_model.specs.Rules.{placed, pair, did, coded_by, with_shared, with_package, context_after, owed, settled, put_last}
use Rattle.sa_package_model.specs.Stands.{FitsOperation as FitsOp, StandsAt}
use Rattle.sa_package_model.specs.Step.{stepped}
use Rattle.sa_package_model.specs.declared.context.Context.{Context}
use Rattle.sa_package_model.specs.declared.context.ContextState.TheVariants.{Code}
use Rattle.sa_package_model.specs.declared.package.Package.{Package}
use Rattle.sa_laws.specs.Event.{Event}
use Rattle.sa_laws.specs.History.{is_inside, is_free, stepped as ends}
use Rattle.sa_laws.specs.Life.{Life, some_lock}
use Rattle.sa_laws.specs.Locks.{back_is_due}
use Rattle.sa_laws.specs.Readings.{Readings, has_hand, demand_of, usable, many_taken, is_resident, carried_by as runs_by}
use Rattle.sa_laws.specs.State.{runner_on, runner_of}
use Rattle.sa_user_laws.specs.Scene.{event_begun_at}
use Rattle.sa_fast_laws.proofs.relation.EventEnds.{begun-holds}
use Rattle.sa_fast_laws.proofs.relation.InCode.{push_at, pop_at, free_at, section-copy}
use Rattle.sa_fast_laws.proofs.relation.InsideMarks.{settled-copy}
use Rattle.sa_fast_laws.proofs.relation.SettledMarks.{settled-marked}
use Rattle.sa_fast_laws.proofs.relation.ThreadsBeside.{life-here}
use Rattle.sa_fast_laws.specs.FastFits.{Holds}
use Rattle.sa_fast_laws.specs.Life.{lock_of, locks_from, IsMarked}
use Rattle.sa_fast_laws.specs.Stage.{is_gone}
use Rattle.sa_fast_laws.specs.View.{view, is_yield_op, is_lone}
use Rattle.sa_fast_laws.proofs.lists.Backs.{back-held}
use Rattle.sa_fast_laws.proofs.lists.Frees.{free-held}
use Rattle.sa_fast_laws.proofs.lists.Pops.{run-held, run-needs}
use Rattle.sa_fast_laws.proofs.lists.Pushes.{ready-held, ready-needs}
use Rattle.sa_fast_laws.proofs.steps.Events.{inside-locked}
use Rattle.sa_fast_laws.proofs.steps.Moves.{IsBehind, IsMove}
use Rattle.sa_fast_laws.proofs.steps.Scenes.{IsScene, IsOwnMarked}
use Rattle.sa_fast_laws.proofs.steps.Scenes as scene

-- a life in a copy is in
pub inside-copy : (w : WorkloadView) (before : Readings) (ev : Event) (last : Readings) (settled : Bool) (life : Life) → life.cont ≡ true
    → is_inside w before ev last settled life ≡ true
inside-copy w before ev last settled life cont =
    ap (λ b. some_lock life.locks || b || has_hand last life || (settled && nat_lt (demand_of last life.space) (usable w last life.space))
    || (settled && is_none (runs_by last life) && many_taken last life.space)) cont ∙ by (some_lock life.locks) where
      by : (b : Bool) → (b || true || has_hand last life || (settled && nat_lt (demand_of last life.space) (usable w last life.space))
          || (settled && is_none (runs_by last life) && many_taken last life.space)) ≡ true
      by true = refl
      by false = refl

-- in its section a context stays alone, and it has nothing to continue where it is in no copy
lone_next : (f g : Frame) (fs : List Frame) → nat_le 8 g.pc ≡ nat_le 8 f.pc → is_lone (Code f) fs ≡ true → is_lone (Code g) fs ≡ true
lone_next f g [] same lone = refl
lone_next f g (x ∷ fs) same lone = same ∙ lone

lone_bare : (f : Frame) (fs : List Frame) → nat_le 8 f.pc ≡ false → is_lone (Code f) fs ≡ true → has_some fs ≡ false
lone_bare f [] none lone = refl
lone_bare f (x ∷ fs) none lone = absurd (let no = sym lone ∙ none in cc)

pushed_resident : (s : PackageState) (f : Frame) (l : ProcNo) (t : Option ThreadNo) (b : Bool) → (pushed s f b l t).done ≡ micros.Did → b ≡ true
pushed_resident s f l t true e = refl
pushed_resident s f l t false e = absurd cc

popped_resident : (s : PackageState) (f : Frame) (l : ProcNo) (t : Option ℕ) (b : Bool) → (popped s f b l t).done ≡ micros.Did → b ≡ true
popped_resident s f l t true e = refl
popped_resident s f l t false e = absurd cc

module _ (set : Setting) (e : ℕ) (u : Package) (cs : Contexts Context) (w : WorkloadView) (r : Readings) (p : ProcNo) (a : ActNo) (life : Life)
    (seen : Seen)
    (f : Frame) (fs : List Frame) (wk : Option ThreadNo)
    (i : IsScene set e u cs w r p a life (record { state = Code f; sections = fs; work = wk }) seen) where
  abbrev c : Context
  c = record { state = Code f; sections = fs; work = wk }

  abbrev s : SpaceNo
  s = set.space

  abbrev r0 : Readings
  r0 = event_begun_at w seen.event p r

  abbrev n : ℕ
  n = seen.event

  abbrev Move : Record → Package → Context → Type 0
  Move x v new = IsMove set u cs w r p a life (record { state = Code f; sections = fs; work = wk }) seen x [] v new

  pub k0 : Holds set.space (event_begun_at w seen.event p r) u cs
  k0 = begun-holds set.space r u cs w (record { number = seen.event; proc = p; records = [] }) i.holds

  mark : IsOwnMarked c life
  mark = i.own

  pub known : set.space.0 < length r.state.spaces
  known = scene.known set e u cs w r p a life c seen i

  pub named : set.space.0 < length r.ready
  named = scene.named set e u cs w r p a life c seen i

  pub space : u.shared.state.space ≡ set.space
  space = scene.space set e u cs w r p a life c seen i

  pub runner : runner_on r.state p ≡ runner_of set.space f.thread
  runner = scene.runner set e u cs w r p a life c seen i

  pub processors : u.processors ≡ w.processors
  processors = scene.processors set e u cs w r p a life c seen i

  pub op_is : slice_get u.shared.state.code f.pc ≡ slice_get package_ops f.pc
  op_is = ap (λ ops. slice_get ops f.pc) i.stands.code

  pub stands : StandsAt f (slice_get package_ops f.pc)
  stands = (i.stands.contexts a.0 c i.on.mine).state

  pub fits : (k : ℕ) → copy_at f.pc ≡ Some k → FitsOp u.shared.state.lists f (slice_get package_ops f.pc)
  fits k copy = section_fits c f k refl copy u.shared.state.lists (i.stands.contexts a.0 c i.on.mine)

  not_yield : (op : Op) → slice_get package_ops f.pc ≡ Some op → is_yield_op (Some op) ≡ false → false ≡ back_is_due life
  not_yield op is none = sym (mark.back ∙ ap is_yield_op is ∙ none)

  pub page : is_page_resident seen.pages PACKAGE_PAGE ≡ true → is_resident (event_begun_at w seen.event p r) set.space PACKAGE_PAGE ≡ true
  page there = ap (λ m. is_page_resident m PACKAGE_PAGE) (sym i.sees.pages) ∙ there

  -- the marks of a context in a section
  in-section : (x : Record) (g : Frame) (now : Life) (v : Package) (q : Readings) (ev : Event) (last : Readings) (k : ℕ) → copy_at g.pc ≡ Some k
      → is_free x ≡ false → nat_le 8 g.pc ≡ nat_le 8 f.pc
      → slice_get package_ops g.pc ≡ Some ops.Free → (ends is_inside w r ev last x now).scans ≡ 0
      → IsBehind set seen.event v (put cs a.0 (Some (record { state = Code g; sections = fs; work = wk }))) a
      (record { state = Code g; sections = fs; work = wk }) now seen q last
      → IsMarked (view (record { state = Code g; sections = fs; work = wk })) (ends is_inside w r ev last x now)
  in-section x g now v q ev last k copy no_free same op scans b =
      let new : Context = record { state = Code g; sections = fs; work = wk } in
      let l = life-here set.space last v (put cs a.0 (Some new)) b.holds a new now b.mine b.there in
      record {
        inside =
            inside-locked w r ev last _ now (lock_of (nat_le 8 g.pc) (record g { pc = k })) (map (lock_of true) fs)
            (l.locks ∙ ap (λ o. locks_from (nat_le 8 g.pc) (at_copy g o) fs) copy);
        back = ap (λ b. now.cont && b) no_free ∙ and_right now.cont false refl ∙ sym (ap is_yield_op op);
        scans = ap (λ m. min m MAX_PATIENCE) scans;
        left = refl;
        lone = lone_next f g fs same mark.lone;
      }

  -- and at its copy's end
  at-end : (l : ProcNo) (t : Option ThreadNo) (g : Frame) (now : Life) (v : Package) (q : Readings) (ev : Event) (last : Readings)
      → nat_le 8 g.pc ≡ true → nat_le 8 g.pc ≡ nat_le 8 f.pc
      → slice_get package_ops g.pc ≡ Some ops.Yield
      → IsBehind set seen.event v (put cs a.0 (Some (record { state = Code g; sections = fs; work = wk }))) a
      (record { state = Code g; sections = fs; work = wk }) now seen q last
      → IsMarked (view (record { state = Code g; sections = fs; work = wk })) (ends is_inside w r ev last (records.Free set.space l t) now)
  at-end l t g now v q ev last inside same op b =
      let new : Context = record { state = Code g; sections = fs; work = wk } in
      let has = life-here set.space last v (put cs a.0 (Some new)) b.holds a new now b.mine b.there in
      record {
        inside = inside-copy w r ev last true now (has.cont ∙ inside);
        back = ap (λ b. b && true) (has.cont ∙ inside) ∙ sym (ap is_yield_op op);
        scans = refl;
        left = refl;
        lone = lone_next f g fs same mark.lone;
      }

  -- A PUSH
  abbrev pub with_ready : ThreadNo → Package
  with_ready t = with_shared u (placed (record u.shared { state = (pushed u.shared.state f true (list_in f) (Some t)).state }) (Some t) kept.Ready)

  abbrev pub behind_ready : Context
  behind_ready = record { state = Code (record f { pc = f.pc + 1; pushed = None }); sections = fs; work = wk }

  pub push-resident : (t : ThreadNo) → slice_get package_ops f.pc ≡ Some ops.Push
      → micro u.shared.state f seen.pages ≡ pushed u.shared.state f true (list_in f) (Some t) → is_page_resident seen.pages PACKAGE_PAGE ≡ true
  push-resident t op is =
      pushed_resident u.shared.state f (list_in f) f.pushed (is_page_resident seen.pages PACKAGE_PAGE)
      (ap (λ o. (micro_at u.shared.state f (is_page_resident seen.pages PACKAGE_PAGE) (list_in f) o).done) (sym (op_is ∙ op)) ∙ ap (λ (y : Micro). y.done) is)

  pub ready-move : (t : ThreadNo) → slice_get package_ops f.pc ≡ Some ops.Push → f.pushed ≡ Some t
      → micro u.shared.state f seen.pages ≡ pushed u.shared.state f true (list_in f) (Some t) → Move (records.Ready set.space t) (with_ready t) behind_ready
  ready-move t op pushes is =
      let copy = section-copy f ops.Push refl op in
      let g : Frame = record f { pc = f.pc + 1; pushed = None } in
      let m = pushed u.shared.state f true (list_in f) (Some t) in
      let x : Record = records.Ready set.space t in
      let next : slice_get u.shared.state.code (f.pc + 1) ≡ Some ops.Free = ap (λ ops. slice_get ops (f.pc + 1)) i.stands.code ∙ next-push f.pc op in
      let v : Package = with_ready t in
      let new : Context = behind_ready in
      record {
        step =
            ap (λ (y : Micro). coded_by u seen c f (slice_get u.shared.state.code f.pc) y y.done) is
            ∙ ap (λ o. coded_by u seen c f o m micros.Did) (op_is ∙ op)
            ∙ ap
            (λ o. let z = with_shared u (placed (record u.shared { state = m.state }) o kept.Ready) in
            did (pair z (context_after z seen c g (slice_get u.shared.state.code (f.pc + 1)))) (records.Ready u.shared.state.space t ∷ [])) pushes
            ∙ ap (λ o. did (pair v (context_after v seen c g o)) (records.Ready u.shared.state.space t ∷ [])) next
            ∙ ap (λ o. did (pair v new) (records.Ready o t ∷ [])) space;
        first = refl;
        no_up = refl;
        needs = (
          ready-needs set e u cs i.stands set.space r0 k0 a f fs wk i.on.mine w n p life i.on.runs i.on.is known named copy.0 copy.1 op t pushes i.on.owner,
          tt,
        );
        back = not_yield ops.Push op refl;
        held = ready-held set e u cs i.stands set.space r0 k0 a f fs wk i.on.mine w n p life i.on.runs i.on.is known named copy.0 copy.1 op t pushes;
        demands = refl;
        taken = refl;
        marks = λ ev last b.
            let copied = has_copy (f.pc + 1) (ap is_section_op (next-push f.pc op)) in
            in-section x g _ v _ ev last copied.0 copied.1 refl (push_at (λ i j. nat_le 8 (i + 1) ≡ nat_le 8 i) refl refl f.pc copy.0 copy.1 op)
            (next-push f.pc op) refl b;
      }

  -- A POP
  abbrev pub with_run : ℕ → Package
  with_run t = with_shared u (placed (record u.shared { state = (popped u.shared.state f true (list_in f) (Some t)).state }) (Some (thread t)) kept.Running)

  abbrev pub behind_run : ℕ → Context
  behind_run t = record { state = Code (record f { pc = f.pc + 1; thread = Some (thread t) }); sections = fs; work = wk }

  pub pop-resident : (t : ℕ) → slice_get package_ops f.pc ≡ Some ops.Pop
      → micro u.shared.state f seen.pages ≡ popped u.shared.state f true (list_in f) (Some t) → is_page_resident seen.pages PACKAGE_PAGE ≡ true
  pop-resident t op is =
      popped_resident u.shared.state f (list_in f) (chosen u.shared.state.lists (takes_first u.shared.state.lists f.own) (list_in f).0)
      (is_page_resident seen.pages PACKAGE_PAGE)
      (ap (λ o. (micro_at u.shared.state f (is_page_resident seen.pages PACKAGE_PAGE) (list_in f) o).done) (sym (op_is ∙ op)) ∙ ap (λ (y : Micro). y.done) is)

  -- before a pop the context carries no thread, and pushes none
  pub pop-fits : slice_get package_ops f.pc ≡ Some ops.Pop → FitsOp u.shared.state.lists f (Some ops.Pop)
  pop-fits op = let copy = section-copy f ops.Pop refl op in subst (FitsOp u.shared.state.lists f) op (fits copy.0 copy.1)

  pub run-move : (t : ℕ) → slice_get package_ops f.pc ≡ Some ops.Pop
      → chosen u.shared.state.lists (takes_first u.shared.state.lists f.own) (list_in f).0 ≡ Some t
      → micro u.shared.state f seen.pages ≡ popped u.shared.state f true (list_in f) (Some t)
      → Move (records.Run set.space (thread t)) (with_run t) (behind_run t)
  run-move t op takes is =
      let copy = section-copy f ops.Pop refl op in
      let own = pop-fits op in
      let g : Frame = record f { pc = f.pc + 1; thread = Some (thread t) } in
      let m = popped u.shared.state f true (list_in f) (Some t) in
      let x : Record = records.Run set.space (thread t) in
      let next : slice_get u.shared.state.code (f.pc + 1) ≡ Some ops.Free = ap (λ ops. slice_get ops (f.pc + 1)) i.stands.code ∙ next-pop f.pc op in
      let v : Package = with_run t in
      let new : Context = behind_run t in
      let nobody : runner_on r.state p ≡ None = runner ∙ ap (runner_of set.space) own.2 in
      record {
        step =
            ap (λ (y : Micro). coded_by u seen c f (slice_get u.shared.state.code f.pc) y y.done) is
            ∙ ap (λ o. coded_by u seen c f o m micros.Did) (op_is ∙ op)
            ∙ ap (λ o. did (pair v (context_after v seen c g o)) (records.Run u.shared.state.space (thread t) ∷ [])) next
            ∙ ap (λ o. did (pair v new) (records.Run o (thread t) ∷ [])) space;
        first = refl;
        no_up = refl;
        needs = (
          run-needs set e u cs i.stands set.space r0 k0 a f fs wk i.on.mine w n p life
              i.on.runs i.on.is i.on.space known named copy.0 copy.1 op own.2 own.1 t takes i.on.owner nobody,
          tt,
        );
        back = not_yield ops.Pop op refl;
        held =
            run-held set e u cs i.stands set.space r0 k0 a f fs wk i.on.mine w n p life
            i.on.runs i.on.is i.on.space known named copy.0 copy.1 op own.2 own.1 t takes;
        demands = refl;
        taken = refl;
        marks = λ ev last b.
            let copied = has_copy (f.pc + 1) (ap is_section_op (next-pop f.pc op)) in
            in-section x g _ v _ ev last copied.0 copied.1 refl (pop_at (λ i j. nat_le 8 (i + 1) ≡ nat_le 8 i) refl refl f.pc copy.0 copy.1 op)
            (next-pop f.pc op) refl b;
      }

  -- A FREE, after which the context is at its copy's end, or settles
  abbrev pub with_free : Package
  with_free = with_package u (freed u.shared.state f (list_in f)).state

  abbrev pub behind_copied_free : Context
  behind_copied_free = record { state = Code (record f { pc = f.pc + 1 }); sections = fs; work = wk }

  abbrev pub behind_free : Context
  behind_free = settled with_free seen (record { state = Code f; sections = fs; work = wk }) f.thread

  -- before a free the context pushes none
  pub free-fits : slice_get package_ops f.pc ≡ Some ops.Free → FitsOp u.shared.state.lists f (Some ops.Free)
  free-fits op = let copy = section-copy f ops.Free refl op in subst (FitsOp u.shared.state.lists f) op (fits copy.0 copy.1)

  free_step : slice_get package_ops f.pc ≡ Some ops.Free → micro u.shared.state f seen.pages ≡ freed u.shared.state f (list_in f) → (o : Option Op)
      → slice_get package_ops (f.pc + 1) ≡ o
      → let v = with_package u (freed u.shared.state f (list_in f)).state in
      stepped u seen c ≡ did (pair v (context_after v seen c (record f { pc = f.pc + 1 }) o)) (records.Free set.space (list_in f) f.thread ∷ [])
  free_step op is o at =
      let v = with_package u (freed u.shared.state f (list_in f)).state in
      let g : Frame = record f { pc = f.pc + 1 } in
      let m = freed u.shared.state f (list_in f) in
      ap (λ (y : Micro). coded_by u seen c f (slice_get u.shared.state.code f.pc) y y.done) is
      ∙ ap (λ o. coded_by u seen c f o m micros.Did) (op_is ∙ op)
      ∙ ap (λ o. did (pair v (context_after v seen c g o)) (records.Free u.shared.state.space (list_in f) f.thread ∷ []))
      (ap (λ ops. slice_get ops (f.pc + 1)) i.stands.code ∙ at)
      ∙ ap (λ q. did (pair v (context_after v seen c g o)) (records.Free q (list_in f) f.thread ∷ [])) space

  -- within a copy
  pub free-copy-move : (op : slice_get package_ops f.pc ≡ Some ops.Free) → micro u.shared.state f seen.pages ≡ freed u.shared.state f (list_in f)
      → slice_get package_ops (f.pc + 1) ≡ Some ops.Yield → Move (records.Free set.space (list_in f) f.thread) with_free behind_copied_free
  free-copy-move op is yields =
      let copy = section-copy f ops.Free refl op in
      let own = free-fits op in
      let g : Frame = record f { pc = f.pc + 1 } in
      let between = yields_between g yields own.1 in
      let copies : nat_le 8 (f.pc + 1) ≡ nat_le 8 f.pc =
      free_at (λ i j. slice_get package_ops (i + 1) ≡ Some ops.Yield → nat_le 8 (i + 1) ≡ nat_le 8 i) (λ e. absurd cc) (λ e. absurd cc) (λ e. refl)
      (λ e. refl) f.pc copy.0 copy.1 op yields in
      let inside : nat_le 8 (f.pc + 1) ≡ true =
      free_at (λ i j. slice_get package_ops (i + 1) ≡ Some ops.Yield → nat_le 8 (i + 1) ≡ true) (λ e. absurd cc) (λ e. absurd cc) (λ e. refl)
      (λ e. refl) f.pc copy.0 copy.1 op yields in
      record {
        step = free_step op is (Some ops.Yield) yields;
        first = refl;
        no_up = refl;
        needs = (tt, tt);
        back = not_yield ops.Free op refl;
        held =
            free-held set e u cs i.stands set.space r0 k0 a f fs wk i.on.mine w n p life i.on.runs i.on.is copy.0 copy.1 op own.1
            (Code g) between.section between.carries copies;
        demands = refl;
        taken = refl;
        marks = λ ev last b. at-end (list_in f) f.thread g _ with_free _ ev last inside copies yields b;
      }

  -- A free at the end of a routine.
  pub free-move : (op : slice_get package_ops f.pc ≡ Some ops.Free) → micro u.shared.state f seen.pages ≡ freed u.shared.state f (list_in f)
      → slice_get package_ops (f.pc + 1) ≡ Some ops.Leave → Move (records.Free set.space (list_in f) f.thread) with_free behind_free
  free-move op is leaves =
      let copy = section-copy f ops.Free refl op in
      let own = free-fits op in
      let x : Record = records.Free set.space (list_in f) f.thread in
      let v : Package = with_free in
      let t = f.thread in
      let left = has_some fs || is_some wk in
      let state = settled_to t left (is_some (owed v seen)) (has_bulk seen) in
      let new : Context = behind_free in
      let between = settled_between t left (is_some (owed v seen)) (has_bulk seen) in
      let outside : nat_le 8 f.pc ≡ false =
      free_at (λ i j. slice_get package_ops (i + 1) ≡ Some ops.Leave → nat_le 8 i ≡ false) (λ e. refl) (λ e. refl) (λ e. absurd cc)
      (λ e. absurd cc) f.pc copy.0 copy.1 op leaves in
      let copies = settled-copy t left (is_some (owed v seen)) (has_bulk seen) ∙ sym outside in
      record {
        step = free_step op is (Some ops.Leave) leaves;
        first = refl;
        no_up = refl;
        needs = (tt, tt);
        back = not_yield ops.Free op refl;
        held =
            free-held set e u cs i.stands set.space r0 k0 a f fs wk i.on.mine w n p life
            i.on.runs i.on.is copy.0 copy.1 op own.1 state between.section between.carries copies;
        demands = refl;
        taken = refl;
        marks =
            λ ev last b. settled-marked set seen.event v (put cs a.0 (Some new)) b.stands set.space last b.holds a t seen fs wk _ b.there
            (ap is_gone b.stage) w r ev x
            b.mine b.demand b.taken processors (b.carries ∙ between.carries) refl refl (λ some. absurd (let none = lone_bare f fs outside mark.lone in cc));
      }

  -- A COPY GIVES CONTROL BACK
  abbrev pub with_back : Package
  with_back = (put_last u (record { state = Code f; sections = fs; work = wk }) f.thread).user

  abbrev pub behind_back : Context
  behind_back = settled with_back seen (put_last u (record { state = Code f; sections = fs; work = wk }) f.thread).ctx None

  pub back-move : slice_get package_ops f.pc ≡ Some ops.Yield
      → micro u.shared.state f seen.pages ≡ stays u.shared.state f micros.Yielded (records.Back u.shared.state.space f.thread ∷ [])
      → Move (records.Back set.space f.thread) with_back behind_back
  back-move op is =
      let none : f.pushed ≡ None = subst (StandsAt f) op stands in
      let at_end = yields_between f op none in
      let x : Record = records.Back set.space f.thread in
      let v : Package = with_back in
      let wn : Option ThreadNo = (put_last u c f.thread).ctx.work in
      let left = has_some fs || is_some wn in
      let state = settled_to None left (is_some (owed v seen)) (has_bulk seen) in
      let new : Context = behind_back in
      let between = settled_between None left (is_some (owed v seen)) (has_bulk seen) in
      let no_copy = settled-copy None left (is_some (owed v seen)) (has_bulk seen) in
      record {
        step =
            ap (λ (y : Micro). coded_by u seen c f (slice_get u.shared.state.code f.pc) y y.done) is
            ∙ ap (λ q. did (pair v new) (records.Back q f.thread ∷ [])) space;
        first = refl;
        no_up = refl;
        needs = ((i.on.owner, runner), tt);
        back = sym (mark.back ∙ ap is_yield_op op);
        held =
            back-held set e u cs i.stands set.space r0 k0 a f fs wk i.on.mine w n p life
            i.on.runs i.on.is i.on.space known at_end.section state between.section between.carries no_copy f.thread refl;
        demands = refl;
        taken = refl;
        marks =
            λ ev last b. settled-marked set seen.event v (put cs a.0 (Some new)) b.stands set.space last b.holds a None seen fs wn _ b.there
            (ap is_gone b.stage) w r ev x
            b.mine b.demand b.taken processors (b.carries ∙ between.carries) refl refl (λ some. refl);
      }

  -- ALL OF THEM: what is shown of each kind is shown of the step
  pub record CodeCases (Goal : Type 0) : Type 0 where
    pub faults : is_page_resident seen.pages PACKAGE_PAGE ≡ false → micro u.shared.state f seen.pages ≡ stays u.shared.state f micros.Faulted [] → Goal
    pub readies : (t : ThreadNo) → slice_get package_ops f.pc ≡ Some ops.Push → f.pushed ≡ Some t
        → micro u.shared.state f seen.pages ≡ pushed u.shared.state f true (list_in f) (Some t) → Goal
    pub runs : (t : ℕ) → slice_get package_ops f.pc ≡ Some ops.Pop → chosen u.shared.state.lists (takes_first u.shared.state.lists f.own) (list_in f).0 ≡ Some t
        → micro u.shared.state f seen.pages ≡ popped u.shared.state f true (list_in f) (Some t) → Goal
    pub frees : slice_get package_ops f.pc ≡ Some ops.Free → micro u.shared.state f seen.pages ≡ freed u.shared.state f (list_in f) → Goal
    pub gives_back : slice_get package_ops f.pc ≡ Some ops.Yield
        → micro u.shared.state f seen.pages ≡ stays u.shared.state f micros.Yielded (records.Back u.shared.state.space f.thread ∷ []) → Goal

  not_at : (op : Op) → (StandsAt f (Some op) → ⊥) → slice_get u.shared.state.code f.pc ≡ Some op → ⊥
  not_at op never is_op = never (subst (StandsAt f) (sym op_is ∙ is_op) stands)

  locked_not : (o : Option Op) → StandsAt f o
      → micro_at u.shared.state f (is_page_resident seen.pages PACKAGE_PAGE) (list_in f) o ≡ stays u.shared.state f micros.Spun
      (records.Spin (list_in f) ∷ [])
      → ⊥
  locked_not (Some ops.Push) at is = pushed_not (is_page_resident seen.pages PACKAGE_PAGE) f.pushed is where
    pushed_not : (b : Bool) (o : Option ThreadNo)
        → pushed u.shared.state f b (list_in f) o ≡ stays u.shared.state f micros.Spun (records.Spin (list_in f) ∷ []) → ⊥
    pushed_not false o is = let no_such = ap (λ (y : Micro). y.done) is in cc
    pushed_not true None is = let no_such = ap (λ (y : Micro). y.done) is in cc
    pushed_not true (Some t) is = let no_such = ap (λ (y : Micro). y.done) is in cc
  locked_not (Some ops.Pop) at is =
      popped_not (is_page_resident seen.pages PACKAGE_PAGE) (chosen u.shared.state.lists (takes_first u.shared.state.lists f.own) (list_in f).0) is where
        popped_not : (b : Bool) (o : Option ℕ)
            → popped u.shared.state f b (list_in f) o ≡ stays u.shared.state f micros.Spun (records.Spin (list_in f) ∷ []) → ⊥
        popped_not false o is = let no_such = ap (λ (y : Micro). y.done) is in cc
        popped_not true None is = let no_such = ap (λ (y : Micro). y.done) is in cc
        popped_not true (Some t) is = let no_such = ap (λ (y : Micro). y.done) is in cc
  locked_not (Some ops.Free) at is = let no_such = ap (λ (y : Micro). y.done) is in cc
  locked_not (Some ops.Yield) at is = let no_such = ap (λ (y : Micro). y.done) is in cc
  locked_not _ at is = at

  pub code-cases : (Goal : Type 0) → CodeCases Goal → Goal
  code-cases Goal cases = micro-outcome (λ m. micro u.shared.state f seen.pages ≡ m → Goal) u.shared.state f seen.pages
      (step_can set e u cs i.stands a.0 c i.on.mine seen.event i.later i.within seen sees_proc).acts.does (record {
        spun = λ list held is. absurd (locked_not (slice_get u.shared.state.code f.pc) (subst (StandsAt f) (sym op_is) stands) is);
        took_to_push = λ op list push free is. absurd (not_at ops.TakePush (λ x. x) op);
        took_to_pop = λ op list free is. absurd (not_at ops.TakePop (λ x. x) op);
        faulted = λ change absent is. cases.faults absent is;
        did_push = λ t op change pushes push is. cases.readies t (sym op_is ∙ op) pushes is;
        did_pop = λ t op change pop takes is. cases.runs t (sym op_is ∙ op) takes is;
        did_free = λ op change is. cases.frees (sym op_is ∙ op) is;
        left = λ op is. absurd (not_at ops.Leave (λ x. x) op);
        yielded = λ op is. cases.gives_back (sym op_is ∙ op) is;
      }) refl where
        sees_proc : seen.proc.0 < set.processors
        sees_proc = let same = ap (λ (x : ProcNo). x.0) i.sees.proc in let less = scene.inside set e u cs w r p a life c seen i in
            let procs_are = i.of.processors in omega arith
