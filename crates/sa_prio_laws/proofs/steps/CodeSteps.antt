-- Steps in the code that leave the ready list as it is: a free, and the back of a copy.
use Rattle.std.proofs.Common.{◌≡◌, ℕ, true, false, List, [], ◌∷◌, Option, Some, slice_get, refl, sym, ap, ◌∙◌, subst, inl, inr, arith}
use Rattle.std.proofs.lemmas.Bool.{and_parts}
use Rattle.sa_base.specs.declared.context.Seen.{Seen}
use Rattle.sa_base.specs.declared.number.ActNo.{ActNo}
use Rattle.sa_base.specs.declared.number.ProcNo.{ProcNo}
use Rattle.sa_base.specs.declared.number.ThreadNo.{ThreadNo}
use Rattle.sa_base.specs.declared.record.Record.{Record}
use Rattle.sa_base.specs.declared.record.Record.TheVariants as records
use Rattle.sa_spaces.specs.Workload.{WorkloadView}
use Rattle.sa_lists.specs.ReadyView as lists
use Rattle.sa_fast.proofs.WorkSteps.{one_same}
use Rattle.sa_package_model.proofs.Holding.{own_inside}
use Rattle.sa_package_model.proofs.Views.{section_locks}
use Rattle.sa_fast_laws.proofs.lists.Pushes.{ready-keeps, ready-listed}
use Rattle.sa_code.specs.Micro.{micro, pushed, freed, stays, list_in}
use Rattle.sa_code.specs.declared.code.Op.TheVariants as ops
use Rattle.sa_code.specs.declared.state.Frame.{Frame}
use Rattle.sa_code.specs.declared.state.MicroDone.TheVariants as micros
use Rattle.sa_copies.specs.Copies.{package_ops}
use Rattle.sa_fast.specs.declared.threads.KeptPlace.TheVariants as kept
use Rattle.sa_abstract.specs.Calls.{Contexts}
use Rattle.sa_abstract.specs.Setting.{Setting}
use Rattle.sa_package_model.specs.Context.{stands_inside}
use Rattle.sa_package_model.specs.declared.context.Context.{Context}
use Rattle.sa_package_model.specs.declared.context.ContextState.{ContextState}
use Rattle.sa_package_model.specs.declared.context.ContextState.TheVariants.{Code, User, Look}
use Rattle.sa_laws.specs.Life.{Life}
use Rattle.sa_laws.specs.Locks.{is_back, back_is_due}
use Rattle.sa_laws.specs.Readings.{Readings, Listed, ready_of}
use Rattle.sa_user_laws.specs.Scene.{event_begun_at}
use Rattle.sa_user_laws.specs.Steps.{IsLegalStep}
use Rattle.sa_copies.proofs.Places.{next-free}
use Rattle.sa_fast_laws.proofs.lists.Frees.{free-keeps}
use Rattle.sa_fast_laws.proofs.steps.CodeMoves.{k0, known, named, page, with_ready, push-resident, ready-move, free-copy-move, free-move, back-move}
use Rattle.sa_ranks.specs.Locks.{KeepsTheLock, StepKeepsTheLock}
use Rattle.sa_ranks.specs.Rules.{prio_threads}
use Rattle.sa_ranks.specs.Steps.{BacksBy}
use Rattle.sa_prio_model.specs.Prio.{Prio}
use Rattle.sa_prio_model.specs.Stands.{bases}
use Rattle.sa_prio_model.specs.Step.{prio_calls, goes}
use Rattle.sa_prio_model.specs.Urge.{came_out}
use Rattle.sa_prio_model.specs.declared.context.PrioContext.{PrioContext}
use Rattle.sa_prio_laws.specs.Ready.{FitsRanked}
use Rattle.sa_prio_laws.proofs.relation.Listed.{ranked-pushed}
use Rattle.sa_prio_laws.proofs.relation.Placed.{placed-programs}
use Rattle.sa_prio_laws.specs.PrioFits.{prio_fits}
use Rattle.sa_prio_laws.proofs.frames.Frames.{base-is}
use Rattle.sa_prio_laws.proofs.steps.Moves.{base-scene, move-legal}
use Rattle.sa_prio_laws.proofs.steps.Scenes.{IsPrioScene}
use Rattle.sa_fast_laws.proofs.relation.InCode.{section-copy}

-- a back comes exactly where that of an open cont is due
pub keeps-with : (w : WorkloadView) (r : Readings) (p : ProcNo) (life : Life) (x : Record) → KeepsTheLock w r p life x → is_back x ≡ back_is_due life
    → StepKeepsTheLock w r p life x
keeps-with w r p life x keeps back = record {
  keeps = keeps;
  due = λ due. back ∙ due;
  back = λ is cont. (and_parts life.cont life.freed (sym back ∙ is)).1;
}

-- out of the code a context comes to an instruction or a look
pub from-code : (f : Frame) (state : ContextState) → stands_inside state ≡ false → true ≡ came_out (Code f) state
from-code f (User t) out = refl
from-code f (Look looks) out = refl
from-code f _ out = absurd cc

module _ (set : Setting) (e : ℕ) (v : Prio) (cs : Contexts PrioContext) (w : WorkloadView) (r : Readings) (p : ProcNo) (a : ActNo) (life : Life)
    (seen : Seen) (f : Frame) (fs : List Frame) (wk : Option ThreadNo)
    (i : IsPrioScene set e v cs w r p a life (record { base = record { state = Code f; sections = fs; work = wk }; urge = false }) seen) where
  abbrev c : Context
  c = record { state = Code f; sections = fs; work = wk }

  abbrev r0 : Readings
  r0 = event_begun_at w seen.event p r

  pub free-legal : slice_get package_ops f.pc ≡ Some ops.Free → micro v.base.shared.state f seen.pages ≡ freed v.base.shared.state f (list_in f)
      → IsLegalStep prio_calls prio_threads prio_fits w set r p seen.event a cs (goes v seen (record { state = Code f; sections = fs; work = wk }))
  free-legal op is =
      let scene = base-scene set e v cs w r p a life c seen i in
      let copy = section-copy f ops.Free refl op in
      let keeps = free-keeps set e v.base (bases cs) i.stands.base set.space r0 (k0 set e v.base (bases cs) w r p a life seen f fs wk scene) a f fs wk
      (base-is cs a.0 _ i.on.mine) w seen.event p life i.on.runs i.on.is copy.0 copy.1 op in
      let x : Record = records.Free set.space (list_in f) f.thread in
      elim (next-free f.pc op) [
        | inr yields ↦
            let m = free-copy-move set e v.base (bases cs) w r p a life seen f fs wk scene op is yields in
            move-legal set e v cs w r p a life c seen i x [] _ _ m (record {
              ruled = record {
                step = refl;
                table = refl;
                keeps = keeps-with w r0 p life x keeps m.back;
                alone = refl;
                free = record { free = λ bound. absurd cc };
                unurged = record { unurged = λ bound. absurd cc };
                next = λ behind. tt;
              };
              ranked = record { one = i.ranked.one; many = i.ranked.many; there = i.ranked.there; order = i.ranked.order; ranks = i.ranked.ranks };
              settled = λ last state out. absurd cc;
            })
        | inl leaves ↦
            let m = free-move set e v.base (bases cs) w r p a life seen f fs wk scene op is leaves in
            move-legal set e v cs w r p a life c seen i x [] _ _ m (record {
              ruled = record {
                step = refl;
                table = refl;
                keeps = keeps-with w r0 p life x keeps m.back;
                alone = refl;
                free = record { free = λ bound. absurd cc };
                unurged = record { unurged = λ bound. absurd cc };
                next = λ behind. tt;
              };
              ranked = record { one = i.ranked.one; many = i.ranked.many; there = i.ranked.there; order = i.ranked.order; ranks = i.ranked.ranks };
              settled = λ last state out. from-code f _ out;
            })
      ]

  -- a copy gives control back under its open cont
  pub back-legal : slice_get package_ops f.pc ≡ Some ops.Yield
      → micro v.base.shared.state f seen.pages ≡ stays v.base.shared.state f micros.Yielded (records.Back v.base.shared.state.space f.thread ∷ [])
      → IsLegalStep prio_calls prio_threads prio_fits w set r p seen.event a cs (goes v seen (record { state = Code f; sections = fs; work = wk }))
  back-legal op is =
      let scene = base-scene set e v cs w r p a life c seen i in
      let m = back-move set e v.base (bases cs) w r p a life seen f fs wk scene op is in
      let x : Record = records.Back set.space f.thread in
      let opened : life.cont ≡ true = (and_parts life.cont life.freed (sym m.back)).0 in
      move-legal set e v cs w r p a life c seen i x [] _ _ m (record {
        ruled = record {
          step = refl;
          table = (refl, subst (λ b. BacksBy b r0 p life set.space f.thread) (sym opened) tt);
          keeps = keeps-with w r0 p life x (sym i.on.space) m.back;
          alone = refl;
          free = record { free = λ bound. absurd cc };
          unurged = record { unurged = λ bound. absurd cc };
          next = λ behind. tt;
        };
        ranked =
            record {
              one = i.ranked.one;
              many = i.ranked.many;
              there = i.ranked.there;
              order = i.ranked.order;
              ranks = λ n made. i.ranked.ranks n made ∙ sym (placed-programs v.base.shared.threads f.thread kept.Carried n.0);
            };
        settled = λ last state out. from-code f _ out;
      })

  -- a thread is made ready
  pub ready-legal : (t : ThreadNo) → slice_get package_ops f.pc ≡ Some ops.Push → f.pushed ≡ Some t
      → micro v.base.shared.state f seen.pages ≡ pushed v.base.shared.state f true (list_in f) (Some t)
      → IsLegalStep prio_calls prio_threads prio_fits w set r p seen.event a cs (goes v seen (record { state = Code f; sections = fs; work = wk }))
  ready-legal t op pushes is =
      let scene = base-scene set e v cs w r p a life c seen i in
      let known = known set e v.base (bases cs) w r p a life seen f fs wk scene in
      let named = named set e v.base (bases cs) w r p a life seen f fs wk scene in
      let copy = section-copy f ops.Push refl op in
      let k = k0 set e v.base (bases cs) w r p a life seen f fs wk scene in
      let resident = push-resident set e v.base (bases cs) w r p a life seen f fs wk scene t op is in
      let here = page set e v.base (bases cs) w r p a life seen f fs wk scene resident in
      let m = ready-move set e v.base (bases cs) w r p a life seen f fs wk scene t op pushes is in
      let mine = base-is cs a.0 _ i.on.mine in
      let x : Record = records.Ready set.space t in
      let y : Listed = record { thread = t; list = list_in f } in
      let room = own_inside set e v.base (bases cs) i.stands.base a.0 c mine (list_in f).0 (let all = section_locks c f copy.0 refl copy.1 (list_in f).0 in
      let one = one_same (list_in f).0 (list_in f).0 refl in omega arith) in
      let first : (list_in f).0 ≡ 0 = let one = i.ranked.one in omega arith in
      let now = with_ready set e v.base (bases cs) w r p a life seen f fs wk scene t in
      move-legal set e v cs w r p a life c seen i x [] _ _ m (record {
        ruled = record {
          step = refl;
          table = refl;
          keeps =
              keeps-with w r0 p life x (ready-keeps set e v.base (bases cs) i.stands.base set.space r0 k a f fs wk mine w seen.event p life i.on.runs i.on.is
              known named copy.0 copy.1 op t pushes here) m.back;
          alone = refl;
          free = record { free = λ bound. absurd cc };
          unurged = record { unurged = λ bound. absurd cc };
          next = λ behind. tt;
        };
        ranked = subst (FitsRanked now)
            (sym (ready-listed set e v.base
            (bases cs) i.stands.base set.space r0 k a f fs wk mine w seen.event p life i.on.runs i.on.is known named copy.0 copy.1 op t pushes))
            (ranked-pushed v.base now y (ready_of r0 set.space) first (let one = i.ranked.one in omega arith)
            (ap (λ l. lists.pushed v.base.shared.state.lists l t.0) first)
            (λ n. placed-programs v.base.shared.threads (Some t) kept.Ready n.0) i.ranked);
        settled = λ last state out. absurd cc;
      })
