-- The instructions of a thread after which it goes on, or waits or is done, are legal.
use Rattle.std.proofs.Common.{◌≡◌, ℕ, Bool, true, false, not, is_some, List, [], ◌∷◌, Option, Some, None, slice_index_or, refl, sym, ap, ◌∙◌, subst, inl, inr}
use Rattle.sa_base.specs.declared.context.Seen.{Seen}
use Rattle.sa_base.specs.declared.number.ActNo.{ActNo}
use Rattle.sa_base.specs.declared.number.ProcNo.{ProcNo}
use Rattle.sa_base.specs.declared.number.SpaceNo.{SpaceNo}
use Rattle.sa_base.specs.declared.number.ThreadNo.{ThreadNo}
use Rattle.sa_base.specs.declared.record.Record.{Record}
use Rattle.sa_base.specs.declared.record.Record.TheVariants as records
use Rattle.sa_instr.specs.declared.instr.Instr.{Instr}
use Rattle.sa_spaces.specs.Workload.{WorkloadView}
use Rattle.sa_fast.specs.Instruction.{Outcome, run, run_says, instr_of}
use Rattle.sa_fast.specs.Threads.{block_at}
use Rattle.sa_fast.specs.declared.instruction.Ran.TheVariants as rans
use Rattle.sa_fast.specs.declared.threads.Block.{Block}
use Rattle.sa_abstract.specs.Calls.{Contexts}
use Rattle.sa_abstract.specs.Setting.{Setting}
use Rattle.sa_package_model.proofs.Views.{settled_between}
use Rattle.sa_package_model.specs.Context.{settled_to, has_bulk, stands_inside}
use Rattle.sa_package_model.specs.Rules.{pair, did, owed, used_by, with_shared}
use Rattle.sa_package_model.specs.declared.context.Context.{Context}
use Rattle.sa_package_model.specs.declared.context.ContextState.TheVariants.{User}
use Rattle.sa_package_model.specs.declared.package.Package.{Package}
use Rattle.sa_laws.specs.History.{after_records, is_running_or_blocked}
use Rattle.sa_laws.specs.Life.{Life}
use Rattle.sa_laws.specs.Readings.{Readings, ready_of}
use Rattle.sa_laws.specs.Record.{after_record}
use Rattle.sa_laws.specs.State.{thread_at}
use Rattle.sa_user_laws.specs.Scene.{event_begun_at}
use Rattle.sa_user_laws.specs.Steps.{IsLegalStep}
use Rattle.sa_fast_laws.proofs.relation.InsideMarks.{settled-copy}
use Rattle.sa_fast_laws.proofs.steps.Scenes.{IsScene}
use Rattle.sa_fast_laws.proofs.user_steps.UserMoves.{out_of, outs, outs_plain, IsCalm, goes_state, going, ins, goes-move, goes-lists, leaves-move, leaves-lists, ins-table, ins-cases}
use Rattle.sa_ranks.specs.Rules.{prio_threads}
use Rattle.sa_prio_model.specs.Prio.{Prio}
use Rattle.sa_prio_model.specs.Stands.{bases}
use Rattle.sa_prio_model.specs.Step.{prio_calls, goes}
use Rattle.sa_prio_model.specs.Urge.{came_out}
use Rattle.sa_prio_model.specs.declared.context.PrioContext.{PrioContext}
use Rattle.sa_prio_laws.specs.PrioFits.{prio_fits}
use Rattle.sa_prio_laws.specs.Ready.{FitsRanked}
use Rattle.sa_prio_laws.proofs.steps.CodeSteps.{keeps-with}
use Rattle.sa_prio_laws.proofs.user_steps.InsRanks.{ins-ranked}
use Rattle.sa_prio_laws.proofs.steps.Moves.{base-scene, move-legal}
use Rattle.sa_prio_laws.proofs.steps.Scenes.{IsPrioScene}
use Rattle.sa_prio_laws.proofs.steps.Unbound.{IsUnbound, is-free, is-unurged}

outs-state : (w : WorkloadView) (n : ℕ) (p : ProcNo) (q : Readings) (s : SpaceNo) (t : ThreadNo) (o : Option ℕ)
    → (after_records w n p q (outs s t o)).state ≡ q.state
outs-state w n p q s t None = refl
outs-state w n p q s t (Some m) = refl

-- from its instruction to the next one a context does not come out
goes-out : (t : ThreadNo) (wk : Option ThreadNo) → stands_inside (goes_state t wk) ≡ false → false ≡ came_out (User t) (goes_state t wk)
goes-out t None out = refl
goes-out t (Some first) out = absurd cc

-- once its thread has left it comes to a look, where nothing else is left
leaves-out : (t : ThreadNo) (left owes bulk : Bool) → stands_inside (settled_to None left owes bulk) ≡ false
    → true ≡ came_out (User t) (settled_to None left owes bulk)
leaves-out t false false false out = refl
leaves-out t _ _ _ out = absurd cc

module _ (set : Setting) (e : ℕ) (v : Prio) (cs : Contexts PrioContext) (w : WorkloadView) (r : Readings) (p : ProcNo) (a : ActNo) (life : Life)
    (seen : Seen) (t : ThreadNo)
    (i : IsPrioScene set e v cs w r p a life (record { base = record { state = User t; sections = []; work = None }; urge = false }) seen) where
  abbrev c : Context
  c = record { state = User t; sections = []; work = None }

  abbrev r0 : Readings
  r0 = event_begun_at w seen.event p r

  abbrev b : Block
  b = block_at v.base.shared.threads t.0

  abbrev j : Instr
  j = instr_of v.base.def b

  abbrev o : Outcome
  o = run v.base.def v.base.fetch seen.pages v.base.shared None t

  abbrev u : Package
  u = with_shared v.base o.shared

  abbrev x : Record
  x = records.Ins set.space t b.pc

  abbrev xs : List Record
  xs = outs set.space t (out_of b j)

  abbrev q : Readings
  q = after_records w seen.event p r0 (x ∷ xs)

  abbrev Legal : Type 0
  Legal = IsLegalStep prio_calls prio_threads prio_fits w set r p seen.event a cs (goes v seen (record { state = User t; sections = []; work = None }))

  scene : IsScene set e v.base (bases cs) w r p a life c seen
  scene = base-scene set e v cs w r p a life c seen i

  ranked : o.shared.state.lists.lists ≡ v.base.shared.state.lists.lists → q.ready ≡ r.ready → FitsRanked u (ready_of q set.space)
  ranked lists ready = subst (FitsRanked u) (sym (ap (λ ls. slice_index_or ls set.space.0 []) ready))
      (ins-ranked set e v.base (bases cs) i.stands.base set.space r i.holds seen.pages t (ready_of r set.space) i.ranked lists)

  module _ (out : IsUnbound w r life) (calm : IsCalm (run v.base.def v.base.fetch seen.pages v.base.shared None t).answer) where
    pub goes-legal : o.answer ≡ rans.Goes → Legal
    goes-legal goes =
        let m = goes-move set e v.base (bases cs) w r p a life seen t scene calm goes in
        let same = goes-lists set e v.base (bases cs) w r p a life seen t scene calm goes in
        let g = going u seen t o.work in
        let ran = (ins set e v.base (bases cs) w r p a life seen t scene calm (goes_state t o.work) g.out g.no_copy (inl (goes, g.carries))
        (ap (λ z. used_by u seen (record { state = User t; sections = []; work = o.work }) t z (run_says v.base.def seen.pages v.base.shared t)) goes
        ∙ ap (λ z. did (pair u z) (run_says v.base.def seen.pages v.base.shared t)) g.stays)).goes goes in
        move-legal set e v cs w r p a life c seen i x xs u _ m (record {
          ruled = record {
            step = refl;
            table = ins-table set e v.base (bases cs) w r p a life seen t scene calm;
            keeps = keeps-with w r0 p life x tt m.back;
            alone = (outs_plain set.space t (out_of b j)).1;
            free = is-free w r life x out;
            unurged = is-unurged w r life x out;
            next = λ behind. tt;
          };
          ranked = ranked same.0 same.1;
          settled = λ last state outside.
              ap (λ y. not (is_running_or_blocked (thread_at y set.space t).place))
              (state ∙ outs-state w seen.event p (after_record w seen.event p r0 x) set.space t (out_of b j))
              ∙ ap (λ z. not (is_running_or_blocked z)) ran ∙ goes-out t o.work outside;
        })

    pub leaves-legal : o.answer ≡ rans.Leaves → Legal
    leaves-legal leaves =
        let m = leaves-move set e v.base (bases cs) w r p a life seen t scene calm leaves in
        let same = leaves-lists set e v.base (bases cs) w r p a life seen t scene calm leaves in
        let state = settled_to None (is_some o.work) (is_some (owed u seen)) (has_bulk seen) in
        let between = settled_between None (is_some o.work) (is_some (owed u seen)) (has_bulk seen) in
        let gone = (ins set e v.base (bases cs) w r p a life seen t scene calm state between.section
        (settled-copy None (is_some o.work) (is_some (owed u seen)) (has_bulk seen)) (inr (leaves, between.carries))
        (ap (λ z. used_by u seen (record { state = User t; sections = []; work = o.work }) t z
        (run_says v.base.def seen.pages v.base.shared t)) leaves)).leaves leaves in
        move-legal set e v cs w r p a life c seen i x xs u _ m (record {
          ruled = record {
            step = refl;
            table = ins-table set e v.base (bases cs) w r p a life seen t scene calm;
            keeps = keeps-with w r0 p life x tt m.back;
            alone = (outs_plain set.space t (out_of b j)).1;
            free = is-free w r life x out;
            unurged = is-unurged w r life x out;
            next = λ behind. tt;
          };
          ranked = ranked same.0 same.1;
          settled = λ last state outside.
              ap (λ y. not (is_running_or_blocked (thread_at y set.space t).place))
              (state ∙ outs-state w seen.event p (after_record w seen.event p r0 x) set.space t (out_of b j))
              ∙ ap not gone ∙ leaves-out t (is_some o.work) (is_some (owed u seen)) (has_bulk seen) outside;
        })

  -- ALL OF THEM, but one that blocks
  pub instr-legal : IsUnbound w r life
      → ((length : ℕ) (page : Option ℕ) → (run v.base.def v.base.fetch seen.pages v.base.shared None t).answer ≡ rans.Blocks length page
      → IsLegalStep prio_calls prio_threads prio_fits w set r p seen.event a cs (goes v seen (record { state = User t; sections = []; work = None })))
      → IsLegalStep prio_calls prio_threads prio_fits w set r p seen.event a cs (goes v seen (record { state = User t; sections = []; work = None }))
  instr-legal out blocks = ins-cases set e v.base (bases cs) w r p a life seen t scene Legal
      (record { goes = λ calm is. goes-legal out calm is; leaves = λ calm is. leaves-legal out calm is; blocks = blocks })
