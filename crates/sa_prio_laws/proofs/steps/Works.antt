-- Steps of a context in work, and of one that looks for a thread, that leave the ready list as it is.
use Rattle.std.proofs.Common.{◌≡◌, ℕ, ◌==◌, Bool, true, false, not, List, [], ◌∷◌, Option, Some, None, if◌then◌else◌, refl, sym, ap, ◌∙◌, subst}
use Rattle.sa_base.specs.declared.context.Seen.{Seen}
use Rattle.sa_base.specs.declared.number.ActNo.{ActNo}
use Rattle.sa_base.specs.declared.number.ProcNo.{ProcNo}
use Rattle.sa_base.specs.declared.number.ThreadNo.{ThreadNo}
use Rattle.sa_base.specs.declared.record.Record.{Record}
use Rattle.sa_base.specs.declared.record.Record.TheVariants as records
use Rattle.sa_spaces.specs.Workload.{WorkloadView}
use Rattle.sa_lists.specs.ReadyView.{is_locked, processor}
use Rattle.sa_code.specs.declared.state.Frame.{Frame}
use Rattle.sa_abstract.specs.Calls.{Contexts}
use Rattle.sa_abstract.specs.Setting.{Setting}
use Rattle.sa_package_model.specs.Rules.{own_list}
use Rattle.sa_package_model.specs.declared.context.Context.{Context}
use Rattle.sa_package_model.specs.declared.context.ContextState.TheVariants.{Work}
use Rattle.sa_package_model.specs.declared.package.Package.{Package}
use Rattle.sa_laws.specs.Life.{Life}
use Rattle.sa_laws.specs.Readings.{Readings, has_hand, ready_of}
use Rattle.sa_laws.specs.Turns.{AnotherHas}
use Rattle.sa_user_laws.specs.Scene.{event_begun_at}
use Rattle.sa_user_laws.specs.Steps.{IsLegalStep}
use Rattle.sa_fast_laws.proofs.relation.EventEnds.{begun-holds}
use Rattle.sa_fast_laws.proofs.lists.Continues.{cont-keeps}
use Rattle.sa_fast.specs.declared.threads.KeptPlace.TheVariants as kept
use Rattle.sa_prio_laws.proofs.relation.Placed.{placed-programs}
use Rattle.sa_prio_laws.proofs.frames.Frames.{base-is}
use Rattle.sa_fast_laws.proofs.lists.LockedLists.{locked-kept}
use Rattle.sa_fast_laws.proofs.steps.Scenes as scene
use Rattle.sa_fast_laws.proofs.steps.WorkMoves.{cont-move, push-move, spin-move, here, has-one, spin-held}
use Rattle.sa_ranks.specs.Locks.{TakesFor}
use Rattle.sa_ranks.specs.Rules.{prio_threads}
use Rattle.sa_ranks.specs.Steps.{the_list}
use Rattle.sa_prio_model.specs.Prio.{Prio}
use Rattle.sa_prio_model.specs.Stands.{bases}
use Rattle.sa_prio_model.specs.Step.{prio_calls, goes}
use Rattle.sa_prio_model.specs.declared.context.PrioContext.{PrioContext}
use Rattle.sa_prio_laws.specs.PrioFits.{prio_fits}
use Rattle.sa_prio_laws.specs.Ready.{FitsRanked}
use Rattle.sa_prio_laws.proofs.steps.CodeSteps.{keeps-with}
use Rattle.sa_prio_laws.proofs.steps.Moves.{base-scene, move-legal}
use Rattle.sa_prio_laws.proofs.steps.Scenes.{IsPrioScene}

-- the list that counts as a processor's own is the only one
pub own-is-first : (u : Package) (listed : List _) → FitsRanked u listed → (p : ProcNo) → own_list u p ≡ the_list
own-is-first u listed f p = ap (λ n. processor (if n == 1 then 0 else p.0)) f.one

module _ (set : Setting) (e : ℕ) (v : Prio) (cs : Contexts PrioContext) (w : WorkloadView) (r : Readings) (p : ProcNo) (a : ActNo) (life : Life)
    (seen : Seen) (t : Option ThreadNo) (one : ThreadNo)
    (i : IsPrioScene set e v cs w r p a life (record { base = record { state = Work t; sections = []; work = Some one }; urge = false }) seen) where
  abbrev d : Context
  d = record { state = Work t; sections = []; work = Some one }

  abbrev r0 : Readings
  r0 = event_begun_at w seen.event p r

  own : own_list v.base seen.proc ≡ the_list
  own = own-is-first v.base (ready_of r set.space) i.ranked seen.proc

  -- A SPIN, where another life has the list
  pub spin-legal : is_locked v.base.shared.state.lists (own_list v.base seen.proc).0 ≡ true
      → IsLegalStep prio_calls prio_threads prio_fits w set r p seen.event a cs (goes v seen (record { state = Work t; sections = []; work = Some one }))
  spin-legal locked =
      let scene = base-scene set e v cs w r p a life d seen i in
      let mine = here set e v.base (bases cs) w r p a life seen t one scene in
      let m = spin-move set e v.base (bases cs) w r p a life seen t one scene locked in
      let x : Record = records.Spin (own_list v.base seen.proc) in
      move-legal set e v cs w r p a life d seen i x [] _ _ m (record {
        ruled = record {
          step = refl;
          table = (
            refl,
            record {
              locks = mine.locks;
              cont = mine.cont;
              hand = has-one set e v.base (bases cs) w r p a life seen t one scene;
              list = own;
              held = subst (λ l. AnotherHas r0 a life.space l) own (spin-held set e v.base (bases cs) w r p a life seen t one scene locked);
            },
          );
          keeps = keeps-with w r0 p life x tt m.back;
          alone = tt;
          free = record { free = λ bound. absurd cc };
          unurged = record { unurged = λ bound. absurd cc };
          next = λ behind. tt;
        };
        ranked = i.ranked;
        settled = λ last state out. absurd cc;
      })

  -- A TAKE for a push
  pub take-legal : is_locked v.base.shared.state.lists (own_list v.base seen.proc).0 ≡ false
      → IsLegalStep prio_calls prio_threads prio_fits w set r p seen.event a cs (goes v seen (record { state = Work t; sections = []; work = Some one }))
  take-legal free =
      let base = base-scene set e v cs w r p a life d seen i in
      let mine = here set e v.base (bases cs) w r p a life seen t one base in
      let hand : has_hand r life ≡ true = has-one set e v.base (bases cs) w r p a life seen t one base in
      let m = push-move set e v.base (bases cs) w r p a life seen t one base free in
      let x : Record = records.Take set.space (own_list v.base seen.proc) t in
      let k1 = begun-holds set.space r v.base (bases cs) w (record { number = seen.event; proc = p; records = [] }) i.holds in
      move-legal set e v cs w r p a life d seen i x [] _ _ m (record {
        ruled = record {
          step = refl;
          table = refl;
          keeps = keeps-with w r0 p life x (record {
            space = sym i.on.space;
            list = own;
            unlocked = λ locked.
                let kept = locked-kept set e v.base (bases cs) i.stands.base set.space r0 k1 the_list locked in
                let no : is_locked v.base.shared.state.lists 0 ≡ false = sym (ap (λ (l : ProcNo). is_locked v.base.shared.state.lists l.0) own) ∙ free in cc;
            locks = mine.locks;
            cont = mine.cont;
            thread = sym (scene.carries set e v.base (bases cs) w r p a life d seen base);
            target = subst (λ b. TakesFor b r0 life) (sym hand) tt;
          }) m.back;
          alone = refl;
          free = record { free = λ bound. absurd (let no_bound : not (has_hand r life) ≡ false = ap not hand in cc) };
          unurged = record { unurged = λ bound. absurd (let no_bound : not (has_hand r life) ≡ false = ap not hand in cc) };
          next = λ behind. tt;
        };
        ranked = record { one = i.ranked.one; many = i.ranked.many; there = i.ranked.there; order = i.ranked.order; ranks = i.ranked.ranks };
        settled = λ last state out. absurd cc;
      })

  -- with a thread to make ready it takes the list or spins
  pub push-legal : IsLegalStep prio_calls prio_threads prio_fits w set r p seen.event a cs
      (goes v seen (record { state = Work t; sections = []; work = Some one }))
  push-legal = by (is_locked v.base.shared.state.lists (own_list v.base seen.proc).0) refl where
    by : (b : Bool) → is_locked v.base.shared.state.lists (own_list v.base seen.proc).0 ≡ b
        → IsLegalStep prio_calls prio_threads prio_fits w set r p seen.event a cs (goes v seen (record { state = Work t; sections = []; work = Some one }))
    by true locked = spin-legal locked
    by false free = take-legal free

-- A SECTION IS CONTINUED
module _ (set : Setting) (e : ℕ) (v : Prio) (cs : Contexts PrioContext) (w : WorkloadView) (r : Readings) (p : ProcNo) (a : ActNo) (life : Life)
    (seen : Seen) (f : Frame) (fs : List Frame) (wk : Option ThreadNo)
    (i : IsPrioScene set e v cs w r p a life (record { base = record { state = Work None; sections = f ∷ fs; work = wk }; urge = false }) seen) where
  pub cont-legal : IsLegalStep prio_calls prio_threads prio_fits w set r p seen.event a cs
      (goes v seen (record { state = Work None; sections = f ∷ fs; work = wk }))
  cont-legal =
      let c : Context = record { state = Work None; sections = f ∷ fs; work = wk } in
      let base = base-scene set e v cs w r p a life c seen i in
      let k = begun-holds set.space r v.base (bases cs) w (record { number = seen.event; proc = p; records = [] }) i.holds in
      let m = cont-move set e v.base (bases cs) w r p a life seen f fs wk base in
      let now = event_begun_at w seen.event p r in
      let x : Record = records.Cont set.space f.thread in
      move-legal set e v cs w r p a life c seen i x [] _ _ m (record {
        ruled = record {
          step = refl;
          table = refl;
          keeps =
              keeps-with w now p life x
              (cont-keeps set e v.base (bases cs) i.stands.base set.space now k a f fs wk (base-is cs a.0 _ i.on.mine) w seen.event p life
              i.on.runs i.on.is i.on.space (scene.known set e v.base (bases cs) w r p a life c seen base)) m.back;
          alone = refl;
          free = record { free = λ bound. absurd cc };
          unurged = record { unurged = λ bound. absurd cc };
          next = λ behind. tt;
        };
        ranked = record {
          one = i.ranked.one;
          many = i.ranked.many;
          there = i.ranked.there;
          order = i.ranked.order;
          ranks = λ n made. i.ranked.ranks n made ∙ sym (placed-programs v.base.shared.threads f.thread kept.Running n.0);
        };
        settled = λ last state out. absurd cc;
      })
