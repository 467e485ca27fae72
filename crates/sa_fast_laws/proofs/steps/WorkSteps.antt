-- FastThreads' steps with something left are legal: it continues a section, takes its list for a push, or spins.
use Rattle.std.proofs.Common.{◌≡◌, ℕ, Bool, true, false, List, [], ◌∷◌, Option, Some, None, refl, ap}
use Rattle.std.specs.Prelude.{not}
use Rattle.sa_base.specs.declared.context.Seen.{Seen}
use Rattle.sa_base.specs.declared.number.ActNo.{ActNo}
use Rattle.sa_base.specs.declared.number.ProcNo.{ProcNo}
use Rattle.sa_base.specs.declared.number.ThreadNo.{ThreadNo}
use Rattle.sa_spaces.specs.Workload.{WorkloadView}
use Rattle.sa_lists.specs.ReadyView.{is_locked}
use Rattle.sa_code.specs.declared.state.Frame.{Frame}
use Rattle.sa_abstract.specs.Calls.{Contexts}
use Rattle.sa_abstract.specs.Setting.{Setting}
use Rattle.sa_package_model.specs.Rules.{own_list}
use Rattle.sa_package_model.specs.Step.{stepped}
use Rattle.sa_package_model.specs.declared.context.Context.{Context}
use Rattle.sa_package_model.specs.declared.context.ContextState.TheVariants.{Work}
use Rattle.sa_package_model.specs.declared.package.Package.{Package}
use Rattle.sa_laws.specs.Life.{Life}
use Rattle.sa_laws.specs.Readings.{Readings, has_hand}
use Rattle.sa_user_laws.specs.Scene.{event_begun_at}
use Rattle.sa_fast_laws.proofs.relation.EventEnds.{begun-holds}
use Rattle.sa_fast_laws.proofs.steps.Scenes.{IsScene}
use Rattle.sa_fast_laws.proofs.steps.Scenes as scene
use Rattle.sa_fast_laws.proofs.lists.Continues.{cont-keeps}
use Rattle.sa_fast_laws.proofs.lists.Takes.{push_keeps}
use Rattle.sa_fast_laws.proofs.steps.Events.{IsLegal}
use Rattle.sa_fast_laws.proofs.steps.Scenes.{IsFastScene, list-own}
use Rattle.sa_fast_laws.proofs.steps.Turns.{turn-legal}
use Rattle.sa_fast_laws.proofs.steps.WorkMoves.{cont-move, has-one, here, push-move, spin-move, spin-held}

module _ (set : Setting) (e : ℕ) (u : Package) (cs : Contexts Context) (w : WorkloadView) (r : Readings) (p : ProcNo) (a : ActNo) (life : Life)
    (seen : Seen) where
  abbrev r0 : Readings
  r0 = event_begun_at w seen.event p r

  abbrev n : ℕ
  n = seen.event

  -- A SECTION IS CONTINUED
  pub cont-legal : (f : Frame) (fs : List Frame) (wk : Option ThreadNo)
      → IsFastScene set e u cs w r p a life (record { state = Work None; sections = f ∷ fs; work = wk }) seen
      → IsLegal w set r p seen.event a cs (stepped u seen (record { state = Work None; sections = f ∷ fs; work = wk }))
  cont-legal f fs wk z =
      let i = z.scene in
      let c : Context = record { state = Work None; sections = f ∷ fs; work = wk } in
      let k0 = begun-holds set.space r u cs w (record { number = seen.event; proc = p; records = [] }) i.holds in
      turn-legal set e u cs w r p a life c seen z (cont-move set e u cs w r p a life seen f fs wk i) (record {
        table = refl;
        keeps =
            cont-keeps set e u cs i.stands set.space r0 k0 a f fs wk i.on.mine w n p life i.on.runs i.on.is i.on.space
            (scene.known set e u cs w r p a life c seen i);
        alone = refl;
        free = record { free = λ bound. absurd cc };
        next = λ behind. tt;
        lists = record { many = z.lists.many; ranks = z.lists.ranks; numbers = z.lists.numbers };
      })

  -- THE NEXT THREAD IS MADE READY: its list is taken, or is locked
  module _ (t : Option ThreadNo) (one : ThreadNo)
      (z : IsFastScene set e u cs w r p a life (record { state = Work t; sections = []; work = Some one }) seen) where
    abbrev d : Context
    d = record { state = Work t; sections = []; work = Some one }

    i : IsScene set e u cs w r p a life (record { state = Work t; sections = []; work = Some one }) seen
    i = z.scene

    own : own_list u seen.proc ≡ p
    own = list-own set e u cs w r p a life d seen z

    hand : has_hand r life ≡ true
    hand = has-one set e u cs w r p a life seen t one i

    take-legal : is_locked u.shared.state.lists (own_list u seen.proc).0 ≡ false → IsLegal w set r p seen.event a cs (stepped u seen d)
    take-legal free =
        let k1 = begun-holds set.space r u cs w (record { number = seen.event; proc = p; records = [] }) i.holds in
        turn-legal set e u cs w r p a life d seen z (push-move set e u cs w r p a life seen t one i free) (record {
          table = refl;
          keeps =
              push_keeps set e u cs i.stands set.space r0 k1 a w n p life i.on.runs i.on.is t one i.on.mine (own_list u seen.proc) free own
              (scene.carries set e u cs w r p a life d seen i);
          alone = refl;
          free = record { free = λ bound. absurd (let no_bound : not (has_hand r life) ≡ false = ap not hand in cc) };
          next = λ behind. tt;
          lists = record { many = z.lists.many; ranks = z.lists.ranks; numbers = z.lists.numbers };
        })

    spin-legal : is_locked u.shared.state.lists (own_list u seen.proc).0 ≡ true → IsLegal w set r p seen.event a cs (stepped u seen d)
    spin-legal locked =
        let mine = here set e u cs w r p a life seen t one i in
        turn-legal set e u cs w r p a life d seen z (spin-move set e u cs w r p a life seen t one i locked) (record {
          table =
              (refl, record { locks = mine.locks; cont = mine.cont; hand = hand; list = own; held = spin-held set e u cs w r p a life seen t one i locked });
          keeps = tt;
          alone = tt;
          free = record { free = λ bound. absurd cc };
          next = λ behind. tt;
          lists = record { many = z.lists.many; ranks = z.lists.ranks; numbers = z.lists.numbers };
        })

    pub push-legal : IsLegal w set r p seen.event a cs (stepped u seen d)
    push-legal = by (is_locked u.shared.state.lists (own_list u seen.proc).0) refl where
      by : (b : Bool) → is_locked u.shared.state.lists (own_list u seen.proc).0 ≡ b → IsLegal w set r p seen.event a cs (stepped u seen d)
      by true locked = spin-legal locked
      by false free = take-legal free
