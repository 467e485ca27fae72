-- FastThreads' steps in its code are legal: ready, run, free and back.
use Rattle.std.proofs.Common.{◌≡◌, ℕ, true, false, List, [], ◌∷◌, Option, Some, slice_get, refl, sym, ap, ◌∙◌, inl, inr}
use Rattle.std.specs.Prelude.{length, ◌<◌}
use Rattle.sa_base.specs.declared.context.Seen.{Seen}
use Rattle.sa_base.specs.declared.limits.TheConstants.{PACKAGE_PAGE}
use Rattle.sa_base.specs.declared.number.ActNo.{ActNo}
use Rattle.sa_base.specs.declared.number.ProcNo.{ProcNo}
use Rattle.sa_base.specs.declared.number.ThreadNo.{ThreadNo}
use Rattle.sa_base.specs.declared.record.Record.TheVariants as records
use Rattle.sa_spaces.specs.Workload.{WorkloadView}
use Rattle.sa_code.specs.Micro.{micro, stays, pushed, popped, freed, takes_first, chosen, list_in, is_resident as is_page_resident}
use Rattle.sa_code.specs.declared.code.Op.TheVariants as ops
use Rattle.sa_code.specs.declared.state.Frame.{Frame}
use Rattle.sa_code.specs.declared.state.MicroDone.TheVariants as micros
use Rattle.sa_copies.proofs.Places.{next-free}
use Rattle.sa_copies.specs.Copies.{package_ops}
use Rattle.sa_abstract.specs.Calls.{Contexts}
use Rattle.sa_abstract.specs.Setting.{Setting}
use Rattle.sa_package_model.specs.Step.{stepped}
use Rattle.sa_package_model.specs.declared.context.Context.{Context}
use Rattle.sa_package_model.specs.declared.context.ContextState.TheVariants.{Code}
use Rattle.sa_package_model.specs.declared.package.Package.{Package}
use Rattle.sa_laws.specs.Life.{Life}
use Rattle.sa_laws.specs.Readings.{Readings, is_resident}
use Rattle.sa_user_laws.specs.Scene.{event_begun_at}
use Rattle.sa_fast_laws.proofs.relation.EventEnds.{begun-holds}
use Rattle.sa_fast_laws.specs.FastFits.{Holds}
use Rattle.sa_fast_laws.proofs.steps.Scenes.{IsScene}
use Rattle.sa_fast_laws.proofs.steps.Scenes as scene
use Rattle.sa_fast_laws.proofs.steps.Turns.{turn-legal}
use Rattle.sa_fast_laws.proofs.steps.Events.{IsLegal}
use Rattle.sa_fast_laws.proofs.steps.Scenes.{IsFastScene}
use Rattle.sa_fast_laws.proofs.steps.CodeMoves.{ready-move, run-move, free-copy-move, free-move, back-move, code-cases, push-resident, pop-resident, pop-fits}
use Rattle.sa_fast_laws.proofs.lists.Frees.{free-keeps}
use Rattle.sa_fast_laws.proofs.lists.Pops.{run-lists, run-keeps, run-next}
use Rattle.sa_fast_laws.proofs.lists.Pushes.{ready-lists, ready-keeps}
use Rattle.sa_fast_laws.proofs.relation.InCode.{section-copy}

module _ (set : Setting) (e : ℕ) (u : Package) (cs : Contexts Context) (w : WorkloadView) (r : Readings) (p : ProcNo) (a : ActNo) (life : Life)
    (seen : Seen)
    (f : Frame) (fs : List Frame) (wk : Option ThreadNo)
    (z : IsFastScene set e u cs w r p a life (record { state = Code f; sections = fs; work = wk }) seen) where
  abbrev c : Context
  c = record { state = Code f; sections = fs; work = wk }

  abbrev r0 : Readings
  r0 = event_begun_at w seen.event p r

  abbrev n : ℕ
  n = seen.event

  abbrev Legal : Type 0
  Legal = IsLegal w set r p seen.event a cs (stepped u seen (record { state = Code f; sections = fs; work = wk }))

  i : IsScene set e u cs w r p a life (record { state = Code f; sections = fs; work = wk }) seen
  i = z.scene

  k0 : Holds set.space (event_begun_at w seen.event p r) u cs
  k0 = begun-holds set.space r u cs w (record { number = seen.event; proc = p; records = [] }) i.holds

  known : set.space.0 < length r.state.spaces
  known = scene.known set e u cs w r p a life c seen i

  named : set.space.0 < length r.ready
  named = scene.named set e u cs w r p a life c seen i

  page : is_page_resident seen.pages PACKAGE_PAGE ≡ true → is_resident (event_begun_at w seen.event p r) set.space PACKAGE_PAGE ≡ true
  page there = ap (λ m. is_page_resident m PACKAGE_PAGE) (sym i.sees.pages) ∙ there

  ready-legal : (t : ThreadNo) → slice_get package_ops f.pc ≡ Some ops.Push → f.pushed ≡ Some t
      → micro u.shared.state f seen.pages ≡ pushed u.shared.state f true (list_in f) (Some t) → Legal
  ready-legal t op pushes is =
      let copy = section-copy f ops.Push refl op in
      let resident = push-resident set e u cs w r p a life seen f fs wk i t op is in
      turn-legal set e u cs w r p a life c seen z (ready-move set e u cs w r p a life seen f fs wk i t op pushes is) (record {
        table = refl;
        keeps =
            ready-keeps set e u cs i.stands set.space r0 k0 a f fs wk i.on.mine w n p life i.on.runs i.on.is known named copy.0 copy.1 op t pushes
            (page resident);
        alone = refl;
        free = record { free = λ bound. absurd cc };
        next = λ behind. tt;
        lists = ready-lists set e u cs i.stands set.space r0 k0 a f fs wk i.on.mine w n p life i.on.runs i.on.is known named copy.0 copy.1 op t pushes z.lists;
      })

  run-legal : (t : ℕ) → slice_get package_ops f.pc ≡ Some ops.Pop → chosen u.shared.state.lists (takes_first u.shared.state.lists f.own) (list_in f).0 ≡ Some t
      → micro u.shared.state f seen.pages ≡ popped u.shared.state f true (list_in f) (Some t) → Legal
  run-legal t op takes is =
      let copy = section-copy f ops.Pop refl op in
      let own = pop-fits set e u cs w r p a life seen f fs wk i op in
      let resident = pop-resident set e u cs w r p a life seen f fs wk i t op is in
      turn-legal set e u cs w r p a life c seen z (run-move set e u cs w r p a life seen f fs wk i t op takes is) (record {
        table = refl;
        keeps =
            run-keeps set e u cs i.stands set.space r0 k0 a f fs wk i.on.mine w n p life
            i.on.runs i.on.is i.on.space known named copy.0 copy.1 op own.2 own.1 t takes (page resident);
        alone = refl;
        free = record { free = λ bound. absurd cc };
        next =
            λ behind. run-next set e u cs i.stands set.space r0 k0 a f fs wk i.on.mine w n p life
            i.on.runs i.on.is i.on.space known named copy.0 copy.1 op own.2 own.1 t takes z.lists;
        lists =
            run-lists set e u cs i.stands set.space r0 k0 a f fs wk i.on.mine w n p life
            i.on.runs i.on.is i.on.space known named copy.0 copy.1 op own.2 own.1 t takes z.lists;
      })

  free-legal : slice_get package_ops f.pc ≡ Some ops.Free → micro u.shared.state f seen.pages ≡ freed u.shared.state f (list_in f) → Legal
  free-legal op is =
      let copy = section-copy f ops.Free refl op in
      let keeps = free-keeps set e u cs i.stands set.space r0 k0 a f fs wk i.on.mine w n p life i.on.runs i.on.is copy.0 copy.1 op in
      elim (next-free f.pc op) [
        | inr yields ↦ turn-legal set e u cs w r p a life c seen z (free-copy-move set e u cs w r p a life seen f fs wk i op is yields) (record {
          table = refl;
          keeps = keeps;
          alone = refl;
          free = record { free = λ bound. absurd cc };
          next = λ behind. tt;
          lists = record { many = z.lists.many; ranks = z.lists.ranks; numbers = z.lists.numbers };
        })
        | inl leaves ↦ turn-legal set e u cs w r p a life c seen z (free-move set e u cs w r p a life seen f fs wk i op is leaves) (record {
          table = refl;
          keeps = keeps;
          alone = refl;
          free = record { free = λ bound. absurd cc };
          next = λ behind. tt;
          lists = record { many = z.lists.many; ranks = z.lists.ranks; numbers = z.lists.numbers };
        })
      ]

  back-legal : slice_get package_ops f.pc ≡ Some ops.Yield
      → micro u.shared.state f seen.pages ≡ stays u.shared.state f micros.Yielded (records.Back u.shared.state.space f.thread ∷ []) → Legal
  back-legal op is = turn-legal set e u cs w r p a life c seen z (back-move set e u cs w r p a life seen f fs wk i op is) (record {
    table = refl;
    keeps = sym i.on.space;
    alone = refl;
    free = record { free = λ bound. absurd cc };
    next = λ behind. tt;
    lists = record { many = z.lists.many; ranks = z.lists.ranks; numbers = z.lists.numbers };
  })

  pub code-legal :
      (is_page_resident seen.pages PACKAGE_PAGE ≡ false → micro u.shared.state f seen.pages ≡ stays u.shared.state f micros.Faulted [] → Legal)
      → Legal
  code-legal faults =
      code-cases set e u cs w r p a life seen f fs wk i Legal
      (record { faults = faults; readies = ready-legal; runs = run-legal; frees = free-legal; gives_back = back-legal })
