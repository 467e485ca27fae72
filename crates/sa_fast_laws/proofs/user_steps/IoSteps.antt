-- FastThreads' instruction for an I/O, with its block, is legal.
use Rattle.std.proofs.Common.{◌≡◌, ℕ, [], ◌∷◌, Some, None, refl, sym, ap, ◌∙◌, subst}
use Rattle.std.specs.Prelude.{◌++◌}
use Rattle.std.specs.List.{list_any}
use Rattle.sa_base.specs.declared.context.Seen.{Seen}
use Rattle.sa_base.specs.declared.number.ActNo.{ActNo}
use Rattle.sa_base.specs.declared.number.ProcNo.{ProcNo}
use Rattle.sa_base.specs.declared.number.ThreadNo.{ThreadNo}
use Rattle.sa_base.specs.declared.record.Record.{Record}
use Rattle.sa_base.specs.declared.record.Record.TheVariants as records
use Rattle.sa_instr.specs.declared.instr.Instr.TheVariants.{Io}
use Rattle.sa_spaces.specs.Workload.{WorkloadView}
use Rattle.sa_fast.specs.Instruction.{instr_of, next_of, with_thread}
use Rattle.sa_fast.specs.Threads.{block_at, moved_to}
use Rattle.sa_fast.specs.declared.threads.KeptPlace.TheVariants as kept
use Rattle.sa_abstract.specs.Calls.{Contexts}
use Rattle.sa_abstract.specs.Setting.{Setting}
use Rattle.sa_package_model.specs.Rules.{with_shared}
use Rattle.sa_package_model.specs.Step.{stepped}
use Rattle.sa_package_model.specs.declared.context.Context.{Context}
use Rattle.sa_package_model.specs.declared.context.ContextState.TheVariants.{User}
use Rattle.sa_package_model.specs.declared.package.Package.{Package}
use Rattle.sa_laws.specs.Life.{Life}
use Rattle.sa_laws.specs.Readings.{Readings}
use Rattle.sa_laws.specs.Record.{after_record, blocking_for}
use Rattle.sa_laws.specs.Turns.{IsInsOf, is_of_locks}
use Rattle.sa_laws.proofs.Records.{passage-plain, alone-plain}
use Rattle.sa_user_laws.specs.Scene.{event_begun_at}
use Rattle.sa_user_laws.specs.Steps.{event_with}
use Rattle.sa_fast_laws.proofs.steps.Events.{IsLegal}
use Rattle.sa_fast_laws.proofs.steps.Scenes.{IsScene, IsFastScene}
use Rattle.sa_fast_laws.proofs.steps.Turns.{rules-of}
use Rattle.sa_fast_laws.proofs.user_steps.UserMoves.{instr_is}
use Rattle.sa_fast_laws.proofs.user_steps.BlockSteps.{blocked-fits}
use Rattle.sa_fast_laws.proofs.user_steps.IoMoves.{io-length, io-steps, io-needs, io-blocked, step_is}

module _ (set : Setting) (e : ℕ) (u : Package) (cs : Contexts Context) (w : WorkloadView) (r : Readings) (p : ProcNo) (a : ActNo) (life : Life)
    (seen : Seen)
    (t : ThreadNo) (y : IsFastScene set e u cs w r p a life (record { state = User t; sections = []; work = None }) seen) (m : ℕ)
    (is : instr_of u.def (block_at u.shared.threads t.0) ≡ Io m) where
  abbrev d : Context
  d = record { state = User t; sections = []; work = None }

  abbrev x : Record
  x = records.Ins set.space t (block_at u.shared.threads t.0).pc

  abbrev q : Readings
  q = after_record w seen.event p (event_begun_at w seen.event p r) (records.Ins set.space t (block_at u.shared.threads t.0).pc)

  abbrev v : Package
  v = with_shared u (with_thread u.shared t (moved_to (next_of (block_at u.shared.threads t.0)) kept.Blocked))

  i : IsScene set e u cs w r p a life (record { state = User t; sections = []; work = None }) seen
  i = y.scene

  pub io-legal : IsLegal w set r p seen.event a cs (stepped u seen (record { state = User t; sections = []; work = None }))
  io-legal = subst (IsLegal w set r p seen.event a cs) (sym (step_is set e u cs w r p a life seen t i m is)) (record {
    steps = io-steps set e u cs w r p a life seen t i m is;
    answer = record {
      begins = λ io. refl;
      for = ap (blocking_for w q set.space (Some t) a) (io-length set e u cs w r p a life seen t i m is);
      needs = io-needs set e u cs w r p a life seen t i m is;
      rules_hold = λ io passage closing passes closed.
          let xs = records.Block set.space (Some t) a io ∷ passage in
          let follows = rules-of w r (event_with seen.event p (x ∷ xs) closing) a life x xs (xs ++ closing) i.on.runs i.on.is refl closed.is_own refl
          (subst (λ k. IsInsOf k xs) (sym (instr_is set e u cs w r p a life seen t i ∙ is)) passes) tt (sym i.own.back)
          (alone-plain (list_any is_of_locks passage) xs (passage-plain passage passes)) (record { free = λ bound. y.free refl }) tt in
          record { steps = follows.steps; demand = follows.demand; locks = follows.locks; order = follows.order };
      after = λ io behind last spaces.
          let block = records.Block set.space (Some t) a io in
          blocked-fits set e u cs w r p a life d seen y v (after_record w seen.event p q block) x (block ∷ behind)
          (event_with seen.event p (x ∷ block ∷ []) behind) last refl refl refl
          (io-blocked set e u cs w r p a life seen t i m is io) (record { many = y.lists.many; ranks = y.lists.ranks; numbers = y.lists.numbers }) spaces;
    };
  })
