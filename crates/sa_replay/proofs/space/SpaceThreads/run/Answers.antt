use Rattle.std.proofs.Common.{◌≡◌, sym, subst, ap, refl, ◌∙◌}
use Rattle.std.proofs.lemmas.Bool.{false≢true}
use Rattle.sa_base.specs.declared.number.ThreadNo.{ThreadNo}
use Rattle.sa_instr.specs.declared.instr.Instr.{Instr}
use Rattle.sa_spaces.specs.Space.{SpaceView}
use Rattle.sa_laws.specs.State.{Thread, SpaceState, thread_in}
use Rattle.sa_laws.specs.Effect.{effect}
use Rattle.sa_replay.specs.Running.{instr_in, CanRun, IsFull}
use Rattle.sa_replay.specs.Space.{space}
use Rattle.sa_replay.specs.Sound.{IsSound}
use Rattle.sa_replay.specs.Shape.{IsShaped}
use Rattle.sa_replay.proofs.ShapeLemmas.{can_do, run_kept}
use Rattle.sa_replay.proofs.space.SpaceThreads.run.Goals as goal

-- the instruction has no room in the space as it is kept exactly where it has none in its view
module _ (def : SpaceView) (x v : SpaceState) (t : ThreadNo) (thread : Thread) (instr : Instr) (view : x ≡ v) (is : thread ≡ thread_in x t)
    (at : instr ≡ instr_in def thread) where
  full_in_view : IsFull x.sync instr → IsFull v.sync (instr_in def (thread_in v t))
  full_in_view full =
      subst (λ (y : SpaceState). IsFull y.sync (instr_in def (thread_in y t))) view
      (subst (λ (i : Instr). IsFull x.sync i) (at ∙ ap (λ (y : Thread). instr_in def y) is) full)

  full_as_kept : IsFull v.sync (instr_in def (thread_in v t)) → IsFull x.sync instr
  full_as_kept full =
      subst (λ (i : Instr). IsFull x.sync i) (sym (at ∙ ap (λ (y : Thread). instr_in def y) is))
      (subst (λ (y : SpaceState). IsFull y.sync (instr_in def (thread_in y t))) (sym view) full)

kept : (c : goal.After-does) → let x = space c.self.inside.threads c.self.inside.sync in
    let new = space c.does.new.table c.does.new.sync in
    IsSound new × IsShaped x c.args.t (thread_in x c.args.t).place new
kept c =
    let def = c.args.def.now in
    let x = space c.self.inside.threads c.self.inside.sync in
    let thread = c.get-thread.result in
    let instr = c.instr_at-instr.result in
    let runs : CanRun def x c.args.t = subst (λ (y : SpaceState). CanRun def y c.args.t) (sym c.self.view_is) c.requires.can in
    let found = c.instr_at-instr.ensures in
    let can =
    can_do def x c.args.t thread instr c.self.invariant runs c.get-thread.ensures found.instr found.next found.named
    (c.is_full.ensures.count c.if-is_full.false) in
    run_kept def x c.args.t thread instr
    (effect (space c.does.new.table c.does.new.sync) c.does.new.roused.items) c.self.invariant runs c.get-thread.ensures can c.does.ensures.effect

pub invariant_of-self : goal.invariant_of-self
invariant_of-self c = (kept c).0

pub returns-clause-shape : goal.returns-clause-shape
returns-clause-shape c =
    let new = space c.does.new.table c.does.new.sync in
    subst (λ (x : SpaceState). IsShaped x c.args.t (thread_in x c.args.t).place new) c.self.view_is (kept c).1

pub does-requires-clause-can : goal.does-requires-clause-can
does-requires-clause-can c =
    let def = c.args.def.now in
    let x = space c.self.inside.threads c.self.inside.sync in
    let runs : CanRun def x c.args.t = subst (λ (y : SpaceState). CanRun def y c.args.t) (sym c.self.view_is) c.requires.can in
    let found = c.instr_at-instr.ensures in
    can_do def x c.args.t c.get-thread.result c.instr_at-instr.result c.self.invariant runs c.get-thread.ensures found.instr found.next found.named
    (c.is_full.ensures.count c.if-is_full.false)

pub returns-then-is_full : goal.returns-then-is_full
returns-then-is_full c = record {
  ok = tt;
  full = (
    λ _. full_in_view c.args.def.now (space c.self.inside.threads c.self.inside.sync) c.args.self.now c.args.t c.get-thread.result c.instr_at-instr.result
        c.self.view_is c.get-thread.ensures c.instr_at-instr.ensures.instr (c.is_full.ensures.full.0 c.if-is_full.true),
    λ _. refl,
  );
  err = (refl, c.requires.room.empty);
  room = refl;
  shape = tt;
}

pub returns-clause-full : goal.returns-clause-full
returns-clause-full c = (
  λ failed. absurd (false≢true failed),
  λ full.
      let is =
      full_as_kept c.args.def.now (space c.self.inside.threads c.self.inside.sync) c.args.self.now c.args.t c.get-thread.result c.instr_at-instr.result
      c.self.view_is c.get-thread.ensures c.instr_at-instr.ensures.instr full in
      absurd (false≢true (sym c.if-is_full.false ∙ c.is_full.ensures.full.1 is)),
)
