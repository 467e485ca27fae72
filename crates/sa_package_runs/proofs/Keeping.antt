-- What turns keep, each command keeps.
use Rattle.std.proofs.Common.{◌≡◌, ℕ, zero, suc, Bool, true, false, List, [], ◌∷◌, Option, Some, None, inl, inr, refl, sym, ap, ◌∙◌, subst}
use Rattle.std.specs.Prelude.{MatchOption}
use Rattle.sa_base.specs.declared.number.ProcNo.{ProcNo}
use Rattle.sa_debug.specs.declared.script.command.Point.{Point}
use Rattle.sa_debug.specs.declared.script.command.DebugCommand.{DebugCommand}
use Rattle.sa_debug.specs.declared.script.command.DebugCommand.TheVariants.{Break, Clear, Step, Run}
use Rattle.sa_debug.specs.declared.script.reply.Reply.{Reply}
use Rattle.sa_debug.specs.declared.script.reply.Reply.TheVariants.{AtBreak}
use Rattle.sa_debug.specs.Session.{Watched, Session, with_point, without_point, has_point, with_halt, next, point_at}
use Rattle.sa_debug.specs.Session.{SaysEnded, Turns, IsHeld, RunsTo, RunsSoFar, Does, DoesSoFar, DoAll}

module _ {M : Type 0} where
  pub point-machine : (s : Session M) (point : Point) (there full : Bool) → (with_point s point there full).0.machine ≡ s.machine
  point-machine s point true full = refl
  point-machine s point false true = refl
  point-machine s point false false = refl

  pub clear-machine : (s : Session M) (point : Point) (there : Bool) → (without_point s point there).0.machine ≡ s.machine
  clear-machine s point true = refl
  clear-machine s point false = refl

module _ {M : Type 0} (o : Watched M) (P : M → Type 0) (keeps : (m : M) (p : ProcNo) (after : M) → P m → o.IsTurn m p after → P after) where
  same : (s t : Session M) → t.machine ≡ s.machine → P s.machine → P t.machine
  same s t is held = subst P (sym is) held

  pub turned : (s t : Session M) (p : ProcNo) → Turns o s p t → P s.machine → P t.machine
  turned s t p turns held = subst (λ (x : Session M). P x.machine) (sym turns.is) (keeps s.machine p turns.machine held turns.turn)

  ended : (s t : Session M) (reply : Reply) → SaysEnded o s t reply → P s.machine → P t.machine
  ended s t reply says held = subst (λ (x : Session M). P x.machine) (sym says.same) held

  stopped-at : (s t : Session M) (p : ProcNo) (reply : Reply) (point : Option Point)
      → MatchOption point ⊥ (λ x. (reply ≡ AtBreak p x) × (t ≡ with_halt s p true)) → P s.machine → P t.machine
  stopped-at s t p reply None at held = absurd at
  stopped-at s t p reply (Some point) at held = subst (λ (x : Session M). P x.machine) (sym at.1) held

  stopped : (s t : Session M) (reply : Reply) (who : Option ProcNo) → IsHeld o s who t reply → P s.machine → P t.machine
  stopped s t reply None at held = subst (λ (x : Session M). P x.machine) (sym at.1) held
  stopped s t reply (Some p) at held = stopped-at s t p reply (point_at o s p) at held

  pub ran : (n : ℕ) (s t : Session M) (reply : Reply) → RunsTo o n s t reply → P s.machine → P t.machine
  ran zero s t reply runs held = elim runs [
    | inl says ↦ ended s t reply says held
    | inr over ↦ subst (λ (x : Session M). P x.machine) (sym over.same) held
  ]
  ran (suc n) s t reply runs held = elim runs [
    | inl says ↦ ended s t reply says held
    | inr other ↦ elim other [
      | inl stops ↦ stopped s t reply (next o s) stops.held held
      | inr more ↦ ran n more.1 t reply more.3 (turned s more.1 more.0 more.2.turns held)
    ]
  ]

  came : (n : ℕ) (s t : Session M) → RunsSoFar o n s t → P s.machine → P t.machine
  came zero s t comes held = subst (λ (x : Session M). P x.machine) (sym comes) held
  came (suc n) s t comes held = elim comes [
    | inl here ↦ subst (λ (x : Session M). P x.machine) (sym here) held
    | inr more ↦ came n more.1 t more.3 (turned s more.1 more.0 more.2.turns held)
  ]

  pub does : (c : DebugCommand) (s t : Session M) (reply : Reply) → Does o c s t reply → P s.machine → P t.machine
  does (Break point) s t reply done held = same s t (ap (λ (x : Session M). x.machine) done.0 ∙ point-machine s point (has_point s point) _) held
  does (Clear point) s t reply done held = same s t (ap (λ (x : Session M). x.machine) done.0 ∙ clear-machine s point (has_point s point)) held
  does (Step p) s t reply done held = elim done [
    | inl says ↦ ended s t reply says held
    | inr steps ↦ turned s t p steps.turns held
  ]
  does (Run n) s t reply done held = ran n s t reply done held
  does _ s t reply done held = same s t (ap (λ (x : Session M). x.machine) done.0) held

  pub does-so_far : (c : DebugCommand) (s t : Session M) → DoesSoFar o c s t → P s.machine → P t.machine
  does-so_far (Run n) s t done held = came n s t done held
  does-so_far _ s t done held = same s t (ap (λ (x : Session M). x.machine) done) held

  pub does-all : (cs : List DebugCommand) (s t : Session M) (replies : List Reply) → DoAll o cs s t replies → P s.machine → P t.machine
  does-all [] s t replies done held = subst (λ (x : Session M). P x.machine) (sym done.0) held
  does-all (c ∷ cs) s t replies done held = does-all cs done.0 t done.2 done.5 (does c s done.0 done.1 done.4 held)
