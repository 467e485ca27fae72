-- The threads of a space run where its lives do.
use Rattle.std.proofs.Common.{◌≡◌, ℕ, Option, Some, None, IsSome, option_map, refl, sym, ap, ◌∙◌, subst}
use Rattle.std.specs.Prelude.{if◌then◌else◌}
use Rattle.std.proofs.lemmas.Bool.{eq-eqb}
use Rattle.sa_base.specs.declared.number.ActNo.{ActNo}
use Rattle.sa_base.specs.declared.number.SpaceNo.{SpaceNo}
use Rattle.sa_abstract.specs.Calls.{Contexts}
use Rattle.sa_abstract.specs.Setting.{Setting}
use Rattle.sa_package_model.specs.Stands.{IsStanding}
use Rattle.sa_package_model.specs.declared.context.Context.{Context}
use Rattle.sa_package_model.specs.declared.package.Package.{Package}
use Rattle.sa_laws.specs.Life.{Life}
use Rattle.sa_laws.specs.Readings.{Readings, running_of}
use Rattle.sa_user_laws.specs.Moments.{ThreadsRun, runs_in, life_in}
use Rattle.sa_fast_laws.proofs.relation.Runners.{runs-carried, runs-alone}
use Rattle.sa_fast_laws.specs.FastFits.{Holds}

some_runs : (s : SpaceNo) (lives : ℕ → Option Life) (o : Option ActNo) (a : ActNo) (life : Life) → o ≡ Some a → lives a.0 ≡ Some life → life.space ≡ s
    → IsSome (runs_in s lives o)
some_runs s lives o a life at is of =
    subst IsSome (sym (ap (runs_in s lives) at ∙ ap (λ (x : Option Life). option_map (λ (l : Life). a) (life_in s x)) is
    ∙ ap (λ b. option_map (λ (l : Life). a) (if b then Some life else None)) (eq-eqb life.space.0 s.0 (ap (λ (x : SpaceNo). x.0) of)))) refl

pub run-threads : (s : Setting) (e : ℕ) (r : Readings) (u : Package) (cs : Contexts Context) → IsStanding s e u cs → Holds s.space r u cs
    → ThreadsRun s.space r
run-threads s e r u cs h k = record {
  owned =
      λ p t at. let run = runs-carried s e u cs h s.space r k t p at in some_runs s.space r.lives (running_of r p) run.act run.life run.runs run.is run.space;
  alone = λ p t n one two. runs-alone s e u cs h s.space r k t n p one two;
  proc = λ p a life at is of. (k.runs p a life at is of).1;
}
