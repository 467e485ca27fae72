-- What a step of FastThreads makes of the package.
use Rattle.std.proofs.Common.{◌≡◌, Option, ap, ◌∙◌}
use Rattle.sa_base.specs.declared.number.ThreadNo.{ThreadNo}
use Rattle.sa_base.specs.declared.context.Seen.{Seen}
use Rattle.sa_abstract.specs.declared.answer.Step.{Step}
use Rattle.sa_package_model.specs.declared.context.Context.{Context}
use Rattle.sa_package_model.specs.declared.package.Package.{Package}
use Rattle.sa_package_model.specs.Step as fast
use Rattle.sa_prio_model.specs.Prio.{Prio, with_base, with_on}
use Rattle.sa_prio_model.specs.Step.{left_on, goes}

pub gone_is : (v : Prio) (seen : Seen) (c : Context) (u : Package) (d : Context) (answer : Step) (t : Option ThreadNo) → u ≡ (fast.stepped v.base seen c).user
    → d ≡ (fast.stepped v.base seen c).ctx → answer ≡ (fast.stepped v.base seen c).answer
    → t ≡ left_on answer d.state → with_on (with_base v u) seen.proc t ≡ (goes v seen c).user
gone_is v seen c u d answer t user ctx answers thread =
    let r = fast.stepped v.base seen c in
    ap (λ x. with_on (with_base v x) seen.proc t) user
    ∙ ap (with_on (with_base v r.user) seen.proc) (thread ∙ ap (λ a. left_on a d.state) answers ∙ ap (λ (x : Context). left_on r.answer x.state) ctx)
