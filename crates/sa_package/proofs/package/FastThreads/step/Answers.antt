use Rattle.std.proofs.Common.{sym, subst}
use Rattle.sa_package_model.specs.declared.context.Context.{Context}
use Rattle.sa_package_model.specs.Conditions.{CanStep}
use Rattle.sa_package_model.proofs.Settled.{can-resettled}
use Rattle.sa_package.proofs.package.FastThreads.step.Goals as goal

pub act-requires-clause-can : goal.act-requires-clause-can
act-requires-clause-can c =
    subst (λ (x : Context). CanStep c.args.self.now c.args.seen.now x) (sym c.settle_again.ensures)
    (can-resettled c.args.self.now c.args.seen.now c.args.ctx.now c.requires.can)
