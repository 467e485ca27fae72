use Rattle.std.proofs.Common.{sym, subst}
use Rattle.sa_abstract.specs.Keeps.{IsStep}
use Rattle.sa_prio_model.specs.declared.context.PrioContext.{PrioContext}
use Rattle.sa_prio_model.specs.Stands.{prio_stands}
use Rattle.sa_prio_model.proofs.Able.{step_ranks, step_again}
use Rattle.sa_prio.proofs.threads.PrioThreads.step.Goals as goal

pub settle_again-requires : goal.settle_again-requires
settle_again-requires c = step_ranks c.args.self.now c.args.seen.now c.args.ctx.now c.requires.turn

pub serve-requires-clause-turn : goal.serve-requires-clause-turn
serve-requires-clause-turn c =
    subst (λ (x : PrioContext). IsStep prio_stands c.args.self.now c.args.seen.now x) (sym c.settle_again.ensures)
    (step_again c.args.self.now c.args.seen.now c.args.ctx.now c.requires.turn)
