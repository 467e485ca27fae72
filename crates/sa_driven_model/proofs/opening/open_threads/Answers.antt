use Rattle.std.proofs.Common.{replicate, ap, ◌∙◌}
use Rattle.sa_base.specs.declared.limits.TheConstants.{MAX_THREADS}
use Rattle.sa_fast.specs.declared.threads.KeptPlace.TheVariants.{Ready}
use Rattle.sa_fast.specs.Threads.{unmade, at_start, with_block, gone_to}
use Rattle.sa_driven_model.proofs.opening.open_threads.Goals as goal

pub returns : goal.returns
returns c =
    c.set.ensures ∙ ap (λ xs. with_block xs 0 (gone_to (at_start 0 Ready) 0 c.zero.result)) c.in_ok-threads.ensures
    ∙ ap (λ z. with_block (replicate MAX_THREADS unmade) 0 (gone_to (at_start 0 Ready) 0 z)) c.zero.ensures
