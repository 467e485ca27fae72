use Rattle.std.proofs.Common.{ap, sym, ◌∙◌, subst, refl, arith, List, replicate}
use Rattle.sa_base.specs.declared.limits.TheConstants.{MAX_THREADS}
use Rattle.sa_fast.specs.declared.threads.Block.{Block}
use Rattle.sa_fast.specs.Threads.{gone_to, unmade, IsCounted}
use Rattle.sa_fast.proofs.Unmade.{same-everywhere}
use Rattle.sa_fast.proofs.threads.Threads.new.Goals as goal

pub returns : goal.returns
returns c = c.in_ok-vec.ensures.items_if_clones_equal (λ y h. h) ∙ ap (λ z. replicate MAX_THREADS (gone_to unmade 0 z)) c.zero.ensures

pub invariant_of-result : goal.invariant_of-result
invariant_of-result c =
    subst (λ (blocks : List Block). IsCounted blocks 0 0 0 0) (sym (returns c))
    (record { all = refl; loads = refl; actives = refl; ends = refl; most = omega arith; rest = λ t from. same-everywhere MAX_THREADS t unmade })
