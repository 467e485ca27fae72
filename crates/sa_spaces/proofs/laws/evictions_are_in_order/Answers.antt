use Rattle.std.proofs.Common.{subst, sym, get_or}
use Rattle.sa_spaces.specs.declared.workload.Evict.{Evict}
use Rattle.sa_spaces.specs.Workload.{IsBefore}
use Rattle.sa_spaces.proofs.EvictionLemmas.{in_order, not_before_itself}
use Rattle.sa_spaces.proofs.laws.evictions_are_in_order.Goals as goal

pub returns-clause-before : goal.returns-clause-before
returns-clause-before c = λ w h. in_order w.evictions h.evictions_rise

pub returns-clause-differ : goal.returns-clause-differ
returns-clause-differ c = λ w h i j d below within same.
    not_before_itself (get_or w.evictions i d)
    (subst (λ (e : Evict). IsBefore (get_or w.evictions i d) e) (sym same) (in_order w.evictions h.evictions_rise i j d below within))
