use Rattle.std.proofs.Common.{List, [], refl, sym, subst, arith}
use Rattle.sa_laws.specs.State.{Thread}
use Rattle.sa_replay.specs.Counts.{IsCounted}
use Rattle.sa_replay.proofs.table.Threads.new.Goals as goal

-- of no threads each count is 0
counted-none : IsCounted [] 0 0 0 0
counted-none = record { few = omega arith; actives = refl; readies = refl; lives = refl; restless_ones = refl }

pub invariant_of-result : goal.invariant_of-result
invariant_of-result c = (
  subst (λ (threads : List Thread). IsCounted threads 0 0 0 0) (sym c.in_ok-with_capacity.ensures.items) counted-none,
  omega (arith, c.in_ok-with_capacity.ensures.capacity, c.from.ensures),
)

pub returns : goal.returns
returns c = c.in_ok-with_capacity.ensures.items
