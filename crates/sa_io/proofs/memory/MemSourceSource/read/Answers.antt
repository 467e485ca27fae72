use Rattle.std.proofs.Common.{rules}
use Rattle.sa_io.proofs.SupplyLemmas.{front-taken, end-is-told, after-read}
use Rattle.sa_io.proofs.memory.MemSourceSource.read.Goals as goal

pub returns-clause-taken : goal.returns-clause-taken
returns-clause-taken c =
    rw (← c.self.view_is) (front-taken _ c.args.into.now _ c.self.inside.at _ _ _ (rw c.deref-2.ensures.value at c.copy_next-count.ensures.count)
    (rw c.deref-2.ensures.value at c.copy_next-count.ensures.copied))

pub returns-clause-end : goal.returns-clause-end
returns-clause-end c =
    rw (← c.self.view_is) (end-is-told _ _ _ _ c.self.invariant.1 (rw c.deref-2.ensures.value at c.copy_next-count.ensures.count))

pub returns-clause-count : goal.returns-clause-count
returns-clause-count c = rw (← c.self.view_is) (rw c.deref-2.ensures.value at c.copy_next-count.ensures.count)

pub returns-clause-bytes : goal.returns-clause-bytes
returns-clause-bytes c = rw (← c.self.view_is) (rw c.deref-2.ensures.value at c.copy_next-count.ensures.copied)

pub returns-clause-after : goal.returns-clause-after
returns-clause-after c = rw (← c.self.view_is) (after-read _ _ c.self.inside.at _ c.self.inside.failing.items _ _ _ (search rules))
