use Rattle.std.proofs.Common.{ap}
use Rattle.sa_fast.specs.declared.threads.Block.{Block}
use Rattle.sa_fast.proofs.Counts.{counted-within}
use Rattle.sa_fast.proofs.threads.Threads.take_value.Goals as goal

pub invariant_of-self : goal.invariant_of-self
invariant_of-self c =
    let s = c.self.inside in
    counted-within s.blocks.items s.load s.active s.done s.used c.args.t.0 c.index_mut.result.now c.go_with.new.block c.self.invariant c.requires.thread
    c.index_mut.ensures.value (ap (λ (b : Block). b.place) c.go_with.ensures) _ c.max-self-inside.ensures
