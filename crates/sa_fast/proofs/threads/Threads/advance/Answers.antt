use Rattle.std.proofs.Common.{refl}
use Rattle.sa_fast.proofs.Counts.{counted-within}
use Rattle.sa_fast.proofs.threads.Threads.advance.Goals as goal

pub invariant_of-self : goal.invariant_of-self
invariant_of-self c =
    let s = c.self.inside in
    counted-within s.blocks.items s.load s.active s.done s.used c.args.t.0 c.index_mut.result.now _ c.self.invariant c.requires.thread
    c.index_mut.ensures.value refl _ c.max-self-inside.ensures
