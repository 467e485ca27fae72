use Rattle.sa_kernel.proofs.Kept.{kept-evict}
use Rattle.sa_kernel.proofs.kernel.Kernel.evict.Goals as goal

pub invariant_of-self : goal.invariant_of-self
invariant_of-self g c =
    let k = c.self.inside in
    record {
      kept = kept-evict k.parts c.evict.new.self c.args.event k.spare k.last c.evict.ensures c.self.invariant.kept;
      low = c.self.invariant.low;
    }
