use Rattle.sa_lemmas.proofs.Options.{there-where}
use Rattle.sa_gen.proofs.Loads.{workload_with}
use Rattle.sa_gen.proofs.load.workload.Goals as goal

pub unwrap-requires : goal.unwrap-requires
unwrap-requires c = there-where _ _ _ c.new-2.ensures (workload_with c.args.n _ _ _ c.in_ok-spaces.ensures c.new-none.ensures.items c.new.ensures.items)
