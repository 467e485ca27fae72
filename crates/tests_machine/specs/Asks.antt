-- When a context asks.
use Rattle.sa_base.specs.declared.number.ProcNo.{ProcNo}
use Rattle.sa_base.specs.declared.number.SpaceNo.{SpaceNo}
use Rattle.sa_kernel_model.specs.State.{KernelState}
use Rattle.sa_kernel_model.specs.Entering.{Asks}

-- some space asks on the processor
pub record AsksFor {C : Type 0} (k : KernelState C) (p : ProcNo) : Type 0 where
  pub space : SpaceNo
  pub asks : Asks k p space
