-- Where a context can go on by itself.
use Rattle.std.proofs.Common.{◌≡◌, ℕ, ◌<◌, Bool, true, false, is_some, Option, Some, None, refl}
use Rattle.sa_base.specs.declared.number.ThreadNo.{ThreadNo}
use Rattle.sa_base.specs.declared.limits.TheConstants.{MAX_THREADS}
use Rattle.sa_abstract.specs.Setting.{Setting}
use Rattle.sa_abstract.specs.Keeps.{StaysLocal}
use Rattle.std.specs.Prelude.{IfSome}
use Rattle.sa_fast.specs.Threads.{block_at}
use Rattle.sa_fast.specs.Instruction.{IsAt}
use Rattle.sa_package_model.specs.Conditions.{IsThread}
use Rattle.sa_driven_model.specs.declared.space.DrivenSpace.{DrivenSpace}
use Rattle.sa_driven_model.specs.Step.{local_at}

-- a context that goes on by itself carries a thread, and has nothing else to do
pub goes_local : (s : Setting) (u : DrivenSpace) (n : ℕ) (inside : Bool) (t : Option ThreadNo) → StaysLocal s n (local_at u inside t)
    → (inside ≡ false) × (is_some t ≡ true)
goes_local s u n false (Some t) local = (refl, refl)
goes_local s u n false None local = absurd local
goes_local s u n true t local = absurd local

pub thread_of : (u : DrivenSpace) (t : Option ThreadNo)
    → IfSome t (λ n. (n.0 < MAX_THREADS) × IsAt u.base.def (block_at u.base.shared.threads n.0)) → IsThread t
thread_of u None can = tt
thread_of u (Some n) can = can.0
