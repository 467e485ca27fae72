-- What the calls ask of the package, of the context in hand, and of what is seen.
use Rattle.std.specs.Prelude.{◌≡◌, ℕ, ◌+◌, ◌<◌, ◌≤◌, ◌++◌, length}
use Rattle.sa_base.specs.Recorded.{Recorded}
use Rattle.sa_base.specs.Items.{items_at}
use Rattle.sa_base.specs.declared.limits.TheConstants.{MAX_PROCESSORS, MAX_THREADS}
use Rattle.sa_base.specs.declared.context.Seen.{Seen}
use Rattle.sa_abstract.specs.declared.answer.Step.{Step}
use Rattle.sa_abstract.specs.Calls.{Stepped}
use Rattle.sa_package_model.specs.Conditions.{IsThread}
use Rattle.sa_prio_model.specs.declared.context.PrioContext.{PrioContext}
use Rattle.sa_prio_model.specs.Prio.{Prio, on_at}

-- the threads on the processors and in the list have ranks
pub record CanRank (v : Prio) : Type 0 where
  pub list : 0 < length v.base.shared.state.lists.lists
  pub all : v.base.shared.state.lists.threads ≡ MAX_THREADS
  pub few : length v.on ≤ MAX_PROCESSORS
  pub threads : (q : ℕ) → IsThread (on_at v q)

-- value, context, answer and trace are what the step makes of them
pub record Steps (s : Stepped Prio PrioContext) (seen : Seen) (old : Recorded) (v : Prio) (c : PrioContext) (answer : Step) (new : Recorded) : Type 0 where
  pub user : v ≡ s.user
  pub ctx : c ≡ s.ctx
  pub answers : answer ≡ s.answer
  pub items : new.items ≡ old.items ++ items_at seen.event seen.proc s.says
  pub spare : new.spare + length s.says ≡ old.spare
