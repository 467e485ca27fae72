-- Value, context, answer and trace are what a step makes of them.
use Rattle.std.specs.Prelude.{◌≡◌, ◌+◌, ◌++◌, length}
use Rattle.sa_base.specs.Recorded.{Recorded}
use Rattle.sa_base.specs.Items.{items_at}
use Rattle.sa_base.specs.declared.context.Seen.{Seen}
use Rattle.sa_abstract.specs.declared.answer.Step.{Step}
use Rattle.sa_abstract.specs.Calls.{Stepped}
use Rattle.sa_driven_model.specs.declared.context.DrivenContext.{DrivenContext}
use Rattle.sa_driven_model.specs.declared.space.DrivenSpace.{DrivenSpace}

pub record Does (s : Stepped DrivenSpace DrivenContext) (seen : Seen) (old : Recorded) (u : DrivenSpace) (c : DrivenContext) (answer : Step) (new : Recorded)
    : Type 0 where
  pub user : u ≡ s.user
  pub ctx : c ≡ s.ctx
  pub answers : answer ≡ s.answer
  pub items : new.items ≡ old.items ++ items_at seen.event seen.proc s.says
  pub spare : new.spare + length s.says ≡ old.spare
