-- What a driven user level does with replies.
use Rattle.std.specs.Prelude.{◌≡◌, Some}
use Rattle.sa_asked.specs.Replies.{Replies}
use Rattle.sa_driven_model.specs.declared.context.DrivenContext.{DrivenContext}
use Rattle.sa_driven_model.specs.declared.space.DrivenSpace.{DrivenSpace}
use Rattle.sa_driven_model.specs.declared.reply.Reply.{Reply}
use Rattle.sa_driven_model.specs.Reply.{can}
use Rattle.sa_driven_model.specs.Step.{without_reply}

abbrev pub driven_replies : Replies DrivenSpace DrivenContext Reply
driven_replies = record { put = λ u reply. record u { reply = Some reply }; can = can }

-- all but the replies is the same
abbrev pub are_alike : DrivenSpace → DrivenSpace → Type 0
are_alike u v = without_reply v ≡ without_reply u
