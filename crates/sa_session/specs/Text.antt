-- What is said of a machine: the question of its next step, and the lines of its items.
use Rattle.std.specs.Prelude.{ℕ, ◌+◌, List, [], take, drop, Option, Some, None}
use Rattle.sa_base.specs.declared.number.ProcNo.{ProcNo}
use Rattle.sa_base.specs.declared.record.Item.{Item}
use Rattle.sa_spaces.specs.Workload.{WorkloadView}
use Rattle.sa_asked.specs.declared.question.Question.{Question}
use Rattle.sa_asked.specs.Questions.{question}
use Rattle.sa_driven_model.specs.Step.{driven_calls}
use Rattle.sa_replies.specs.Telling.{opened, told_through, items_text}
use Rattle.sa_replies.specs.Texts.{question_text}
use Rattle.sa_driven_runs.specs.Sessions.{DrivenMachine}

-- the line of the question that the turn of a processor asks, if it is a step
abbrev pub asked_text : DrivenMachine → ProcNo → Option Question → List ℕ
asked_text m p None = []
asked_text m p (Some q) = question_text (m.event + 1) p q

abbrev pub ask_text : DrivenMachine → ProcNo → List ℕ
ask_text m p = asked_text m p (question driven_calls m p)

-- the lines of the items of a trace from the n-th on, each with what is told of it
abbrev pub text_from : ℕ → WorkloadView → List Item → List ℕ
text_from n w items = items_text (told_through (opened w) (take n items)) (drop n items)
