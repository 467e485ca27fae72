-- What `kernel` answers: the source gave the text of a workload through its first line that is `close`, and after it replies, a
-- line each. The kernel and the machine ran by the order of turns, and each step of a user level did what the next line says.
use Rattle.std.specs.Prelude.{◌≡◌, ◌⊎◌, ⊤, ℕ, ◌+◌, ◌≤◌, List, [], ◌++◌, length, Option, None, Some, Err, IsSome, IfSome}
use Rattle.std.specs.Io.KnownBytes.{Consumes, IsAtEnd}
use Rattle.sa_base.specs.declared.record.Item.{Item}
use Rattle.sa_base.specs.declared.record.End.{End}
use Rattle.sa_base.specs.declared.record.End.TheVariants as end
use Rattle.sa_base.specs.declared.refusal.Bad.{Bad}
use Rattle.sa_base.specs.declared.refusal.Cause.TheVariants.{Missing}
use Rattle.sa_io.specs.Faults.{HasRisen}
use Rattle.sa_lines_in.specs.Line.{line_len}
use Rattle.sa_spaces.specs.Workload.{WorkloadView}
use Rattle.sa_workload.specs.Text.{IsText}
use Rattle.sa_workload.specs.Bad.{BadAt}
use Rattle.sa_workload.specs.Texts.{workload_part}
use Rattle.sa_input.specs.declared.limits.TheConstants.{WORKLOAD_LIMIT}
use Rattle.sa_input.specs.Refusals.{IsInputRefused}
use Rattle.sa_trace.specs.TraceText.{last_line_of}
use Rattle.sa_laws.specs.Any.{any}
use Rattle.sa_laws.specs.Legal.{EndOf}
use Rattle.sa_package_runs.specs.Whole.{IsTurnByTurn, IsEnded}
use Rattle.sa_core_model.specs.End.{end_of}
use Rattle.sa_asked.specs.declared.question.Question.{Question}
use Rattle.sa_asked.specs.Questions.{question}
use Rattle.sa_driven_model.specs.Step.{driven_calls}
use Rattle.sa_session.specs.declared.conversation.Close.{Close}
use Rattle.sa_session.specs.declared.conversation.Close.TheVariants.{Ended, Refused}
use Rattle.sa_session.specs.declared.exchange.NoTalk.{NoTalk}
use Rattle.sa_session.specs.declared.exchange.NoTalk.TheVariants as stopped
use Rattle.sa_session.specs.declared.wrong.Wrong.{Wrong}
use Rattle.sa_session.specs.Machines.{proc_after}
use Rattle.sa_session.specs.Answer.{wrong_number, answer_in}
use Rattle.sa_session.specs.Exchange.{lines_text}
use Rattle.sa_session.specs.Moments.{Moment, Reaches}
use Rattle.sa_session.specs.Over.{said_at}
use Rattle.sa_command.specs.declared.command.ScheduleWord.{ScheduleWord}
use Rattle.sa_cli.specs.declared.outcome.Status.{Status}
use Rattle.sa_cli.specs.declared.outcome.Status.TheVariants.{AllDone, BadWorkload, Stuck, Budget, ReadFault, WriteFault, OutOfMemory, BadReply}
use Rattle.sa_cli.specs.Outcome.{status_of_end}
use Rattle.sa_cli.specs.Schedules.{order_by}
use Rattle.sa_cli.specs.Answers.{World, TookAll, TookSome}

-- the refusal of a reply, by the number of its line and the first thing that is wrong with it
abbrev pub bad_reply : ℕ → Wrong → Bad
bad_reply line wrong = record { line = line; why = wrong_number wrong }

-- the status of a session that is over, once all is written; and the end that its last line says
abbrev pub status_of_close : Close → Status
status_of_close (Ended e) = status_of_end e
status_of_close (Refused line wrong) = BadReply (bad_reply line wrong)

abbrev pub end_of_close : Close → End
end_of_close (Ended e) = e
end_of_close (Refused line wrong) = end.Budget

-- the status of a session that could not go on
abbrev pub status_of_no_talk : NoTalk → Status
status_of_no_talk stopped.Read = ReadFault
status_of_no_talk stopped.Write = WriteFault
status_of_no_talk stopped.OutOfMemory = OutOfMemory

-- the source lost some bytes at its front, or none
abbrev pub LosesSome : Option (List ℕ) → Option (List ℕ) → Type 0
LosesSome before after = (bytes : List ℕ) × Consumes before after bytes

-- the refusal of what stands in front of the replies, if the source tells
abbrev pub IsFrontRefused : Option (List ℕ) → Bad → Type 0
IsFrontRefused left bad = IfSome left (λ input. IsInputRefused BadAt (workload_part input) bad)

-- The source gave the text of the workload, and these bytes after it. If it tells, the text goes through the first line that is
-- `close`.
pub record HasFront (before after : Option (List ℕ)) (w : WorkloadView) (kept : List ℕ) : Type 0 where
  pub text : List ℕ
  pub is : IsText text w
  pub short : length text ≤ WORKLOAD_LIMIT
  pub front : IfSome before (λ input. text ≡ workload_part input)
  pub taken : Consumes before after (text ++ kept)

-- the causes of the statuses with which there is no workload in front
abbrev pub LacksFront : Option (List ℕ) → ℕ → ℕ → Status → Type 0
LacksFront left faults_before faults_after (BadWorkload bad) = IsFrontRefused left bad
LacksFront left faults_before faults_after ReadFault = HasRisen faults_before faults_after
LacksFront left faults_before faults_after OutOfMemory = ⊤
LacksFront left faults_before faults_after other = ⊥

-- The source gave the text of the workload, these lines after it, each with its line feed, and then some bytes more. If it tells,
-- the text goes through the first line that is `close`.
pub record GaveLines (before after : Option (List ℕ)) (w : WorkloadView) (lines : List (List ℕ)) (later : List ℕ) : Type 0 where
  pub text : List ℕ
  pub is : IsText text w
  pub short : length text ≤ WORKLOAD_LIMIT
  pub front : IfSome before (λ input. text ≡ workload_part input)
  pub taken : Consumes before after (text ++ (lines_text lines ++ later))

-- no session began: nothing is written
abbrev pub IsSilent : World → World → Type 0
IsSilent old new = TookAll old new []

module _ (schedule : ScheduleWord) (budget : ℕ) (old new : World) where
  -- A session of the source's workload came to this moment: turn by turn in the order, each step by the next of the lines. Its trace
  -- is legal by the rules of any user level, strict, and its end is as it is defined. What came after those lines is not used.
  pub record Talked : Type 0 where
    pub workload : WorkloadView
    pub moment : Moment
    pub later : List ℕ
    pub gave : GaveLines old.left new.left workload moment.replies later
    pub reached : Reaches workload (order_by schedule workload) budget moment.machine.event moment
    pub legal : IsTurnByTurn any workload (order_by schedule workload) moment.machine.items moment.machine.event
    pub ends : EndOf any workload budget moment.machine.items (end_of driven_calls budget moment.machine)

  -- what was said so far, with the question that is open
  abbrev pub said_so_far : Talked → List ℕ
  said_so_far talked = said_at talked.workload (order_by schedule talked.workload) talked.moment

  -- the run ended so; all that was said and the last line went to the sink in this way
  pub record EndsSo (goes : List ℕ → Type 0) (items : List Item) (end : End) : Type 0 where
    pub talked : Talked
    pub shows : items ≡ talked.moment.machine.items
    pub ended : end_of driven_calls budget talked.moment.machine ≡ Some end
    pub right : IsEnded any talked.workload budget items end talked.moment.machine.event
    pub went : goes (talked.moment.text ++ last_line_of items end talked.moment.machine.event)

  -- The run had not ended, and its next event is a step; the bytes after the lines that were used begin with no reply that the step
  -- can do, and this is the first thing that is wrong with them. All that was said, the open question, and a last line that says
  -- that the run goes on went to the sink in this way.
  pub record RefusesSo (goes : List ℕ → Type 0) (items : List Item) (bad : Bad) : Type 0 where
    pub talked : Talked
    pub shows : items ≡ talked.moment.machine.items
    pub goes_on : end_of driven_calls budget talked.moment.machine ≡ None
    pub asked : Question
    pub is_asked : question driven_calls talked.moment.machine
        (proc_after talked.workload (order_by schedule talked.workload) talked.moment.machine.event) ≡ Some asked
    pub wrong : Wrong
    pub is_wrong : answer_in talked.moment.machine
        (proc_after talked.workload (order_by schedule talked.workload) talked.moment.machine.event) asked.space talked.later ≡ Err wrong
    pub at_end : IsSome old.left → line_len talked.later ≡ Err Missing → IsAtEnd new.left
    pub is_bad : bad ≡ bad_reply (length talked.moment.replies + 1) wrong
    pub went : goes (said_so_far talked ++ last_line_of items end.Budget talked.moment.machine.event)

  -- a session could not go on, and what was said went to the sink in this way
  pub record StopsSo (goes : List ℕ → Type 0) : Type 0 where
    pub talked : Talked
    pub went : goes (said_so_far talked)

  -- a write failed: in the session, or at its last line
  abbrev pub IsCut : List Item → Type 0
  IsCut items =
      ((items ≡ []) × StopsSo (TookSome old new))
      ⊎ (((e : End) × EndsSo (TookSome old new) items e) ⊎ ((bad : Bad) × RefusesSo (TookSome old new) items bad))

abbrev pub AnswersKernel : ScheduleWord → ℕ → World → World → List Item → Status → Type 0
AnswersKernel schedule budget old new items (BadWorkload bad) = IsFrontRefused old.left bad × (items ≡ [])
AnswersKernel schedule budget old new items AllDone = EndsSo schedule budget old new (TookAll old new) items end.AllDone
AnswersKernel schedule budget old new items Stuck = EndsSo schedule budget old new (TookAll old new) items end.Stuck
AnswersKernel schedule budget old new items Budget = EndsSo schedule budget old new (TookAll old new) items end.Budget
AnswersKernel schedule budget old new items (BadReply bad) = RefusesSo schedule budget old new (TookAll old new) items bad
AnswersKernel schedule budget old new items ReadFault =
    HasRisen old.reads new.reads × (items ≡ []) × (IsSilent old new ⊎ StopsSo schedule budget old new (TookAll old new))
AnswersKernel schedule budget old new items WriteFault = HasRisen old.writes new.writes × IsCut schedule budget old new items
AnswersKernel schedule budget old new items OutOfMemory = (items ≡ []) × (IsSilent old new ⊎ StopsSo schedule budget old new (TookSome old new))
AnswersKernel schedule budget old new items other = ⊥
