-- How a session is over, and what it is where it could not go on.
use Rattle.std.specs.Prelude.{◌≡◌, ℕ, ◌+◌, List, ◌++◌, length, Option, Some, None, IsSome, Err}
use Rattle.std.specs.Io.KnownBytes.{Appends, IsAtEnd}
use Rattle.sa_base.specs.declared.record.End.{End}
use Rattle.sa_base.specs.declared.refusal.Cause.TheVariants.{Missing}
use Rattle.sa_spaces.specs.Workload.{WorkloadView}
use Rattle.sa_sched.specs.Order.{Order}
use Rattle.sa_core_model.specs.End.{end_of}
use Rattle.sa_lines_in.specs.Line.{line_len}
use Rattle.sa_asked.specs.declared.question.Question.{Question}
use Rattle.sa_asked.specs.Questions.{question}
use Rattle.sa_driven_model.specs.Step.{driven_calls}
use Rattle.sa_session.specs.declared.conversation.Close.{Close}
use Rattle.sa_session.specs.declared.conversation.Close.TheVariants.{Ended, Refused}
use Rattle.sa_session.specs.declared.conversation.Over.{Over}
use Rattle.sa_session.specs.declared.exchange.NoTalk.{NoTalk}
use Rattle.sa_session.specs.declared.wrong.Wrong.{Wrong}
use Rattle.sa_driven_runs.specs.Sessions.{DrivenMachine}
use Rattle.sa_session.specs.Machines.{proc_after}
use Rattle.sa_session.specs.Text.{ask_text}
use Rattle.sa_session.specs.Answer.{answer_in}
use Rattle.sa_session.specs.Moments.{Moment, Reaches}
use Rattle.sa_session.specs.Exchange.{Hears, WrittenFor}

-- what was said at a moment, with the question that is open, if the next event is a step
abbrev pub said_at : WorkloadView → Order → Moment → List ℕ
said_at w order x = x.text ++ ask_text x.machine (proc_after w order x.machine.event)

module _ (w : WorkloadView) (order : Order) (budget : ℕ) (kept : List ℕ) (before after old new : Option (List ℕ)) where
  -- the run ended so, and all was written; the replies were read, and perhaps more
  pub record EndsAt (x : Moment) (end : End) : Type 0 where
    pub ends : end_of driven_calls budget x.machine ≡ Some end
    pub later : List ℕ
    pub hears : Hears kept later before after x.replies
    pub taken : Appends old new x.text

  -- The reply to the open question is refused: with it begins what came after the others, and this is the first thing that is
  -- wrong with it. All was written.
  pub record IsRefused (x : Moment) (line : ℕ) (wrong : Wrong) : Type 0 where
    pub goes_on : end_of driven_calls budget x.machine ≡ None
    pub asked : Question
    pub is_asked : question driven_calls x.machine (proc_after w order x.machine.event) ≡ Some asked
    pub later : List ℕ
    pub hears : Hears kept later before after x.replies
    pub is_wrong : answer_in x.machine (proc_after w order x.machine.event) asked.space later ≡ Err wrong
    pub end : IsSome before → line_len later ≡ Err Missing → IsAtEnd after
    pub counted : line ≡ length x.replies + 1
    pub taken : Appends old new (said_at w order x)

  abbrev pub Closes : Moment → Close → Type 0
  Closes x (Ended end) = EndsAt x end
  Closes x (Refused line wrong) = IsRefused x line wrong

  -- A session of a workload came to this machine, and is over.
  pub record IsClosed (m : DrivenMachine) (close : Close) : Type 0 where
    pub moment : Moment
    pub is : moment.machine ≡ m
    pub reached : Reaches w order budget m.event moment
    pub closes : Closes moment close

  -- The same, with its trace and the number of its last event.
  pub record IsOver (over : Over) : Type 0 where
    pub machine : DrivenMachine
    pub closed : IsClosed machine over.close
    pub items : over.trace.items ≡ machine.items
    pub events : over.events ≡ machine.event

  -- A session could not go on for this: it came so far, and so much of what was said was written.
  pub record CameSoFar (why : NoTalk) : Type 0 where
    pub moment : Moment
    pub reached : Reaches w order budget moment.machine.event moment
    pub later : List ℕ
    pub hears : Hears kept later before after moment.replies
    pub taken : WrittenFor why old new (said_at w order moment)
