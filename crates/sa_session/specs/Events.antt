-- What an event does to a session.
use Rattle.std.specs.Prelude.{◌≡◌, ℕ, ◌+◌, List, [], ◌++◌, Option, Some, None, IsSome, Err}
use Rattle.std.specs.Io.KnownBytes.{IsAtEnd}
use Rattle.sa_base.specs.declared.number.ProcNo.{ProcNo}
use Rattle.sa_base.specs.declared.refusal.Cause.TheVariants.{Missing}
use Rattle.sa_io.specs.Pieces.{GoesOut}
use Rattle.sa_lines_in.specs.Line.{line_len}
use Rattle.sa_asked.specs.declared.question.Question.{Question}
use Rattle.sa_asked.specs.Questions.{question}
use Rattle.sa_driven_model.specs.Step.{driven_calls}
use Rattle.sa_session.specs.declared.conversation.Went.{Went}
use Rattle.sa_session.specs.declared.conversation.Went.TheVariants.{Alone, Answered, Refused}
use Rattle.sa_session.specs.declared.exchange.NoTalk.{NoTalk}
use Rattle.sa_session.specs.declared.wrong.Wrong.{Wrong}
use Rattle.sa_driven_runs.specs.Sessions.{DrivenMachine}
use Rattle.sa_session.specs.Exchange.{ExchangeView, Hears, WrittenFor}
use Rattle.sa_session.specs.Text.{ask_text}
use Rattle.sa_session.specs.Answer.{answer_in}
use Rattle.sa_session.specs.Moments.{IsEvent, lines_of}

module _ (m : DrivenMachine) (p : ProcNo) (x : ExchangeView) (before after old new : Option (List ℕ)) where
  -- it was made, by the reply of this line or without one
  pub record Makes (line : Option (List ℕ)) (y : ExchangeView) (made : DrivenMachine) : Type 0 where
    pub event : IsEvent m p line made
    pub number : made.event ≡ m.event + 1
    pub workload : made.workload ≡ m.workload
    pub hears : Hears x.kept y.kept before after (lines_of line)
    pub out : GoesOut old new x.said (ask_text m p) y.said

  -- it was not made: its question was said, and the reply is refused
  pub record Refuses (wrong : Wrong) (y : ExchangeView) (made : DrivenMachine) : Type 0 where
    pub asked : Question
    pub is_asked : question driven_calls m p ≡ Some asked
    pub later : List ℕ
    pub hears : Hears x.kept later before after []
    pub is_wrong : answer_in m p asked.space later ≡ Err wrong
    pub end : IsSome before → line_len later ≡ Err Missing → IsAtEnd after
    pub out : GoesOut old new x.said (ask_text m p) y.said
    pub same : made ≡ m

  abbrev pub Goes : Went → ExchangeView → DrivenMachine → Type 0
  Goes Alone y made = Makes None y made
  Goes Answered y made = (line : List ℕ) × Makes (Some line) y made
  Goes (Refused wrong) y made = Refuses wrong y made

  -- it could not be made for this: so much of what was said was written, and all that was read is left
  pub record IsLost (why : NoTalk) : Type 0 where
    pub later : List ℕ
    pub hears : Hears x.kept later before after []
    pub taken : WrittenFor why old new (x.said ++ ask_text m p)
