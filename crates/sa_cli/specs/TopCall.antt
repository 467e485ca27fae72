-- What `run_one` and `run_threads` promise of a command, and the program of its arguments.
use Rattle.std.specs.Prelude.{◌≡◌, ◌⊎◌, ◌↔◌, ◌≤◌, ⊤, Option, None, Result, Ok, Err}
use Rattle.std.specs.declared.string.String.{String}
use Rattle.std.specs.declared.vec.IntoIter.{IntoIter}
use Rattle.std.specs.declared.io.Error.{Error}
use Rattle.std.specs.Vec.Iter.{into_iter_items}
use Rattle.std.specs.IoError.{error_kind}
use Rattle.sa_io.specs.Words.{words_after_name, without_words}
use Rattle.sa_command.specs.declared.command.Command.{Command}
use Rattle.sa_command.specs.Commands.{command_of}
use Rattle.sa_cli.specs.declared.outcome.Outcome.{Outcome}
use Rattle.sa_cli.specs.declared.outcome.Ran.TheVariants.{Nothing}
use Rattle.sa_cli.specs.declared.outcome.Status.{Status}
use Rattle.sa_cli.specs.declared.outcome.Status.TheVariants.{Usage, OutOfMemory}
use Rattle.sa_cli.specs.Outcome.{status_of_no_words}
use Rattle.sa_cli.specs.Answers.{World}
use Rattle.sa_cli.specs.Streams.{Streams}
use Rattle.sa_cli.specs.Commands.{AnswersTo, CanHaveRun, ReadsNothing, SearchesNothing, WritesNothingBy, Loses}
use Rattle.sa_cli.specs.Complete.{IsCompleteTo}

-- The outcome is an answer to the command, where the source and the sink were `before` and have become `after`.
pub record DoesTheCommand {S K : Type 0} (world_of : Streams S K → World) (command : Option Command) (before after : Streams S K) (outcome : Outcome)
    : Type 0 where
  -- Usage is answered exactly where the words are no command.
  pub usage : (outcome.status ≡ Usage) ↔ (command ≡ None)
  -- On Usage the source and the sink are what they were.
  pub untouched : outcome.status ≡ Usage → (after.source ≡ before.source) × (after.sink ≡ before.sink)
  -- The sink is what it was wherever the status says that the command writes nothing.
  pub unwritten : WritesNothingBy command outcome.status → after.sink ≡ before.sink
  -- The source is what it was under a command that reads nothing.
  pub unread : ReadsNothing command → after.source ≡ before.source
  -- What ran is what the command lets run.
  pub ran : CanHaveRun command outcome.ran
  -- Whatever the answer, the source lost bytes at its front alone, or none; but under `kernel`, at most one more than the limit of the
  -- command's input.
  pub lost : Loses command (world_of before).left (world_of after).left
  -- Whatever the answer, the count of failed reads did not fall.
  pub reads_counted : (world_of before).reads ≤ (world_of after).reads
  -- Whatever the answer, the count of failed writes did not fall.
  pub writes_counted : (world_of before).writes ≤ (world_of after).writes
  -- Each answer comes only for its cause, and says what ran and what was written.
  pub answers : AnswersTo command (world_of before) (world_of after) outcome.ran outcome.status
  -- Where nothing fails and the input is told, the command is done, or its input is refused.
  pub complete : IsCompleteTo command (world_of before) (world_of after) outcome.status

-- Nothing ran and nothing is touched, with this status.
pub record DoesNothing {S K : Type 0} (status : Status) (before after : Streams S K) (outcome : Outcome) : Type 0 where
  pub status_is : outcome.status ≡ status
  pub ran : outcome.ran ≡ Nothing
  pub source : after.source ≡ before.source
  pub sink : after.sink ≡ before.sink

-- The outcome is an answer to the arguments: to the command of the words after the program's name, unless memory runs out for these words.
abbrev pub DoesTheProgram : {S K Z A : Type 0} → (Streams S K → World) → Result (IntoIter (String Z) A) Error → Streams S K → Streams S K → Outcome → Type 0
DoesTheProgram world_of (Ok args) before after outcome =
    DoesNothing OutOfMemory before after outcome ⊎ DoesTheCommand world_of (command_of (words_after_name (into_iter_items args))) before after outcome
DoesTheProgram world_of (Err error) before after outcome = DoesNothing (status_of_no_words (without_words (error_kind error))) before after outcome

-- The arguments ask for nothing that searches.
abbrev pub AsksForNoSearch : {Z A : Type 0} → Result (IntoIter (String Z) A) Error → Type 0
AsksForNoSearch (Ok args) = SearchesNothing (command_of (words_after_name (into_iter_items args)))
AsksForNoSearch (Err error) = ⊤
