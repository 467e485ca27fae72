-- What `top` promises of a request, and the program of its arguments.
use Rattle.std.specs.Prelude.{◌≡◌, ◌⊎◌, ◌↔◌, ◌+◌, ◌≤◌, Option, None, Result, Ok, Err}
use Rattle.std.specs.declared.string.String.{String}
use Rattle.std.specs.declared.vec.IntoIter.{IntoIter}
use Rattle.std.specs.declared.io.Error.{Error}
use Rattle.std.specs.Vec.Iter.{into_iter_items}
use Rattle.std.specs.IoError.{error_kind}
use Rattle.sa_io.specs.Input.{LosesAtMost}
use Rattle.sa_io.specs.Streams.{World, Streams}
use Rattle.sa_io.specs.Words.{words_after_name, without_words}
use Rattle.sa_input.specs.declared.limits.TheConstants.{TRACE_LIMIT}
use Rattle.sa_picture.specs.declared.request.Request.{Request}
use Rattle.sa_picture.specs.declared.status.Status.{Status}
use Rattle.sa_picture.specs.declared.status.Status.TheVariants.{Usage, OutOfMemory}
use Rattle.sa_picture.specs.Request.{request_of}
use Rattle.sa_picture.specs.Status.{WritesNothing, status_of_no_words}
use Rattle.sa_picture.specs.Answers.{AnswersTo}

-- The status is an answer to the request, where the source and the sink were `before` and have become `after`.
pub record DoesTheRequest {S K : Type 0} (world_of : Streams S K → World) (request : Option Request) (before after : Streams S K) (status : Status)
    : Type 0 where
  -- Usage is answered exactly where the words are no request.
  pub usage : (status ≡ Usage) ↔ (request ≡ None)
  -- On Usage the source and the sink are what they were.
  pub untouched : status ≡ Usage → (after.source ≡ before.source) × (after.sink ≡ before.sink)
  -- The sink is what it was wherever the status says that nothing is written.
  pub unwritten : WritesNothing status → after.sink ≡ before.sink
  -- Whatever the answer, the source lost at its front at most one byte more than the limit, or none.
  pub lost : LosesAtMost (TRACE_LIMIT + 1) (world_of before).left (world_of after).left
  -- Whatever the answer, the counts of failed reads and writes did not fall.
  pub reads_counted : (world_of before).reads ≤ (world_of after).reads
  pub writes_counted : (world_of before).writes ≤ (world_of after).writes
  -- Each answer comes only for its cause, and says what was read and written.
  pub answers : AnswersTo request (world_of before) (world_of after) status

-- Nothing is touched, with this status.
pub record DoesNothing {S K : Type 0} (why : Status) (before after : Streams S K) (status : Status) : Type 0 where
  pub status_is : status ≡ why
  pub source : after.source ≡ before.source
  pub sink : after.sink ≡ before.sink

-- The status is an answer to the arguments: to the request of the words after the program's name, unless memory runs out for these words.
abbrev pub DoesTheProgram : {S K Z A : Type 0} → (Streams S K → World) → Result (IntoIter (String Z) A) Error → Streams S K → Streams S K → Status → Type 0
DoesTheProgram world_of (Ok args) before after status =
    DoesNothing OutOfMemory before after status ⊎ DoesTheRequest world_of (request_of (words_after_name (into_iter_items args))) before after status
DoesTheProgram world_of (Err error) before after status = DoesNothing (status_of_no_words (without_words (error_kind error))) before after status
