-- What the program answers: what came of the source and of the sink, by the status.
use Rattle.std.specs.Prelude.{⊤, ℕ, List, Option, Some, None}
use Rattle.std.specs.Io.KnownBytes.{Appends}
use Rattle.sa_io.specs.Faults.{HasRisen, AppendsPrefix}
use Rattle.sa_io.specs.Input.{ReadsInput}
use Rattle.sa_io.specs.Streams.{World}
use Rattle.sa_input.specs.declared.limits.TheConstants.{TRACE_LIMIT}
use Rattle.sa_picture.specs.declared.request.Request.{Request}
use Rattle.sa_picture.specs.declared.status.Status.{Status}
use Rattle.sa_picture.specs.declared.status.Status.TheVariants.{Drawn, Usage, ReadFault, WriteFault, OutOfMemory}
use Rattle.sa_picture.specs.Paged.{IsWritten, IsNotWritten}

-- the source gave an input, and the text that is asked for of it went to the sink in this way
pub record Draws (r : Request) (old new : World) (goes : List ℕ → Type 0) : Type 0 where
  pub input : List ℕ
  pub reads : ReadsInput TRACE_LIMIT old.left new.left input
  pub text : List ℕ
  pub drawn : IsWritten r input text
  pub went : goes text

-- the source gave an input of which nothing is written, for the cause that the status says
pub record Refuses (r : Request) (old new : World) (status : Status) : Type 0 where
  pub input : List ℕ
  pub reads : ReadsInput TRACE_LIMIT old.left new.left input
  pub cause : IsNotWritten r input status

abbrev pub Answers : Request → World → World → Status → Type 0
Answers r old new Drawn = Draws r old new (Appends old.taken new.taken)
Answers r old new WriteFault = HasRisen old.writes new.writes × Draws r old new (AppendsPrefix old.taken new.taken)
Answers r old new ReadFault = HasRisen old.reads new.reads
Answers r old new OutOfMemory = ⊤
Answers r old new Usage = ⊥
Answers r old new status = Refuses r old new status

abbrev pub AnswersTo : Option Request → World → World → Status → Type 0
AnswersTo None old new status = ⊤
AnswersTo (Some r) old new status = Answers r old new status
