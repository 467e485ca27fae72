-- What is promised of a command, from what its parts say.
use Rattle.std.proofs.Common.{◌≡◌, ℕ, ◌≤◌, List, Option, Some, None, Result, Ok, Err, refl, sym, subst, arith}
use Rattle.std.specs.Prelude.{⊤}
use Rattle.std.specs.declared.string.String.{String}
use Rattle.std.specs.declared.vec.IntoIter.{IntoIter}
use Rattle.std.specs.declared.io.Error.{Error}
use Rattle.sa_io.specs.Words.{AreWords}
use Rattle.sa_io.specs.Input.{LosesAtMost}
use Rattle.sa_io.proofs.InputLemmas.{loses-nothing}
use Rattle.sa_command.specs.Commands.{command_of}
use Rattle.sa_command.specs.declared.command.Command.{Command}
use Rattle.sa_command.specs.declared.command.Command.TheVariants.{Kernel}
use Rattle.sa_cli.specs.declared.outcome.Outcome.{Outcome}
use Rattle.sa_cli.specs.declared.outcome.Ran.TheVariants.{Nothing}
use Rattle.sa_cli.specs.declared.outcome.Status.{Status}
use Rattle.sa_cli.specs.declared.outcome.Status.TheVariants.{Usage}
use Rattle.sa_cli.specs.Answers.{World}
use Rattle.sa_cli.specs.Outcome.{WritesNothing}
use Rattle.sa_cli.specs.Commands.{Answers, CanHaveRun, ReadsNothing, SearchesNothing, WritesNothingBy, most_read, Loses}
use Rattle.sa_cli.specs.Streams.{Streams, UsesStreams}
use Rattle.sa_cli.specs.TopCall.{DoesTheCommand, AsksForNoSearch}
use Rattle.sa_cli.proofs.Results.{not-usage}
use Rattle.sa_cli.proofs.Completeness.{answers-complete}

-- a command that reads its whole input before it writes
abbrev pub ReadsAllFirst : Command → Type 0
ReadsAllFirst (Kernel schedule budget) = ⊥
ReadsAllFirst other = ⊤

unwritten-so : (command : Command) → ReadsAllFirst command → (status : Status) → WritesNothingBy (Some command) status → WritesNothing status
unwritten-so (Kernel schedule budget) first status nothing = absurd first
unwritten-so _ first status nothing = nothing

lost-so : (command : Command) → ReadsAllFirst command → (before after : Option (List ℕ)) → LosesAtMost (most_read (Some command)) before after
    → Loses (Some command) before after
lost-so (Kernel schedule budget) first before after lost = absurd first
lost-so _ first before after lost = lost

module _ {S K : Type 0} {world_of : Streams S K → World} {before after : Streams S K} {outcome : Outcome} where
  -- what is done of a command is done of words that are the command
  pub does-along : (o p : Option Command) → o ≡ p → DoesTheCommand world_of o before after outcome → DoesTheCommand world_of p before after outcome
  does-along o p is does = subst (λ (v : Option Command). DoesTheCommand world_of v before after outcome) is does

  -- a command that is answered is done
  pub does-so : (command : Command) → CanHaveRun (Some command) outcome.ran → (ReadsNothing (Some command) → after.source ≡ before.source)
      → (WritesNothingBy (Some command) outcome.status → after.sink ≡ before.sink) → Loses (Some command) (world_of before).left (world_of after).left
      → (world_of before).reads ≤ (world_of after).reads → (world_of before).writes ≤ (world_of after).writes
      → Answers command (world_of before) (world_of after) outcome.ran outcome.status → DoesTheCommand world_of (Some command) before after outcome
  does-so command ran unread unwritten lost reads writes answers =
      let old = world_of before in
      let new = world_of after in
      let not_usage : outcome.status ≡ Usage → ⊥ =
      λ usage. not-usage command old new outcome.ran (subst (λ (v : Status). Answers command old new outcome.ran v) usage answers) in
      record {
        usage = (λ usage. absurd (not_usage usage), λ none. absurd cc);
        untouched = λ usage. absurd (not_usage usage);
        unwritten = unwritten;
        unread = unread;
        ran = ran;
        lost = lost;
        reads_counted = reads;
        writes_counted = writes;
        answers = answers;
        complete = answers-complete command old new outcome.ran outcome.status answers;
      }

  pub does : (command : Command) → ReadsAllFirst command → CanHaveRun (Some command) outcome.ran
      → (ReadsNothing (Some command) → after.source ≡ before.source)
      → UsesStreams world_of (most_read (Some command)) before after outcome.status → Answers command (world_of before) (world_of after) outcome.ran outcome.status
      → DoesTheCommand world_of (Some command) before after outcome
  does command first ran unread uses answers =
      does-so command ran unread (λ nothing. uses.unwritten (unwritten-so command first outcome.status nothing))
      (lost-so command first (world_of before).left (world_of after).left uses.lost) uses.reads_counted uses.writes_counted answers

-- words that are no command are answered so, and nothing is touched
pub does-nothing : {S K : Type 0} {world_of : Streams S K → World} {both : Streams S K} {outcome : Outcome}
    → outcome.status ≡ Usage → outcome.ran ≡ Nothing → DoesTheCommand world_of None both both outcome
does-nothing {world_of = world_of} {both = both} usage ran = record {
  usage = (λ usage. refl, λ none. usage);
  untouched = λ usage. (refl, refl);
  unwritten = λ nothing. refl;
  unread = λ load. absurd load;
  ran = ran;
  lost = loses-nothing 0 (world_of both).left;
  reads_counted = omega arith;
  writes_counted = omega arith;
  answers = tt;
  complete = tt;
}

-- the words of arguments that ask for nothing that searches ask for nothing that does
pub no-search : {Z A : Type 0} (args : Result (IntoIter (String Z) A) Error) (words : List (List ℕ)) → AreWords args (Ok words) → AsksForNoSearch args
    → SearchesNothing (command_of words)
no-search (Ok it) words are none = subst (λ (ws : List (List ℕ)). SearchesNothing (command_of ws)) (sym are) none
no-search (Err error) words are none = absurd are
