-- What `debug` answers: the input is a workload text up to its first line that is `close`, and directly after it a script.
use Rattle.std.specs.Prelude.{◌≡◌, ◌⊎◌, ℕ, ◌<◌, ◌≤◌, List, [], ◌++◌, length, Option, Ok, Err, IfSome}
use Rattle.sa_base.specs.declared.record.End.{End}
use Rattle.sa_base.specs.declared.record.Item.{Item}
use Rattle.sa_base.specs.declared.refusal.Bad.{Bad}
use Rattle.sa_io.specs.Faults.{HasRisen}
use Rattle.sa_spaces.specs.Workload.{WorkloadView}
use Rattle.sa_workload.specs.Text.{IsText}
use Rattle.sa_workload.specs.Bad.{BadAt}
use Rattle.sa_trace.specs.TraceText.{trace_text}
use Rattle.sa_debug.specs.declared.script.command.DebugCommand.{DebugCommand}
use Rattle.sa_debug.specs.script.Reading.{script_of}
use Rattle.sa_cli.specs.Debugged.{IsOver, RanSoFar}
use Rattle.sa_input.specs.declared.limits.TheConstants.{SCRIPT_LIMIT}
use Rattle.sa_input.specs.declared.limits.TheConstants.{WORKLOAD_LIMIT}
use Rattle.sa_cli.specs.declared.outcome.Ran.{Ran}
use Rattle.sa_cli.specs.declared.outcome.Ran.TheVariants.{Nothing}
use Rattle.sa_cli.specs.declared.outcome.Status.{Status}
use Rattle.sa_cli.specs.declared.outcome.Status.TheVariants as status
use Rattle.sa_io.specs.Input.{ReadsInput}
use Rattle.sa_cli.specs.Outcome.{history}
use Rattle.sa_input.specs.Refusals.{IsInputRefused, too_long}
use Rattle.sa_workload.specs.Texts.{workload_part, second_part}
use Rattle.sa_cli.specs.Answers.{World, TookAll, TookSome}

-- the first part is the text of this workload, and the whole is not too long
pub record BeginsWith (input : List ℕ) (w : WorkloadView) : Type 0 where
  pub whole : length input ≤ SCRIPT_LIMIT
  pub short : length (workload_part input) ≤ WORKLOAD_LIMIT
  pub is : IsText (workload_part input) w

-- the first part is the text of this workload, and the second one is a script of these commands for it
pub record IsScriptOf (input : List ℕ) (w : WorkloadView) (commands : List DebugCommand) : Type 0 where
  pub has : BeginsWith input w
  pub read : script_of w (second_part input) ≡ Ok commands

-- the first part is refused
pub record RefusesWorkload (input : List ℕ) (bad : Bad) : Type 0 where
  pub whole : length input ≤ SCRIPT_LIMIT
  pub refused : IsInputRefused BadAt (workload_part input) bad

-- the second part is refused, after a workload text
pub record RefusesScript (input : List ℕ) (bad : Bad) : Type 0 where
  pub workload : WorkloadView
  pub has : BeginsWith input workload
  pub read : script_of workload (second_part input) ≡ Err bad

-- what an input is found to be
pub data Scripted : Type 0 where
  Accepted : WorkloadView → List DebugCommand → Scripted
  BadWorkload : Bad → Scripted
  BadScript : Bad → Scripted

-- An input is found to be this; one that is too long is refused first.
abbrev pub IsScripted : List ℕ → Scripted → Type 0
IsScripted input (Accepted w commands) = IsScriptOf input w commands
IsScripted input (BadWorkload bad) = RefusesWorkload input bad
IsScripted input (BadScript bad) =
    ((SCRIPT_LIMIT < length input) × (bad ≡ too_long SCRIPT_LIMIT input)) ⊎ RefusesScript input bad

abbrev pub status_of_scripted : Scripted → Status
status_of_scripted (Accepted w commands) = status.Quit
status_of_scripted (BadWorkload bad) = status.BadWorkload bad
status_of_scripted (BadScript bad) = status.BadScript bad

-- the source gave an input that is found to be this; where it tells, this is what it had
pub record GaveScripted (before after : Option (List ℕ)) (found : Scripted) : Type 0 where
  pub input : List ℕ
  pub reads : ReadsInput SCRIPT_LIMIT before after input
  pub is : IsScripted input found
  pub told : IfSome before (λ whole. IsScripted whole found)

-- The commands were done with a machine of the workload, whose trace this is: it is a legal and strict run. The replies, each
-- with its line feed, and after them the trace text went to the sink in this way.
pub record Debugged (budget : ℕ) (old new : World) (goes : List ℕ → Type 0) (items : List Item) : Type 0 where
  pub workload : WorkloadView
  pub commands : List DebugCommand
  pub gave : GaveScripted old.left new.left (Accepted workload commands)
  pub replies : List ℕ
  pub end : End
  pub events : ℕ
  pub over : IsOver workload budget commands replies items end events
  pub went : goes (replies ++ trace_text items end events)

-- some of the commands were done with a machine of the workload, whose trace this is
pub record DebuggedSoFar (budget : ℕ) (old new : World) (items : List Item) : Type 0 where
  pub workload : WorkloadView
  pub commands : List DebugCommand
  pub gave : GaveScripted old.left new.left (Accepted workload commands)
  pub came : RanSoFar workload budget commands items

abbrev pub AnswersDebug : ℕ → World → World → Ran → Status → Type 0
AnswersDebug budget old new ran status.ReadFault = HasRisen old.reads new.reads × (ran ≡ Nothing)
AnswersDebug budget old new ran (status.BadWorkload bad) = GaveScripted old.left new.left (BadWorkload bad) × (ran ≡ Nothing)
AnswersDebug budget old new ran (status.BadScript bad) = GaveScripted old.left new.left (BadScript bad) × (ran ≡ Nothing)
AnswersDebug budget old new ran status.Quit = Debugged budget old new (TookAll old new) (history ran)
AnswersDebug budget old new ran status.WriteFault = HasRisen old.writes new.writes × Debugged budget old new (TookSome old new) (history ran)
AnswersDebug budget old new ran status.OutOfMemory = (history ran ≡ []) ⊎ DebuggedSoFar budget old new (history ran)
AnswersDebug budget old new ran other = ⊥
