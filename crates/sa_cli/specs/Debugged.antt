-- What comes of a session by a script.
use Rattle.std.specs.Prelude.{◌≡◌, ◌⊎◌, ℕ, ◌+◌, List, [], length, Option, Some, None, Ok, Err}
use Rattle.std.specs.List.{flat_map}
use Rattle.sa_base.specs.declared.record.End.{End}
use Rattle.sa_base.specs.declared.record.End.TheVariants.{Budget}
use Rattle.sa_base.specs.declared.record.Item.{Item}
use Rattle.sa_spaces.specs.Workload.{WorkloadView}
use Rattle.sa_laws.specs.Event.{events_of}
use Rattle.sa_core_model.specs.End.{end_of}
use Rattle.sa_core_model.specs.Run.{opening}
use Rattle.sa_package_model.specs.Step.{fast_calls}
use Rattle.sa_package_runs.specs.Runs.{FastMachine}
use Rattle.sa_debug.specs.declared.script.command.DebugCommand.{DebugCommand}
use Rattle.sa_debug.specs.declared.script.reply.Reply.{Reply}
use Rattle.sa_debug.specs.script.Reading.{script_of}
use Rattle.sa_debug.specs.script.Reply.{reply_text}
use Rattle.sa_debug.specs.Session.{Session, fresh, DoAll}
use Rattle.sa_debug.specs.OverMachines.{over_machines}
use Rattle.sa_package_runs.specs.Sessions.{IsLegalSession}
use Rattle.sa_package_runs.specs.Told.{IsTold, CameSoFar, IsToldSoFar, by_history}
use Rattle.sa_cli.specs.declared.session.Undebugged.{Undebugged}
use Rattle.sa_cli.specs.declared.session.Undebugged.TheVariants.{BadScript, OutOfMemory}

-- the texts of replies, one after another
abbrev pub replies_text : List Reply → List ℕ
replies_text replies = flat_map reply_text replies

-- these commands lead from the one session to the other, and this is the text of the replies
pub record AreDone (budget : ℕ) (commands : List DebugCommand) (s t : Session FastMachine) (text : List ℕ) : Type 0 where
  pub replies : List Reply
  pub done : DoAll (over_machines fast_calls budget) commands s t replies
  pub says : text ≡ replies_text replies

-- the end that the last line of the trace tells
abbrev pub told_end : Option End → End
told_end None = Budget
told_end (Some end) = end

-- The commands were done from the machine's opening on: these are the texts of the replies, the items of the trace, the end
-- that is told, and the number of events, which is that of the trace without the opening. The trace is a legal and strict run,
-- and it has ended as the definitions say. And a reader of the trace is told the same session: over histories the commands lead
-- to this trace, with the same replies.
pub record IsOver (w : WorkloadView) (budget : ℕ) (commands : List DebugCommand) (replies : List ℕ) (items : List Item) (end : End) (events : ℕ) : Type 0 where
  pub session : Session FastMachine
  pub done : AreDone budget commands (fresh (opening fast_calls w)) session replies
  pub shows : items ≡ session.machine.items
  pub ends : end ≡ told_end (end_of fast_calls budget session.machine)
  pub counts : events ≡ session.machine.event
  pub counted : length (events_of items) ≡ events + 1
  pub legal : IsLegalSession w budget session.machine
  pub told : IsTold w budget commands (by_history session) done.replies

-- the same, as far as it came: a reader of the trace is told this session alone, of those that did as many of the commands
pub record IsPartly (w : WorkloadView) (budget : ℕ) (commands : List DebugCommand) (items : List Item) : Type 0 where
  pub session : Session FastMachine
  pub came : CameSoFar (over_machines fast_calls budget) commands (fresh (opening fast_calls w)) session
  pub shows : items ≡ session.machine.items
  pub legal : IsLegalSession w budget session.machine
  pub told : IsToldSoFar w budget commands came.count came.replies (by_history session)

-- where memory ran out nothing ran, or some of the commands were done
abbrev pub RanSoFar : WorkloadView → (budget : ℕ) → List DebugCommand → List Item → Type 0
RanSoFar w budget commands items = (items ≡ []) ⊎ IsPartly w budget commands items

-- the bytes are a script for this workload, and its commands were done
pub record IsDebugged (w : WorkloadView) (budget : ℕ) (script replies : List ℕ) (items : List Item) (end : End) (events : ℕ) : Type 0 where
  pub commands : List DebugCommand
  pub read : script_of w script ≡ Ok commands
  pub over : IsOver w budget commands replies items end events

-- the bytes are a script for this workload, and some of its commands were done
pub record IsDebuggedSoFar (w : WorkloadView) (budget : ℕ) (script : List ℕ) (items : List Item) : Type 0 where
  pub commands : List DebugCommand
  pub read : script_of w script ≡ Ok commands
  pub so_far : IsPartly w budget commands items

-- why a session is not over
abbrev pub IsUndebugged : WorkloadView → (budget : ℕ) → List ℕ → Undebugged → Type 0
IsUndebugged w budget script (BadScript bad) = script_of w script ≡ Err bad
IsUndebugged w budget script (OutOfMemory trace) = (trace.items ≡ []) ⊎ IsDebuggedSoFar w budget script trace.items
