-- What a line of a script says, or the first thing that is wrong with it.
use Rattle.std.specs.Prelude.{ℕ, nat_lt, Option, Some, None, Result, Ok, Err, if◌then◌else◌}
use Rattle.sa_base.specs.declared.refusal.Cause.{Cause}
use Rattle.sa_base.specs.declared.refusal.Cause.TheVariants.{BadWord, TooMany}
use Rattle.sa_spaces.specs.Workload.{WorkloadView}
use Rattle.sa_text.specs.LineText.{LineText}
use Rattle.sa_trace.specs.Line.{pieces_in}
use Rattle.sa_trace.specs.Pieces.{and_then, unless, at_end}
use Rattle.sa_debug.specs.declared.script.command.DebugCommand.{DebugCommand}
use Rattle.sa_debug.specs.declared.script.command.DebugCommand.TheVariants as commands
use Rattle.sa_debug.specs.declared.script.TheConstants.{MAX_LINES}
use Rattle.sa_debug.specs.declared.script.word.Word.{Word}
use Rattle.sa_debug.specs.declared.script.word.Word.TheVariants.{Break, Clear, Halt, Go, Step, Run, Show, Quit}
use Rattle.sa_debug.specs.script.Words.{word_in}
use Rattle.sa_debug.specs.script.Fields.{Pieces, Taken, taken, made, proc_in, turns_in, thread_at, point_at}

-- after each word its fields: together they are a command, or the end of the script
abbrev pub command_at : WorkloadView → Word → Pieces → Taken (Option DebugCommand)
command_at w Break pieces = made (λ x. Some (commands.Break x)) (point_at w pieces)
command_at w Clear pieces = made (λ x. Some (commands.Clear x)) (point_at w pieces)
command_at w Halt pieces = made (λ p. Some (commands.Halt p)) (taken (proc_in w) pieces)
command_at w Go pieces = made (λ p. Some (commands.Go p)) (taken (proc_in w) pieces)
command_at w Step pieces = made (λ p. Some (commands.Step p)) (taken (proc_in w) pieces)
command_at w Run pieces = made (λ n. Some (commands.Run n)) (taken turns_in pieces)
command_at w Show pieces = made (λ x. Some (commands.Show x.space x.thread)) (thread_at w pieces)
command_at w Quit pieces = Ok (None, pieces)

-- and nothing after them
abbrev pub finished : Taken (Option DebugCommand) → Result (Option DebugCommand) Cause
finished r = and_then r (λ x. unless (at_end x.1) x.0)

abbrev pub said_by : WorkloadView → Pieces → Result (Option DebugCommand) Cause
said_by w pieces = and_then (taken word_in pieces) (λ x. finished (command_at w x.0 x.1))

-- the line of this number, from 1: printed ASCII, ended, not one too many, and a command
abbrev pub line_in : WorkloadView → ℕ → LineText → Result (Option DebugCommand) Cause
line_in w number line = and_then (pieces_in line) (λ pieces. if nat_lt MAX_LINES number then Err TooMany else said_by w pieces)

-- why the line of this number may not follow the last one
abbrev pub too_many : ℕ → Result Pieces Cause → Cause
too_many number (Ok pieces) = if nat_lt MAX_LINES number then TooMany else BadWord
too_many number (Err cause) = cause

abbrev pub cause_after : ℕ → LineText → Cause
cause_after number line = too_many number (pieces_in line)
