-- How a session goes on, event by event.
use Rattle.std.specs.Prelude.{◌≡◌, ℕ, zero, suc, List, [], ◌∷◌, ◌++◌, length, Option, Some, None}
use Rattle.sa_base.specs.declared.number.ProcNo.{ProcNo}
use Rattle.sa_spaces.specs.Workload.{WorkloadView}
use Rattle.sa_sched.specs.Order.{Order}
use Rattle.sa_core_model.specs.End.{end_of}
use Rattle.sa_core_model.specs.Run.{opening, IsMove}
use Rattle.sa_core_model.specs.Run.Move.{turn}
use Rattle.sa_asked.specs.declared.question.Question.{Question}
use Rattle.sa_asked.specs.Questions.{question}
use Rattle.sa_driven_model.specs.Step.{driven_calls}
use Rattle.sa_driven_runs.specs.Sessions.{DrivenMachine}
use Rattle.sa_session.specs.Machines.{proc_after}
use Rattle.sa_session.specs.Text.{ask_text, text_from}
use Rattle.sa_session.specs.Answer.{Puts}

-- the machine, what was said so far, and the lines of the replies that were done
pub record Moment : Type 0 where
  pub machine : DrivenMachine
  pub text : List ℕ
  pub replies : List (List ℕ)

-- at the opening the lines of its items are said
abbrev pub first_moment : WorkloadView → Moment
first_moment w = record {
  machine = opening driven_calls w;
  text = text_from 0 w (opening driven_calls w).items;
  replies = [];
}

-- an event that is a step: its question was answered by this line, whose reply it does
pub record IsAnswered (m : DrivenMachine) (p : ProcNo) (line : List ℕ) (after : DrivenMachine) : Type 0 where
  pub asked : Question
  pub is_asked : question driven_calls m p ≡ Some asked
  pub between : DrivenMachine
  pub puts : Puts m p asked.space line between
  pub made : IsMove driven_calls between (turn p) after

-- an event, with the line of its reply; or without one if it is no step: an interrupt, the end of an I/O or a tick
abbrev pub IsEvent : DrivenMachine → ProcNo → Option (List ℕ) → DrivenMachine → Type 0
IsEvent m p None after = (question driven_calls m p ≡ None) × IsMove driven_calls m (turn p) after
IsEvent m p (Some line) after = IsAnswered m p line after

abbrev pub lines_of : Option (List ℕ) → List (List ℕ)
lines_of None = []
lines_of (Some line) = line ∷ []

-- One event more: the question was said before it, if it is a step, and the lines of its items after it.
pub record GoesOn (p : ProcNo) (x y : Moment) : Type 0 where
  pub line : Option (List ℕ)
  pub event : IsEvent x.machine p line y.machine
  pub text : y.text ≡ (x.text ++ ask_text x.machine p)
      ++ text_from (length x.machine.items) y.machine.workload y.machine.items
  pub replies : y.replies ≡ x.replies ++ lines_of line

-- that many events lead from the opening to the moment, and none comes after an end
abbrev pub Reaches : WorkloadView → Order → (budget events : ℕ) → Moment → Type 0
Reaches w order budget zero x = x ≡ first_moment w
Reaches w order budget (suc n) y =
    (x : Moment) × Reaches w order budget n x × (end_of driven_calls budget x.machine ≡ None) × GoesOn (proc_after w order n) x y
