-- Runs of micro-operations, in a section and in its copy.
use Rattle.std.specs.Prelude.{◌≡◌, ℕ, Bool, true, false, List, [], ◌∷◌, ◌++◌, Option, Some, None, slice_get, if◌then◌else◌}
use Rattle.sa_base.specs.Items.{items_at}
use Rattle.sa_base.specs.declared.record.Item.{Item}
use Rattle.sa_base.specs.declared.context.Seen.{Seen}
use Rattle.sa_code.specs.declared.code.Op.{Op}
use Rattle.sa_code.specs.declared.code.Op.TheVariants.{Push, Pop}
use Rattle.sa_code.specs.declared.state.PackageState.{PackageState}
use Rattle.sa_code.specs.declared.state.Frame.{Frame}
use Rattle.sa_code.specs.declared.state.MicroDone.{MicroDone}
use Rattle.sa_code.specs.declared.state.MicroDone.TheVariants.{Faulted}
use Rattle.sa_code.specs.Micro.{Micro, micro}
use Rattle.sa_copies.specs.Copies.{is_end, is_in_section}

-- the same frame at another place
abbrev pub at : Frame → ℕ → Frame
at f pc = record f { pc = pc }

-- a run is over at an end, and where there is no operation
abbrev pub is_over : Option Op → Bool
is_over (Some op) = is_end op
is_over None = true

-- what comes of a run: the state and the frame, the answers on the way, and the items of the trace
pub record Run : Type 0 where
  pub state : PackageState
  pub frame : Frame
  pub answers : List MicroDone
  pub items : List Item

-- no operation; an operation, and then the rest
abbrev pub over : PackageState → Frame → Run
over s f = record { state = s; frame = f; answers = []; items = [] }

abbrev pub behind : Seen → Micro → Run → Run
behind seen m rest =
    record { state = rest.state; frame = rest.frame; answers = m.done ∷ rest.answers; items = items_at seen.event seen.proc m.says ++ rest.items }

-- one operation after another, each with what it sees, up to an end, which is not done
abbrev pub run_of : PackageState → Frame → List Seen → Run
run_of s f [] = over s f
run_of s f (seen ∷ more) =
    if is_over (slice_get s.code f.pc) then over s f
    else behind seen (micro s f seen.pages) (run_of (micro s f seen.pages).state (micro s f seen.pages).frame more)

-- two runs gave the same answers, the same items, the same state, and the same frame but its place
pub record IsAlike (a b : Run) : Type 0 where
  pub answers : a.answers ≡ b.answers
  pub items : a.items ≡ b.items
  pub state : a.state ≡ b.state
  pub frame : a.frame ≡ at b.frame a.frame.pc

-- the effect of a push or of a pop
abbrev pub is_effect : Option Op → Bool
is_effect (Some Push) = true
is_effect (Some Pop) = true
is_effect _ = false

-- the package's page was absent, and nothing changed
pub record IsFault (s : PackageState) (f : Frame) (m : Micro) : Type 0 where
  pub done : m.done ≡ Faulted
  pub says : m.says ≡ []
  pub state : m.state ≡ s
  pub frame : m.frame ≡ f

-- an operation of a section stands at the place
abbrev pub is_section_op : Option Op → Bool
is_section_op (Some op) = is_in_section op
is_section_op None = false
