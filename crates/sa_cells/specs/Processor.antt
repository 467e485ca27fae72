-- What the cells of a processor hold.
use Rattle.std.specs.Prelude.{ℕ, ◌==◌, List, ◌++◌, codes, Option, Some, None, if◌then◌else◌}
use Rattle.std.specs.Option.{option_map}
use Rattle.sa_base.specs.declared.number.ProcNo.{ProcNo}
use Rattle.sa_base.specs.declared.number.ThreadNo.{ThreadNo}
use Rattle.sa_laws.specs.State.{Runner, runner_on}
use Rattle.sa_laws.specs.Life.{Life}
use Rattle.sa_laws.specs.Readings.{Readings, life_on}
use Rattle.sa_cells.specs.Pieces.{numbered}

-- its line: low, or raised by an event
abbrev pub line_text : Option ℕ → List ℕ
line_text None = codes "low"
line_text (Some event) = numbered (codes "raised at event ") event

-- what runs in a life that carries no thread, and in one that carries one
abbrev pub handler_text : Life → List ℕ
handler_text life =
    if life.cont then codes "the handler, in the copy of a section"
    else (if life.scans == 0 then codes "the handler" else codes "a look in vain")

abbrev pub copy_text : Life → List ℕ
copy_text life = if life.cont then codes ", in the copy of its section" else codes ""

unfoldable pub thread_text : Life → ThreadNo → List ℕ
thread_text life t = numbered (codes "thread ") t.0 ++ copy_text life

abbrev pub carrying_text : Life → Option ThreadNo → List ℕ
carrying_text life None = handler_text life
carrying_text life (Some t) = thread_text life t

abbrev pub runs_in : Option Life → Option ThreadNo → List ℕ
runs_in None t = codes "nothing"
runs_in (Some life) t = carrying_text life t

abbrev pub carried_on : Readings → ProcNo → Option ThreadNo
carried_on r p = option_map (λ (runner : Runner). runner.thread) (runner_on r.state p)

abbrev pub runs_text : Readings → ProcNo → List ℕ
runs_text r p = runs_in (life_on r p) (carried_on r p)
