-- A short run, whose turns can be taken: so the conditions of turns can be met.
use Rattle.std.specs.Prelude.{ℕ, false, List, [], ◌∷◌, Option, Some, None}
use Rattle.sa_base.specs.declared.number.ProcNo.{ProcNo}
use Rattle.sa_base.specs.declared.number.SpaceNo.{SpaceNo}
use Rattle.sa_base.specs.declared.number.ThreadNo.{ThreadNo}
use Rattle.sa_base.specs.declared.number.ActNo.{ActNo}
use Rattle.sa_base.specs.declared.context.Stopped.{Stopped}
use Rattle.sa_base.specs.declared.record.Record.{Record}
use Rattle.sa_base.specs.declared.record.Record.TheVariants.{Ins, Take}
use Rattle.sa_instr.specs.declared.instr.Instr.TheVariants.{Io, End}
use Rattle.sa_spaces.specs.Space.{SpaceView}
use Rattle.sa_spaces.specs.Workload.{WorkloadView}
use Rattle.sa_kernel_model.specs.declared.entry.Entry.{Entry}
use Rattle.sa_kernel_model.specs.declared.entry.Entry.TheVariants as entry
use Rattle.sa_kernel_model.specs.Opening.{opened}
use Rattle.sa_laws.specs.History.{Test}
use Rattle.sa_kernel_laws.specs.Turn.{Turn}
use Rattle.sa_kernel_laws.specs.Runs.{CanMove, read_opening}

-- one processor, and one space, whose program waits for an I/O and ends
abbrev pub small_space : SpaceView
small_space = record { priority = 0; mutexes = 0; sems = []; cells = 0; absent = []; programs = (Io 3 ∷ End ∷ []) ∷ []; patience = 1 }

abbrev pub small : WorkloadView
small = record { processors = 1; fetch = 10; spaces = small_space ∷ []; evictions = []; turns = []; slice = 0 }

abbrev pub p0 : ProcNo
p0 = record { 0 = 0 }

abbrev pub s0 : SpaceNo
s0 = record { 0 = 0 }

abbrev pub t0 : ThreadNo
t0 = record { 0 = 0 }

abbrev pub act : ℕ → ActNo
act n = record { 0 = n }

-- contexts that hold nothing
abbrev pub Blank : Type 0
Blank = Unit {0}

abbrev pub held : Stopped Blank
held = record { ctx = tt; thread = Some t0; idle = false }

abbrev pub turn : ℕ → List Record → ℕ → Option (Entry Blank) → Turn Blank
turn e says fresh en = record { number = e; proc = p0; says = says; fresh = act fresh; entry = en }

-- the processor is taken, two hints follow, a slice ends, the context blocks and comes back, and the one that ran on is
-- stopped; after each upcall its notices are fetched
abbrev pub short_run : List (Option (Turn Blank))
short_run =
    Some (turn 1 [] 0 (Some (entry.Interrupt None))) ∷ None
    ∷ Some (turn 2 [] 1 (Some entry.Idle)) ∷ Some (turn 3 [] 1 (Some (entry.More 1)))
    ∷ Some (turn 4 (Take s0 p0 None ∷ []) 1 None)
    ∷ Some (turn 5 (Ins s0 t0 0 ∷ []) 1 (Some (entry.Block held 3 None))) ∷ None
    ∷ Some (turn 8 [] 2 (Some (entry.Complete (record { 0 = 0 }))))
    ∷ Some (turn 9 [] 2 (Some (entry.Interrupt (Some held)))) ∷ None ∷ None ∷ []

abbrev pub ShortRunCanBeMade : Type 0
ShortRunCanBeMade = (test : Test) → CanMove test small (opened {C = Blank} small).state (read_opening test small) short_run
