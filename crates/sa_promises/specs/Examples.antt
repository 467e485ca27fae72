-- Short histories: the run of the smallest workload, and for each rule one that breaks it first.
use Rattle.std.specs.Prelude.{ℕ, List, [], ◌∷◌, ◌++◌, take, Some, None}
use Rattle.sa_base.specs.declared.number.ThreadNo.{ThreadNo}
use Rattle.sa_base.specs.declared.record.Note.TheVariants.{Add, Preempted, Blocked}
use Rattle.sa_base.specs.declared.record.Record.{Record}
use Rattle.sa_base.specs.declared.record.Record.TheVariants.{Ins, Run, Ready, Stop, Block, Take, Free, Up, Told, Move, Want, Aim, Line, Idle, Tick}
use Rattle.sa_base.specs.declared.record.Item.{Item}
use Rattle.sa_base.specs.declared.record.End.TheVariants.{AllDone, Budget}
use Rattle.sa_instr.specs.declared.instr.Instr.{Instr}
use Rattle.sa_instr.specs.declared.instr.Instr.TheVariants.{Io as IoOf, Fork, End}
use Rattle.sa_instr.specs.declared.instr.Reg.TheVariants.{R0}
use Rattle.sa_spaces.specs.Workload.{WorkloadView}
use Rattle.sa_laws.specs.Event.{Event, items_of}
use Rattle.sa_laws.specs.Ends.{LastLine}
use Rattle.sa_histories.specs.Short.{workload_with, p0, s0, t0, act, at}

-- The run of the smallest workload: the space wants a processor and gets it, the upcall's life takes thread 0 from its list, and
-- the thread ends.
abbrev pub smallest_run : List Event
smallest_run =
    at 0 (Want s0 1 ∷ Aim p0 (Some s0) ∷ Line p0 ∷ [])
    ∷ at 1 (Move None (Some s0) ∷ Up s0 (act 0) ∷ Told (Add p0) ∷ [])
    ∷ at 2 (Take s0 p0 None ∷ [])
    ∷ at 3 (Run s0 t0 ∷ [])
    ∷ at 4 (Free s0 p0 (Some t0) ∷ [])
    ∷ at 5 (Ins s0 t0 0 ∷ [])
    ∷ []

abbrev pub smallest_trace : List Item
smallest_trace = items_of smallest_run

-- the run's first events, and after them another one
abbrev pub then : ℕ → List Record → List Event
then n records = take n smallest_run ++ at n records ∷ []

abbrev pub trace_then : ℕ → List Record → List Item
trace_then n records = items_of (then n records)

-- a last line that tells of a budget
abbrev pub stops_at : ℕ → LastLine
stops_at n = record { end = Budget; events = n }

-- The opening and the numbering: the opening announces another demand.
abbrev pub other_opening : List Item
other_opening = trace_then 0 (Want s0 2 ∷ [])

-- A step of the abstract machine: the thread is at another place of its program.
abbrev pub other_place : List Item
other_place = trace_then 5 (Ins s0 t0 1 ∷ [])

-- Tells at most once: what never happened is told.
abbrev pub told_of_nothing : List Item
told_of_nothing = trace_then 1 (Move None (Some s0) ∷ Up s0 (act 0) ∷ Told (Add p0) ∷ Told (Preempted (act 7)) ∷ [])

-- Tells in time: a life is stopped, and its space goes on owning the processor untold.
abbrev pub stopped_untold : List Item
stopped_untold = trace_then 5 (Stop s0 (Some t0) (act 0) ∷ [])

-- Runs where owned: an up comes where a life runs.
abbrev pub two_lives : List Item
two_lives = trace_then 2 (Up s0 (act 1) ∷ Told (Add p0) ∷ [])

-- An upcall tells all: a space is not told of its new processor.
abbrev pub not_told_added : List Item
not_told_added = trace_then 1 (Move None (Some s0) ∷ Up s0 (act 0) ∷ [])

-- A block gives an upcall: a block names another I/O. The workload's program is `io 2`, `end`.
abbrev pub blocking : WorkloadView
blocking = workload_with (IoOf 2 ∷ End ∷ [])

abbrev pub other_io : List Item
other_io = trace_then 5 (Ins s0 t0 0 ∷ Block s0 (Some t0) (act 0) (record { 0 = 1 }) ∷ Up s0 (act 1) ∷ Told (Blocked (act 0)) ∷ [])

-- An interrupt is the next event: it is put off.
abbrev pub interrupt_put_off : List Item
interrupt_put_off = trace_then 1 (Tick ∷ [])

-- A line has its cause: a line is raised for nothing.
abbrev pub raised_for_nothing : List Item
raised_for_nothing = trace_then 2 (Take s0 p0 None ∷ Line p0 ∷ [])

-- A want has its cause: a want comes after a take.
abbrev pub wanted_for_nothing : List Item
wanted_for_nothing = trace_then 2 (Take s0 p0 None ∷ Want s0 1 ∷ [])

-- Aims cover shares: a processor is aimed at a space that has its share.
abbrev pub aimed_for_nothing : List Item
aimed_for_nothing = trace_then 2 (Take s0 p0 None ∷ Aim p0 (Some s0) ∷ Line p0 ∷ [])

-- Demand is announced: a life that has a lock idles.
abbrev pub idle_with_lock : List Item
idle_with_lock = trace_then 3 (Idle ∷ [])

-- Turns and steps: a processor idles beside a ready thread.
abbrev pub idle_beside_thread : List Item
idle_beside_thread = trace_then 2 (Idle ∷ [])

-- List locks: a lock is freed before its list was changed.
abbrev pub freed_unused : List Item
freed_unused = trace_then 3 (Free s0 p0 None ∷ [])

-- The end: the last line tells that all is done, and it is not.
abbrev pub not_done : List Item
not_done = trace_then 4 (Free s0 p0 (Some t0) ∷ [])

abbrev pub told_done : LastLine
told_done = record { end = AllDone; events = 4 }

-- List order: of two ready threads the older one is taken from the processor's own list. The workload's program is `fork r0 0` twice, and `end`.
abbrev pub forking_program : List Instr
forking_program = Fork R0 0 ∷ Fork R0 0 ∷ End ∷ []

abbrev pub forking : WorkloadView
forking = workload_with forking_program

abbrev pub t1 : ThreadNo
t1 = record { 0 = 1 }

abbrev pub t2 : ThreadNo
t2 = record { 0 = 2 }

abbrev pub forking_run : List Event
forking_run =
    take 5 smallest_run
    ++ at 5 (Ins s0 t0 0 ∷ [])
    ∷ at 6 (Take s0 p0 (Some t0) ∷ [])
    ∷ at 7 (Ready s0 t1 ∷ [])
    ∷ at 8 (Free s0 p0 (Some t0) ∷ [])
    ∷ at 9 (Ins s0 t0 1 ∷ [])
    ∷ at 10 (Take s0 p0 (Some t0) ∷ [])
    ∷ at 11 (Ready s0 t2 ∷ [])
    ∷ at 12 (Free s0 p0 (Some t0) ∷ [])
    ∷ at 13 (Ins s0 t0 2 ∷ [])
    ∷ at 14 (Take s0 p0 None ∷ [])
    ∷ []

abbrev pub older_taken : List Item
older_taken = items_of (forking_run ++ at 15 (Run s0 t1 ∷ []) ∷ [])
