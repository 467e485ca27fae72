-- Short histories of the package with thread priorities, which break its own rules first.
use Rattle.std.specs.Prelude.{ℕ, List, [], ◌∷◌, ◌++◌, take, Some, None}
use Rattle.sa_base.specs.declared.record.Record.TheVariants.{Up, Told, Move, Want, Aim, Ins, Run, Ready, Back, Take, Free, Line}
use Rattle.sa_base.specs.declared.record.Record.{Record}
use Rattle.sa_base.specs.declared.record.Note.TheVariants.{Add}
use Rattle.sa_base.specs.declared.number.ProcNo.{ProcNo}
use Rattle.sa_base.specs.declared.record.Item.{Item}
use Rattle.sa_instr.specs.declared.instr.Instr.{Instr}
use Rattle.sa_instr.specs.declared.instr.Instr.TheVariants.{Fork, End}
use Rattle.sa_instr.specs.declared.instr.Reg.TheVariants.{R0}
use Rattle.sa_spaces.specs.Workload.{WorkloadView}
use Rattle.sa_laws.specs.Event.{Event, items_of}
use Rattle.sa_promises.specs.Examples.{smallest_run, trace_then, t1, t2}
use Rattle.sa_histories.specs.Short.{space_of, workload_of, at, act, s0, p0, t0}

-- Turns and steps: a thread gives way, and none outranks it.
abbrev pub back_for_nothing : List Item
back_for_nothing = trace_then 5 (Back s0 (Some t0) ∷ [])

-- A line has its cause: a user level asks for the line of its own processor.
abbrev pub own_line : List Item
own_line = trace_then 5 (Line p0 ∷ [])

-- List locks: a life takes another list than list 0.
abbrev pub p1 : ProcNo
p1 = record { 0 = 1 }

abbrev pub other_list_taken : List Item
other_list_taken = trace_then 2 (Take s0 p1 None ∷ [])

-- A thread of rank 0 forks one of rank 1, which outranks it: programs `fork r0 1`, `end` and `end`.
abbrev pub urging_programs : List (List Instr)
urging_programs = (Fork R0 1 ∷ End ∷ []) ∷ (End ∷ []) ∷ []

abbrev pub urging : WorkloadView
urging = workload_of urging_programs

abbrev pub urging_run : List Event
urging_run =
    take 5 smallest_run
    ++ at 5 (Ins s0 t0 0 ∷ [])
    ∷ at 6 (Take s0 p0 (Some t0) ∷ [])
    ∷ at 7 (Ready s0 t1 ∷ [])
    ∷ at 8 (Free s0 p0 (Some t0) ∷ [])
    ∷ at 9 (Back s0 (Some t0) ∷ [])
    ∷ at 10 (Take s0 p0 None ∷ [])
    ∷ at 11 (Ready s0 t0 ∷ [])
    ∷ at 12 (Free s0 p0 None ∷ [])
    ∷ at 13 (Take s0 p0 None ∷ [])
    ∷ []

-- Demand is announced and pairs are served: the outranked thread goes on.
abbrev pub goes_on_outranked : List Item
goes_on_outranked = items_of (take 9 urging_run ++ at 9 (Ins s0 t0 1 ∷ []) ∷ [])

-- Ranks are kept: the outranked thread is run again, and not the one that outranks it.
abbrev pub lesser_taken : List Item
lesser_taken = items_of (urging_run ++ at 14 (Run s0 t0 ∷ []) ∷ [])

-- Two processors. A thread of rank 0 forks one of rank 2, and gives way to it; it runs on another processor; then that one
-- forks one of rank 1, which outranks it: programs `fork r0 2` and `end`, `end`, `fork r0 1` and `end`.
abbrev pub at1 : ℕ → List Record → Event
at1 n records = record { number = n; proc = p1; records = records }

abbrev pub racing : WorkloadView
racing = record {
  processors = 2;
  fetch = 10;
  spaces = space_of ((Fork R0 2 ∷ End ∷ []) ∷ (End ∷ []) ∷ (Fork R0 1 ∷ End ∷ []) ∷ []) ∷ [];
  evictions = [];
  turns = [];
  slice = 0;
}

abbrev pub racing_run : List Event
racing_run =
    at 0 (Want s0 1 ∷ Aim p0 (Some s0) ∷ Line p0 ∷ [])
    ∷ at 1 (Move None (Some s0) ∷ Up s0 (act 0) ∷ Told (Add p0) ∷ [])
    ∷ at 2 (Take s0 p0 None ∷ [])
    ∷ at 3 (Run s0 t0 ∷ [])
    ∷ at 4 (Free s0 p0 (Some t0) ∷ [])
    ∷ at 5 (Ins s0 t0 0 ∷ [])
    ∷ at 6 (Take s0 p0 (Some t0) ∷ [])
    ∷ at 7 (Ready s0 t1 ∷ [])
    ∷ at 8 (Free s0 p0 (Some t0) ∷ [])
    ∷ at 9 (Want s0 2 ∷ Aim p1 (Some s0) ∷ Line p1 ∷ [])
    ∷ at 10 (Back s0 (Some t0) ∷ [])
    ∷ at 11 (Take s0 p0 None ∷ [])
    ∷ at 12 (Ready s0 t0 ∷ [])
    ∷ at 13 (Free s0 p0 None ∷ [])
    ∷ at 14 (Take s0 p0 None ∷ [])
    ∷ at 15 (Run s0 t1 ∷ [])
    ∷ at 16 (Free s0 p0 (Some t1) ∷ [])
    ∷ at1 17 (Move None (Some s0) ∷ Up s0 (act 1) ∷ Told (Add p1) ∷ [])
    ∷ at1 18 (Take s0 p0 None ∷ [])
    ∷ at1 19 (Run s0 t0 ∷ [])
    ∷ at1 20 (Free s0 p0 (Some t0) ∷ [])
    ∷ at 21 (Ins s0 t1 0 ∷ [])
    ∷ at 22 (Take s0 p0 (Some t1) ∷ [])
    ∷ at 23 (Ready s0 t2 ∷ [])
    ∷ at 24 (Free s0 p0 (Some t1) ∷ [])
    ∷ []

-- the run's first events, and after them another one
abbrev pub race_then : ℕ → Record → List Item
race_then n x = items_of (take n racing_run ++ at n (x ∷ []) ∷ [])

-- A line that is raised already is asked for; one is asked for where no thread is outranked.
abbrev pub line_again : List Item
line_again = race_then 10 (Line p1)

abbrev pub line_unasked : List Item
line_unasked = race_then 21 (Line p1)

-- The outranked thread is run again; a thread gives way that none outranks; a thread goes on while a pair is not served.
abbrev pub outranked_run : List Item
outranked_run = race_then 15 (Run s0 t0)

abbrev pub back_alone : List Item
back_alone = race_then 21 (Back s0 (Some t1))

abbrev pub pair_unserved : List Item
pair_unserved = race_then 25 (Ins s0 t1 1)
