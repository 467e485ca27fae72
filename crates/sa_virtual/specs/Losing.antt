-- A run in which a virtual processor waits for an I/O, and three turns are lost.
use Rattle.std.specs.Prelude.{ℕ, List, [], ◌∷◌, Some, None}
use Rattle.sa_base.specs.declared.number.ProcNo.{ProcNo}
use Rattle.sa_base.specs.declared.number.SpaceNo.{SpaceNo}
use Rattle.sa_base.specs.declared.number.ThreadNo.{ThreadNo}
use Rattle.sa_base.specs.declared.record.Record.{Record}
use Rattle.sa_base.specs.declared.record.Record.TheVariants.{Ins, Run, Block, Unblock, Cont, Ready, Take, Free, Move, Tick}
use Rattle.sa_instr.specs.declared.instr.Instr.TheVariants.{Fork, Io as IoOf, End}
use Rattle.sa_instr.specs.declared.instr.Reg.TheVariants.{R0}
use Rattle.sa_spaces.specs.Space.{SpaceView}
use Rattle.sa_spaces.specs.Workload.{WorkloadView}
use Rattle.sa_laws.specs.Event.{Event}
use Rattle.sa_histories.specs.Short.{act}

abbrev pub s : ℕ → SpaceNo
s n = record { 0 = n }

abbrev pub t : ℕ → ThreadNo
t n = record { 0 = n }

abbrev pub p : ℕ → ProcNo
p n = record { 0 = n }

abbrev pub on : ℕ → ℕ → List Record → Event
on n q records = record { number = n; proc = p q; records = records }

abbrev pub the_workload_space0 : SpaceView
the_workload_space0 =
    record { priority = 0; mutexes = 0; sems = []; cells = 0; absent = []; programs = (Fork R0 1 ∷ IoOf 3 ∷ End ∷ []) ∷ (End ∷ []) ∷ []; patience = 1 }

abbrev pub the_workload : WorkloadView
the_workload = record { processors = 1; fetch = 10; spaces = the_workload_space0 ∷ []; evictions = []; turns = []; slice = 0 }

abbrev pub the_events : List Event
the_events =
    on 1 0 (Move None (Some (s 0)) ∷ [])
    ∷ on 2 0 (Take (s 0) (p 0) None ∷ Run (s 0) (t 0) ∷ Free (s 0) (p 0) (Some (t 0)) ∷ [])
    ∷ on 3 0 (Ins (s 0) (t 0) 0 ∷ [])
    ∷ on 4 0 (Take (s 0) (p 0) (Some (t 0)) ∷ Ready (s 0) (t 1) ∷ Free (s 0) (p 0) (Some (t 0)) ∷ [])
    ∷ on 5 0 (Ins (s 0) (t 0) 1 ∷ Block (s 0) (Some (t 0)) (act 0) (record { 0 = 0 }) ∷ Move (Some (s 0)) None ∷ [])
    ∷ on 6 0 (Tick ∷ [])
    ∷ on 7 0 (Tick ∷ [])
    ∷ on 8 0 (Unblock (s 0) (Some (t 0)) (act 0) ∷ [])
    ∷ on 9 0 (Move None (Some (s 0)) ∷ Cont (s 0) (Some (t 0)) ∷ [])
    ∷ on 10 0 (Ins (s 0) (t 0) 2 ∷ [])
    ∷ on 11 0 (Take (s 0) (p 0) None ∷ Run (s 0) (t 1) ∷ Free (s 0) (p 0) (Some (t 1)) ∷ [])
    ∷ on 12 0 (Ins (s 0) (t 1) 0 ∷ [])
    ∷ []
