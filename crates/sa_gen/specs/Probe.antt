-- The workload in which a fork is interrupted after a given number of events of its operation on a ready list.
use Rattle.std.specs.Prelude.{ℕ, ◌+◌, List, [], ◌∷◌, ◌++◌, replicate}
use Rattle.sa_base.specs.declared.number.ProcNo.{ProcNo}
use Rattle.sa_instr.specs.declared.instr.Reg.TheVariants.{R0, R1}
use Rattle.sa_instr.specs.declared.instr.Instr.{Instr}
use Rattle.sa_instr.specs.declared.instr.Instr.TheVariants.{Fork, Io, End}
use Rattle.sa_spaces.specs.Space.{SpaceView}
use Rattle.sa_spaces.specs.Workload.{WorkloadView}

-- program 0 forks two threads, each of which does one I/O
abbrev pub forking_program : List Instr
forking_program = Fork R0 1 ∷ Fork R1 1 ∷ End ∷ []

abbrev pub io_program : ℕ → List Instr
io_program k = Io (k + 1) ∷ End ∷ []

abbrev pub probe_space : ℕ → SpaceView
probe_space k = record {
  priority = 0;
  mutexes = 0;
  sems = [];
  cells = 0;
  absent = [];
  programs = forking_program ∷ io_program k ∷ [];
  patience = 1;
}

-- this number of turns of a processor
abbrev pub turns_of : ℕ → ℕ → List ProcNo
turns_of proc count = replicate count (record { 0 = proc })

-- the first processor has k turns in the second fork before the other one has the turn that interrupts it
abbrev pub probe_turns : ℕ → List ProcNo
probe_turns k = turns_of 0 9 ++ turns_of 1 5 ++ turns_of 0 k ++ turns_of 1 1 ++ turns_of 0 11

abbrev pub probing : ℕ → WorkloadView
probing k = record {
  processors = 2;
  fetch = 10;
  spaces = probe_space k ∷ [];
  evictions = [];
  turns = probe_turns k;
  slice = 0;
}
