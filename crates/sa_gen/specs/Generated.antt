-- The workload that is made of a number.
use Rattle.std.specs.Prelude.{ℕ, ◌+◌, ◌/◌, ◌%◌, List, [], ◌∷◌, map}
use Rattle.std.specs.List.{range_with_len}
use Rattle.sa_instr.specs.declared.instr.Reg.TheVariants.{R0, R1, R2, R3}
use Rattle.sa_instr.specs.declared.instr.Instr.{Instr}
use Rattle.sa_instr.specs.declared.instr.Instr.TheVariants.{Compute, Set, Add, Sub, Jnz, Load, Store, Out, Fork, Lock, Unlock, Wait, Signal, Io, End}
use Rattle.sa_spaces.specs.Space.{SpaceView}
use Rattle.sa_spaces.specs.Workload.{WorkloadView}

-- how many processors and spaces there are, how many workers each space has, and how often each of them computes
abbrev pub processors_of : ℕ → ℕ
processors_of n = 1 + n % 16

abbrev pub spaces_of : ℕ → ℕ
spaces_of n = 1 + n / 16 % 4

abbrev pub workers_of : ℕ → ℕ
workers_of n = 1 + n / 64 % 200

abbrev pub rounds_of : ℕ → ℕ
rounds_of n = 1 + n / 12800 % 100

-- program 0 forks n workers, waits for a signal of each, and gives out what is then in cell 0
abbrev pub main_program : ℕ → List Instr
main_program workers =
    Set R1 1 ∷ Set R0 workers ∷ Fork R2 1 ∷ Sub R0 R1 ∷ Jnz R0 2
    ∷ Set R0 workers ∷ Wait 0 ∷ Sub R0 R1 ∷ Jnz R0 6
    ∷ Load R3 0 ∷ Out R3 ∷ End ∷ []

-- program 1 computes so often, does an I/O, adds 1 to cell 0 under the mutex, and signals
abbrev pub worker_program : ℕ → List Instr
worker_program rounds =
    Set R1 1 ∷ Set R0 rounds ∷ Compute ∷ Sub R0 R1 ∷ Jnz R0 2
    ∷ Io 7
    ∷ Lock 0 ∷ Load R2 0 ∷ Add R2 R1 ∷ Store R2 0 ∷ Unlock 0
    ∷ Signal 0 ∷ End ∷ []

-- space k has one mutex, one semaphore that starts with 0, and one cell
abbrev pub generated_space : ℕ → ℕ → SpaceView
generated_space n k = record {
  priority = k % 8;
  mutexes = 1;
  sems = 0 ∷ [];
  cells = 1;
  absent = [];
  programs = main_program (workers_of n) ∷ worker_program (rounds_of n) ∷ [];
  patience = 1;
}

abbrev pub generated : ℕ → WorkloadView
generated n = record {
  processors = processors_of n;
  fetch = 10;
  spaces = map (generated_space n) (range_with_len 0 (spaces_of n));
  evictions = [];
  turns = [];
  slice = 0;
}
