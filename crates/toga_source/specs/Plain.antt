-- The names of a workload that has none: each thing is named by its kind and its number.
use Rattle.std.specs.Prelude.{ℕ, ◌==◌, Bool, true, false, if◌then◌else◌, List, [], ◌∷◌, ◌++◌, length, map, codes, decimal}
use Rattle.std.specs.List.{flat_map, list_any, range_with_len, enumerate_from}
use Rattle.sa_instr.specs.declared.instr.Instr.{Instr}
use Rattle.sa_instr.specs.declared.instr.Instr.TheVariants.{Jnz}
use Rattle.sa_spaces.specs.Space.{SpaceView}
use Rattle.sa_spaces.specs.Workload.{WorkloadView}
use Rattle.toga_source.specs.declared.names.Label.{Label}
use Rattle.toga_source.specs.Names.{ProgramView, NamesView}

-- a word and a number
abbrev pub numbered : List ℕ → ℕ → List ℕ
numbered word number = word ++ decimal number

-- the names of so many things of a kind
abbrev pub numbered_names : List ℕ → ℕ → List (List ℕ)
numbered_names word count = map (numbered word) (range_with_len 0 count)

-- the instruction may go on at the place
abbrev pub jumps_to : ℕ → Instr → Bool
jumps_to place (Jnz r target) = target == place
jumps_to place _ = false

-- the label of a place that a jump of the program names; there is none of any other
abbrev pub plain_label : List Instr → ℕ → List Label
plain_label program place =
    if list_any (jumps_to place) program then record { place = place; name = numbered (codes "at") place } ∷ [] else []

abbrev pub plain_labels : List Instr → List Label
plain_labels program = flat_map (plain_label program) (range_with_len 0 (length program))

-- the names of a program, and of a space
abbrev pub plain_program : ℕ → List Instr → ProgramView
plain_program number program = record { name = numbered (codes "prog") number; labels = plain_labels program }

abbrev pub plain_space : ℕ → SpaceView → NamesView
plain_space number s = record {
  name = numbered (codes "space") number;
  mutexes = numbered_names (codes "m") s.mutexes;
  semaphores = numbered_names (codes "sem") (length s.sems);
  cells = numbered_names (codes "c") s.cells;
  programs = map (λ p. plain_program p.0 p.1) (enumerate_from 0 s.programs);
}

-- the names of all spaces
abbrev pub plain_names : WorkloadView → List NamesView
plain_names w = map (λ s. plain_space s.0 s.1) (enumerate_from 0 w.spaces)
