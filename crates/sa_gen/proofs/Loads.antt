-- The made programs and spaces keep to every rule.
use Rattle.std.proofs.Common.{◌≡◌, ◌≤◌, ◌<◌, ◌%◌, ◌^◌, ℕ, List, [], ◌∷◌, length, map, refl, rules, arith}
use Rattle.std.specs.Prelude.{All}
use Rattle.std.specs.List.{range_with_len}
use Rattle.std.proofs.lemmas.List.FromFn.{length-map-range_with_len}
use Rattle.std.proofs.lemmas.List.Elements.{All-cons, All-map}
use Rattle.sa_instr.specs.declared.limits.TheConstants.{LAST_PAGE, MAX_START}
use Rattle.sa_instr.specs.declared.instr.Instr.{Instr}
use Rattle.sa_instr.specs.Instr.{IsInRange, JumpsBelow, NamesDeclared}
use Rattle.sa_instr.specs.Program.{IsProgram}
use Rattle.sa_spaces.specs.Space.{SpaceView, IsSpace}
use Rattle.sa_spaces.specs.declared.workload.Evict.{Evict}
use Rattle.sa_spaces.specs.Workload.{IsWorkload}
use Rattle.sa_base.specs.declared.number.ProcNo.{ProcNo}
use Rattle.sa_gen.specs.Generated.{main_program, worker_program, generated_space, generated, processors_of, spaces_of, workers_of, rounds_of}

-- a fact of each element, one by one
abbrev pub Each : {X : Type 0} → (X → Type 0) → List X → Type 0
Each P [] = Unit {0}
Each P (x ∷ xs) = P x × Each P xs

pub all_of : {X : Type 0} (P : X → Type 0) (xs : List X) → Each P xs → All P xs
all_of P [] e = λ k d h. absurd (omega arith)
all_of P (x ∷ xs) e = All-cons P x xs e.0 (all_of P xs e.1)

pub is_main : (workers : ℕ) → workers < 2 ^ 64 → IsProgram (main_program workers)
is_main workers h = record {
  not_empty = omega arith;
  not_too_long = omega arith;
  ends = refl;
  jumps = all_of (JumpsBelow 12) (main_program workers) (search rules);
  ranges = all_of IsInRange (main_program workers) (search rules);
}

pub is_worker : (rounds : ℕ) → rounds < 2 ^ 64 → IsProgram (worker_program rounds)
is_worker rounds h = record {
  not_empty = omega arith;
  not_too_long = omega arith;
  ends = refl;
  jumps = all_of (JumpsBelow 13) (worker_program rounds) (search rules);
  ranges = all_of IsInRange (worker_program rounds) (search rules);
}

pub is_space : (n k : ℕ) → IsSpace (generated_space n k)
is_space n k = record {
  priority = omega arith;
  mutexes = omega arith;
  sems = omega arith;
  starts = all_of (λ start. start ≤ MAX_START) (0 ∷ []) (search rules);
  cells = omega arith;
  pages = all_of (λ page. page ≤ LAST_PAGE) [] tt;
  absent_rise = λ i h. absurd (omega arith);
  some_program = omega arith;
  few_programs = omega arith;
  programs = all_of IsProgram (main_program (workers_of n) ∷ worker_program (rounds_of n) ∷ [])
      (is_main (workers_of n) (omega arith), (is_worker (rounds_of n) (omega arith), tt));
  names = all_of (All (NamesDeclared 1 1 1 2)) (main_program (workers_of n) ∷ worker_program (rounds_of n) ∷ []) (
    all_of (NamesDeclared 1 1 1 2) (main_program (workers_of n)) (search rules),
    (all_of (NamesDeclared 1 1 1 2) (worker_program (rounds_of n)) (search rules), tt),
  );
  patient = omega arith;
  patience = omega arith;
}

pub are_spaces : (n count : ℕ) → All IsSpace (map (generated_space n) (range_with_len 0 count))
are_spaces n count = All-map IsSpace (generated_space n) (range_with_len 0 count) (λ i d h. is_space n _)

-- the same where the lists are equal to the made ones
pub space_with : (n k : ℕ) (sems absent : List ℕ) (programs : List (List Instr)) → sems ≡ 0 ∷ [] → absent ≡ []
    → programs ≡ main_program (workers_of n) ∷ worker_program (rounds_of n) ∷ []
    → IsSpace (record { priority = k % 8; mutexes = 1; sems = sems; cells = 1; absent = absent; programs = programs; patience = 1 })
space_with n k sems absent programs starts pages made = rw (starts, pages, made) (is_space n k)

is_workload : (n : ℕ) → IsWorkload (generated n)
is_workload n =
    let all : length (map (generated_space n) (range_with_len 0 (spaces_of n))) ≡ spaces_of n = length-map-range_with_len (generated_space n) 0 (spaces_of n) in
    record {
      some_processor = omega arith;
      few_processors = omega arith;
      some_fetch = omega arith;
      short_fetch = omega arith;
      some_space = omega arith;
      few_spaces = omega arith;
      spaces = are_spaces n (spaces_of n);
      few_evictions = omega arith;
      evictions = λ i d h. absurd (omega arith);
      evictions_rise = λ i d h. absurd (omega arith);
      few_turns = omega arith;
      turns = λ i d h. absurd (omega arith);
      slice = omega arith;
    }

pub workload_with : (n : ℕ) (spaces : List SpaceView) (evictions : List Evict) (turns : List ProcNo)
    → spaces ≡ map (generated_space n) (range_with_len 0 (spaces_of n)) → evictions ≡ [] → turns ≡ []
    → IsWorkload (record { processors = processors_of n; fetch = 10; spaces = spaces; evictions = evictions; turns = turns; slice = 0 })
workload_with n spaces evictions turns made none untold = rw (made, none, untold) (is_workload n)
