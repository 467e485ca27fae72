-- A probe keeps to every rule of workloads.
use Rattle.std.proofs.Common.{◌≡◌, ◌≤◌, ◌<◌, ℕ, List, [], ◌∷◌, ◌++◌, length, refl, rules, arith, length-append}
use Rattle.std.specs.Prelude.{All}
use Rattle.std.proofs.lemmas.List.{length-replicate}
use Rattle.std.proofs.lemmas.List.Elements.{All-append, All-replicate}
use Rattle.sa_base.specs.declared.number.ProcNo.{ProcNo}
use Rattle.sa_instr.specs.declared.limits.TheConstants.{LAST_PAGE, MAX_START, MAX_TURNS}
use Rattle.sa_spaces.specs.declared.workload.Evict.{Evict}
use Rattle.sa_instr.specs.Instr.{IsInRange, JumpsBelow, NamesDeclared}
use Rattle.sa_instr.specs.Program.{IsProgram}
use Rattle.sa_spaces.specs.Space.{SpaceView, IsSpace}
use Rattle.sa_spaces.specs.Workload.{IsWorkload}
use Rattle.sa_gen.specs.Probe.{forking_program, io_program, probe_space, turns_of, probe_turns, probing}
use Rattle.sa_gen.proofs.Loads.{all_of}

is_forking : IsProgram forking_program
is_forking = record {
  not_empty = omega arith;
  not_too_long = omega arith;
  ends = refl;
  jumps = all_of (JumpsBelow 3) forking_program (search rules);
  ranges = all_of IsInRange forking_program (search rules);
}

is_io : (k : ℕ) → k ≤ 40 → IsProgram (io_program k)
is_io k few = record {
  not_empty = omega arith;
  not_too_long = omega arith;
  ends = refl;
  jumps = all_of (JumpsBelow 2) (io_program k) (search rules);
  ranges = all_of IsInRange (io_program k) ((omega arith, omega arith), (tt, tt));
}

turns_below : (proc count : ℕ) → proc < 2 → All (λ (p : ProcNo). p.0 < 2) (turns_of proc count)
turns_below proc count h = All-replicate (λ (p : ProcNo). p.0 < 2) count (record { 0 = proc }) h

are_turns : (k : ℕ) → All (λ (p : ProcNo). p.0 < 2) (probe_turns k)
are_turns k =
    let P : ProcNo → Type 0 = λ p. p.0 < 2 in
    All-append P (turns_of 0 9 ++ turns_of 1 5 ++ turns_of 0 k ++ turns_of 1 1) (turns_of 0 11)
    (All-append P (turns_of 0 9 ++ turns_of 1 5 ++ turns_of 0 k) (turns_of 1 1)
    (All-append P (turns_of 0 9 ++ turns_of 1 5) (turns_of 0 k)
    (All-append P (turns_of 0 9) (turns_of 1 5) (turns_below 0 9 (omega arith)) (turns_below 1 5 (omega arith)))
    (turns_below 0 k (omega arith)))
    (turns_below 1 1 (omega arith)))
    (turns_below 0 11 (omega arith))

few_turns : (k : ℕ) → k ≤ 40 → length (probe_turns k) ≤ MAX_TURNS
few_turns k few = simp (length-append, length-replicate) (omega arith)

is_probe_space : (k : ℕ) → k ≤ 40 → IsSpace (probe_space k)
is_probe_space k few = record {
  priority = omega arith;
  mutexes = omega arith;
  sems = omega arith;
  starts = all_of (λ start. start ≤ MAX_START) [] tt;
  cells = omega arith;
  pages = all_of (λ page. page ≤ LAST_PAGE) [] tt;
  absent_rise = λ i h. absurd (omega arith);
  some_program = omega arith;
  few_programs = omega arith;
  programs = all_of IsProgram (forking_program ∷ io_program k ∷ []) (is_forking, (is_io k few, tt));
  names = all_of (All (NamesDeclared 0 0 0 2)) (forking_program ∷ io_program k ∷ [])
      (all_of (NamesDeclared 0 0 0 2) forking_program (search rules), (all_of (NamesDeclared 0 0 0 2) (io_program k) (search rules), tt));
  patient = omega arith;
  patience = omega arith;
}

is_probe : (k : ℕ) → k ≤ 40 → IsWorkload (probing k)
is_probe k few = record {
  some_processor = omega arith;
  few_processors = omega arith;
  some_fetch = omega arith;
  short_fetch = omega arith;
  some_space = omega arith;
  few_spaces = omega arith;
  spaces = all_of IsSpace (probe_space k ∷ []) (is_probe_space k few, tt);
  few_evictions = omega arith;
  evictions = λ i d h. absurd (omega arith);
  evictions_rise = λ i d h. absurd (omega arith);
  few_turns = few_turns k few;
  turns = are_turns k;
  slice = omega arith;
}

pub probe_with : (k : ℕ) (spaces : List SpaceView) (evictions : List Evict) (turns : List ProcNo) → k ≤ 40 → spaces ≡ probe_space k ∷ [] → evictions ≡ []
    → turns ≡ probe_turns k
    → IsWorkload (record { processors = 2; fetch = 10; spaces = spaces; evictions = evictions; turns = turns; slice = 0 })
probe_with k spaces evictions turns few made none told = rw (made, none, told) (is_probe k few)
