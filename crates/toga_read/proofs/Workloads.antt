-- What is made of the spaces of a draft is spaces, and what is made of the draft is a workload.
use Rattle.std.proofs.Common.{◌≡◌, ℕ, List, length, Result, Ok, Err, refl, sym, subst, arith}
use Rattle.std.specs.List.{All}
use Rattle.sa_instr.specs.declared.instr.Instr.{Instr}
use Rattle.sa_instr.specs.Instr.{NamesDeclared}
use Rattle.sa_spaces.specs.Space.{IsSpace, SpaceView}
use Rattle.sa_spaces.specs.Workload.{IsEviction, IsWorkload, WorkloadView}
use Rattle.toga_diagnostic.specs.declared.cause.Fault.{Fault}
use Rattle.sa_base.specs.declared.number.ProcNo.{ProcNo}
use Rattle.sa_spaces.specs.declared.workload.Evict.{Evict}
use Rattle.toga_draft.specs.Draft.{DraftView, SpaceDraftView, value_or}
use Rattle.toga_draft.specs.Reading.{◌>>=◌}
use Rattle.toga_draft.specs.Whole.{IsDraft, IsSpaceDraft}
use Rattle.toga_read.specs.Evictions.{evictions_of, pages_in}
use Rattle.toga_read.specs.Operands.{programs_of}
use Rattle.toga_read.specs.Outcome.{each}
use Rattle.toga_read.specs.Spaces.{space_of, space_with, workload_with}
use Rattle.toga_read.proofs.Each.{each-holds, each-length}
use Rattle.toga_read.proofs.Orders.{evictions-made, pages-below, pages-in-order}
use Rattle.toga_read.proofs.Programs.{programs-made}

-- a space, whatever its patience is
pub space-made : (space : SpaceDraftView) (programs : List (List Instr)) → IsSpaceDraft space → programs_of space ≡ Ok programs
    → IsSpace (space_with space programs)
space-made space programs is e =
    let made = programs-made space programs is e in
    let names = subst (λ (n : ℕ). All (All (NamesDeclared (length space.mutexes) (length space.starts) (length space.cells) n)) programs) (sym made.count) made.names in
    record {
      priority = is.priority;
      mutexes = is.mutexes;
      sems = is.few_semaphores;
      starts = is.starts;
      cells = is.cells;
      pages = pages-below space.absent;
      absent_rise = pages-in-order space.absent;
      some_program = omega (arith, made.count, is.some_program);
      few_programs = omega (arith, made.count, is.few_programs);
      programs = made.programs;
      names = names;
      patient = is.some_patience;
      patience = is.patience;
    }

-- the same of patience 1, as it is made first
pub patient-made : (space : SpaceDraftView) (programs : List (List Instr)) → IsSpaceDraft space → programs_of space ≡ Ok programs
    → IsSpace (record (space_with space programs) { patience = 1 })
patient-made space programs is e =
    let s = space-made space programs is e in
    record {
      priority = s.priority;
      mutexes = s.mutexes;
      sems = s.sems;
      starts = s.starts;
      cells = s.cells;
      pages = s.pages;
      absent_rise = s.absent_rise;
      some_program = s.some_program;
      few_programs = s.few_programs;
      programs = s.programs;
      names = s.names;
      patient = omega arith;
      patience = omega arith;
    }

made-space : (space : SpaceDraftView) (s : SpaceView) (r : Result (List (List Instr)) Fault) → programs_of space ≡ r → IsSpaceDraft space
    → (r >>= λ programs. Ok (space_with space programs)) ≡ Ok s → IsSpace s
made-space space s (Ok programs) e is made =
    let same : space_with space programs ≡ s = cc in subst IsSpace same (space-made space programs is e)
made-space space s (Err fault) e is made = absurd (cc)

space-is : (space : SpaceDraftView) (s : SpaceView) → IsSpaceDraft space → space_of space ≡ Ok s → IsSpace s
unfolding space_of
space-is space s is e = made-space space s (programs_of space) refl is e

-- a workload, whatever its slice is
pub workload-made : (draft : DraftView) (spaces : List SpaceView) → IsDraft draft → each space_of draft.spaces ≡ Ok spaces
    → IsWorkload (workload_with draft spaces)
workload-made draft spaces is e =
    let count : length spaces ≡ length draft.spaces = each-length space_of draft.spaces spaces e in
    let events = evictions-made draft.spaces is.spaces in
    record {
      some_processor = is.some_processor;
      few_processors = is.few_processors;
      some_fetch = is.some_fetch;
      short_fetch = is.short_fetch;
      some_space = omega (arith, count, is.some_space);
      few_spaces = omega (arith, count, is.few_spaces);
      spaces = each-holds IsSpaceDraft IsSpace space_of space-is_of draft.spaces spaces e is.spaces;
      few_evictions = omega (arith, events.1, is.few_evictions);
      evictions = subst (λ (n : ℕ). All (IsEviction n) (evictions_of draft.spaces)) (sym count) events.0.all;
      evictions_rise = events.0.rise;
      few_turns = is.few_turns;
      turns = is.turns;
      slice = is.slice;
    } where
      space-is_of : (x : SpaceDraftView) (y : SpaceView) → IsSpaceDraft x → space_of x ≡ Ok y → IsSpace y
      space-is_of x y h g = space-is x y h g

pub unsliced-made : (draft : DraftView) (spaces : List SpaceView) → IsDraft draft → each space_of draft.spaces ≡ Ok spaces
    → IsWorkload (record (workload_with draft spaces) { slice = 0 })
unsliced-made draft spaces is e =
    let w = workload-made draft spaces is e in
    record {
      some_processor = w.some_processor;
      few_processors = w.few_processors;
      some_fetch = w.some_fetch;
      short_fetch = w.short_fetch;
      some_space = w.some_space;
      few_spaces = w.few_spaces;
      spaces = w.spaces;
      few_evictions = w.few_evictions;
      evictions = w.evictions;
      evictions_rise = w.evictions_rise;
      few_turns = w.few_turns;
      turns = w.turns;
      slice = omega arith;
    }

-- what a call is given is what is made first
pub same-space : (space : SpaceDraftView) (programs : List (List Instr)) (priority mutexes cells : ℕ) (sems absent : List ℕ)
    → priority ≡ value_or space.priority 0 → mutexes ≡ length space.mutexes → sems ≡ space.starts → cells ≡ length space.cells
    → absent ≡ pages_in space.absent
    → (let v : SpaceView = record {
      priority = priority;
      mutexes = mutexes;
      sems = sems;
      cells = cells;
      absent = absent;
      programs = programs;
      patience = 1;
    } in v) ≡ record (space_with space programs) { patience = 1 }
same-space space programs priority mutexes cells sems absent p m s c a = cc

pub same-workload : (draft : DraftView) (spaces : List SpaceView) (processors fetch : ℕ) (evictions : List Evict) (turns : List ProcNo)
    → processors ≡ value_or draft.processors 2 → fetch ≡ value_or draft.fetch 10 → evictions ≡ evictions_of draft.spaces → turns ≡ draft.turns
    → (let v : WorkloadView = record {
      processors = processors;
      fetch = fetch;
      spaces = spaces;
      evictions = evictions;
      turns = turns;
      slice = 0;
    } in v) ≡ record (workload_with draft spaces) { slice = 0 }
same-workload draft spaces processors fetch evictions turns p f e t = cc
