-- The numbers of a line are as small as the reader keeps them.
use Rattle.std.proofs.Common.{◌≡◌, ℕ, ◌-◌, ◌^◌, ◌<◌, ◌≤◌, ◌==◌, Bool, true, false, if◌then◌else◌, List, [], ◌∷◌, map, codes, arith, sym, ap, ◌∙◌, subst}
use Rattle.std.specs.Option.{is_some}
use Rattle.sa_base.specs.declared.limits.TheConstants.{FIRST_THREAD_PAGE, MAX_EVENTS, MAX_PROCESSORS, MAX_SPACES}
use Rattle.sa_instr.specs.declared.limits.TheConstants.{LAST_PAGE, MAX_CELLS, MAX_FETCH, MAX_INSTRUCTIONS, MAX_IO_LENGTH, MAX_MUTEXES, MAX_PATIENCE, MAX_PRIORITY, MAX_PROGRAMS, MAX_SEMAPHORES, MAX_SLICE, MAX_START}
use Rattle.sa_instr.specs.declared.operand.OperandKind.{OperandKind}
use Rattle.sa_instr.specs.declared.operand.OperandKind.TheVariants as Kinds
use Rattle.sa_instr.specs.Operation.{form_of, operation_of}
use Rattle.sa_instr.proofs.OperationLemmas.{operation-found}
use Rattle.sa_workload.specs.declared.stage.MachineLine.{MachineLine}
use Rattle.sa_workload.specs.declared.stage.MachineLine.TheVariants.{Version, Processors, Fetch, Slice, Spaces}
use Rattle.sa_workload.specs.declared.stage.Reader.{Reader}
use Rattle.sa_workload.specs.declared.stage.Stage.{Stage}
use Rattle.sa_workload.specs.declared.stage.Stage.TheVariants.{Machine, Space, Sem, Absent, Program, Instr, Evict, Turn, Closed}
use Rattle.sa_workload.specs.Bad.{DeclaredNumbers, Field, within, declared, operand_field, fields_by, instr_words}
use Rattle.sa_workload.specs.Fields.{index_of}
use Rattle.sa_workload.specs.Position.{IsReached}
use Rattle.sa_workload.specs.Next.{draft_numbers, fields_of, is_last_impatient}
use Rattle.sa_workload.specs.Rooms.{AreBelow, space_rooms, room_for, AllHaveRoom, RoomsAt}
use Rattle.sa_workload.specs.Stage.{machine_of, draft_of, machine_position, at_stage, AreNumbersOf}
use Rattle.sa_workload.specs.Steps.{expected}
use Rattle.sa_workload.proofs.fields.FieldLemmas.{Passes, AllPass, within-passes, declared-passes, line-ok}
use Rattle.sa_workload.proofs.fields.InstrLemmas.{expected-operation, operation-fields}
use Rattle.sa_workload.proofs.forward.Sound.{by_word}

pub all_pass : (fields : List Field) (ns : List ℕ) → AreNumbersOf fields ns → AllPass fields ns
all_pass fields ns read = (line-ok fields read.last read.words ns read.read).1

-- a room for each field
abbrev HasRoom : Field → ℕ → Type 0
HasRoom f room = (n : ℕ) → Passes f n → n < room

abbrev HaveRoom : List Field → List ℕ → Type 0
HaveRoom [] [] = Unit {0}
HaveRoom (f ∷ fs) (room ∷ rooms) = HasRoom f room × HaveRoom fs rooms
HaveRoom _ _ = ⊥

below : (fs : List Field) (rooms ns : List ℕ) → HaveRoom fs rooms → AllPass fs ns → AreBelow rooms ns
below [] [] [] h pass = tt
below [] [] (n ∷ ns) h pass = absurd pass
below [] (room ∷ rooms) ns h pass = absurd h
below (f ∷ fs) [] ns h pass = absurd h
below (f ∷ fs) (room ∷ rooms) [] h pass = absurd pass
below (f ∷ fs) (room ∷ rooms) (n ∷ ns) h pass = (h.0 n pass.0, below fs rooms ns h.1 pass.1)

range : (low high room : ℕ) → high < room → HasRoom (within low high) room
range low high room h n pass = omega (arith, (within-passes low high n pass).1)

name : (count room : ℕ) → count ≤ room → HasRoom (declared count) room
name count room h n pass = omega (arith, declared-passes count n pass)

one_range : (low high room : ℕ) (ns : List ℕ) → high < room → AllPass (within low high ∷ []) ns → AreBelow (room ∷ []) ns
one_range low high room ns h pass = below (within low high ∷ []) (room ∷ []) ns (range low high room h, tt) pass

-- the operands of an instruction
operand_room : (n : DeclaredNumbers) → n.mutexes ≤ 2 ^ 16 → n.semaphores ≤ 2 ^ 16 → n.cells ≤ 2 ^ 16 → n.programs ≤ 2 ^ 16 → n.instructions ≤ 2 ^ 16
    → (kind : OperandKind) → HasRoom (operand_field n kind) (room_for kind)
operand_room n m s c p i Kinds.Register = λ k pass. pass
operand_room n m s c p i Kinds.Value = range 0 (2 ^ 64 - 1) (2 ^ 64) (omega arith)
operand_room n m s c p i Kinds.Place = name n.instructions (2 ^ 16) i
operand_room n m s c p i Kinds.Cell = name n.cells (2 ^ 16) c
operand_room n m s c p i Kinds.Program = name n.programs (2 ^ 16) p
operand_room n m s c p i Kinds.Mutex = name n.mutexes (2 ^ 16) m
operand_room n m s c p i Kinds.Semaphore = name n.semaphores (2 ^ 16) s
operand_room n m s c p i Kinds.Length = range 1 MAX_IO_LENGTH (2 ^ 32) (omega arith)
operand_room n m s c p i Kinds.Page = range FIRST_THREAD_PAGE LAST_PAGE (2 ^ 16) (omega arith)

operand_rooms : (n : DeclaredNumbers) → ((kind : OperandKind) → HasRoom (operand_field n kind) (room_for kind)) → (kinds : List OperandKind)
    → HaveRoom (map (operand_field n) kinds) (map room_for kinds)
operand_rooms n h [] = tt
operand_rooms n h (kind ∷ kinds) = (h kind, operand_rooms n h kinds)

instr_room : (versions : ℕ) (n : DeclaredNumbers) (word ns : List ℕ) → ((kind : OperandKind) → HasRoom (operand_field n kind) (room_for kind))
    → is_some (index_of word instr_words) ≡ true → AllPass (fields_by versions n word) ns → AllHaveRoom (operation_of word) ns
instr_room versions n word ns h known pass =
    let o = expected-operation word known in
    let kinds : List OperandKind = (form_of o.0).operands in
    subst (λ x. AllHaveRoom x ns) (sym (ap operation_of o.1 ∙ operation-found o.0))
    (below (map (operand_field n) kinds) (map room_for kinds) ns (operand_rooms n h kinds)
    (subst (λ (fs : List Field). AllPass fs ns) (ap (fields_by versions n) o.1 ∙ operation-fields versions n o.0) pass))

module _ (versions : ℕ) (three : versions ≤ 3) (r : Reader) (word ns : List ℕ) where
  -- the numbers of the word's line have it
  abbrev Fit : Stage → List ℕ → Type 0
  Fit s w = AllPass (fields_of versions (at_stage r s) w) ns → RoomsAt r s w ns

  patience : (b : Bool) (low : ℕ) → HaveRoom (if b then within low MAX_PATIENCE ∷ [] else []) (if b then 2 ^ 16 ∷ [] else [])
  patience true low = (range low MAX_PATIENCE (2 ^ 16) (omega arith), tt)
  patience false low = tt

  machine : (line : MachineLine) → is_some (index_of word (expected (machine_position line r.header))) ≡ true → Fit (Machine line) word
  machine Version known =
      by_word (expected (machine_position Version r.header)) word (Fit (Machine Version)) (one_range 1 versions (2 ^ 16) ns (omega arith), tt) known
  machine Processors known =
      by_word (expected (machine_position Processors r.header)) word (Fit (Machine Processors)) (one_range 1 MAX_PROCESSORS (2 ^ 16) ns (omega arith), tt) known
  machine Fetch known =
      by_word (expected (machine_position Fetch r.header)) word (Fit (Machine Fetch)) (one_range 1 MAX_FETCH (2 ^ 32) ns (omega arith), tt) known
  machine Slice known =
      by_word (expected (machine_position Slice r.header)) word (Fit (Machine Slice))
      (one_range (if r.header.version == 3 then 0 else 1) MAX_SLICE (2 ^ 32) ns (omega arith), tt) known
  machine Spaces known =
      by_word (expected (machine_position Spaces r.header)) word (Fit (Machine Spaces)) (one_range 1 MAX_SPACES (2 ^ 16) ns (omega arith), tt) known

  turn : r.header.processors ≤ MAX_PROCESSORS → AllPass (within 0 (r.header.processors - 1) ∷ []) ns → AreBelow (2 ^ 16 ∷ []) ns
  turn few = one_range 0 (r.header.processors - 1) (2 ^ 16) ns (omega arith)

  none : AllPass [] ns → AreBelow [] ns
  none = below [] [] ns tt

  fit : (s : Stage) → IsReached versions (at_stage r s) → is_some (index_of word (expected (at_stage r s))) ≡ true → Fit s word
  fit (Machine line) at known = machine line known
  fit Space at known =
      by_word (expected (at_stage r Space)) word (Fit Space) (
        below (fields_of versions (at_stage r Space) (codes "space")) (space_rooms r.header.version) ns (
          range 0 MAX_PRIORITY (2 ^ 8) (omega arith),
          (
            range 0 MAX_MUTEXES (2 ^ 16) (omega arith),
            (
              range 0 MAX_SEMAPHORES (2 ^ 16) (omega arith),
              (
                range 0 MAX_CELLS (2 ^ 16) (omega arith),
                (
                  range 1 MAX_PROGRAMS (2 ^ 16) (omega arith),
                  patience (r.header.version == 3) (if is_last_impatient (machine_of r.header) r.spaces.items then 2 else 1),
                ),
              ),
            ),
          ),
        ),
        tt,
      ) known
  fit Sem at known = by_word (expected (at_stage r Sem)) word (Fit Sem) (one_range 0 MAX_START (2 ^ 32) ns (omega arith), tt) known
  fit Absent at known =
      by_word (expected (at_stage r Absent)) word (Fit Absent)
      (one_range 0 LAST_PAGE (2 ^ 16) ns (omega arith), (one_range 1 MAX_INSTRUCTIONS (2 ^ 16) ns (omega arith), tt)) known
  fit Program at known = by_word (expected (at_stage r Program)) word (Fit Program) (one_range 1 MAX_INSTRUCTIONS (2 ^ 16) ns (omega arith), tt) known
  fit Instr at known =
      instr_room versions (draft_numbers (draft_of r.draft) r.len) word ns
      (operand_room (draft_numbers (draft_of r.draft) r.len) (omega (arith, at.2.mutexes)) (omega (arith, at.2.sem_count)) (omega (arith, at.2.cells))
      (omega (arith, at.2.program_count.1)) (omega (arith, at.5.short.1))) known
  fit Evict at known =
      by_word (expected (at_stage r Evict)) word (Fit Evict) (
        below (fields_of versions (at_stage r Evict) (codes "evict")) (2 ^ 64 ∷ 2 ^ 16 ∷ 2 ^ 16 ∷ []) ns (
          range 1 MAX_EVENTS (2 ^ 64) (omega arith),
          (name r.header.count (2 ^ 16) (omega (arith, at.0.count.1)), (range 0 LAST_PAGE (2 ^ 16) (omega arith), tt)),
        ),
        (turn at.0.processors.1, (none, tt)),
      ) known
  fit Turn at known = by_word (expected (at_stage r Turn)) word (Fit Turn) (turn at.0.processors.1, (none, tt)) known
  fit Closed at known = λ pass. tt

  pub have_room : (s : Stage) → IsReached versions (at_stage r s) → is_some (index_of word (expected (at_stage r s))) ≡ true
      → AreNumbersOf (fields_of versions (at_stage r s) word) ns → RoomsAt r s word ns
  have_room s at known read = fit s at known (all_pass (fields_of versions (at_stage r s) word) ns read)
