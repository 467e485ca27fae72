-- What holds of each draft that was read to its end: its numbers are in their ranges, and its operands fit.
use Rattle.std.specs.Prelude.{◌≡◌, ◌^◌, ◌<◌, ◌≤◌, ◌-◌, List, [], ◌∷◌, ◌++◌, length, slice_get, All, Some, sum_by}
use Rattle.std.specs.Option.{option_map}
use Rattle.sa_base.specs.declared.limits.TheConstants.{FIRST_THREAD_PAGE, MAX_EVENTS, MAX_PROCESSORS, MAX_SPACES}
use Rattle.sa_instr.specs.declared.limits.TheConstants.{LAST_PAGE, MAX_CELLS, MAX_EVICTIONS, MAX_FETCH, MAX_INSTRUCTIONS, MAX_IO_LENGTH, MAX_MUTEXES, MAX_PATIENCE, MAX_PRIORITY, MAX_PROGRAMS, MAX_SEMAPHORES, MAX_SLICE, MAX_START, MAX_TURNS}
use Rattle.sa_instr.specs.declared.operand.Operand.{Operand}
use Rattle.sa_instr.specs.declared.operand.Operand.TheVariants.{Register, Value, Length, Page}
use Rattle.sa_instr.specs.declared.operand.OperandKind.{OperandKind}
use Rattle.sa_instr.specs.declared.operand.OperandKind.TheVariants as kinds
use Rattle.sa_instr.specs.declared.operation.Operation.TheVariants.{End}
use Rattle.sa_instr.specs.Operand.{kind_of}
use Rattle.sa_instr.specs.Operation.{form_of}
use Rattle.toga_diagnostic.specs.declared.cause.Kind.{Kind}
use Rattle.toga_diagnostic.specs.declared.cause.Kind.TheVariants.{Mutex, Semaphore, Cell, Program, Label}
use Rattle.toga_draft.specs.declared.draft.OperandDraft.{OperandDraft}
use Rattle.toga_draft.specs.declared.draft.OperandDraft.TheVariants.{None, Known, Named, Numbered}
use Rattle.toga_draft.specs.declared.draft.InstrDraft.{InstrDraft}
use Rattle.toga_draft.specs.declared.draft.EvictDraft.{EvictDraft}
use Rattle.toga_draft.specs.Draft.{DraftView, SpaceDraftView, ProgramDraftView, value_or}

-- what a word of an operand stands for
abbrev pub named_kinds : Kind → List OperandKind
named_kinds Label = kinds.Place ∷ []
named_kinds Cell = kinds.Cell ∷ []
named_kinds Program = kinds.Program ∷ []
named_kinds Mutex = kinds.Mutex ∷ []
named_kinds Semaphore = kinds.Semaphore ∷ []
named_kinds _ = kinds.Program ∷ []

abbrev pub kinds_of : OperandDraft → List OperandKind
kinds_of None = []
kinds_of (Known o) = kind_of o ∷ []
kinds_of (Named kind word) = named_kinds kind
kinds_of (Numbered kind number) = named_kinds kind

-- an operand that names nothing is in its range
abbrev pub IsKnown : Operand → Type 0
IsKnown (Register r) = Unit {0}
IsKnown (Value n) = n < 2 ^ 64
IsKnown (Length n) = (1 ≤ n) × (n ≤ MAX_IO_LENGTH)
IsKnown (Page n) = (FIRST_THREAD_PAGE ≤ n) × (n ≤ LAST_PAGE)
IsKnown _ = ⊥

abbrev pub IsOperandDraft : OperandDraft → Type 0
IsOperandDraft (Known o) = IsKnown o
IsOperandDraft _ = Unit {0}

-- the operands are those that the operation has
pub record IsInstrDraft (i : InstrDraft) : Type 0 where
  pub fit : kinds_of i.first ++ kinds_of i.second ≡ (form_of i.operation).operands
  pub first : IsOperandDraft i.first
  pub second : IsOperandDraft i.second

pub record IsProgramDraft (p : ProgramDraftView) : Type 0 where
  pub few : length p.instrs ≤ MAX_INSTRUCTIONS
  pub ends : option_map (λ i. i.operation) (slice_get p.instrs (length p.instrs - 1)) ≡ Some End
  pub instrs : All IsInstrDraft p.instrs
  pub labels : All (λ l. l.place < length p.instrs) p.labels

pub record IsEvictDraft (e : EvictDraft) : Type 0 where
  pub first : 1 ≤ e.event
  pub last : e.event ≤ MAX_EVENTS
  pub page : e.page ≤ LAST_PAGE

pub record IsSpaceDraft (s : SpaceDraftView) : Type 0 where
  pub priority : value_or s.priority 0 ≤ MAX_PRIORITY
  pub some_patience : 1 ≤ value_or s.patience 1
  pub patience : value_or s.patience 1 ≤ MAX_PATIENCE
  pub mutexes : length s.mutexes ≤ MAX_MUTEXES
  pub cells : length s.cells ≤ MAX_CELLS
  pub semaphores : length s.semaphores ≡ length s.starts
  pub few_semaphores : length s.starts ≤ MAX_SEMAPHORES
  pub starts : All (λ start. start ≤ MAX_START) s.starts
  pub absent : All (λ page. page ≤ LAST_PAGE) s.absent
  pub evictions : All IsEvictDraft s.evictions
  pub some_program : 1 ≤ length s.programs
  pub few_programs : length s.programs ≤ MAX_PROGRAMS
  pub all_programs : All IsProgramDraft s.programs

pub record IsDraft (d : DraftView) : Type 0 where
  pub some_processor : 1 ≤ value_or d.processors 2
  pub few_processors : value_or d.processors 2 ≤ MAX_PROCESSORS
  pub some_fetch : 1 ≤ value_or d.fetch 10
  pub short_fetch : value_or d.fetch 10 ≤ MAX_FETCH
  pub slice : value_or d.slice 0 ≤ MAX_SLICE
  pub some_space : 1 ≤ length d.spaces
  pub few_spaces : length d.spaces ≤ MAX_SPACES
  pub spaces : All IsSpaceDraft d.spaces
  pub few_evictions : sum_by (λ s. length s.evictions) d.spaces ≤ MAX_EVICTIONS
  pub few_turns : length d.turns ≤ MAX_TURNS
  pub turns : All (λ proc. proc.0 < value_or d.processors 2) d.turns
