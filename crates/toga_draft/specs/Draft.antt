-- What a contract sees of a draft.
use Rattle.std.specs.Prelude.{ℕ, List, Option}
use Rattle.std.specs.Option.{option_map, unwrap_or}
use Rattle.sa_base.specs.declared.number.ProcNo.{ProcNo}
use Rattle.toga_draft.specs.declared.word.Word.{Word}
use Rattle.toga_draft.specs.declared.draft.Setting.{Setting}
use Rattle.toga_draft.specs.declared.draft.NameDraft.{NameDraft}
use Rattle.toga_draft.specs.declared.draft.LabelDraft.{LabelDraft}
use Rattle.toga_draft.specs.declared.draft.InstrDraft.{InstrDraft}
use Rattle.toga_draft.specs.declared.draft.EvictDraft.{EvictDraft}

-- a program
pub record ProgramDraftView : Type 0 where
  pub name : Word
  pub line : ℕ
  pub labels : List LabelDraft
  pub instrs : List InstrDraft

-- a space
pub record SpaceDraftView : Type 0 where
  pub name : List ℕ
  pub line : ℕ
  pub priority : Option Setting
  pub patience : Option Setting
  pub mutexes : List NameDraft
  pub semaphores : List NameDraft
  pub cells : List NameDraft
  pub starts : List ℕ
  pub absent : List ℕ
  pub evictions : List EvictDraft
  pub programs : List ProgramDraftView

-- a whole source
pub record DraftView : Type 0 where
  pub processors : Option Setting
  pub fetch : Option Setting
  pub slice : Option Setting
  pub spaces : List SpaceDraftView
  pub turns : List ProcNo
  pub last : ℕ

-- the number that was set, or the usual one
abbrev pub value_or : Option Setting → ℕ → ℕ
value_or setting usual = unwrap_or (option_map (λ s. s.value) setting) usual
