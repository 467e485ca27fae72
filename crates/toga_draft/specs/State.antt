-- What has been read of a source after some of its lines.
use Rattle.std.specs.Prelude.{ℕ, List, [], codes, Option, None}
use Rattle.sa_base.specs.declared.number.ProcNo.{ProcNo}
use Rattle.toga_diagnostic.specs.declared.cause.Stage.{Stage}
use Rattle.toga_diagnostic.specs.declared.cause.Stage.TheVariants as stage
use Rattle.toga_draft.specs.declared.draft.Setting.{Setting}
use Rattle.toga_draft.specs.declared.word.Word.{Word}
use Rattle.toga_draft.specs.Draft.{ProgramDraftView, SpaceDraftView}
use Rattle.toga_draft.specs.Words.{no_word}

-- where lines may stand; the settings; the spaces that have ended; the space and the program that are read; how many evictions there
-- are in all; the turns; and the number of the last line
pub record State : Type 0 where
  pub stage : Stage
  pub processors : Option Setting
  pub fetch : Option Setting
  pub slice : Option Setting
  pub spaces : List SpaceDraftView
  pub space : SpaceDraftView
  pub program : ProgramDraftView
  pub evictions : ℕ
  pub turns : List ProcNo
  pub last : ℕ

-- a program that begins, and a space that begins
abbrev pub program_from : Word → ℕ → ProgramDraftView
program_from name line = record { name = name; line = line; labels = []; instrs = [] }

abbrev pub space_from : List ℕ → ℕ → SpaceDraftView
space_from name line = record {
  name = name;
  line = line;
  priority = None;
  patience = None;
  mutexes = [];
  semaphores = [];
  cells = [];
  starts = [];
  absent = [];
  evictions = [];
  programs = [];
}

-- before the first line; the space is the unnamed one, if a declaration or a program comes before a line `space`
abbrev pub start : State
start = record {
  stage = stage.Top;
  processors = None;
  fetch = None;
  slice = None;
  spaces = [];
  space = space_from (codes "main") 0;
  program = program_from no_word 0;
  evictions = 0;
  turns = [];
  last = 1;
}
