-- The names of a draft, and its lines.
use Rattle.std.specs.Prelude.{ℕ, List, map}
use Rattle.std.specs.List.{flat_map}
use Rattle.toga_source.specs.declared.names.Label.{Label}
use Rattle.toga_source.specs.Names.{NamesView, ProgramView}
use Rattle.toga_draft.specs.declared.draft.LabelDraft.{LabelDraft}
use Rattle.toga_draft.specs.Draft.{ProgramDraftView, SpaceDraftView}
use Rattle.toga_read.specs.Lookup.{draft_names}

-- a label: its place and its name
abbrev pub label_of : LabelDraft → Label
label_of label = record { place = label.place; name = label.name.text }

-- the names of a program, of a space, and of all spaces
abbrev pub program_names : ProgramDraftView → ProgramView
program_names program = record { name = program.name.text; labels = map label_of program.labels }

abbrev pub space_names : SpaceDraftView → NamesView
space_names space = record {
  name = space.name;
  mutexes = draft_names space.mutexes;
  semaphores = draft_names space.semaphores;
  cells = draft_names space.cells;
  programs = map program_names space.programs;
}

-- the line of each instruction, in the order of the spaces, of their programs and of the places
abbrev pub program_lines : ProgramDraftView → List ℕ
program_lines program = map (λ i. i.line) program.instrs

abbrev pub space_lines : SpaceDraftView → List ℕ
space_lines space = flat_map program_lines space.programs
