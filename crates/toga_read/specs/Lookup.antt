-- Names and numbers that are looked up.
use Rattle.std.specs.Prelude.{ℕ, Bool, nat_lt, if◌then◌else◌, List, length, map, find, position, Option, None, Some, Result, Ok, Err}
use Rattle.std.specs.Option.{is_some, option_map}
use Rattle.std.specs.Str.{bytes_eq}
use Rattle.toga_diagnostic.specs.declared.cause.Cause.TheVariants as cause
use Rattle.toga_diagnostic.specs.declared.cause.Fault.{Fault}
use Rattle.toga_diagnostic.specs.declared.cause.Kind.{Kind}
use Rattle.toga_diagnostic.specs.declared.cause.Kind.TheVariants.{Mutex, Semaphore, Cell, Program, Label}
use Rattle.toga_diagnostic.specs.declared.cause.Missing.{Missing}
use Rattle.toga_diagnostic.specs.declared.cause.Missing.TheVariants as missing
use Rattle.toga_draft.specs.declared.draft.LabelDraft.{LabelDraft}
use Rattle.toga_draft.specs.declared.draft.NameDraft.{NameDraft}
use Rattle.toga_draft.specs.declared.draft.NumberDraft.{NumberDraft}
use Rattle.toga_draft.specs.declared.word.Word.{Word}
use Rattle.toga_draft.specs.Draft.{ProgramDraftView, SpaceDraftView}

-- the fault of a word, or of a number, of a line
abbrev pub word_fault : ℕ → Word → Missing → Fault
word_fault line word missing = record { line = line; column = word.column; width = length word.text; cause = cause.Missing missing }

abbrev pub number_fault : ℕ → NumberDraft → Missing → Fault
number_fault line n missing = record { line = line; column = n.column; width = n.width; cause = cause.Missing missing }

-- the names of mutexes, semaphores or cells, of programs and of labels, in their order
abbrev pub draft_names : List NameDraft → List (List ℕ)
draft_names drafts = map (λ d. d.name) drafts

abbrev pub own_names : List ProgramDraftView → List (List ℕ)
own_names programs = map (λ p. p.name.text) programs

abbrev pub label_names : List LabelDraft → List (List ℕ)
label_names labels = map (λ l. l.name.text) labels

-- the names of a kind in a space; what is no mutex, semaphore or cell is a program
abbrev pub kind_names : Kind → SpaceDraftView → List (List ℕ)
kind_names Mutex space = draft_names space.mutexes
kind_names Semaphore space = draft_names space.semaphores
kind_names Cell space = draft_names space.cells
kind_names _ space = own_names space.programs

-- the number of a name among these
abbrev pub draft_number : List ℕ → List NameDraft → Option ℕ
draft_number name drafts = position (λ d. bytes_eq d.name name) drafts

abbrev pub program_number : List ℕ → List ProgramDraftView → Option ℕ
program_number name programs = position (λ p. bytes_eq p.name.text name) programs

-- the number of what has the name and is of the kind
abbrev pub number_named : Kind → SpaceDraftView → List ℕ → Option ℕ
number_named Mutex space name = draft_number name space.mutexes
number_named Semaphore space name = draft_number name space.semaphores
number_named Cell space name = draft_number name space.cells
number_named _ space name = program_number name space.programs

-- the kind of what has the name
abbrev pub is_named : Kind → SpaceDraftView → List ℕ → Bool
is_named kind space name = is_some (number_named kind space name)

unfoldable pub kind_named : SpaceDraftView → List ℕ → Option Kind
kind_named space name =
    if is_named Mutex space name then Some Mutex
    else (if is_named Semaphore space name then Some Semaphore
    else (if is_named Cell space name then Some Cell else (if is_named Program space name then Some Program else None)))

-- nothing of the kind has the name: what has it is of another kind, or there is nothing of that name
abbrev pub other_kind : SpaceDraftView → Kind → Option Kind → Missing
other_kind space kind (Some other) = missing.Other other kind (kind_names kind space)
other_kind space kind None = missing.Name kind space.name (kind_names kind space)

unfoldable pub no_name : SpaceDraftView → Kind → Word → Missing
no_name space kind word = other_kind space kind (kind_named space word.text)

-- a number, or the fault of a word where there is none
abbrev pub or_fault : Option ℕ → Fault → Result ℕ Fault
or_fault (Some n) fault = Ok n
or_fault None fault = Err fault

-- the number of the thing of this kind that a word of a line names
unfoldable pub thing_number : SpaceDraftView → ℕ → Kind → Word → Result ℕ Fault
thing_number space line kind word = or_fault (number_named kind space word.text) (word_fault line word (no_name space kind word))

-- the place of the label of a name
abbrev pub is_label : List ℕ → LabelDraft → Bool
is_label name label = bytes_eq label.name.text name

abbrev pub place_named : List ℕ → List LabelDraft → Option ℕ
place_named name labels = option_map (λ l. l.place) (find (is_label name) labels)

-- no label of the program has the name
abbrev pub no_label : ProgramDraftView → Missing
no_label program = missing.Label program.name.text (label_names program.labels) (length program.instrs)

-- the place that a word of a line names
unfoldable pub label_place : ProgramDraftView → ℕ → Word → Result ℕ Fault
label_place program line word = or_fault (place_named word.text program.labels) (word_fault line word (no_label program))

-- what a name stands for: a place, or a number of the kind
unfoldable pub named_number : SpaceDraftView → ProgramDraftView → ℕ → Kind → Word → Result ℕ Fault
named_number space program line Label word = label_place program line word
named_number space program line kind word = thing_number space line kind word

-- how many things of a kind there are, or places; and the fault of a number that none of them has
abbrev pub kind_count : Kind → SpaceDraftView → ℕ
kind_count Mutex space = length space.mutexes
kind_count Semaphore space = length space.semaphores
kind_count Cell space = length space.cells
kind_count _ space = length space.programs

abbrev pub count_of : SpaceDraftView → ProgramDraftView → Kind → ℕ
count_of space program Label = length program.instrs
count_of space program kind = kind_count kind space

abbrev pub no_number : SpaceDraftView → ProgramDraftView → Kind → ℕ → Missing
no_number space program Label n = missing.Place n program.name.text (length program.instrs)
no_number space program kind n = missing.Number kind n space.name (kind_count kind space)

-- a number that says a place, or something of the kind, has to be below their count
unfoldable pub said_number : SpaceDraftView → ProgramDraftView → ℕ → Kind → NumberDraft → Result ℕ Fault
said_number space program line kind n =
    if nat_lt n.number (count_of space program kind) then Ok n.number else Err (number_fault line n (no_number space program kind n.number))
