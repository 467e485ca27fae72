-- The lines that say something of a space, before its first program.
use Rattle.std.specs.Prelude.{ℕ, Bool, ◌&&◌, ◌==◌, nat_lt, if◌then◌else◌, List, [], ◌∷◌, ◌++◌, codes, length, find, Option, Some, None, Result, Ok}
use Rattle.std.specs.List.{list_any}
use Rattle.std.specs.Option.{option_map}
use Rattle.std.specs.Str.{bytes_eq}
use Rattle.sa_instr.specs.declared.limits.TheConstants.{MAX_CELLS, MAX_EVICTIONS, MAX_MUTEXES, MAX_SEMAPHORES}
use Rattle.toga_diagnostic.specs.declared.cause.About.TheVariants as about_word
use Rattle.toga_diagnostic.specs.declared.cause.Cause.TheVariants as cause
use Rattle.toga_diagnostic.specs.declared.cause.Fault.{Fault}
use Rattle.toga_diagnostic.specs.declared.cause.Kind.{Kind}
use Rattle.toga_diagnostic.specs.declared.cause.Kind.TheVariants as kind
use Rattle.toga_diagnostic.specs.declared.cause.Limit.{Limit}
use Rattle.toga_diagnostic.specs.declared.cause.Next.{Next}
use Rattle.toga_diagnostic.specs.declared.cause.Next.TheVariants as next
use Rattle.toga_diagnostic.specs.declared.cause.Part.TheVariants as part
use Rattle.toga_diagnostic.specs.declared.cause.Twice.{Twice}
use Rattle.toga_diagnostic.specs.declared.cause.Twice.TheVariants as twice
use Rattle.toga_draft.specs.declared.declarations.TheConstants.{COUNT, EVENT, PAGE, PATIENCE, PRIORITY}
use Rattle.toga_draft.specs.declared.draft.EvictDraft.{EvictDraft}
use Rattle.toga_draft.specs.declared.draft.NameDraft.{NameDraft}
use Rattle.toga_draft.specs.declared.draft.Setting.{Setting}
use Rattle.toga_draft.specs.declared.first.Declaration.{Declaration}
use Rattle.toga_draft.specs.declared.first.Declaration.TheVariants as declaration
use Rattle.toga_draft.specs.declared.word.Word.{Word}
use Rattle.toga_draft.specs.Draft.{ProgramDraftView, SpaceDraftView}
use Rattle.toga_draft.specs.Operands.{name_in, number_in}
use Rattle.toga_draft.specs.Reading.{◌>>=◌, in_turn}
use Rattle.toga_draft.specs.Words.{refused, about, count_words, nth, some_words}

-- a number that is set once
abbrev pub set_unless : ℕ → Word → List Word → Limit → Option Setting → Result (Option Setting) Fault
set_unless line word operands limit (Some earlier) = refused line word (cause.Twice (twice.Setting earlier.line))
set_unless line word operands limit None = do
  _ ← count_words line word operands 1 1 (next.Number limit.what)
  n ← number_in line (nth operands 0) limit
  Ok (Some (record { value = n; line = line }))

unfoldable pub set_once : ℕ → Word → List Word → Limit → Option Setting → Result (Option Setting) Fault
set_once line word operands limit setting = set_unless line word operands limit setting

-- there is room for one more of a kind
unfoldable pub at_most : ℕ → Word → Kind → ℕ → ℕ → Result (Unit {0}) Fault
at_most line word k most count = if nat_lt count most then Ok tt else refused line word (cause.Part (part.OneMore k most))

-- the line of the first thing of a name, among things of one kind
abbrev pub name_line : List NameDraft → List ℕ → Option ℕ
name_line names name = option_map (λ n. n.line) (find (λ n. bytes_eq n.name name) names)

abbrev pub program_line : List ProgramDraftView → List ℕ → Option ℕ
program_line programs name = option_map (λ p. p.line) (find (λ p. bytes_eq p.name.text name) programs)

-- what has the name in a space already, if anything has
abbrev pub first_taken : (mutex semaphore cell program : Option ℕ) → Option Twice
first_taken (Some line) s c p = Some (twice.Name line kind.Mutex)
first_taken None (Some line) c p = Some (twice.Name line kind.Semaphore)
first_taken None None (Some line) p = Some (twice.Name line kind.Cell)
first_taken None None None (Some line) = Some (twice.Name line kind.Program)
first_taken None None None None = None

unfoldable pub taken : SpaceDraftView → List ℕ → Option Twice
taken space name =
    first_taken (name_line space.mutexes name) (name_line space.semaphores name) (name_line space.cells name) (program_line space.programs name)

-- nothing has the name of a word
abbrev pub unless_twice : ℕ → Word → Option Twice → Result (Unit {0}) Fault
unless_twice line word (Some t) = refused line word (cause.Twice t)
unless_twice line word None = Ok tt

unfoldable pub new_name : ℕ → Word → SpaceDraftView → Result (Unit {0}) Fault
new_name line word space = do
  _ ← name_in line word
  unless_twice line word (taken space word.text)

abbrev pub named : ℕ → Word → NameDraft
named line word = record { name = word.text; line = line }

-- a mutex, and a cell
unfoldable pub add_mutex : ℕ → Word → SpaceDraftView → Result SpaceDraftView Fault
add_mutex line word space = do
  _ ← at_most line word kind.Mutex MAX_MUTEXES (length space.mutexes)
  _ ← new_name line word space
  Ok (record space { mutexes = space.mutexes ++ named line word ∷ [] })

unfoldable pub add_cell : ℕ → Word → SpaceDraftView → Result SpaceDraftView Fault
add_cell line word space = do
  _ ← at_most line word kind.Cell MAX_CELLS (length space.cells)
  _ ← new_name line word space
  Ok (record space { cells = space.cells ++ named line word ∷ [] })

-- a semaphore, with its count where that is given
unfoldable pub start_in : ℕ → List Word → Result ℕ Fault
start_in line operands = if nat_lt 1 (length operands) then number_in line (nth operands 1) COUNT else Ok 0

unfoldable pub add_semaphore : ℕ → Word → List Word → SpaceDraftView → Result SpaceDraftView Fault
add_semaphore line word operands space = do
  _ ← at_most line word kind.Semaphore MAX_SEMAPHORES (length space.semaphores)
  _ ← count_words line word operands 1 2 next.Name
  _ ← new_name line (nth operands 0) space
  n ← start_in line operands
  Ok (record space { semaphores = space.semaphores ++ named line (nth operands 0) ∷ []; starts = space.starts ++ n ∷ [] })

-- a page that is absent
abbrev pub new_page : ℕ → Word → ℕ → List ℕ → Result (List ℕ) Fault
new_page line word page absent =
    if list_any (λ p. p == page) absent then refused line word (cause.Twice (twice.Page page)) else Ok (absent ++ page ∷ [])

unfoldable pub add_page : ℕ → Word → List ℕ → Result (List ℕ) Fault
add_page line word absent = number_in line word PAGE >>= λ page. new_page line word page absent

-- an eviction; that many are there in all
abbrev pub after_evict : ℕ → Next
after_evict operands = if operands == 0 then next.AnyPage else (if operands == 1 then next.At else next.AnyEvent)

unfoldable pub at_in : ℕ → Word → Result (Unit {0}) Fault
at_in line word = if bytes_eq word.text (codes "at") then Ok tt else about line word about_word.NoAt

abbrev pub is_evicted : ℕ → ℕ → List EvictDraft → Bool
is_evicted page event evictions = list_any (λ e. (e.page == page) && (e.event == event)) evictions

unfoldable pub new_eviction : ℕ → Word → ℕ → ℕ → List EvictDraft → Result (Unit {0}) Fault
new_eviction line word page event evictions =
    if is_evicted page event evictions then refused line word (cause.Twice (twice.Event page event)) else Ok tt

unfoldable pub add_eviction : ℕ → Word → List Word → ℕ → List EvictDraft → Result (List EvictDraft) Fault
add_eviction line word operands count evictions = do
  _ ← count_words line word operands 3 3 (after_evict (length operands))
  page ← number_in line (nth operands 0) PAGE
  _ ← at_in line (nth operands 1)
  event ← number_in line (nth operands 2) EVENT
  _ ← new_eviction line (nth operands 2) page event evictions
  _ ← at_most line word kind.Eviction MAX_EVICTIONS count
  Ok (evictions ++ record { page = page; event = event } ∷ [])

-- a declaration of a space
unfoldable pub add_names : (ℕ → Word → SpaceDraftView → Result SpaceDraftView Fault) → ℕ → Word → List Word → SpaceDraftView → Result SpaceDraftView Fault
add_names add line word operands space = do
  _ ← some_words line word operands next.Name
  in_turn (add line) operands space

unfoldable pub add_pages : ℕ → Word → List Word → List ℕ → Result (List ℕ) Fault
add_pages line word operands absent = do
  _ ← some_words line word operands next.AnyPage
  in_turn (add_page line) operands absent

unfoldable pub declare : ℕ → Word → List Word → ℕ → Declaration → SpaceDraftView → Result SpaceDraftView Fault
declare line word operands count declaration.Priority space =
    set_once line word operands PRIORITY space.priority >>= λ s. Ok (record space { priority = s })
declare line word operands count declaration.Patience space =
    set_once line word operands PATIENCE space.patience >>= λ s. Ok (record space { patience = s })
declare line word operands count declaration.Mutexes space = add_names add_mutex line word operands space
declare line word operands count declaration.Cells space = add_names add_cell line word operands space
declare line word operands count declaration.Semaphore space = add_semaphore line word operands space
declare line word operands count declaration.Absent space = add_pages line word operands space.absent >>= λ a. Ok (record space { absent = a })
declare line word operands count declaration.Evict space =
    add_eviction line word operands count space.evictions >>= λ es. Ok (record space { evictions = es })
