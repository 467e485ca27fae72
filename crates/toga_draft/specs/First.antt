-- What the first word of a line says that the line is, and where such a line may stand.
use Rattle.std.specs.Prelude.{ℕ, List, [], ◌∷◌, Option, Some, None, codes}
use Rattle.std.specs.Map.{lookup}
use Rattle.std.specs.Option.{option_map}
use Rattle.std.specs.Str.{bytes_eq}
use Rattle.sa_instr.specs.declared.operation.Operation.{Operation}
use Rattle.sa_instr.specs.Operation.{operation_of}
use Rattle.toga_diagnostic.specs.declared.cause.About.{About}
use Rattle.toga_diagnostic.specs.declared.cause.About.TheVariants as about
use Rattle.toga_diagnostic.specs.declared.cause.Cause.{Cause}
use Rattle.toga_diagnostic.specs.declared.cause.Cause.TheVariants as cause
use Rattle.toga_diagnostic.specs.declared.cause.Stage.{Stage}
use Rattle.toga_diagnostic.specs.declared.cause.Stage.TheVariants as stage
use Rattle.toga_draft.specs.declared.first.SettingWord.{SettingWord}
use Rattle.toga_draft.specs.declared.first.SettingWord.TheVariants as setting
use Rattle.toga_draft.specs.declared.first.Declaration.{Declaration}
use Rattle.toga_draft.specs.declared.first.Declaration.TheVariants as declaration
use Rattle.toga_draft.specs.declared.first.First.{First}
use Rattle.toga_draft.specs.declared.first.First.TheVariants as first

abbrev pub settings : List (List ℕ × SettingWord)
settings = (codes "processors", setting.Processors) ∷ (codes "fetch", setting.Fetch) ∷ (codes "slice", setting.Slice) ∷ []

abbrev pub declarations : List (List ℕ × Declaration)
declarations =
    (codes "priority", declaration.Priority)
    ∷ (codes "patience", declaration.Patience)
    ∷ (codes "mutex", declaration.Mutexes)
    ∷ (codes "cell", declaration.Cells)
    ∷ (codes "semaphore", declaration.Semaphore)
    ∷ (codes "absent", declaration.Absent)
    ∷ (codes "evict", declaration.Evict)
    ∷ []

abbrev pub others : List (List ℕ × First)
others =
    (codes "space", first.Space) ∷ (codes "program", first.Program) ∷ (codes "turns", first.Turns) ∷ (codes "workload", first.Workload) ∷ []

unfoldable pub setting_of : List ℕ → Option SettingWord
setting_of word = lookup (bytes_eq word) settings

unfoldable pub declaration_of : List ℕ → Option Declaration
declaration_of word = lookup (bytes_eq word) declarations

unfoldable pub other_of : List ℕ → Option First
other_of word = lookup (bytes_eq word) others

abbrev pub first_among : Option SettingWord → Option Declaration → Option First → Option Operation → First
first_among (Some s) d f o = first.Setting s
first_among None (Some d) f o = first.Declaration d
first_among None None (Some f) o = f
first_among None None None (Some o) = first.Instr o
first_among None None None None = first.Unknown

-- what a line is that begins with the word
unfoldable pub first_of : List ℕ → First
first_of word = first_among (setting_of word) (declaration_of word) (other_of word) (operation_of word)

-- why a setting, a declaration, a space or a program, turns, an instruction may not stand there, if it may not
abbrev pub setting_misplaced : Stage → Option About
setting_misplaced stage.Top = None
setting_misplaced stage.AfterTurns = Some about.AfterTurns
setting_misplaced _ = Some about.SettingLate

abbrev pub declaration_misplaced : Stage → Option About
declaration_misplaced stage.InProgram = Some about.DeclarationLate
declaration_misplaced stage.AfterTurns = Some about.AfterTurns
declaration_misplaced _ = None

abbrev pub opening_misplaced : Stage → Option About
opening_misplaced stage.AfterTurns = Some about.AfterTurns
opening_misplaced _ = None

abbrev pub turns_misplaced : Stage → Option About
turns_misplaced stage.Top = Some about.TurnsEarly
turns_misplaced stage.Declaring = Some about.TurnsEarly
turns_misplaced _ = None

abbrev pub instr_misplaced : Stage → Option About
instr_misplaced stage.InProgram = None
instr_misplaced stage.AfterTurns = Some about.AfterTurns
instr_misplaced _ = Some about.Outside

-- why such a line may not stand there, if it may not
abbrev pub misplaced : First → Stage → Option Cause
misplaced (first.Setting s) at = option_map cause.About (setting_misplaced at)
misplaced (first.Declaration d) at = option_map cause.About (declaration_misplaced at)
misplaced first.Space at = option_map cause.About (opening_misplaced at)
misplaced first.Program at = option_map cause.About (opening_misplaced at)
misplaced first.Turns at = option_map cause.About (turns_misplaced at)
misplaced (first.Instr o) at = option_map cause.About (instr_misplaced at)
misplaced first.Workload at = None
misplaced first.Unknown at = None
