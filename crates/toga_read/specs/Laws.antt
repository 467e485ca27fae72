-- What holds of every source that is read.
use Rattle.std.specs.Prelude.{◌≡◌, ℕ, ◌<◌, List, [], ◌∷◌, length, All, Ok}
use Rattle.sa_instr.specs.declared.instr.Instr.{Instr}
use Rattle.sa_spaces.specs.Space.{SpaceView}
use Rattle.toga_source.specs.Names.{NamesView, ProgramView}
use Rattle.toga_read.specs.Reading.{read}
use Rattle.toga_read.specs.SourceFields.{SourceView}

-- two lists are equally long, and each two items at one place fit each other
abbrev pub FitEach : {A B : Type 0} → (A → B → Type 0) → List A → List B → Type 0
FitEach R [] [] = Unit {0}
FitEach R (x ∷ xs) (y ∷ ys) = R x y × FitEach R xs ys
FitEach R _ _ = ⊥

-- each label is at a place of the program
abbrev pub LabelsFit : List Instr → ProgramView → Type 0
LabelsFit program own = All (λ l. l.place < length program) own.labels

-- a space has as many names of each kind as it declares
pub record FitsSpace (s : SpaceView) (own : NamesView) : Type 0 where
  pub mutexes : length own.mutexes ≡ s.mutexes
  pub semaphores : length own.semaphores ≡ length s.sems
  pub cells : length own.cells ≡ s.cells
  pub programs : FitEach LabelsFit s.programs own.programs

-- the names of a source that is read fit its workload
abbrev pub NamesFit : Type 0
NamesFit = (text : List ℕ) (s : SourceView) → read text ≡ Ok s → FitEach FitsSpace s.workload.spaces s.names
