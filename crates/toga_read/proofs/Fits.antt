-- The operands of a draft, looked up, are those that the operation has, each in its range.
use Rattle.std.proofs.Common.{◌≡◌, ℕ, ◌<◌, ◌≤◌, Bool, true, false, List, [], ◌∷◌, ◌++◌, length, map, find, Option, None, Some, Result, Ok, Err, refl, sym, ap, subst, ◌∙◌, cond, arith, nat_lt}
use Rattle.std.specs.List.{All}
use Rattle.std.specs.Option.{option_map}
use Rattle.std.specs.Str.{bytes_eq}
use Rattle.std.proofs.lemmas.Bool.{ltb-true}
use Rattle.std.proofs.lemmas.List.Elements.{All-tail}
use Rattle.std.proofs.lemmas.List.Quantifiers.{position-Some}
use Rattle.sa_instr.specs.declared.operand.Operand.{Operand}
use Rattle.sa_instr.specs.declared.operand.Operand.TheVariants.{Register, Value, Place, Cell, Program, Mutex, Semaphore, Length, Page}
use Rattle.sa_instr.specs.Operand.{kind_of, InRange, IsPlaceBelow, IsDeclared, Each}
use Rattle.toga_diagnostic.specs.declared.cause.Fault.{Fault}
use Rattle.toga_diagnostic.specs.declared.cause.Kind.{Kind}
use Rattle.toga_diagnostic.specs.declared.cause.Kind.TheVariants as kinds
use Rattle.toga_draft.specs.declared.draft.LabelDraft.{LabelDraft}
use Rattle.toga_draft.specs.declared.draft.NameDraft.{NameDraft}
use Rattle.toga_draft.specs.declared.draft.NumberDraft.{NumberDraft}
use Rattle.toga_draft.specs.declared.draft.OperandDraft.{OperandDraft}
use Rattle.toga_draft.specs.declared.draft.OperandDraft.TheVariants as drafted
use Rattle.toga_draft.specs.declared.word.Word.{Word}
use Rattle.toga_draft.specs.Draft.{ProgramDraftView, SpaceDraftView}
use Rattle.toga_draft.specs.Whole.{IsKnown, IsOperandDraft, IsProgramDraft, IsSpaceDraft, kinds_of, named_kinds}
use Rattle.toga_read.specs.Lookup.{count_of, draft_number, is_label, kind_count, label_place, named_number, number_named, or_fault, program_number, said_number, thing_number}
use Rattle.toga_read.specs.Operands.{listed, numbered, operand_by, operand_of}

-- a number that was found is that of the answer
or_fault-ok : (o : Option ℕ) (fault : Fault) (n : ℕ) → or_fault o fault ≡ Ok n → o ≡ Some n
or_fault-ok (Some m) fault n e = let same : m ≡ n = cc in ap (λ (k : ℕ). Some k) same
or_fault-ok None fault n e = absurd (cc)

-- a number of what is there
drafts-below : (name : List ℕ) (drafts : List NameDraft) (n : ℕ) → draft_number name drafts ≡ Some n → n < length drafts
drafts-below name [] n e = absurd (cc)
drafts-below name (d ∷ ds) n e = (position-Some (λ (x : NameDraft). bytes_eq x.name name) (d ∷ ds) n d e).0

programs-below : (name : List ℕ) (programs : List ProgramDraftView) (n : ℕ) → program_number name programs ≡ Some n → n < length programs
programs-below name [] n e = absurd (cc)
programs-below name (p ∷ ps) n e = (position-Some (λ (x : ProgramDraftView). bytes_eq x.name.text name) (p ∷ ps) n p e).0

pub named-below : (kind : Kind) (space : SpaceDraftView) (name : List ℕ) (n : ℕ) → number_named kind space name ≡ Some n → n < kind_count kind space
named-below kinds.Mutex space name n e = drafts-below name space.mutexes n e
named-below kinds.Semaphore space name n e = drafts-below name space.semaphores n e
named-below kinds.Cell space name n e = drafts-below name space.cells n e
named-below kinds.Space space name n e = programs-below name space.programs n e
named-below kinds.Program space name n e = programs-below name space.programs n e
named-below kinds.Label space name n e = programs-below name space.programs n e
named-below kinds.Instruction space name n e = programs-below name space.programs n e
named-below kinds.Eviction space name n e = programs-below name space.programs n e

-- there are few of each kind, and few places
pub few-things : (kind : Kind) (space : SpaceDraftView) → IsSpaceDraft space → kind_count kind space ≤ 256
few-things kinds.Mutex space is = omega (arith, is.mutexes)
few-things kinds.Semaphore space is = omega (arith, is.semaphores, is.few_semaphores)
few-things kinds.Cell space is = omega (arith, is.cells)
few-things kinds.Space space is = is.few_programs
few-things kinds.Program space is = is.few_programs
few-things kinds.Label space is = is.few_programs
few-things kinds.Instruction space is = is.few_programs
few-things kinds.Eviction space is = is.few_programs

pub few-counted : (space : SpaceDraftView) (program : ProgramDraftView) (kind : Kind) → IsSpaceDraft space → IsProgramDraft program
    → count_of space program kind ≤ 4096
few-counted space program kinds.Label is has = has.few
few-counted space program kinds.Mutex is has = omega (arith, is.mutexes)
few-counted space program kinds.Semaphore is has = omega (arith, is.semaphores, is.few_semaphores)
few-counted space program kinds.Cell is has = omega (arith, is.cells)
few-counted space program kinds.Space is has = omega (arith, is.few_programs)
few-counted space program kinds.Program is has = omega (arith, is.few_programs)
few-counted space program kinds.Instruction is has = omega (arith, is.few_programs)
few-counted space program kinds.Eviction is has = omega (arith, is.few_programs)

-- a label that is found
label-in : (p : LabelDraft → Bool) (labels : List LabelDraft) (P : LabelDraft → Type 0) (n : ℕ) → All P labels
    → option_map (λ (l : LabelDraft). l.place) (find p labels) ≡ Some n → (l : LabelDraft) × P l × (l.place ≡ n)
label-in p [] P n all e = absurd (cc)
label-in p (l ∷ ls) P n all e = later (p l) refl (λ k. label-in p ls P n (All-tail P l ls all) k) where
  later : (b : Bool) → p l ≡ b
      → (option_map (λ (m : LabelDraft). m.place) (find p ls) ≡ Some n → (m : LabelDraft) × P m × (m.place ≡ n))
      → (m : LabelDraft) × P m × (m.place ≡ n)
  later true is rest =
      let s : Some l.place ≡ Some n = sym (ap (λ (c : Bool). option_map (λ (m : LabelDraft). m.place) (cond c (Some l) (find p ls))) is) ∙ e in
      (l, all 0 l (omega arith), cc)
  later false is rest = rest (sym (ap (λ (c : Bool). option_map (λ (m : LabelDraft). m.place) (cond c (Some l) (find p ls))) is) ∙ e)

label-below : (program : ProgramDraftView) (line : ℕ) (word : Word) (n : ℕ) → IsProgramDraft program → label_place program line word ≡ Ok n
    → n < length program.instrs
unfolding label_place
label-below program line word n has e =
    let found = label-in (is_label word.text) program.labels (λ (l : LabelDraft). l.place < length program.instrs) n has.labels
    (or_fault-ok _ _ n e) in
    subst (λ (k : ℕ). k < length program.instrs) found.2 found.1

thing-below : (space : SpaceDraftView) (line : ℕ) (kind : Kind) (word : Word) (n : ℕ) → thing_number space line kind word ≡ Ok n → n < kind_count kind space
unfolding thing_number
thing-below space line kind word n e = named-below kind space word.text n (or_fault-ok _ _ n e)

-- what a name or a number stands for is there
named-counted : (space : SpaceDraftView) (program : ProgramDraftView) (line : ℕ) (kind : Kind) (word : Word) (n : ℕ) → IsProgramDraft program
    → named_number space program line kind word ≡ Ok n → n < count_of space program kind
unfolding named_number
named-counted space program line kinds.Label word n has e = label-below program line word n has e
named-counted space program line kinds.Mutex word n has e = thing-below space line kinds.Mutex word n e
named-counted space program line kinds.Semaphore word n has e = thing-below space line kinds.Semaphore word n e
named-counted space program line kinds.Cell word n has e = thing-below space line kinds.Cell word n e
named-counted space program line kinds.Space word n has e = thing-below space line kinds.Space word n e
named-counted space program line kinds.Program word n has e = thing-below space line kinds.Program word n e
named-counted space program line kinds.Instruction word n has e = thing-below space line kinds.Instruction word n e
named-counted space program line kinds.Eviction word n has e = thing-below space line kinds.Eviction word n e

tested-below : (b : Bool) (n m count : ℕ) (fault : Fault) → nat_lt n count ≡ b → (λ (r : Result ℕ Fault). r) (cond b (Ok n) (Err fault)) ≡ Ok m → m < count
tested-below true n m count fault is e =
    let same : n ≡ m = cc in subst (λ (k : ℕ). k < count) same (ltb-true n count is)
tested-below false n m count fault is e = absurd (cc)

said-counted : (space : SpaceDraftView) (program : ProgramDraftView) (line : ℕ) (kind : Kind) (number : NumberDraft) (n : ℕ)
    → said_number space program line kind number ≡ Ok n → n < count_of space program kind
unfolding said_number
said-counted space program line kind number n e =
    tested-below (nat_lt number.number (count_of space program kind)) number.number n (count_of space program kind) _ refl e

-- an operand that is in its range, below the places of the program, and declared
pub record IsGood (space : SpaceDraftView) (program : ProgramDraftView) (o : Operand) : Type 0 where
  pub range : InRange o
  pub below : IsPlaceBelow (length program.instrs) o
  pub declared : IsDeclared (length space.mutexes) (length space.starts) (length space.cells) (length space.programs) o

-- what is counted is good, and of its kind
counted-good : (space : SpaceDraftView) (program : ProgramDraftView) (kind : Kind) (n : ℕ) → IsSpaceDraft space → n < count_of space program kind
    → IsGood space program (operand_by kind n)
counted-good space program kinds.Label n is h = record { range = tt; below = h; declared = tt }
counted-good space program kinds.Mutex n is h = record { range = tt; below = tt; declared = h }
counted-good space program kinds.Semaphore n is h = record { range = tt; below = tt; declared = omega (arith, h, is.semaphores) }
counted-good space program kinds.Cell n is h = record { range = tt; below = tt; declared = h }
counted-good space program kinds.Space n is h = record { range = tt; below = tt; declared = h }
counted-good space program kinds.Program n is h = record { range = tt; below = tt; declared = h }
counted-good space program kinds.Instruction n is h = record { range = tt; below = tt; declared = h }
counted-good space program kinds.Eviction n is h = record { range = tt; below = tt; declared = h }

counted-kind : (kind : Kind) (n : ℕ) → kind_of (operand_by kind n) ∷ [] ≡ named_kinds kind
counted-kind kinds.Label n = refl
counted-kind kinds.Mutex n = refl
counted-kind kinds.Semaphore n = refl
counted-kind kinds.Cell n = refl
counted-kind kinds.Space n = refl
counted-kind kinds.Program n = refl
counted-kind kinds.Instruction n = refl
counted-kind kinds.Eviction n = refl

known-good : (space : SpaceDraftView) (program : ProgramDraftView) (o : Operand) → IsKnown o → IsGood space program o
known-good space program (Register r) h = record { range = tt; below = tt; declared = tt }
known-good space program (Value n) h = record { range = h; below = tt; declared = tt }
known-good space program (Length n) h = record { range = h; below = tt; declared = tt }
known-good space program (Page n) h = record { range = h; below = tt; declared = tt }
known-good space program (Place n) h = absurd h
known-good space program (Cell n) h = absurd h
known-good space program (Program n) h = absurd h
known-good space program (Mutex n) h = absurd h
known-good space program (Semaphore n) h = absurd h

-- an operand, or none, that fits its draft
pub record AreFit (space : SpaceDraftView) (program : ProgramDraftView) (draft : OperandDraft) (o : Option Operand) : Type 0 where
  pub kinds : map kind_of (listed o) ≡ kinds_of draft
  pub good : Each (IsGood space program) (listed o)

fit-number : (space : SpaceDraftView) (program : ProgramDraftView) (kind : Kind) (r : Result ℕ Fault) (o : Option Operand)
    → ((n : ℕ) → r ≡ Ok n → IsGood space program (operand_by kind n)) → numbered kind r ≡ Ok o
    → (map kind_of (listed o) ≡ named_kinds kind) × Each (IsGood space program) (listed o)
fit-number space program kind (Err fault) o good e = absurd (cc)
fit-number space program kind (Ok n) o good e =
    let same : Some (operand_by kind n) ≡ o = cc in (
      ap (λ (p : Option Operand). map kind_of (listed p)) (sym same) ∙ counted-kind kind n,
      subst (λ (p : Option Operand). Each (IsGood space program) (listed p)) same (good n refl, tt),
    )

pub fit-operand : (space : SpaceDraftView) (program : ProgramDraftView) (line : ℕ) (draft : OperandDraft) (o : Option Operand) → IsSpaceDraft space
    → IsProgramDraft program → IsOperandDraft draft → operand_of space program line draft ≡ Ok o → AreFit space program draft o
unfolding operand_of
fit-operand space program line drafted.None o is has fits e =
    let same : None ≡ o = cc in
    subst (λ (p : Option Operand). AreFit space program drafted.None p) same (record { kinds = refl; good = tt })
fit-operand space program line (drafted.Known operand) o is has fits e =
    let same : Some operand ≡ o = cc in
    subst (λ (p : Option Operand). AreFit space program (drafted.Known operand) p) same
    (record { kinds = refl; good = (known-good space program operand fits, tt) })
fit-operand space program line (drafted.Named kind word) o is has fits e =
    let f = fit-number space program kind (named_number space program line kind word) o
    (λ n g. counted-good space program kind n is (named-counted space program line kind word n has g)) e in
    record { kinds = f.0; good = f.1 }
fit-operand space program line (drafted.Numbered kind number) o is has fits e =
    let f = fit-number space program kind (said_number space program line kind number) o
    (λ n g. counted-good space program kind n is (said-counted space program line kind number n g)) e in
    record { kinds = f.0; good = f.1 }

-- two operands, or fewer
pub each-listed : (P : Operand → Type 0) (a b : Option Operand) → Each P (listed a) → Each P (listed b) → Each P (listed a ++ listed b)
each-listed P None b f s = s
each-listed P (Some x) b f s = (f.0, s)

pub each-weaker : (P Q : Operand → Type 0) → ((o : Operand) → P o → Q o) → (os : List Operand) → Each P os → Each Q os
each-weaker P Q w [] e = tt
each-weaker P Q w (o ∷ os) e = (w o e.0, each-weaker P Q w os e.1)
