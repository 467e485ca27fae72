-- Instructions by operation and operands: what is read from their lines, and back.
use Rattle.std.proofs.Common.{◌≡◌, ℕ, suc, ◌-◌, ◌^◌, ◌<◌, true, false, List, [], ◌∷◌, ◌++◌, length, get_or, map, Option, Some, None, IsSome, codes, decimal, refl, sym, ap, ap₂, ◌∙◌, subst, arith, lt-ltb}
use Rattle.std.specs.Option.{is_some}
use Rattle.std.proofs.lemmas.Bool.{false_from_ne_true}
use Rattle.std.proofs.lemmas.List.{get_or-map}
use Rattle.sa_base.specs.declared.limits.TheConstants.{FIRST_THREAD_PAGE}
use Rattle.sa_instr.specs.declared.limits.TheConstants.{LAST_PAGE, MAX_IO_LENGTH}
use Rattle.sa_instr.specs.declared.instr.Reg.{Reg}
use Rattle.sa_instr.specs.declared.instr.Reg.TheVariants.{R0}
use Rattle.sa_instr.specs.declared.instr.Instr.{Instr}
use Rattle.sa_instr.specs.declared.operand.Operand.{Operand}
use Rattle.sa_instr.specs.declared.operand.Operand.TheVariants.{Register, Value, Place, Cell, Program, Mutex, Semaphore, Length, Page}
use Rattle.sa_instr.specs.declared.operand.OperandKind.{OperandKind}
use Rattle.sa_instr.specs.declared.operand.OperandKind.TheVariants as Kinds
use Rattle.sa_instr.specs.declared.operation.Operation.{Operation}
use Rattle.sa_instr.specs.declared.operation.Operation.TheVariants as Operations
use Rattle.sa_instr.specs.declared.operation.TheConstants.{OPERATIONS}
use Rattle.sa_instr.specs.Instr.{reg_number, IsInRange, JumpsBelow, NamesDeclared}
use Rattle.sa_instr.specs.Operand.{kind_of, InRange, IsPlaceBelow, IsDeclared, Each}
use Rattle.sa_instr.specs.Operation.{form_of, IsNoWord, operation_of}
use Rattle.sa_instr.proofs.OperationLemmas.{operation-found}
use Rattle.sa_instr.specs.Parts.{parts, parts_of, instr_of}
use Rattle.sa_instr.proofs.PartsLemmas.{remade, parts-back, fit-some}
use Rattle.sa_workload.specs.Text.{operand_word, instr_line}
use Rattle.sa_workload.specs.Bad.{DeclaredNumbers, Field, operand_field, fields_by, instr_words}
use Rattle.sa_workload.specs.Fields.{index_of}
use Rattle.sa_workload.specs.Next.{reg_from, operand_from, operands_from, made_by}
use Rattle.sa_workload.proofs.fields.FieldLemmas.{contained, spelled, Passes, spelled_all, AllPass, passes-within, passes-declared, within-passes, declared-passes}

reg_number-from : (n : ℕ) → n < 8 → reg_number (reg_from n) ≡ n
reg_number-from (suc (suc (suc (suc (suc (suc (suc (suc n)))))))) h = absurd (omega arith)
reg_number-from _ h = refl

reg_from-number : (r : Reg) → reg_from (reg_number r) ≡ r
reg_from-number R0 = refl
reg_from-number _ = refl

pub reg_number-below : (r : Reg) → reg_number r < 8
reg_number-below R0 = omega arith
reg_number-below _ = omega arith

pub operation-expected : (o : Operation) → is_some (index_of (form_of o).word instr_words) ≡ true
operation-expected Operations.End = refl
operation-expected _ = refl

pub operation-fields : (versions : ℕ) (n : DeclaredNumbers) (o : Operation) → fields_by versions n (form_of o).word ≡ map (operand_field n) (form_of o).operands
operation-fields versions n Operations.End = refl
operation-fields versions n _ = refl

-- a word that an instruction may begin with is an operation's
word_at : (k : ℕ) (word : List ℕ) → k < length instr_words → get_or instr_words k word ≡ word → (o : Operation) × (word ≡ (form_of o).word)
word_at k word below e =
    (get_or OPERATIONS k Operations.End, sym e ∙ get_or-map (λ (o : Operation). (form_of o).word) OPERATIONS k Operations.End word below)

pub expected-operation : (word : List ℕ) → is_some (index_of word instr_words) ≡ true → (o : Operation) × (word ≡ (form_of o).word)
expected-operation word h = let c = contained instr_words word h in word_at c.0 word c.1 c.2

pub no_operation : (word : List ℕ) → IsNoWord word → is_some (index_of word instr_words) ≡ false
no_operation word none =
    false_from_ne_true (is_some (index_of word instr_words)) (λ t. let o = expected-operation word t in none o.0 (sym o.1))

-- the number of an operand
abbrev pub number_of : Operand → ℕ
number_of (Register r) = reg_number r
number_of (Value n) = n
number_of (Place n) = n
number_of (Cell n) = n
number_of (Program n) = n
number_of (Mutex n) = n
number_of (Semaphore n) = n
number_of (Length n) = n
number_of (Page n) = n

-- what is right of the operand that is made of a number
record IsMade (n : DeclaredNumbers) (kind : OperandKind) (x : ℕ) : Type 0 where
  kinds : kind_of (operand_from kind x) ≡ kind
  word : operand_word (operand_from kind x) ≡ spelled (operand_field n kind) x
  range : InRange (operand_from kind x)
  place : IsPlaceBelow n.instructions (operand_from kind x)
  name : IsDeclared n.mutexes n.semaphores n.cells n.programs (operand_from kind x)

made : (n : DeclaredNumbers) (kind : OperandKind) (x : ℕ) → Passes (operand_field n kind) x → IsMade n kind x
made n Kinds.Register x h = record { kinds = refl; word = ap (λ (k : ℕ). codes "r" ++ decimal k) (reg_number-from x h); range = tt; place = tt; name = tt }
made n Kinds.Value x h = record { kinds = refl; word = refl; range = h.0; place = tt; name = tt }
made n Kinds.Place x h = record { kinds = refl; word = refl; range = tt; place = declared-passes n.instructions x h; name = tt }
made n Kinds.Cell x h = record { kinds = refl; word = refl; range = tt; place = tt; name = declared-passes n.cells x h }
made n Kinds.Program x h = record { kinds = refl; word = refl; range = tt; place = tt; name = declared-passes n.programs x h }
made n Kinds.Mutex x h = record { kinds = refl; word = refl; range = tt; place = tt; name = declared-passes n.mutexes x h }
made n Kinds.Semaphore x h = record { kinds = refl; word = refl; range = tt; place = tt; name = declared-passes n.semaphores x h }
made n Kinds.Length x h = record { kinds = refl; word = refl; range = within-passes 1 MAX_IO_LENGTH x h; place = tt; name = tt }
made n Kinds.Page x h = record { kinds = refl; word = refl; range = within-passes FIRST_THREAD_PAGE LAST_PAGE x h; place = tt; name = tt }

record AreMade (n : DeclaredNumbers) (kinds : List OperandKind) (xs : List ℕ) : Type 0 where
  kinds_are : map kind_of (operands_from kinds xs) ≡ kinds
  words : map operand_word (operands_from kinds xs) ≡ spelled_all (map (operand_field n) kinds) xs
  range : Each InRange (operands_from kinds xs)
  place : Each (IsPlaceBelow n.instructions) (operands_from kinds xs)
  name : Each (IsDeclared n.mutexes n.semaphores n.cells n.programs) (operands_from kinds xs)

all_made : (n : DeclaredNumbers) (kinds : List OperandKind) (xs : List ℕ) → AllPass (map (operand_field n) kinds) xs → AreMade n kinds xs
all_made n [] [] h = record { kinds_are = refl; words = refl; range = tt; place = tt; name = tt }
all_made n [] (x ∷ xs) h = absurd h
all_made n (k ∷ kinds) [] h = absurd h
all_made n (k ∷ kinds) (x ∷ xs) h =
    let a = made n k x h.0 in
    let b = all_made n kinds xs h.1 in
    record {
      kinds_are = ap₂ (λ (z : OperandKind) (zs : List OperandKind). z ∷ zs) a.kinds b.kinds_are;
      words = ap₂ (λ (z : List ℕ) (zs : List (List ℕ)). z ∷ zs) a.word b.words;
      range = (a.range, b.range);
      place = (a.place, b.place);
      name = (a.name, b.name);
    }

-- an instruction that may be where that much is declared
pub record IsAllowed (n : DeclaredNumbers) (i : Instr) : Type 0 where
  pub range : IsInRange i
  pub jump : JumpsBelow n.instructions i
  pub name : NamesDeclared n.mutexes n.semaphores n.cells n.programs i

-- what is read from the line of an operation
pub record IsReadFrom (n : DeclaredNumbers) (word : List ℕ) (xs : List ℕ) (fields : List Field) : Type 0 where
  pub instr : Instr
  pub is : made_by xs (operation_of word) ≡ Some instr
  pub line : instr_line instr ≡ word ∷ spelled_all fields xs
  pub allowed : IsAllowed n instr

some_of : (o : Option Instr) → IsSome o → (i : Instr) × (o ≡ Some i)
some_of None h = absurd (cc h)
some_of (Some i) h = (i, refl)

pub instr-read : (versions : ℕ) (n : DeclaredNumbers) (word xs : List ℕ) → is_some (index_of word instr_words) ≡ true → AllPass (fields_by versions n word) xs
    → IsReadFrom n word xs (fields_by versions n word)
instr-read versions n word xs known h =
    let e = expected-operation word known in
    subst (λ (w : List ℕ). IsReadFrom n w xs (fields_by versions n w)) (sym e.1)
    (by_operation e.0 (subst (λ (fs : List Field). AllPass fs xs) (ap (fields_by versions n) e.1 ∙ operation-fields versions n e.0) h))
  where
    by_operation : (o : Operation) → AllPass (map (operand_field n) (form_of o).operands) xs
        → IsReadFrom n (form_of o).word xs (fields_by versions n (form_of o).word)
    by_operation o h =
        let kinds : List OperandKind = (form_of o).operands in
        let all = all_made n kinds xs h in
        let i = some_of (instr_of o (operands_from kinds xs)) ((fit-some o (operands_from kinds xs)).1 all.kinds_are) in
        let back : parts_of i.0 ≡ parts o (operands_from kinds xs) = parts-back o (operands_from kinds xs) i.0 i.1 in
        record {
          instr = i.0;
          is = ap (made_by xs) (operation-found o) ∙ i.1;
          line = ap (λ p. (form_of p.operation).word ∷ map operand_word p.operands) back
              ∙ ap (λ (ws : List (List ℕ)). (form_of o).word ∷ ws)
              (all.words ∙ ap (λ (fs : List Field). spelled_all fs xs) (sym (operation-fields versions n o)));
          allowed = record {
            range = subst (λ p. Each InRange p.operands) (sym back) all.range;
            jump = subst (λ p. Each (IsPlaceBelow n.instructions) p.operands) (sym back) all.place;
            name = subst (λ p. Each (IsDeclared n.mutexes n.semaphores n.cells n.programs) p.operands) (sym back) all.name;
          };
        }

-- the numbers that bound operands are of 64 bits
pub record AreSmall (n : DeclaredNumbers) : Type 0 where
  pub mutexes : n.mutexes < 2 ^ 64
  pub semaphores : n.semaphores < 2 ^ 64
  pub cells : n.cells < 2 ^ 64
  pub programs : n.programs < 2 ^ 64
  pub instructions : n.instructions < 2 ^ 64

record IsBack (n : DeclaredNumbers) (o : Operand) : Type 0 where
  passes : Passes (operand_field n (kind_of o)) (number_of o)
  same : operand_from (kind_of o) (number_of o) ≡ o
  word : spelled (operand_field n (kind_of o)) (number_of o) ≡ operand_word o

back : (n : DeclaredNumbers) → AreSmall n → (o : Operand) → InRange o → IsPlaceBelow n.instructions o → IsDeclared n.mutexes n.semaphores n.cells n.programs o
    → IsBack n o
back n s (Register r) a b c = record { passes = reg_number-below r; same = ap (λ (q : Reg). Register q) (reg_from-number r); word = refl }
back n s (Value x) a b c = record { passes = passes-within 0 (2 ^ 64 - 1) x (omega arith) (omega arith) (omega arith); same = refl; word = refl }
back n s (Place x) a b c = record { passes = (omega (arith, s.instructions), lt-ltb x n.instructions b); same = refl; word = refl }
back n s (Cell x) a b c = record { passes = passes-declared n.cells x c s.cells; same = refl; word = refl }
back n s (Program x) a b c = record { passes = passes-declared n.programs x c s.programs; same = refl; word = refl }
back n s (Mutex x) a b c = record { passes = passes-declared n.mutexes x c s.mutexes; same = refl; word = refl }
back n s (Semaphore x) a b c = record { passes = passes-declared n.semaphores x c s.semaphores; same = refl; word = refl }
back n s (Length x) a b c = record { passes = passes-within 1 MAX_IO_LENGTH x a.0 a.1 (omega arith); same = refl; word = refl }
back n s (Page x) a b c = record { passes = passes-within FIRST_THREAD_PAGE LAST_PAGE x a.0 a.1 (omega arith); same = refl; word = refl }

record AreBack (n : DeclaredNumbers) (os : List Operand) : Type 0 where
  passes : AllPass (map (operand_field n) (map kind_of os)) (map number_of os)
  same : operands_from (map kind_of os) (map number_of os) ≡ os
  words : spelled_all (map (operand_field n) (map kind_of os)) (map number_of os) ≡ map operand_word os

all_back : (n : DeclaredNumbers) → AreSmall n → (os : List Operand) → Each InRange os → Each (IsPlaceBelow n.instructions) os
    → Each (IsDeclared n.mutexes n.semaphores n.cells n.programs) os → AreBack n os
all_back n s [] a b c = record { passes = tt; same = refl; words = refl }
all_back n s (o ∷ os) a b c =
    let x = back n s o a.0 b.0 c.0 in
    let y = all_back n s os a.1 b.1 c.1 in
    record {
      passes = (x.passes, y.passes);
      same = ap₂ (λ (z : Operand) (zs : List Operand). z ∷ zs) x.same y.same;
      words = ap₂ (λ (z : List ℕ) (zs : List (List ℕ)). z ∷ zs) x.word y.words;
    }

-- the line of an instruction is read back
pub record IsReadBack (versions : ℕ) (n : DeclaredNumbers) (i : Instr) (word : List ℕ) (xs : List ℕ) : Type 0 where
  pub passes : AllPass (fields_by versions n word) xs
  pub is : made_by xs (operation_of word) ≡ Some i
  pub line : word ∷ spelled_all (fields_by versions n word) xs ≡ instr_line i

abbrev pub numbers_of_instr : Instr → List ℕ
numbers_of_instr i = map number_of (parts_of i).operands

pub instr-back : (versions : ℕ) (n : DeclaredNumbers) → AreSmall n → (i : Instr) → IsAllowed n i
    → IsReadBack versions n i (form_of (parts_of i).operation).word (numbers_of_instr i)
instr-back versions n s i h =
    let o : Operation = (parts_of i).operation in
    let os : List Operand = (parts_of i).operands in
    let all = all_back n s os h.range h.jump h.name in
    let fit : map kind_of os ≡ (form_of o).operands = (fit-some o os).0 (subst IsSome (sym (remade i)) refl) in
    let fields : map (operand_field n) (map kind_of os) ≡ fields_by versions n (form_of o).word = ap (map (operand_field n)) fit
    ∙ sym (operation-fields versions n o) in
    record {
      passes = subst (λ (fs : List Field). AllPass fs (numbers_of_instr i)) fields all.passes;
      is = ap (made_by (numbers_of_instr i)) (operation-found o)
          ∙ ap (λ (ks : List OperandKind). instr_of o (operands_from ks (numbers_of_instr i))) (sym fit) ∙ ap (instr_of o) all.same ∙ remade i;
      line = ap (λ (ws : List (List ℕ)). (form_of o).word ∷ ws) (ap (λ (fs : List Field). spelled_all fs (numbers_of_instr i)) (sym fields) ∙ all.words);
    }
