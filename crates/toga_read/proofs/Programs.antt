-- What is made of the programs of a draft is programs that name only what is declared.
use Rattle.std.proofs.Common.{◌≡◌, ℕ, ◌-◌, ◌≤◌, List, [], ◌∷◌, ◌++◌, length, map, Option, None, Some, IsSome, slice_get, Result, Ok, Err, refl, sym, ap, subst, ◌∙◌, arith}
use Rattle.std.specs.List.{All}
use Rattle.std.specs.Option.{option_map, unwrap_or}
use Rattle.std.proofs.lemmas.Bool.{false≢true}
use Rattle.std.proofs.lemmas.List.{map-append}
use Rattle.sa_instr.specs.declared.instr.Instr.{Instr}
use Rattle.sa_instr.specs.declared.instr.Instr.TheVariants.{End}
use Rattle.sa_instr.specs.declared.operand.Operand.{Operand}
use Rattle.sa_instr.specs.declared.operation.Operation.{Operation}
use Rattle.sa_instr.specs.declared.operation.Operation.TheVariants as operations
use Rattle.sa_instr.specs.Instr.{IsInRange, JumpsBelow, NamesDeclared}
use Rattle.sa_instr.specs.Operand.{kind_of, InRange, IsPlaceBelow, IsDeclared, Each}
use Rattle.sa_instr.specs.Operation.{form_of}
use Rattle.sa_instr.specs.Parts.{FitTheOperation, InstrView, instr_of, parts, parts_of}
use Rattle.sa_instr.specs.Program.{IsProgram}
use Rattle.sa_instr.proofs.PartsLemmas.{fit-some, parts-back}
use Rattle.toga_diagnostic.specs.declared.cause.Fault.{Fault}
use Rattle.toga_draft.specs.declared.draft.InstrDraft.{InstrDraft}
use Rattle.toga_draft.specs.Draft.{ProgramDraftView, SpaceDraftView}
use Rattle.toga_draft.specs.Reading.{◌>>=◌}
use Rattle.toga_draft.specs.Whole.{IsInstrDraft, IsProgramDraft, IsSpaceDraft, kinds_of}
use Rattle.toga_read.specs.Operands.{fitting, instr_in, listed, operand_of, program_of, programs_of}
use Rattle.toga_read.proofs.Each.{each-at, each-holds, each-length}
use Rattle.toga_read.proofs.Fits.{AreFit, IsGood, each-listed, each-weaker, fit-operand}

-- operands that fit make an instruction that has them
has-parts : (operation : Operation) (os : List Operand) (made : Option Instr) → instr_of operation os ≡ made → IsSome made
    → parts_of (unwrap_or made End) ≡ parts operation os
has-parts operation os (Some i) e some = parts-back operation os i e
has-parts operation os None e some = absurd (false≢true some)

fitting-parts : (operation : Operation) (os : List Operand) → FitTheOperation (parts operation os) → parts_of (fitting operation os) ≡ parts operation os
fitting-parts operation os fit = has-parts operation os (instr_of operation os) refl ((fit-some operation os).1 fit)

-- the operands that were looked up fit the operation
pub looked-up : (space : SpaceDraftView) (program : ProgramDraftView) (i : InstrDraft) (a b : Option Operand) → IsSpaceDraft space
    → IsProgramDraft program → IsInstrDraft i → operand_of space program i.line i.first ≡ Ok a → operand_of space program i.line i.second ≡ Ok b
    → FitTheOperation (parts i.operation (listed a ++ listed b)) × Each (IsGood space program) (listed a ++ listed b)
looked-up space program i a b is has fits e g =
    let f : AreFit space program i.first a = fit-operand space program i.line i.first a is has fits.first e in
    let s : AreFit space program i.second b = fit-operand space program i.line i.second b is has fits.second g in (
      map-append kind_of (listed a) (listed b) ∙ ap (λ os. os ++ map kind_of (listed b)) f.kinds ∙ ap (λ os. kinds_of i.first ++ os) s.kinds ∙ fits.fit,
      each-listed (IsGood space program) a b f.good s.good,
    )

-- an instruction that was made of its draft
record MadeInstr (space : SpaceDraftView) (program : ProgramDraftView) (i : InstrDraft) (instr : Instr) : Type 0 where
  operands : List Operand
  fit : FitTheOperation (parts i.operation operands)
  good : Each (IsGood space program) operands
  is : fitting i.operation operands ≡ instr

made-of : (space : SpaceDraftView) (program : ProgramDraftView) (i : InstrDraft) (instr : Instr) (r s : Result (Option Operand) Fault)
    → operand_of space program i.line i.first ≡ r → operand_of space program i.line i.second ≡ s → IsSpaceDraft space → IsProgramDraft program
    → IsInstrDraft i → (r >>= λ a. s >>= λ b. Ok (fitting i.operation (listed a ++ listed b))) ≡ Ok instr → MadeInstr space program i instr
made-of space program i instr (Ok a) (Ok b) e g is has fits made =
    let l = looked-up space program i a b is has fits e g in
    record { operands = listed a ++ listed b; fit = l.0; good = l.1; is = cc }
made-of space program i instr (Ok a) (Err fault) e g is has fits made = absurd (cc)
made-of space program i instr (Err fault) s e g is has fits made = absurd (cc)

instr-made : (space : SpaceDraftView) (program : ProgramDraftView) (i : InstrDraft) (instr : Instr) → IsSpaceDraft space → IsProgramDraft program
    → IsInstrDraft i → instr_in space program i ≡ Ok instr → MadeInstr space program i instr
unfolding instr_in
instr-made space program i instr is has fits e =
    made-of space program i instr (operand_of space program i.line i.first) (operand_of space program i.line i.second) refl refl is has fits e

-- what holds of each operand of an instruction that was made
made-each : (space : SpaceDraftView) (program : ProgramDraftView) (i : InstrDraft) (instr : Instr) (Q : Operand → Type 0)
    → ((o : Operand) → IsGood space program o → Q o) → MadeInstr space program i instr → Each Q (parts_of instr).operands
made-each space program i instr Q weaker m =
    let has : parts_of instr ≡ parts i.operation m.operands = ap parts_of (sym m.is) ∙ fitting-parts i.operation m.operands m.fit in
    subst (λ (v : InstrView). Each Q v.operands) (sym has) (each-weaker (IsGood space program) Q weaker m.operands m.good)

-- `end` has no operands
end-made : (operation : Operation) (os : List Operand) → operation ≡ operations.End → FitTheOperation (parts operation os) → fitting operation os ≡ End
end-made operation os e fit = bare os (subst (λ (o : Operation). map kind_of os ≡ (form_of o).operands) e fit) where
  bare : (xs : List Operand) → map kind_of xs ≡ [] → fitting operation xs ≡ End
  bare [] none = ap (λ (o : Operation). fitting o []) e
  bare (x ∷ xs) some = absurd (cc)

-- some item has the operation at the end
record Ending (instrs : List InstrDraft) : Type 0 where
  last : InstrDraft
  there : slice_get instrs (length instrs - 1) ≡ Some last
  ends : last.operation ≡ operations.End
  some : 1 ≤ length instrs

found-last : (o : Option InstrDraft) → option_map (λ (i : InstrDraft). i.operation) o ≡ Some operations.End
    → (i : InstrDraft) × (o ≡ Some i) × (i.operation ≡ operations.End)
found-last (Some i) e = (i, refl, cc)
found-last None e = absurd (cc)

ending : (instrs : List InstrDraft) → option_map (λ (i : InstrDraft). i.operation) (slice_get instrs (length instrs - 1)) ≡ Some operations.End → Ending instrs
ending [] e = absurd (cc)
ending (i ∷ is) e =
    let f = found-last (slice_get (i ∷ is) (length (i ∷ is) - 1)) e in
    record { last = f.0; there = f.1; ends = f.2; some = omega arith }

-- what every instruction of a space keeps to
abbrev pub Declares : SpaceDraftView → Instr → Type 0
Declares space = NamesDeclared (length space.mutexes) (length space.starts) (length space.cells) (length space.programs)

pub record MadeProgram (space : SpaceDraftView) (made : List Instr) : Type 0 where
  pub program : IsProgram made
  pub names : All (Declares space) made

pub program-made : (space : SpaceDraftView) (program : ProgramDraftView) (instrs : List Instr) → IsSpaceDraft space → IsProgramDraft program
    → program_of space program ≡ Ok instrs → MadeProgram space instrs
unfolding program_of
program-made space program instrs is has e =
    let count : length instrs ≡ length program.instrs = each-length (instr_in space program) program.instrs instrs e in
    let end = ending program.instrs has.ends in
    let found = each-at IsInstrDraft (instr_in space program) program.instrs instrs (length program.instrs - 1) end.last has.instrs e end.there in
    let m = instr-made space program end.last found.0 is has found.1 found.2 in
    let last : found.0 ≡ End = sym m.is ∙ end-made end.last.operation m.operands end.ends m.fit in
    let holds : (Q : Instr → Type 0) → ((i : InstrDraft) (instr : Instr) → MadeInstr space program i instr → Q instr) → All Q instrs =
    λ Q step. each-holds IsInstrDraft Q (instr_in space program) (λ i instr fits g. step i instr (instr-made space program i instr is has fits g)) program.instrs instrs e has.instrs in
    record {
      program = record {
        not_empty = omega (arith, count, end.some);
        not_too_long = omega (arith, count, has.few);
        ends = ap (λ k. slice_get instrs (k - 1)) count ∙ found.3 ∙ ap (λ (i : Instr). Some i) last;
        jumps = subst (λ (k : ℕ). All (JumpsBelow k) instrs) (sym count)
            (holds (JumpsBelow (length program.instrs)) (λ i instr m. made-each space program i instr (IsPlaceBelow (length program.instrs)) (λ o g. g.below) m));
        ranges = holds IsInRange (λ i instr m. made-each space program i instr InRange (λ o g. g.range) m);
      };
      names = holds (Declares space)
          (λ i instr m. made-each space program i instr (IsDeclared (length space.mutexes) (length space.starts) (length space.cells) (length space.programs)) (λ o g. g.declared) m);
    }

-- and of the programs of a space
pub record MadePrograms (space : SpaceDraftView) (made : List (List Instr)) : Type 0 where
  pub count : length made ≡ length space.programs
  pub programs : All IsProgram made
  pub names : All (All (Declares space)) made

pub programs-made : (space : SpaceDraftView) (programs : List (List Instr)) → IsSpaceDraft space → programs_of space ≡ Ok programs → MadePrograms space programs
unfolding programs_of
programs-made space programs is e = record {
  count = each-length (program_of space) space.programs programs e;
  programs = each-holds IsProgramDraft IsProgram (program_of space) (λ p instrs has g. (program-made space p instrs is has g).program) space.programs programs e is.all_programs;
  names = each-holds IsProgramDraft (All (Declares space)) (program_of space) (λ p instrs has g. (program-made space p instrs is has g).names) space.programs programs e is.all_programs;
}
