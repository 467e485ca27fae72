-- The names of a source that is read fit its workload.
use Rattle.std.proofs.Common.{◌≡◌, ℕ, ◌+◌, ◌<◌, ◌≤◌, zero, suc, Bool, true, false, cond, List, [], ◌∷◌, length, map, nat_eq, nat_le, codes, Result, Ok, Err, refl, sym, ap, subst, ◌∙◌, arith}
use Rattle.std.specs.List.{All, enumerate_from, flat_map, list_any, range_with_len, starts_with}
use Rattle.std.proofs.lemmas.List.Elements.{All-append, All-cons, All-tail}
use Rattle.std.proofs.lemmas.List.FromFn.{length-map-range_with_len}
use Rattle.sa_base.specs.declared.refusal.Bad.{Bad}
use Rattle.sa_instr.specs.declared.instr.Instr.{Instr}
use Rattle.sa_spaces.specs.Space.{SpaceView}
use Rattle.sa_spaces.specs.Workload.{WorkloadView}
use Rattle.sa_workload.specs.Reading.{read_of}
use Rattle.sa_workload.specs.Text.{text_of}
use Rattle.toga_diagnostic.specs.declared.cause.Fault.{Fault}
use Rattle.toga_source.specs.declared.names.Label.{Label}
use Rattle.toga_source.specs.Plain.{jumps_to, numbered, plain_label, plain_program, plain_space}
use Rattle.toga_draft.specs.declared.draft.LabelDraft.{LabelDraft}
use Rattle.toga_draft.specs.declared.draft.NameDraft.{NameDraft}
use Rattle.toga_draft.specs.Draft.{DraftView, ProgramDraftView, SpaceDraftView}
use Rattle.toga_draft.specs.Lines.{draft_of}
use Rattle.toga_draft.specs.Reading.{◌>>=◌}
use Rattle.toga_draft.specs.Whole.{IsDraft, IsProgramDraft, IsSpaceDraft}
use Rattle.toga_draft.proofs.Holds.{draft-whole}
use Rattle.toga_read.specs.declared.source.TheConstants.{MAX_TEXT}
use Rattle.toga_read.specs.Laws.{FitEach, FitsSpace, LabelsFit, NamesFit}
use Rattle.toga_read.specs.Names.{label_of, program_names, space_names}
use Rattle.toga_read.specs.Operands.{instr_in, program_of, programs_of}
use Rattle.toga_read.specs.Outcome.{each}
use Rattle.toga_read.specs.Reading.{lines_read, or_wrong, plain_by, plain_of, plain_source, read}
use Rattle.toga_read.specs.Source.{size_fault, sized, source_of, source_with}
use Rattle.toga_read.specs.SourceFields.{SourceView}
use Rattle.toga_read.specs.Spaces.{space_of, space_with, workload_of, workload_with}
use Rattle.toga_read.proofs.Each.{each-fits, each-length}

length-map : {A B : Type 0} (f : A → B) (xs : List A) → length (map f xs) ≡ length xs
length-map f [] = refl
length-map f (x ∷ xs) = ap suc (length-map f xs)

all-map : {A B : Type 0} (f : A → B) (P : B → Type 0) (xs : List A) → All (λ x. P (f x)) xs → All P (map f xs)
all-map f P [] all = λ k d h. absurd (omega (arith, h))
all-map f P (x ∷ xs) all =
    All-cons P (f x) (map f xs) (all 0 x (omega arith)) (all-map f P xs (All-tail (λ y. P (f y)) x xs all))

-- of a draft: its programs
program-fits : (space : SpaceDraftView) (p : ProgramDraftView) (instrs : List Instr) → IsProgramDraft p → program_of space p ≡ Ok instrs
    → LabelsFit instrs (program_names p)
unfolding program_of
program-fits space p instrs is e =
    let count : length instrs ≡ length p.instrs = each-length (instr_in space p) p.instrs instrs e in
    all-map label_of (λ (l : Label). l.place < length instrs) p.labels
    (subst (λ (n : ℕ). All (λ (l : LabelDraft). l.place < n) p.labels) (sym count) is.labels)

programs-fit : (space : SpaceDraftView) (made : List (List Instr)) → IsSpaceDraft space → programs_of space ≡ Ok made
    → FitEach LabelsFit made (map program_names space.programs)
unfolding programs_of
programs-fit space made is e =
    each-fits IsProgramDraft LabelsFit program_names (program_of space) (λ p instrs has g. program-fits space p instrs has g) space.programs made e is.all_programs

space-fits-by : (space : SpaceDraftView) (s : SpaceView) (r : Result (List (List Instr)) Fault) → programs_of space ≡ r → IsSpaceDraft space
    → (r >>= λ programs. Ok (space_with space programs)) ≡ Ok s → FitsSpace s (space_names space)
space-fits-by space s (Ok programs) e is made =
    let same : space_with space programs ≡ s = cc in
    subst (λ (t : SpaceView). FitsSpace t (space_names space)) same (record {
      mutexes = length-map (λ (d : NameDraft). d.name) space.mutexes;
      semaphores = length-map (λ (d : NameDraft). d.name) space.semaphores ∙ is.semaphores;
      cells = length-map (λ (d : NameDraft). d.name) space.cells;
      programs = programs-fit space programs is e;
    })
space-fits-by space s (Err fault) e is made = absurd (cc)

space-fits : (space : SpaceDraftView) (s : SpaceView) → IsSpaceDraft space → space_of space ≡ Ok s → FitsSpace s (space_names space)
unfolding space_of
space-fits space s is e = space-fits-by space s (programs_of space) refl is e

-- the draft itself
Fit : SourceView → Type 0
Fit s = FitEach FitsSpace s.workload.spaces s.names

sized-fits : (d : DraftView) (w : WorkloadView) (s : SourceView) → FitEach FitsSpace w.spaces (map space_names d.spaces) → sized d w ≡ Ok s → Fit s
unfolding sized Fit
sized-fits d w s fit e = by_size (nat_le (length (text_of w)) MAX_TEXT) e where
  by_size : (b : Bool) → cond b (Ok (source_with d w)) (Err (size_fault d.last (length (text_of w)))) ≡ Ok s → FitEach FitsSpace s.workload.spaces s.names
  by_size true e = let same : source_with d w ≡ s = cc in subst (λ (t : SourceView). FitEach FitsSpace t.workload.spaces t.names) same fit
  by_size false e = absurd (cc)

workload-fits : (d : DraftView) (s : SourceView) (r : Result (List SpaceView) Fault) → each space_of d.spaces ≡ r → IsDraft d
    → ((r >>= λ spaces. Ok (workload_with d spaces)) >>= sized d) ≡ Ok s → Fit s
workload-fits d s (Ok spaces) e is made =
    sized-fits d (workload_with d spaces) s
    (each-fits IsSpaceDraft FitsSpace space_names space_of (λ x y has g. space-fits x y has g) d.spaces spaces e is.spaces) made
workload-fits d s (Err fault) e is made = absurd (cc)

draft-fits : (d : DraftView) (s : SourceView) → IsDraft d → source_of d ≡ Ok s → Fit s
unfolding source_of workload_of
draft-fits d s is e = workload-fits d s (each space_of d.spaces) refl is e

unwrapped : (r : Result SourceView Fault) (s : SourceView) → or_wrong r ≡ Ok s → r ≡ Ok s
unwrapped (Ok t) s e = let same : t ≡ s = cc in ap (λ (x : SourceView). Ok x) same
unwrapped (Err fault) s e = absurd (cc)

lines-fit-by : (text : List ℕ) (s : SourceView) (r : Result DraftView Fault) → draft_of text ≡ r → or_wrong (r >>= source_of) ≡ Ok s → Fit s
lines-fit-by text s (Ok d) e made = draft-fits d s (draft-whole text d e) (unwrapped (source_of d) s made)
lines-fit-by text s (Err fault) e made = absurd (cc)

-- of a workload text: its numbered names
enumerated-fit : {A B : Type 0} (R : A → B → Type 0) (f : ℕ → A → B) → ((n : ℕ) (x : A) → R x (f n x)) → (n : ℕ) (xs : List A)
    → FitEach R xs (map (λ y. f y.0 y.1) (enumerate_from n xs))
enumerated-fit R f fits n [] = tt
enumerated-fit R f fits n (x ∷ xs) = (fits n x, enumerated-fit R f fits (n + 1) xs)

labels-below : (program : List Instr) (a n m : ℕ) → a + n ≤ m → All (λ (l : Label). l.place < m) (flat_map (plain_label program) (range_with_len a n))
labels-below program a zero m h = λ k d below. absurd (omega (arith, below))
labels-below program a (suc n) m h =
    All-append (λ (l : Label). l.place < m) (plain_label program a) (flat_map (plain_label program) (range_with_len (a + 1) n))
    (one (list_any (jumps_to a) program)) (labels-below program (a + 1) n m (omega arith)) where
      one : (b : Bool) → All (λ (l : Label). l.place < m) (cond b (record { place = a; name = numbered (codes "at") a } ∷ []) [])
      one true = All-cons (λ (l : Label). l.place < m) _ [] (omega (arith, h)) (λ k d below. absurd (omega (arith, below)))
      one false = λ k d below. absurd (omega (arith, below))

plain-fits : (n : ℕ) (s : SpaceView) → FitsSpace s (plain_space n s)
plain-fits n s = record {
  mutexes = length-map-range_with_len (numbered (codes "m")) 0 s.mutexes;
  semaphores = length-map-range_with_len (numbered (codes "sem")) 0 (length s.sems);
  cells = length-map-range_with_len (numbered (codes "c")) 0 s.cells;
  programs = enumerated-fit LabelsFit plain_program (λ k p. labels-below p 0 (length p) (length p) (omega arith)) 0 s.programs;
}

plain-fit-by : (text : List ℕ) (s : SourceView) (r : Result WorkloadView Bad) → plain_by text r ≡ Ok s → Fit s
unfolding Fit
plain-fit-by text s (Ok w) e =
    let same : plain_source text w ≡ s = cc in
    subst (λ (t : SourceView). FitEach FitsSpace t.workload.spaces t.names) same (enumerated-fit FitsSpace plain_space (λ n x. plain-fits n x) 0 w.spaces)
plain-fit-by text s (Err bad) e = absurd (cc)

plain-fit : (text : List ℕ) (s : SourceView) → plain_of text ≡ Ok s → Fit s
unfolding plain_of
plain-fit text s e = plain-fit-by text s (read_of 3 text) e

lines-fit : (text : List ℕ) (s : SourceView) → lines_read text ≡ Ok s → Fit s
unfolding lines_read
lines-fit text s e = lines-fit-by text s (draft_of text) refl e

pub names-fit : NamesFit
unfolding read Fit
names-fit text s e = by_start (starts_with nat_eq text (codes "workload")) e where
  by_start : (b : Bool) → cond b (plain_of text) (lines_read text) ≡ Ok s → FitEach FitsSpace s.workload.spaces s.names
  by_start true e = plain-fit text s e
  by_start false e = lines-fit text s e
