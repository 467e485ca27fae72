-- Each line leaves a reader ready for the next.
use Rattle.std.proofs.Common.{◌≡◌, ℕ, ◌-◌, ◌<◌, ◌≤◌, Bool, true, false, cond, List, [], ◌∷◌, length, Option, Some, None, Result, Ok, Err, refl, sym, ap, subst, arith, length-append}
use Rattle.std.specs.Prelude.{IfSome, nat_lt, ◌||◌}
use Rattle.sa_base.specs.declared.limits.TheConstants.{MAX_PROCESSORS}
use Rattle.sa_instr.specs.declared.limits.TheConstants.{MAX_EVICTIONS, MAX_INSTRUCTIONS}
use Rattle.sa_instr.specs.declared.operation.Operation.{Operation}
use Rattle.sa_text.specs.declared.line_reader.Line.{Line}
use Rattle.sa_text.specs.Line.{text_of_line}
use Rattle.sa_text.specs.Number.{number_of}
use Rattle.toga_lines.specs.Content.{content_of}
use Rattle.toga_lines.specs.Names.{is_name}
use Rattle.toga_diagnostic.specs.declared.cause.About.TheVariants as about_word
use Rattle.toga_diagnostic.specs.declared.cause.Fault.{Fault}
use Rattle.toga_diagnostic.specs.declared.cause.Kind.{Kind}
use Rattle.toga_diagnostic.specs.declared.cause.Kind.TheVariants as kind
use Rattle.toga_diagnostic.specs.declared.cause.Limit.{Limit}
use Rattle.toga_diagnostic.specs.declared.cause.Next.TheVariants as next
use Rattle.toga_diagnostic.specs.declared.cause.Stage.{Stage}
use Rattle.toga_diagnostic.specs.declared.cause.Stage.TheVariants as stage
use Rattle.toga_diagnostic.specs.Text.{is_label}
use Rattle.toga_draft.specs.declared.declarations.TheConstants.{EVENT, PAGE}
use Rattle.toga_draft.specs.declared.draft.EvictDraft.{EvictDraft}
use Rattle.toga_draft.specs.declared.draft.InstrDraft.{InstrDraft}
use Rattle.toga_draft.specs.declared.draft.Setting.{Setting}
use Rattle.toga_draft.specs.declared.first.Declaration.{Declaration}
use Rattle.toga_draft.specs.declared.first.Declaration.TheVariants as declaration
use Rattle.toga_draft.specs.declared.first.First.{First}
use Rattle.toga_draft.specs.declared.first.First.TheVariants as first
use Rattle.toga_draft.specs.declared.first.SettingWord.{SettingWord}
use Rattle.toga_draft.specs.declared.first.SettingWord.TheVariants as setting
use Rattle.toga_draft.specs.declared.reader.TheConstants.{FETCH, PROCESSORS, SLICE}
use Rattle.toga_draft.specs.declared.word.Word.{Word}
use Rattle.toga_draft.specs.Declarations.{after_evict, add_eviction, at_in, at_most, declare, new_eviction, set_once}
use Rattle.toga_draft.specs.Draft.{ProgramDraftView, SpaceDraftView, value_or}
use Rattle.toga_draft.specs.First.{first_of, misplaced}
use Rattle.toga_draft.specs.Lines.{after_label_by, declare_in, end_program, end_program_at, end_space, end_space_at, is_beyond, label_at, new_program, new_space, one_more, opened, opened_at, read_after_label, read_by, read_declaration, read_first, read_instr, read_label, read_line, read_line_of, read_program, read_setting, read_space, read_turns, read_words, too_long, unless_misplaced, with_space}
use Rattle.toga_draft.specs.Operands.{add_turn, number_in, number_unless}
use Rattle.toga_draft.specs.Programs.{add_instr, add_label, instr_in, label_line, label_unless, whole_program}
use Rattle.toga_draft.specs.Reader.{IsReady}
use Rattle.toga_draft.specs.Reading.{◌>>=◌, in_turn}
use Rattle.toga_draft.specs.State.{State, start}
use Rattle.toga_draft.specs.Words.{about, count_words, nth, some_words, without_colon, words_in}

-- a step that succeeds, and what follows it
pub after : {A B : Type 0} (r : Result A Fault) (f : A → Result B Fault) (b : B) (G : Type 0)
    → (r >>= f) ≡ Ok b → ((x : A) → r ≡ Ok x → f x ≡ Ok b → G) → G
after (Ok x) f b G e go = go x refl e
after (Err d) f b G e go = absurd cc

pub same-ok : {A : Type 0} (x y : A) → (let r : Result A Fault = Ok x in r) ≡ Ok y → x ≡ y
same-ok x y e = cc

-- what is not refused
pub not-refused : {A : Type 0} (b : Bool) (d : Fault) (x y : A) → cond b (Err d) (Ok x) ≡ Ok y → (b ≡ false) × (x ≡ y)
not-refused true d x y e = absurd cc
not-refused false d x y e = (refl, cc)

pub past : {A : Type 0} (b : Bool) (d : Fault) (r : Result A Fault) (y : A) → cond b (Err d) r ≡ Ok y → (b ≡ false) × (r ≡ Ok y)
past true d r y e = absurd cc
past false d r y e = (refl, e)

pub is-allowed : {A : Type 0} (b : Bool) (d : Fault) (x y : A) → cond b (Ok x) (Err d) ≡ Ok y → (b ≡ true) × (x ≡ y)
is-allowed true d x y e = (refl, cc)
is-allowed false d x y e = absurd cc

within-tests : (m low high : ℕ) → (nat_lt m low || nat_lt high m) ≡ false → (low ≤ m) × (m ≤ high)
within-tests m low high e = (let a : low ≤ m = grind arith in a, let b : m ≤ high = grind arith in b)

pub number-within : (line : ℕ) (word : Word) (limit : Limit) (n : ℕ) → number_in line word limit ≡ Ok n → (limit.low ≤ n) × (n ≤ limit.high)
unfolding number_in
number-within line word limit n e = by_number (number_of word.text) e
  where
    by_number : (o : Option ℕ) → number_unless line word limit o ≡ Ok n → (limit.low ≤ n) × (n ≤ limit.high)
    by_number None e = absurd cc
    by_number (Some m) e =
        let p = not-refused (nat_lt m limit.low || nat_lt limit.high m) _ m n e in
        subst (λ k. (limit.low ≤ k) × (k ≤ limit.high)) p.1 (within-tests m limit.low limit.high p.0)

pub at-most-room : (line : ℕ) (word : Word) (k : Kind) (most count : ℕ) (u : Unit {0}) → at_most line word k most count ≡ Ok u → count < most
unfolding at_most
at-most-room line word k most count u e = lt (is-allowed (nat_lt count most) _ tt u e).0
  where
    lt : nat_lt count most ≡ true → count < most
    lt t = grind arith

pub set-within :
    (line : ℕ) (word : Word) (operands : List Word) (limit : Limit) (o r : Option Setting) → set_once line word operands limit o ≡ Ok r
    → IfSome r (λ s. (limit.low ≤ s.value) × (s.value ≤ limit.high))
unfolding set_once
set-within line word operands limit (Some earlier) r e = absurd cc
set-within line word operands limit None r e =
    after (count_words line word operands 1 1 (next.Number limit.what)) _ r _ e (λ _ _ e1.
    after (number_in line (nth operands 0) limit) _ r _ e1 (λ n in_limits e2.
    subst (λ (o : Option Setting). IfSome o (λ s. (limit.low ≤ s.value) × (s.value ≤ limit.high))) (same-ok _ _ e2)
    (number-within line (nth operands 0) limit n in_limits)))

evict-room :
    (line : ℕ) (word : Word) (operands : List Word) (count : ℕ) (es fs : List EvictDraft) → add_eviction line word operands count es ≡ Ok fs
    → count < MAX_EVICTIONS
unfolding add_eviction
evict-room line word operands count es fs e =
    after (count_words line word operands 3 3 (after_evict (length operands))) _ fs _ e (λ _ _ e1.
    after (number_in line (nth operands 0) PAGE) _ fs _ e1 (λ page _ e2.
    after (at_in line (nth operands 1)) _ fs _ e2 (λ _ _ e3.
    after (number_in line (nth operands 2) EVENT) _ fs _ e3 (λ event _ e4.
    after (new_eviction line (nth operands 2) page event es) _ fs _ e4 (λ _ _ e5.
    after (at_most line word kind.Eviction MAX_EVICTIONS count) _ fs _ e5 (λ u room _.
    at-most-room line word kind.Eviction MAX_EVICTIONS count u room))))))

-- how many evictions there are after a declaration
few-evictions :
    (line : ℕ) (word : Word) (operands : List Word) (count : ℕ) (d : Declaration) (space later : SpaceDraftView)
    → declare line word operands count d space ≡ Ok later → count ≤ MAX_EVICTIONS → one_more d count ≤ MAX_EVICTIONS
unfolding declare
few-evictions line word operands count declaration.Evict space later e h =
    after (add_eviction line word operands count space.evictions) _ later _ e (λ es room _.
    let few = evict-room line word operands count space.evictions es room in omega arith)
few-evictions line word operands count declaration.Priority space later e h = h
few-evictions line word operands count declaration.Patience space later e h = h
few-evictions line word operands count declaration.Mutexes space later e h = h
few-evictions line word operands count declaration.Cells space later e h = h
few-evictions line word operands count declaration.Semaphore space later e h = h
few-evictions line word operands count declaration.Absent space later e h = h

-- the ends of a program and of a space
ready-end_program_at : (at : Stage) (s t : State) → IsReady s → end_program_at at s ≡ Ok t → IsReady t
ready-end_program_at stage.InProgram s t h e =
    after (whole_program s.program) _ t _ e (λ _ _ e1.
    subst IsReady (same-ok _ _ e1)
    (record { few_instructions = omega arith; few_processors = h.few_processors; few_evictions = h.few_evictions }))
ready-end_program_at stage.Top s t h e = subst IsReady (same-ok _ _ e) h
ready-end_program_at stage.Declaring s t h e = subst IsReady (same-ok _ _ e) h
ready-end_program_at stage.AfterTurns s t h e = subst IsReady (same-ok _ _ e) h

pub ready-end_program : (s t : State) → IsReady s → end_program s ≡ Ok t → IsReady t
unfolding end_program
ready-end_program s t h e = ready-end_program_at s.stage s t h e

with-space-ready : (s : State) → IsReady s → IsReady (with_space s)
with-space-ready s h =
    record { few_instructions = h.few_instructions; few_processors = h.few_processors; few_evictions = h.few_evictions }

ready-end_space_at : (at : Stage) (s t : State) → IsReady s → end_space_at at s ≡ Ok t → IsReady t
ready-end_space_at stage.Top s t h e = subst IsReady (same-ok _ _ e) h
ready-end_space_at stage.Declaring s t h e = absurd cc
ready-end_space_at stage.InProgram s t h e = subst IsReady (same-ok _ _ e) (with-space-ready s h)
ready-end_space_at stage.AfterTurns s t h e = subst IsReady (same-ok _ _ e) (with-space-ready s h)

ready-end_space : (s t : State) → IsReady s → end_space s ≡ Ok t → IsReady t
unfolding end_space
ready-end_space s t h e = ready-end_space_at s.stage s t h e

ready-opened_at : (at : Stage) (line : ℕ) (s : State) → IsReady s → IsReady (opened_at at line s)
ready-opened_at stage.Top line s h =
    record { few_instructions = h.few_instructions; few_processors = h.few_processors; few_evictions = h.few_evictions }
ready-opened_at stage.Declaring line s h = h
ready-opened_at stage.InProgram line s h = h
ready-opened_at stage.AfterTurns line s h = h

pub ready-opened : (line : ℕ) (s : State) → IsReady s → IsReady (opened line s)
unfolding opened
ready-opened line s h = ready-opened_at s.stage line s h

evictions-opened_at : (at : Stage) (line : ℕ) (s : State) → (opened_at at line s).evictions ≡ s.evictions
evictions-opened_at stage.Top line s = refl
evictions-opened_at stage.Declaring line s = refl
evictions-opened_at stage.InProgram line s = refl
evictions-opened_at stage.AfterTurns line s = refl

-- each line
ready-setting :
    (line : ℕ) (word : Word) (operands : List Word) (w : SettingWord) (s t : State) → IsReady s → read_setting line word operands w s ≡ Ok t → IsReady t
unfolding read_setting
ready-setting line word operands setting.Processors s t h e =
    after (set_once line word operands PROCESSORS s.processors) _ t _ e (λ n set e1.
    subst IsReady (same-ok _ _ e1)
    (record { few_instructions = h.few_instructions; few_processors = few n (set-within line word operands PROCESSORS s.processors n set); few_evictions = h.few_evictions }))
  where
    few : (o : Option Setting) → IfSome o (λ s. (PROCESSORS.low ≤ s.value) × (s.value ≤ PROCESSORS.high)) → value_or o 2 ≤ MAX_PROCESSORS
    few (Some s) within = within.1
    few None within = omega arith
ready-setting line word operands setting.Fetch s t h e =
    after (set_once line word operands FETCH s.fetch) _ t _ e (λ n set e1.
    subst IsReady (same-ok _ _ e1)
    (record { few_instructions = h.few_instructions; few_processors = h.few_processors; few_evictions = h.few_evictions }))
ready-setting line word operands setting.Slice s t h e =
    after (set_once line word operands SLICE s.slice) _ t _ e (λ n set e1.
    subst IsReady (same-ok _ _ e1)
    (record { few_instructions = h.few_instructions; few_processors = h.few_processors; few_evictions = h.few_evictions }))

ready-declare_in :
    (line : ℕ) (word : Word) (operands : List Word) (d : Declaration) (s t : State) → IsReady s → declare_in line word operands d s ≡ Ok t → IsReady t
unfolding declare_in
ready-declare_in line word operands d s t h e =
    after (declare line word operands s.evictions d s.space) _ t _ e (λ space declared e1.
    subst IsReady (same-ok _ _ e1)
    (record {
      few_instructions = h.few_instructions;
      few_processors = h.few_processors;
      few_evictions = few-evictions line word operands s.evictions d s.space space declared h.few_evictions;
    }))

ready-declaration :
    (line : ℕ) (word : Word) (operands : List Word) (d : Declaration) (s t : State) → IsReady s → read_declaration line word operands d s ≡ Ok t
    → IsReady t
unfolding read_declaration
ready-declaration line word operands d s t h e = ready-declare_in line word operands d (opened line s) t (ready-opened line s h) e

ready-space : (line : ℕ) (word : Word) (operands : List Word) (s t : State) → IsReady s → read_space line word operands s ≡ Ok t → IsReady t
unfolding read_space
ready-space line word operands s t h e =
    after (end_program s) _ t _ e (λ before e1 more1.
    after (end_space before) _ t _ more1 (λ ended e2 more2.
    after (new_space line word operands ended.spaces) _ t _ more2 (λ name _ more3.
    let r = ready-end_space before ended (ready-end_program s before h e1) e2 in
    subst IsReady (same-ok _ _ more3)
    (record { few_instructions = r.few_instructions; few_processors = r.few_processors; few_evictions = r.few_evictions }))))

ready-program : (line : ℕ) (word : Word) (operands : List Word) (s t : State) → IsReady s → read_program line word operands s ≡ Ok t → IsReady t
unfolding read_program
ready-program line word operands s t h e =
    after (end_program s) _ t _ e (λ ended e1 more1.
    after (new_program line word operands (opened line ended).space) _ t _ more1 (λ name _ more2.
    let r = ready-opened line ended (ready-end_program s ended h e1) in
    subst IsReady (same-ok _ _ more2)
    (record { few_instructions = omega arith; few_processors = r.few_processors; few_evictions = r.few_evictions })))

-- an instruction more
few-instructions :
    (line : ℕ) (o : Operation) (word : Word) (operands : List Word) (p q : ProgramDraftView) → add_instr line o word operands p ≡ Ok q
    → length q.instrs ≤ MAX_INSTRUCTIONS
unfolding add_instr
few-instructions line o word operands p q e =
    after (at_most line word kind.Instruction MAX_INSTRUCTIONS (length p.instrs)) _ q _ e (λ u room more1.
    after (instr_in line o word operands) _ q _ more1 (λ i _ more2.
    let few = at-most-room line word kind.Instruction MAX_INSTRUCTIONS (length p.instrs) u room in
    subst (λ (x : ProgramDraftView). length x.instrs ≤ MAX_INSTRUCTIONS) (same-ok _ _ more2)
    (omega (arith, length-append p.instrs (i ∷ [])))))

ready-instr : (line : ℕ) (o : Operation) (word : Word) (operands : List Word) (s t : State) → IsReady s → read_instr line o word operands s ≡ Ok t → IsReady t
unfolding read_instr
ready-instr line o word operands s t h e =
    after (add_instr line o word operands s.program) _ t _ e (λ p added more.
    subst IsReady (same-ok _ _ more)
    (record { few_instructions = few-instructions line o word operands s.program p added; few_processors = h.few_processors; few_evictions = h.few_evictions }))

ready-turns : (line : ℕ) (word : Word) (operands : List Word) (s t : State) → IsReady s → read_turns line word operands s ≡ Ok t → IsReady t
unfolding read_turns
ready-turns line word operands s t h e =
    after (end_program s) _ t _ e (λ ended e1 more1.
    after (some_words line word operands next.Turn) _ t _ more1 (λ _ _ more2.
    after (in_turn (add_turn line (value_or s.processors 2 - 1)) operands ended.turns) _ t _ more2 (λ turns _ more3.
    let r = ready-end_program s ended h e1 in
    subst IsReady (same-ok _ _ more3)
    (record { few_instructions = r.few_instructions; few_processors = r.few_processors; few_evictions = r.few_evictions }))))

ready-by : (line : ℕ) (word : Word) (operands : List Word) (f : First) (s t : State) → IsReady s → read_by line word operands f s ≡ Ok t → IsReady t
unfolding read_by
ready-by line word operands (first.Setting w) s t h e = ready-setting line word operands w s t h e
ready-by line word operands (first.Declaration d) s t h e = ready-declaration line word operands d s t h e
ready-by line word operands first.Space s t h e = ready-space line word operands s t h e
ready-by line word operands first.Program s t h e = ready-program line word operands s t h e
ready-by line word operands first.Turns s t h e = ready-turns line word operands s t h e
ready-by line word operands (first.Instr o) s t h e = ready-instr line o word operands s t h e
ready-by line word operands first.Workload s t h e = absurd cc
ready-by line word operands first.Unknown s t h e = absurd cc

ready-first : (line : ℕ) (word : Word) (operands : List Word) (f : First) (s t : State) → IsReady s → read_first line word operands f s ≡ Ok t → IsReady t
unfolding read_first
ready-first line word operands f s t h e =
    after (unless_misplaced line word (misplaced f s.stage)) _ t _ e (λ _ _ more. ready-by line word operands f s t h more)

-- a label, and the words after it
label-instrs : (line : ℕ) (word : Word) (p q : ProgramDraftView) → add_label line word p ≡ Ok q → q.instrs ≡ p.instrs
unfolding add_label
label-instrs line word p q e = by_name (is_name (without_colon word).text) e
  where
    by_line : (o : Option ℕ) → label_unless line (without_colon word) p o ≡ Ok q → q.instrs ≡ p.instrs
    by_line (Some earlier) e = absurd cc
    by_line None e = ap (λ (x : ProgramDraftView). x.instrs) (sym (same-ok _ _ e))

    by_name : (b : Bool) → cond b (label_unless line (without_colon word) p (label_line p.labels (without_colon word).text)) (about line word about_word.BadLabel) ≡ Ok q
        → q.instrs ≡ p.instrs
    by_name true e = by_line (label_line p.labels (without_colon word).text) e
    by_name false e = absurd cc

ready-label_at : (at : Stage) (line : ℕ) (word : Word) (s t : State) → IsReady s → label_at at line word s ≡ Ok t → IsReady t
ready-label_at stage.InProgram line word s t h e =
    after (add_label line word s.program) _ t _ e (λ p added more.
    subst IsReady (same-ok _ _ more)
    (record {
      few_instructions = subst (λ (xs : List InstrDraft). length xs ≤ MAX_INSTRUCTIONS) (sym (label-instrs line word s.program p added)) h.few_instructions;
      few_processors = h.few_processors;
      few_evictions = h.few_evictions;
    }))
ready-label_at stage.Top line word s t h e = absurd cc
ready-label_at stage.Declaring line word s t h e = absurd cc
ready-label_at stage.AfterTurns line word s t h e = absurd cc

ready-label : (line : ℕ) (word : Word) (s t : State) → IsReady s → read_label line word s ≡ Ok t → IsReady t
unfolding read_label
ready-label line word s t h e = ready-label_at s.stage line word s t h e

ready-after_label_by :
    (line : ℕ) (word : Word) (operands : List Word) (f : First) (s t : State) → IsReady s → after_label_by line word operands f s ≡ Ok t → IsReady t
ready-after_label_by line word operands (first.Instr o) s t h e = ready-instr line o word operands s t h e
ready-after_label_by line word operands (first.Setting w) s t h e = absurd cc
ready-after_label_by line word operands (first.Declaration d) s t h e = absurd cc
ready-after_label_by line word operands first.Space s t h e = absurd cc
ready-after_label_by line word operands first.Program s t h e = absurd cc
ready-after_label_by line word operands first.Turns s t h e = absurd cc
ready-after_label_by line word operands first.Workload s t h e = absurd cc
ready-after_label_by line word operands first.Unknown s t h e = absurd cc

ready-after_label : (line : ℕ) (words : List Word) (s t : State) → IsReady s → read_after_label line words s ≡ Ok t → IsReady t
unfolding read_after_label
ready-after_label line [] s t h e = subst IsReady (same-ok _ _ e) h
ready-after_label line (word ∷ operands) s t h e = ready-after_label_by line word operands (first_of word.text) s t h e

-- the words of a line
ready-words : (line : ℕ) (words : List Word) (s t : State) → IsReady s → read_words line words s ≡ Ok t → IsReady t
unfolding read_words
ready-words line [] s t h e = subst IsReady (same-ok _ _ e) h
ready-words line (word ∷ words) s t h e = by_test (is_label word.text) e
  where
    by_test : (b : Bool)
        → cond b (read_label line word s >>= read_after_label line words) (read_first line word words (first_of word.text) s) ≡ Ok t → IsReady t
    by_test true e =
        after (read_label line word s) (read_after_label line words) t _ e (λ u labelled more.
        ready-after_label line words u t (ready-label line word s u h labelled) more)
    by_test false e = ready-first line word words (first_of word.text) s t h e

ready-line : (line : ℕ) (content : List ℕ) (s t : State) → IsReady s → read_line line content s ≡ Ok t → IsReady t
unfolding read_line
ready-line line content s t h e = after (words_in line content) _ t _ e (λ words _ more. ready-words line words s t h more)

pub ready-line_of : (text : List ℕ) (line : Line) (s t : State) → IsReady s → read_line_of text line s ≡ Ok t → IsReady t
unfolding read_line_of
ready-line_of text line s t h e = by_test (is_beyond line) e
  where
    by_test : (b : Bool)
        → cond b (Err (too_long line)) (read_line line.number (content_of (text_of_line text line).bytes) (record s { last = line.number })) ≡ Ok t → IsReady t
    by_test true e = absurd cc
    by_test false e =
        ready-line line.number (content_of (text_of_line text line).bytes) (record s { last = line.number }) t
        (record { few_instructions = h.few_instructions; few_processors = h.few_processors; few_evictions = h.few_evictions }) e

pub start-ready : IsReady start
start-ready = record { few_instructions = omega arith; few_processors = omega arith; few_evictions = omega arith }
