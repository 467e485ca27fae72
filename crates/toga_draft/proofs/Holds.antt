-- What holds after each line, and so of a whole draft.
use Rattle.std.proofs.Common.{◌≡◌, ℕ, ◌+◌, ◌-◌, ◌<◌, ◌≤◌, Bool, true, false, cond, List, [], ◌∷◌, ◌++◌, length, Option, Some, None, Result, Ok, Err, replicate, refl, sym, ap, subst, ◌∙◌, arith, length-append}
use Rattle.std.proofs.lemmas.List.{length-replicate}
use Rattle.std.specs.Prelude.{IfOk, nat_lt, ◌||◌, All, codes, sum_by}
use Rattle.std.specs.Option.{option_map}
use Rattle.std.proofs.lemmas.List.Elements.{All-append, All-nil, All-push, All-replicate}
use Rattle.std.proofs.lemmas.List.Sums.{sum_by_push}
use Rattle.sa_base.specs.declared.limits.TheConstants.{MAX_SPACES}
use Rattle.sa_base.specs.declared.number.ProcNo.{ProcNo}
use Rattle.sa_instr.specs.declared.limits.TheConstants.{LAST_PAGE, MAX_FETCH, MAX_PROGRAMS, MAX_SLICE, MAX_START, MAX_TURNS}
use Rattle.sa_instr.specs.declared.operation.Operation.{Operation}
use Rattle.sa_text.specs.declared.line_reader.Line.{Line}
use Rattle.sa_text.specs.Line.{lines_of, text_of_line}
use Rattle.toga_lines.specs.Content.{content_of}
use Rattle.toga_diagnostic.specs.declared.cause.About.{About}
use Rattle.toga_diagnostic.specs.declared.cause.Cause.{Cause}
use Rattle.toga_diagnostic.specs.declared.cause.Cause.TheVariants as cause
use Rattle.toga_diagnostic.specs.declared.cause.Kind.TheVariants as kind
use Rattle.toga_diagnostic.specs.declared.cause.Next.TheVariants as next
use Rattle.toga_diagnostic.specs.declared.cause.Stage.{Stage}
use Rattle.toga_diagnostic.specs.declared.cause.Stage.TheVariants as stage
use Rattle.toga_diagnostic.specs.Text.{is_label}
use Rattle.toga_draft.specs.declared.draft.LabelDraft.{LabelDraft}
use Rattle.toga_draft.specs.declared.draft.Setting.{Setting}
use Rattle.toga_draft.specs.declared.first.Declaration.{Declaration}
use Rattle.toga_draft.specs.declared.first.Declaration.TheVariants as declaration
use Rattle.toga_draft.specs.declared.first.First.{First}
use Rattle.toga_draft.specs.declared.first.First.TheVariants as first
use Rattle.toga_draft.specs.declared.first.SettingWord.{SettingWord}
use Rattle.toga_draft.specs.declared.first.SettingWord.TheVariants as setting
use Rattle.toga_draft.specs.declared.reader.TheConstants.{FETCH, PROCESSORS, SLICE}
use Rattle.toga_draft.specs.declared.unread.Unread.{Unread}
use Rattle.toga_draft.specs.declared.word.Word.{Word}
use Rattle.toga_draft.specs.Declarations.{at_most, declare, set_once}
use Rattle.toga_draft.specs.Draft.{DraftView, ProgramDraftView, SpaceDraftView, value_or}
use Rattle.toga_draft.specs.First.{declaration_misplaced, first_of, misplaced, opening_misplaced, setting_misplaced, turns_misplaced}
use Rattle.toga_draft.specs.Lines.{after_label_by, declare_in, draft_from, draft_of, end_of_lines, end_program, end_program_at, end_space, end_space_at, is_beyond, label_at, new_program, new_space, one_more, opened, opened_at, read_after_label, read_by, read_declaration, read_first, read_instr, read_label, read_line, read_line_of, read_program, read_setting, read_space, read_turns, read_words, too_long, unless_empty, unless_misplaced, with_program, with_space}
use Rattle.toga_draft.specs.Operands.{add_turn, turn_of, turns_unless}
use Rattle.toga_draft.specs.Programs.{add_instr, add_label, whole_program}
use Rattle.toga_draft.specs.Reader.{IsReady}
use Rattle.toga_draft.specs.Reading.{◌>>=◌, Gives, in_turn}
use Rattle.toga_draft.specs.State.{State, program_from, space_from, start}
use Rattle.toga_draft.specs.Whole.{IsDraft, IsEvictDraft, IsInstrDraft, IsProgramDraft, IsSpaceDraft}
use Rattle.toga_draft.specs.Words.{no_word, some_words, words_in}
use Rattle.toga_draft.proofs.Ready.{after, same-ok, past, at-most-room, set-within, ready-end_program, ready-line_of, start-ready}
use Rattle.toga_draft.proofs.Parts.{turn-keeps, IsOpenProgram, IsOpenSpace, declared-space, declared-rest, instr-added, label-added, program-ended, space-ended, value-within}

-- the settings, what is read, and the counts
abbrev AreNumbers : Option Setting → Option Setting → Option Setting → Type 0
AreNumbers processors fetch slice =
    (1 ≤ value_or processors 2) × (1 ≤ value_or fetch 10) × (value_or fetch 10 ≤ MAX_FETCH) × (value_or slice 0 ≤ MAX_SLICE)

pub record Core (s : State) : Type 0 where
  pub numbers : AreNumbers s.processors s.fetch s.slice
  pub spaces : All IsSpaceDraft s.spaces
  pub space : IsOpenSpace s.space
  pub program : IsOpenProgram s.program
  pub evictions : s.evictions ≡ sum_by (λ (p : SpaceDraftView). length p.evictions) s.spaces + length s.space.evictions
  pub turns : All (λ (p : ProcNo). p.0 < value_or s.processors 2) s.turns
  pub few_turns : length s.turns ≤ MAX_TURNS

-- where lines may stand: how many spaces have ended, and how many programs of the space, turns and evictions of the space there are
abbrev At : Stage → (spaces programs turns evictions : ℕ) → Type 0
At stage.Top a b c d = (a ≡ 0) × (b ≡ 0) × (c ≡ 0) × (d ≡ 0)
At stage.Declaring a b c d = (a < MAX_SPACES) × (b ≡ 0) × (c ≡ 0)
At stage.InProgram a b c d = (a < MAX_SPACES) × (b < MAX_PROGRAMS) × (c ≡ 0)
At stage.AfterTurns a b c d = (a < MAX_SPACES) × (1 ≤ b) × (b ≤ MAX_PROGRAMS)

-- the same after the program that is read has ended
abbrev Ended : Stage → (spaces programs turns evictions : ℕ) → Type 0
Ended stage.Top a b c d = (a ≡ 0) × (b ≡ 0) × (c ≡ 0) × (d ≡ 0)
Ended stage.Declaring a b c d = (a < MAX_SPACES) × (b ≡ 0) × (c ≡ 0)
Ended stage.InProgram a b c d = (a < MAX_SPACES) × (1 ≤ b) × (b ≤ MAX_PROGRAMS) × (c ≡ 0)
Ended stage.AfterTurns a b c d = (a < MAX_SPACES) × (1 ≤ b) × (b ≤ MAX_PROGRAMS)

abbrev AtIn : Stage → State → Type 0
AtIn st s = At st (length s.spaces) (length s.space.programs) (length s.turns) (length s.space.evictions)

abbrev EndedIn : Stage → State → Type 0
EndedIn st s = Ended st (length s.spaces) (length s.space.programs) (length s.turns) (length s.space.evictions)

pub record Holds (s : State) : Type 0 where
  pub core : Core s
  pub at : AtIn s.stage s

no-program-open : (w : Word) (line : ℕ) → IsOpenProgram (program_from w line)
no-program-open w line = record { instrs = All-nil IsInstrDraft; labels = All-nil (λ (l : LabelDraft). l.place ≤ 0) }

new-space-open : (name : List ℕ) (line : ℕ) → IsOpenSpace (space_from name line)
new-space-open name line = record {
  numbers = (omega arith, omega arith, omega arith);
  mutexes = omega arith;
  cells = omega arith;
  semaphores = (refl, omega arith, All-nil (λ (start : ℕ). start ≤ MAX_START));
  absent = All-nil (λ (page : ℕ). page ≤ LAST_PAGE);
  evictions = All-nil IsEvictDraft;
  programs = All-nil IsProgramDraft;
}

none-of : {A : Type 0} (P : A → Type 0) (xs : List A) → length xs ≡ 0 → All P xs
none-of P [] e = All-nil P
none-of P (x ∷ xs) e = absurd (omega arith)

-- the end of a program
abbrev EndsProgram : Stage → State → State → Type 0
EndsProgram st s t = Core t × EndedIn st t × (t.stage ≡ s.stage) × (t.processors ≡ s.processors)

program-end : (st : Stage) (s t : State) → IsReady s → Core s → AtIn st s → end_program_at st s ≡ Ok t → EndsProgram st s t
program-end stage.Top s t r h a e = subst (EndsProgram stage.Top s) (same-ok s t e) (h, a, refl, refl)
program-end stage.Declaring s t r h a e = subst (EndsProgram stage.Declaring s) (same-ok s t e) (h, a, refl, refl)
program-end stage.AfterTurns s t r h a e = subst (EndsProgram stage.AfterTurns s) (same-ok s t e) (h, a, refl, refl)
program-end stage.InProgram s t r h a e =
    after (whole_program s.program) (λ _. Ok (with_program s)) t (EndsProgram stage.InProgram s t) e (λ u whole more.
    let count = length-append s.space.programs (s.program ∷ []) in
    subst (EndsProgram stage.InProgram s) (same-ok (with_program s) t more) (
      record {
        numbers = h.numbers;
        spaces = h.spaces;
        space = record {
          numbers = h.space.numbers;
          mutexes = h.space.mutexes;
          cells = h.space.cells;
          semaphores = h.space.semaphores;
          absent = h.space.absent;
          evictions = h.space.evictions;
          programs = All-push IsProgramDraft s.space.programs s.program h.space.programs (program-ended s.program u r.few_instructions h.program whole);
        };
        program = no-program-open no_word 0;
        evictions = h.evictions;
        turns = h.turns;
        few_turns = h.few_turns;
      },
      (a.0, omega (arith, count), omega (arith, count), a.2),
      refl,
      refl,
    ))

ends-program : (s t : State) → IsReady s → Holds s → end_program s ≡ Ok t → EndsProgram s.stage s t
unfolding end_program
ends-program s t r h e = program-end s.stage s t r h.core h.at e

-- the end of a space
with-space-core : (s : State) → Core s → 1 ≤ length s.space.programs → length s.space.programs ≤ MAX_PROGRAMS → Core (with_space s)
with-space-core s h some few = record {
  numbers = h.numbers;
  spaces = All-push IsSpaceDraft s.spaces s.space h.spaces (space-ended s.space h.space some few);
  space = new-space-open [] 0;
  program = h.program;
  evictions = omega (arith, h.evictions, sum_by_push (λ (p : SpaceDraftView). length p.evictions) s.spaces s.space);
  turns = h.turns;
  few_turns = h.few_turns;
}

abbrev EndsSpace : State → State → Type 0
EndsSpace s t = Core t × (length t.space.evictions ≡ 0) × (t.turns ≡ s.turns)

space-end : (st : Stage) (s t : State) → Core s → EndedIn st s → end_space_at st s ≡ Ok t → EndsSpace s t
space-end stage.Top s t h a e = subst (EndsSpace s) (same-ok s t e) (h, a.3, refl)
space-end stage.Declaring s t h a e = absurd cc
space-end stage.InProgram s t h a e = subst (EndsSpace s) (same-ok (with_space s) t e) (with-space-core s h a.1 a.2, refl, refl)
space-end stage.AfterTurns s t h a e = subst (EndsSpace s) (same-ok (with_space s) t e) (with-space-core s h a.1 a.2, refl, refl)

ends-space : (s t : State) → Core s → EndedIn s.stage s → end_space s ≡ Ok t → EndsSpace s t
unfolding end_space
ends-space s t h a e = space-end s.stage s t h a e

-- where a line may stand
well-placed : (line : ℕ) (w : Word) (o : Option Cause) (u : Unit {0}) → unless_misplaced line w o ≡ Ok u → o ≡ None
well-placed line w (Some c) u e = absurd cc
well-placed line w None u e = refl

unmapped : (o : Option About) → option_map cause.About o ≡ None → o ≡ None
unmapped (Some a) e = absurd cc
unmapped None e = refl

no-turns : (st : Stage) (a b c d : ℕ) → opening_misplaced st ≡ None → Ended st a b c d → c ≡ 0
no-turns stage.Top a b c d p h = h.2
no-turns stage.Declaring a b c d p h = h.2
no-turns stage.InProgram a b c d p h = h.3
no-turns stage.AfterTurns a b c d p h = absurd cc

room-left : (st : Stage) (a b c d : ℕ) → Ended st a b c d → a < MAX_SPACES
room-left stage.Top a b c d h = omega arith
room-left stage.Declaring a b c d h = h.0
room-left stage.InProgram a b c d h = h.0
room-left stage.AfterTurns a b c d h = h.0

-- the unnamed space may begin
abbrev SameCounts : State → State → Type 0
SameCounts s t = Core t × (t.spaces ≡ s.spaces) × (t.turns ≡ s.turns) × (t.space.programs ≡ s.space.programs)

opened-core : (st : Stage) (line : ℕ) (s : State) → Core s → SameCounts s (opened_at st line s)
opened-core stage.Top line s h = (
  record {
    numbers = h.numbers;
    spaces = h.spaces;
    space = record {
      numbers = h.space.numbers;
      mutexes = h.space.mutexes;
      cells = h.space.cells;
      semaphores = h.space.semaphores;
      absent = h.space.absent;
      evictions = h.space.evictions;
      programs = h.space.programs;
    };
    program = h.program;
    evictions = h.evictions;
    turns = h.turns;
    few_turns = h.few_turns;
  },
  refl,
  refl,
  refl,
)
opened-core stage.Declaring line s h = (h, refl, refl, refl)
opened-core stage.InProgram line s h = (h, refl, refl, refl)
opened-core stage.AfterTurns line s h = (h, refl, refl, refl)

-- a declaration
opens : (st : Stage) (line : ℕ) (s : State) → s.stage ≡ st → declaration_misplaced st ≡ None → AtIn st s
    → AtIn stage.Declaring (opened_at st line s) × ((opened_at st line s).stage ≡ stage.Declaring)
opens stage.Top line s is p a = ((omega (arith, a.0), a.1, a.2), refl)
opens stage.Declaring line s is p a = (a, is)
opens stage.InProgram line s is p a = absurd cc
opens stage.AfterTurns line s is p a = absurd cc

one_more-plus : (d : Declaration) (a b : ℕ) → one_more d (a + b) ≡ a + one_more d b
one_more-plus declaration.Evict a b = omega arith
one_more-plus declaration.Priority a b = refl
one_more-plus declaration.Patience a b = refl
one_more-plus declaration.Mutexes a b = refl
one_more-plus declaration.Cells a b = refl
one_more-plus declaration.Semaphore a b = refl
one_more-plus declaration.Absent a b = refl

holds-declare_in :
    (line : ℕ) (w : Word) (ws : List Word) (d : Declaration) (s t : State) → Core s → AtIn stage.Declaring s → s.stage ≡ stage.Declaring
    → declare_in line w ws d s ≡ Ok t → Holds t
unfolding declare_in
holds-declare_in line w ws d s t h a is e =
    after (declare line w ws s.evictions d s.space) _ t (Holds t) e (λ space declared more.
    let rest = declared-rest line w ws s.evictions d s.space space h.space.evictions declared in
    let total : one_more d s.evictions ≡ sum_by (λ (p : SpaceDraftView). length p.evictions) s.spaces + length space.evictions =
    ap (one_more d) h.evictions
    ∙ one_more-plus d (sum_by (λ (p : SpaceDraftView). length p.evictions) s.spaces) (length s.space.evictions)
    ∙ ap (λ n. sum_by (λ (p : SpaceDraftView). length p.evictions) s.spaces + n) (sym rest.1) in
    subst Holds (same-ok _ t more) (record {
      core = record {
        numbers = h.numbers;
        spaces = h.spaces;
        space = declared-space line w ws s.evictions d s.space space h.space declared;
        program = h.program;
        evictions = total;
        turns = h.turns;
        few_turns = h.few_turns;
      };
      at = subst (λ st. At st (length s.spaces) (length space.programs) (length s.turns) (length space.evictions)) (sym is)
          (a.0, ap length rest.0 ∙ a.1, a.2);
    }))

holds-declaration :
    (line : ℕ) (w : Word) (ws : List Word) (d : Declaration) (s t : State) → declaration_misplaced s.stage ≡ None → Holds s
    → read_declaration line w ws d s ≡ Ok t → Holds t
unfolding read_declaration opened
holds-declaration line w ws d s t p h e =
    let o = opens s.stage line s refl p h.at in
    holds-declare_in line w ws d (opened_at s.stage line s) t (opened-core s.stage line s h.core).0 o.0 o.1 e

-- a setting
holds-setting :
    (line : ℕ) (w : Word) (ws : List Word) (n : SettingWord) (s t : State) → setting_misplaced s.stage ≡ None → Holds s
    → read_setting line w ws n s ≡ Ok t → Holds t
unfolding read_setting
holds-setting line w ws setting.Processors s t p h e =
    after (set_once line w ws PROCESSORS s.processors) _ t (Holds t) e (λ o set more.
    let within = value-within PROCESSORS o 2 (omega arith) (omega arith) (set-within line w ws PROCESSORS s.processors o set) in
    subst Holds (same-ok _ t more) (record {
      core = record {
        numbers = (within.0, h.core.numbers.1, h.core.numbers.2, h.core.numbers.3);
        spaces = h.core.spaces;
        space = h.core.space;
        program = h.core.program;
        evictions = h.core.evictions;
        turns = none-of (λ (q : ProcNo). q.0 < value_or o 2) s.turns (at-top s.stage _ _ _ _ p h.at);
        few_turns = h.core.few_turns;
      };
      at = h.at;
    }))
  where
    at-top : (st : Stage) (a b c d : ℕ) → setting_misplaced st ≡ None → At st a b c d → c ≡ 0
    at-top stage.Top a b c d p h = h.2
    at-top stage.Declaring a b c d p h = absurd cc
    at-top stage.InProgram a b c d p h = absurd cc
    at-top stage.AfterTurns a b c d p h = absurd cc
holds-setting line w ws setting.Fetch s t p h e =
    after (set_once line w ws FETCH s.fetch) _ t (Holds t) e (λ o set more.
    let within = value-within FETCH o 10 (omega arith) (omega arith) (set-within line w ws FETCH s.fetch o set) in
    subst Holds (same-ok _ t more) (record {
      core = record {
        numbers = (h.core.numbers.0, within.0, within.1, h.core.numbers.3);
        spaces = h.core.spaces;
        space = h.core.space;
        program = h.core.program;
        evictions = h.core.evictions;
        turns = h.core.turns;
        few_turns = h.core.few_turns;
      };
      at = h.at;
    }))
holds-setting line w ws setting.Slice s t p h e =
    after (set_once line w ws SLICE s.slice) _ t (Holds t) e (λ o set more.
    let within = value-within SLICE o 0 (omega arith) (omega arith) (set-within line w ws SLICE s.slice o set) in
    subst Holds (same-ok _ t more) (record {
      core = record {
        numbers = (h.core.numbers.0, h.core.numbers.1, h.core.numbers.2, within.1);
        spaces = h.core.spaces;
        space = h.core.space;
        program = h.core.program;
        evictions = h.core.evictions;
        turns = h.core.turns;
        few_turns = h.core.few_turns;
      };
      at = h.at;
    }))

-- a space, and a program
space-room : (line : ℕ) (w : Word) (ws : List Word) (spaces : List SpaceDraftView) (name : Word) → new_space line w ws spaces ≡ Ok name → length spaces < MAX_SPACES
unfolding new_space
space-room line w ws spaces name e =
    after (at_most line w kind.Space MAX_SPACES (length spaces)) _ name _ e (λ u room _. at-most-room line w kind.Space MAX_SPACES (length spaces) u room)

program-room : (line : ℕ) (w : Word) (ws : List Word) (space : SpaceDraftView) (name : Word) → new_program line w ws space ≡ Ok name
    → length space.programs < MAX_PROGRAMS
unfolding new_program
program-room line w ws space name e =
    after (at_most line w kind.Program MAX_PROGRAMS (length space.programs)) _ name _ e (λ u room _.
    at-most-room line w kind.Program MAX_PROGRAMS (length space.programs) u room)

holds-space :
    (line : ℕ) (w : Word) (ws : List Word) (s t : State) → opening_misplaced s.stage ≡ None → IsReady s → Holds s → read_space line w ws s ≡ Ok t → Holds t
unfolding read_space
holds-space line w ws s t p r h e =
    after (end_program s) _ t (Holds t) e (λ before e1 more1.
    after (end_space before) _ t (Holds t) more1 (λ ended e2 more2.
    after (new_space line w ws ended.spaces) _ t (Holds t) more2 (λ name e3 more3.
    let b = ends-program s before r h e1 in
    let c = ends-space before ended b.0 (subst (λ st. EndedIn st before) (sym b.2) b.1) e2 in
    let none = no-turns s.stage _ _ _ _ p b.1 in
    subst Holds (same-ok _ t more3) (record {
      core = record {
        numbers = c.0.numbers;
        spaces = c.0.spaces;
        space = new-space-open name.text line;
        program = c.0.program;
        evictions = c.0.evictions ∙ ap (λ n. sum_by (λ (q : SpaceDraftView). length q.evictions) ended.spaces + n) c.1;
        turns = c.0.turns;
        few_turns = c.0.few_turns;
      };
      at = (space-room line w ws ended.spaces name e3, refl, ap length c.2 ∙ none);
    }))))

holds-program :
    (line : ℕ) (w : Word) (ws : List Word) (s t : State) → opening_misplaced s.stage ≡ None → IsReady s → Holds s → read_program line w ws s ≡ Ok t → Holds t
unfolding read_program opened
holds-program line w ws s t p r h e =
    after (end_program s) _ t (Holds t) e (λ ended e1 more1.
    after (new_program line w ws (opened_at ended.stage line ended).space) _ t (Holds t) more1 (λ name e2 more2.
    let b = ends-program s ended r h e1 in
    let o = opened-core ended.stage line ended b.0 in
    subst Holds (same-ok _ t more2) (record {
      core = record {
        numbers = o.0.numbers;
        spaces = o.0.spaces;
        space = o.0.space;
        program = no-program-open name line;
        evictions = o.0.evictions;
        turns = o.0.turns;
        few_turns = o.0.few_turns;
      };
      at = (
        subst (λ (xs : List SpaceDraftView). length xs < MAX_SPACES) (sym o.1) (room-left s.stage _ _ _ _ b.1),
        program-room line w ws (opened_at ended.stage line ended).space name e2,
        ap length o.2 ∙ no-turns s.stage _ _ _ _ p b.1,
      );
    })))

-- an instruction, and a label
with-program-holds : (s : State) (p : ProgramDraftView) → IsOpenProgram p → Holds s → Holds (record s { program = p })
with-program-holds s p o h = record {
  core = record {
    numbers = h.core.numbers;
    spaces = h.core.spaces;
    space = h.core.space;
    program = o;
    evictions = h.core.evictions;
    turns = h.core.turns;
    few_turns = h.core.few_turns;
  };
  at = h.at;
}

holds-instr : (line : ℕ) (o : Operation) (w : Word) (ws : List Word) (s t : State) → Holds s → read_instr line o w ws s ≡ Ok t → Holds t
unfolding read_instr
holds-instr line o w ws s t h e =
    after (add_instr line o w ws s.program) (λ p. Ok (record s { program = p })) t (Holds t) e (λ p added more.
    subst Holds (same-ok (record s { program = p }) t more) (with-program-holds s p (instr-added line o w ws s.program p h.core.program added) h))

holds-label_at : (st : Stage) (line : ℕ) (w : Word) (s t : State) → Holds s → label_at st line w s ≡ Ok t → Holds t
holds-label_at stage.InProgram line w s t h e =
    after (add_label line w s.program) (λ p. Ok (record s { program = p })) t (Holds t) e (λ p added more.
    subst Holds (same-ok (record s { program = p }) t more) (with-program-holds s p (label-added line w s.program p h.core.program added) h))
holds-label_at stage.Top line w s t h e = absurd cc
holds-label_at stage.Declaring line w s t h e = absurd cc
holds-label_at stage.AfterTurns line w s t h e = absurd cc

holds-label : (line : ℕ) (w : Word) (s t : State) → Holds s → read_label line w s ≡ Ok t → Holds t
unfolding read_label
holds-label line w s t h e = holds-label_at s.stage line w s t h e

-- turns
abbrev AreTurns : ℕ → List ProcNo → Type 0
AreTurns processors ts = All (λ (p : ProcNo). p.0 < processors) ts × (length ts ≤ MAX_TURNS)

turn-added :
    (line n : ℕ) (w : Word) (ts us : List ProcNo) → 1 ≤ n → AreTurns n ts → add_turn line (n - 1) w ts ≡ Ok us → AreTurns n us
unfolding add_turn
turn-added line n w ts us some h e = by_turn (turn_of w.text) e
  where
    room : (k : ℕ) → nat_lt (MAX_TURNS - length ts) k ≡ false → length ts ≤ MAX_TURNS → length ts + k ≤ MAX_TURNS
    room k t few = let le : k ≤ MAX_TURNS - length ts = grind arith in omega arith

    below : (k : ℕ) → nat_lt (n - 1) k ≡ false → k < n
    below k t = let le : k ≤ n - 1 = grind arith in omega arith

    by_turn : (o : Option (ℕ × ℕ)) → turns_unless line w (n - 1) ts o ≡ Ok us → AreTurns n us
    by_turn None e = absurd cc
    by_turn (Some turn) e =
        let p : ProcNo = record { 0 = turn.0 } in
        let a = past (nat_lt (n - 1) turn.0) _ _ us e in
        let b = past (nat_lt turn.1 1 || nat_lt MAX_TURNS turn.1) _ _ us a.1 in
        let c = past (nat_lt (MAX_TURNS - length ts) turn.1) _ _ us b.1 in
        let fits = room turn.1 c.0 h.1 in
        let less = below turn.0 a.0 in
        subst (AreTurns n) (same-ok (ts ++ replicate turn.1 p) us c.1) (
          All-append (λ (q : ProcNo). q.0 < n) ts (replicate turn.1 p) h.0 (All-replicate (λ (q : ProcNo). q.0 < n) turn.1 p less),
          omega (arith, length-append ts (replicate turn.1 p), length-replicate turn.1 p, fits),
        )

turns-may : (st : Stage) (a b c d : ℕ) → turns_misplaced st ≡ None → Ended st a b c d → At stage.AfterTurns a b 0 0
turns-may stage.Top a b c d p h = absurd cc
turns-may stage.Declaring a b c d p h = absurd cc
turns-may stage.InProgram a b c d p h = (h.0, h.1, h.2)
turns-may stage.AfterTurns a b c d p h = h

holds-turns :
    (line : ℕ) (w : Word) (ws : List Word) (s t : State) → turns_misplaced s.stage ≡ None → IsReady s → Holds s → read_turns line w ws s ≡ Ok t → Holds t
unfolding read_turns
holds-turns line w ws s t p r h e =
    after (end_program s) _ t (Holds t) e (λ ended e1 more1.
    after (some_words line w ws next.Turn) _ t (Holds t) more1 (λ _ _ more2.
    after (in_turn (add_turn line (value_or s.processors 2 - 1)) ws ended.turns) _ t (Holds t) more2 (λ turns e3 more3.
    let b = ends-program s ended r h e1 in
    let before : AreTurns (value_or s.processors 2) ended.turns =
    (subst (λ (o : Option Setting). All (λ (q : ProcNo). q.0 < value_or o 2) ended.turns) b.3 b.0.turns, b.0.few_turns) in
    let after_all : AreTurns (value_or s.processors 2) turns =
    turn-keeps (add_turn line (value_or s.processors 2 - 1)) (AreTurns (value_or s.processors 2))
    (λ x ts us many added. turn-added line (value_or s.processors 2) x ts us h.core.numbers.0 many added) ws ended.turns turns before e3 in
    subst Holds (same-ok _ t more3) (record {
      core = record {
        numbers = b.0.numbers;
        spaces = b.0.spaces;
        space = b.0.space;
        program = b.0.program;
        evictions = b.0.evictions;
        turns = subst (λ (o : Option Setting). All (λ (q : ProcNo). q.0 < value_or o 2) turns) (sym b.3) after_all.0;
        few_turns = after_all.1;
      };
      at = turns-may s.stage _ _ _ _ p b.1;
    }))))

-- a line by its first word
holds-by :
    (line : ℕ) (w : Word) (ws : List Word) (f : First) (s t : State) → misplaced f s.stage ≡ None → IsReady s → Holds s → read_by line w ws f s ≡ Ok t
    → Holds t
unfolding read_by
holds-by line w ws (first.Setting n) s t p r h e = holds-setting line w ws n s t (unmapped (setting_misplaced s.stage) p) h e
holds-by line w ws (first.Declaration d) s t p r h e = holds-declaration line w ws d s t (unmapped (declaration_misplaced s.stage) p) h e
holds-by line w ws first.Space s t p r h e = holds-space line w ws s t (unmapped (opening_misplaced s.stage) p) r h e
holds-by line w ws first.Program s t p r h e = holds-program line w ws s t (unmapped (opening_misplaced s.stage) p) r h e
holds-by line w ws first.Turns s t p r h e = holds-turns line w ws s t (unmapped (turns_misplaced s.stage) p) r h e
holds-by line w ws (first.Instr o) s t p r h e = holds-instr line o w ws s t h e
holds-by line w ws first.Workload s t p r h e = absurd cc
holds-by line w ws first.Unknown s t p r h e = absurd cc

holds-first : (line : ℕ) (w : Word) (ws : List Word) (f : First) (s t : State) → IsReady s → Holds s → read_first line w ws f s ≡ Ok t → Holds t
unfolding read_first
holds-first line w ws f s t r h e =
    after (unless_misplaced line w (misplaced f s.stage)) _ t (Holds t) e (λ u allowed more.
    holds-by line w ws f s t (well-placed line w (misplaced f s.stage) u allowed) r h more)

-- the words after a label
holds-after_label_by : (line : ℕ) (w : Word) (ws : List Word) (f : First) (s t : State) → Holds s → after_label_by line w ws f s ≡ Ok t → Holds t
holds-after_label_by line w ws (first.Instr o) s t h e = holds-instr line o w ws s t h e
holds-after_label_by line w ws (first.Setting n) s t h e = absurd cc
holds-after_label_by line w ws (first.Declaration d) s t h e = absurd cc
holds-after_label_by line w ws first.Space s t h e = absurd cc
holds-after_label_by line w ws first.Program s t h e = absurd cc
holds-after_label_by line w ws first.Turns s t h e = absurd cc
holds-after_label_by line w ws first.Workload s t h e = absurd cc
holds-after_label_by line w ws first.Unknown s t h e = absurd cc

holds-after_label : (line : ℕ) (ws : List Word) (s t : State) → Holds s → read_after_label line ws s ≡ Ok t → Holds t
unfolding read_after_label
holds-after_label line [] s t h e = subst Holds (same-ok s t e) h
holds-after_label line (w ∷ ws) s t h e = holds-after_label_by line w ws (first_of w.text) s t h e

-- a line
holds-words : (line : ℕ) (ws : List Word) (s t : State) → IsReady s → Holds s → read_words line ws s ≡ Ok t → Holds t
unfolding read_words
holds-words line [] s t r h e = subst Holds (same-ok s t e) h
holds-words line (w ∷ ws) s t r h e = by_test (is_label w.text) e
  where
    by_test : (b : Bool) → cond b (read_label line w s >>= read_after_label line ws) (read_first line w ws (first_of w.text) s) ≡ Ok t → Holds t
    by_test true e =
        after (read_label line w s) (read_after_label line ws) t (Holds t) e (λ u labelled more.
        holds-after_label line ws u t (holds-label line w s u h labelled) more)
    by_test false e = holds-first line w ws (first_of w.text) s t r h e

holds-line : (line : ℕ) (content : List ℕ) (s t : State) → IsReady s → Holds s → read_line line content s ≡ Ok t → Holds t
unfolding read_line
holds-line line content s t r h e = after (words_in line content) _ t (Holds t) e (λ ws _ more. holds-words line ws s t r h more)

holds-line_of : (text : List ℕ) (line : Line) (s t : State) → IsReady s → Holds s → read_line_of text line s ≡ Ok t → Holds t
unfolding read_line_of
holds-line_of text line s t r h e = by_test (is_beyond line) e
  where
    by_test : (b : Bool)
        → cond b (Err (too_long line)) (read_line line.number (content_of (text_of_line text line).bytes) (record s { last = line.number })) ≡ Ok t → Holds t
    by_test true e = absurd cc
    by_test false e =
        holds-line line.number (content_of (text_of_line text line).bytes) (record s { last = line.number }) t
        (record { few_instructions = r.few_instructions; few_processors = r.few_processors; few_evictions = r.few_evictions })
        (record {
          core = record {
            numbers = h.core.numbers;
            spaces = h.core.spaces;
            space = h.core.space;
            program = h.core.program;
            evictions = h.core.evictions;
            turns = h.core.turns;
            few_turns = h.core.few_turns;
          };
          at = h.at;
        }) e

-- all lines
start-holds : Holds start
start-holds = record {
  core = record {
    numbers = (omega arith, omega arith, omega arith, omega arith);
    spaces = All-nil IsSpaceDraft;
    space = new-space-open (codes "main") 0;
    program = no-program-open no_word 0;
    evictions = refl;
    turns = All-nil (λ (p : ProcNo). p.0 < 2);
    few_turns = omega arith;
  };
  at = (refl, refl, refl, refl);
}

abbrev Both : State → Type 0
Both s = IsReady s × Holds s

whole-draft : (s : State) → IsReady s → Core s → length s.spaces < MAX_SPACES → 1 ≤ length s.space.programs → length s.space.programs ≤ MAX_PROGRAMS
    → IsDraft (draft_from (with_space s))
whole-draft s r h room some few =
    let c = with-space-core s h some few in
    let count = length-append s.spaces (s.space ∷ []) in
    record {
      some_processor = h.numbers.0;
      few_processors = r.few_processors;
      some_fetch = h.numbers.1;
      short_fetch = h.numbers.2;
      slice = h.numbers.3;
      some_space = omega (arith, count);
      few_spaces = omega (arith, count);
      spaces = c.spaces;
      few_evictions = omega (arith, c.evictions, r.few_evictions);
      few_turns = h.few_turns;
      turns = h.turns;
    }

-- the end
finished : (st : Stage) (s t : State) (u : Unit {0}) → IsReady s → Core s → EndedIn st s → unless_empty st s.last ≡ Ok u → end_space_at st s ≡ Ok t
    → IsDraft (draft_from t)
finished stage.Top s t u r h a e f = absurd cc
finished stage.Declaring s t u r h a e f = absurd cc
finished stage.InProgram s t u r h a e f = subst (λ x. IsDraft (draft_from x)) (same-ok (with_space s) t f) (whole-draft s r h a.0 a.1 a.2)
finished stage.AfterTurns s t u r h a e f = subst (λ x. IsDraft (draft_from x)) (same-ok (with_space s) t f) (whole-draft s r h a.0 a.1 a.2)

pub draft-whole : (text : List ℕ) (d : DraftView) → draft_of text ≡ Ok d → IsDraft d
unfolding draft_of end_of_lines end_space
draft-whole text d e =
    after (in_turn (read_line_of text) (lines_of text) start) _ d (IsDraft d) e (λ s e1 more1.
    let both = turn-keeps (read_line_of text) Both
    (λ line a b h f. (ready-line_of text line a b h.0 f, holds-line_of text line a b h.0 h.1 f)) (lines_of text) start s (start-ready, start-holds) e1 in
    after (end_program s) _ d (IsDraft d) more1 (λ before e2 more2.
    after (unless_empty before.stage before.last) _ d (IsDraft d) more2 (λ u e3 more3.
    after (end_space_at before.stage before) _ d (IsDraft d) more3 (λ ended e4 more4.
    let b = ends-program s before both.0 both.1 e2 in
    subst IsDraft (same-ok (draft_from ended) d more4)
    (finished before.stage before ended u (ready-end_program s before both.0 e2) b.0 (subst (λ st. EndedIn st before) (sym b.2) b.1) e3 e4)))))

-- what a reader of all lines gives
pub is-whole : (text : List ℕ) (r : Result DraftView Unread) → Gives (λ d. d) r (draft_of text) → IfOk r IsDraft
is-whole text (Ok d) given = draft-whole text d given
is-whole text (Err e) given = tt
