-- What holds of the parts of a draft while its lines are read.
use Rattle.std.proofs.Common.{◌≡◌, ℕ, ◌+◌, ◌-◌, ◌<◌, ◌≤◌, Bool, true, false, cond, List, [], ◌∷◌, ◌++◌, length, Option, Some, None, Result, Ok, Err, find, refl, ap, subst, ◌∙◌, arith, length-append}
use Rattle.std.specs.Prelude.{IfSome, slice_get, ◌==◌, All}
use Rattle.std.specs.List.{list_any}
use Rattle.std.specs.Option.{option_map}
use Rattle.std.proofs.lemmas.Bool.{false≢true}
use Rattle.std.proofs.lemmas.List.Elements.{All-cons, All-head, All-nil, All-push, All-tail, All-weaker}
use Rattle.sa_instr.specs.declared.limits.TheConstants.{LAST_PAGE, MAX_CELLS, MAX_EVICTIONS, MAX_INSTRUCTIONS, MAX_MUTEXES, MAX_PATIENCE, MAX_PRIORITY, MAX_PROGRAMS, MAX_SEMAPHORES, MAX_START}
use Rattle.sa_instr.specs.declared.instr.Reg.{Reg}
use Rattle.sa_instr.specs.declared.operand.Operand.TheVariants as operand
use Rattle.sa_instr.specs.declared.operand.OperandKind.{OperandKind}
use Rattle.sa_instr.specs.declared.operand.OperandKind.TheVariants as kinds
use Rattle.sa_instr.specs.declared.operation.Operation.{Operation}
use Rattle.sa_instr.specs.declared.operation.Operation.TheVariants as operation
use Rattle.sa_instr.specs.Operation.{form_of}
use Rattle.sa_text.specs.Number.{number_of}
use Rattle.toga_lines.specs.Names.{is_name}
use Rattle.toga_diagnostic.specs.declared.cause.About.TheVariants as about_word
use Rattle.toga_diagnostic.specs.declared.cause.Fault.{Fault}
use Rattle.toga_diagnostic.specs.declared.cause.Kind.{Kind}
use Rattle.toga_diagnostic.specs.declared.cause.Kind.TheVariants as kind
use Rattle.toga_diagnostic.specs.declared.cause.Limit.{Limit}
use Rattle.toga_diagnostic.specs.declared.cause.Next.TheVariants as next
use Rattle.toga_draft.specs.declared.declarations.TheConstants.{COUNT, EVENT, PAGE, PATIENCE, PRIORITY}
use Rattle.toga_draft.specs.declared.draft.EvictDraft.{EvictDraft}
use Rattle.toga_draft.specs.declared.draft.InstrDraft.{InstrDraft}
use Rattle.toga_draft.specs.declared.draft.LabelDraft.{LabelDraft}
use Rattle.toga_draft.specs.declared.draft.OperandDraft.{OperandDraft}
use Rattle.toga_draft.specs.declared.draft.OperandDraft.TheVariants as draft
use Rattle.toga_draft.specs.declared.draft.Setting.{Setting}
use Rattle.toga_draft.specs.declared.first.Declaration.{Declaration}
use Rattle.toga_draft.specs.declared.first.Declaration.TheVariants as declaration
use Rattle.toga_draft.specs.declared.operands.TheConstants.{ANY, LENGTH, THREAD_PAGE}
use Rattle.toga_draft.specs.declared.word.Word.{Word}
use Rattle.toga_draft.specs.Declarations.{add_cell, add_eviction, add_mutex, add_names, add_page, add_pages, add_semaphore, after_evict, at_in, at_most, declare, named, new_eviction, new_name, new_page, set_once, start_in}
use Rattle.toga_draft.specs.Draft.{ProgramDraftView, SpaceDraftView, value_or}
use Rattle.toga_draft.specs.Lines.{one_more}
use Rattle.toga_draft.specs.Operands.{nth_operand, named_in, number_in, numbered_unless, operand_in, register_of, register_unless}
use Rattle.toga_draft.specs.Programs.{add_instr, add_label, ends, instr_in, is_end, label_line, label_unless, next_after, unless_alone, whole_program}
use Rattle.toga_draft.specs.Reading.{in_turn}
use Rattle.toga_draft.specs.Whole.{kinds_of, named_kinds, IsOperandDraft, IsInstrDraft, IsProgramDraft, IsEvictDraft, IsSpaceDraft}
use Rattle.toga_draft.specs.Words.{about, count_words, nth, some_words, without_colon}
use Rattle.toga_draft.proofs.Ready.{after, same-ok, is-allowed, number-within, at-most-room, set-within}

-- what steps one after another keep
pub turn-keeps :
    {A B : Type 0} (step : A → B → Result B Fault) (P : B → Type 0) → ((x : A) (b c : B) → P b → step x b ≡ Ok c → P c)
    → (xs : List A) (b c : B) → P b → in_turn step xs b ≡ Ok c → P c
turn-keeps step P keeps [] b c h e = subst P (same-ok b c e) h
turn-keeps step P keeps (x ∷ xs) b c h e =
    after (step x b) (in_turn step xs) c (P c) e (λ d first more. turn-keeps step P keeps xs d c (keeps x b d h first) more)

-- an operand is of its kind, and in its range
abbrev IsOf : OperandKind → OperandDraft → Type 0
IsOf k d = (kinds_of d ≡ k ∷ []) × IsOperandDraft d

named-kind : (line : ℕ) (w : Word) (k : Kind) (o : OperandKind) (d : OperandDraft) → named_kinds k ≡ o ∷ [] → named_in line w k ≡ Ok d → IsOf o d
unfolding named_in
named-kind line w k o d same e = by_name (is_name w.text) e
  where
    by_number : (n : Option ℕ) → numbered_unless line w k n ≡ Ok d → IsOf o d
    by_number None e = absurd cc
    by_number (Some n) e =
        subst (IsOf o) (same-ok (draft.Numbered k (record { number = n; column = w.column; width = length w.text })) d e) (same, tt)

    by_name : (b : Bool) → cond b (Ok (draft.Named k w)) (numbered_unless line w k (number_of w.text)) ≡ Ok d → IsOf o d
    by_name true e = subst (IsOf o) (same-ok (draft.Named k w) d e) (same, tt)
    by_name false e = by_number (number_of w.text) e

operand-kind : (line : ℕ) (w : Word) (k : OperandKind) (d : OperandDraft) → operand_in line w k ≡ Ok d → IsOf k d
unfolding operand_in
operand-kind line w kinds.Register d e = by_register (register_of w.text) e
  where
    by_register : (r : Option Reg) → register_unless line w r ≡ Ok d → IsOf kinds.Register d
    by_register None e = absurd cc
    by_register (Some r) e = subst (IsOf kinds.Register) (same-ok (draft.Known (operand.Register r)) d e) (refl, tt)
operand-kind line w kinds.Value d e =
    after (number_in line w ANY) (λ n. Ok (draft.Known (operand.Value n))) d (IsOf kinds.Value d) e (λ n found more.
    let within = number-within line w ANY n found in
    subst (IsOf kinds.Value) (same-ok (draft.Known (operand.Value n)) d more) (refl, omega arith))
operand-kind line w kinds.Length d e =
    after (number_in line w LENGTH) (λ n. Ok (draft.Known (operand.Length n))) d (IsOf kinds.Length d) e (λ n found more.
    subst (IsOf kinds.Length) (same-ok (draft.Known (operand.Length n)) d more) (refl, number-within line w LENGTH n found))
operand-kind line w kinds.Page d e =
    after (number_in line w THREAD_PAGE) (λ n. Ok (draft.Known (operand.Page n))) d (IsOf kinds.Page d) e (λ n found more.
    subst (IsOf kinds.Page) (same-ok (draft.Known (operand.Page n)) d more) (refl, number-within line w THREAD_PAGE n found))
operand-kind line w kinds.Place d e = named-kind line w kind.Label kinds.Place d refl e
operand-kind line w kinds.Cell d e = named-kind line w kind.Cell kinds.Cell d refl e
operand-kind line w kinds.Program d e = named-kind line w kind.Program kinds.Program d refl e
operand-kind line w kinds.Mutex d e = named-kind line w kind.Mutex kinds.Mutex d refl e
operand-kind line w kinds.Semaphore d e = named-kind line w kind.Semaphore kinds.Semaphore d refl e

-- the operands of an instruction are those of its operation
abbrev Fit : List OperandKind → OperandDraft → OperandDraft → Type 0
Fit ks a b = (kinds_of a ++ kinds_of b ≡ ks) × IsOperandDraft a × IsOperandDraft b

operands-fit :
    (line : ℕ) (ws : List Word) (ks : List OperandKind) (a b : OperandDraft) → length ks ≤ 2 → nth_operand line ws ks 0 ≡ Ok a
    → nth_operand line ws ks 1 ≡ Ok b → Fit ks a b
unfolding nth_operand
operands-fit line ws [] a b few first second =
    subst (λ x. Fit [] x b) (same-ok draft.None a first) (subst (λ y. Fit [] draft.None y) (same-ok draft.None b second) (refl, tt, tt))
operands-fit line ws (k ∷ []) a b few first second =
    let p = operand-kind line (nth ws 0) k a first in
    subst (λ y. Fit (k ∷ []) a y) (same-ok draft.None b second) (ap (λ xs. xs ++ []) p.0, p.1, tt)
operands-fit line ws (k ∷ j ∷ []) a b few first second =
    let p = operand-kind line (nth ws 0) k a first in
    let q = operand-kind line (nth ws 1) j b second in (ap (λ xs. xs ++ kinds_of b) p.0 ∙ ap (λ xs. k ∷ xs) q.0, p.1, q.1)
operands-fit line ws (k ∷ j ∷ i ∷ ks) a b few first second = absurd (omega arith)

few-operands : (o : Operation) → length (form_of o).operands ≤ 2
few-operands operation.End = omega arith
few-operands _ = omega arith

instr-stands : (line : ℕ) (o : Operation) (w : Word) (ws : List Word) (i : InstrDraft) → instr_in line o w ws ≡ Ok i → IsInstrDraft i
unfolding instr_in
instr-stands line o w ws i e =
    after (count_words line w ws (length (form_of o).operands) (length (form_of o).operands) (next_after (form_of o).operands (length ws))) _ i
    (IsInstrDraft i) e (λ _ _ more1.
    after (nth_operand line ws (form_of o).operands 0) _ i (IsInstrDraft i) more1 (λ a first more2.
    after (nth_operand line ws (form_of o).operands 1) _ i (IsInstrDraft i) more2 (λ b second more3.
    let p = operands-fit line ws (form_of o).operands a b (few-operands o) first second in
    subst IsInstrDraft (same-ok _ i more3) (record { fit = p.0; first = p.1; second = p.2 }))))

-- a program that is read
pub record IsOpenProgram (p : ProgramDraftView) : Type 0 where
  pub instrs : All IsInstrDraft p.instrs
  pub labels : All (λ l. l.place ≤ length p.instrs) p.labels

pub instr-added :
    (line : ℕ) (o : Operation) (w : Word) (ws : List Word) (p q : ProgramDraftView) → IsOpenProgram p → add_instr line o w ws p ≡ Ok q
    → IsOpenProgram q
unfolding add_instr
instr-added line o w ws p q h e =
    after (at_most line w kind.Instruction MAX_INSTRUCTIONS (length p.instrs)) _ q (IsOpenProgram q) e (λ _ _ more1.
    after (instr_in line o w ws) _ q (IsOpenProgram q) more1 (λ i found more2.
    subst IsOpenProgram (same-ok _ q more2) (record {
      instrs = All-push IsInstrDraft p.instrs i h.instrs (instr-stands line o w ws i found);
      labels = All-weaker (λ (l : LabelDraft). l.place ≤ length p.instrs) (λ l. l.place ≤ length (p.instrs ++ i ∷ []))
          (λ l few. omega (arith, length-append p.instrs (i ∷ []))) p.labels h.labels;
    })))

pub label-added : (line : ℕ) (w : Word) (p q : ProgramDraftView) → IsOpenProgram p → add_label line w p ≡ Ok q → IsOpenProgram q
unfolding add_label
label-added line w p q h e = by_name (is_name (without_colon w).text) e
  where
    by_line : (o : Option ℕ) → label_unless line (without_colon w) p o ≡ Ok q → IsOpenProgram q
    by_line (Some earlier) e = absurd cc
    by_line None e =
        subst IsOpenProgram (same-ok _ q e) (record {
          instrs = h.instrs;
          labels = All-push (λ (l : LabelDraft). l.place ≤ length p.instrs) p.labels
              (record { name = without_colon w; line = line; place = length p.instrs }) h.labels (omega arith);
        })

    by_name : (b : Bool) → cond b (label_unless line (without_colon w) p (label_line p.labels (without_colon w).text)) (about line w about_word.BadLabel) ≡ Ok q
        → IsOpenProgram q
    by_name true e = by_line (label_line p.labels (without_colon w).text) e
    by_name false e = absurd cc

-- a program that has ended
none-alone : (n : ℕ) (ls : List LabelDraft) → find (λ l. l.place == n) ls ≡ None → All (λ l. l.place ≤ n) ls → All (λ l. l.place < n) ls
none-alone n [] e all = All-nil (λ (l : LabelDraft). l.place < n)
none-alone n (l ∷ ls) e all = by_test (l.place == n) refl e (λ none. none-alone n ls none (All-tail (λ (l : LabelDraft). l.place ≤ n) l ls all))
  where
    below : (k : ℕ) → (k == n) ≡ false → k ≤ n → k < n
    below k t h = grind arith

    by_test : (b : Bool) → (l.place == n) ≡ b → cond b (Some l) (find (λ l. l.place == n) ls) ≡ None
        → (find (λ (l : LabelDraft). l.place == n) ls ≡ None → All (λ (l : LabelDraft). l.place < n) ls) → All (λ (l : LabelDraft). l.place < n) (l ∷ ls)
    by_test true t e rest = absurd cc
    by_test false t e rest =
        All-cons (λ (l : LabelDraft). l.place < n) l ls (below l.place t (All-head (λ (l : LabelDraft). l.place ≤ n) l ls all)) (rest e)

not-alone : (o : Option LabelDraft) (u : Unit {0}) → unless_alone o ≡ Ok u → o ≡ None
not-alone (Some l) u e = absurd cc
not-alone None u e = refl

is-end : (o : Operation) → is_end o ≡ true → o ≡ operation.End
is-end operation.End e = refl
is-end _ e = absurd (false≢true e)

last-ends : (p : ProgramDraftView) (o : Option InstrDraft) (u : Unit {0}) → ends p o ≡ Ok u → option_map (λ i. i.operation) o ≡ Some operation.End
last-ends p None u e = absurd cc
last-ends p (Some i) u e = ap Some (is-end i.operation (is-allowed (is_end i.operation) _ tt u e).0)

pub program-ended : (p : ProgramDraftView) (u : Unit {0}) → length p.instrs ≤ MAX_INSTRUCTIONS → IsOpenProgram p → whole_program p ≡ Ok u → IsProgramDraft p
unfolding whole_program
program-ended p u few h e =
    after (unless_alone (find (λ l. l.place == length p.instrs) p.labels)) _ u (IsProgramDraft p) e (λ v alone more. record {
      few = few;
      ends = last-ends p (slice_get p.instrs (length p.instrs - 1)) u more;
      instrs = h.instrs;
      labels = none-alone (length p.instrs) p.labels (not-alone _ v alone) h.labels;
    })

-- a space that is read
abbrev IsSemaphores : SpaceDraftView → Type 0
IsSemaphores s = (length s.semaphores ≡ length s.starts) × (length s.starts ≤ MAX_SEMAPHORES) × All (λ start. start ≤ MAX_START) s.starts

abbrev IsNumbers : Option Setting → Option Setting → Type 0
IsNumbers priority patience = (value_or priority 0 ≤ MAX_PRIORITY) × (1 ≤ value_or patience 1) × (value_or patience 1 ≤ MAX_PATIENCE)

pub record IsOpenSpace (s : SpaceDraftView) : Type 0 where
  pub numbers : IsNumbers s.priority s.patience
  pub mutexes : length s.mutexes ≤ MAX_MUTEXES
  pub cells : length s.cells ≤ MAX_CELLS
  pub semaphores : IsSemaphores s
  pub absent : All (λ page. page ≤ LAST_PAGE) s.absent
  pub evictions : All IsEvictDraft s.evictions
  pub programs : All IsProgramDraft s.programs

pub value-within :
    (limit : Limit) (o : Option Setting) (usual : ℕ) → limit.low ≤ usual → usual ≤ limit.high
    → IfSome o (λ s. (limit.low ≤ s.value) × (s.value ≤ limit.high)) → (limit.low ≤ value_or o usual) × (value_or o usual ≤ limit.high)
value-within limit (Some s) usual low high within = within
value-within limit None usual low high within = (low, high)

mutex-added : (line : ℕ) (w : Word) (s t : SpaceDraftView) → IsOpenSpace s → add_mutex line w s ≡ Ok t → IsOpenSpace t
unfolding add_mutex
mutex-added line w s t h e =
    after (at_most line w kind.Mutex MAX_MUTEXES (length s.mutexes)) _ t (IsOpenSpace t) e (λ u room more1.
    after (new_name line w s) _ t (IsOpenSpace t) more1 (λ _ _ more2.
    let few = at-most-room line w kind.Mutex MAX_MUTEXES (length s.mutexes) u room in
    subst IsOpenSpace (same-ok _ t more2) (record {
      numbers = h.numbers;
      mutexes = omega (arith, length-append s.mutexes (named line w ∷ []));
      cells = h.cells;
      semaphores = h.semaphores;
      absent = h.absent;
      evictions = h.evictions;
      programs = h.programs;
    })))

cell-added : (line : ℕ) (w : Word) (s t : SpaceDraftView) → IsOpenSpace s → add_cell line w s ≡ Ok t → IsOpenSpace t
unfolding add_cell
cell-added line w s t h e =
    after (at_most line w kind.Cell MAX_CELLS (length s.cells)) _ t (IsOpenSpace t) e (λ u room more1.
    after (new_name line w s) _ t (IsOpenSpace t) more1 (λ _ _ more2.
    let few = at-most-room line w kind.Cell MAX_CELLS (length s.cells) u room in
    subst IsOpenSpace (same-ok _ t more2) (record {
      numbers = h.numbers;
      mutexes = h.mutexes;
      cells = omega (arith, length-append s.cells (named line w ∷ []));
      semaphores = h.semaphores;
      absent = h.absent;
      evictions = h.evictions;
      programs = h.programs;
    })))

start-within : (line : ℕ) (ws : List Word) (n : ℕ) → start_in line ws ≡ Ok n → n ≤ MAX_START
unfolding start_in
start-within line ws n e = by_test _ e
  where
    by_test : (b : Bool) → cond b (number_in line (nth ws 1) COUNT) (Ok 0) ≡ Ok n → n ≤ MAX_START
    by_test true e = (number-within line (nth ws 1) COUNT n e).1
    by_test false e = subst (λ k. k ≤ MAX_START) (same-ok 0 n e) (omega arith)

semaphore-added : (line : ℕ) (w : Word) (ws : List Word) (s t : SpaceDraftView) → IsOpenSpace s → add_semaphore line w ws s ≡ Ok t → IsOpenSpace t
unfolding add_semaphore
semaphore-added line w ws s t h e =
    after (at_most line w kind.Semaphore MAX_SEMAPHORES (length s.semaphores)) _ t (IsOpenSpace t) e (λ u room more1.
    after (count_words line w ws 1 2 next.Name) _ t (IsOpenSpace t) more1 (λ _ _ more2.
    after (new_name line (nth ws 0) s) _ t (IsOpenSpace t) more2 (λ _ _ more3.
    after (start_in line ws) _ t (IsOpenSpace t) more3 (λ n found more4.
    let few = at-most-room line w kind.Semaphore MAX_SEMAPHORES (length s.semaphores) u room in
    let equal = h.semaphores.0 in
    subst IsOpenSpace (same-ok _ t more4) (record {
      numbers = h.numbers;
      mutexes = h.mutexes;
      cells = h.cells;
      semaphores = (
        omega (arith, length-append s.semaphores (named line (nth ws 0) ∷ []), length-append s.starts (n ∷ []), equal),
        omega (arith, length-append s.starts (n ∷ []), equal, few),
        All-push (λ start. start ≤ MAX_START) s.starts n h.semaphores.2 (start-within line ws n found),
      );
      absent = h.absent;
      evictions = h.evictions;
      programs = h.programs;
    })))))

page-added : (line : ℕ) (w : Word) (xs ys : List ℕ) → All (λ page. page ≤ LAST_PAGE) xs → add_page line w xs ≡ Ok ys → All (λ page. page ≤ LAST_PAGE) ys
unfolding add_page
page-added line w xs ys h e =
    after (number_in line w PAGE) (λ page. new_page line w page xs) ys (All (λ page. page ≤ LAST_PAGE) ys) e (λ page found more.
    by_test page found (list_any (λ p. p == page) xs) _ more)
  where
    by_test : (page : ℕ) → number_in line w PAGE ≡ Ok page → (b : Bool) (d : Fault) → cond b (Err d) (Ok (xs ++ page ∷ [])) ≡ Ok ys
        → All (λ page. page ≤ LAST_PAGE) ys
    by_test page found true d e = absurd cc
    by_test page found false d e =
        subst (All (λ page. page ≤ LAST_PAGE)) (same-ok (xs ++ page ∷ []) ys e)
        (All-push (λ page. page ≤ LAST_PAGE) xs page h (number-within line w PAGE page found).1)

eviction-added :
    (line : ℕ) (w : Word) (ws : List Word) (count : ℕ) (es fs : List EvictDraft) → All IsEvictDraft es → add_eviction line w ws count es ≡ Ok fs
    → All IsEvictDraft fs × (length fs ≡ length es + 1)
unfolding add_eviction
eviction-added line w ws count es fs h e =
    after (count_words line w ws 3 3 (after_evict (length ws))) _ fs _ e (λ _ _ e1.
    after (number_in line (nth ws 0) PAGE) _ fs _ e1 (λ page in_pages e2.
    after (at_in line (nth ws 1)) _ fs _ e2 (λ _ _ e3.
    after (number_in line (nth ws 2) EVENT) _ fs _ e3 (λ event in_events e4.
    after (new_eviction line (nth ws 2) page event es) _ fs _ e4 (λ _ _ e5.
    after (at_most line w kind.Eviction MAX_EVICTIONS count) _ fs _ e5 (λ _ _ e6.
    let events = number-within line (nth ws 2) EVENT event in_events in
    subst (λ (gs : List EvictDraft). All IsEvictDraft gs × (length gs ≡ length es + 1)) (same-ok _ fs e6) (
      All-push IsEvictDraft es (record { page = page; event = event }) h
          (record { first = events.0; last = events.1; page = (number-within line (nth ws 0) PAGE page in_pages).1 }),
      length-append es (record { page = page; event = event } ∷ []),
    )))))))

names-added :
    (add : ℕ → Word → SpaceDraftView → Result SpaceDraftView Fault) → ((line : ℕ) (w : Word) (s t : SpaceDraftView) → IsOpenSpace s → add line w s ≡ Ok t → IsOpenSpace t)
    → (line : ℕ) (w : Word) (ws : List Word) (s t : SpaceDraftView) → IsOpenSpace s → add_names add line w ws s ≡ Ok t → IsOpenSpace t
unfolding add_names
names-added add keeps line w ws s t h e =
    after (some_words line w ws next.Name) _ t (IsOpenSpace t) e (λ _ _ more. turn-keeps (add line) IsOpenSpace (keeps line) ws s t h more)

pages-added : (line : ℕ) (w : Word) (ws : List Word) (xs ys : List ℕ) → All (λ page. page ≤ LAST_PAGE) xs → add_pages line w ws xs ≡ Ok ys
    → All (λ page. page ≤ LAST_PAGE) ys
unfolding add_pages
pages-added line w ws xs ys h e =
    after (some_words line w ws next.AnyPage) _ ys _ e (λ _ _ more. turn-keeps (add_page line) (All (λ page. page ≤ LAST_PAGE)) (page-added line) ws xs ys h more)

-- a declaration keeps that, its programs, and counts its eviction
pub declared-space :
    (line : ℕ) (w : Word) (ws : List Word) (count : ℕ) (d : Declaration) (s t : SpaceDraftView) → IsOpenSpace s → declare line w ws count d s ≡ Ok t
    → IsOpenSpace t
unfolding declare
declared-space line w ws count declaration.Priority s t h e =
    after (set_once line w ws PRIORITY s.priority) _ t (IsOpenSpace t) e (λ o set more.
    let p = value-within PRIORITY o 0 (omega arith) (omega arith) (set-within line w ws PRIORITY s.priority o set) in
    subst IsOpenSpace (same-ok _ t more) (record {
      numbers = (p.1, h.numbers.1, h.numbers.2);
      mutexes = h.mutexes;
      cells = h.cells;
      semaphores = h.semaphores;
      absent = h.absent;
      evictions = h.evictions;
      programs = h.programs;
    }))
declared-space line w ws count declaration.Patience s t h e =
    after (set_once line w ws PATIENCE s.patience) _ t (IsOpenSpace t) e (λ o set more.
    let p = value-within PATIENCE o 1 (omega arith) (omega arith) (set-within line w ws PATIENCE s.patience o set) in
    subst IsOpenSpace (same-ok _ t more) (record {
      numbers = (h.numbers.0, p.0, p.1);
      mutexes = h.mutexes;
      cells = h.cells;
      semaphores = h.semaphores;
      absent = h.absent;
      evictions = h.evictions;
      programs = h.programs;
    }))
declared-space line w ws count declaration.Mutexes s t h e = names-added add_mutex mutex-added line w ws s t h e
declared-space line w ws count declaration.Cells s t h e = names-added add_cell cell-added line w ws s t h e
declared-space line w ws count declaration.Semaphore s t h e = semaphore-added line w ws s t h e
declared-space line w ws count declaration.Absent s t h e =
    after (add_pages line w ws s.absent) _ t (IsOpenSpace t) e (λ xs added more.
    subst IsOpenSpace (same-ok _ t more) (record {
      numbers = h.numbers;
      mutexes = h.mutexes;
      cells = h.cells;
      semaphores = h.semaphores;
      absent = pages-added line w ws s.absent xs h.absent added;
      evictions = h.evictions;
      programs = h.programs;
    }))
declared-space line w ws count declaration.Evict s t h e =
    after (add_eviction line w ws count s.evictions) _ t (IsOpenSpace t) e (λ es added more.
    subst IsOpenSpace (same-ok _ t more) (record {
      numbers = h.numbers;
      mutexes = h.mutexes;
      cells = h.cells;
      semaphores = h.semaphores;
      absent = h.absent;
      evictions = (eviction-added line w ws count s.evictions es h.evictions added).0;
      programs = h.programs;
    }))

-- and keeps its programs, and adds an eviction or none
abbrev Rest : SpaceDraftView → SpaceDraftView → Type 0
Rest s t = (t.programs ≡ s.programs) × (t.evictions ≡ s.evictions)

mutex-rest : (line : ℕ) (w : Word) (s t : SpaceDraftView) → add_mutex line w s ≡ Ok t → Rest s t
unfolding add_mutex
mutex-rest line w s t e =
    after (at_most line w kind.Mutex MAX_MUTEXES (length s.mutexes)) _ t (Rest s t) e (λ _ _ more1.
    after (new_name line w s) _ t (Rest s t) more1 (λ _ _ more2. subst (Rest s) (same-ok _ t more2) (refl, refl)))

cell-rest : (line : ℕ) (w : Word) (s t : SpaceDraftView) → add_cell line w s ≡ Ok t → Rest s t
unfolding add_cell
cell-rest line w s t e =
    after (at_most line w kind.Cell MAX_CELLS (length s.cells)) _ t (Rest s t) e (λ _ _ more1.
    after (new_name line w s) _ t (Rest s t) more1 (λ _ _ more2. subst (Rest s) (same-ok _ t more2) (refl, refl)))

names-rest :
    (add : ℕ → Word → SpaceDraftView → Result SpaceDraftView Fault) → ((line : ℕ) (w : Word) (s t : SpaceDraftView) → add line w s ≡ Ok t → Rest s t)
    → (line : ℕ) (w : Word) (ws : List Word) (s t : SpaceDraftView) → add_names add line w ws s ≡ Ok t → Rest s t
unfolding add_names
names-rest add rest line w ws s t e =
    after (some_words line w ws next.Name) _ t (Rest s t) e (λ _ _ more.
    turn-keeps (add line) (Rest s) (λ x a b h f. let r = rest line x a b f in (r.0 ∙ h.0, r.1 ∙ h.1)) ws s t (refl, refl) more)

semaphore-rest : (line : ℕ) (w : Word) (ws : List Word) (s t : SpaceDraftView) → add_semaphore line w ws s ≡ Ok t → Rest s t
unfolding add_semaphore
semaphore-rest line w ws s t e =
    after (at_most line w kind.Semaphore MAX_SEMAPHORES (length s.semaphores)) _ t (Rest s t) e (λ _ _ more1.
    after (count_words line w ws 1 2 next.Name) _ t (Rest s t) more1 (λ _ _ more2.
    after (new_name line (nth ws 0) s) _ t (Rest s t) more2 (λ _ _ more3.
    after (start_in line ws) _ t (Rest s t) more3 (λ n _ more4. subst (Rest s) (same-ok _ t more4) (refl, refl)))))

abbrev Counts : Declaration → SpaceDraftView → SpaceDraftView → Type 0
Counts d s t = (t.programs ≡ s.programs) × (length t.evictions ≡ one_more d (length s.evictions))

pub declared-rest :
    (line : ℕ) (w : Word) (ws : List Word) (count : ℕ) (d : Declaration) (s t : SpaceDraftView) → All IsEvictDraft s.evictions
    → declare line w ws count d s ≡ Ok t → Counts d s t
unfolding declare
declared-rest line w ws count declaration.Priority s t h e =
    after (set_once line w ws PRIORITY s.priority) _ t (Counts declaration.Priority s t) e (λ o _ more.
    subst (Counts declaration.Priority s) (same-ok _ t more) (refl, refl))
declared-rest line w ws count declaration.Patience s t h e =
    after (set_once line w ws PATIENCE s.patience) _ t (Counts declaration.Patience s t) e (λ o _ more.
    subst (Counts declaration.Patience s) (same-ok _ t more) (refl, refl))
declared-rest line w ws count declaration.Mutexes s t h e = let r = names-rest add_mutex mutex-rest line w ws s t e in (r.0, ap length r.1)
declared-rest line w ws count declaration.Cells s t h e = let r = names-rest add_cell cell-rest line w ws s t e in (r.0, ap length r.1)
declared-rest line w ws count declaration.Semaphore s t h e = let r = semaphore-rest line w ws s t e in (r.0, ap length r.1)
declared-rest line w ws count declaration.Absent s t h e =
    after (add_pages line w ws s.absent) _ t (Counts declaration.Absent s t) e (λ o _ more.
    subst (Counts declaration.Absent s) (same-ok _ t more) (refl, refl))
declared-rest line w ws count declaration.Evict s t h e =
    after (add_eviction line w ws count s.evictions) _ t (Counts declaration.Evict s t) e (λ es added more.
    subst (Counts declaration.Evict s) (same-ok _ t more) (refl, (eviction-added line w ws count s.evictions es h added).1))

-- a space that has ended
pub space-ended : (s : SpaceDraftView) → IsOpenSpace s → 1 ≤ length s.programs → length s.programs ≤ MAX_PROGRAMS → IsSpaceDraft s
space-ended s h some few = record {
  priority = h.numbers.0;
  some_patience = h.numbers.1;
  patience = h.numbers.2;
  mutexes = h.mutexes;
  cells = h.cells;
  semaphores = h.semaphores.0;
  few_semaphores = h.semaphores.1;
  starts = h.semaphores.2;
  absent = h.absent;
  evictions = h.evictions;
  some_program = some;
  few_programs = few;
  all_programs = h.programs;
}
