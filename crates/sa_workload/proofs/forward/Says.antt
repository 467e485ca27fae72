-- What the lines that a reader has read say, by the definitions of what is bad: each step adds what its line says.
use Rattle.std.proofs.Common.{◌≡◌, ℕ, ◌+◌, ◌-◌, ◌^◌, ◌<◌, ◌≤◌, ◌==◌, ◌&&◌, ◌||◌, not, Bool, true, false, if◌then◌else◌, List, [], ◌∷◌, ◌++◌, length, map, filter, Contains, None, Some, codes, decimal, refl, sym, ap, ap₂, ◌∙◌, arith, append-nil}
use Rattle.std.specs.Bool.{⊤, Decides}
use Rattle.std.specs.Option.{option_map}
use Rattle.std.specs.List.{list_all}
use Rattle.std.specs.Str.{bytes_eq}
use Rattle.std.specs.Str.Parse.{digits_value}
use Rattle.std.proofs.Math.Bool.{and_comm}
use Rattle.std.proofs.lemmas.Bool.{cond_both}
use Rattle.std.proofs.lemmas.Bool.Decides.{Decides-and}
use Rattle.std.proofs.lemmas.Fmt.{decimal_is_IsNumeral}
use Rattle.std.proofs.lemmas.List.{length_push, get_or_push}
use Rattle.std.proofs.lemmas.List.Elements.{filter-append}
use Rattle.std.proofs.lemmas.List.Sums.{sum_by_push}
use Rattle.std.proofs.lemmas.Slice.Eq.{bytes_eq-Decides}
use Rattle.sa_instr.specs.declared.instr.Instr.{Instr}
use Rattle.sa_instr.specs.declared.operation.Operation.{Operation}
use Rattle.sa_instr.specs.declared.operation.Operation.TheVariants as Operations
use Rattle.sa_instr.specs.Operation.{form_of}
use Rattle.sa_instr.specs.Parts.{parts_of}
use Rattle.sa_instr.specs.declared.limits.TheConstants.{LAST_PAGE}
use Rattle.sa_spaces.specs.Space.{SpaceView}
use Rattle.sa_spaces.specs.Workload.{IsEviction}
use Rattle.sa_workload.specs.Text.{operand_word, instr_line, space_line, evict_line}
use Rattle.sa_workload.specs.Bad.{ordered_words, is_ordered, numbers_before, first_word, last_line, last_with, count_of_word, number_in, numbers_of}
use Rattle.sa_workload.specs.Position.{HeaderView, Draft, Position, AtVersion, AtProcessors, AtFetch, AtSlice, AtSpaces, AtSpace, AtSem, AtAbsent, AtProgram, AtInstr, AtEvict, AtTurn, Closed, IsReached, version_line, processors_line, fetch_line, spaces_line, draft_line}
use Rattle.sa_workload.specs.Steps.{Steps, step_version, step_processors, step_fetch, step_slice, step_spaces, step_space, step_sem, step_absent, step_first_program, step_program, step_instr, step_evict, step_first_turn, step_turn, step_first_close, step_close, program_line, space_of_draft, with_sem, with_program, after_sem, after_instr, after_spaces, after_program}
use Rattle.sa_workload.specs.Next.{last_of, evict_numbers}
use Rattle.sa_workload.proofs.fields.FieldLemmas.{contained, known_word}
use Rattle.sa_workload.proofs.forward.Fronts.{last_of-push, All-last}

-- a number reads back
pub reads : (n : ℕ) → n < 2 ^ 64 → digits_value 10 (decimal n) ≡ n
reads n h = (decimal_is_IsNumeral n h).1

-- a line that is no space line, or whose space has patience 1
abbrev is_patient_line : List (List ℕ) → Bool
is_patient_line line = not (bytes_eq (first_word line) (codes "space")) || (number_in line 6 == 1)

pub ordered-Decides : (last : List (List ℕ)) (word : List ℕ) → Decides (is_ordered last word) (Contains ordered_words word × (first_word last ≡ word))
ordered-Decides last word = Decides-and _ _ (contained ordered_words word, known_word ordered_words word) (bytes_eq-Decides (first_word last) word)

-- of some lines, the last one of each word and how many there are, whether each space has patience 1, and the last of all
pub record Heard : Type 0 where
  pub lasts : List ℕ → List (List ℕ)
  pub counts : List ℕ → ℕ
  pub patient : Bool
  pub last : List (List ℕ)

abbrev pub heard : List (List (List ℕ)) → Heard
heard lines = record { lasts = λ word. last_with word lines; counts = count_of_word lines; patient = list_all is_patient_line lines; last = last_line lines }

-- the same with one line more
abbrev pub hear : Heard → List (List ℕ) → Heard
hear h line = record {
  lasts = λ word. if bytes_eq (first_word line) word then line else h.lasts word;
  counts = λ word. if bytes_eq (first_word line) word then h.counts word + 1 else h.counts word;
  patient = is_patient_line line && h.patient;
  last = line;
}

pub last_line-push : (lines : List (List (List ℕ))) (line : List (List ℕ)) → last_line (lines ++ line ∷ []) ≡ line
last_line-push lines line = get_or_push lines line [] (length (lines ++ line ∷ []) - 1) (omega (arith, length_push lines line))

list_all-push : {X : Type 0} (test : X → Bool) (xs : List X) (x : X) → list_all test (xs ++ x ∷ []) ≡ (test x && list_all test xs)
list_all-push test [] x = refl
list_all-push test (y ∷ xs) x = ap (λ (b : Bool). test y && b) (list_all-push test xs x) ∙ swap (test y) (test x) (list_all test xs)
  where
    swap : (a b c : Bool) → (a && (b && c)) ≡ (b && (a && c))
    swap true b c = refl
    swap false b c = and_comm false b

pub heard-push : (lines : List (List (List ℕ))) (line : List (List ℕ)) → heard (lines ++ line ∷ []) ≡ hear (heard lines) line
heard-push lines line = λ i. record {
  lasts = λ word. last_pushed word i;
  counts = λ word. count_pushed word i;
  patient = list_all-push is_patient_line lines line i;
  last = last_line-push lines line i;
}
  where
    last_pushed : (word : List ℕ) → last_with word (lines ++ line ∷ []) ≡ (if bytes_eq (first_word line) word then line else last_with word lines)
    last_pushed word = ap last_line (filter-append test lines (line ∷ [])) ∙ by_test (test line)
      where
        test : List (List ℕ) → Bool
        test l = bytes_eq (first_word l) word

        by_test : (b : Bool) → last_line (filter test lines ++ (if b then line ∷ [] else [])) ≡ (if b then line else last_line (filter test lines))
        by_test true = last_line-push (filter test lines) line
        by_test false = ap last_line (append-nil (filter test lines))

    count_pushed : (word : List ℕ)
        → count_of_word (lines ++ line ∷ []) word ≡ (if bytes_eq (first_word line) word then count_of_word lines word + 1 else count_of_word lines word)
    count_pushed word = sum_by_push (λ (l : List (List ℕ)). if bytes_eq (first_word l) word then 1 else 0) lines line
        ∙ by_test (bytes_eq (first_word line) word)
      where
        by_test : (b : Bool) → count_of_word lines word + (if b then 1 else 0) ≡ (if b then count_of_word lines word + 1 else count_of_word lines word)
        by_test true = refl
        by_test false = omega arith

-- the lines of the machine
abbrev OfMachine : Heard → HeaderView → Type 0
OfMachine h m =
    (h.lasts (codes "workload") ≡ version_line m.version) × (h.lasts (codes "processors") ≡ processors_line m.processors)
    × (h.lasts (codes "spaces") ≡ spaces_line m.count)

-- this number of spaces began, with or without a patience of their own, and no eviction or turn
abbrev Began : Heard → ℕ → Bool → Type 0
Began h spaces patient =
    (h.counts (codes "space") ≡ spaces) × (h.patient ≡ patient) × (h.counts (codes "evict") ≡ 0) × (h.counts (codes "turn") ≡ 0)

-- after the processors
abbrev BeforeSpaces : Heard → ℕ → ℕ → Type 0
BeforeSpaces h version processors =
    Began h 0 true × (h.lasts (codes "workload") ≡ version_line version) × (h.lasts (codes "processors") ≡ processors_line processors)

-- the patience that a space's line says is 1
abbrev pub is_patient : ℕ → SpaceView → Bool
is_patient version s = number_in (space_line version s) 6 == 1

-- after the first line of a space
abbrev InSpace : Heard → HeaderView → List SpaceView → Draft → Type 0
InSpace h m spaces d =
    OfMachine h m × Began h (length spaces + 1) (is_patient m.version (space_of_draft d) && list_all (is_patient m.version) spaces)
    × (h.lasts (codes "space") ≡ draft_line m.version d)

-- what the lines before a position say, as far as the lines to come are read by it
abbrev pub Says : Heard → Position → Type 0
Says h AtVersion = Began h 0 true
Says h (AtProcessors v) = Began h 0 true × (h.lasts (codes "workload") ≡ version_line v)
Says h (AtFetch v n) = BeforeSpaces h v n
Says h (AtSlice v n f) = BeforeSpaces h v n
Says h (AtSpaces v n f s) = BeforeSpaces h v n
Says h (AtSpace m spaces) = OfMachine h m × Began h (length spaces) (list_all (is_patient m.version) spaces)
Says h (AtSem m spaces d) = InSpace h m spaces d
Says h (AtAbsent m spaces d) = InSpace h m spaces d × (numbers_before h.last (codes "absent") 1 ≡ option_map (λ page. page ∷ []) (last_of d.absent))
Says h (AtProgram m spaces d) = InSpace h m spaces d
Says h (AtInstr m spaces d len instrs) = InSpace h m spaces d × (h.lasts (codes "program") ≡ program_line len)
Says h (AtEvict m spaces evictions) =
    OfMachine h m × (h.counts (codes "evict") ≡ length evictions) × (h.counts (codes "turn") ≡ 0)
    × (numbers_before h.last (codes "evict") 3 ≡ option_map evict_numbers (last_of evictions))
Says h (AtTurn m spaces evictions turns) = OfMachine h m × (h.counts (codes "turn") ≡ length turns) × (first_word h.last ≡ codes "turn")
Says h (Closed w) = ⊤

says-after_sem : (h : Heard) (m : HeaderView) (spaces : List SpaceView) (d : Draft) → InSpace h m spaces d → numbers_before h.last (codes "absent") 1 ≡ None
    → d.absent ≡ [] → Says h (after_sem m spaces d)
says-after_sem h m spaces d s none e =
    cond_both (length d.sems == d.sem_count) (AtAbsent m spaces d) (AtSem m spaces d) (Says h)
    (λ _. (s, none ∙ ap (λ (ks : List ℕ). option_map (λ page. page ∷ []) (last_of ks)) (sym e))) (λ _. s)

says-after_instr : (h : Heard) (m : HeaderView) (spaces : List SpaceView) (d : Draft) (len : ℕ) (instrs : List Instr) → Says h (AtInstr m spaces d len instrs)
    → numbers_before h.last (codes "evict") 3 ≡ None → Says h (after_instr m spaces d len instrs)
says-after_instr h m spaces d len instrs s none =
    cond_both (length instrs == len) (after_program m spaces done) (AtInstr m spaces d len instrs) (Says h)
    (λ _. cond_both (length done.programs == done.program_count) (after_spaces m more) (AtProgram m spaces done) (Says h)
    (λ _. cond_both (length more == m.count) (AtEvict m more []) (AtSpace m more) (Says h) (λ _. (s.0.0, s.0.1.2, s.0.1.3, none)) (λ _. (
      s.0.0,
      (
        s.0.1.0 ∙ sym (length_push spaces (space_of_draft done)),
        s.0.1.1
            ∙ sym (list_all-push (is_patient m.version) spaces (space_of_draft done)),
        s.0.1.2,
        s.0.1.3,
      ),
    ))) (λ _. s.0)) (λ _. s)
  where
    done : Draft
    done = with_program d instrs

    more : List SpaceView
    more = spaces ++ space_of_draft done ∷ []

-- the line of an instruction changes nothing but the last line
instr-says : (h : Heard) (m : HeaderView) (spaces : List SpaceView) (d : Draft) (len : ℕ) (instrs : List Instr) (o : Operation) (others : List (List ℕ))
    → Says h (AtInstr m spaces d len instrs)
    → Says (hear h ((form_of o).word ∷ others)) (AtInstr m spaces d len instrs) × (numbers_before ((form_of o).word ∷ others) (codes "evict") 3 ≡ None)
instr-says h m spaces d len instrs Operations.End others s = (s, refl)
instr-says h m spaces d len instrs _ others s = (s, refl)

-- after a step the lines say what the next position says
pub says-next : (versions : ℕ) (h : Heard) (p : Position) (line : List (List ℕ)) (q : Position) → Steps p line q
    → IsReached versions p → IsReached versions q → Says h p → Says (hear h line) q
says-next versions h p line q (step_version v) r k s = (s, refl)
says-next versions h p line q (step_processors v n) r k s = (s.0, s.1, refl)
says-next versions h p line q (step_fetch v n f) r k s = cond_both (v == 1) (AtSpaces v n f 0) (AtSlice v n f) (Says (hear h (fetch_line f))) (λ _. s) (λ _. s)
says-next versions h p line q (step_slice v n f l) r k s = s
says-next versions h p line q (step_spaces v n f l c) r k s = ((s.1, s.2, refl), s.0)
says-next versions h p line q (step_space m spaces d fresh) r k s =
    says-after_sem (hear h (draft_line m.version d)) m spaces d
    (s.0, (ap (λ (n : ℕ). n + 1) s.1.0, ap (λ (b : Bool). is_patient m.version (space_of_draft d) && b) s.1.1, s.1.2, s.1.3), refl) refl fresh.1
says-next versions h p line q (step_sem m spaces d n) r k s = says-after_sem (hear h line) m spaces (with_sem d n) s refl r.4
says-next versions h p line q (step_absent m spaces d page) r k s =
    let l : page ≤ LAST_PAGE = All-last (λ (n : ℕ). n ≤ LAST_PAGE) d.absent page k.2.pages in
    (s.0, ap (λ (n : ℕ). Some (n ∷ [])) (reads page (omega arith)) ∙ ap (option_map (λ n. n ∷ [])) (sym (last_of-push d.absent page)))
says-next versions h p line q (step_first_program m spaces d len) r k s = (s.0, refl)
says-next versions h p line q (step_program m spaces d len) r k s = (s, refl)
says-next versions h p line q (step_instr m spaces d len instrs i) r k s =
    let t = instr-says h m spaces d len instrs (parts_of i).operation (map operand_word (parts_of i).operands) s in
    says-after_instr (hear h (instr_line i)) m spaces d len (instrs ++ i ∷ []) t.0 t.1
says-next versions h p line q (step_evict m spaces evictions e) r k s =
    let l : IsEviction m.count e = All-last (IsEviction m.count) evictions e k.3.each in
    let numbers : numbers_of 3 (evict_line e) ≡ evict_numbers e =
    ap₂ (λ (a : ℕ) (bs : List ℕ). a ∷ bs) (reads e.event (omega (arith, l.last)))
    (ap₂ (λ (a b : ℕ). a ∷ b ∷ []) (reads e.space.0 (omega (arith, l.space, k.0.count.1))) (reads e.page (omega (arith, l.page)))) in (
      s.0,
      ap (λ (n : ℕ). n + 1) s.1 ∙ sym (length_push evictions e),
      s.2,
      ap Some numbers ∙ ap (option_map evict_numbers) (sym (last_of-push evictions e)),
    )
says-next versions h p line q (step_first_turn m spaces evictions t) r k s = (s.0, ap (λ (n : ℕ). n + 1) s.2, refl)
says-next versions h p line q (step_turn m spaces evictions turns t) r k s = (s.0, ap (λ (n : ℕ). n + 1) s.1 ∙ sym (length_push turns t), refl)
says-next versions h p line q (step_first_close m spaces evictions) r k s = record {}
says-next versions h p line q (step_close m spaces evictions turns) r k s = record {}
