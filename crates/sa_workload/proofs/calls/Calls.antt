-- What the functions of the reader that go on in several steps come to.
use Rattle.std.proofs.Common.{◌≡◌, ◌≢◌, ℕ, ◌+◌, ◌<◌, ◌≤◌, slice_index, Bool, true, false, cond, find, List, [], ◌∷◌, ◌++◌, length, get_or, map, drop, Option, Some, None, IfSome, IfNone, Result, Ok, Err, Ordering, Less, Equal, Greater, inl, inr, refl, sym, ap, ap₂, ◌∙◌, subst, arith, eqb, lt-ltb, eq-eqb, append_assoc}
use Rattle.std.specs.Option.{is_some}
use Rattle.std.specs.Ordering.{nat_cmp, ordering_then}
use Rattle.std.specs.Cmp.Lexicographic.{slice_cmp}
use Rattle.std.specs.Str.{bytes_eq}
use Rattle.std.proofs.lemmas.Bool.{cases_lt, cases_eq, false_from_ne_true, ne_eqb, le-ltb}
use Rattle.std.proofs.lemmas.List.{drop_more, get_or-map, length-map, length_push}
use Rattle.std.proofs.lemmas.Option.{same_Some}
use Rattle.std.proofs.lemmas.Slice.Eq.{bytes_eq-Decides}
use Rattle.sa_instr.specs.declared.operand.OperandKind.{OperandKind}
use Rattle.sa_instr.specs.declared.operation.Operation.{Operation}
use Rattle.sa_instr.specs.declared.operation.TheConstants.{OPERATIONS}
use Rattle.sa_instr.specs.declared.instr.Instr.{Instr}
use Rattle.sa_instr.specs.Operation.{form_of, IsNoWord, operation_of}
use Rattle.sa_instr.specs.Program.{IsProgram}
use Rattle.sa_instr.proofs.OperationLemmas.{operation-found}
use Rattle.sa_spaces.specs.Space.{SpaceView, IsSpace}
use Rattle.sa_workload.specs.Bad.{Field, Register, list_lt, instr_words}
use Rattle.sa_workload.specs.Fields.{and_then, field_at, fields_at, index_of, order_cause}
use Rattle.sa_workload.specs.Position.{HeaderView, Draft, AtInstr, IsReached}
use Rattle.sa_workload.specs.Next.{draft_numbers, fields_of, is_end, made_by, operand_from, operands_from}
use Rattle.sa_workload.specs.Steps.{space_of_draft, with_program}
use Rattle.sa_workload.specs.Rooms.{AreBelow, room_for}
use Rattle.sa_workload.proofs.fields.InstrLemmas.{IsAllowed, instr-read, no_operation, operation-expected}
use Rattle.sa_workload.proofs.calls.Rooms.{all_pass}
use Rattle.sa_workload.proofs.forward.Sound.{end_of}
use Rattle.sa_workload.proofs.forward.Reached.{begun_more, whole_program, with_program-drafted, whole_space}
use Rattle.sa_workload.specs.declared.field.Field.{Field as TableField}
use Rattle.sa_workload.specs.declared.field.Field.TheVariants as Table
use Rattle.sa_workload.specs.Stage.{field_of, IsAsLong, AreNumbersOf}
use Rattle.sa_workload.proofs.forward.Orders.{list_lt-irrefl, less_head, same_head, none-order}

-- a word that is no operation's
none_found : (word : List ℕ) → IsNoWord word → (os : List Operation) → find (λ o. bytes_eq word (form_of o).word) os ≡ None
none_found word none [] = refl
none_found word none (o ∷ os) = by_test (bytes_eq word (form_of o).word) refl (none_found word none os)
  where
    by_test : (b : Bool) → bytes_eq word (form_of o).word ≡ b → find (λ o. bytes_eq word (form_of o).word) os ≡ None
        → cond b (Some o) (find (λ o. bytes_eq word (form_of o).word) os) ≡ None
    by_test true t rest = absurd (none o (sym ((bytes_eq-Decides word (form_of o).word).0 t)))
    by_test false t rest = rest

pub operation-none : (word : List ℕ) → IsNoWord word → operation_of word ≡ None
unfolding operation_of
operation-none word none = none_found word none OPERATIONS

pub operation-is : (o : Operation) (word : List ℕ) → (form_of o).word ≡ word → operation_of word ≡ Some o
operation-is o word e = ap operation_of (sym e) ∙ operation-found o

-- whether an operation has the word
pub of_word : (o : Option Operation) (word : List ℕ) → IfSome o (λ operation. (form_of operation).word ≡ word) → IfNone o (IsNoWord word)
    → is_some o ≡ is_some (index_of word instr_words)
of_word (Some o) word found none = sym (ap (λ (w : List ℕ). is_some (index_of w instr_words)) (sym found) ∙ operation-expected o)
of_word None word found none = sym (no_operation word none)

-- the operands of an operation that has none, one or two
pub operands-none : (kinds : List OperandKind) (ns : List ℕ) → length kinds ≡ 0 → operands_from kinds ns ≡ []
operands-none [] ns none = refl
operands-none (k ∷ kinds) ns none = absurd (omega arith)

pub operands-one : (kinds : List OperandKind) (d : OperandKind) (ns : List ℕ) → length kinds ≡ 1 → AreBelow (map room_for kinds) ns
    → operands_from kinds ns ≡ operand_from (get_or kinds 0 d) (slice_index ns 0) ∷ []
operands-one (k ∷ []) d (n ∷ ns) one h = refl
operands-one (k ∷ []) d [] one h = absurd h
operands-one [] d ns one h = absurd (omega arith)
operands-one (k ∷ j ∷ kinds) d ns one h = absurd (omega arith)

pub operands-two : (kinds : List OperandKind) (d e : OperandKind) (ns : List ℕ) → length kinds ≢ 0 → length kinds ≢ 1 → length kinds ≤ 2
    → AreBelow (map room_for kinds) ns
    → operands_from kinds ns ≡ operand_from (get_or kinds 0 d) (slice_index ns 0) ∷ operand_from (get_or kinds 1 e) (slice_index ns 1) ∷ []
operands-two [] d e ns some more few h = absurd (some refl)
operands-two (k ∷ []) d e ns some more few h = absurd (more refl)
operands-two (k ∷ j ∷ []) d e [] some more few h = absurd h
operands-two (k ∷ j ∷ []) d e (n ∷ []) some more few h = absurd h.1
operands-two (k ∷ j ∷ []) d e (n ∷ m ∷ ns) some more few h = refl
operands-two (k ∷ j ∷ i ∷ kinds) d e ns some more few h = absurd (omega arith)

-- lists of one length, compared from the left
abbrev pub Compared : List ℕ → List ℕ → Ordering → Type 0
Compared xs ys Less = list_lt xs ys ≡ true
Compared xs ys Equal = xs ≡ ys
Compared xs ys Greater = list_lt ys xs ≡ true

pub compared : (xs ys : List ℕ) → length xs ≡ length ys → Compared xs ys (slice_cmp nat_cmp xs ys)
compared [] [] long = refl
compared [] (y ∷ ys) long = absurd (omega arith)
compared (x ∷ xs) [] long = absurd (omega arith)
compared (x ∷ xs) (y ∷ ys) long = elim (cases_lt x y) [
  | inl less ↦ subst (λ (b : Bool). Compared (x ∷ xs) (y ∷ ys) (ordering_then (cond b Less (cond (eqb x y) Equal Greater)) (slice_cmp nat_cmp xs ys)))
      (sym (lt-ltb x y less)) (less_head x y xs ys less)
  | inr more ↦
      subst (λ (b : Bool). Compared (x ∷ xs) (y ∷ ys) (ordering_then (cond b Less (cond (eqb x y) Equal Greater)) (slice_cmp nat_cmp xs ys)))
      (sym (le-ltb x y more))
      (elim (cases_eq x y) [
        | inr other ↦ subst (λ (b : Bool). Compared (x ∷ xs) (y ∷ ys) (ordering_then (cond b Equal Greater) (slice_cmp nat_cmp xs ys))) (sym (ne_eqb x y other))
            (less_head y x ys xs (omega arith))
        | inl same ↦ subst (λ (b : Bool). Compared (x ∷ xs) (y ∷ ys) (ordering_then (cond b Equal Greater) (slice_cmp nat_cmp xs ys))) (sym (eq-eqb x y same))
            (behind same (slice_cmp nat_cmp xs ys) (compared xs ys (omega arith)))
      ])
]
  where
    behind : x ≡ y → (o : Ordering) → Compared xs ys o → Compared (x ∷ xs) (y ∷ ys) o
    behind same Less h = same_head x y xs ys same h
    behind same Equal h = ap (λ (z : ℕ). z ∷ xs) same ∙ ap (λ (zs : List ℕ). y ∷ zs) h
    behind same Greater h = same_head y x ys xs (sym same) h

-- what that says of their order
pub order-equal : (last ns : List ℕ) (l : Option (List ℕ)) → Some last ≡ l → IsAsLong ns l → slice_cmp nat_cmp ns last ≡ Equal → order_cause l ns ≡ Some 5
order-equal last ns l is long e =
    let same : ns ≡ last = subst (Compared ns last) e (compared ns last (subst (IsAsLong ns) (sym is) long)) in
    ap (λ (o : Option (List ℕ)). order_cause o ns) (sym is)
    ∙ ap (λ (b : Bool). cond b (Some 5) (cond (list_lt ns last) (Some 4) None)) ((bytes_eq-Decides ns last).1 same)

pub order-less : (last ns : List ℕ) (l : Option (List ℕ)) → Some last ≡ l → IsAsLong ns l → slice_cmp nat_cmp ns last ≡ Less → order_cause l ns ≡ Some 4
order-less last ns l is long e =
    let less : list_lt ns last ≡ true = subst (Compared ns last) e (compared ns last (subst (IsAsLong ns) (sym is) long)) in
    let other : bytes_eq ns last ≡ false = false_from_ne_true (bytes_eq ns last) (λ t. list_lt-irrefl ns last ((bytes_eq-Decides ns last).0 t) less) in
    ap (λ (o : Option (List ℕ)). order_cause o ns) (sym is) ∙ ap₂ (λ (a b : Bool). cond a (Some 5) (cond b (Some 4) None)) other less

pub order-greater : (last ns : List ℕ) (l : Option (List ℕ)) → Some last ≡ l → IsAsLong ns l → slice_cmp nat_cmp ns last ≡ Greater → order_cause l ns ≡ None
order-greater last ns l is long e =
    ap (λ (o : Option (List ℕ)). order_cause o ns) (sym is)
    ∙ none-order last ns (subst (Compared ns last) e (compared ns last (subst (IsAsLong ns) (sym is) long)))

-- the fields that are left, after the numbers so far
abbrev pub Left : List ℕ → Result (List ℕ × List (List ℕ)) ℕ → Result (List ℕ × List (List ℕ)) ℕ
Left ns r = and_then r (λ later. Ok (ns ++ later.0, later.1))

number_more : (ns : List ℕ) (n : ℕ) (r : Result (List ℕ × List (List ℕ)) ℕ)
    → Left ns (and_then r (λ others. Ok (n ∷ others.0, others.1))) ≡ Left (ns ++ n ∷ []) r
number_more ns n (Ok later) = ap (λ (xs : List ℕ). Ok (xs, later.1)) (sym (append_assoc ns (n ∷ []) later.0))
number_more ns n (Err cause) = refl

pub field-next : (fields : List TableField) (words : List (List ℕ)) (i : ℕ) (ns : List ℕ) (r : Result (ℕ × List (List ℕ)) ℕ) → i < length fields
    → r ≡ field_at (field_of (get_or fields i Table.Register)) words
    → Left ns (fields_at (drop i (map field_of fields)) words) ≡ and_then r
    (λ first. Left (ns ++ first.0 ∷ []) (fields_at (drop (i + 1) (map field_of fields)) first.1))
field-next fields words i ns r h read =
    ap (λ (fs : List Field). Left ns (fields_at fs words)) (drop_more all i Register (omega (arith, length-map fields field_of)))
    ∙ ap (λ (x : Result (ℕ × List (List ℕ)) ℕ). Left ns
    (and_then x (λ first. and_then (fields_at (drop (i + 1) all) first.1) (λ others. Ok (first.0 ∷ others.0, others.1)))))
    (ap (λ (f : Field). field_at f words) (get_or-map field_of fields i Table.Register Register h) ∙ sym read) ∙ by_read r
  where
    all : List Field
    all = map field_of fields

    by_read : (x : Result (ℕ × List (List ℕ)) ℕ)
        → Left ns (and_then x (λ first. and_then (fields_at (drop (i + 1) all) first.1) (λ others. Ok (first.0 ∷ others.0, others.1))))
        ≡ and_then x (λ first. Left (ns ++ first.0 ∷ []) (fields_at (drop (i + 1) all) first.1))
    by_read (Ok first) = number_more ns first.0 (fields_at (drop (i + 1) all) first.1)
    by_read (Err cause) = refl

-- the instruction of a line that may be there
module _ (versions : ℕ) (m : HeaderView) (spaces : List SpaceView) (d : Draft) (len : ℕ) (instrs : List Instr) (word ns : List ℕ) (i : Instr)
    (r : IsReached versions (AtInstr m spaces d len instrs)) (known : is_some (index_of word instr_words) ≡ true)
    (read : AreNumbersOf (fields_of versions (AtInstr m spaces d len instrs) word) ns) (made : Some i ≡ made_by ns (operation_of word)) where
  allowed : IsAllowed (draft_numbers d len) i
  allowed =
      let from = instr-read versions (draft_numbers d len) word ns known (all_pass (fields_of versions (AtInstr m spaces d len instrs) word) ns read) in
      subst (IsAllowed (draft_numbers d len)) (same_Some from.instr i (sym (made ∙ from.is))) from.allowed

  pub program_whole : length instrs + 1 ≡ len → is_end i ≡ true → IsProgram (instrs ++ i ∷ [])
  program_whole last end = whole_program d len instrs i r.5 allowed.range allowed.jump allowed.name (end_of i end) (length_push instrs i ∙ last)

  pub space_whole : length instrs + 1 ≡ len → is_end i ≡ true → length d.programs + 1 ≡ d.program_count
      → IsSpace (space_of_draft (with_program d (instrs ++ i ∷ [])))
  space_whole last end all =
      whole_space m spaces (with_program d (instrs ++ i ∷ []))
      (with_program-drafted m spaces d (instrs ++ i ∷ []) r.2 r.4 (program_whole last end)
      (begun_more d len instrs i r.5 allowed.range allowed.jump allowed.name).2)
      r.3 (length_push d.programs (instrs ++ i ∷ []) ∙ all)
