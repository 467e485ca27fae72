-- What a line of a word is where a reader is, and after the lines before it: the same fields, limit and order.
use Rattle.std.proofs.Common.{◌≡◌, ◌≢◌, ℕ, ◌-◌, ◌+◌, ◌^◌, ◌<◌, ◌≤◌, ◌==◌, ◌⊎◌, ◌&&◌, ◌||◌, Bool, true, false, if◌then◌else◌, List, [], ◌∷◌, length, map, All, None, codes, decimal, refl, sym, ap, ap₂, ◌∙◌, subst, inl, inr, arith, leb-true, le-leb, nat_le, slice_index_or}
use Rattle.std.specs.Bool.{Decides}
use Rattle.std.specs.Option.{is_some}
use Rattle.std.specs.List.{list_all}
use Rattle.std.specs.Str.{bytes_eq}
use Rattle.std.specs.Str.Parse.{digits_value}
use Rattle.std.proofs.Math.Bool.{or-false}
use Rattle.std.proofs.lemmas.Bool.{cases_eq, ne_eqb}
use Rattle.std.proofs.lemmas.Bool.Decides.{Decides-and, Decides-or}
use Rattle.std.proofs.lemmas.List.Elements.{All-head, All-tail}
use Rattle.std.proofs.lemmas.Slice.Eq.{bytes_eq-Decides}
use Rattle.sa_base.specs.declared.limits.TheConstants.{MAX_EVENTS}
use Rattle.sa_instr.specs.declared.limits.TheConstants.{LAST_PAGE, MAX_EVICTIONS, MAX_PATIENCE, MAX_PRIORITY, MAX_MUTEXES, MAX_SEMAPHORES, MAX_CELLS, MAX_PROGRAMS, MAX_SLICE, MAX_TURNS}
use Rattle.sa_instr.specs.declared.operand.OperandKind.{OperandKind}
use Rattle.sa_instr.specs.declared.operand.OperandKind.TheVariants as Kinds
use Rattle.sa_instr.specs.declared.operation.Operation.{Operation}
use Rattle.sa_instr.specs.declared.operation.Operation.TheVariants as Operations
use Rattle.sa_instr.specs.Operation.{form_of}
use Rattle.sa_spaces.specs.Space.{SpaceView, IsSpace}
use Rattle.sa_workload.specs.Bad.{numbers_before, DeclaredNumbers, Field, within, declared, operand_field, fields_behind, numbers_in, number_in, last_line, count_of_word, IsTooMany}
use Rattle.sa_workload.specs.Fields.{index_of}
use Rattle.sa_workload.specs.Position.{Position, AtSlice, AtSpace, AtAbsent, AtInstr, AtEvict, AtTurn, Closed, shown}
use Rattle.sa_workload.specs.Steps.{expected}
use Rattle.sa_workload.specs.Next.{nothing_declared, is_last_impatient, numbers_at, is_full, last_numbers, fields_of}
use Rattle.sa_workload.proofs.fields.InstrLemmas.{operation-fields, expected-operation}
use Rattle.sa_workload.proofs.forward.Says.{reads, heard, is_patient}
use Rattle.sa_workload.proofs.forward.Sound.{by_word}
use Rattle.sa_workload.proofs.forward.Standing.{IsAt}

-- there are as many lines of the word as there may be
abbrev pub is_many : List (List (List ℕ)) → List ℕ → Bool
is_many lines word =
    (bytes_eq word (codes "evict") && nat_le MAX_EVICTIONS (count_of_word lines word)) ||
    (bytes_eq word (codes "turn") && nat_le MAX_TURNS (count_of_word lines word))

pub many-Decides : (lines : List (List (List ℕ))) (word : List ℕ) → Decides (is_many lines word) (IsTooMany lines word)
many-Decides lines word = Decides-or _ _ (up_to (codes "evict") MAX_EVICTIONS) (up_to (codes "turn") MAX_TURNS)
  where
    up_to : (k : List ℕ) (limit : ℕ) → Decides (bytes_eq word k && nat_le limit (count_of_word lines word)) ((word ≡ k) × (limit ≤ count_of_word lines word))
    up_to k limit = Decides-and _ _ (bytes_eq-Decides word k) (leb-true limit (count_of_word lines word), le-leb limit (count_of_word lines word))

-- a line of the word has the same fields, limit and order by the lines before it and by the position
pub record LineAt (versions : ℕ) (p : Position) (word : List ℕ) : Type 0 where
  pub fields : fields_behind versions (shown p) word ≡ fields_of versions p word
  pub full : is_many (shown p) word ≡ is_full p word
  pub order : numbers_before (last_line (shown p)) word (length (fields_of versions p word)) ≡ last_numbers p word

-- a number of a line
number_is : {line other : List (List ℕ)} (k n : ℕ) → line ≡ other → slice_index_or other k [] ≡ decimal n → n < 2 ^ 64 → number_in line k ≡ n
number_is k n e d small = ap (λ (l : List (List ℕ)). number_in l k) e ∙ ap (digits_value 10) d ∙ reads n small

-- an instruction's operands are read by these numbers alone
abbrev operand_numbers : ℕ → ℕ → ℕ → ℕ → ℕ → DeclaredNumbers
operand_numbers mutexes semaphores cells programs instructions =
    record nothing_declared { mutexes = mutexes; semaphores = semaphores; cells = cells; programs = programs; instructions = instructions }

operand_same : (n : DeclaredNumbers) (k : OperandKind)
    → operand_field n k ≡ operand_field (operand_numbers n.mutexes n.semaphores n.cells n.programs n.instructions) k
operand_same n Kinds.Register = refl
operand_same n _ = refl

instr_plain : (lines : List (List (List ℕ))) (count : ℕ) (o : Operation)
    → (is_many lines (form_of o).word ≡ false) × (numbers_before (last_line lines) (form_of o).word count ≡ None)
instr_plain lines count Operations.End = (refl, refl)
instr_plain lines count _ = (refl, refl)

-- the patience of spaces as their lines say it, in version 3
patience_same : (spaces : List SpaceView) → All IsSpace spaces → list_all (is_patient 3) spaces ≡ list_all (λ (s : SpaceView). s.patience == 1) spaces
patience_same [] h = refl
patience_same (s ∷ ss) h =
    let k : IsSpace s = All-head IsSpace s ss h in
    ap₂ (λ (a b : Bool). a && b) (ap (λ (n : ℕ). n == 1) (reads s.patience (omega (arith, k.patience)))) (patience_same ss (All-tail IsSpace s ss h))

-- each line that is expected where a reader is
pub line_at : (versions : ℕ) → versions ≤ 3 → (p : Position) (word : List ℕ) → IsAt versions p → is_some (index_of word (expected p)) ≡ true
    → LineAt versions p word
line_at versions three (AtSlice v n f) word a known = by_word (expected (AtSlice v n f)) word (LineAt versions (AtSlice v n f)) (
  record {
    fields = ap (λ (u : ℕ). within (if u == 3 then 0 else 1) MAX_SLICE ∷ []) (number_is 1 v a.says.1 refl (omega (arith, a.reached.1)));
    full = refl;
    order = refl;
  },
  tt,
) known
line_at versions three (AtSpace m spaces) word a known =
    by_word (expected (AtSpace m spaces)) word (LineAt versions (AtSpace m spaces)) (record { fields = fields; full = refl; order = refl }, tt) known
  where
    all : ℕ → Bool → List Field
    all u b = within 0 MAX_PRIORITY ∷ within 0 MAX_MUTEXES ∷ within 0 MAX_SEMAPHORES ∷ within 0 MAX_CELLS ∷ within 1 MAX_PROGRAMS
        ∷ (if u == 3 then within (if b then 2 else 1) MAX_PATIENCE ∷ [] else [])

    version : number_in ((heard (shown (AtSpace m spaces))).lasts (codes "workload")) 1 ≡ m.version
    version = number_is 1 m.version a.says.0.0 refl (omega (arith, a.reached.0.version))

    count : number_in ((heard (shown (AtSpace m spaces))).lasts (codes "spaces")) 1 ≡ m.count
    count = number_is 1 m.count a.says.0.2 refl (omega (arith, a.reached.0.count.1))

    same : (m.version ≡ 3) ⊎ (m.version ≢ 3)
        → all m.version (nat_le m.count (length spaces + 1) && list_all (is_patient m.version) spaces) ≡ all m.version (is_last_impatient m spaces)
    same (inl v) =
        ap (λ (b : Bool). all m.version (nat_le m.count (length spaces + 1) && b))
        (ap (λ (v : ℕ). list_all (is_patient v) spaces) v ∙ patience_same spaces a.reached.1.each)
    same (inr n) = rw (ne_eqb m.version 3 n)

    fields : fields_behind versions (shown (AtSpace m spaces)) (codes "space") ≡ fields_of versions (AtSpace m spaces) (codes "space")
    fields = (λ i. all (version i) (nat_le (count i) (a.says.1.0 i + 1) && a.says.1.1 i)) ∙ same (cases_eq m.version 3)
line_at versions three (AtAbsent m spaces d) word a known = by_word (expected (AtAbsent m spaces d)) word (LineAt versions (AtAbsent m spaces d)) (
  record { fields = refl; full = refl; order = a.says.1 },
  (record { fields = refl; full = refl; order = refl }, tt),
) known
line_at versions three (AtInstr m spaces d len instrs) word a known =
    let o = expected-operation word known in subst (LineAt versions (AtInstr m spaces d len instrs)) (sym o.1) (of o.0)
  where
    p : Position
    p = AtInstr m spaces d len instrs

    same : (k : OperandKind) → operand_field (numbers_in (shown p)) k ≡ operand_field (numbers_at p) k
    same k = operand_same (numbers_in (shown p)) k ∙ (λ i. operand_field (operand_numbers
        (number_is 2 d.mutexes a.says.0.2 refl (omega (arith, a.reached.2.mutexes)) i)
        (number_is 3 d.sem_count a.says.0.2 refl (omega (arith, a.reached.2.sem_count)) i)
        (number_is 4 d.cells a.says.0.2 refl (omega (arith, a.reached.2.cells)) i)
        (number_is 5 d.program_count a.says.0.2 refl (omega (arith, a.reached.2.program_count.1)) i)
        (number_is 1 len a.says.1 refl (omega (arith, a.reached.5.short.1)) i)) k)

    of : (o : Operation) → LineAt versions p (form_of o).word
    of o = let plain = instr_plain (shown p) (length (fields_of versions p (form_of o).word)) o in record {
      fields = operation-fields versions (numbers_in (shown p)) o ∙ (λ i. map (λ k. same k i) (form_of o).operands)
          ∙ sym (operation-fields versions (numbers_at p) o);
      full = plain.0;
      order = plain.1;
    }
line_at versions three (AtEvict m spaces es) word a known = by_word (expected (AtEvict m spaces es)) word (LineAt versions (AtEvict m spaces es)) (
  record {
    fields = ap (λ (n : ℕ). within 1 MAX_EVENTS ∷ declared n ∷ within 0 LAST_PAGE ∷ [])
        (number_is 1 m.count a.says.0.2 refl (omega (arith, a.reached.0.count.1)));
    full = or-false _ ∙ ap (nat_le MAX_EVICTIONS) a.says.1;
    order = a.says.3;
  },
  (
    record {
      fields = ap (λ (n : ℕ). within 0 (n - 1) ∷ []) (number_is 1 m.processors a.says.0.1 refl (omega (arith, a.reached.0.processors.1)));
      full = ap (nat_le MAX_TURNS) a.says.2;
      order = refl;
    },
    (record { fields = refl; full = refl; order = refl }, tt),
  ),
) known
line_at versions three (AtTurn m spaces es ts) word a known = by_word (expected (AtTurn m spaces es ts)) word (LineAt versions (AtTurn m spaces es ts)) (
  record {
    fields = ap (λ (n : ℕ). within 0 (n - 1) ∷ []) (number_is 1 m.processors a.says.0.1 refl (omega (arith, a.reached.0.processors.1)));
    full = ap (nat_le MAX_TURNS) a.says.1;
    order = refl;
  },
  (record { fields = refl; full = refl; order = refl }, tt),
) known
line_at versions three (Closed w) word a known = absurd (cc known)
line_at versions three p word a known =
    by_word (expected p) word (LineAt versions p) (record { fields = refl; full = refl; order = refl }, tt) known
