-- The things that a field names, each with what the field then holds, and what is read from a field.
use Rattle.std.proofs.Common.{◌≡◌, ℕ, ◌≤◌, Bool, true, false, Option, Some, None, MatchOption, IsTrue, refl, ap, ◌∙◌, ◌⊎◌, inl, inr, arith}
use Rattle.std.proofs.lemmas.Bool.{false≢true, le-leb}
use Rattle.std.proofs.lemmas.Bool.Decides.{leb_tells}
use Rattle.std.specs.Prelude.{nat_le, if◌then◌else◌}
use Rattle.std.specs.Option.{option_map}
use Rattle.sa_base.specs.declared.number.ProcNo.{ProcNo}
use Rattle.sa_base.specs.declared.number.SpaceNo.{SpaceNo}
use Rattle.sa_base.specs.declared.number.ThreadNo.{ThreadNo}
use Rattle.sa_base.specs.declared.number.ActNo.{ActNo}
use Rattle.sa_base.specs.declared.number.IoNo.{IoNo}
use Rattle.sa_trace.specs.declared.field.Field.{Field}
use Rattle.sa_trace.specs.declared.field.Field.TheVariants.{Space, OptionalSpace, Thread, OptionalThread, Processor, Activation, Io, Place, Value, Demand}
use Rattle.sa_trace.specs.Field.{range_of, FitsField, number_in, optional_in}

-- what is read from a value is held by the field like this, and nothing is read exactly where it may not hold the value
abbrev pub IsReading : {A : Type 0} → Field → (A → Option ℕ) → Option ℕ → Option A → Type 0
IsReading field held value read = MatchOption read (FitsField field value → ⊥) (λ a. FitsField field value × (held a ≡ value))

-- how the things of a type are held by a field
pub record Coded (A : Type 0) : Type 0 where
  pub field : Field
  pub held : A → Option ℕ
  pub read : Option ℕ → Option A
  pub back : (value : Option ℕ) → IsReading field held value (read value)
  pub forth : (a : A) → FitsField field (held a) → read (held a) ≡ Some a

-- a value where a test says so
tested : {A : Type 0} (b : Bool) (P : Type 0) (x : A) (Q : A → Type 0) → ((b ≡ true) × P) ⊎ ((b ≡ false) × (P → ⊥)) → (P → Q x)
    → MatchOption (if b then Some x else None) (P → ⊥) Q
tested true P x Q tells shown = elim tells [ inl is ↦ shown is.1 | inr not ↦ absurd cc ]
tested false P x Q tells shown = elim tells [ inl is ↦ absurd cc | inr not ↦ not.1 ]

mapped : {A B : Type 0} (f : A → B) (o : Option A) (P : Type 0) (Q : B → Type 0) → MatchOption o P (λ x. Q (f x)) → MatchOption (option_map f o) P Q
mapped f None P Q h = h
mapped f (Some x) P Q h = h

-- what the test of a range tells
range_tells : (n m : ℕ) → ((nat_le n m ≡ true) × (n ≤ m)) ⊎ ((nat_le n m ≡ false) × ((n ≤ m) → ⊥))
range_tells n m = elim (leb_tells n m) [ inl is ↦ inl is | inr not ↦ inr (not.0, λ le. absurd (omega arith)) ]

pub number_back : (field : Field) → (IsTrue (range_of field).optional → ⊥) → (value : Option ℕ) → IsReading field (λ n. Some n) value (number_in field value)
number_back field never None = never
number_back field never (Some n) = tested (nat_le n (range_of field).greatest) (n ≤ (range_of field).greatest) n
    (λ m. FitsField field (Some n) × (Some m ≡ Some n)) (range_tells n (range_of field).greatest) (λ le. (le, refl))

pub number_forth : (field : Field) (n : ℕ) → n ≤ (range_of field).greatest → number_in field (Some n) ≡ Some n
number_forth field n fits = ap (λ b. if b then Some n else None) (le-leb n (range_of field).greatest fits)

-- a number as it is
abbrev pub plain : (field : Field) → (IsTrue (range_of field).optional → ⊥) → Coded ℕ
plain field never = record {
  field = field;
  held = λ n. Some n;
  read = number_in field;
  back = number_back field never;
  forth = number_forth field;
}

module _ {A : Type 0} (field : Field) (made : ℕ → A) (number : A → ℕ) (numbers : (n : ℕ) → number (made n) ≡ n) (things : (a : A) → made (number a) ≡ a) where
  made_back : (IsTrue (range_of field).optional → ⊥) → (value : Option ℕ)
      → MatchOption (number_in field value) (FitsField field value → ⊥) (λ n. FitsField field value × (Some (number (made n)) ≡ value))
  made_back never None = never
  made_back never (Some n) = tested (nat_le n (range_of field).greatest) (n ≤ (range_of field).greatest) n
      (λ m. FitsField field (Some n) × (Some (number (made m)) ≡ Some n)) (range_tells n (range_of field).greatest) (λ le. (le, ap Some (numbers n)))

  pub numbered_back : (IsTrue (range_of field).optional → ⊥) → (value : Option ℕ)
      → IsReading field (λ a. Some (number a)) value (option_map made (number_in field value))
  numbered_back never value =
      mapped made (number_in field value) (FitsField field value → ⊥) (λ a. FitsField field value × (Some (number a) ≡ value)) (made_back never value)

  pub numbered_forth : (a : A) → number a ≤ (range_of field).greatest → option_map made (number_in field (Some (number a))) ≡ Some a
  numbered_forth a fits = ap (λ o. option_map made o) (number_forth field (number a) fits) ∙ ap Some (things a)

  optional_made_back : IsTrue (range_of field).optional → (value : Option ℕ)
      → MatchOption (optional_in field value) (FitsField field value → ⊥) (λ o. FitsField field value × (option_map number (option_map made o) ≡ value))
  optional_made_back may None = (may, refl)
  optional_made_back may (Some n) = tested (nat_le n (range_of field).greatest) (n ≤ (range_of field).greatest) (Some n)
      (λ o. FitsField field (Some n) × (option_map number (option_map made o) ≡ Some n)) (range_tells n (range_of field).greatest) (λ le. (le, ap Some (numbers n)))

  pub optional_back : IsTrue (range_of field).optional → (value : Option ℕ)
      → IsReading field (λ a. option_map number a) value (option_map (λ o. option_map made o) (optional_in field value))
  optional_back may value = mapped (λ o. option_map made o) (optional_in field value) (FitsField field value → ⊥)
      (λ a. FitsField field value × (option_map number a ≡ value)) (optional_made_back may value)

  pub optional_forth : (a : Option A) → FitsField field (option_map number a)
      → option_map (λ o. option_map made o) (optional_in field (option_map number a)) ≡ Some a
  optional_forth None fits = refl
  optional_forth (Some a) fits =
      ap (λ b. option_map (λ o. option_map made o) (if b then Some (Some (number a)) else None)) (le-leb (number a) (range_of field).greatest fits)
      ∙ ap (λ x. Some (Some x)) (things a)

  -- a thing by its number
  abbrev pub numbered : (IsTrue (range_of field).optional → ⊥) → Coded A
  numbered never = record {
    field = field;
    held = λ a. Some (number a);
    read = λ value. option_map made (number_in field value);
    back = numbered_back never;
    forth = numbered_forth;
  }

  -- a thing by its number, or none
  abbrev pub optional : IsTrue (range_of field).optional → Coded (Option A)
  optional may = record {
    field = field;
    held = λ a. option_map number a;
    read = λ value. option_map (λ o. option_map made o) (optional_in field value);
    back = optional_back may;
    forth = optional_forth;
  }

abbrev pub space : Coded SpaceNo
space = numbered Space (λ n. record { 0 = n }) (λ s. s.0) (λ n. refl) (λ s. refl) false≢true

abbrev pub thread : Coded ThreadNo
thread = numbered Thread (λ n. record { 0 = n }) (λ t. t.0) (λ n. refl) (λ t. refl) false≢true

abbrev pub processor : Coded ProcNo
processor = numbered Processor (λ n. record { 0 = n }) (λ p. p.0) (λ n. refl) (λ p. refl) false≢true

abbrev pub activation : Coded ActNo
activation = numbered Activation (λ n. record { 0 = n }) (λ a. a.0) (λ n. refl) (λ a. refl) false≢true

abbrev pub io : Coded IoNo
io = numbered Io (λ n. record { 0 = n }) (λ i. i.0) (λ n. refl) (λ i. refl) false≢true

abbrev pub optional_space : Coded (Option SpaceNo)
optional_space = optional OptionalSpace (λ n. record { 0 = n }) (λ s. s.0) (λ n. refl) (λ s. refl) refl

abbrev pub optional_thread : Coded (Option ThreadNo)
optional_thread = optional OptionalThread (λ n. record { 0 = n }) (λ t. t.0) (λ n. refl) (λ t. refl) refl

abbrev pub place : Coded ℕ
place = plain Place false≢true

abbrev pub value : Coded ℕ
value = plain Value false≢true

abbrev pub demand : Coded ℕ
demand = plain Demand false≢true
