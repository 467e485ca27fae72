-- A number, a field and a record have each one spelling in pieces, which is read back.
use Rattle.std.proofs.Common.{◌≡◌, ◌≢◌, ℕ, ◌^◌, ◌<◌, ◌≤◌, ◌&&◌, Bool, true, false, cond, List, [], ◌∷◌, map, Option, Some, None, Result, Ok, Err, refl, ap, ◌∙◌, subst, arith, nat_le, inl, inr}
use Rattle.std.specs.Prelude.{All, codes, decimal}
use Rattle.std.specs.Str.{bytes_eq}
use Rattle.std.proofs.lemmas.Bool.{leb-true, le-leb, and_parts, false_from_ne_true}
use Rattle.std.proofs.lemmas.Slice.Eq.{bytes_eq-Decides}
use Rattle.std.proofs.lemmas.List.Elements.{All-nil, All-cons, All-head, All-tail}
use Rattle.sa_trace.specs.declared.field.Field.{Field}
use Rattle.sa_trace.specs.declared.field.Field.TheVariants.{Space}
use Rattle.sa_base.specs.declared.refusal.Cause.{Cause}
use Rattle.sa_base.specs.declared.refusal.Cause.TheVariants.{BadNumber, OutOfRange}
use Rattle.sa_trace.specs.Field.{range_of, FitsField, AllFit}
use Rattle.sa_trace.specs.Pieces.{and_then, or_cause, within, number_in, field_in, fields_in, wrong_or, wrong_count}
use Rattle.sa_text.proofs.Spelling.{decimal-lacks}
use Rattle.sa_text.proofs.NumberOf.{reads_number, number_of-some}
use Rattle.sa_text.specs.Number.{number_of}
use Rattle.sa_lemmas.proofs.Booleans.{if_either}

-- what an answer is made of
pub and_then-ok : {A B E : Type 0} (r : Result A E) (f : A → Result B E) (b : B) → and_then r f ≡ Ok b → (a : A) × (r ≡ Ok a) × (f a ≡ Ok b)
and_then-ok (Ok a) f b h = (a, refl, h)
and_then-ok (Err e) f b h = absurd cc

pub same_Ok : {A : Type 0} (a b : A) → (λ (r : Result A Cause). r) (Ok a) ≡ Ok b → a ≡ b
same_Ok a b h = cc

pub or_cause-ok : {A E : Type 0} (o : Option A) (cause : E) (a : A) → or_cause o cause ≡ Ok a → o ≡ Some a
or_cause-ok None cause a h = absurd cc
or_cause-ok (Some b) cause a h = cc

if_ok : (b : Bool) (x n : ℕ) (cause : Cause) → cond b (Ok x) (Err cause) ≡ Ok n → (b ≡ true) × (x ≡ n)
if_ok true x n cause h = (refl, cc)
if_ok false x n cause h = absurd cc

pub number_in-ok : (least greatest : ℕ) (piece : List ℕ) (n : ℕ) → number_in least greatest piece ≡ Ok n
    → (piece ≡ decimal n) × (n < 2 ^ 64) × (least ≤ n) × (n ≤ greatest)
number_in-ok least greatest piece n h =
    let got = and_then-ok (or_cause (number_of piece) BadNumber) (within least greatest) n h in
    let spelled = number_of-some piece got.0 (or_cause-ok (number_of piece) BadNumber got.0 got.1) in
    let inside = if_ok (nat_le least got.0 && nat_le got.0 greatest) got.0 n OutOfRange got.2 in
    let tests = and_parts (nat_le least got.0) (nat_le got.0 greatest) inside.0 in (
      spelled.0 ∙ ap decimal inside.1,
      subst (λ m. m < 2 ^ 64) inside.1 spelled.1,
      subst (λ m. least ≤ m) inside.1 (leb-true least got.0 tests.0),
      subst (λ m. m ≤ greatest) inside.1 (leb-true got.0 greatest tests.1),
    )

pub number_in-decimal : (least greatest n : ℕ) → n < 2 ^ 64 → least ≤ n → n ≤ greatest → number_in least greatest (decimal n) ≡ Ok n
number_in-decimal least greatest n small low high =
    ap (λ o. and_then (or_cause o BadNumber) (within least greatest)) (reads_number n small)
    ∙ ap (λ b. cond (b && nat_le n greatest) (Ok n) (Err OutOfRange)) (le-leb least n low)
    ∙ ap (λ b. cond b (Ok n) (Err OutOfRange)) (le-leb n greatest high)

wrong_or-none : (r : Result ℕ Cause) (later : Option Cause) → wrong_or r later ≡ None → (n : ℕ) × (r ≡ Ok n) × (later ≡ None)
wrong_or-none (Ok n) later h = (n, refl, h)
wrong_or-none (Err cause) later h = absurd cc

-- pieces that are these numbers
pub wrong_count-none : (counts : List ℕ) (pieces : List (List ℕ)) → wrong_count counts pieces ≡ None
    → (pieces ≡ map decimal counts) × All (λ n. n < 2 ^ 64) counts
wrong_count-none [] [] h = (refl, All-nil (λ n. n < 2 ^ 64))
wrong_count-none (count ∷ counts) (piece ∷ rest) h =
    let first = wrong_or-none (number_in count count piece) (wrong_count counts rest) h in
    let read = number_in-ok count count piece first.0 first.1 in
    let same : first.0 ≡ count = omega (arith, read.2, read.3) in
    let others = wrong_count-none counts rest first.2 in (
      ap (λ p. p ∷ rest) (read.0 ∙ ap decimal same) ∙ ap (λ r. decimal count ∷ r) others.0,
      All-cons (λ n. n < 2 ^ 64) count counts (subst (λ n. n < 2 ^ 64) same read.1) others.1,
    )
wrong_count-none _ _ h = absurd cc

pub wrong_count-decimals : (counts : List ℕ) → All (λ n. n < 2 ^ 64) counts → wrong_count counts (map decimal counts) ≡ None
wrong_count-decimals [] small = refl
wrong_count-decimals (count ∷ counts) small =
    ap (λ r. wrong_or r (wrong_count counts (map decimal counts)))
    (number_in-decimal count count count (All-head (λ n. n < 2 ^ 64) count counts small) (omega arith) (omega arith))
    ∙ wrong_count-decimals counts (All-tail (λ n. n < 2 ^ 64) count counts small)

-- a field as a piece
abbrev pub piece : Option ℕ → List ℕ
piece None = codes "-"
piece (Some n) = decimal n

cond-and_false : {A : Type 0} (a : Bool) (x y : A) → cond (a && false) x y ≡ y
cond-and_false true x y = refl
cond-and_false false x y = refl

pub greatest-small : (field : Field) → (range_of field).greatest < 2 ^ 64
greatest-small Space = omega arith
greatest-small _ = omega arith

-- a decimal text is no dash
no_dash : (n : ℕ) → n < 2 ^ 64 → bytes_eq (decimal n) (codes "-") ≡ false
no_dash n small = false_from_ne_true (bytes_eq (decimal n) (codes "-")) (λ same.
    let dash : decimal n ≡ 45 ∷ [] = (bytes_eq-Decides (decimal n) (codes "-")).0 same in
    let lacks : All (λ b. b ≢ 45) (45 ∷ []) = subst (λ bs. All (λ b. b ≢ 45) bs) dash (decimal-lacks n 45 small (omega arith)) in
    All-head (λ b. b ≢ 45) 45 [] lacks refl)

pub field_in-ok : (field : Field) (p : List ℕ) (v : Option ℕ) → field_in field p ≡ Ok v → (p ≡ piece v) × FitsField field v
field_in-ok field p v h =
    elim (if_either ((range_of field).optional && bytes_eq p (codes "-")) (Ok None) (and_then (number_in 0 (range_of field).greatest p) (λ n. Ok (Some n)))
    (Ok v) h) [
      | inl taken ↦
          let tests = and_parts (range_of field).optional (bytes_eq p (codes "-")) taken.0 in
          let e : None ≡ v = same_Ok None v taken.1 in
          subst (λ w. (p ≡ piece w) × FitsField field w) e ((bytes_eq-Decides p (codes "-")).0 tests.1, tests.0)
      | inr other ↦
          let got = and_then-ok (number_in 0 (range_of field).greatest p) (λ n. Ok (Some n)) v other.1 in
          let read = number_in-ok 0 (range_of field).greatest p got.0 got.1 in
          let e : Some got.0 ≡ v = same_Ok (Some got.0) v got.2 in
          subst (λ w. (p ≡ piece w) × FitsField field w) e (read.0, read.3)
    ]

pub field_in-piece : (field : Field) (v : Option ℕ) → FitsField field v → field_in field (piece v) ≡ Ok v
field_in-piece field None h =
    ap (λ b. cond (b && bytes_eq (codes "-") (codes "-")) (Ok None) (and_then (number_in 0 (range_of field).greatest (codes "-")) (λ n. Ok (Some n)))) h
field_in-piece field (Some n) h =
    let small : n < 2 ^ 64 = omega (arith, greatest-small field) in
    ap (λ b. cond ((range_of field).optional && b) (Ok None) (and_then (number_in 0 (range_of field).greatest (decimal n)) (λ m. Ok (Some m))))
    (no_dash n small)
    ∙ cond-and_false (range_of field).optional (Ok None) (and_then (number_in 0 (range_of field).greatest (decimal n)) (λ m. Ok (Some m)))
    ∙ ap (λ r. and_then r (λ m. Ok (Some m))) (number_in-decimal 0 (range_of field).greatest n small (omega arith) h)

pub fields_in-ok : (fields : List Field) (ps : List (List ℕ)) (vs : List (Option ℕ)) → fields_in fields ps ≡ Ok vs → (ps ≡ map piece vs) × AllFit fields vs
fields_in-ok [] [] vs h = subst (λ ws. ([] ≡ map piece ws) × AllFit [] ws) (same_Ok [] vs h) (refl, tt)
fields_in-ok (field ∷ fields) (p ∷ ps) vs h =
    let one = and_then-ok (field_in field p) (λ value. and_then (fields_in fields ps) (λ values. Ok (value ∷ values))) vs h in
    let more = and_then-ok (fields_in fields ps) (λ values. Ok (one.0 ∷ values)) vs one.2 in
    let first = field_in-ok field p one.0 one.1 in
    let rest = fields_in-ok fields ps more.0 more.1 in
    subst (λ ws. (p ∷ ps ≡ map piece ws) × AllFit (field ∷ fields) ws) (same_Ok (one.0 ∷ more.0) vs more.2)
    (ap (λ x. x ∷ ps) first.0 ∙ ap (λ xs. piece one.0 ∷ xs) rest.0, (first.1, rest.1))
fields_in-ok _ _ vs h = absurd cc

pub fields_in-pieces : (fields : List Field) (vs : List (Option ℕ)) → AllFit fields vs → fields_in fields (map piece vs) ≡ Ok vs
fields_in-pieces [] [] h = refl
fields_in-pieces (field ∷ fields) (v ∷ vs) h =
    ap (λ r. and_then r (λ value. and_then (fields_in fields (map piece vs)) (λ values. Ok (value ∷ values)))) (field_in-piece field v h.0)
    ∙ ap (λ r. and_then r (λ values. Ok (v ∷ values))) (fields_in-pieces fields vs h.1)
fields_in-pieces _ _ h = absurd h
