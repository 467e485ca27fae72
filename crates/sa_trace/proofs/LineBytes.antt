-- Each byte of a record, and of a line up to its end, passes a test that the signs between pieces, digits and words pass.
use Rattle.std.proofs.Common.{◌≡◌, ℕ, ◌^◌, ◌<◌, ◌≤◌, Bool, true, List, [], ◌∷◌, ◌++◌, Option, Some, None, refl, ◌∙◌, arith}
use Rattle.std.specs.Prelude.{codes, decimal}
use Rattle.std.specs.List.{flat_map, list_all}
use Rattle.std.proofs.lemmas.Bool.{and_from}
use Rattle.std.proofs.lemmas.List.Elements.{All-weaker}
use Rattle.std.proofs.lemmas.List.Folds.{list_all-append}
use Rattle.std.proofs.lemmas.List.Sums.{list_all-from_AllPass}
use Rattle.sa_base.specs.declared.record.Item.{Item}
use Rattle.sa_text.proofs.Spelling.{decimal-is_spelling}
use Rattle.sa_trace.specs.declared.field.Field.{Field}
use Rattle.sa_trace.specs.declared.kind.Kind.{Kind}
use Rattle.sa_trace.specs.Field.{range_of, AllFit}
use Rattle.sa_trace.specs.Kind.{form_of}
use Rattle.sa_trace.specs.Parts.{parts_of}
use Rattle.sa_trace.specs.Text.{FitsItem}
use Rattle.sa_trace.specs.TraceText.{field, record_text, item_text}
use Rattle.sa_trace.proofs.Readings.{greatest-small}

pub all-append : (p : ℕ → Bool) (xs ys : List ℕ) → list_all p xs ≡ true → list_all p ys ≡ true → list_all p (xs ++ ys) ≡ true
all-append p xs ys a b = list_all-append p xs ys ∙ and_from (list_all p xs) (list_all p ys) a b

pub all-decimal : (p : ℕ → Bool) → ((b : ℕ) → 48 ≤ b → b ≤ 57 → p b ≡ true) → (n : ℕ) → n < 2 ^ 64 → list_all p (decimal n) ≡ true
all-decimal p digit n small =
    list_all-from_AllPass p (decimal n)
    (All-weaker (λ b. (48 ≤ b) × (b ≤ 57)) (λ b. p b ≡ true) (λ b d. digit b d.0 d.1) (decimal n) (decimal-is_spelling n small).digits)

module _ (p : ℕ → Bool) (digit : (b : ℕ) → 48 ≤ b → b ≤ 57 → p b ≡ true) (space : list_all p (codes " ") ≡ true) (dash : list_all p (codes " -") ≡ true)
    (word : (k : Kind) → list_all p (form_of k).word ≡ true) where
  all-number : (n : ℕ) → n < 2 ^ 64 → list_all p (field (Some n)) ≡ true
  all-number n small = all-append p (codes " ") (decimal n) space (all-decimal p digit n small)

  all-fields : (fields : List Field) (vs : List (Option ℕ)) → AllFit fields vs → list_all p (flat_map field vs) ≡ true
  all-fields [] [] h = refl
  all-fields [] (v ∷ vs) h = absurd h
  all-fields (f ∷ fields) [] h = absurd h
  all-fields (f ∷ fields) (None ∷ vs) h = all-append p (codes " -") (flat_map field vs) dash (all-fields fields vs h.1)
  all-fields (f ∷ fields) (Some n ∷ vs) h =
      let fits : n ≤ (range_of f).greatest = h.0 in
      all-append p (field (Some n)) (flat_map field vs) (all-number n (omega (arith, greatest-small f))) (all-fields fields vs h.1)

  pub all-record : (i : Item) → FitsItem i → list_all p (record_text i.what) ≡ true
  all-record i fits =
      let parts = parts_of i.what in
      all-append p (form_of parts.kind).word (flat_map field parts.fields) (word parts.kind)
      (all-fields (form_of parts.kind).fields parts.fields fits.what)

  pub all-item : (i : Item) → FitsItem i → list_all p (item_text i) ≡ true
  all-item i fits =
      let head : List ℕ = decimal i.event ++ field (Some i.proc.0) in
      let proc = fits.proc in
      let one = all-append p (decimal i.event) (field (Some i.proc.0)) (all-decimal p digit i.event fits.event) (all-number i.proc.0 (omega (arith, proc))) in
      all-append p (head ++ codes " ") (record_text i.what) (all-append p head (codes " ") one space) (all-record i fits)
