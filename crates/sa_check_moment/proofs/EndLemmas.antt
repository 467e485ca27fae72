-- A moment at which nothing can happen any more.
use Rattle.std.proofs.Common.{◌≡◌, ◌≢◌, ◌↔◌, ℕ, suc, Bool, true, false, not, List, [], ◌∷◌, Option, None, is_none, get_or, length, inl, inr, sym, ap, ◌∙◌, refl}
use Rattle.std.proofs.lemmas.Bool.{cases_lt, and_from}
use Rattle.std.proofs.lemmas.List.{get_or_past}
use Rattle.std.specs.Prelude.{IsTrue}
use Rattle.std.specs.List.{list_all}
use Rattle.std.proofs.lemmas.List.Sums.{AllPass-from_list_all}
use Rattle.sa_base.specs.declared.number.ProcNo.{ProcNo}
use Rattle.sa_lemmas.proofs.Options.{none-is}
use Rattle.sa_laws.specs.Life.{Life}
use Rattle.sa_laws.specs.Readings.{Readings, line_of}
use Rattle.sa_laws.specs.Ends.{IsAllDone, IsStuck, are_at_rest}
use Rattle.sa_check_lives.specs.Table.{SomeIsIn}

pub empty : {A : Type 0} (xs : List A) → (xs ≢ [] → ⊥) → xs ≡ []
empty [] none = refl
empty (x ∷ xs) none = absurd (none (λ is. cc))

all_none : (xs : List (Option ℕ)) → ((i : ℕ) → get_or xs i None ≡ None) → list_all is_none xs ≡ true
all_none [] low = refl
all_none (x ∷ xs) low = and_from (is_none x) (list_all is_none xs) (ap is_none (low 0)) (all_none xs (λ i. low (suc i)))

low : (r : Readings) → list_all is_none r.lines ≡ true → (p : ProcNo) → line_of r p ≡ None
low r all p = elim (cases_lt p.0 (length r.lines)) [
  | inl within ↦ none-is (get_or r.lines p.0 None) (AllPass-from_list_all is_none r.lines all p.0 None within)
  | inr past ↦ get_or_past r.lines p.0 None past
]

out : (life : Life) → (life.inside ≡ true → ⊥) → (b : Bool) → life.inside ≡ b → life.inside ≡ false
out life not_in true is = absurd (not_in is)
out life not_in false is = is

pub stuck-from : (r : Readings) → (IsAllDone r → ⊥) → list_all are_at_rest r.state.spaces ≡ true → r.under_way ≡ [] → list_all is_none r.lines ≡ true
    → (SomeIsIn r.lives → ⊥) → IsStuck r
stuck-from r some rest ios all none = record {
  some = some;
  rest = rest;
  ios = ios;
  lines = low r all;
  inside = λ a life is. out life (λ inside. none (record { act = a.0; life = life; is = is; inside = inside })) life.inside refl;
}

pub not_in : (r : Readings) → IsStuck r → SomeIsIn r.lives → ⊥
not_in r stuck some =
    let out = stuck.inside (record { 0 = some.act }) some.life some.is in let both : true ≡ false = sym some.inside ∙ out in cc

pub are_low : (r : Readings) → IsStuck r → list_all is_none r.lines ≡ true
are_low r stuck = all_none r.lines (λ i. stuck.lines (record { 0 = i }))

-- a test that something does not hold
pub not-iff : (b : Bool) (P Q : Type 0) → IsTrue b ↔ P → ((P → ⊥) → Q) → (Q → P → ⊥) → IsTrue (not b) ↔ Q
not-iff true P Q iff from to = (λ f. absurd (let bad : false ≡ true = f in cc), λ q. absurd (to q (iff.0 refl)))
not-iff false P Q iff from to = (λ h. from (λ p. let bad : false ≡ true = iff.1 p in cc), λ q. refl)
