-- The one list beside the history: it has a thread exactly where some thread is ready in the history's.
use Rattle.std.proofs.Common.{◌≡◌, ◌≢◌, ℕ, zero, suc, ◌+◌, nat_lt, false, ◌||◌, List, [], ◌∷◌, length, map, Contains, refl, sym, ap, ◌∙◌, inl, inr, arith}
use Rattle.std.proofs.lemmas.Bool.{cases_eq, eq-eqb, ne_eqb, lt-ltb}
use Rattle.std.proofs.lemmas.List.{get_or_past, length-map}
use Rattle.std.specs.List.{list_any}
use Rattle.sa_base.specs.declared.number.ProcNo.{ProcNo}
use Rattle.sa_lists.proofs.Changes.{length-inserted}
use Rattle.sa_lists.specs.ReadyView.{inserted, list_of}
use Rattle.sa_package_model.specs.declared.package.Package.{Package}
use Rattle.sa_laws.specs.Readings.{Listed, is_in}
use Rattle.sa_fast_laws.specs.FastFits.{number_in}
use Rattle.sa_prio_laws.specs.ByRank.{by_rank_from}
use Rattle.sa_prio_laws.specs.Ready.{FitsRanked}

length-by_rank : (ranks xs ns : List ℕ) → length (by_rank_from ranks xs ns) ≡ length xs + length ns
length-by_rank ranks xs [] = omega arith
length-by_rank ranks xs (n ∷ newer) = let rest = length-by_rank ranks (inserted ranks n xs) newer in let one = length-inserted ranks n xs in omega arith

-- whoever is there is in list 0
abbrev AreInOne : List Listed → Type 0
AreInOne listed = (x : Listed) → Contains listed x → x.list.0 ≡ 0

behind-first : (x : Listed) (xs : List Listed) → AreInOne (x ∷ xs) → AreInOne xs
behind-first x xs there y has = there y (let inside = has.1 in (suc has.0, omega arith, has.2))

some-in : (l : ProcNo) → l.0 ≡ 0 → (xs : List Listed) → AreInOne xs → list_any (is_in l) xs ≡ nat_lt 0 (length xs)
some-in l first [] there = refl
some-in l first (x ∷ xs) there =
    ap (λ b. b || list_any (is_in l) xs) (eq-eqb x.list.0 l.0 (there x (zero, omega arith, refl) ∙ sym first)) ∙ sym (lt-ltb 0 (length (x ∷ xs)) (omega arith))

none-in : (l : ProcNo) → l.0 ≢ 0 → (xs : List Listed) → AreInOne xs → list_any (is_in l) xs ≡ false
none-in l other [] there = refl
none-in l other (x ∷ xs) there =
    ap (λ b. b || list_any (is_in l) xs) (ne_eqb x.list.0 l.0 (λ same. other (sym same ∙ there x (zero, omega arith, refl))))
    ∙ none-in l other xs (behind-first x xs there)

pub ranked-alike : (u : Package) (listed : List Listed) → FitsRanked u listed → (l : ProcNo)
    → list_any (is_in l) listed ≡ nat_lt 0 (length (list_of u.shared.state.lists l.0))
ranked-alike u listed f l = elim (cases_eq l.0 0) [
  | inl first ↦
      let many : length (list_of u.shared.state.lists 0) ≡ length listed =
      ap length f.order
      ∙ (let all = length-by_rank u.shared.state.lists.ranks [] (map number_in listed) in let each = length-map listed number_in in omega arith) in
      some-in l first listed f.there ∙ ap (nat_lt 0) (sym many) ∙ ap (λ k. nat_lt 0 (length (list_of u.shared.state.lists k))) (sym first)
  | inr other ↦
      none-in l other listed f.there
      ∙ ap (λ (ys : List ℕ). nat_lt 0 (length ys)) (sym (get_or_past u.shared.state.lists.lists l.0 [] (let one = f.one in omega arith)))
]
