-- Whether an eviction is to come, the last one says.
use Rattle.std.proofs.Common.{◌≡◌, ℕ, ◌-◌, ◌<◌, ◌≤◌, Bool, true, false, nat_lt, List, [], ◌∷◌, length, get_or, Some, None, slice_get, refl, sym, ap, ◌∙◌, arith}
use Rattle.std.proofs.lemmas.Bool.{le-ltb, ltb-false}
use Rattle.std.proofs.lemmas.Option.{slice_get_within, slice_get-get_or, get_or_from_slice_get, none-some}
use Rattle.std.proofs.lemmas.List.Folds.{list_any_at, list_any_none}
use Rattle.std.specs.List.{AllAdjacentBelow}
use Rattle.sa_spaces.specs.declared.workload.Evict.{Evict}
use Rattle.sa_spaces.specs.Workload.{IsBefore}
use Rattle.sa_devices.proofs.SoundLemmas.{events-in_order}
use Rattle.sa_outlook.specs.Outlook.{is_to_come}

module _ (e : ℕ) (es : List Evict) (rise : AllAdjacentBelow IsBefore es (length es)) where
  pub to-come-last : (last : Evict) → slice_get es (length es - 1) ≡ Some last → is_to_come e es ≡ nat_lt e last.event
  to-come-last last at = go (nat_lt e last.event) refl
    where
      low : length es - 1 < length es
      low = slice_get_within es (length es - 1) last at

      is_last : (d : Evict) → get_or es (length es - 1) d ≡ last
      is_last d = get_or_from_slice_get es (length es - 1) last d at

      go : (b : Bool) → nat_lt e last.event ≡ b → is_to_come e es ≡ b
      go true is =
          list_any_at (λ (x : Evict). nat_lt e x.event) es (length es - 1) last low (ap (λ (x : Evict). nat_lt e x.event) (is_last last) ∙ is)
      go false is = list_any_none (λ (x : Evict). nat_lt e x.event) es (λ k d below.
          let most : (get_or es k d).event ≤ (get_or es (length es - 1) d).event = events-in_order es rise k (length es - 1) d (omega arith) low in
          let same : (get_or es (length es - 1) d).event ≡ last.event = ap (λ (x : Evict). x.event) (is_last d) in
          let past : last.event ≤ e = ltb-false e last.event is in
          le-ltb e (get_or es k d).event (omega arith))

pub to-come-none : (e : ℕ) (es : List Evict) → slice_get es (length es - 1) ≡ None → is_to_come e es ≡ nat_lt e 0
to-come-none e [] at = sym (le-ltb e 0 (omega arith))
to-come-none e (x ∷ xs) at =
    let low : length (x ∷ xs) - 1 < length (x ∷ xs) = omega arith in
    absurd (none-some (get_or (x ∷ xs) (length (x ∷ xs) - 1) x) (sym at ∙ slice_get-get_or (x ∷ xs) (length (x ∷ xs) - 1) x low))
