-- Who is woken waited before, and is in no work list.
use Rattle.std.proofs.Common.{◌≡◌, ℕ, ◌+◌, ◌<◌, cond, List, [], ◌∷◌, length, drop, Some, refl, sym, ap, ◌∙◌, inl, inr, arith}
use Rattle.std.proofs.lemmas.Bool.{cases_eq, eq-eqb}
use Rattle.std.proofs.lemmas.List.{get_or-set_same}
use Rattle.sa_base.specs.declared.number.ThreadNo.{ThreadNo}
use Rattle.sa_base.specs.declared.limits.TheConstants.{MAX_THREADS}
use Rattle.sa_links.specs.Lists.{count_in}
use Rattle.sa_links.proofs.Counting.{count_same, count_other}
use Rattle.sa_lemmas.proofs.ListReads.{first-rest}
use Rattle.sa_sync.specs.declared.answer.SyncAnswer.{SyncAnswer}
use Rattle.sa_sync.specs.declared.answer.SyncAnswer.TheVariants.{Wakes}
use Rattle.sa_sync.specs.Sync.{Sync, joiners_at, waits_of, Waits, WaitsOnce}
use Rattle.sa_sync.specs.Calls.{Change, first_joiner, without_joiner}
use Rattle.sa_sync.specs.Laws.{TellsWhoWaits, woken, joining}
use Rattle.sa_sync.proofs.LawLemmas.{waits-joiners}
use Rattle.sa_fast.specs.Work.{IsUnlisted}

-- a call that wakes a thread found it waiting
pub woken_waits : (s : Sync) (t : ℕ) (change : Change) (u : ThreadNo) → TellsWhoWaits s t change → change.answer ≡ Wakes u → Waits s u.0
woken_waits s t change u tells is =
    let told = tells u.0 in
    let one : woken change.answer u.0 ≡ 1 = ap (λ a. woken a u.0) is ∙ ap (λ b. cond b 1 0) (eq-eqb u.0 u.0 refl) in
    let none : joining change.answer t u.0 ≡ 0 = ap (λ a. joining a t u.0) is in
    omega arith

-- so it is one of the threads, and is in no work list
pub woken_free : (s : Sync) (works : List (List ℕ)) (t : ℕ) (change : Change) (answer : SyncAnswer) → WaitsOnce s → TellsWhoWaits s t change
    → ((u : ℕ) → Waits s u → IsUnlisted works u) → answer ≡ change.answer
    → (u : ThreadNo) → answer ≡ Wakes u → (u.0 < MAX_THREADS) × IsUnlisted works u.0
woken_free s works t change answer once tells waiting is u wakes =
    let waits = woken_waits s t change u tells (sym is ∙ wakes) in (once.threads u.0 waits, waiting u.0 waits)

module _ (s : Sync) (t u : ℕ) (inside : t < length s.joiners) (first : first_joiner s t ≡ Some u) where
  pub queue : joiners_at s t ≡ u ∷ drop 1 (joiners_at s t)
  queue = first-rest (joiners_at s t) u first

  -- the first that joins a thread waits, and no more once it is taken; the others wait on
  pub waits_less : (v : ℕ) → waits_of (without_joiner s t) v + count_in v (u ∷ []) ≡ waits_of s v
  waits_less v =
      let change = waits-joiners s t (drop 1 (joiners_at s t)) v inside in
      let q : count_in v (joiners_at s t) ≡ count_in v (u ∷ drop 1 (joiners_at s t)) = ap (count_in v) queue in
      elim (cases_eq u v) [
        | inl same ↦ let one = count_same v u (drop 1 (joiners_at s t)) same in let alone = count_same v u [] same in omega arith
        | inr other ↦ let none = count_other v u (drop 1 (joiners_at s t)) other in let alone = count_other v u [] other in omega arith
      ]

  pub first_waits : Waits s u
  first_waits = let less = waits_less u in let one = count_same u u [] refl in omega arith

  pub still_waits : WaitsOnce s → (v : ℕ) → Waits (without_joiner s t) v → Waits s v × (count_in v (u ∷ []) ≡ 0)
  still_waits once v waits = let less = waits_less v in let most = once.once v in (omega arith, omega arith)

  pub rest_joins : joiners_at (without_joiner s t) t ≡ drop 1 (joiners_at s t)
  rest_joins = get_or-set_same s.joiners t (drop 1 (joiners_at s t)) [] inside
