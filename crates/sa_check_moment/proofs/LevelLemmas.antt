-- What is kept for a user level's rules, before any record and after one.
use Rattle.std.proofs.Common.{◌≡◌, ◌⊎◌, ℕ, ◌<◌, ◌≤◌, refl, sym, ◌∙◌, ap, subst, inl, inr, arith, true, false, List, [], length, replicate, Some, None}
use Rattle.std.specs.Prelude.{Option, ◌==◌, ◌&&◌, ◌||◌, nat_lt, slice_index_or}
use Rattle.std.specs.Option.{option_and_then, option_map}
use Rattle.std.proofs.lemmas.Bool.{cases_lt}
use Rattle.std.proofs.lemmas.Bool.Decides.{nat_tests}
use Rattle.std.proofs.lemmas.Option.{same_Some}
use Rattle.sa_base.specs.declared.number.SpaceNo.{SpaceNo}
use Rattle.sa_base.specs.declared.number.ThreadNo.{ThreadNo}
use Rattle.sa_base.specs.declared.number.ProcNo.{ProcNo}
use Rattle.sa_base.specs.declared.record.Record.{Record}
use Rattle.sa_spaces.specs.Workload.{WorkloadView}
use Rattle.sa_laws.specs.State.{State, space_at, runner_on}
use Rattle.sa_laws.specs.Life.{Life}
use Rattle.sa_laws.specs.Readings.{Readings, Listed, opening_readings}
use Rattle.sa_laws.specs.Record.{after_record}
use Rattle.sa_laws.specs.Step.{Needs}
use Rattle.sa_ranks.specs.Pairs.{is_outranked, outranked_by, outranked_on, has_pair, IsLowest}
use Rattle.sa_check_moment.specs.Ranked.{row_at, row_stack, opening_row, newest, is_below, IsBest}
use Rattle.sa_check_moment.specs.Ranking.{IsRanked, AreRanked}
use Rattle.sa_check_moment.proofs.Histories.{opening-ranked, ranked-behind}
use Rattle.sa_check_moment.proofs.Best.{best-row, next-row, no-next}
use Rattle.sa_base.specs.declared.package.RulesName.TheVariants as rules
use Rattle.sa_check_moment.specs.declared.level.Level.{Level}
use Rattle.sa_check_moment.specs.declared.level.Level.TheVariants.{FastThreads, Any, Priorities}
use Rattle.sa_check_moment.specs.Level.{rules_in, IsKeptFor, ReadsLevel, IsNext, next_of}
use Rattle.sa_check_moment.specs.Urged.{is_lower, urged_by}

pub reads-rules : (a : State) (x : Record) (old new : Level) → ReadsLevel a x old new → rules_in new ≡ rules_in old
reads-rules a x FastThreads new is = ap rules_in is
reads-rules a x Any new is = ap rules_in is
reads-rules a x (Priorities old) (Priorities new) is = refl
reads-rules a x (Priorities old) FastThreads is = absurd is
reads-rules a x (Priorities old) Any is = absurd is

-- before any record
pub kept-opened : (w : WorkloadView) (spaces : ℕ) (v : List (List (List ThreadNo))) → length w.spaces ≡ spaces → v ≡ replicate spaces opening_row
    → AreRanked (opening_readings w).state (opening_readings w).ready v
kept-opened w spaces v count is =
    let same : v ≡ replicate (length w.spaces) opening_row = is ∙ ap (λ n. replicate n opening_row) (sym count) in
    let opened = opening-ranked w in
    subst (λ (x : List (List (List ThreadNo))). AreRanked (opening_readings w).state (opening_readings w).ready x) (sym same)
    (record { listed = opened.listed; rows = opened.rows; each = opened.each })

pub kept-behind : (w : WorkloadView) (e : ℕ) (p : ProcNo) (r : Readings) (x : Record) (old new : Level) → Needs w p r x → ReadsLevel r.state x old new
    → IsKeptFor old r.state r.ready → IsKeptFor new (after_record w e p r x).state (after_record w e p r x).ready
kept-behind w e p r x FastThreads new needs is kept =
    subst (λ (level : Level). IsKeptFor level (after_record w e p r x).state (after_record w e p r x).ready) (sym is) tt
kept-behind w e p r x Any new needs is kept =
    subst (λ (level : Level). IsKeptFor level (after_record w e p r x).state (after_record w e p r x).ready) (sym is) tt
kept-behind w e p r x (Priorities old) (Priorities new) needs is kept = ranked-behind w e p r x old new needs is kept
kept-behind w e p r x (Priorities old) FastThreads needs is kept = absurd is
kept-behind w e p r x (Priorities old) Any needs is kept = absurd is

-- what the best ready thread tells
pub best-of : (level : Level) (a : State) (ready : List (List Listed)) (v : List (List (List ThreadNo))) (s : SpaceNo) (o : Option ℕ) → level ≡ Priorities v
    → IsKeptFor level a ready → IsBest (row_at v s) o → (rank : ℕ) → is_outranked (space_at a s) rank ≡ is_below rank o
best-of level a ready v s o is kept best rank =
    let ranked : AreRanked a ready v = subst (λ (l : Level). IsKeptFor l a ready) is kept in
    best-row (space_at a s) (slice_index_or ready s.0 []) (row_at v s) (ranked.each s) o best rank

pub next-is : (level : Level) (a : State) (ready : List (List Listed)) (v : List (List (List ThreadNo))) (s : SpaceNo) (t : Option ThreadNo) → level ≡ Priorities v
    → IsKeptFor level a ready → IsNext (row_at v s) t → t ≡ next_of (space_at a s) (slice_index_or ready s.0 [])
next-is level a ready v s t is kept next =
    let ranked : AreRanked a ready v = subst (λ (l : Level). IsKeptFor l a ready) is kept in
    next.2 ∙ by next.0 next.1 (ranked.each s)
  where
    by : (o : Option ℕ) → IsBest (row_at v s) o → IsRanked (space_at a s) (slice_index_or ready s.0 []) (row_at v s)
        → option_and_then (λ rank. newest (row_stack (row_at v s) rank)) o ≡ next_of (space_at a s) (slice_index_or ready s.0 [])
    by None none ranked = sym (no-next (space_at a s) (slice_index_or ready s.0 []) (row_at v s) ranked none)
    by (Some rank) best ranked = sym (next-row (space_at a s) (slice_index_or ready s.0 []) (row_at v s) ranked rank best)

pub not-fast : (level : Level) → level ≡ FastThreads → rules_in level ≡ rules.Priorities → ⊥
not-fast level is ranks = let clash : rules.FastThreads ≡ rules.Priorities = sym (ap rules_in is) ∙ ranks in cc

pub not-any : (level : Level) → level ≡ Any → rules_in level ≡ rules.Priorities → ⊥
not-any level is ranks = let clash : rules.Any ≡ rules.Priorities = sym (ap rules_in is) ∙ ranks in cc

-- a pair of the space of a life that is in use
pub urged-none : (w : WorkloadView) (r : Readings) (o : Option Life) → None ≡ option_map (λ (x : Life). x.space) o → false ≡ urged_by rules.Priorities w r o
urged-none w r None is = refl
urged-none w r (Some life) is = absurd cc

pub urged-some : (w : WorkloadView) (r : Readings) (o : Option Life) (s : SpaceNo) → Some s ≡ option_map (λ (x : Life). x.space) o
    → has_pair w r s ≡ urged_by rules.Priorities w r o
urged-some w r None s is = absurd cc
urged-some w r (Some life) s is = ap (has_pair w r) (same_Some s life.space is)

-- of the threads in pairs one is the lowest, where none is lower
lower-is : (n rank k q : ℕ) → (nat_lt n rank || (n == rank && nat_lt k q)) ≡ true → (n < rank) ⊎ ((n ≡ rank) × (k < q))
lower-is n rank k q is = grind (arith, nat_tests)

not-lower : (n rank k q : ℕ) → (nat_lt n rank || (n == rank && nat_lt k q)) ≡ false → (rank ≤ n) × (k < q → rank < n)
not-lower n rank k q is = (grind (arith, nat_tests), λ less. grind (arith, nat_tests))

pub is-lowest : (r : Readings) (s : SpaceNo) (q : ProcNo) (rank count : ℕ) → outranked_on r s q ≡ Some rank
    → ((k : ℕ) → k < count → is_lower (outranked_on r s (record { 0 = k })) (record { 0 = k }) q rank ≡ false)
    → ((p : ProcNo) → count ≤ p.0 → runner_on r.state p ≡ None) → IsLowest r s q
is-lowest r s q rank count pair none beyond = record {
  rank = rank;
  pair = pair;
  lowest = λ other n has. (not-lower n rank other.0 q.0 (above other n has)).0;
  first = λ other n less has. (not-lower n rank other.0 q.0 (above other n has)).1 less;
}
  where
    above : (other : ProcNo) (n : ℕ) → outranked_on r s other ≡ Some n → (nat_lt n rank || (n == rank && nat_lt other.0 q.0)) ≡ false
    above other n has = elim (cases_lt other.0 count) [
      | inl within ↦ sym (ap (λ (o : Option ℕ). is_lower o other q rank) has) ∙ none other.0 within
      | inr past ↦
          absurd (let clash : None ≡ Some n = sym (ap (outranked_by r s other) (beyond other past)) ∙ has in cc)
    ]

pub not-lowest : (r : Readings) (s : SpaceNo) (q other : ProcNo) (rank : ℕ) → outranked_on r s q ≡ Some rank
    → is_lower (outranked_on r s other) other q rank ≡ true → IsLowest r s q → ⊥
not-lowest r s q other rank pair lower is = by (outranked_on r s other) refl lower where
  same : is.rank ≡ rank
  same = same_Some is.rank rank (sym is.pair ∙ pair)

  by : (o : Option ℕ) → outranked_on r s other ≡ o → is_lower o other q rank ≡ true → ⊥
  by None has low = cc
  by (Some n) has low = elim (lower-is n rank other.0 q.0 low) [
    | inl less ↦ let most = is.lowest other n has in omega (arith, same, most, less)
    | inr both ↦ let most = is.first other n both.1 has in omega (arith, same, most, both.0)
  ]
