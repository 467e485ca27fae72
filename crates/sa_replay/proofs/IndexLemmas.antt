-- The index of who runs stays right, and tells what a search through all threads finds.
use Rattle.std.proofs.Common.{◌≡◌, ◌≢◌, ℕ, ◌<◌, List, length, get_or, set, Option, Some, None, ◌⊎◌, inl, inr, refl, sym, ap, subst, ◌∙◌, zero-add}
use Rattle.std.proofs.lemmas.Bool.{cases_eq, cases_lt}
use Rattle.std.proofs.lemmas.Option.{same_Some}
use Rattle.std.proofs.lemmas.List.{get_or-set_same, get_or-set_other, get_or_past}
use Rattle.sa_base.specs.declared.number.ProcNo.{ProcNo}
use Rattle.sa_base.specs.declared.number.SpaceNo.{SpaceNo}
use Rattle.sa_base.specs.declared.number.ThreadNo.{ThreadNo}
use Rattle.sa_laws.specs.declared.place.Place.{Place}
use Rattle.sa_laws.specs.declared.place.Place.TheVariants.{Running}
use Rattle.sa_laws.specs.State.{SpaceState, Runner, runner_from, no_threads}
use Rattle.sa_laws.proofs.Searches.{place_of, found-from, passed-from}
use Rattle.sa_replay.specs.Spaces.{place_in}
use Rattle.sa_replay.specs.Index.{Places, IsIndex, runner_at}

abbrev pub runner : SpaceNo → ThreadNo → Runner
runner s t = record { space = s; thread = t }

-- two threads are one, or differ
same_or_other : (s r : SpaceNo) (t u : ThreadNo) → ((r.0 ≡ s.0) × (u.0 ≡ t.0)) ⊎ ((r.0 ≡ s.0) × (u.0 ≡ t.0) → ⊥)
same_or_other s r t u = elim (cases_eq r.0 s.0) [
  | inl space ↦ elim (cases_eq u.0 t.0) [
    | inl thread ↦ inl (space, thread)
    | inr other ↦ inr (λ both. other both.1)
  ]
  | inr other ↦ inr (λ both. other both.0)
]

-- that each other thread runs where it ran
pub record OthersRun (s : SpaceNo) (t : ThreadNo) (old new : Places) : Type 0 where
  pub before : (r : SpaceNo) (u : ThreadNo) (p : ProcNo) → ((r.0 ≡ s.0) × (u.0 ≡ t.0) → ⊥) → new r u ≡ Running p → old r u ≡ Running p
  pub since : (r : SpaceNo) (u : ThreadNo) (p : ProcNo) → ((r.0 ≡ s.0) × (u.0 ≡ t.0) → ⊥) → old r u ≡ Running p → new r u ≡ Running p

-- what is said of a thread is said of the one with its numbers
at_same : (places : Places) (s r : SpaceNo) (t u : ThreadNo) (p : ProcNo) → (r.0 ≡ s.0) × (u.0 ≡ t.0) → places s t ≡ Running p → places r u ≡ Running p
at_same places s r t u p same is =
    let At : ℕ → ℕ → Type 0 = λ n m. places (record { 0 = n }) (record { 0 = m }) ≡ Running p in
    subst (λ n. At n u.0) (sym same.0) (subst (λ m. At s.0 m) (sym same.1) is)

of_same : (places : Places) (s r : SpaceNo) (t u : ThreadNo) (p : ProcNo) → (r.0 ≡ s.0) × (u.0 ≡ t.0) → places r u ≡ Running p → places s t ≡ Running p
of_same places s r t u p same is = at_same places r s u t p (sym same.0, sym same.1) is

-- a thread runs on one processor
abbrev proc_of : Place → ℕ
proc_of (Running p) = p.0
proc_of _ = 0

one_proc : (place : Place) (p q : ProcNo) → place ≡ Running p → place ≡ Running q → p.0 ≡ q.0
one_proc place p q at there = ap proc_of (sym at ∙ there)

-- a runner is that of its numbers
runner_same : (s r : SpaceNo) (t u : ThreadNo) (o : Option Runner) → o ≡ Some (runner s t) → o ≡ Some (runner r u) → (r.0 ≡ s.0) × (u.0 ≡ t.0)
runner_same s r t u o is other =
    let both : runner r u ≡ runner s t = same_Some _ _ (sym other ∙ is) in (ap (λ (x : Runner). x.space.0) both, ap (λ (x : Runner). x.thread.0) both)

same_runner : (s r : SpaceNo) (t u : ThreadNo) → (r.0 ≡ s.0) × (u.0 ≡ t.0) → Some (runner s t) ≡ Some (runner r u)
same_runner s r t u same =
    let Of : ℕ → ℕ → Option Runner = λ n m. Some (runner (record { 0 = n }) (record { 0 = m })) in
    ap (λ n. Of n t.0) (sym same.0) ∙ ap (λ m. Of r.0 m) (sym same.1)

-- a processor with a runner is one of the list
pub runs_within : (runners : List (Option Runner)) (p : ProcNo) (x : Runner) → runner_at runners p ≡ Some x → p.0 < length runners
runs_within runners p x is = elim (cases_lt p.0 (length runners)) [
  | inl within ↦ within
  | inr past ↦ let none : runner_at runners p ≡ None = get_or_past runners p.0 None past in let both : None ≡ Some x = sym none ∙ is in cc
]

module _ (s : SpaceNo) (t : ThreadNo) (old new : Places) (runners : List (Option Runner)) (others : OthersRun s t old new) (index : IsIndex old runners) where
  -- nothing changes in where the thread runs
  pub index-stays : ((p : ProcNo) → new s t ≡ Running p → old s t ≡ Running p) → ((p : ProcNo) → old s t ≡ Running p → new s t ≡ Running p)
      → IsIndex new runners
  index-stays back forth = record {
    listed = λ p r u runs. index.listed p r u (elim (same_or_other s r t u) [
      | inl same ↦ at_same old s r t u p same (back p (of_same new s r t u p same runs))
      | inr other ↦ others.before r u p other runs
    ]);
    there = λ p r u is. let ran = index.there p r u is in elim (same_or_other s r t u) [
      | inl same ↦ at_same new s r t u p same (forth p (of_same old s r t u p same ran))
      | inr other ↦ others.since r u p other ran
    ];
  }

  -- the thread runs no more
  pub index-leaves : (p : ProcNo) → old s t ≡ Running p → ((q : ProcNo) → new s t ≡ Running q → ⊥) → IsIndex new (set runners p.0 None)
  index-leaves p ran rests =
      let here = index.listed p s t ran in
      record {
        listed = λ q r u runs. elim (same_or_other s r t u) [
          | inl same ↦ absurd (rests q (of_same new s r t u q same runs))
          | inr other ↦
              let listed = index.listed q r u (others.before r u q other runs) in
              let apart : q.0 ≢ p.0 = λ e. other (runner_same s r t u (runner_at runners q) (ap (λ n. get_or runners n None) e ∙ here) listed) in
              get_or-set_other runners p.0 q.0 None None apart ∙ listed
        ];
        there = λ q r u is. elim (cases_eq q.0 p.0) [
          | inl e ↦
              let gone : runner_at (set runners p.0 None) p ≡ None = get_or-set_same runners p.0 None None (runs_within runners p (runner s t) here) in
              let both : None ≡ Some (runner r u) = sym gone ∙ ap (λ n. get_or (set runners p.0 None) n None) (sym e) ∙ is in cc
          | inr apart ↦
              let ran' = index.there q r u (sym (get_or-set_other runners p.0 q.0 None None apart) ∙ is) in
              others.since r u q (λ same. apart (one_proc (old s t) q p (of_same old s r t u q same ran') ran)) ran'
        ];
      }

  -- the thread, which ran nowhere, runs on a processor where none ran
  pub index-enters : (p : ProcNo) → p.0 < length runners → runner_at runners p ≡ None → ((q : ProcNo) → old s t ≡ Running q → ⊥) → new s t ≡ Running p
      → IsIndex new (set runners p.0 (Some (runner s t)))
  index-enters p within free rests runs = record {
    listed = λ q r u is. elim (same_or_other s r t u) [
      | inl same ↦
          let e : q.0 ≡ p.0 = one_proc (new s t) q p (of_same new s r t u q same is) runs in
          ap (λ n. get_or (set runners p.0 (Some (runner s t))) n None) e ∙ get_or-set_same runners p.0 (Some (runner s t)) None within
          ∙ same_runner s r t u same
      | inr other ↦
          let listed = index.listed q r u (others.before r u q other is) in
          let apart : q.0 ≢ p.0 = λ e. let both : None ≡ Some (runner r u) = sym free ∙ ap (λ n. get_or runners n None) (sym e) ∙ listed in cc in
          get_or-set_other runners p.0 q.0 (Some (runner s t)) None apart ∙ listed
    ];
    there = λ q r u is. elim (cases_eq q.0 p.0) [
      | inl e ↦
          let here : runner_at (set runners p.0 (Some (runner s t))) q ≡ Some (runner s t) =
          ap (λ n. get_or (set runners p.0 (Some (runner s t))) n None) e ∙ get_or-set_same runners p.0 (Some (runner s t)) None within in
          let same = runner_same s r t u (runner_at (set runners p.0 (Some (runner s t))) q) here is in
          at_same new s r t u q same (runs ∙ ap (λ n. Running (record { 0 = n })) (sym e))
      | inr apart ↦
          let ran = index.there q r u (sym (get_or-set_other runners p.0 q.0 (Some (runner s t)) None apart) ∙ is) in
          others.since r u q (λ same. rests q (of_same old s r t u q same ran)) ran
    ];
  }

-- the index has what the search finds
pub index-finds : (p : ProcNo) (spaces : List SpaceState) (runners : List (Option Runner)) → IsIndex (place_in spaces) runners
    → runner_at runners p ≡ runner_from p 0 spaces
index-finds p spaces runners index =
    elim (runner_from p 0 spaces) as (λ o. o ≡ runner_from p 0 spaces → runner_at runners p ≡ o) [
      | Some x ↦ λ test.
          let found = found-from p 0 spaces x (sym test) in
          index.listed p x.space x.thread (subst (λ n. place_of (get_or spaces n no_threads).threads x.thread.0 ≡ Running p)
          (sym (found.1 ∙ zero-add found.0)) found.2)
      | None ↦ λ test. elim (runner_at runners p) as (λ q. q ≡ runner_at runners p → q ≡ None) [
        | None ↦ λ is. refl
        | Some x ↦ λ is. absurd (passed-from p 0 spaces (sym test) x.space.0 x.thread.0 (index.there p x.space x.thread (sym is)))
      ] refl
    ] refl
