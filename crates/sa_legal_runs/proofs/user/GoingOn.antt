-- Where a thread runs, a run goes on.
use Rattle.sa_legal_runs.proofs.matching.Lists.{all-pass}
use Rattle.std.proofs.lemmas.Option.{get_or_from_slice_get}
use Rattle.std.proofs.lemmas.List.{get_or_past}
use Rattle.std.proofs.Common.{◌≡◌, sym, ◌∙◌, ap, refl, Bool, true, false, List, [], ◌∷◌, length, inl, inr}
use Rattle.std.specs.List.{list_all}
use Rattle.std.proofs.lemmas.Bool.{cases_lt}
use Rattle.sa_base.specs.declared.number.ProcNo.{ProcNo}
use Rattle.sa_base.specs.declared.number.SpaceNo.{SpaceNo}
use Rattle.sa_base.specs.declared.number.ThreadNo.{ThreadNo}
use Rattle.sa_spaces.specs.Workload.{WorkloadView}
use Rattle.sa_lemmas.proofs.ListReads.{read-at}
use Rattle.sa_laws.specs.declared.place.Place.{Place}
use Rattle.sa_laws.specs.declared.place.Place.TheVariants.{Running, Done}
use Rattle.sa_laws.specs.Event.{Event}
use Rattle.sa_laws.specs.State.{SpaceState, Thread, space_at, thread_at, thread_in, at_start}
use Rattle.sa_laws.specs.Readings.{Readings}
use Rattle.sa_laws.specs.History.{Test, after_event}
use Rattle.sa_laws.specs.Ends.{GoesOn, is_done, is_at_rest}
use Rattle.sa_legal_runs.proofs.matching.Overviews.{none-there}

-- Where a thread runs, not all threads pass a test that running ones fail.
not-all : (test : Place → Bool) (r : Readings) (p : ProcNo) (s : SpaceNo) (t : ThreadNo) → test (Running p) ≡ false
    → (thread_at r.state s t).place ≡ Running p
    → list_all (λ (x : SpaceState). list_all (λ (thread : Thread). test thread.place) x.threads) r.state.spaces ≡ true → ⊥
not-all test r p s t fails runs all = elim (cases_lt s.0 (length r.state.spaces)) [
  | inl below ↦
      let x = read-at r.state.spaces s.0 below in
      let here = all-pass (λ (x : SpaceState). list_all
      (λ (thread : Thread). test thread.place) x.threads) r.state.spaces s.0 x.0 all x.1 in
      let space : space_at r.state s ≡ x.0 = get_or_from_slice_get r.state.spaces s.0 x.0 _ x.1 in
      let place : (thread_in x.0 t).place ≡ Running p = sym (ap (λ (y : SpaceState). (thread_in y t).place) space) ∙ runs in
      elim (cases_lt t.0 (length x.0.threads)) [
        | inl inside ↦
            let u = read-at x.0.threads t.0 inside in
            let passes = all-pass (λ (thread : Thread). test thread.place) x.0.threads t.0 u.0 here u.1 in
            let thread : thread_in x.0 t ≡ u.0 = get_or_from_slice_get x.0.threads t.0 u.0 _ u.1 in
            absurd (let z : true ≡ false = sym passes ∙ ap (λ (y : Thread). test y.place) (sym thread) ∙ ap test place ∙ fails in cc)
        | inr outside ↦ absurd (let z : Done ≡ Running p = sym
            (ap (λ (y : Thread). y.place) (get_or_past x.0.threads t.0 (at_start 0 Done) outside)) ∙ place in cc)
      ]
  | inr past ↦ absurd (none-there r.state s t p past runs)
]

pub running-goes-on : (r : Readings) (p : ProcNo) (s : SpaceNo) (t : ThreadNo) → (thread_at r.state s t).place ≡ Running p → GoesOn r
running-goes-on r p s t runs = record {
  done = λ all. not-all is_done r p s t refl runs all;
  stuck = λ is. not-all is_at_rest r p s t refl runs is.rest;
}

-- The run goes on after each of these events but the last.
abbrev pub GoOn : Test → WorkloadView → Readings → List Event → Type 0
GoOn test w r [] = Unit {0}
GoOn test w r (e ∷ []) = Unit {0}
GoOn test w r (e ∷ x ∷ es) = GoesOn (after_event test w r e) × GoOn test w (after_event test w r e) (x ∷ es)

pub go-on-cons : (test : Test) (w : WorkloadView) (r : Readings) (e : Event) (es : List Event) → GoesOn (after_event test w r e)
    → GoOn test w (after_event test w r e) es → GoOn test w r (e ∷ es)
go-on-cons test w r e [] goes on = tt
go-on-cons test w r e (x ∷ es) goes on = (goes, on)
