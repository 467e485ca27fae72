-- Of a space at the end of an event: a life of it is in, or something is untold to it, or no pair of it exists.
use Rattle.std.proofs.Common.{◌≡◌, ◌≢◌, ℕ, ◌⊎◌, inl, inr, refl, sym, ◌∙◌, ap, subst, arith, Some, None, List, true, false}
use Rattle.std.specs.Prelude.{Option, Bool, ◌&&◌, ◌||◌, get_or}
use Rattle.std.proofs.lemmas.Bool.{cases_eq}
use Rattle.sa_base.specs.declared.number.SpaceNo.{SpaceNo}
use Rattle.sa_base.specs.declared.number.ProcNo.{ProcNo}
use Rattle.sa_base.specs.declared.number.ActNo.{ActNo}
use Rattle.sa_base.specs.declared.record.Record.{Record}
use Rattle.sa_spaces.specs.Workload.{WorkloadView}
use Rattle.sa_laws.specs.Event.{Event}
use Rattle.sa_laws.specs.Life.{Life}
use Rattle.sa_laws.specs.Readings.{Readings, running_of, owner_of, line_of}
use Rattle.sa_laws.specs.History.{is_inside, event_begun, with_step, with_up}
use Rattle.sa_promises.proofs.lives.Standing.{Standing, kind}
use Rattle.sa_promises.proofs.covers.Fine.{IsFine, IsTested, IsStepOf, still-fine}
use Rattle.sa_ranks.specs.Inside.{is_inside_or_urged, settling}
use Rattle.sa_ranks.specs.Pairs.{has_pair}
use Rattle.sa_promises.proofs.ranked.Places.{IsPlaced, NoPair, no-pair}
use Rattle.sa_promises.proofs.ranked.Moving.{Held}
use Rattle.std.proofs.lemmas.List.{get_or-set_other}
use Rattle.sa_laws.specs.declared.place.Place.TheVariants as place

-- a number counts that is not of a life which was taken
abbrev pub Free : (ℕ → Standing) → ℕ → Type 0
Free st a = kind (st a) ≢ 5

abbrev pub Fine : Readings → (ℕ → Standing) → (ℕ → Option Life) → SpaceNo → Type 0
Fine r st lives s = IsFine (Free st) (NoPair r s) r lives s

-- where pairs are looked for in an event, those that exist at its end are found
pub record Settles (w : WorkloadView) (r : Readings) (e : Event) (c : Readings) (s : SpaceNo) : Type 0 where
  pub placed : IsPlaced w (settling w r e c).state
  pub late : NoPair (settling w r e c) s → NoPair c s

or-right : (a b : Bool) → b ≡ true → (a || (true && b)) ≡ true
or-right true b is = refl
or-right false b is = is

pub urged : (w : WorkloadView) (r : Readings) (e : Event) (c : Readings) (s : SpaceNo) → Settles w r e c s → IsTested is_inside_or_urged w r e c s (NoPair c s)
urged w r e c s settles_it life of = one (has_pair w (settling w r e c) life.space) refl where
  one : (b : Bool) → has_pair w (settling w r e c) life.space ≡ b → (is_inside_or_urged w r e c true life ≡ true) ⊎ NoPair c s
  one true is = inl (or-right (is_inside w r e c true life) (has_pair w (settling w r e c) life.space) is)
  one false is = inr (settles_it.late (no-pair w (settling w r e c) s settles_it.placed (subst (λ k. has_pair w (settling w r e c) k ≡ false) of is)))

-- the line of the event's processor is low before it, or the space does not own it
abbrev pub Lowly : Readings → ProcNo → SpaceNo → Type 0
Lowly r p s = (line_of r p ≡ None) ⊎ (owner_of r p ≢ Some s)

begun-low : (w : WorkloadView) (r : Readings) (e : Event) (q : ProcNo) → q.0 ≢ e.proc.0 → line_of (event_begun w e r) q ≡ None → line_of r q ≡ None
begun-low w r e q apart is = sym (get_or-set_other r.lines e.proc.0 q.0 None None apart) ∙ is

pub held-none : (w : WorkloadView) (r : Readings) (e : Event) (c : Readings) (s : SpaceNo) (st now : ℕ → Standing) → IsPlaced w r.state
    → Held s st now (event_begun w e r) c → Lowly r e.proc s → NoPair r s → NoPair c s
held-none w r e c s st now placed held lowly none t u p ready runs low =
    let was_ready = held.fades t.0 place.Ready refl ready in
    let did_run = held.fades u.0 (place.Running p) refl runs in
    let low_then = held.low p low in
    let line : line_of r p ≡ None = elim (cases_eq p.0 e.proc.0) [
      | inl at ↦ elim lowly [
        | inl down ↦ ap (λ n. get_or r.lines n None) at ∙ down
        | inr other ↦ absurd (other (ap (λ n. owner_of r (record { 0 = n })) (sym at) ∙ (placed.owned s u p did_run.0).0))
      ]
      | inr apart ↦ begun-low w r e p apart low_then
    ] in
    let before = none t u p was_ready.0 did_run.0 line in
    let one = was_ready.1 in
    let two = did_run.1 in
    omega (arith, before, one, two)

pub keep-fine : (w : WorkloadView) (r : Readings) (e : Event) (c : Readings) (s : SpaceNo) (st now : ℕ → Standing) (xs : List Record) → IsPlaced w r.state
    → Settles w r e c s → Held s st now (event_begun w e r) c → Lowly r e.proc s
    → Fine r st r.lives s
    → ((a : ℕ) (life : Life) (b : ActNo) → r.lives a ≡ Some life → life.space ≡ s → life.inside ≡ true → running_of r e.proc ≡ Some b → IsStepOf xs → a ≢ b.0)
    → Fine c now (with_up is_inside_or_urged w r e c (with_step is_inside_or_urged w r e c xs c.lives)) s
keep-fine w r e c s st now xs placed here held lowly (inl (a, life, is, of, inside, free)) spared =
    let new = held.lives a life is of free in
    still-fine is_inside_or_urged w r e c s (Free now) (NoPair c s) xs c.lives (urged w r e c s here) (a, new.0, new.1, new.2, new.3 ∙ inside, new.4)
    (λ b runs step. spared a life b is of inside runs step)
keep-fine w r e c s st now xs placed here held lowly (inr (inl untold)) spared = inr (inl (untold.0, untold.1, held.noted untold.0 untold.1 untold.2))
keep-fine w r e c s st now xs placed here held lowly (inr (inr none)) spared = inr (inr (held-none w r e c s st now placed held lowly none))
