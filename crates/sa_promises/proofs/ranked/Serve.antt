-- Each event keeps it of a space that a life of it is in, or something is untold to it, or no pair of it exists.
use Rattle.std.proofs.Common.{◌≡◌, ◌≢◌, ℕ, ◌<◌, ◌≤◌, ◌⊎◌, inl, inr, refl, sym, ◌∙◌, ap, subst, arith, Some, None, List, [], ◌∷◌, ◌++◌, length, map, true, false}
use Rattle.std.specs.Prelude.{Option, Bool, nat_lt, if◌then◌else◌, Contains}
use Rattle.std.specs.List.{list_any}
use Rattle.std.proofs.lemmas.Bool.{cases_eq, not-false}
use Rattle.std.proofs.lemmas.Option.{none-some, same_Some}
use Rattle.sa_base.specs.declared.number.SpaceNo.{SpaceNo}
use Rattle.sa_base.specs.declared.number.ProcNo.{ProcNo}
use Rattle.sa_base.specs.declared.number.ThreadNo.{ThreadNo}
use Rattle.sa_base.specs.declared.number.ActNo.{ActNo}
use Rattle.sa_base.specs.declared.record.Note.TheVariants as note
use Rattle.sa_base.specs.declared.record.Record.{Record}
use Rattle.sa_base.specs.declared.record.Record.TheVariants.{Ins, Stop, Block, Want, Aim, Line, GiveBack, Idle}
use Rattle.sa_spaces.specs.Workload.{WorkloadView}
use Rattle.sa_laws.specs.Event.{Event}
use Rattle.sa_laws.specs.Life.{Life}
use Rattle.sa_laws.specs.State.{State, space_at, thread_at}
use Rattle.sa_laws.specs.Readings.{Readings, running_of, life_on, owner_of, line_of, untold_of, taken_of, demand_of, space_of_life}
use Rattle.sa_laws.specs.Record.{after_record}
use Rattle.sa_laws.specs.History.{event_begun, behind, after_records, is_step, is_up, settles, with_step, with_up}
use Rattle.sa_laws.specs.Shape.{own_part}
use Rattle.sa_laws.specs.Step.{AreSteps}
use Rattle.sa_laws.specs.Upcalls.{EachRecord, StopsAndGoes}
use Rattle.sa_laws.specs.Turns.{IsClosing}
use Rattle.sa_promises.proofs.lives.Standing.{Standing, Runs, kind, space_in, space_of, standing_after, stays}
use Rattle.sa_promises.specs.Needs.{is_telling}
use Rattle.sa_histories.proofs.Appended.{each-append}
use Rattle.sa_promises.proofs.lives.Moves.{AreCalm, stood}
use Rattle.sa_promises.proofs.lives.Shown.{shows-begun}
use Rattle.sa_promises.proofs.covers.Apart.{apart-begun}
use Rattle.sa_promises.proofs.covers.Forms.{Turning, BlocksFirst, is_quiet, AllQuiet, AllOut, Calm, StepOf, turning-cases, up-runs, quiet-append, closing-calm, closing-quiet, quiet-kind, out-pass}
use Rattle.sa_ranks.specs.Inside.{is_inside_or_urged, has_entry}
use Rattle.sa_ranks.specs.Pairs.{has_pair, rank_in}
use Rattle.sa_promises.proofs.ranked.Places.{IsPlaced, places-step, NoPair, no-pair}
use Rattle.sa_ranks.specs.Steps.{RankedStepBy}
use Rattle.sa_promises.proofs.ranked.Moving.{Known, standings, held-all, known-all, known-step, low-step}
use Rattle.sa_laws.specs.Demand.{is_bound}
use Rattle.sa_laws.specs.declared.place.Place.TheVariants as place
use Rattle.sa_laws.proofs.Records.{records-append}
use Rattle.sa_promises.proofs.read.OwnEvents.{OwnedByLives}
use Rattle.sa_promises.proofs.covers.Passed.{Passing, passing, passing-each, passing-more, Goes}
use Rattle.sa_promises.proofs.covers.Fine.{arise-fine, settle-fine, step-space, note-has, noted-end, blocks-untold}
use Rattle.sa_promises.proofs.covers.Events.{After, GoesThrough, other-life, calm-pass, step-passes}
use Rattle.sa_ranks.specs.Locks.{BeginsUnurged, IsUnurged, IsUnurgedIf}
use Rattle.sa_promises.proofs.ranked.Fine.{Free, Fine, Settles, Lowly, urged, keep-fine, held-none}

abbrev Final : WorkloadView → Readings → Event → List Record → ℕ → Option Life
Final w r e xs = with_up is_inside_or_urged w r e (After w r e xs) (with_step is_inside_or_urged w r e (After w r e xs) xs (After w r e xs).lives)

abbrev pub FineAfter : WorkloadView → (ℕ → Standing) → Readings → Event → List Record → SpaceNo → Type 0
FineAfter w st r e xs s = Fine (After w r e xs) (standings e.proc st xs) (Final w r e xs) s

abbrev PassesAll : WorkloadView → Readings → Event → List Record → SpaceNo → Type 0
PassesAll w r e xs s = EachRecord (Passing s) w e.number e.proc (event_begun w e r) xs

pub begun-known : (w : WorkloadView) (st : ℕ → Standing) (r : Readings) (e : Event) (xs : List Record) → Known w st r [] → Known w st (event_begun w e r) xs
begun-known w st r e xs known = record {
  apart = apart-begun w st r e xs known.apart;
  shows = shows-begun w st e r known.shows;
  placed = known.placed;
}

-- the closing changes no thread, and lowers no line
pub calm-passes : (w : WorkloadView) (e : ℕ) (p : ProcNo) (s : SpaceNo) (r : Readings) (xs : List Record) → AreCalm xs → EachRecord (Passing s) w e p r xs
calm-passes w e p s r [] calm = tt
calm-passes w e p s r (Want u n ∷ xs) calm = (tt, calm-passes w e p s (after_record w e p r (Want u n)) xs calm.1)
calm-passes w e p s r (Aim q u ∷ xs) calm = (tt, calm-passes w e p s (after_record w e p r (Aim q u)) xs calm.1)
calm-passes w e p s r (Line q ∷ xs) calm = (tt, calm-passes w e p s (after_record w e p r (Line q)) xs calm.1)
calm-passes w e p s r (x ∷ xs) calm = absurd (let clash = calm.0 in cc)

abbrev Near : Readings → Readings → Type 0
Near r c = (c.state ≡ r.state) × ((q : ProcNo) → line_of c q ≡ None → line_of r q ≡ None)

calm-near : (w : WorkloadView) (e : ℕ) (p : ProcNo) (r : Readings) (xs : List Record) → AreCalm xs → Near r (after_records w e p r xs)
calm-near w e p r [] calm = (refl, λ q is. is)
calm-near w e p r (Want u n ∷ xs) calm = let more = calm-near w e p (after_record w e p r (Want u n)) xs calm.1 in (more.0, more.1)
calm-near w e p r (Aim q u ∷ xs) calm = let more = calm-near w e p (after_record w e p r (Aim q u)) xs calm.1 in (more.0, more.1)
calm-near w e p r (Line k ∷ xs) calm =
    let more = calm-near w e p (after_record w e p r (Line k)) xs calm.1 in (more.0, λ q is. low-step e r (Line k) q.0 (more.1 q is))
calm-near w e p r (x ∷ xs) calm = absurd (let clash = calm.0 in cc)

near-none : (r c : Readings) (s : SpaceNo) → Near r c → NoPair r s → NoPair c s
near-none r c s near none =
    subst
    (λ (a : State). (t u : ThreadNo) (p : ProcNo) → (thread_at a s t).place ≡ place.Ready → (thread_at a s u).place ≡ place.Running p → line_of c p ≡ None
    → rank_in (space_at a s) t ≤ rank_in (space_at a s) u)
    (sym near.0) (λ t u p ready runs low. none t u p ready runs (near.1 p low))

passing-append : (w : WorkloadView) (e : ℕ) (p : ProcNo) (s : SpaceNo) (r : Readings) (xs cs : List Record) → EachRecord (Passing s) w e p r xs → AreCalm cs
    → EachRecord (Passing s) w e p r (xs ++ cs)
passing-append w e p s r xs cs one calm =
    each-append (Passing s) w e p r xs cs (λ x rest k is. passing-more s k x rest cs is) one (calm-passes w e p s (after_records w e p r xs) cs calm)

places-prefix : (w : WorkloadView) (e : ℕ) (p : ProcNo) (r : Readings) (xs cs : List Record) → p.0 < w.processors → AreSteps w e p r (xs ++ cs)
    → IsPlaced w r.state → IsPlaced w (after_records w e p r xs).state
places-prefix w e p r [] cs within steps is = is
places-prefix w e p r (x ∷ xs) cs within steps is = places-prefix w e p (after_record w e p r x) xs cs within steps.1 (places-step w p r x within steps.0 is)

settles-if : (w : WorkloadView) (s : SpaceNo) (b : Bool) (c m : Readings) → IsPlaced w c.state → IsPlaced w m.state → (NoPair m s → NoPair c s)
    → IsPlaced w (if b then c else m).state × (NoPair (if b then c else m) s → NoPair c s)
settles-if w s true c m one two late = (one, λ none. none)
settles-if w s false c m one two late = (two, late)

-- quiet records leave a running life where it runs
quiet-stays : (w : WorkloadView) (e : ℕ) (p : ProcNo) (st : ℕ → Standing) (r : Readings) (s : SpaceNo) (a : ActNo) (xs : List Record) → p.0 < w.processors
    → Known w st r xs → Goes w e p r xs → AllQuiet xs
    → st a.0 ≡ Runs s p → standings p st xs a.0 ≡ Runs s p
quiet-stays w e p st r s a [] within known goes quiet is = is
quiet-stays w e p st r s a (x ∷ xs) within known goes quiet is =
    let was = stood w p st r x xs known.apart.agrees goes.moves.0 in
    quiet-stays w e p (standing_after p st x) (after_record w e p r x) s a xs within (known-step w e p st r x xs within known goes)
    (record { moves = goes.moves.1; tells = goes.tells.1; steps = goes.steps.1 }) quiet.1 (stays p st x a.0 (Runs s p) was is (quiet-kind x quiet.0))

runs-free : (st : ℕ → Standing) (a : ℕ) (s : SpaceNo) (p : ProcNo) → st a ≡ Runs s p → kind (st a) ≢ 5
runs-free st a s p is five = let one = sym (ap kind is) ∙ five in cc

-- a step that settles nothing, and is no block
unsettled : (r c : Readings) (s : SpaceNo) (x : Record) → is_step x ≡ true → is_quiet x ≡ true → settles r c x ≡ false
    → ((rest : List Record) (k : Readings) → Passing s k x rest) × ((life : Life) → is_bound r life x ≡ true)
unsettled r c s (Ins u t i) step quiet is = ((λ rest k. tt), λ life. refl)
unsettled r c s Idle step quiet is = ((λ rest k. tt), λ life. refl)
unsettled r c s (Want u n) step quiet is = ((λ rest k. tt), λ life. not-false (nat_lt n (demand_of r u)) is)
unsettled r c s (Block u t a io) step quiet is = absurd (cc)
unsettled r c s x step quiet is = absurd (cc)

calm-first : (s : SpaceNo) (r : Readings) (x : Record) (rest : List Record) → is_step x ≡ false → is_quiet x ≡ true → Passing s r x rest
calm-first s r x rest none quiet = passing s r x rest (calm-pass s r x rest none quiet)

-- what is known of an event
pub record At (w : WorkloadView) (st : ℕ → Standing) (r : Readings) (e : Event) (x : Record) (ys cs : List Record) : Type 0 where
  pub known : Known w st r []
  pub owned : OwnedByLives r
  pub proc : e.proc.0 < w.processors
  pub is : e.records ≡ x ∷ (ys ++ cs)
  pub part : own_part e.records ≡ x ∷ ys
  pub goes : GoesThrough w r e (x ∷ (ys ++ cs))
  pub closes : IsClosing cs

module _ (w : WorkloadView) (st : ℕ → Standing) (r : Readings) (e : Event) (x : Record) (ys cs : List Record) (at : At w st r e x ys cs) (s : SpaceNo) where
  abbrev xs : List Record
  xs = x ∷ (ys ++ cs)

  here : Known w st (event_begun w e r) (x ∷ (ys ++ cs))
  here = begun-known w st r e (x ∷ (ys ++ cs)) at.known

  behind-it : Known w (standings e.proc st (x ∷ (ys ++ cs))) (After w r e (x ∷ (ys ++ cs))) []
  behind-it = known-all w e.number e.proc st (event_begun w e r) (x ∷ (ys ++ cs)) at.proc here at.goes

  settling-it : Settles w r e (After w r e (x ∷ (ys ++ cs))) s
  settling-it =
      let mid = After w r e (x ∷ ys) in
      let c = After w r e (x ∷ (ys ++ cs)) in
      let placed : IsPlaced w mid.state = places-prefix w e.number e.proc (event_begun w e r) (x ∷ ys) cs at.proc at.goes.steps at.known.placed in
      let near : Near mid c = subst (Near mid) (sym (records-append w e.number e.proc (event_begun w e r) (x ∷ ys) cs))
      (calm-near w e.number e.proc mid cs (closing-calm cs at.closes)) in
      let both = settles-if w s (has_entry e.records) c (behind w e r (own_part e.records)) behind-it.placed
      (subst (λ zs. IsPlaced w (behind w e r zs).state) (sym at.part) placed)
      (subst (λ zs. NoPair (behind w e r zs) s → NoPair c s) (sym at.part) (near-none mid c s near)) in
      record { placed = both.0; late = both.1 }

  passes-on : EachRecord (Passing s) w e.number e.proc (event_begun w e r) (x ∷ ys) → PassesAll w r e (x ∷ (ys ++ cs)) s
  passes-on own = passing-append w e.number e.proc s (event_begun w e r) (x ∷ ys) cs own (closing-calm cs at.closes)

  held-fine : Fine r st r.lives s → Lowly r e.proc s → PassesAll w r e (x ∷ (ys ++ cs)) s
      → ((a : ℕ) (life : Life) (b : ActNo) → r.lives a ≡ Some life → life.space ≡ s → life.inside ≡ true → running_of r e.proc ≡ Some b → is_step x ≡ true
      → a ≢ b.0)
      → FineAfter w st r e (x ∷ (ys ++ cs)) s
  held-fine fine lowly passes spared =
      let held = held-all w e.number e.proc st (event_begun w e r) s (x ∷ (ys ++ cs)) at.proc here at.goes passes (λ telling. absurd (cc)) in
      keep-fine w r e (After w r e (x ∷ (ys ++ cs))) s st (standings e.proc st (x ∷ (ys ++ cs)))
      (x ∷ (ys ++ cs)) at.known.placed settling-it held lowly fine spared

  -- a turn with a passage
  pub up-fine : s.0 < length w.spaces → Turning (x ∷ ys)
      → (EachRecord (Passing s) w e.number e.proc (event_begun w e r) (x ∷ ys) → FineAfter w st r e (x ∷ (ys ++ cs)) s) → FineAfter w st r e (x ∷ (ys ++ cs)) s
  up-fine within turning other = elim (turning-cases w e.number e.proc s (x ∷ ys) turning) [
    | inl up ↦
        let len = at.known.shows.running_len in
        let proc = at.proc in
        let runs = up-runs w e.number e.proc s (event_begun w e r) (x ∷ ys) cs (omega arith) turning up at.closes in
        let stood = behind-it.apart.agrees.running e.proc runs.0.act runs.0.runs in
        arise-fine is_inside_or_urged w r e (After w r e (x ∷ (ys ++ cs))) s (Free (standings e.proc st (x ∷ (ys ++ cs))))
        (NoPair (After w r e (x ∷ (ys ++ cs))) s)
        (with_step is_inside_or_urged w r e (After w r e (x ∷ (ys ++ cs))) (x ∷ (ys ++ cs)) (After w r e (x ∷ (ys ++ cs))).lives) runs.0
        (urged w r e (After w r e (x ∷ (ys ++ cs))) s settling-it)
        (step-space is_inside_or_urged w r e (After w r e (x ∷ (ys ++ cs))) (x ∷ (ys ++ cs)) (After w r e (x ∷ (ys ++ cs))).lives runs.0.act.0 ∙ runs.0.space)
        (runs-free (standings e.proc st (x ∷ (ys ++ cs))) runs.0.act.0 stood.0 e.proc stood.1) (ap (list_any is_up) at.is ∙ runs.1)
    | inr each ↦ other (passing-each w e.number e.proc s (event_begun w e r) (x ∷ ys) (each (event_begun w e r)))
  ]

  pub turning-fine : s.0 < length w.spaces → Fine r st r.lives s → line_of r e.proc ≡ None → BlocksFirst x ys
      → EachRecord (Passing s) w e.number e.proc (event_begun w e r) (x ∷ ys) → FineAfter w st r e (x ∷ (ys ++ cs)) s
  turning-fine within fine low blocks own = one (is_step x) refl (running_of r e.proc) refl where
    one : (b : Bool) → is_step x ≡ b → (o : Option ActNo) → running_of r e.proc ≡ o → FineAfter w st r e (x ∷ (ys ++ cs)) s
    one false none o runs = held-fine fine (inl low) (passes-on own) (λ a life b is of inside other step. absurd (let clash = sym none ∙ step in cc))
    one true step None runs = held-fine fine (inl low) (passes-on own) (λ a life b is of inside other step'. absurd (none-some b (sym runs ∙ other)))
    one true step (Some a) runs =
        let there = at.known.apart.agrees.running e.proc a runs in
        let of : space_of_life r (Some a) ≡ Some there.0 = at.known.apart.agrees.lives a ∙ ap space_in there.1 in
        elim (cases_eq there.0.0 s.0) [
          | inl same ↦
              let is : space_of_life r (Some a) ≡ Some s = of ∙ ap (λ n. Some (record { 0 = n })) same in
              let untold = at.known.shows.untold_len in
              inr (inl (blocks-untold w e.number e.proc st (event_begun w e r) s a x ys cs blocks step runs is (omega arith) here.apart at.goes (passes-on own)))
          | inr apart ↦
              held-fine fine (inl low) (passes-on own)
              (λ n life b is in_it inside other step'. other-life r e.proc a s there.0 runs of apart n life b is in_it other)
        ]

  pub calm-fine : Fine r st r.lives s → line_of r e.proc ≡ None → Calm x ys → FineAfter w st r e (x ∷ (ys ++ cs)) s
  calm-fine fine low calm =
      held-fine fine (inl low)
      (passes-on (
        calm-first s (event_begun w e r) x ys calm.none calm.quiet,
        subst (EachRecord (Passing s) w e.number e.proc (after_record w e.number e.proc (event_begun w e r) x)) (sym calm.alone) tt,
      ))
      (λ a life b is of inside other step. absurd (let clash = sym calm.none ∙ step in cc))

  pub other-fine : Fine r st r.lives s → line_of r e.proc ≡ None → (step : StepOf RankedStepBy w (event_begun w e r) e.proc x ys)
      → space_of_life r (Some step.act) ≡ Some step.life.space → step.life.space.0 ≢ s.0
      → FineAfter w st r e (x ∷ (ys ++ cs)) s
  other-fine fine low step of apart =
      held-fine fine (inl low) (passes-on own)
      (λ n life b is in_it inside other step'. other-life r e.proc step.act s step.life.space step.runs of apart n life b is in_it other)
    where
      own : EachRecord (Passing s) w e.number e.proc (event_begun w e r) (x ∷ ys)
      own =
          step-passes RankedStepBy (Passing s) w st r e s x ys (λ w' r' p a life b zs by. by.all) at.known.apart.agrees at.owned at.goes.steps.0 step of apart
          (λ passes. passes) (λ c xs' each. passing-each w e.number e.proc s c xs' each)

  pub same-fine : Fine r st r.lives s → line_of r e.proc ≡ None → BeginsUnurged w r e.proc (x ∷ (ys ++ cs))
      → (step : StepOf RankedStepBy w (event_begun w e r) e.proc x ys)
      → r.lives step.act.0 ≡ Some step.life → step.life.space ≡ s
      → FineAfter w st r e (x ∷ (ys ++ cs)) s
  same-fine fine low freely step is of = one (settles r (After w r e (x ∷ (ys ++ cs))) x) refl where
    there : space_of_life r (Some step.act) ≡ Some s
    there = ap space_of is ∙ ap Some of

    settled : settles r (After w r e (x ∷ (ys ++ cs))) x ≡ true → FineAfter w st r e (x ∷ (ys ++ cs)) s
    settled settles_it =
        let stood = at.known.apart.agrees.running e.proc step.act step.runs in
        let space : stood.0 ≡ s = same_Some stood.0 s (sym (at.known.apart.agrees.lives step.act ∙ ap space_in stood.1) ∙ there) in
        let stays_there = quiet-stays w e.number e.proc st (event_begun w e r) s step.act (x ∷ (ys ++ cs)) at.proc here at.goes
        (quiet-append (x ∷ ys) cs step.quiet (closing-quiet cs at.closes))
        (stood.1 ∙ ap (λ k. Runs k e.proc) space) in
        settle-fine is_inside_or_urged w r e (After w r e (x ∷ (ys ++ cs))) s (Free (standings e.proc st (x ∷ (ys ++ cs))))
        (NoPair (After w r e (x ∷ (ys ++ cs))) s) x (ys ++ cs) (After w r e (x ∷ (ys ++ cs))).lives step.act
        (urged w r e (After w r e (x ∷ (ys ++ cs))) s settling-it) step.runs
        (behind-it.apart.agrees.lives step.act ∙ ap space_in stays_there)
        (runs-free (standings e.proc st (x ∷ (ys ++ cs))) step.act.0 s e.proc stays_there) step.step settles_it

    out : settles r (After w r e (x ∷ (ys ++ cs))) x ≡ false → AllOut ys
    out none = two step.rest where
      two : AllOut ys ⊎ ((x ∷ ys ≡ map GiveBack (taken_of r step.life.space)) × ((b c : Readings) → settles b c x ≡ true)) → AllOut ys
      two (inl outs) = outs
      two (inr given) = absurd (let clash = sym (given.1 r (After w r e (x ∷ (ys ++ cs)))) ∙ none in cc)

    bound : ((rest : List Record) (k : Readings) → Passing s k x rest) → ((life : Life) → is_bound r life x ≡ true) → AllOut ys
        → FineAfter w st r e (x ∷ (ys ++ cs)) s
    bound pass binds outs =
        let own : EachRecord (Passing s) w e.number e.proc (event_begun w e r)
        (x ∷ ys) = (
          pass ys (event_begun w e r),
          passing-each w e.number e.proc s (after_record w e.number e.proc (event_begun w e r) x) ys
              (out-pass w e.number e.proc s (after_record w e.number e.proc (event_begun w e r) x) ys outs),
        ) in
        let free : IsUnurged w r step.life x = subst (λ o. IsUnurgedIf true w r o x) step.on
        (subst (λ k. IsUnurgedIf k w r (life_on r e.proc) x) step.step freely) in
        three (passes-on own) (free.unurged (binds step.life))
      where
        three : PassesAll w r e (x ∷ (ys ++ cs)) s → (step.life.inside ≡ false) ⊎ (has_pair w r step.life.space ≡ false) → FineAfter w st r e (x ∷ (ys ++ cs)) s
        three passes (inl outside) = held-fine fine (inl low) passes (λ a life b is_it in_it inside other step' same.
            let act : b ≡ step.act = same_Some b step.act (sym other ∙ step.runs) in
            let life_is : life ≡ step.life = same_Some life step.life (sym is_it ∙ ap r.lives (same ∙ ap (λ (k : ActNo). k.0) act) ∙ is) in
            let clash : true ≡ false = sym inside ∙ ap (λ (k : Life). k.inside) life_is ∙ outside in cc)
        three passes (inr none) =
            let held = held-all w e.number e.proc st (event_begun w e r) s (x ∷ (ys ++ cs)) at.proc here at.goes passes (λ telling. absurd (cc)) in
            inr (inr (held-none w r e (After w r e (x ∷ (ys ++ cs))) s st (standings e.proc st (x ∷ (ys ++ cs))) at.known.placed held (inl low)
            (no-pair w r s at.known.placed (subst (λ k. has_pair w r k ≡ false) of none))))

    one : (b : Bool) → settles r (After w r e (x ∷ (ys ++ cs))) x ≡ b → FineAfter w st r e (x ∷ (ys ++ cs)) s
    one true yes_it = settled yes_it
    one false no_it = let free = unsettled r (After w r e (x ∷ (ys ++ cs))) s x step.step step.quiet.0 no_it in bound free.0 free.1 (out no_it)

  -- an interrupt
  pub interrupt-fine : s.0 < length w.spaces → Fine r st r.lives s → is_step x ≡ false
      → StopsAndGoes e.proc (event_begun w e r) (owner_of r e.proc) (Rattle.sa_laws.specs.Readings.aim_of r e.proc) (x ∷ (ys ++ cs))
      → EachRecord (Passing s) w e.number e.proc (event_begun w e r) (x ∷ ys) → FineAfter w st r e (x ∷ (ys ++ cs)) s
  interrupt-fine within fine none stops own = one (owner_of r e.proc) refl stops where
    spared : (a : ℕ) (life : Life) (b : ActNo) → r.lives a ≡ Some life → life.space ≡ s → life.inside ≡ true → running_of r e.proc ≡ Some b → is_step x ≡ true
        → a ≢ b.0
    spared a life b is of inside other step = absurd (let clash = sym none ∙ step in cc)

    stopped : (y : Record) → x ≡ y → (o : SpaceNo) → o ≡ s
        → StopsAndGoes e.proc (event_begun w e r) (Some o) (Rattle.sa_laws.specs.Readings.aim_of r e.proc) (y ∷ (ys ++ cs)) → FineAfter w st r e (x ∷ (ys ++ cs)) s
    stopped (Stop u t a) same o of is =
        let untold = at.known.shows.untold_len in
        let has : Contains (untold_of (after_record w e.number e.proc (event_begun w e r) x) s) (note.Preempted a) =
        subst (λ y. Contains (untold_of (after_record w e.number e.proc (event_begun w e r) y) s) (note.Preempted a)) (sym same)
        (note-has (event_begun w e r) s u (note.Preempted a) (is.0 ∙ of) (omega arith)) in
        inr
        (inl (noted-end w e.number e.proc st (event_begun w e r) s x (ys ++ cs) (note.Preempted a) refl (ap (λ y. is_telling (Some y)) same) has here.apart at.goes
        (passes-on own)))
    stopped y same o of is = absurd is

    one : (o : Option SpaceNo) → owner_of r e.proc ≡ o → StopsAndGoes e.proc (event_begun w e r) o (Rattle.sa_laws.specs.Readings.aim_of r e.proc) (x ∷ (ys ++ cs))
        → FineAfter w st r e (x ∷ (ys ++ cs)) s
    one None owner is = held-fine fine (inr (λ owned. none-some s (sym owner ∙ owned))) (passes-on own) spared
    one (Some o) owner is = elim (cases_eq o.0 s.0) [
      | inl same ↦ stopped x refl o (ap (λ n. record { 0 = n }) same) is
      | inr apart ↦ held-fine fine (inr (λ owned. apart (ap (λ (k : SpaceNo). k.0) (same_Some o s (sym owner ∙ owned))))) (passes-on own) spared
    ]
