-- In each legal run, after each event, no ready thread outranks a running one where nothing of their space is on its way.
use Rattle.std.proofs.Common.{◌≡◌, ℕ, zero, suc, ◌<◌, ◌≤◌, inl, inr, refl, sym, ◌∙◌, ap, subst, arith, Some, None, List, [], ◌∷◌, ◌++◌, length, map, take}
use Rattle.std.specs.Prelude.{Option, is_some, get_or, Contains, replicate}
use Rattle.std.proofs.lemmas.Bool.{cases_eq}
use Rattle.std.proofs.lemmas.Option.{none-some, same_Some}
use Rattle.sa_base.specs.declared.number.SpaceNo.{SpaceNo}
use Rattle.sa_base.specs.declared.number.ProcNo.{ProcNo}
use Rattle.sa_base.specs.declared.number.ThreadNo.{ThreadNo}
use Rattle.sa_base.specs.declared.number.ActNo.{ActNo}
use Rattle.sa_base.specs.declared.record.Note.{Note}
use Rattle.sa_base.specs.declared.record.Note.TheVariants as note
use Rattle.sa_lemmas.proofs.Membership.{contains-nil}
use Rattle.sa_spaces.specs.Workload.{WorkloadView}
use Rattle.sa_laws.specs.Event.{Event, events_of}
use Rattle.sa_laws.specs.State.{thread_at, no_threads, opening_state, opening_space}
use Rattle.sa_laws.specs.Readings.{Readings, opening_readings, life_if, owner_of, line_of, untold_of, space_of_life}
use Rattle.sa_laws.specs.History.{event_begun, behind_all, after_event, after_events}
use Rattle.sa_laws.specs.Opening.{opening_records}
use Rattle.sa_laws.specs.Rules.{IsLawful}
use Rattle.sa_promises.proofs.lives.Standing.{Standing, Runs, Blocked, Taken, Nowhere, Stopped, Returned, kind, space_in, space_of}
use Rattle.sa_ranks.specs.Rules.{prio_threads}
use Rattle.sa_ranks.specs.Inside.{is_inside_or_urged}
use Rattle.sa_ranks.specs.Steps.{RankedStepBy}
use Rattle.sa_promises.proofs.ranked.Moving.{Known, standings, held-all, known-all}
use Rattle.sa_spaces.specs.Space.{SpaceView}
use Rattle.sa_laws.specs.declared.place.Place.TheVariants as place
use Rattle.sa_histories.specs.Lawful.{AreLawful}
use Rattle.sa_histories.proofs.Traces.{legal-lawful}
use Rattle.sa_promises.proofs.lives.Moves.{AreCalm, nowhere_first, calm-opening}
use Rattle.sa_promises.proofs.lives.Shown.{shows-start, shows-ended}
use Rattle.sa_promises.proofs.covers.Apart.{apart-start, apart-ended}
use Rattle.sa_promises.proofs.covers.Passed.{Goes}
use Rattle.sa_promises.proofs.covers.Forms.{Form}
use Rattle.sa_promises.proofs.covers.Events.{After}
use Rattle.sa_promises.proofs.read.OwnEvents.{OwnedByLives}
use Rattle.sa_ranks.specs.Locks.{BeginsUnurged}
use Rattle.sa_ranks.specs.Promises.{IsCalm, OutranksNobody}
use Rattle.sa_promises.specs.Outranking.{EveryLegalRunOutranksNobody}
use Rattle.sa_promises.proofs.ranked.Events.{InForm, in-form, event-goes}
use Rattle.sa_promises.proofs.ranked.Fine.{Fine, held-none}
use Rattle.sa_promises.proofs.ranked.Serve.{FineAfter, At, begun-known, calm-passes, up-fine, turning-fine, calm-fine, other-fine, same-fine, interrupt-fine}

-- what is known between events
pub record Moment (w : WorkloadView) (st : ℕ → Standing) (r : Readings) : Type 0 where
  pub known : Known w st r []
  pub owned : OwnedByLives r

parts-at : (w : WorkloadView) (st : ℕ → Standing) (r : Readings) (e : Event) → Moment w st r → IsLawful prio_threads w r e → (parts : InForm w r e)
    → At w st r e parts.first parts.own parts.closing
parts-at w st r e moment law parts = record {
  known = moment.known;
  owned = moment.owned;
  proc = law.numbered.proc;
  is = parts.is;
  part = parts.part;
  goes = subst (Goes w e.number e.proc (event_begun w e r)) parts.is (event-goes w r e law);
  closes = parts.closes;
}

event-fine : (w : WorkloadView) (st : ℕ → Standing) (r : Readings) (e : Event) → Moment w st r → IsLawful prio_threads w r e → 1 ≤ e.number → (s : SpaceNo)
    → s.0 < length w.spaces → Fine r st r.lives s
    → FineAfter w st r e e.records s
event-fine w st r e moment law from s within fine = whole (in-form w r e law from) where
  whole : InForm w r e → FineAfter w st r e e.records s
  whole parts = subst (λ xs. FineAfter w st r e xs s) (sym parts.is) (by_line (line_of r e.proc) refl) where
    at : At w st r e parts.first parts.own parts.closing
    at = parts-at w st r e moment law parts

    formed : line_of r e.proc ≡ None → Form RankedStepBy w (event_begun w e r) e.proc parts.first parts.own
        → FineAfter w st r e (parts.first ∷ (parts.own ++ parts.closing)) s
    formed low (inl turns) =
        up-fine w st r e parts.first parts.own parts.closing at s within turns.0
        (λ own. turning-fine w st r e parts.first parts.own parts.closing at s within fine low turns.1 own)
    formed low (inr (inl calm)) = calm-fine w st r e parts.first parts.own parts.closing at s fine low calm
    formed low (inr (inr step)) =
        let life : r.lives step.act.0 ≡ Some step.life = ap (life_if r) (sym step.runs) ∙ step.on in
        elim (cases_eq step.life.space.0 s.0) [
          | inl same ↦
              same-fine w st r e parts.first parts.own parts.closing at s fine low
              (subst (BeginsUnurged w r e.proc) parts.is (law.demand_announced.step from)) step life
              (ap (λ n. record { 0 = n }) same)
          | inr apart ↦ other-fine w st r e parts.first parts.own parts.closing at s fine low step (ap space_of life) apart
        ]

    by_line : (o : Option ℕ) → line_of r e.proc ≡ o → FineAfter w st r e (parts.first ∷ (parts.own ++ parts.closing)) s
    by_line None low = formed low parts.form
    by_line (Some late) raised =
        let turn = parts.low (ap (λ (o : Option ℕ). is_some o) raised) in
        let next = law.interrupt_next.interrupt (ap (λ (o : Option ℕ). is_some o) raised) in
        up-fine w st r e parts.first parts.own parts.closing at s within turn.0
        (λ own. interrupt-fine w st r e parts.first parts.own parts.closing at s within fine turn.1
        (subst (Rattle.sa_laws.specs.Upcalls.StopsAndGoes e.proc (event_begun w e r) (owner_of r e.proc)
        (Rattle.sa_laws.specs.Readings.aim_of r e.proc)) parts.is next) own)

-- before the opening no thread runs, and no line is raised
rests-in : (defs : List SpaceView) (k j : ℕ) (p : ProcNo)
    → (get_or (get_or (map opening_space defs) k no_threads).threads j Rattle.sa_promises.proofs.ranked.Fading.nobody).place ≡ place.Running p → ⊥
rests-in (def ∷ defs) zero zero p is = absurd (cc)
rests-in (def ∷ defs) (suc k) j p is = rests-in defs k j p is
rests-in _ _ _ p is = absurd (cc)

rests : (w : WorkloadView) (s : SpaceNo) (t : ThreadNo) (p : ProcNo) → (thread_at (opening_state w) s t).place ≡ place.Running p → ⊥
rests w s t p is = rests-in w.spaces s.0 t.0 p is

low-in : (n k : ℕ) → get_or {A = Option ℕ} (replicate n None) k None ≡ None
low-in zero k = refl
low-in (suc n) zero = refl
low-in (suc n) (suc k) = low-in n k

start : (w : WorkloadView) → Moment w nowhere_first (opening_readings w)
start w = record {
  known = record {
    apart = apart-start w;
    shows = shows-start w;
    placed = record { owned = λ s t p runs. absurd (rests w s t p runs); one = λ s t v p runs other. absurd (rests w s t p runs) };
  };
  owned = nobody w.processors;
} where
  nobody : (n : ℕ) → replicate n None ≡ map (space_of_life (opening_readings w)) (replicate n None)
  nobody zero = refl
  nobody (suc n) = ap (λ os. None ∷ os) (nobody n)

-- the opening
first-fine : (w : WorkloadView) (e : Event) → IsLawful prio_threads w (opening_readings w) e → (s : SpaceNo)
    → FineAfter w nowhere_first (opening_readings w) e e.records s
first-fine w e law s =
    let r = opening_readings w in
    let known = begun-known w nowhere_first r e e.records (start w).known in
    let goes = event-goes w r e law in
    let records : e.records ≡ opening_records w = ap (λ (f : Event). f.records) (law.numbered.opening law.numbered.number) in
    let passes = calm-passes w e.number e.proc s (event_begun w e r) e.records (subst AreCalm (sym records) (calm-opening w)) in
    let held = held-all w e.number e.proc nowhere_first (event_begun w e r) s e.records law.numbered.proc known goes passes (λ telling. absurd (cc)) in
    inr
    (inr (held-none w r e (After w r e e.records) s nowhere_first (standings e.proc nowhere_first e.records) (start w).known.placed held
    (inl (low-in w.processors e.proc.0))
    (λ t u p ready runs low. absurd (rests w s u p runs))))

next : (w : WorkloadView) (st : ℕ → Standing) (r : Readings) (e : Event) → Moment w st r → IsLawful prio_threads w r e
    → Moment w (standings e.proc st e.records) (after_event is_inside_or_urged w r e)
next w st r e moment law =
    let all = known-all w e.number e.proc st (event_begun w e r) e.records law.numbered.proc (begun-known w st r e e.records moment.known)
    (event-goes w r e law) in
    record {
      known = record {
        apart = apart-ended is_inside_or_urged w (standings e.proc st e.records) r e (behind_all w e r) all.apart;
        shows = shows-ended is_inside_or_urged w (standings e.proc st e.records) r e (behind_all w e r) all.shows;
        placed = all.placed;
      };
      owned = law.where_owned.owned;
    }

-- where nothing is on its way
quiet : (w : WorkloadView) (st : ℕ → Standing) (r : Readings) (s : SpaceNo) → s.0 < length w.spaces → Known w st r [] → Fine r st r.lives s → IsCalm r s
    → OutranksNobody r s
quiet w st r s within known (inl (a, life, is, of, inside, free)) calm = absurd (stands (st a) refl) where
  act : ActNo
  act = record { 0 = a }

  out : Rattle.sa_ranks.specs.Promises.RunsOrIsBlocked r (record { 0 = a }) → ⊥
  out active = let off = calm.out (record { 0 = a }) life is of active in let clash = sym inside ∙ off in cc

  space : space_in (st a) ≡ Some s
  space = sym (known.apart.agrees.lives (record { 0 = a })) ∙ ap space_of is ∙ ap Some of

  told : (n : Note) → Contains (untold_of r s) n → ⊥
  told n has = contains-nil n (subst (λ ns. Contains ns n) calm.told has)

  stands : (k : Standing) → st a ≡ k → ⊥
  stands Nowhere at = none-some s (ap space_in (sym at) ∙ space)
  stands (Runs u p) at = out (inl (p, known.shows.running u p (record { 0 = a }) at))
  stands (Blocked u) at = out (inr (known.shows.blocked u (record { 0 = a }) at))
  stands (Stopped u) at =
      let one = same_Some u s (ap space_in (sym at) ∙ space) in
      told (note.Preempted (record { 0 = a })) (known.shows.stopped s (record { 0 = a }) within (at ∙ ap Stopped one))
  stands (Returned u) at =
      let one = same_Some u s (ap space_in (sym at) ∙ space) in
      told (note.Unblocked (record { 0 = a })) (known.shows.returned s (record { 0 = a }) within (at ∙ ap Returned one))
  stands (Taken u) at = free (ap kind at)
quiet w st r s within known (inr (inl untold)) calm = absurd (contains-nil untold.0 (subst (λ ns. Contains ns untold.0) calm.told untold.2))
quiet w st r s within known (inr (inr none)) calm = λ t u p ready runs. none t u p ready runs (calm.lines p (known.placed.owned s u p runs).0)

abbrev FineAll : WorkloadView → (ℕ → Standing) → Readings → Type 0
FineAll w st r = (s : SpaceNo) → s.0 < length w.spaces → Fine r st r.lives s

along : (w : WorkloadView) (st : ℕ → Standing) (r : Readings) (events : List Event) → Moment w st r → 1 ≤ r.number → FineAll w st r
    → AreLawful prio_threads w r events → (n : ℕ) (s : SpaceNo) → s.0 < length w.spaces
    → IsCalm (after_events is_inside_or_urged w r (take n events)) s → OutranksNobody (after_events is_inside_or_urged w r (take n events)) s
along w st r events moment later fine law zero s within calm = quiet w st r s within moment.known (fine s within) calm
along w st r [] moment later fine law (suc n) s within calm = quiet w st r s within moment.known (fine s within) calm
along w st r (e ∷ events) moment later fine law (suc n) s within calm =
    let from : 1 ≤ e.number = (let same = law.0.numbered.number in omega arith) in
    along w (standings e.proc st e.records) (after_event is_inside_or_urged w r e) events (next w st r e moment law.0)
    (let number = Rattle.sa_histories.proofs.Numbers.number-next prio_threads w r e in omega arith)
    (λ k below. event-fine w st r e moment law.0 from k below (fine k below)) law.1 n s within calm

first-quiet : (w : WorkloadView) (s : SpaceNo) → OutranksNobody (opening_readings w) s
first-quiet w s = λ t u p ready runs. absurd (rests w s u p runs)

from-start : (w : WorkloadView) (events : List Event) → AreLawful prio_threads w (opening_readings w) events → (n : ℕ) (s : SpaceNo) → s.0 < length w.spaces
    → IsCalm (after_events is_inside_or_urged w (opening_readings w) (take n events)) s
    → OutranksNobody (after_events is_inside_or_urged w (opening_readings w) (take n events)) s
from-start w events law zero s within calm = first-quiet w s
from-start w [] law (suc n) s within calm = first-quiet w s
from-start w (e ∷ events) law (suc n) s within calm =
    along w (standings e.proc nowhere_first e.records) (after_event is_inside_or_urged w (opening_readings w) e) events
    (next w nowhere_first (opening_readings w) e (start w) law.0)
    (let number = Rattle.sa_histories.proofs.Numbers.number-next prio_threads w (opening_readings w) e in omega arith)
    (λ k below. first-fine w e law.0 k) law.1 n s within calm

pub none-is-outranked : EveryLegalRunOutranksNobody
none-is-outranked w items workload legal n s within calm = from-start w (events_of items) (legal-lawful prio_threads w items legal) n s within calm
