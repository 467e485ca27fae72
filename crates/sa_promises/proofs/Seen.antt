-- What is seen at an event of one record in a calm moment.
use Rattle.std.proofs.Common.{◌≡◌, ℕ, ◌≤◌, sym, ap, None, List, [], ◌∷◌, map, true, false}
use Rattle.std.specs.Prelude.{Option, Bool, slice_index_or, nat_lt}
use Rattle.std.specs.List.{list_all}
use Rattle.std.proofs.lemmas.Bool.{ltb-true}
use Rattle.sa_base.specs.declared.number.ProcNo.{ProcNo}
use Rattle.sa_base.specs.declared.number.SpaceNo.{SpaceNo}
use Rattle.sa_base.specs.declared.record.Note.{Note}
use Rattle.sa_base.specs.declared.record.Record.{Record}
use Rattle.sa_spaces.specs.Workload.{WorkloadView}
use Rattle.sa_share.specs.Share.{share_at}
use Rattle.sa_assign.specs.Aims.{Change, aimed}
use Rattle.sa_laws.specs.Event.{Event}
use Rattle.sa_laws.specs.Readings.{Readings, line_of, space_of_life}
use Rattle.sa_laws.specs.History.{after_event, event_begun, behind}
use Rattle.sa_laws.specs.Step.{AreSteps}
use Rattle.sa_laws.specs.Shape.{before_aims, before_wants, aims_in}
use Rattle.sa_laws.specs.Closing.{shares_at, aims_due, lines_due, wants_due}
use Rattle.sa_laws.specs.Ends.{are_done, are_at_rest}
use Rattle.sa_laws.specs.Rules.{UserRules}
use Rattle.sa_promises.proofs.Plain.{alone, IsCalm}

-- What is seen at an event, and what is to be seen where the moment is calm: one equation, which `refl` proves of an event that is
-- written out.
abbrev pub Seen : Type 0
Seen = List (List Note) × List (Option SpaceNo) × Option ℕ × List Record × List Record × List Change × List Bool × ℕ

abbrev pub seen : WorkloadView → Readings → Event → Readings → Seen
seen w r e after = (
  after.untold,
  after.state.owners,
  line_of r e.proc,
  lines_due w (behind w e r e.records),
  wants_due w (behind w e r (before_wants e.records)),
  aims_due w e.number (behind w e r (before_aims e.records)),
  list_all are_done after.state.spaces
      ∷ list_all are_at_rest after.state.spaces
      ∷ nat_lt 0 e.number
      ∷ nat_lt e.proc.0 w.processors
      ∷ [],
  e.number,
)

abbrev pub calm : Readings → Event → Readings → Seen
calm r e after =
    ([] ∷ [], map (space_of_life after) after.running, None, [], [], aims_in e.records, false ∷ false ∷ true ∷ true ∷ [], r.number)

abbrev pub SeemsCalm : UserRules → WorkloadView → Readings → Event → Type 0
SeemsCalm u w r e = seen w r e (after_event u.inside w r e) ≡ calm r e (after_event u.inside w r e)

-- each space has its share of aims after the event
abbrev pub Covers : UserRules → WorkloadView → Readings → Event → Type 0
Covers u w r e = (s : ℕ) → share_at (shares_at w e.number (after_event u.inside w r e)) s ≤ aimed s (after_event u.inside w r e).aims

pub is-calm : {u : UserRules} {w : WorkloadView} {r : Readings} {n : ℕ} {p : ProcNo} {x : Record} → SeemsCalm u w r (alone n p x)
    → Covers u w r (alone n p x) → AreSteps w n p (event_begun w (alone n p x) r) (x ∷ []) → IsCalm u w r (alone n p x)
is-calm {u} {w} {r} {n} {p} {x} is covered steps =
    let test = λ (k : ℕ). ap (λ (y : Seen). slice_index_or y.6 k true) is in
    record {
      later = ltb-true 0 n (test 2);
      proc = ltb-true p.0 w.processors (test 3);
      steps = steps;
      reads = (
        ap (λ (y : Seen). y.7) is,
        ap (λ (y : Seen). y.0) is,
        ap (λ (y : Seen). y.1) is,
        ap (λ (y : Seen). y.2) is,
        ap (λ (y : Seen). y.3) is,
        ap (λ (y : Seen). y.4) is,
        sym (ap (λ (y : Seen). y.5) is),
      );
      covered = covered;
    }
