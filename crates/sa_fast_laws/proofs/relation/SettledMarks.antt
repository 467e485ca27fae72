-- After an event that settles, all marks of the life are those of its context: one lemma for every such event.
use Rattle.std.proofs.Common.{◌≡◌, ℕ, min, Bool, true, false, ◌||◌, List, [], ◌∷◌, length, Option, Some, None, is_some, refl, sym, ap, ◌∙◌}
use Rattle.std.specs.Prelude.{◌&&◌}
use Rattle.sa_base.specs.declared.context.Seen.{Seen}
use Rattle.sa_base.specs.declared.number.ActNo.{ActNo}
use Rattle.sa_base.specs.declared.number.SpaceNo.{SpaceNo}
use Rattle.sa_base.specs.declared.number.ThreadNo.{ThreadNo}
use Rattle.sa_base.specs.declared.record.Record.{Record}
use Rattle.sa_instr.specs.declared.limits.TheConstants.{MAX_PATIENCE}
use Rattle.sa_spaces.specs.Workload.{WorkloadView}
use Rattle.sa_code.specs.declared.state.Frame.{Frame}
use Rattle.sa_abstract.specs.Calls.{Contexts}
use Rattle.sa_abstract.specs.Setting.{Setting}
use Rattle.sa_package_model.specs.Context.{has_some, settled_to, has_bulk}
use Rattle.sa_package_model.specs.Rules.{owed}
use Rattle.sa_package_model.specs.Stands.{IsStanding}
use Rattle.sa_package_model.specs.declared.context.Context.{Context}
use Rattle.sa_package_model.specs.declared.package.Package.{Package}
use Rattle.sa_laws.specs.Event.{Event}
use Rattle.sa_laws.specs.History.{is_inside, is_free, settles, scans_after, stepped}
use Rattle.sa_laws.specs.Life.{Life}
use Rattle.sa_laws.specs.Readings.{Readings, life_of, carried_by as runs_by, demand_of, taken_of}
use Rattle.sa_fast_laws.proofs.relation.InsideMarks.{settled-inside, settled-copy, settled-left, settled-looks}
use Rattle.sa_fast_laws.proofs.relation.ThreadsBeside.{life-here}
use Rattle.sa_fast_laws.specs.FastFits.{Holds}
use Rattle.sa_fast_laws.specs.Life.{IsMarked}
use Rattle.sa_fast_laws.specs.Stage.{stage_of, is_gone}
use Rattle.sa_fast_laws.specs.View.{view, at_yield, is_lone}

pub settled-yield : (t : Option ThreadNo) (left owes bulk : Bool) → at_yield (settled_to t left owes bulk) ≡ false
settled-yield (Some n) false false bulk = refl
settled-yield None false false true = refl
settled-yield _ _ _ _ = refl

pub settled-lone : (t : Option ThreadNo) (fs : List Frame) (w : Option ThreadNo) (owes bulk : Bool) → (has_some fs ≡ true → t ≡ None)
    → is_lone (settled_to t (has_some fs || is_some w) owes bulk) fs ≡ true
settled-lone t [] w owes bulk bare = refl
settled-lone None (f ∷ fs) w owes bulk bare = refl
settled-lone (Some n) (f ∷ fs) w owes bulk bare = absurd (let no_such = bare refl in cc)

module _ (set : Setting) (e : ℕ) (v : Package) (ds : Contexts Context) (h : IsStanding set e v ds) (s : SpaceNo) (last : Readings)
    (k : Holds s last v ds)
    (a : ActNo) (t : Option ThreadNo) (seen : Seen) (fs : List Frame) (wk : Option ThreadNo) (life : Life) (there : life_of last a ≡ Some life)
    (stays : is_gone (stage_of last s a life) ≡ false)
    (w : WorkloadView) (before : Readings) (ev : Event) (first : Record) where
  abbrev left : Bool
  left = has_some fs || is_some wk

  abbrev new : Context
  new = record { state = settled_to t left (is_some (owed v seen)) (has_bulk seen); sections = fs; work = wk }

  pub settled-marked : ds a.0 ≡ Some new → seen.demand ≡ demand_of last s → seen.taken ≡ length (taken_of last s) → v.processors ≡ w.processors
      → runs_by last life ≡ t
      → settles before last first ≡ true → scans_after before first life.scans ≡ 0 → (has_some fs ≡ true → t ≡ None)
      → IsMarked (view new) (stepped is_inside w before ev last first life)
  settled-marked is demand taken processors carries settled scans bare =
      let l = life-here s last v ds k a new life is there in
      record {
        inside = ap (λ b. is_inside w before ev last b life) settled
            ∙ settled-inside set e v ds h s last k a t seen fs wk life there stays w before ev is demand taken processors carries;
        back = ap (λ b. b && is_free first) (l.cont ∙ settled-copy t left (is_some (owed v seen)) (has_bulk seen))
            ∙ sym (settled-yield t left (is_some (owed v seen)) (has_bulk seen));
        scans = ap (λ n. min n MAX_PATIENCE) scans ∙ sym (settled-looks t left (is_some (owed v seen)) (has_bulk seen));
        left = settled-left t left (is_some (owed v seen)) (has_bulk seen);
        lone = settled-lone t fs wk (is_some (owed v seen)) (has_bulk seen) bare;
      }
