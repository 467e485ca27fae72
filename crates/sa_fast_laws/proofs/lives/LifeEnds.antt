-- The end of an own event of a life: what holds stays, and all lives are at rest.
use Rattle.std.proofs.Common.{◌≡◌, ◌≢◌, ℕ, ◌+◌, Bool, true, false, List, ◌∷◌, Option, Some, None, refl, sym, subst}
use Rattle.std.specs.List.{list_any}
use Rattle.sa_base.specs.declared.number.ActNo.{ActNo}
use Rattle.sa_base.specs.declared.number.SpaceNo.{SpaceNo}
use Rattle.sa_base.specs.declared.record.Record.{Record}
use Rattle.sa_lemmas.proofs.FunctionUpdates.{put-same, put-other}
use Rattle.sa_lemmas.specs.Function.{put}
use Rattle.sa_spaces.specs.Workload.{WorkloadView}
use Rattle.sa_abstract.specs.Calls.{Contexts}
use Rattle.sa_package_model.specs.declared.context.Context.{Context}
use Rattle.sa_package_model.specs.declared.package.Package.{Package}
use Rattle.sa_laws.specs.Life.{Life}
use Rattle.sa_laws.specs.Event.{Event}
use Rattle.sa_laws.specs.History.{Test, is_step, is_up, stepped, ended}
use Rattle.sa_laws.specs.Readings.{Readings, running_of, life_of}
use Rattle.sa_fast_laws.proofs.relation.EventEnds.{set-holds, ended-lives}
use Rattle.sa_fast_laws.specs.FastFits.{Holds}
use Rattle.sa_fast_laws.specs.Life.{IsAtRest}
use Rattle.sa_fast_laws.specs.Stage.{stage_of}
use Rattle.sa_fast_laws.specs.View.{View}
use Rattle.sa_fast_laws.proofs.lives.Rests.{others-rest, rests-with}
use Rattle.sa_fast_laws.specs.Rests.{LivesFit, RestBut}

module _ (s : SpaceNo) (last : Readings) (u : Package) (bs : Contexts Context) (k : Holds s last u bs) (a : ActNo) (b : Context) (is : bs a.0 ≡ Some b)
    (life : Life) (there : life_of last a ≡ Some life) (freed inside : Bool) (scans : ℕ)
    (number : ℕ) (before : Option Record) (moved : Option SpaceNo) where
  abbrev marked_life : Life
  marked_life = record life { freed = freed; scans = scans; inside = inside }

  -- the moment after the end
  abbrev pub remarked : Readings
  remarked = record last {
    number = number;
    lives = put last.lives a.0 (Some (record life { freed = freed; scans = scans; inside = inside }));
    last = before;
    moved = moved;
  }

  here : remarked.lives a.0 ≡ Some marked_life
  here = put-same last.lives a.0 (Some marked_life)

  elsewhere : (x : ℕ) → x ≢ a.0 → remarked.lives x ≡ last.lives x
  elsewhere x ne = put-other last.lives a.0 x (Some marked_life) ne

  pub end-fits : {C : Type 0} (look : C → View) (cs : Contexts C) (c : C) → cs a.0 ≡ Some c → RestBut look s last a cs
      → IsAtRest (stage_of last s a life) (look c) marked_life → LivesFit look s remarked u bs cs
  end-fits look cs c mine rest own = record {
    holds = set-holds s last u bs k a b is life there freed inside scans number before moved;
    rest = rests-with look s last remarked a cs c marked_life mine here own
        (others-rest look s last remarked a cs cs (λ x ne. refl) (λ x ne. elsewhere x.0 ne) (λ x y ne. refl) rest);
  }

-- THE END of an event that is a step of life a, by whichever test of who is in
module _ (a : ActNo) (w : WorkloadView) (r : Readings) (ev : Event) (runs : running_of r ev.proc ≡ Some a) (last : Readings)
    (life : Life) (there : life_of last a ≡ Some life) (first : Record) (rest : List Record) (records : ev.records ≡ first ∷ rest)
    (step : is_step first ≡ true) (no_up : list_any is_up ev.records ≡ false) (test : Test) where
  pub ended-fits : {C : Type 0} (look : C → View) (s : SpaceNo) (u : Package) (bs : Contexts Context) (cs : Contexts C) (b : Context) (c : C)
      → Holds s last u bs → bs a.0 ≡ Some b → cs a.0 ≡ Some c → RestBut look s last a cs
      → IsAtRest (stage_of last s a life) (look c) (stepped test w r ev last first life) → LivesFit look s (ended test w r ev last) u bs cs
  ended-fits look s u bs cs b c holds is mine others own =
      let after = stepped test w r ev last first life in
      subst (λ ls. LivesFit look s (record last { number = last.number + 1; lives = ls; last = None; moved = None }) u bs cs)
      (sym (ended-lives a w r ev runs last life there first rest records step no_up test))
      (end-fits s last u bs holds a b is life there after.freed after.inside after.scans (last.number + 1) None None look cs c mine others own)
