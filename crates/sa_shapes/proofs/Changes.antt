-- What changes a track makes it show another thing.
use Rattle.std.proofs.Common.{◌≡◌, ◌≢◌, ℕ, Bool, true, false, cond, not, List, Some, None, refl, sym, ap, ◌∙◌, eqb}
use Rattle.std.specs.Prelude.{◌&&◌}
use Rattle.std.proofs.lemmas.Bool.{eq-eqb, and_from, and_parts}
use Rattle.sa_base.specs.declared.number.ProcNo.{ProcNo}
use Rattle.sa_base.specs.declared.number.SpaceNo.{SpaceNo}
use Rattle.sa_base.specs.declared.record.Item.{Item}
use Rattle.sa_base.specs.declared.record.Record.{Record}
use Rattle.sa_base.specs.declared.record.Record.TheVariants.{Want, Aim}
use Rattle.sa_shapes.specs.declared.look.Look.{Look}
use Rattle.sa_shapes.specs.declared.look.Look.TheVariants.{Unowned, Thread, Package, Placed, GoesOn, List as AtList, Idle, Section}
use Rattle.sa_shapes.specs.declared.shape.Track.{Track}
use Rattle.sa_shapes.specs.declared.shape.Track.TheVariants as track
use Rattle.sa_shapes.specs.declared.shape.Shown.{Shown}
use Rattle.sa_shapes.specs.declared.shape.Shown.TheVariants as shown
use Rattle.sa_shapes.specs.Look.{look_after, same_look}
use Rattle.sa_shapes.specs.Change.{is_space, is_aimed, with_aim, look_change, demand_change, both, aims_change, aimed_change, change}

same : (n : ℕ) → eqb n n ≡ true
same n = eq-eqb n n refl

-- a look is the same as itself
own_look : (look : Look) → same_look look look ≡ true
own_look Unowned = refl
own_look (Thread s t) = and_from _ _ (same s.0) (same t.0)
own_look (Package s) = same s.0
own_look (Placed s) = same s.0
own_look (GoesOn s) = same s.0
own_look (AtList s l) = and_from _ _ (same s.0) (same l.0)
own_look (Idle s) = same s.0
own_look (Section s) = same s.0

look_differs : (look next : Look) (v : Shown) → look_change look next ≡ Some v → v ≢ shown.Look look
look_differs look next v is e =
    (elim (same_look look next) as (λ (b : Bool). b ≡ same_look look next → cond b None (Some (shown.Look next)) ≡ Some v → ⊥) [
      | true ↦ λ was given. cc
      | false ↦ λ was given.
          let alike : next ≡ look = cc in
          let own : same_look look next ≡ true = ap (same_look look) alike ∙ own_look look in
          cc
    ]) refl is

demand_differs : (s : SpaceNo) (n : ℕ) (what : Record) (v : Shown) → demand_change s n what ≡ Some v → v ≢ shown.Demand n
demand_differs s n (Want u m) v is e =
    (elim (eqb u.0 s.0 && not (eqb m n)) as (λ (b : Bool). b ≡ (eqb u.0 s.0 && not (eqb m n)) → cond b (Some (shown.Demand m)) None ≡ Some v → ⊥) [
      | true ↦ λ was given.
          let alike : m ≡ n = cc in
          let own : eqb m n ≡ true = ap (λ k. eqb m k) (sym alike) ∙ same m in
          let other : not (eqb m n) ≡ true = (and_parts _ _ (sym was)).1 in
          let no : not true ≡ true = ap not (sym own) ∙ other in
          cc
      | false ↦ λ was given. cc
    ]) refl is
demand_differs s n other v is e = cc

both_own : (b : Bool) → both b b ≡ true
both_own true = refl
both_own false = refl

aims_differ : (p : ProcNo) (aims next : List Bool) (v : Shown) → aims_change p aims next ≡ Some v → v ≢ shown.Aimed aims
aims_differ p aims next v is e =
    (elim (both (is_aimed aims p) (is_aimed next p)) as (λ (b : Bool). b ≡ both (is_aimed aims p) (is_aimed next p)
    → cond b None (Some (shown.Aimed next)) ≡ Some v → ⊥) [
      | true ↦ λ was given. cc
      | false ↦ λ was given.
          let alike : next ≡ aims = cc in
          let own : both (is_aimed aims p) (is_aimed next p) ≡ true = ap (λ l. both (is_aimed aims p) (is_aimed l p)) alike ∙ both_own (is_aimed aims p) in
          cc
    ]) refl is

aimed_differs : (s : SpaceNo) (aims : List Bool) (what : Record) (v : Shown) → aimed_change s aims what ≡ Some v → v ≢ shown.Aimed aims
aimed_differs s aims (Aim p u) v is e = aims_differ p aims (with_aim aims p (is_space s u)) v is e
aimed_differs s aims other v is e = cc

lane_differs : (b : Bool) (look : Look) (next : Look) (v : Shown) → cond b (look_change look next) None ≡ Some v → v ≢ shown.Look look
lane_differs true look next v is e = look_differs look next v is e
lane_differs false look next v is e = cc

-- what a track shows from a change on is another thing than before it
pub change_differs : (t : Track) (u v : Shown) (i : Item) → change t u i ≡ Some v → v ≢ u
change_differs (track.Lane p) (shown.Look look) v i is e = lane_differs (eqb i.proc.0 p.0) look (look_after look i.what) v is e
change_differs (track.Demand s) (shown.Demand n) v i is e = demand_differs s n i.what v is e
change_differs (track.Aimed s) (shown.Aimed aims) v i is e = aimed_differs s aims i.what v is e
change_differs t u v i is e = cc
