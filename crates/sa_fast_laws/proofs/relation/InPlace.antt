-- A step of one life by which only what its thread has changes, not where it is.
use Rattle.std.proofs.Common.{◌≡◌, ℕ, Option, None, slice_index_or, sym, ap, ◌∙◌, subst, arith}
use Rattle.std.specs.Prelude.{◌⊎◌, count_by, ◌≤◌, Contains}
use Rattle.sa_base.specs.declared.number.ActNo.{ActNo}
use Rattle.sa_base.specs.declared.number.SpaceNo.{SpaceNo}
use Rattle.sa_base.specs.declared.number.ThreadNo.{ThreadNo}
use Rattle.sa_base.specs.declared.record.Note.TheVariants.{Preempted, Unblocked}
use Rattle.sa_fast.specs.Rest.{place_at}
use Rattle.sa_abstract.specs.Calls.{Contexts}
use Rattle.sa_package_model.specs.Rules.{load}
use Rattle.sa_package_model.specs.declared.context.Context.{Context}
use Rattle.sa_package_model.specs.declared.package.Package.{Package}
use Rattle.sa_laws.specs.Life.{Life}
use Rattle.sa_laws.specs.Readings.{Readings, life_of, untold_of, stopped_thread}
use Rattle.sa_laws.specs.State.{space_at, thread_in, active_threads}
use Rattle.sa_fast_laws.proofs.relation.OneLife.{other-life}
use Rattle.sa_fast_laws.proofs.relation.Places.{load-moves}
use Rattle.sa_fast_laws.proofs.relation.Stages.{stage-same}
use Rattle.sa_fast_laws.specs.FastFits.{Holds, FitsShared, is_of}
use Rattle.sa_fast_laws.specs.Life.{HasLife, beside}
use Rattle.sa_fast_laws.specs.Stage.{stage_of}
use Rattle.sa_fast_laws.specs.View.{view}

pub record IsInPlace (s : SpaceNo) (r q : Readings) (u v : Package) : Type 0 where
  pub fits : FitsShared v.shared (space_at q.state s)
  pub places : (n : ThreadNo) → (thread_in (space_at q.state s) n).place ≡ (thread_in (space_at r.state s) n).place
  pub active : active_threads (space_at q.state s) ≡ active_threads (space_at r.state s)
  pub loads : load v ≡ load u
  pub kept : (n : ℕ) → place_at v.shared n ≡ place_at u.shared n
  pub works : v.shared.works ≡ u.shared.works
  pub untold : untold_of q s ≡ untold_of r s
  pub running : q.running ≡ r.running
  pub lives : q.lives ≡ r.lives

module _ (s : SpaceNo) (r q : Readings) (u v : Package) (cs : Contexts Context) (i : IsInPlace s r q u v) where
  in_stage : (x : ActNo) (life : Life) → stage_of q s x life ≡ stage_of r s x life
  in_stage x life = stage-same s r q i.untold i.running x life

  in_lives : (x : ActNo) → life_of q x ≡ life_of r x
  in_lives x = ap (λ (f : ℕ → Option Life). f x.0) i.lives

  pub in-place : Holds s r u cs → Holds s q v cs
  in-place k = record {
    space = i.fits;
    load =
        let moves = load-moves r q s (λ x. ap stopped_thread (in_lives x)) i.untold in
        let active = i.active in let loads = i.loads in
        let was = k.load in omega arith;
    lives = λ x d at. let its = k.lives x d at in (
      its.0,
      in_lives x ∙ its.1,
      subst (λ g. HasLife s v.shared (space_at q.state s) g (view d) its.0) (sym (in_stage x its.0))
          (other-life s u.shared v.shared (space_at r.state s) (space_at q.state s) (stage_of r s x its.0) d its.0
          (λ n. ap (λ ws. beside ws (view d) n) i.works) (λ n has. i.places n) (λ n has. i.kept n.0) its.2),
    );
    others = λ x l at of none. k.others x l (sym (in_lives x) ∙ at) of none;
    noted = λ x there. k.noted x (subst (λ ns. Contains ns (Preempted x) ⊎ Contains ns (Unblocked x)) i.untold there);
    single = λ x. subst (λ ns. count_by (is_of x) ns ≤ 1) (sym i.untold) (k.single x);
    runs = λ y x l at its of.
        let old =
        k.runs y x l (sym (ap (λ ps. slice_index_or ps y.0 None) i.running) ∙ at) (sym (in_lives x) ∙ its) of in (old.0, old.1, in_stage x l ∙ old.2);
  }
