-- A step of one life by which no thread goes to another place.
use Rattle.std.proofs.Common.{◌≡◌, ℕ, ◌≤◌, Some, sym, ap, ◌∙◌, subst, arith}
use Rattle.sa_base.specs.declared.number.ActNo.{ActNo}
use Rattle.sa_base.specs.declared.number.SpaceNo.{SpaceNo}
use Rattle.sa_lemmas.specs.Function.{put}
use Rattle.sa_links.specs.Lists.{list_at}
use Rattle.sa_fast.specs.Rest.{empty_at}
use Rattle.sa_fast.specs.Threads.{block_at, load_of as loaded}
use Rattle.sa_abstract.specs.Calls.{Contexts}
use Rattle.sa_package_model.specs.Context.{carried_by}
use Rattle.sa_package_model.specs.Hands.{name_of}
use Rattle.sa_package_model.specs.Rules.{load}
use Rattle.sa_package_model.specs.declared.context.Context.{Context}
use Rattle.sa_package_model.specs.declared.package.Package.{Package}
use Rattle.sa_laws.specs.Life.{Life}
use Rattle.sa_laws.specs.Readings.{Readings, untold_of, life_of}
use Rattle.sa_laws.specs.State.{space_at, thread_in, active_threads}
use Rattle.sa_fast_laws.proofs.relation.OneLife.{IsHeld}
use Rattle.sa_fast_laws.proofs.relation.Places.{same-threads, load-moves}
use Rattle.sa_fast_laws.proofs.relation.ThreadsBeside.{life-here}
use Rattle.sa_fast_laws.specs.FastFits.{FitsThread, FitsShared, Holds}
use Rattle.sa_fast_laws.specs.Life.{stopped_in, locks_had, HasHand}
use Rattle.sa_fast_laws.specs.Stage.{stage_on, stage_of, is_gone, is_running, place_of, kept_of}
use Rattle.sa_fast_laws.specs.View.{view, in_copy}

pub record IsStill (s : SpaceNo) (r q : Readings) (u v : Package) (a : ActNo) (c new : Context) : Type 0 where
  pub space : space_at q.state s ≡ space_at r.state s
  pub untold : untold_of q s ≡ untold_of r s
  pub running : q.running ≡ r.running
  pub was : Life
  pub old : life_of r a ≡ Some was
  pub life : Life
  pub lives : q.lives ≡ put r.lives a.0 (Some life)
  pub stays : (life.space ≡ was.space) × (life.proc ≡ was.proc) × (life.thread ≡ was.thread)
  -- the package
  pub threads : v.shared.threads ≡ u.shared.threads
  pub sync : v.shared.sync ≡ u.shared.sync
  pub made : v.shared.state.lists.made ≡ u.shared.state.lists.made
  pub works : (l : ℕ) → name_of (Some c) l ≡ 0 → empty_at u.shared.works l ≡ 0 → list_at v.shared.works l ≡ list_at u.shared.works l
  -- what the life has
  pub carries : carried_by new.state ≡ carried_by c.state
  pub sections : (t : ℕ) → 1 ≤ stopped_in new.sections t → 1 ≤ stopped_in c.sections t
  pub locks : life.locks ≡ locks_had (view new)
  pub cont : life.cont ≡ in_copy new.state
  pub hand : HasHand v.shared.works (view new) (is_gone (stage_of r s a life)) life.hand

module _ (s : SpaceNo) (r q : Readings) (u v : Package) (cs : Contexts Context) (k : Holds s r u cs) (a : ActNo) (c new : Context)
    (is : cs a.0 ≡ Some c) where
  pub still-held : IsStill s r q u v a c new → IsHeld s r q u v a c new
  still-held i =
      let l = life-here s r u cs k a c i.was is i.old in
      let stage : stage_of r s a i.life ≡ stage_of r s a i.was = ap (stage_on r s a) i.stays.1 in
      record {
        space = subst (FitsShared v.shared) (sym i.space) (record {
          made = k.space.made ∙ sym i.made;
          threads =
              λ t below. subst (λ bs. FitsThread (block_at bs t.0) (thread_in (space_at r.state s) t)) (sym i.threads)
              (k.space.threads t (let same = i.made in omega arith));
          sync = k.space.sync ∙ sym i.sync;
        });
        load =
            let moves = load-moves r q s (same-threads r q a i.was i.life i.old i.lives i.stays.2) i.untold in
            let active : active_threads (space_at q.state s) ≡ active_threads (space_at r.state s) = ap active_threads i.space in
            let loads : load v ≡ load u = ap loaded i.threads in
            let was = k.load in omega arith;
        was = i.was;
        life = i.life;
        lives = i.lives;
        old = i.old;
        stays = (i.stays.0, i.stays.1);
        untold = i.untold;
        running = i.running;
        mine = record {
          space = i.stays.0 ∙ l.space;
          locks = i.locks;
          cont = i.cont;
          hand = i.hand;
          place = λ t at. ap (λ x. (thread_in x t).place) i.space ∙ l.place t (sym i.carries ∙ at)
              ∙ ap (λ g. place_of g i.was.proc) (sym stage) ∙ ap (place_of (stage_of r s a i.life)) (sym i.stays.1);
          kept = λ t at. ap (λ bs. (block_at bs t.0).place) i.threads ∙ l.kept t (sym i.carries ∙ at) ∙ ap kept_of (sym stage);
          stopped = λ t some. ap (λ bs. (block_at bs t.0).place) i.threads ∙ l.stopped t (i.sections t.0 some);
          named = λ no. i.stays.2 ∙ l.named (ap is_running (sym stage) ∙ no) ∙ sym i.carries;
        };
        places = λ t rest none. ap (λ x. (thread_in x t).place) i.space;
        kept = λ t rest none. ap (λ bs. (block_at bs t.0).place) i.threads;
        works = i.works;
      }
