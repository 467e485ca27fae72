-- A step of one life by which one thread of its hand goes to another place.
use Rattle.std.proofs.Common.{◌≡◌, ◌≢◌, ℕ, ◌≤◌, ◌<◌, length, Some, sym, ap, ◌∙◌, subst, arith}
use Rattle.sa_base.specs.declared.number.ActNo.{ActNo}
use Rattle.sa_base.specs.declared.number.SpaceNo.{SpaceNo}
use Rattle.sa_base.specs.declared.number.ThreadNo.{ThreadNo}
use Rattle.sa_lemmas.specs.Function.{put}
use Rattle.sa_links.specs.Lists.{list_at}
use Rattle.sa_fast.specs.Rest.{one_where, empty_at, place_at}
use Rattle.sa_fast.specs.Threads.{block_at, is_loaded, load_of as loaded}
use Rattle.sa_fast.specs.declared.threads.Block.{Block}
use Rattle.sa_fast.specs.declared.threads.KeptPlace.{KeptPlace}
use Rattle.sa_abstract.specs.Calls.{Contexts}
use Rattle.sa_abstract.specs.Setting.{Setting}
use Rattle.sa_package_model.proofs.Holding.{own_made, own_below}
use Rattle.sa_package_model.specs.Hands.{threads_of, name_of}
use Rattle.sa_package_model.specs.Rules.{placed, load}
use Rattle.sa_package_model.specs.Stands.{IsStanding}
use Rattle.sa_package_model.specs.declared.context.Context.{Context}
use Rattle.sa_package_model.specs.declared.package.Package.{Package}
use Rattle.sa_laws.specs.Life.{Life}
use Rattle.sa_laws.specs.Readings.{Readings, untold_of, life_of}
use Rattle.sa_laws.specs.State.{Thread, space_at, thread_in, thread_at, is_active, active_threads, put_thread, placed as put_in}
use Rattle.sa_laws.specs.declared.place.Place.{Place}
use Rattle.sa_fast_laws.proofs.relation.OneLife.{IsHeld}
use Rattle.sa_fast_laws.proofs.relation.Places.{space-here, thread-here, thread-there, active-with, block-here, block-there, loaded-placed, fits-placed, same-threads, load-moves}
use Rattle.sa_fast_laws.specs.FastFits.{FitsThread, FitsShared, SitsIn, Holds}
use Rattle.sa_fast_laws.specs.Life.{HasLife}
use Rattle.sa_fast_laws.specs.Stage.{stage_of}
use Rattle.sa_fast_laws.specs.View.{view}

pub record IsMoved (s : SpaceNo) (r q : Readings) (u v : Package) (a : ActNo) (c new : Context) (t : ThreadNo) (kp : KeptPlace) (lp : Place) : Type 0 where
  pub state : q.state ≡ put_in r.state s t lp
  pub untold : untold_of q s ≡ untold_of r s
  pub running : q.running ≡ r.running
  pub was : Life
  pub old : life_of r a ≡ Some was
  pub life : Life
  pub lives : q.lives ≡ put r.lives a.0 (Some life)
  pub stays : (life.space ≡ was.space) × (life.proc ≡ was.proc) × (life.thread ≡ was.thread)
  pub threads : v.shared.threads ≡ (placed u.shared (Some t) kp).threads
  pub sync : v.shared.sync ≡ u.shared.sync
  pub made : v.shared.state.lists.made ≡ u.shared.state.lists.made
  pub works : (l : ℕ) → name_of (Some c) l ≡ 0 → empty_at u.shared.works l ≡ 0 → list_at v.shared.works l ≡ list_at u.shared.works l
  -- the thread: it is in the hand, and the load changes alike
  pub hand : 1 ≤ threads_of u.shared.works (Some c) t.0
  pub sits : SitsIn kp lp
  pub before : is_loaded (place_at u.shared t.0) ≡ is_active (thread_at r.state s t).place
  pub after : is_loaded kp ≡ is_active lp

-- what is so of the places after it
pub record PlacesAre (s : SpaceNo) (r q : Readings) (u v : Package) (t : ThreadNo) (kp : KeptPlace) (lp : Place) : Type 0 where
  pub here : (thread_in (space_at q.state s) t).place ≡ lp
  pub there : (n : ThreadNo) → n.0 ≢ t.0 → (thread_in (space_at q.state s) n).place ≡ (thread_in (space_at r.state s) n).place
  pub kept_here : place_at v.shared t.0 ≡ kp
  pub kept_there : (n : ThreadNo) → n.0 ≢ t.0 → place_at v.shared n.0 ≡ place_at u.shared n.0

module _ (set : Setting) (e : ℕ) (u : Package) (cs : Contexts Context) (h : IsStanding set e u cs) (s : SpaceNo) (r q : Readings) (v : Package)
    (k : Holds s r u cs)
    (a : ActNo) (c new : Context) (is : cs a.0 ≡ Some c) (known : s.0 < length r.state.spaces) (t : ThreadNo) (kp : KeptPlace) (lp : Place)
    (i : IsMoved s r q u v a c new t kp lp) where
  made : t.0 < u.shared.state.lists.made
  made = own_made set e u cs h a.0 c is t.0 i.hand

  below : t.0 < length u.shared.threads
  below = let less = own_below set e u cs h a.0 c is t.0 i.hand in let all = h.parts.blocks in omega arith

  inside : t.0 < length (space_at r.state s).threads
  inside = let all = k.space.made in let less = made in omega arith

  state_is : space_at q.state s ≡ put_thread lp (space_at r.state s) t
  state_is = ap (λ x. space_at x s) i.state ∙ space-here r.state s (put_thread lp (space_at r.state s) t) known

  pub moved-places : PlacesAre s r q u v t kp lp
  moved-places = record {
    here = ap (λ x. (thread_in x t).place) state_is ∙ ap (λ (x : Thread). x.place) (thread-here (space_at r.state s) t _ inside);
    there = λ n ne. ap (λ x. (thread_in x n).place) state_is ∙ ap (λ (x : Thread). x.place) (thread-there (space_at r.state s) t n _ ne);
    kept_here = ap (λ bs. (block_at bs t.0).place) i.threads ∙ ap (λ (b : Block). b.place) (block-here u.shared t kp below);
    kept_there = λ n ne. ap (λ bs. (block_at bs n.0).place) i.threads ∙ ap (λ (b : Block). b.place) (block-there u.shared t kp n.0 ne);
  }

  not_here : (n : ThreadNo) → threads_of u.shared.works (Some c) n.0 ≡ 0 → n.0 ≢ t.0
  not_here n none same =
      absurd
      (let some = i.hand in let at_t : threads_of u.shared.works (Some c) t.0 ≡ 0 = subst (λ m. threads_of u.shared.works (Some c) m ≡ 0) same none in
      omega arith)

  pub moved-held : HasLife s v.shared (space_at q.state s) (stage_of r s a i.life) (view new) i.life → IsHeld s r q u v a c new
  moved-held mine =
      let fits = fits-placed u.shared (space_at r.state s) t kp lp made below i.sits k.space in
      let places = moved-places in
      record {
        space = subst (FitsShared v.shared) (sym state_is) (record {
          made = fits.made ∙ sym i.made;
          threads =
              λ n less. subst (λ bs. FitsThread (block_at bs n.0) (thread_in (put_thread lp (space_at r.state s) t) n)) (sym i.threads)
              (fits.threads n (let same = i.made in omega arith));
          sync = fits.sync ∙ sym i.sync;
        });
        load =
            let moves = load-moves r q s (same-threads r q a i.was i.life i.old i.lives i.stays.2) i.untold in
            let active : active_threads (space_at q.state s) ≡ active_threads (put_thread lp (space_at r.state s) t) = ap active_threads state_is in
            let more = active-with (space_at r.state s) t (record (thread_in (space_at r.state s) t) { place = lp }) inside in
            let loads = loaded-placed u.shared t kp below in
            let now : load v ≡ loaded (placed u.shared (Some t) kp).threads = ap loaded i.threads in
            let first : one_where (is_loaded (place_at u.shared t.0)) ≡ one_where (is_active (thread_in (space_at r.state s) t).place) =
            ap one_where i.before in
            let then : one_where (is_loaded kp) ≡ one_where (is_active lp) = ap one_where i.after in
            let was = k.load in omega arith;
        was = i.was;
        life = i.life;
        lives = i.lives;
        old = i.old;
        stays = (i.stays.0, i.stays.1);
        untold = i.untold;
        running = i.running;
        mine = mine;
        places = λ n rest none. places.there n (not_here n none);
        kept = λ n rest none. places.kept_there n (not_here n none);
        works = i.works;
      }
