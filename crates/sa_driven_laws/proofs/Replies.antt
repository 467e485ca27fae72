-- What each reply does that is a step of one record.
use Rattle.std.proofs.Common.{◌≡◌, ◌≢◌, ℕ, ◌<◌, true, false, ◌||◌, ◌&&◌, List, ◌∷◌, length, Some, refl, sym, ap, ◌∙◌, subst, inl, inr, ◌⊎◌, arith}
use Rattle.std.proofs.Math.Bool.{or-false}
use Rattle.sa_base.specs.declared.context.Seen.{Seen}
use Rattle.sa_base.specs.declared.number.ActNo.{ActNo}
use Rattle.sa_base.specs.declared.number.ProcNo.{ProcNo}
use Rattle.sa_base.specs.declared.number.ThreadNo.{ThreadNo}
use Rattle.sa_base.specs.declared.record.Record.{Record}
use Rattle.sa_lemmas.specs.Function.{put}
use Rattle.sa_spaces.specs.Workload.{WorkloadView}
use Rattle.sa_fast.specs.Rest.{one_where, is_carried as is_kept, place_at}
use Rattle.sa_fast.specs.Threads.{is_loaded}
use Rattle.sa_fast.specs.declared.shared.Shared.{Shared}
use Rattle.sa_fast.specs.declared.threads.Block.{Block}
use Rattle.sa_fast.specs.declared.threads.KeptPlace.{KeptPlace}
use Rattle.sa_fast.specs.declared.threads.KeptPlace.TheVariants as fast
use Rattle.sa_abstract.specs.Calls.{Contexts}
use Rattle.sa_abstract.specs.Setting.{Setting}
use Rattle.sa_package_model.specs.Rules.{placed}
use Rattle.sa_driven_model.specs.declared.context.DrivenContext.{DrivenContext}
use Rattle.sa_driven_model.specs.declared.space.DrivenSpace.{DrivenSpace}
use Rattle.sa_driven_model.specs.Context.{has_hand, is_bound, hints}
use Rattle.sa_driven_model.specs.Threads.{has}
use Rattle.sa_laws.specs.Any.{is_inside_any}
use Rattle.sa_laws.specs.Life.{Life}
use Rattle.sa_laws.specs.Readings.{Readings, untold_of}
use Rattle.sa_laws.specs.State.{SpaceState, Thread, space_at, thread_in, thread_at, put_thread, placed as put_in, is_active, active_threads}
use Rattle.sa_laws.specs.declared.place.Place.{Place}
use Rattle.sa_laws.specs.declared.place.Place.TheVariants as place
use Rattle.sa_user_laws.specs.Scene.{event_begun_at}
use Rattle.sa_user_laws.specs.Steps.{event_with}
use Rattle.sa_fast_laws.proofs.relation.Places.{space-here, thread-here, thread-there, active-with, block-here, block-there, loaded-placed, fits-placed, same-threads, load-moves}
use Rattle.sa_fast_laws.specs.FastFits.{SitsIn, FitsShared}
use Rattle.sa_fast_laws.specs.Stage.{Runs, stage_on, stage_of, is_gone, is_running, place_of, kept_of}
use Rattle.sa_driven_laws.specs.Life.{in_hand, is_own, HasLife}
use Rattle.sa_driven_laws.specs.DrivenFits.{Holds}
use Rattle.sa_driven_laws.proofs.Changed.{life-here}
use Rattle.sa_driven_laws.proofs.Inside.{inside-settled}
use Rattle.sa_driven_laws.proofs.Moves.{IsBehind}
use Rattle.sa_driven_laws.proofs.Moves as moves
use Rattle.sa_driven_laws.proofs.Scenes.{IsScene}
use Rattle.sa_driven_laws.proofs.Scenes as scene
use Rattle.sa_driven_laws.proofs.Turned.{IsTurned}

module _ (set : Setting) (e : ℕ) (u : DrivenSpace) (cs : Contexts DrivenContext) (w : WorkloadView) (r : Readings) (p : ProcNo) (a : ActNo) (life : Life)
    (c : DrivenContext) (seen : Seen) (i : IsScene set e u cs w r p a life c seen) where
  abbrev r0 : Readings
  r0 = event_begun_at w seen.event p r

  k0 : Holds set.space (event_begun_at w seen.event p r) u.base.shared cs
  k0 = moves.k0 set e u cs w r p a life c seen i

  l : HasLife set.space u.base.shared (space_at r.state set.space) (stage_of r0 set.space a life) c life
  l = life-here set.space r0 u.base.shared cs k0 a c life i.on.mine i.on.is

  pub stage : stage_of (event_begun_at w seen.event p r) set.space a life ≡ Runs
  stage = (k0.runs p a life i.on.runs i.on.is i.on.space).2

  pub proc : life.proc ≡ p
  proc = i.on.proc

  known : set.space.0 < length r.state.spaces
  known = scene.known set e u cs w r p a life c seen i

  pub hand-is : (n : ℕ) → in_hand life.hand n ≡ has c.hand n
  hand-is n = l.hand n ∙ ap (λ g. has c.hand n || (is_gone g && is_own c.thread n)) stage ∙ or-false (has c.hand n)

  pub unlowered : c.lowers ≡ false
  unlowered = (i.fits.rest a c life i.on.mine i.on.is).lowers

  -- what its life is after a step: its locks, its cont and its hand are those of the context
  pub record IsOf (now : Life) (new : DrivenContext) : Type 0 where
    pub space : now.space ≡ life.space
    pub proc : now.proc ≡ life.proc
    pub thread : now.thread ≡ life.thread
    pub locks : length now.locks ≡ new.locks
    pub cont : now.cont ≡ new.continues
    pub hand : (n : ℕ) → in_hand now.hand n ≡ has new.hand n

  pub own-life : (v : Shared) (y : SpaceState) (now : Life) (new : DrivenContext) → IsOf now new
      → ((t : ThreadNo) → new.thread ≡ Some t → ((thread_in y t).place ≡ place.Running p) × (place_at v t.0 ≡ fast.Running))
      → HasLife set.space v y (stage_of r0 set.space a now) new now
  own-life v y now new o places =
      let now_runs : stage_of r0 set.space a now ≡ Runs = ap (stage_on r0 set.space a) o.proc ∙ stage in record {
        space = o.space ∙ i.on.space;
        locks = o.locks;
        cont = o.cont;
        hand = λ n. o.hand n ∙ sym (ap (λ g. has new.hand n || (is_gone g && is_own new.thread n)) now_runs ∙ or-false (has new.hand n));
        place = λ t at. (places t at).0 ∙ sym (ap (λ g. place_of g now.proc) now_runs ∙ ap place.Running (o.proc ∙ proc));
        kept = λ t at. (places t at).1 ∙ sym (ap kept_of now_runs);
        named = λ no. absurd (let yes = ap is_running now_runs in cc);
      }

  -- WHERE NO THREAD MOVES
  pub stay : (q : Readings) (now : Life) (new : DrivenContext) → q.state ≡ r.state → q.untold ≡ r.untold → q.running ≡ r.running
      → q.lives ≡ put r.lives a.0 (Some now) → IsOf now new → new.thread ≡ c.thread
      → IsTurned set.space (event_begun_at w seen.event p r) q u.base.shared u.base.shared a c new now
  stay q now new state untold running lives o thread = record {
    space = subst (λ z. FitsShared u.base.shared (space_at z set.space)) (sym state) k0.space;
    load =
        let moves = load-moves r0 q set.space (same-threads r0 q a life now i.on.is lives o.thread)
        (ap (λ (ls : _). untold_of (record r { untold = ls }) set.space) untold) in
        let active : active_threads (space_at q.state set.space) ≡ active_threads (space_at r.state set.space) =
        ap (λ z. active_threads (space_at z set.space)) state in
        let was = k0.load in omega (arith, moves, active, was);
    was = life;
    old = i.on.is;
    lives = lives;
    proc = o.proc;
    of = i.on.space;
    untold = ap (λ (ls : _). untold_of (record r { untold = ls }) set.space) untold;
    running = running;
    own = own-life u.base.shared (space_at q.state set.space) now new o (λ t at. (
      ap (λ z. (thread_in (space_at z set.space) t).place) state ∙ l.place t (sym thread ∙ at) ∙ ap (λ g. place_of g life.proc) stage ∙ ap place.Running proc,
      l.kept t (sym thread ∙ at) ∙ ap kept_of stage,
    ));
    places = λ t is other. (ap (λ z. (thread_in (space_at z set.space) t).place) state, refl);
  }

  -- WHERE ONE THREAD MOVES
  pub record IsPlaced (q : Readings) (t : ThreadNo) (kp : KeptPlace) (lp : Place) (now : Life) (new : DrivenContext) : Type 0 where
    pub state : q.state ≡ put_in r.state set.space t lp
    pub untold : q.untold ≡ r.untold
    pub running : q.running ≡ r.running
    pub lives : q.lives ≡ put r.lives a.0 (Some now)
    pub is-of : IsOf now new
    pub made : t.0 < u.base.shared.state.lists.made
    pub below : t.0 < length u.base.shared.threads
    pub sits : SitsIn kp lp
    pub before : is_loaded (place_at u.base.shared t.0) ≡ is_active (thread_at r.state set.space t).place
    pub after : is_loaded kp ≡ is_active lp
    -- its own thread is this one, or another that stays
    pub own : (n : ThreadNo) → new.thread ≡ Some n → ((n.0 ≡ t.0) × (lp ≡ place.Running p) × (kp ≡ fast.Running)) ⊎ ((n.0 ≢ t.0) × (c.thread ≡ Some n))
    pub apart : (n : ThreadNo) → is_kept (place_at u.base.shared n.0) ≡ true → ((m : ThreadNo) → c.thread ≡ Some m → n.0 ≢ m.0) → n.0 ≢ t.0

  pub place-turned : (q : Readings) (t : ThreadNo) (kp : KeptPlace) (lp : Place) (now : Life) (new : DrivenContext) → IsPlaced q t kp lp now new
      → IsTurned set.space (event_begun_at w seen.event p r) q u.base.shared (placed u.base.shared (Some t) kp) a c new now
  place-turned q t kp lp now new z =
      let x = u.base.shared in
      let y = space_at r.state set.space in
      let inside : t.0 < length y.threads = (let all = k0.space.made in let made = z.made in omega (arith, all, made)) in
      let state_is : space_at q.state set.space ≡ put_thread lp y t = ap (λ m. space_at m set.space) z.state ∙ space-here r.state set.space (put_thread lp y t) known in
      let here : (thread_in (space_at q.state set.space) t).place ≡ lp =
      ap (λ m. (thread_in m t).place) state_is ∙ ap (λ (m : Thread). m.place) (thread-here y t _ inside) in
      let there : (n : ThreadNo) → n.0 ≢ t.0 → (thread_in (space_at q.state set.space) n).place ≡ (thread_in y n).place =
      λ n ne. ap (λ m. (thread_in m n).place) state_is ∙ ap (λ (m : Thread). m.place) (thread-there y t n _ ne) in
      let kept_here : place_at (placed x (Some t) kp) t.0 ≡ kp = ap (λ (b : Block). b.place) (block-here x t kp z.below) in
      let kept_there : (n : ThreadNo) → n.0 ≢ t.0 → place_at (placed x (Some t) kp) n.0 ≡ place_at x n.0 =
      λ n ne. ap (λ (b : Block). b.place) (block-there x t kp n.0 ne) in
      record {
        space = subst (FitsShared (placed x (Some t) kp)) (sym state_is) (fits-placed x y t kp lp z.made z.below z.sits k0.space);
        load =
            let moves = load-moves r0 q set.space (same-threads r0 q a life now i.on.is z.lives z.is-of.thread)
            (ap (λ (ls : _). untold_of (record r { untold = ls }) set.space) z.untold) in
            let active : active_threads (space_at q.state set.space) ≡ active_threads (put_thread lp y t) = ap active_threads state_is in
            let more = active-with y t (record (thread_in y t) { place = lp }) inside in
            let loads = loaded-placed x t kp z.below in
            let first : one_where (is_loaded (place_at x t.0)) ≡ one_where (is_active (thread_in y t).place) = ap one_where z.before in
            let then : one_where (is_loaded kp) ≡ one_where (is_active lp) = ap one_where z.after in
            let was = k0.load in omega (arith, moves, active, more, loads, first, then, was);
        was = life;
        old = i.on.is;
        lives = z.lives;
        proc = z.is-of.proc;
        of = i.on.space;
        untold = ap (λ (ls : _). untold_of (record r { untold = ls }) set.space) z.untold;
        running = z.running;
        own = own-life (placed x (Some t) kp) (space_at q.state set.space) now new z.is-of (λ n at. elim (z.own n at) [
          | inl it ↦
              let act : n ≡ t = ap (λ m. record { 0 = m }) it.0 in (
                ap (λ m. (thread_in (space_at q.state set.space) m).place) act ∙ here ∙ it.1,
                ap (λ (m : ThreadNo). place_at (placed x (Some t) kp) m.0) act ∙ kept_here ∙ it.2,
              )
          | inr other ↦ (
            there n other.0 ∙ l.place n other.1 ∙ ap (λ g. place_of g life.proc) stage ∙ ap place.Running proc,
            kept_there n other.0 ∙ l.kept n other.1 ∙ ap kept_of stage,
          )
        ]);
        places = λ n is other. let ne = z.apart n is other in (there n ne, kept_there n ne);
      }

  -- WHO IS IN after a step that settles
  pub settled-inside : (x : Record) (xs : List Record) (v : DrivenSpace) (new : DrivenContext) (now : Life) → v.base.processors ≡ u.base.processors
      → (q : Readings) (closing : List Record) (last : Readings) → IsBehind set seen.event v (put cs a.0 (Some new)) a new now seen q last
      → is_inside_any w r (event_with seen.event p (x ∷ xs) closing) last true now ≡ (has_hand v new || is_bound new || hints v seen new)
  settled-inside x xs v new now same q closing last b =
      inside-settled set seen.event v (put cs a.0 (Some new)) b.stands last b.holds a new b.mine now b.there (ap is_gone b.stage) w seen
      (same ∙ scene.processors set e u cs w r p a life c seen i) b.demand b.taken b.carries r (event_with seen.event p (x ∷ xs) closing)
