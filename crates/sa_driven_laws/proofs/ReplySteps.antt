-- Each reply that is a step of one record is legal.
use Rattle.std.proofs.Common.{◌≡◌, ◌≢◌, ℕ, ◌+◌, ◌-◌, ◌≤◌, ◌<◌, Bool, true, false, ◌||◌, ◌&&◌, nat_lt, List, [], ◌∷◌, ◌++◌, length, length-append, drop, cond, Option, Some, None, is_none, refl, sym, ap, ◌∙◌, subst, inl, inr, ◌⊎◌, arith}
use Rattle.std.specs.Prelude.{◌==◌, if◌then◌else◌}
use Rattle.std.proofs.lemmas.Bool.{cases_eq, ltb-true}
use Rattle.std.proofs.lemmas.Option.{same_Some}
use Rattle.std.proofs.lemmas.List.{get_or-set_same, get_or-set_other}
use Rattle.sa_base.specs.declared.context.Seen.{Seen}
use Rattle.sa_base.specs.declared.number.ActNo.{ActNo}
use Rattle.sa_base.specs.declared.number.ProcNo.{ProcNo}
use Rattle.sa_base.specs.declared.number.SpaceNo.{SpaceNo}
use Rattle.sa_base.specs.declared.number.ThreadNo.{ThreadNo}
use Rattle.sa_base.specs.declared.record.Record.{Record}
use Rattle.sa_base.specs.declared.record.Record.TheVariants as records
use Rattle.sa_lemmas.proofs.FunctionUpdates.{put-self}
use Rattle.sa_lemmas.specs.Function.{put}
use Rattle.sa_spaces.specs.Workload.{WorkloadView}
use Rattle.sa_sync.specs.Sync.{waits_of}
use Rattle.sa_fast.specs.Rest.{one_where, is_ready, is_unmade, is_carried as is_kept, place_at, not_carried}
use Rattle.sa_fast.specs.Threads.{is_loaded}
use Rattle.sa_fast.specs.declared.threads.KeptPlace.{KeptPlace}
use Rattle.sa_fast.specs.declared.threads.KeptPlace.TheVariants as fast
use Rattle.sa_abstract.specs.Calls.{Contexts, Stepped}
use Rattle.sa_abstract.specs.Keeps.{IsStepped}
use Rattle.sa_abstract.specs.Setting.{Setting}
use Rattle.sa_driven_model.proofs.Places.{place_inside}
use Rattle.sa_driven_model.proofs.Rules.{held_made, ready_made, no_thread, own_inside}
use Rattle.sa_driven_model.proofs.Sets.{has_below}
use Rattle.sa_driven_model.proofs.StepRule.{done_if_well}
use Rattle.sa_driven_model.specs.declared.context.DrivenContext.{DrivenContext}
use Rattle.sa_driven_model.specs.declared.reply.Reply.{Reply}
use Rattle.sa_driven_model.specs.declared.reply.Reply.TheVariants as reply
use Rattle.sa_driven_model.specs.declared.space.DrivenSpace.{DrivenSpace}
use Rattle.sa_driven_model.specs.Context.{settled, says_idle}
use Rattle.sa_driven_model.specs.Reply.{can, is_held, can_cont}
use Rattle.sa_driven_model.specs.Stands.{driven_stands, handed_at}
use Rattle.sa_driven_model.specs.Step.{did, done, idles, moved, handed_over, picked_up, carries}
use Rattle.sa_driven_model.specs.Threads.{has, with_some, without_thread}
use Rattle.sa_laws.specs.Any.{is_handed, is_heard, IsOnList}
use Rattle.sa_laws.specs.Life.{Life, Lock, without_lock, with_first, change_first, readied, ran, with_cont, without_thread as left}
use Rattle.sa_laws.specs.Readings.{Readings}
use Rattle.sa_laws.specs.Record.{after_record, back_with, made_ready, locks, one_thread}
use Rattle.sa_laws.specs.State.{space_at, thread_at, runner_of, is_active, is_carried, is_due, is_waiting}
use Rattle.sa_laws.specs.Step.{NobodyRuns, CanBeReady}
use Rattle.sa_laws.specs.declared.place.Place.{Place}
use Rattle.sa_laws.specs.declared.place.Place.TheVariants as place
use Rattle.sa_user_laws.specs.Scene.{event_begun_at}
use Rattle.sa_user_laws.specs.Steps.{event_with}
use Rattle.sa_fast_laws.proofs.relation.Places.{life-changed}
use Rattle.sa_fast_laws.specs.FastFits.{SitsIn}
use Rattle.sa_fast_laws.specs.Stage.{is_gone, place_of, kept_of, stage_of}
use Rattle.sa_driven_laws.specs.Life.{in_hand, HasLife}
use Rattle.sa_driven_laws.specs.DrivenFits.{Holds}
use Rattle.sa_driven_laws.proofs.Ceases.{own-is}
use Rattle.sa_driven_laws.proofs.Changed.{life-here}
use Rattle.sa_driven_laws.proofs.Handed.{handed-is, heard-of}
use Rattle.sa_driven_laws.proofs.Inside.{hand-append, hand-without, hand-others, inside-idle}
use Rattle.sa_driven_laws.proofs.Moves.{IsLegal, IsMove, move-legal}
use Rattle.sa_driven_laws.proofs.Moves as moves
use Rattle.sa_driven_laws.proofs.Replies.{IsOf, stay, place-turned, settled-inside, hand-is, unlowered}
use Rattle.sa_driven_laws.proofs.Replies as replies
use Rattle.sa_driven_laws.proofs.Runners.{carried-made, carried-not, made-below}
use Rattle.sa_driven_laws.proofs.Scenes.{IsScene}
use Rattle.sa_driven_laws.proofs.Scenes as scene
use Rattle.sa_driven_laws.proofs.Told.{has-some}

-- LOCKS: one less; the first one changed
fewer : (ls : List Lock) (n : ℕ) → length ls ≡ n → length (drop 1 ls) ≡ n - 1
fewer [] n is = omega (arith, is)
fewer (x ∷ xs) n is = omega (arith, is)

first-length : (f : Lock → Lock) (ls : List Lock) → length (change_first f ls) ≡ length ls
first-length f [] = refl
first-length f (x ∷ xs) = refl

-- PLACES
abbrev zero_if : Bool → ℕ
zero_if b = if b then 0 else 1

ready-is : (p : KeptPlace) → is_ready p ≡ true → p ≡ fast.Ready
ready-is fast.Ready is = refl
ready-is _ is = absurd cc

carried-is : (p : KeptPlace) → is_held p ≡ true → p ≡ fast.Carried
carried-is fast.Carried is = refl
carried-is _ is = absurd cc

and-both : (a b : Bool) → (a && b) ≡ true → (a ≡ true) × (b ≡ true)
and-both true true e = (refl, refl)
and-both true false e = absurd cc
and-both false b e = absurd cc

or-one : (a b : Bool) → (a || b) ≡ true → (a ≡ true) ⊎ (b ≡ true)
or-one true b e = inl refl
or-one false b e = inr e

put-down : (x : Place) → is_carried x ≡ true → x ≡ place.Carried
put-down place.Carried is = refl
put-down _ is = absurd cc

waits-so : (x : Place) → is_waiting x ≡ true → x ≡ place.Waiting
waits-so place.Waiting is = refl
waits-so _ is = absurd cc

zero-is : (b : Bool) → one_where b ≡ 0 → b ≡ false
zero-is true is = absurd (omega (arith, is))
zero-is false is = refl

module _ (set : Setting) (e : ℕ) (u : DrivenSpace) (cs : Contexts DrivenContext) (w : WorkloadView) (r : Readings) (p : ProcNo) (a : ActNo) (life : Life)
    (c : DrivenContext) (seen : Seen) (i : IsScene set e u cs w r p a life c seen) where
  abbrev r0 : Readings
  r0 = event_begun_at w seen.event p r

  k0 : Holds set.space (event_begun_at w seen.event p r) u.base.shared cs
  k0 = moves.k0 set e u cs w r p a life c seen i

  l : HasLife set.space u.base.shared (space_at r.state set.space) (stage_of (event_begun_at w seen.event p r) set.space a life) c life
  l = life-here set.space r0 u.base.shared cs k0 a c life i.on.mine i.on.is

  abbrev pub Legal : Stepped DrivenSpace DrivenContext → Type 0
  Legal st = IsLegal w set r p seen.event a cs st

  abbrev pub Well : Stepped DrivenSpace DrivenContext → Type 0
  Well st = IsStepped driven_stands set seen cs a.0 st

  pub well-of : (x : Reply) → can u seen c x ≡ true → Well (done u seen c x)
  well-of x able = subst (λ b. Well (cond b (done u seen c x) (idles u c))) able
      (done_if_well set e u cs i.stands a.0 c i.on.mine seen i.later i.within (Some x))

  pub well-idle : Well (idles u c)
  well-idle = done_if_well set e u cs i.stands a.0 c i.on.mine seen i.later i.within None

  space : u.base.shared.state.space ≡ set.space
  space = scene.space set e u cs w r p a life c seen i

  processors : u.base.processors ≡ w.processors
  processors = scene.processors set e u cs w r p a life c seen i

  list-below : (q : ProcNo) → nat_lt q.0 u.base.processors ≡ true → q.0 < w.processors
  list-below q is = let less = ltb-true q.0 u.base.processors is in let same = processors in omega (arith, less, same)

  -- a record of the space's number
  one-legal : (mk : SpaceNo → Record) (v : DrivenSpace) (d : DrivenContext) (now : Life)
      → IsMove set e u cs w r p a life c seen i (mk set.space) [] v (settled v seen d) now
      → Well (did v seen d (mk u.base.shared.state.space)) → Legal (did v seen d (mk u.base.shared.state.space))
  one-legal mk v d now m well = subst (λ s. Legal (did v seen d (mk s))) (sym space)
      (move-legal set e u cs w r p a life c seen i (mk set.space) [] v (settled v seen d) now m (subst (λ s. Well (did v seen d (mk s))) space well))

  same-lives : r.lives ≡ put r.lives a.0 (Some life)
  same-lives = sym (ap (put r.lives a.0) (sym i.on.is) ∙ put-self r.lives a.0)

  same-life : (new : DrivenContext) → new.locks ≡ c.locks → new.continues ≡ c.continues → new.hand ≡ c.hand
      → IsOf set e u cs w r p a life c seen i life new
  same-life new locks cont hand = record {
    space = refl;
    proc = refl;
    thread = refl;
    locks = l.locks ∙ sym locks;
    cont = l.cont ∙ sym cont;
    hand = λ n. hand-is set e u cs w r p a life c seen i n ∙ ap (λ h. has h n) (sym hand);
  }

  -- TAKE, FREE, SPIN, IDLE
  on-list : (q : ProcNo) → nat_lt q.0 u.base.processors ≡ true → IsOnList w r0 life set.space q c.thread
  on-list q is = record {
    space = sym i.on.space;
    list = list-below q is;
    thread = sym (scene.carries set e u cs w r p a life c seen i);
  }

  pub take-legal : (q : ProcNo) → can u seen c (reply.Take q) ≡ true → Legal (done u seen c (reply.Take q))
  take-legal q able =
      let d : DrivenContext = record c { locks = c.locks + 1 } in
      let new = settled u seen d in
      let x = records.Take set.space q c.thread in
      let now = locks r0 p q c.thread life in
      let after = after_record w seen.event p r0 x in
      one-legal (λ s. records.Take s q c.thread) u d now (record {
        first = refl;
        no_up = refl;
        needs = (tt, tt);
        turned_so = stay set e u cs w r p a life c seen i after now new refl refl refl
            (life-changed (locks r0 p q c.thread) r0 p a life i.on.runs i.on.is) (record {
              space = refl;
              proc = refl;
              thread = refl;
              locks = length-append life.locks _ ∙ (let n = l.locks in omega (arith, n));
              cont = l.cont;
              hand = hand-is set e u cs w r p a life c seen i;
            }) refl;
        table = (refl, on-list q able);
        heard = λ behind. tt;
        demands = refl;
        taken = refl;
        lowers = unlowered set e u cs w r p a life c seen i;
        inside = λ closing last b. settled-inside set e u cs w r p a life c seen i x [] u new now refl after closing last b;
      }) (well-of (reply.Take q) able)

  pub free-legal : (q : ProcNo) → can u seen c (reply.Free q) ≡ true → Legal (done u seen c (reply.Free q))
  free-legal q able =
      let d : DrivenContext = record c { locks = c.locks - 1 } in
      let new = settled u seen d in
      let x = records.Free set.space q c.thread in
      let now = without_lock life in
      let after = after_record w seen.event p r0 x in
      one-legal (λ s. records.Free s q c.thread) u d now (record {
        first = refl;
        no_up = refl;
        needs = (tt, tt);
        turned_so = stay set e u cs w r p a life c seen i after now new refl refl refl (life-changed without_lock r0 p a life i.on.runs i.on.is) (record {
          space = refl;
          proc = refl;
          thread = refl;
          locks = fewer life.locks c.locks l.locks;
          cont = l.cont;
          hand = hand-is set e u cs w r p a life c seen i;
        }) refl;
        table = (refl, on-list q able);
        heard = λ behind. tt;
        demands = refl;
        taken = refl;
        lowers = unlowered set e u cs w r p a life c seen i;
        inside = λ closing last b. settled-inside set e u cs w r p a life c seen i x [] u new now refl after closing last b;
      }) (well-of (reply.Free q) able)

  pub spin-legal : (q : ProcNo) → can u seen c (reply.Spin q) ≡ true → Legal (done u seen c (reply.Spin q))
  spin-legal q able =
      let new = settled u seen c in
      let x = records.Spin q in
      let after = after_record w seen.event p r0 x in
      one-legal (λ s. records.Spin q) u c life (record {
        first = refl;
        no_up = refl;
        needs = (tt, tt);
        turned_so = stay set e u cs w r p a life c seen i after life new refl refl refl same-lives (same-life new refl refl refl) refl;
        table = (refl, list-below q able);
        heard = λ behind. tt;
        demands = refl;
        taken = refl;
        lowers = unlowered set e u cs w r p a life c seen i;
        inside = λ closing last b. settled-inside set e u cs w r p a life c seen i x [] u new life refl after closing last b;
      }) (well-of (reply.Spin q) able)

  pub idle-legal : Legal (idles u c)
  idle-legal =
      let new = says_idle u c in
      let x = records.Idle in
      let after = after_record w seen.event p r0 x in
      move-legal set e u cs w r p a life c seen i x [] u new life (record {
        first = refl;
        no_up = refl;
        needs = (tt, tt);
        turned_so = stay set e u cs w r p a life c seen i after life new refl refl refl same-lives (same-life new refl refl refl) refl;
        table = (refl, tt);
        heard = λ behind. tt;
        demands = refl;
        taken = refl;
        lowers = unlowered set e u cs w r p a life c seen i;
        inside = λ closing last b.
            inside-idle set seen.event u (put cs a.0 (Some new)) b.stands last b.holds a new b.mine life b.there (ap is_gone b.stage) w r
            (event_with seen.event p (x ∷ []) closing) refl refl;
      }) well-idle

  -- RUN
  nobody : c.thread ≡ None → NobodyRuns r.state p
  nobody none = i.runner ∙ ap (runner_of set.space) none

  fits-at : (t : ThreadNo) (kp : KeptPlace) → place_at u.base.shared t.0 ≡ kp → t.0 < u.base.shared.state.lists.made
      → SitsIn kp (thread_at r.state set.space t).place
  fits-at t kp at made = subst (λ q. SitsIn q (thread_at r.state set.space t).place) at (k0.space.threads t made).place

  -- a thread at a place that no context's thread is at is none of these
  apart-from : (t : ThreadNo) → is_kept (place_at u.base.shared t.0) ≡ false → (n : ThreadNo) → is_kept (place_at u.base.shared n.0) ≡ true → n.0 ≢ t.0
  apart-from t none n some same = let no = ap (λ m. is_kept (place_at u.base.shared m)) same ∙ none in cc

  pub run-legal : (t : ThreadNo) → (is_none c.thread && is_ready (place_at u.base.shared t.0)) ≡ true
      → Well (did (moved u (Some t) fast.Running) seen (carries c (Some t)) (records.Run u.base.shared.state.space t))
      → Legal (did (moved u (Some t) fast.Running) seen (carries c (Some t)) (records.Run u.base.shared.state.space t))
  run-legal t able well =
      let both = and-both (is_none c.thread) (is_ready (place_at u.base.shared t.0)) able in
      let none = no_thread c.thread both.0 in
      let at = ready-is (place_at u.base.shared t.0) both.1 in
      let unmade = (ready_made (place_at u.base.shared t.0) both.1).0 in
      let made = made-below set e u cs i.stands t.0 unmade in
      let sits = fits-at t fast.Ready at made in
      let v = moved u (Some t) fast.Running in
      let new = settled v seen (carries c (Some t)) in
      let x = records.Run set.space t in
      let now = with_first (ran t) life in
      let after = after_record w seen.event p r0 x in
      one-legal (λ s. records.Run s t) v (carries c (Some t)) now (record {
        first = refl;
        no_up = refl;
        needs = ((i.on.owner, nobody none, sits), tt);
        turned_so = place-turned set e u cs w r p a life c seen i after t fast.Running (place.Running p) now new (record {
          state = refl;
          untold = refl;
          running = refl;
          lives = life-changed (with_first (ran t)) r0 p a life i.on.runs i.on.is;
          is-of = record {
            space = refl;
            proc = refl;
            thread = refl;
            locks = first-length (ran t) life.locks ∙ l.locks;
            cont = l.cont;
            hand = hand-is set e u cs w r p a life c seen i;
          };
          made = made;
          below = place_inside u.base.shared t.0 unmade;
          sits = tt;
          before = ap is_loaded at ∙ sym (ap is_active sits);
          after = refl;
          own = λ n is. inl (ap (λ (z : ThreadNo). z.0) (sym (same_Some t n is)), refl, refl);
          apart = λ n some other. apart-from t (ap is_kept at) n some;
        });
        table = (refl, sym i.on.space);
        heard = λ behind. tt;
        demands = refl;
        taken = refl;
        lowers = unlowered set e u cs w r p a life c seen i;
        inside = λ closing last b. settled-inside set e u cs w r p a life c seen i x [] v new now refl after closing last b;
      }) well

  -- READY
  pub ready-legal : (t : ThreadNo) → has u.handed t.0 ≡ true
      → Well (did (picked_up u (Some t) fast.Ready) seen (record c { hand = without_thread c.hand t.0 }) (records.Ready u.base.shared.state.space t))
      → Legal (did (picked_up u (Some t) fast.Ready) seen (record c { hand = without_thread c.hand t.0 }) (records.Ready u.base.shared.state.space t))
  ready-legal t able well =
      let x0 = u.base.shared in
      let one : handed_at u.handed t.0 ≡ 1 = ap one_where able in
      let small : not_carried x0 t.0 ≤ 1 = elim (is_kept (place_at x0 t.0)) as (λ b. cond b 0 1 ≤ 1) [ true ↦ omega arith | false ↦ omega arith ] in
      let sums = i.stands.somewhere t.0 in
      let agrees = i.stands.places t.0 in
      let kept : is_kept (place_at x0 t.0) ≡ false = not-kept (is_kept (place_at x0 t.0)) (omega (arith, sums, one, small)) in
      let unready : is_ready (place_at x0 t.0) ≡ false = zero-is (is_ready (place_at x0 t.0)) (omega (arith, sums, one, small)) in
      let unmade : is_unmade (place_at x0 t.0) ≡ false = zero-is (is_unmade (place_at x0 t.0)) (omega (arith, sums, one, small, agrees.new)) in
      let made = made-below set e u cs i.stands t.0 unmade in
      let below : t.0 < length c.hand = (let b = has_below u.handed t.0 (omega (arith, one)) in
      omega (arith, b, i.stands.handed, i.stands.hands a.0 c i.on.mine)) in
      let read : is_handed r0 set.space t ≡ true = sym (handed-is set e u cs i.stands set.space r0 k0 t) ∙ able in
      let v = picked_up u (Some t) fast.Ready in
      let d : DrivenContext = record c { hand = without_thread c.hand t.0 } in
      let new = settled v seen d in
      let x = records.Ready set.space t in
      let now = made_ready t life in
      let after = after_record w seen.event p r0 x in
      one-legal (λ s. records.Ready s t) v d now (record {
        first = refl;
        no_up = refl;
        needs = ((i.on.owner, can-be read), tt);
        turned_so = place-turned set e u cs w r p a life c seen i after t fast.Ready place.Ready now new (record {
          state = refl;
          untold = refl;
          running = refl;
          lives = life-changed (made_ready t) r0 p a life i.on.runs i.on.is;
          is-of = record {
            space = refl;
            proc = refl;
            thread = refl;
            locks = first-length readied life.locks ∙ l.locks;
            cont = l.cont;
            hand = λ n. elim (cases_eq n t.0) [
              | inl same ↦ ap (in_hand (left t life).hand) same ∙ hand-without t life.hand
                  ∙ sym (ap (has (without_thread c.hand t.0)) same ∙ get_or-set_same c.hand t.0 false false below)
              | inr ne ↦ hand-others t life.hand n ne ∙ hand-is set e u cs w r p a life c seen i n ∙ sym (get_or-set_other c.hand t.0 n false false ne)
            ];
          };
          made = made;
          below = place_inside u.base.shared t.0 unmade;
          sits = refl;
          before = unloaded (place_at x0 t.0) kept unready ∙ sym (inactive read);
          after = refl;
          own = λ n at. inr (
            λ same. (
                let mine = carried-not set e u cs i.stands a.0 c n i.on.mine at in
                let none : not_carried x0 t.0 ≡ 1 = ap (λ b. cond b 0 1) kept in
                let both : not_carried x0 n.0 ≡ not_carried x0 t.0 = ap (not_carried x0) same in omega (arith, mine, none, both)),
            at,
          );
          apart = λ n some other. apart-from t kept n some;
        });
        table = (refl, sym i.on.space);
        heard = λ behind. heard-of set e u cs i.stands set.space r0 k0 t kept;
        demands = refl;
        taken = refl;
        lowers = unlowered set e u cs w r p a life c seen i;
        inside = λ closing last b. settled-inside set e u cs w r p a life c seen i x [] v new now refl after closing last b;
      }) well where
        not-kept : (b : Bool) → zero_if b ≡ 1 → b ≡ false
        not-kept true is = absurd (omega (arith, is))
        not-kept false is = refl

        unloaded : (q : KeptPlace) → is_kept q ≡ false → is_ready q ≡ false → is_loaded q ≡ false
        unloaded fast.Unmade k r = refl
        unloaded fast.Ready k r = absurd cc
        unloaded fast.Running k r = absurd cc
        unloaded fast.Waiting k r = refl
        unloaded fast.Blocked k r = refl
        unloaded fast.Carried k r = refl
        unloaded fast.Done k r = refl

        due-or : is_handed r0 set.space t ≡ true → (is_due (space_at r.state set.space) t ≡ true) ⊎ ((thread_at r.state set.space t).place ≡ place.Carried)
        due-or read = elim (or-one (is_due (space_at r.state set.space) t) (is_carried (thread_at r.state set.space t).place && is_heard r0 set.space t) read) [
          | inl due ↦ inl due
          | inr held ↦ inr (put-down (thread_at r.state set.space t).place (and-both (is_carried (thread_at r.state set.space t).place) (is_heard r0 set.space t) held).0)
        ]

        can-be : is_handed r0 set.space t ≡ true → CanBeReady r.state set.space t
        can-be read = elim (due-or read) [ inl due ↦ inr due | inr held ↦ inl held ]

        inactive : is_handed r0 set.space t ≡ true → is_active (thread_at r.state set.space t).place ≡ false
        inactive read = elim (due-or read) [
          | inl due ↦ ap is_active (waits-so (thread_at r.state set.space t).place
              (and-both (is_waiting (thread_at r.state set.space t).place) (waits_of (space_at r.state set.space).sync t.0 == 0) due).0)
          | inr held ↦ ap is_active held
        ]

  -- CONT
  pub cont-legal : (o : Option ThreadNo) → (is_none c.thread && can_cont u o) ≡ true
      → Well (did (picked_up u o fast.Running) seen (record c { thread = o; continues = true }) (records.Cont u.base.shared.state.space o))
      → Legal (did (picked_up u o fast.Running) seen (record c { thread = o; continues = true }) (records.Cont u.base.shared.state.space o))
  cont-legal None able well =
      let both = and-both (is_none c.thread) true able in
      let none = no_thread c.thread both.0 in
      let v = picked_up u None fast.Running in
      let d : DrivenContext = record c { thread = None; continues = true } in
      let new = settled v seen d in
      let x = records.Cont set.space None in
      let now = with_cont true life in
      let after = after_record w seen.event p r0 x in
      one-legal (λ s. records.Cont s None) v d now (record {
        first = refl;
        no_up = refl;
        needs = ((i.on.owner, nobody none, tt), tt);
        turned_so = stay set e u cs w r p a life c seen i after now new refl refl refl (life-changed (with_cont true) r0 p a life i.on.runs i.on.is) (record {
          space = refl;
          proc = refl;
          thread = refl;
          locks = l.locks;
          cont = refl;
          hand = hand-is set e u cs w r p a life c seen i;
        }) (sym none);
        table = (refl, sym i.on.space);
        heard = λ behind. tt;
        demands = refl;
        taken = refl;
        lowers = unlowered set e u cs w r p a life c seen i;
        inside = λ closing last b. settled-inside set e u cs w r p a life c seen i x [] v new now refl after closing last b;
      }) well
  cont-legal (Some t) able well =
      let both = and-both (is_none c.thread) (is_held (place_at u.base.shared t.0)) able in
      let none = no_thread c.thread both.0 in
      let at = carried-is (place_at u.base.shared t.0) both.1 in
      let unmade = (held_made (place_at u.base.shared t.0) both.1).0 in
      let made = made-below set e u cs i.stands t.0 unmade in
      let sits = fits-at t fast.Carried at made in
      let v = picked_up u (Some t) fast.Running in
      let d : DrivenContext = record c { thread = Some t; continues = true } in
      let new = settled v seen d in
      let x = records.Cont set.space (Some t) in
      let now = with_cont true life in
      let after = after_record w seen.event p r0 x in
      one-legal (λ s. records.Cont s (Some t)) v d now (record {
        first = refl;
        no_up = refl;
        needs = ((i.on.owner, nobody none, sits), tt);
        turned_so = place-turned set e u cs w r p a life c seen i after t fast.Running (place.Running p) now new (record {
          state = refl;
          untold = refl;
          running = refl;
          lives = life-changed (with_cont true) r0 p a life i.on.runs i.on.is;
          is-of = record {
            space = refl;
            proc = refl;
            thread = refl;
            locks = l.locks;
            cont = refl;
            hand = hand-is set e u cs w r p a life c seen i;
          };
          made = made;
          below = place_inside u.base.shared t.0 unmade;
          sits = tt;
          before = ap is_loaded at ∙ sym (ap is_active sits);
          after = refl;
          own = λ n is. inl (ap (λ (z : ThreadNo). z.0) (sym (same_Some t n is)), refl, refl);
          apart = λ n some other. apart-from t (ap is_kept at) n some;
        });
        table = (refl, sym i.on.space);
        heard = λ behind. heard-of set e u cs i.stands set.space r0 k0 t (ap is_kept at);
        demands = refl;
        taken = refl;
        lowers = unlowered set e u cs w r p a life c seen i;
        inside = λ closing last b. settled-inside set e u cs w r p a life c seen i x [] v new now refl after closing last b;
      }) well

  -- BACK
  back-hand : (o : Option ThreadNo) → ((t : ThreadNo) → o ≡ Some t → t.0 < length c.hand) → (n : ℕ)
      → in_hand (life.hand ++ one_thread o) n ≡ has (with_some c.hand o) n
  back-hand o below n =
      hand-append life.hand (one_thread o) n ∙ ap (λ b. b || in_hand (one_thread o) n) (hand-is set e u cs w r p a life c seen i n)
      ∙ ap (λ b. has c.hand n || b) (own-is o n) ∙ sym (has-some c.hand o n below)

  pub back-legal : (o : Option ThreadNo) → c.thread ≡ o
      → Well (did (handed_over u o) seen (record c { thread = None; continues = false; hand = with_some c.hand o }) (records.Back u.base.shared.state.space o))
      → Legal (did (handed_over u o) seen (record c { thread = None; continues = false; hand = with_some c.hand o }) (records.Back u.base.shared.state.space o))
  back-legal None at well =
      let v = handed_over u None in
      let d : DrivenContext = record c { thread = None; continues = false; hand = c.hand } in
      let new = settled v seen d in
      let x = records.Back set.space None in
      let now = back_with None life in
      let after = after_record w seen.event p r0 x in
      one-legal (λ s. records.Back s None) v d now (record {
        first = refl;
        no_up = refl;
        needs = ((i.on.owner, i.runner ∙ ap (runner_of set.space) at), tt);
        turned_so = stay set e u cs w r p a life c seen i after now new refl refl refl (life-changed (back_with None) r0 p a life i.on.runs i.on.is) (record {
          space = refl;
          proc = refl;
          thread = refl;
          locks = l.locks;
          cont = refl;
          hand = back-hand None (λ t is. absurd cc);
        }) (sym at);
        table = (refl, sym i.on.space);
        heard = λ behind. tt;
        demands = refl;
        taken = refl;
        lowers = unlowered set e u cs w r p a life c seen i;
        inside = λ closing last b. settled-inside set e u cs w r p a life c seen i x [] v new now refl after closing last b;
      }) well
  back-legal (Some t) at well =
      let x0 = u.base.shared in
      let inside = own_inside set e u cs i.stands a.0 c i.on.mine t at in
      let kept : place_at x0 t.0 ≡ fast.Running = l.kept t at ∙ ap (λ g. kept_of g) (replies.stage set e u cs w r p a life c seen i) in
      let runs : (thread_at r.state set.space t).place ≡ place.Running life.proc =
      l.place t at ∙ ap (λ g. place_of g life.proc) (replies.stage set e u cs w r p a life c seen i) in
      let below : t.0 < length c.hand = omega (arith, inside, i.stands.parts.blocks, i.stands.hands a.0 c i.on.mine) in
      let v = handed_over u (Some t) in
      let d : DrivenContext = record c { thread = None; continues = false; hand = with_some c.hand (Some t) } in
      let new = settled v seen d in
      let x = records.Back set.space (Some t) in
      let now = back_with (Some t) life in
      let after = after_record w seen.event p r0 x in
      one-legal (λ s. records.Back s (Some t)) v d now (record {
        first = refl;
        no_up = refl;
        needs = ((i.on.owner, i.runner ∙ ap (runner_of set.space) at), tt);
        turned_so = place-turned set e u cs w r p a life c seen i after t fast.Carried place.Carried now new (record {
          state = refl;
          untold = refl;
          running = refl;
          lives = life-changed (back_with (Some t)) r0 p a life i.on.runs i.on.is;
          is-of = record {
            space = refl;
            proc = refl;
            thread = refl;
            locks = l.locks;
            cont = refl;
            hand = back-hand (Some t) (λ n is. subst (λ (z : ThreadNo). z.0 < length c.hand) (same_Some t n is) below);
          };
          made = carried-made set e u cs i.stands a.0 c t i.on.mine at;
          below = inside;
          sits = refl;
          before = ap is_loaded kept ∙ sym (ap is_active runs);
          after = refl;
          own = λ n is. absurd cc;
          apart = λ n some other. other t at;
        });
        table = (refl, sym i.on.space);
        heard = λ behind. tt;
        demands = refl;
        taken = refl;
        lowers = unlowered set e u cs w r p a life c seen i;
        inside = λ closing last b. settled-inside set e u cs w r p a life c seen i x [] v new now refl after closing last b;
      }) well
