-- What a machine keeps through the calls of a user level, and that each call meets its condition.
use Rattle.std.proofs.Common.{◌≡◌, ◌≢◌, ℕ, ◌+◌, ◌<◌, ◌≤◌, Option, Some, None, is_some, true, List, [], ◌∷◌, get_or, slice_set, length, refl, sym, ap, subst, ◌∙◌, arith}
use Rattle.std.proofs.Math.Path.{fun_ext}
use Rattle.std.proofs.lemmas.List.{length-set}
use Rattle.std.proofs.lemmas.Option.{same_Some}
use Rattle.std.proofs.lemmas.Bool.Decides.{nat_tests}
use Rattle.sa_base.specs.declared.number.ProcNo.{ProcNo}
use Rattle.sa_base.specs.declared.number.SpaceNo.{SpaceNo}
use Rattle.sa_base.specs.declared.number.ActNo.{ActNo}
use Rattle.sa_base.specs.declared.context.Seen.{Seen}
use Rattle.sa_base.specs.declared.context.Stopped.{Stopped}
use Rattle.sa_base.specs.declared.limits.TheConstants.{MAX_EVENTS}
use Rattle.sa_base.specs.declared.record.Item.{Item}
use Rattle.sa_base.specs.declared.record.Note.{Note}
use Rattle.sa_base.specs.declared.record.Note.TheVariants.{Add, Preempted, Blocked, Unblocked}
use Rattle.sa_lemmas.specs.Function.{put}
use Rattle.sa_spaces.specs.Space.{SpaceView}
use Rattle.sa_spaces.specs.Workload.{WorkloadView}
use Rattle.sa_abstract.specs.Calls.{Calls, Contexts}
use Rattle.sa_abstract.specs.Keeps.{Standing, Keeps, IsOf, IsSeenOf, IsStep, IsGoing, IsHanded, IsHandedOver, StaysLocal, told_contexts}
use Rattle.sa_acts.specs.declared.acts.Act.{Act}
use Rattle.sa_assign.specs.AssignView.{AssignView}
use Rattle.sa_acts.specs.Table.{runs_in, held_of, taken_from}
use Rattle.sa_kernel_model.specs.State.{KernelState, owner_of, life_of}
use Rattle.sa_kernel_model.specs.Sound.{IsSound, AreClaimed, held_in, note_claim}
use Rattle.sa_kernel_model.specs.Entries.{fetched, held_for, handed_by}
use Rattle.sa_kernel_model.proofs.sound.Claims.{held-next, held-none, space-held}
use Rattle.sa_kernel_model.proofs.sound.Sound.{sound-after_fetch}
use Rattle.sa_kernel_model.proofs.sound.Held.{claimed-after_fetch}
use Rattle.sa_core_model.specs.Machine.{Machine, with_pair, context_on, user_of, called, called_by, answered, seen_on}
use Rattle.sa_core_model.specs.Run.{setting}
use Rattle.sa_core_model.specs.Standing.{contexts_in, contexts_of, Stands}
use Rattle.sa_core_model.specs.Turn.{told_one, told_all}
use Rattle.sa_core_model.proofs.Running.{RunsOn, context-here, contexts-put, contexts-put_kept, IsHeld, context-held, contexts-hand, contexts-hand_kept}
use Rattle.sa_core_model.proofs.Phases.{there-put, values-same, values-put, values-later, stands-runs, IsAt, at-owned, contexts-same}

module _ {U C : Type 0} (f : Calls U C) (stands : Standing U C) (keep : Keeps f stands) where
  some-true : {A : Type 0} (o : Option A) (x : A) → o ≡ Some x → is_some o ≡ true
  some-true o x e = ap (λ y. is_some y) e

  -- the context that runs on a processor is that of its life
  pub runs-at : (e : ℕ) (m : Machine U C) (p : ProcNo) (s : SpaceNo) → Stands stands e m → (here : IsAt f stands keep m p s)
      → RunsOn m.kernel.assign.owners m.kernel.lives m.kernel.acts p.0 here.act s
  runs-at e m p s st here = (st.sound.formed.lives, here.life, here.runs)

  size-of : (e : ℕ) (m : Machine U C) → Stands stands e m → length m.contexts ≡ length m.kernel.lives
  size-of e m st = st.contexts ∙ sym st.lives

  pub mine : (e : ℕ) (m : Machine U C) (p : ProcNo) (s : SpaceNo) → Stands stands e m → (here : IsAt f stands keep m p s)
      → contexts_of m s.0 here.act.0 ≡ Some here.ctx
  mine e m p s st here =
      context-here m.kernel.assign.owners m.kernel.lives m.kernel.acts m.contexts p.0 here.act s (runs-at e m p s st here) (size-of e m st) ∙ here.is_ctx

  pub value-at : (e : ℕ) (m : Machine U C) (p : ProcNo) (s : SpaceNo) → Stands stands e m → (here : IsAt f stands keep m p s)
      → stands (setting m.workload s.0 here.def) e here.user (contexts_of m s.0)
  value-at e m p s st here = st.values s.0 here.user here.def here.is_user here.is_def

  pub sees-at : (e : ℕ) (m : Machine U C) (p : ProcNo) (s : SpaceNo) → Stands stands e m → IsAt f stands keep m p s → p.0 < m.workload.processors
  sees-at e m p s st here = omega (arith, here.within, st.lives)

  -- the conditions of the calls

  pub is-of : (e : ℕ) (m : Machine U C) (p : ProcNo) (s : SpaceNo) → Stands stands e m → (here : IsAt f stands keep m p s) → IsOf stands here.user here.ctx
  is-of e m p s st here = record {
    setting = setting m.workload s.0 here.def;
    event = e;
    others = contexts_of m s.0;
    act = here.act.0;
    value = value-at e m p s st here;
    mine = mine e m p s st here;
  }

  pub is-seen_of : (e : ℕ) (m : Machine U C) (p : ProcNo) (s : SpaceNo) (seen : Seen) → Stands stands e m → (here : IsAt f stands keep m p s) → seen.proc ≡ p
      → IsSeenOf stands here.user seen here.ctx
  is-seen_of e m p s seen st here at = record {
    setting = setting m.workload s.0 here.def;
    event = e;
    others = contexts_of m s.0;
    act = here.act.0;
    value = value-at e m p s st here;
    mine = mine e m p s st here;
    sees = rw at (sees-at e m p s st here);
  }

  pub is-step : (e : ℕ) (m : Machine U C) (p : ProcNo) (s : SpaceNo) (seen : Seen) → Stands stands e m → (here : IsAt f stands keep m p s) → seen.proc ≡ p
      → e < seen.event → seen.event ≤ MAX_EVENTS → IsStep stands here.user seen here.ctx
  is-step e m p s seen st here at later within = record {
    setting = setting m.workload s.0 here.def;
    event = e;
    others = contexts_of m s.0;
    act = here.act.0;
    value = value-at e m p s st here;
    mine = mine e m p s st here;
    sees = rw at (sees-at e m p s st here);
    later = later;
    within = within;
  }

  pub is-going : (e n : ℕ) (m : Machine U C) (p : ProcNo) (s : SpaceNo) (seen : Seen) → Stands stands e m → (here : IsAt f stands keep m p s) → seen.proc ≡ p
      → e < seen.event → 1 ≤ n → seen.event + n ≤ MAX_EVENTS + 1 → StaysLocal (setting m.workload s.0 here.def) n (f.local here.user here.ctx)
      → IsGoing f stands here.user seen here.ctx n
  is-going e n m p s seen st here at later some within goes = record {
    setting = setting m.workload s.0 here.def;
    event = e;
    others = contexts_of m s.0;
    act = here.act.0;
    value = value-at e m p s st here;
    mine = mine e m p s st here;
    sees = rw at (sees-at e m p s st here);
    later = later;
    some = some;
    within = within;
    goes = goes;
  }

  -- another value and another context of it
  pub stands-put : (e g event : ℕ) (m : Machine U C) (p : ProcNo) (s : SpaceNo) (v : U) (c : C) (items : List Item) → e ≤ g → Stands stands e m
      → (here : IsAt f stands keep m p s)
      → stands (setting m.workload s.0 here.def) g v (put (contexts_of m s.0) here.act.0 (Some c))
      → Stands stands g (record (with_pair p s v c m) { items = items; event = event })
  stands-put e g event m p s v c items later st here new =
      let k = m.kernel in
      let cs : List (Option C) = slice_set m.contexts p.0 (Some c) in
      let runs = runs-at e m p s st here in
      record {
        workload = st.workload;
        sound = st.sound;
        lives = st.lives;
        contexts = length-set m.contexts p.0 (Some c) ∙ st.contexts;
        demands = st.demands;
        users = length-set m.users s.0 v ∙ st.users;
        there = there-put m.contexts k.lives p.0 c (size-of e m st) (some-true (life_of k p) here.act here.life) st.there;
        values = values-put stands m.workload g m.users s.0 v (contexts_of m) (contexts_in k.lives k.acts cs)
            (λ def of. subst (λ (d : SpaceView). stands (setting m.workload s.0 d) g v (contexts_in k.lives k.acts cs s.0))
            (same_Some here.def def (sym here.is_def ∙ of))
            (subst (λ (x : Contexts C). stands (setting m.workload s.0 here.def) g v x)
            (fun_ext (contexts-put k.assign.owners k.lives k.acts m.contexts p.0 here.act s runs (size-of e m st) here.within c)) new))
            (contexts-put_kept k.assign.owners k.lives k.acts m.contexts p.0 here.act s runs (Some c))
            (values-later f stands keep m.workload e g m.users (contexts_of m) later st.values);
      }

  -- a call that goes on, in an event that is under way
  pub stands-answered : (e : ℕ) (m : Machine U C) (p : ProcNo) (s : SpaceNo) → Stands stands e m → owner_of m.kernel p ≡ Some s
      → Stands stands e (answered f p s m)
  stands-answered e m p s st owner =
      let here = at-owned f stands keep e m p s st owner in
      let seen = seen_on m p s in
      let r : U × C = f.answered here.user seen here.ctx in
      let law = keep.answers (setting m.workload s.0 here.def) e here.user (contexts_of m s.0) here.act.0 here.ctx seen (value-at e m p s st here)
      (mine e m p s st here) (sees-at e m p s st here) in
      rw (here.is_user, here.is_ctx) (stands-put e e m.event m p s r.0 r.1 m.items (omega arith) st here law)

-- a notice hands over a context that is held of its space
module _ {C : Type 0} where
  pub record IsKeptOf (s : ℕ) (x : Option (Act C)) : Type 0 where
    pub act : Act C
    pub stopped : Stopped C
    pub is : x ≡ Some act
    pub holds : act.held ≡ Some stopped
    pub space : act.space.0 ≡ s

  kept-act : (s : ℕ) (act : Act C) (o : Option (Stopped C)) → act.held ≡ o → 1 ≤ held_in s (Some act) → IsKeptOf s (Some act)
  kept-act s act None e some = absurd (let z = held-none (Some act) s e in omega (arith, z, some))
  kept-act s act (Some h) e some = record { act = act; stopped = h; is = refl; holds = e; space = space-held (Some act) s some }

  pub kept-of : (s : ℕ) (x : Option (Act C)) → 1 ≤ held_in s x → IsKeptOf s x
  kept-of s None some = absurd (omega (arith, some))
  kept-of s (Some act) some = kept-act s act act.held refl some

  pub next-kept : (s : ℕ) (note : Note) (notes : List Note) (b : ℕ) (k : KernelState C) → k.telling ≡ note ∷ notes → note_claim b note ≡ 1 → AreClaimed k s
      → IsKeptOf s (k.acts b)
  next-kept s note notes b k is one claimed =
      kept-of s (k.acts b) (held-next k.under_way k.untold note notes k.acts s b one
      (subst (λ (ns : List Note). AreClaimed (record k { telling = ns }) s) is claimed))

  pub held-for : (s : ℕ) (x : Option (Act C)) (h : IsKeptOf s x) → held_of x ≡ Some h.stopped
  held-for s x h = ap held_of h.is ∙ h.holds

  pub handed-acts : (o : Option (Stopped C)) (h : Stopped C) (a : ActNo) (k : KernelState C) → o ≡ Some h
      → (handed_by o a k).acts ≡ put k.acts a.0 (taken_from (k.acts a.0))
  handed-acts None h a k e = absurd cc
  handed-acts (Some x) h a k e = refl

  pub handed-lives : (o : Option (Stopped C)) (a : ActNo) (k : KernelState C) → ((handed_by o a k).lives ≡ k.lives) × ((handed_by o a k).demands ≡ k.demands)
      × ((handed_by o a k).telling ≡ k.telling) × ((handed_by o a k).assign ≡ k.assign)
  handed-lives None a k = (refl, refl, refl, refl)
  handed-lives (Some x) a k = (refl, refl, refl, refl)

module _ {U C : Type 0} (f : Calls U C) (stands : Standing U C) (keep : Keeps f stands) where
  -- the contexts after a notice that hands over the one of activation b: it is gone, and that of the running life is c
  pub contexts-given : (e : ℕ) (m : Machine U C) (p : ProcNo) (s : SpaceNo) (b : ℕ) (c : C) → Stands stands e m → (here : IsAt f stands keep m p s)
      → IsKeptOf s.0 (m.kernel.acts b)
      → ((i : ℕ) → put (put (contexts_of m s.0) here.act.0 (Some c)) b None i
      ≡ contexts_in m.kernel.lives (put m.kernel.acts b (taken_from (m.kernel.acts b))) (slice_set m.contexts p.0 (Some c)) s.0 i)
      × ((t : ℕ) → t ≢ s.0 → (i : ℕ) → contexts_of m t i
      ≡ contexts_in m.kernel.lives (put m.kernel.acts b (taken_from (m.kernel.acts b))) (slice_set m.contexts p.0 (Some c)) t i)
  contexts-given e m p s b c st here kept =
      let j = m.kernel in
      let cs : List (Option C) = slice_set m.contexts p.0 (Some c) in
      let size : length m.contexts ≡ length j.lives = st.contexts ∙ sym st.lives in
      let runs : RunsOn j.assign.owners j.lives j.acts p.0 here.act s = (st.sound.formed.lives, here.life, here.runs) in
      let is_held : IsHeld j.assign.owners j.lives j.acts cs b kept.act kept.stopped =
      record { alive = st.sound.formed.lives; is = kept.is; holds = kept.holds } in
      let given : ℕ → Option (Act C) = put j.acts b (taken_from (j.acts b)) in (
        λ i. ap (λ (x : Contexts C). put x b None i) (fun_ext (contexts-put j.assign.owners j.lives j.acts m.contexts p.0 here.act s runs size here.within c))
            ∙ subst (λ (n : ℕ). put (contexts_in j.lives j.acts cs n) b None i ≡ contexts_in j.lives given cs n i) kept.space
            (contexts-hand j.assign.owners j.lives j.acts cs b kept.act kept.stopped is_held i),
        λ t apart i. contexts-put_kept j.assign.owners j.lives j.acts m.contexts p.0 here.act s runs (Some c) t apart i
            ∙ contexts-hand_kept j.assign.owners j.lives j.acts cs b kept.act kept.stopped is_held t (λ q. apart (q ∙ kept.space)) i,
      )

  -- a context of another activation is handed over with a notice
  stands-handed : (e : ℕ) (m : Machine U C) (p : ProcNo) (s : SpaceNo) (k : KernelState C) (b : ℕ) (v : U) (c : C) → Stands stands e m
      → (here : IsAt f stands keep m p s)
      → (kept : IsKeptOf s.0 (m.kernel.acts b)) → IsSound k → k.lives ≡ m.kernel.lives → k.acts ≡ put m.kernel.acts b (taken_from (m.kernel.acts b))
      → k.demands ≡ m.kernel.demands
      → stands (setting m.workload s.0 here.def) e v (put (put (contexts_of m s.0) here.act.0 (Some c)) b None)
      → Stands stands e (with_pair p s v c (record m { kernel = k }))
  stands-handed e m p s k b v c st here kept sound lives acts demands new =
      let j = m.kernel in
      let cs : List (Option C) = slice_set m.contexts p.0 (Some c) in
      let size : length m.contexts ≡ length j.lives = st.contexts ∙ sym st.lives in
      let given : ℕ → Option (Act C) = put j.acts b (taken_from (j.acts b)) in
      let both = contexts-given e m p s b c st here kept in
      let own : put (put (contexts_of m s.0) here.act.0 (Some c)) b None ≡ contexts_in j.lives given cs s.0 = fun_ext both.0 in
      record {
        workload = st.workload;
        sound = sound;
        lives = ap (λ (ls : List (Option ActNo)). length ls) lives ∙ st.lives;
        contexts = length-set m.contexts p.0 (Some c) ∙ st.contexts;
        demands = ap (λ (ns : List ℕ). length ns) demands ∙ st.demands;
        users = length-set m.users s.0 v ∙ st.users;
        there = λ q. there-put m.contexts j.lives p.0 c size (ap (λ (o : Option ActNo). is_some o) here.life) st.there q
            ∙ ap (λ (ls : List (Option ActNo)). is_some (get_or ls q None)) (sym lives);
        values = values-same stands m.workload e (slice_set m.users s.0 v) (contexts_in j.lives given cs) (contexts_in k.lives k.acts cs)
            (contexts-same j.lives k.lives given k.acts cs lives acts)
            (values-put stands m.workload e m.users s.0 v (contexts_of m) (contexts_in j.lives given cs)
            (λ def of. subst (λ (d : SpaceView). stands (setting m.workload s.0 d) e v (contexts_in j.lives given cs s.0))
            (same_Some here.def def (sym here.is_def ∙ of))
            (subst (λ (x : Contexts C). stands (setting m.workload s.0 here.def) e v x) own new))
            both.1 st.values);
      }

  over-next : (e : ℕ) (m : Machine U C) (p : ProcNo) (s : SpaceNo) (b : ActNo) → Stands stands e m → (here : IsAt f stands keep m p s)
      → IsKeptOf s.0 (m.kernel.acts b.0) → IsHandedOver (contexts_of m s.0) here.act.0 b.0 (held_of (m.kernel.acts b.0))
  over-next e m p s b st here kept =
      let k = m.kernel in
      let is_held : IsHeld k.assign.owners k.lives k.acts m.contexts b.0 kept.act kept.stopped =
      record { alive = st.sound.formed.lives; is = kept.is; holds = kept.holds } in record {
        stopped = kept.stopped;
        is = held-for s.0 (k.acts b.0) kept;
        theirs = subst (λ (n : ℕ). contexts_in k.lives k.acts m.contexts n b.0 ≡ Some kept.stopped.ctx) kept.space
            (context-held k.assign.owners k.lives k.acts m.contexts b.0 kept.act kept.stopped is_held);
        differ = λ q. (let w : k.acts b.0 ≡ Some (runs_in s) = ap k.acts q ∙ here.runs in let h = held-for s.0 (k.acts b.0) kept in let g = ap held_of w in cc);
      }

  -- what comes with the next notice
  pub handed-next : (e : ℕ) (m : Machine U C) (p : ProcNo) (s : SpaceNo) (note : Note) (notes : List Note) → Stands stands e m
      → (here : IsAt f stands keep m p s)
      → m.kernel.telling ≡ note ∷ notes → AreClaimed m.kernel s.0 → IsHanded (contexts_of m s.0) here.act.0 note (held_for m.kernel note)
  handed-next e m p s (Preempted b) notes st here is claimed =
      over-next e m p s b st here (next-kept s.0 (Preempted b) notes b.0 m.kernel is (grind (arith, nat_tests)) claimed)
  handed-next e m p s (Unblocked b) notes st here is claimed =
      over-next e m p s b st here (next-kept s.0 (Unblocked b) notes b.0 m.kernel is (grind (arith, nat_tests)) claimed)
  handed-next e m p s _ notes st here is claimed = refl

  -- an upcall's context is about to be told these notices
  pub record Tells (w : WorkloadView) (e g : ℕ) (p : ProcNo) (s : SpaceNo) (notes : List Note) (m : Machine U C) : Type 0 where
    pub workload : m.workload ≡ w
    pub event : m.event ≡ g
    pub standing : Stands stands e m
    pub claimed : AreClaimed m.kernel s.0
    pub owner : owner_of m.kernel p ≡ Some s
    pub telling : m.kernel.telling ≡ notes

  pub called-is : (call : U → C → U × C) (p : ProcNo) (s : SpaceNo) (m n : Machine U C) (u : U) (c : C) → user_of m s ≡ Some u → context_on m p ≡ Some c
      → called_by call p s (user_of m s) (context_on m p) n ≡ with_pair p s (call u c).0 (call u c).1 n
  called-is call p s m n u c user ctx = rw (user, ctx) refl

  tells-plain : (w : WorkloadView) (e g : ℕ) (m : Machine U C) (p : ProcNo) (s : SpaceNo) (note : Note) (notes : List Note)
      → (tells : Tells w e g p s (note ∷ notes) m)
      → (k : KernelState C) → k ≡ record m.kernel { telling = notes } → IsSound k → AreClaimed k s.0
      → ((cs : Contexts C) (a : ℕ) (c : C) → told_contexts cs a c note ≡ put cs a (Some c))
      → Tells w e g p s notes (called (λ u c. f.told u c note (held_for m.kernel note)) p s (record m { kernel = k }))
  tells-plain w e g m p s note notes tells k same sound claimed plain =
      let st = tells.standing in
      let here = at-owned f stands keep e m p s st tells.owner in
      let n : Machine U C = record m { kernel = k } in
      let call : U → C → U × C = λ u c. f.told u c note (held_for m.kernel note) in
      let r : U × C = call here.user here.ctx in
      let law = keep.tells (setting m.workload s.0 here.def) e here.user (contexts_of m s.0) here.act.0 here.ctx note (held_for m.kernel note)
      (value-at f stands keep e m p s st here) (mine f stands keep e m p s st here) (handed-next e m p s note notes st here tells.telling tells.claimed) in
      let put_law : stands (setting m.workload s.0 here.def) e r.0 (put (contexts_of m s.0) here.act.0 (Some r.1)) =
      subst (λ (x : Contexts C). stands (setting m.workload s.0 here.def) e r.0 x) (plain (contexts_of m s.0) here.act.0 r.1) law in
      let done : Stands stands e (with_pair p s r.0 r.1 m) = stands-put f stands keep e e m.event m p s r.0 r.1 m.items (omega arith) st here put_law in
      let lives : k.lives ≡ m.kernel.lives = ap (λ (z : KernelState C). z.lives) same in
      let acts : k.acts ≡ m.kernel.acts = ap (λ (z : KernelState C). z.acts) same in
      let demands : length k.demands ≡ length m.kernel.demands = ap (λ (z : KernelState C). length z.demands) same in
      subst (λ (z : Machine U C). Tells w e g p s notes z) (sym (called-is call p s m n here.user here.ctx here.is_user here.is_ctx)) (record {
        workload = tells.workload;
        event = tells.event;
        standing = stands-runs f stands keep e m.event (with_pair p s r.0 r.1 m) k m.items done sound lives acts demands;
        claimed = claimed;
        owner = ap (λ (z : KernelState C). owner_of z p) same ∙ tells.owner;
        telling = ap (λ (z : KernelState C). z.telling) same;
      })

  tells-handed : (w : WorkloadView) (e g : ℕ) (m : Machine U C) (p : ProcNo) (s : SpaceNo) (note : Note) (notes : List Note) (b : ActNo)
      → (tells : Tells w e g p s (note ∷ notes) m)
      → (k : KernelState C) → k ≡ handed_by (held_of (m.kernel.acts b.0)) b (record m.kernel { telling = notes }) → IsSound k → AreClaimed k s.0
      → note_claim b.0 note ≡ 1
      → ((cs : Contexts C) (a : ℕ) (c : C) → told_contexts cs a c note ≡ put (put cs a (Some c)) b.0 None)
      → Tells w e g p s notes (called (λ u c. f.told u c note (held_for m.kernel note)) p s (record m { kernel = k }))
  tells-handed w e g m p s note notes b tells k same sound claimed one both =
      let st = tells.standing in
      let here = at-owned f stands keep e m p s st tells.owner in
      let n : Machine U C = record m { kernel = k } in
      let call : U → C → U × C = λ u c. f.told u c note (held_for m.kernel note) in
      let r : U × C = call here.user here.ctx in
      let law = keep.tells (setting m.workload s.0 here.def) e here.user (contexts_of m s.0) here.act.0 here.ctx note (held_for m.kernel note)
      (value-at f stands keep e m p s st here) (mine f stands keep e m p s st here) (handed-next e m p s note notes st here tells.telling tells.claimed) in
      let put_law : stands (setting m.workload s.0 here.def) e r.0 (put (put (contexts_of m s.0) here.act.0 (Some r.1)) b.0 None) =
      subst (λ (x : Contexts C). stands (setting m.workload s.0 here.def) e r.0 x) (both (contexts_of m s.0) here.act.0 r.1) law in
      let kept = next-kept s.0 note notes b.0 m.kernel tells.telling one tells.claimed in
      let j : KernelState C = record m.kernel { telling = notes } in
      let o = held_of (m.kernel.acts b.0) in
      let rest = handed-lives o b j in
      subst (λ (z : Machine U C). Tells w e g p s notes z) (sym (called-is call p s m n here.user here.ctx here.is_user here.is_ctx)) (record {
        workload = tells.workload;
        event = tells.event;
        standing = stands-handed e m p s k b.0 r.0 r.1 st here kept sound
            (ap (λ (z : KernelState C). z.lives) same ∙ rest.0)
            (ap (λ (z : KernelState C). z.acts) same ∙ handed-acts o kept.stopped b j (held-for s.0 (m.kernel.acts b.0) kept))
            (ap (λ (z : KernelState C). z.demands) same ∙ rest.1) put_law;
        claimed = claimed;
        owner = ap (λ (z : KernelState C). owner_of z p) same ∙ ap (λ (a : AssignView). get_or a.owners p.0 None) rest.3 ∙ tells.owner;
        telling = ap (λ (z : KernelState C). z.telling) same ∙ rest.2;
      })

  pub tells-next : (w : WorkloadView) (e g : ℕ) (m : Machine U C) (p : ProcNo) (s : SpaceNo) (note : Note) (notes : List Note)
      → Tells w e g p s (note ∷ notes) m → Tells w e g p s notes (told_one f p s note notes m)
  tells-next w e g m p s note notes tells =
      let sound = sound-after_fetch (note ∷ notes) m.kernel (sym tells.telling) tells.standing.sound in
      let claimed = claimed-after_fetch (note ∷ notes) m.kernel s.0 (sym tells.telling) tells.claimed in
      go note tells sound claimed
    where
      go : (n : Note) → Tells w e g p s (n ∷ notes) m → IsSound (fetched n (record m.kernel { telling = notes }))
          → AreClaimed (fetched n (record m.kernel { telling = notes })) s.0
          → Tells w e g p s notes (told_one f p s n notes m)
      go (Add q) t sound claimed = tells-plain w e g m p s (Add q) notes t _ refl sound claimed (λ cs a c. refl)
      go (Blocked b) t sound claimed = tells-plain w e g m p s (Blocked b) notes t _ refl sound claimed (λ cs a c. refl)
      go (Preempted b) t sound claimed = tells-handed w e g m p s (Preempted b) notes b t _ refl sound claimed (grind (arith, nat_tests)) (λ cs a c. refl)
      go (Unblocked b) t sound claimed = tells-handed w e g m p s (Unblocked b) notes b t _ refl sound claimed (grind (arith, nat_tests)) (λ cs a c. refl)

  -- it is told all of them
  pub tells-all : (w : WorkloadView) (e g : ℕ) (p : ProcNo) (s : SpaceNo) (notes : List Note) (m : Machine U C) → Tells w e g p s notes m
      → Tells w e g p s [] (told_all f p s notes m)
  tells-all w e g p s [] m tells = tells
  tells-all w e g p s (note ∷ notes) m tells = tells-all w e g p s notes (told_one f p s note notes m) (tells-next w e g m p s note notes tells)
