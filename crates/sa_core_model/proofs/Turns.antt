-- What a machine keeps through its events.
use Rattle.std.proofs.Common.{◌≡◌, ◌≢◌, ℕ, ◌+◌, ◌<◌, ◌≤◌, Bool, true, false, Option, Some, None, is_some, IsSome, IfSome, List, [], get_or, slice_set, length, Contains, refl, sym, ap, subst, ◌∙◌, arith}
use Rattle.std.specs.Option.{option_map}
use Rattle.std.proofs.lemmas.List.{length-set}
use Rattle.std.proofs.lemmas.Option.{same_Some}
use Rattle.std.specs.Int.{bit_at}
use Rattle.sa_lemmas.proofs.Options.{some-is}
use Rattle.sa_lemmas.proofs.ListReads.{read-at}
use Rattle.sa_base.specs.declared.number.ProcNo.{ProcNo}
use Rattle.sa_base.specs.declared.number.SpaceNo.{SpaceNo}
use Rattle.sa_base.specs.declared.number.ActNo.{ActNo}
use Rattle.sa_base.specs.declared.number.IoNo.{IoNo}
use Rattle.sa_base.specs.declared.context.Seen.{Seen}
use Rattle.sa_base.specs.declared.context.Stopped.{Stopped}
use Rattle.sa_base.specs.declared.limits.TheConstants.{MAX_EVENTS}
use Rattle.sa_base.specs.declared.record.Item.{Item}
use Rattle.sa_lemmas.specs.Function.{put}
use Rattle.sa_lemmas.proofs.FunctionUpdates.{put-same, put-other}
use Rattle.sa_spaces.specs.Workload.{WorkloadView}
use Rattle.sa_abstract.specs.Calls.{Calls}
use Rattle.sa_abstract.specs.Keeps.{Standing, Keeps, IsBefore, IsAsked, IsStepped}
use Rattle.sa_abstract.specs.declared.answer.Step.{Step}
use Rattle.sa_abstract.specs.declared.answer.Step.TheVariants.{Did, Block, More, Idle, GiveBack, InterruptOwn}
use Rattle.sa_acts.specs.declared.acts.Act.{Act}
use Rattle.sa_acts.specs.Table.{runs_in, space_of}
use Rattle.sa_devices.specs.Ios.{due_of, io_at, io_no}
use Rattle.sa_base.specs.Pages.{has_page}
use Rattle.sa_devices.proofs.IosLemmas.{due_of-under_way}
use Rattle.sa_kernel_model.specs.declared.entry.Entry.{Entry}
use Rattle.sa_kernel_model.specs.declared.entry.Entry.TheVariants.{Interrupt, Block as BlockEntry, Complete, More as MoreEntry, Idle as IdleEntry, GiveBack as GiveBackEntry, InterruptOwn as InterruptOwnEntry}
use Rattle.sa_kernel_model.specs.State.{KernelState, Scene, owner_of, aim_of, line_of, life_of, taken_of, can_upcall}
use Rattle.sa_kernel_model.specs.Parts.{with_line}
use Rattle.sa_kernel_model.specs.Closing.{closed}
use Rattle.sa_kernel_model.specs.Entries.{entered, entered_as, evicted_at, stopped, gave_back, block_begun, blocked_by as kernel_blocked_by, told_or_left, without_acts, kind_at, IsOwnPage}
use Rattle.sa_kernel_model.specs.Entering.{MayEnter, Asks, upcalls}
use Rattle.sa_kernel_model.specs.Enters.{upcalls_for, upcalls_in}
use Rattle.sa_kernel_model.specs.Sound.{IsSound, IsUpcalled}
use Rattle.sa_kernel_model.proofs.sound.Sound.{sound-entered_as, sound-closed, sound-evicted}
use Rattle.sa_kernel_model.proofs.sound.Held.{upcalled-entered_as, upcalled-closed}
use Rattle.sa_kernel_model.proofs.parts.Seen.{low-bit}
use Rattle.sa_core_model.specs.Machine.{Machine, user_of, context_on, seen_on, scene_of, with_pair, without_context, called_by, context_begun, answered, stopped_by, stopped_in, step_to, stepped}
use Rattle.sa_core_model.specs.Turn.{next_event, ticked, ends_slice, sliced_if, sliced, kernel_entered, told_all, welcomed_in, welcomed_if, entered_on, answered_in, hinted, blocked_by, blocked, interrupted, asked, turned_owned, turned_due, turned_raised, turned}
use Rattle.sa_core_model.specs.Run.{setting}
use Rattle.sa_core_model.specs.Standing.{contexts_in, contexts_of, context_in, running, Stands, IsBetween}
use Rattle.sa_core_model.proofs.Running.{running-none, rests, contexts-back}
use Rattle.sa_core_model.proofs.Effects.{SameRuns, same-again, same-closed, same-over, same-more, same-idled, same-own, Starts, starts-same, aims-at, SetsAside, stopped-aside, stopped-off, blocked-aside, told-or-left}
use Rattle.sa_core_model.proofs.Phases.{Paused, IsAt, at-owned, stands-later, stands-kernel, stands-runs, stands-emptied, paused-stop, paused-off, stands-left, stands-begun}
use Rattle.sa_core_model.proofs.Calls.{value-at, mine, sees-at, stands-put, stands-answered, Tells, tells-all}

module _ {U C : Type 0} (f : Calls U C) (stands : Standing U C) (keep : Keeps f stands) where
  -- between two entries or calls: of this workload, in this event, with the steps of events up to e
  pub record Rests (w : WorkloadView) (e g : ℕ) (m : Machine U C) : Type 0 where
    pub standing : Stands stands e m
    pub fetched : m.kernel.telling ≡ []
    pub workload : m.workload ≡ w
    pub event : m.event ≡ g

  -- calls of a user level change no more than its value and its context
  record SameRest (m n : Machine U C) : Type 0 where
    pub kernel : n.kernel ≡ m.kernel
    pub workload : n.workload ≡ m.workload
    pub event : n.event ≡ m.event

  called-rest : (call : U → C → U × C) (p : ProcNo) (s : SpaceNo) (u : Option U) (c : Option C) (m : Machine U C) → SameRest m (called_by call p s u c m)
  called-rest call p s None c m = record { kernel = refl; workload = refl; event = refl }
  called-rest call p s (Some u) None m = record { kernel = refl; workload = refl; event = refl }
  called-rest call p s (Some u) (Some c) m = record { kernel = refl; workload = refl; event = refl }

  pub rests-answered : (w : WorkloadView) (e g : ℕ) (m : Machine U C) (p : ProcNo) (s : SpaceNo) → Stands stands e m → owner_of m.kernel p ≡ Some s
      → m.kernel.telling ≡ []
      → m.workload ≡ w → m.event ≡ g → Rests w e g (answered f p s m)
  rests-answered w e g m p s st owner fetched workload event =
      let same = called-rest (λ u c. f.answered u (seen_on m p s) c) p s (user_of m s) (context_on m p) m in record {
        standing = stands-answered f stands keep e m p s st owner;
        fetched = ap (λ (k : KernelState C). k.telling) same.kernel ∙ fetched;
        workload = same.workload ∙ workload;
        event = same.event ∙ event;
      }

  -- after an upcall the context begins, is told, and goes on
  pub begun-is : (p : ProcNo) (s : SpaceNo) (m : Machine U C) (u : U) → user_of m s ≡ Some u
      → context_begun f p s m ≡ with_pair p s (f.begun u (seen_on m p s)).0 (f.begun u (seen_on m p s)).1 m
  begun-is p s m u user = rw user refl

  -- an upcall was made in a fresh activation, whose context can begin
  pub record Welcomed (w : WorkloadView) (e g : ℕ) (p : ProcNo) (m : Machine U C) : Type 0 where
    pub space : SpaceNo
    pub user : U
    pub owner : owner_of m.kernel p ≡ Some space
    pub is_user : user_of m space ≡ Some user
    pub before : IsBefore stands user (seen_on m p space)
    pub within : p.0 < length m.kernel.lives
    pub place : p.0 < length m.contexts
    pub begins : Tells f stands keep w e g p space m.kernel.telling (context_begun f p space m)

  welcomed-new : (w : WorkloadView) (e g : ℕ) (m : Machine U C) (p : ProcNo) (s : SpaceNo) (n : ActNo) (lives : List (Option ActNo)) (acts : ℕ
      → Option (Act C)) (k : KernelState C) (items : List Item)
      → Paused stands e p lives acts m → IsSound k → k.lives ≡ slice_set lives p.0 (Some n) → k.acts ≡ put acts n.0 (Some (runs_in s))
      → length k.demands ≡ length m.workload.spaces
      → acts n.0 ≡ None → IsUpcalled k p n → m.workload ≡ w → m.event ≡ g → Welcomed w e g p (record m { kernel = k; items = items })
  welcomed-new w e g m p s n lives acts k items paused sound new_lives new_acts demands unused up workload event =
      let t : SpaceNo = up.space in
      let here : Some (runs_in s) ≡ k.acts n.0 = sym (ap (λ (fs : ℕ → Option (Act C)). fs n.0) new_acts ∙ put-same acts n.0 (Some (runs_in s))) in
      let same : s ≡ t = ap space_of (here ∙ up.act) in
      let new : k.acts ≡ put acts n.0 (Some (runs_in t)) = new_acts ∙ ap (λ (z : SpaceNo). put acts n.0 (Some (runs_in z))) same in
      let owned : t.0 < length k.demands = sound.formed.owners p.0 t up.owner in
      let u = read-at m.users t.0 (omega (arith, owned, demands, paused.users)) in
      let d = read-at m.workload.spaces t.0 (omega (arith, owned, demands)) in
      let after : Machine U C = record m { kernel = k; items = items } in
      let seen = seen_on after p t in
      let sees : p.0 < m.workload.processors = omega (arith, paused.within, paused.lives) in
      let long : length k.lives ≡ length lives = ap (λ (ls : List (Option ActNo)). length ls) new_lives ∙ length-set lives p.0 (Some n) in
      record {
        space = t;
        user = u.0;
        owner = up.owner;
        is_user = u.1;
        before = record {
          setting = setting m.workload t.0 d.0;
          event = e;
          others = contexts_in lives acts m.contexts t.0;
          value = paused.values t.0 u.0 d.0 u.1 d.1;
          sees = sees;
        };
        within = omega (arith, paused.within, long);
        place = omega (arith, paused.within, paused.lives, paused.contexts);
        begins = subst (λ (z : Machine U C). Tells f stands keep w e g p t k.telling z) (sym (begun-is p t after u.0 u.1)) (record {
          workload = workload;
          event = event;
          standing = stands-begun f stands keep e m p t n lives acts k items u.0 seen paused sound new_lives new demands unused u.1 sees;
          claimed = up.told;
          owner = up.owner;
          telling = refl;
        });
      }

  rests-welcomed : (w : WorkloadView) (e g : ℕ) (m : Machine U C) (p : ProcNo) → Welcomed w e g p m → Rests w e g (welcomed_in f p (owner_of m.kernel p) m)
  rests-welcomed w e g m p new =
      let t = new.space in
      let first = new.begins in
      let told = tells-all f stands keep w e g p t m.kernel.telling (context_begun f p t m) first in
      subst (λ (o : Option SpaceNo). Rests w e g (welcomed_in f p o m)) (sym new.owner)
      (rests-answered w e g (told_all f p t m.kernel.telling (context_begun f p t m)) p t told.standing told.owner told.telling told.workload told.event)

  -- an entry

  pub sound-after : (e : ℕ) (m : Machine U C) (p : ProcNo) (n : ActNo) (entry : Entry C) → Stands stands e m → m.kernel.telling ≡ []
      → p.0 < length m.kernel.lives
      → MayEnter m.kernel p m.event entry → m.kernel.acts n.0 ≡ None → IsSound (entered m.event p n entry (scene_of m)).state
  sound-after e m p n entry st fetched within fit unused =
      sound-closed m.event p (entered_as m.event p n entry (scene_of m)) (sound-entered_as m.event p n entry (scene_of m) within fit unused fetched st.sound)

  -- an entry after which the same activations run
  pub rests-entered : (w : WorkloadView) (e g : ℕ) (m : Machine U C) (p : ProcNo) (n : ActNo) (entry : Entry C) → Rests w e g m → p.0 < length m.kernel.lives
      → MayEnter m.kernel p m.event entry → m.kernel.acts n.0 ≡ None → SameRuns m.kernel (entered_as m.event p n entry (scene_of m)).state
      → Rests w e g (kernel_entered p n entry m)
  rests-entered w e g m p n entry rest within fit unused same =
      let x = entered_as m.event p n entry (scene_of m) in
      let y = closed m.event p x in
      let both = same-again m.kernel x.state y.state same (same-closed m.event p x) in record {
        standing =
            stands-kernel f stands keep e m.event m y.state y.items rest.standing (sound-after e m p n entry rest.standing rest.fetched within fit unused) both;
        fetched = both.telling ∙ rest.fetched;
        workload = rest.workload;
        event = rest.event;
      }

  -- an entry by which activations are given back
  pub none-taken : (k : KernelState C) (contexts : List (Option C)) (s : SpaceNo) → IsSound k → (a : ActNo) → Contains (taken_of k s.0) a → (t : ℕ)
      → contexts_in k.lives k.acts contexts t a.0 ≡ None
  none-taken k contexts s sound a has t =
      let taken = sound.formed.taken s.0 a has in
      let idle = running-none k.lives contexts a.0
      (rests k.assign.owners k.lives k.acts a.0 sound.formed.lives (λ u is. both taken.here u (sym taken.is ∙ is) taken.taken)) in
      ap (λ (x : Option (Act C)). context_in t x (running k.lives contexts a.0)) taken.is
      ∙ ap (context_in t (Some taken.here)) idle
      ∙ nothing taken.here taken.none_held t
    where
      both : (act : Act C) (u : SpaceNo) → Some act ≡ Some (runs_in u) → act.taken ≡ true → ⊥
      both act u is t = let z : act.taken ≡ false = cc in cc

      if-none : (b : Bool) (o : Option C) → o ≡ None → Rattle.std.proofs.Common.cond b o None ≡ None
      if-none true o e = e
      if-none false o e = refl

      nothing : (act : Act C) → act.held ≡ None → (t : ℕ) → context_in t (Some act) None ≡ None
      nothing act none t = if-none _ _ (ap (λ (h : Option (Stopped C)). Rattle.sa_core_model.specs.Standing.held_or_running h None) none)

  pub rests-given : (w : WorkloadView) (e g : ℕ) (m : Machine U C) (p : ProcNo) (n : ActNo) (s : SpaceNo) → Rests w e g m → p.0 < length m.kernel.lives
      → owner_of m.kernel p ≡ Some s
      → MayEnter m.kernel p m.event GiveBackEntry → m.kernel.acts n.0 ≡ None → Rests w e g (kernel_entered p n GiveBackEntry m)
  rests-given w e g m p n s rest within owner fit unused =
      let k = m.kernel in
      let x = entered_as m.event p n GiveBackEntry (scene_of m) in
      let y = closed m.event p x in
      let close = same-closed m.event p x in
      let gave : x ≡ gave_back m.event p (Some s) (scene_of m) = ap (λ (o : Option SpaceNo). gave_back m.event p o (scene_of m)) owner in
      let acts : y.state.acts ≡ without_acts (taken_of k s.0) k.acts = close.acts ∙ ap (λ (z : Scene C). z.state.acts) gave in
      record {
        standing =
            stands-emptied f stands keep e m y.state y.items rest.standing (sound-after e m p n GiveBackEntry rest.standing rest.fetched within fit unused)
            (close.lives ∙ ap (λ (z : Scene C). z.state.lives) gave)
            (close.demands ∙ ap (λ (z : Scene C). length z.state.demands) gave)
            (λ t b. contexts-back k.lives m.contexts (taken_of k s.0) k.acts (none-taken k m.contexts s rest.standing.sound) t b
            ∙ ap (λ (fs : ℕ → Option (Act C)). contexts_in k.lives fs m.contexts t b) (sym acts));
        fetched = close.telling ∙ ap (λ (z : Scene C). z.state.telling) gave ∙ rest.fetched;
        workload = rest.workload;
        event = rest.event;
      }

  -- the context that asked for an entry goes on
  rests-in : (w : WorkloadView) (e g : ℕ) (m : Machine U C) (p : ProcNo) (o : Option SpaceNo) → Rests w e g m → owner_of m.kernel p ≡ o
      → Rests w e g (answered_in f p o m)
  rests-in w e g m p None rest owner = rest
  rests-in w e g m p (Some s) rest owner = rests-answered w e g m p s rest.standing owner rest.fetched rest.workload rest.event

  rests-hinted : (w : WorkloadView) (e g : ℕ) (m : Machine U C) (p : ProcNo) (n : ActNo) (entry : Entry C) → Rests w e g (kernel_entered p n entry m)
      → Rests w e g (hinted f p n entry m)
  rests-hinted w e g m p n entry rest = rests-in w e g (kernel_entered p n entry m) p (owner_of (kernel_entered p n entry m).kernel p) rest refl

  -- an entry that sets a context aside, or finds none, and may upcall
  pub record Pauses (e : ℕ) (m : Machine U C) (p : ProcNo) (n : ActNo) (entry : Entry C) (k : KernelState C) : Type 0 where
    pub paused : Paused stands e p k.lives k.acts m
    pub unused : k.acts n.0 ≡ None
    pub telling : k.telling ≡ []
    pub demands : length k.demands ≡ length m.workload.spaces
    pub started : upcalls m.kernel p entry ≡ true → (s : SpaceNo) × Starts k (entered_as m.event p n entry (scene_of m)).state p n s
    pub same : upcalls m.kernel p entry ≡ false → SameRuns k (entered_as m.event p n entry (scene_of m)).state

  rests-paused : (w : WorkloadView) (e g : ℕ) (m : Machine U C) (p : ProcNo) (n : ActNo) (entry : Entry C) (k : KernelState C) → Pauses e m p n entry k
      → m.workload ≡ w → m.event ≡ g
      → IsSound (entered m.event p n entry (scene_of m)).state
      → (upcalls m.kernel p entry ≡ true → IsUpcalled (entered m.event p n entry (scene_of m)).state p n)
      → Rests w e g (entered_on f p n entry m)
  rests-paused w e g m p n entry k pauses workload event sound up = go (upcalls m.kernel p entry) refl
    where
      x : Scene C
      x = entered_as m.event p n entry (scene_of m)

      y : Scene C
      y = closed m.event p x

      go : (b : Bool) → upcalls m.kernel p entry ≡ b → Rests w e g (welcomed_if f p b (kernel_entered p n entry m))
      go true is =
          let start = pauses.started is in
          let all = starts-same k x.state y.state p n start.0 start.1 (same-closed m.event p x) in
          rests-welcomed w e g (kernel_entered p n entry m) p
          (welcomed-new w e g m p start.0 n k.lives k.acts y.state y.items pauses.paused sound all.lives all.acts (all.demands ∙ pauses.demands) pauses.unused
          (up is) workload event)
      go false is =
          let all = same-again k x.state y.state (pauses.same is) (same-closed m.event p x) in record {
            standing = stands-left f stands keep e m p k.lives k.acts y.state y.items pauses.paused sound all.lives all.acts (all.demands ∙ pauses.demands);
            fetched = all.telling ∙ pauses.telling;
            workload = workload;
            event = event;
          }

  -- a context is set aside

  pub stopped-is : (m : Machine U C) (p : ProcNo) (s : SpaceNo) → (here : IsAt f stands keep m p s)
      → stopped_in f m p (owner_of m.kernel p) ≡ Some (record { ctx = here.ctx; thread = f.thread here.user here.ctx; idle = f.idle here.user here.ctx })
  stopped-is m p s here =
      ap (λ (o : Option SpaceNo). stopped_in f m p o) here.owner
      ∙ ap (λ (u : Option U). stopped_by f u (context_on m p)) here.is_user
      ∙ ap (λ (c : Option C). stopped_by f (Some here.user) c) here.is_ctx

  upcalls-pages : (k l : KernelState C) (aim : Option SpaceNo) → l.pages ≡ k.pages → upcalls_for l aim ≡ upcalls_for k aim
  upcalls-pages k l None e = refl
  upcalls-pages k l (Some s) e = ap (λ (ps : List ℕ). has_page (get_or ps s.0 0) 0) e

  other-act : (acts : ℕ → Option (Act C)) (n a : ActNo) (s : SpaceNo) → acts n.0 ≡ None → acts a.0 ≡ Some (runs_in s) → n.0 ≢ a.0
  other-act acts n a s none some e = let z : acts n.0 ≡ Some (runs_in s) = ap acts e ∙ some in cc

  pub rests-upcall : (w : WorkloadView) (e g : ℕ) (m : Machine U C) (p : ProcNo) (n : ActNo) (entry : Entry C) (k : KernelState C) → Rests w e g m
      → p.0 < length m.kernel.lives
      → MayEnter m.kernel p m.event entry → m.kernel.acts n.0 ≡ None → Pauses e (without_context p m) p n entry k
      → Rests w e g (entered_on f p n entry (without_context p m))
  rests-upcall w e g m p n entry k rest within fit unused pauses =
      let st = rest.standing in
      let x = entered_as m.event p n entry (scene_of m) in
      rests-paused w e g (without_context p m) p n entry k pauses rest.workload rest.event
      (sound-after e m p n entry st rest.fetched within fit unused)
      (λ up. upcalled-closed m.event p x p n
      (upcalled-entered_as m.event p n entry (scene_of m) st.sound.claimed.told_to up within unused rest.fetched st.sound.formed st.sound.claimed.once))

  pub welcomed-upcall : (w : WorkloadView) (e g : ℕ) (m : Machine U C) (p : ProcNo) (n : ActNo) (entry : Entry C) (k : KernelState C) → Rests w e g m
      → p.0 < length m.kernel.lives
      → MayEnter m.kernel p m.event entry → m.kernel.acts n.0 ≡ None → Pauses e (without_context p m) p n entry k → upcalls m.kernel p entry ≡ true
      → Welcomed w e g p (kernel_entered p n entry (without_context p m))
  welcomed-upcall w e g m p n entry k rest within fit unused pauses is =
      let st = rest.standing in
      let x = entered_as m.event p n entry (scene_of m) in
      let y = closed m.event p x in
      let start = pauses.started is in
      let all = starts-same k x.state y.state p n start.0 start.1 (same-closed m.event p x) in
      welcomed-new w e g (without_context p m) p start.0 n k.lives k.acts y.state y.items pauses.paused
      (sound-after e m p n entry st rest.fetched within fit unused)
      all.lives all.acts (all.demands ∙ pauses.demands) pauses.unused
      (upcalled-closed m.event p x p n
      (upcalled-entered_as m.event p n entry (scene_of m) st.sound.claimed.told_to is within unused rest.fetched st.sound.formed st.sound.claimed.once))
      rest.workload rest.event

  -- a context is set aside by an interrupt
  pauses-aside : (e : ℕ) (m : Machine U C) (p : ProcNo) (n : ActNo) (s : SpaceNo) (entry : Entry C) (k : KernelState C) (held : Stopped C) → Stands stands e m
      → m.kernel.telling ≡ []
      → m.kernel.acts n.0 ≡ None → (here : IsAt f stands keep m p s) → held.ctx ≡ here.ctx → SetsAside m.kernel k p here.act held
      → (upcalls m.kernel p entry ≡ true → (t : SpaceNo) × Starts k (entered_as m.event p n entry (scene_of m)).state p n t)
      → (upcalls m.kernel p entry ≡ false → SameRuns k (entered_as m.event p n entry (scene_of m)).state)
      → Pauses e (without_context p m) p n entry k
  pauses-aside e m p n s entry k held st fetched unused here is aside started same = record {
    paused = subst (λ (ls : List (Option ActNo)). Paused stands e p ls k.acts (without_context p m)) (sym aside.lives)
        (subst (λ (fs : ℕ → Option (Act C)). Paused stands e p (slice_set m.kernel.lives p.0 None) fs (without_context p m)) (sym aside.acts)
        (paused-stop f stands keep e m p s held st here is));
    unused = ap (λ (fs : ℕ → Option (Act C)). fs n.0) aside.acts
        ∙ put-other m.kernel.acts here.act.0 n.0 _ (other-act m.kernel.acts n here.act s unused here.runs) ∙ unused;
    telling = aside.telling ∙ fetched;
    demands = aside.demands ∙ st.demands;
    started = started;
    same = same;
  }

  -- an entry fits a processor whose context is set aside, or that has none
  pub record CanEnter (e : ℕ) (m : Machine U C) (p : ProcNo) (n : ActNo) (entry : Entry C) : Type 0 where
    pub state : KernelState C
    pub fit : MayEnter m.kernel p m.event entry
    pub pauses : Pauses e (without_context p m) p n entry state

  interrupted-some : (w : WorkloadView) (e g : ℕ) (m : Machine U C) (p : ProcNo) (n : ActNo) (s : SpaceNo) (raised : ℕ) (held : Stopped C) → Rests w e g m
      → p.0 < length m.kernel.lives
      → line_of m.kernel p ≡ Some raised → m.kernel.acts n.0 ≡ None → (here : IsAt f stands keep m p s) → held.ctx ≡ here.ctx
      → CanEnter e m p n (Interrupt (Some held))
  interrupted-some w e g m p n s raised held rest within line unused here is =
      let k = m.kernel in
      let low : Scene C = record { state = with_line p None k; items = m.items } in
      let y : Scene C = stopped m.event p (owner_of k p) (life_of k p) (Some held) low in
      let aside = stopped-aside m.event p (owner_of k p) (life_of k p) (Some held) low s here.act held here.owner here.life refl in
      let mine : SetsAside k y.state p here.act held =
      record { lives = aside.lives; acts = aside.acts; telling = aside.telling; pages = aside.pages; demands = aside.demands } in
      let aims = aims-at m.event p n (aim_of k p) y in
      let same = upcalls-pages k y.state (aim_of k p) mine.pages in
      record {
        state = y.state;
        fit = record { raised = ap (λ (o : Option ℕ). is_some o) line; held = λ h. ap (λ (o : Option SpaceNo). is_some o) here.owner; owned = λ h. refl };
        pauses =
            pauses-aside e m p n s (Interrupt (Some held)) y.state held rest.standing rest.fetched unused here is mine (λ up. aims.started (same ∙ up))
            (λ up. aims.same (same ∙ up));
      }

  interrupted-none : (w : WorkloadView) (e g : ℕ) (m : Machine U C) (p : ProcNo) (n : ActNo) (raised : ℕ) → Rests w e g m → p.0 < length m.kernel.lives
      → line_of m.kernel p ≡ Some raised → m.kernel.acts n.0 ≡ None → owner_of m.kernel p ≡ None → CanEnter e m p n (Interrupt None)
  interrupted-none w e g m p n raised rest within line unused off =
      let k = m.kernel in
      let low : Scene C = record { state = with_line p None k; items = m.items } in
      let y : Scene C = stopped m.event p (owner_of k p) (life_of k p) None low in
      let is : y ≡ low = stopped-off m.event p (owner_of k p) (life_of k p) None low off in
      let aims = aims-at m.event p n (aim_of k p) y in
      let same = upcalls-pages k y.state (aim_of k p) (ap (λ (z : Scene C). z.state.pages) is) in
      let lives : y.state.lives ≡ k.lives = ap (λ (z : Scene C). z.state.lives) is in
      let acts : y.state.acts ≡ k.acts = ap (λ (z : Scene C). z.state.acts) is in
      record {
        state = y.state;
        fit =
            record {
              raised = ap (λ (o : Option ℕ). is_some o) line;
              held = λ h. absurd cc;
              owned = λ h. absurd (let z = sym h ∙ ap (λ (o : Option SpaceNo). is_some o) off in cc);
            };
        pauses = record {
          paused = subst (λ (ls : List (Option ActNo)). Paused stands e p ls y.state.acts (without_context p m)) (sym lives)
              (subst (λ (fs : ℕ → Option (Act C)). Paused stands e p k.lives fs (without_context p m)) (sym acts)
              (paused-off f stands keep e m p rest.standing within off));
          unused = ap (λ (fs : ℕ → Option (Act C)). fs n.0) acts ∙ unused;
          telling = ap (λ (z : Scene C). z.state.telling) is ∙ rest.fetched;
          demands = ap (λ (z : Scene C). length z.state.demands) is ∙ rest.standing.demands;
          started = λ up. aims.started (same ∙ up);
          same = λ up. aims.same (same ∙ up);
        };
      }

  pub can-interrupt : (w : WorkloadView) (e g : ℕ) (m : Machine U C) (p : ProcNo) (n : ActNo) (raised : ℕ) → Rests w e g m → p.0 < length m.kernel.lives
      → line_of m.kernel p ≡ Some raised → m.kernel.acts n.0 ≡ None → CanEnter e m p n (Interrupt (stopped_in f m p (owner_of m.kernel p)))
  can-interrupt w e g m p n raised rest within line unused = go (owner_of m.kernel p) refl
    where
      go : (o : Option SpaceNo) → owner_of m.kernel p ≡ o → CanEnter e m p n (Interrupt (stopped_in f m p (owner_of m.kernel p)))
      go None off =
          subst (λ (h : Option (Stopped C)). CanEnter e m p n (Interrupt h)) (sym (ap (λ (o : Option SpaceNo). stopped_in f m p o) off))
          (interrupted-none w e g m p n raised rest within line unused off)
      go (Some s) owner =
          let here = at-owned f stands keep e m p s rest.standing owner in
          subst (λ (h : Option (Stopped C)). CanEnter e m p n (Interrupt h)) (sym (stopped-is m p s here))
          (interrupted-some w e g m p n s raised _ rest within line unused here refl)

  pub rests-interrupted : (w : WorkloadView) (e g : ℕ) (m : Machine U C) (p : ProcNo) (n : ActNo) (raised : ℕ) → Rests w e g m → p.0 < length m.kernel.lives
      → line_of m.kernel p ≡ Some raised → m.kernel.acts n.0 ≡ None → Rests w e g (interrupted f p n m)
  rests-interrupted w e g m p n raised rest within line unused =
      let can = can-interrupt w e g m p n raised rest within line unused in
      rests-upcall w e g m p n (Interrupt (stopped_in f m p (owner_of m.kernel p))) can.state rest within can.fit unused can.pauses

  -- a context is set aside by a block
  blocked-is : (m : Machine U C) (p : ProcNo) (n : ActNo) (s : SpaceNo) (held : Stopped C) (len : ℕ) (page : Option ℕ) → (here : IsAt f stands keep m p s)
      → entered_as m.event p n (BlockEntry held len page) (scene_of m)
      ≡ told_or_left m.event p s n (can_upcall m.kernel s) (block_begun m.event p s here.act held len page (scene_of m))
  blocked-is m p n s held len page here =
      ap (λ (o : Option SpaceNo). kernel_blocked_by m.event p n o (life_of m.kernel p) held len page (scene_of m)) here.owner
      ∙ ap (λ (l : Option ActNo). kernel_blocked_by m.event p n (Some s) l held len page (scene_of m)) here.life

  pub can-block : (w : WorkloadView) (e g : ℕ) (m : Machine U C) (p : ProcNo) (n : ActNo) (s : SpaceNo) (len : ℕ) (page : Option ℕ) (held : Stopped C)
      → Rests w e g m
      → owner_of m.kernel p ≡ Some s → line_of m.kernel p ≡ None → m.kernel.acts n.0 ≡ None → IfSome page IsOwnPage
      → stopped_in f m p (owner_of m.kernel p) ≡ Some held → CanEnter e m p n (BlockEntry held len page)
  can-block w e g m p n s len page held rest owner low unused own is_held =
      let k = m.kernel in
      let here = at-owned f stands keep e m p s rest.standing owner in
      let same_ctx : held.ctx ≡ here.ctx =
      ap (λ (h : Stopped C). h.ctx)
      (same_Some held (record { ctx = here.ctx; thread = f.thread here.user here.ctx; idle = f.idle here.user here.ctx })
      (sym is_held ∙ stopped-is m p s here)) in
      let entry : Entry C = BlockEntry held len page in
      let y : Scene C = block_begun m.event p s here.act held len page (scene_of m) in
      let is = blocked-is m p n s held len page here in
      let cases = told-or-left m.event p s n (can_upcall k s) y in
      let up : upcalls k p entry ≡ can_upcall k s =
      ap (λ (o : Option SpaceNo). upcalls_in k o (life_of k p)) here.owner ∙ ap (λ (l : Option ActNo). upcalls_in k (Some s) l) here.life in
      record {
        state = y.state;
        fit = record { space = s; asks = record { owner = owner; low = low }; page = own };
        pauses =
            pauses-aside e m p n s entry y.state held rest.standing rest.fetched unused here same_ctx
            (blocked-aside m.event p s here.act held len page (scene_of m))
            (λ can. (s, subst (λ (z : Scene C). Starts y.state z.state p n s) (sym is) (cases.0 (sym up ∙ can))))
            (λ can. subst (λ (z : Scene C). SameRuns y.state z.state) (sym is) (cases.1 (sym up ∙ can)));
      }

  pub rests-blocked : (w : WorkloadView) (e g : ℕ) (m : Machine U C) (p : ProcNo) (n : ActNo) (s : SpaceNo) (len : ℕ) (page : Option ℕ) → Rests w e g m
      → owner_of m.kernel p ≡ Some s → line_of m.kernel p ≡ None → m.kernel.acts n.0 ≡ None → IfSome page IsOwnPage → Rests w e g (blocked f p n len page m)
  rests-blocked w e g m p n s len page rest owner low unused own =
      let here = at-owned f stands keep e m p s rest.standing owner in
      let held : Stopped C = record { ctx = here.ctx; thread = f.thread here.user here.ctx; idle = f.idle here.user here.ctx } in
      let can = can-block w e g m p n s len page held rest owner low unused own (stopped-is m p s here) in
      subst (λ (h : Option (Stopped C)). Rests w e g (blocked_by f p n len page h (without_context p m))) (sym (stopped-is m p s here))
      (rests-upcall w e g m p n (BlockEntry held len page) can.state rest here.within can.fit unused can.pauses)

  -- where a slice ends
  rests-sliced_if : (w : WorkloadView) (e g : ℕ) (m : Machine U C) (p : ProcNo) (b : Bool) → Rests w e g m → Rests w e g (sliced_if p b m)
  rests-sliced_if w e g m p false rest = rest
  rests-sliced_if w e g m p true rest =
      let same = same-closed m.event p (scene_of m) in
      let y = closed m.event p (scene_of m) in record {
        standing = stands-kernel f stands keep e m.event m y.state y.items rest.standing (sound-closed m.event p (scene_of m) rest.standing.sound) same;
        fetched = same.telling ∙ rest.fetched;
        workload = rest.workload;
        event = rest.event;
      }

  pub rests-sliced : (w : WorkloadView) (e g : ℕ) (m : Machine U C) (p : ProcNo) → Rests w e g m → Rests w e g (sliced p m)
  rests-sliced w e g m p rest = rests-sliced_if w e g m p (ends_slice m) rest

  pub rests-ticked : (w : WorkloadView) (e g : ℕ) (m : Machine U C) (p : ProcNo) → Rests w e g m → Rests w e g (ticked p m)
  rests-ticked w e g m p rest = record {
    standing = stands-runs f stands keep e m.event m m.kernel _ rest.standing rest.standing.sound refl refl refl;
    fetched = rest.fetched;
    workload = rest.workload;
    event = rest.event;
  }

  -- a step, and what it asks for

  pub stepped-is : (m : Machine U C) (p : ProcNo) (s : SpaceNo) → (here : IsAt f stands keep m p s)
      → stepped f p s m ≡ (step_to f p s (f.stepped here.user (seen_on m p s) here.ctx) m, (f.stepped here.user (seen_on m p s) here.ctx).answer)
  stepped-is m p s here = rw (here.is_user, here.is_ctx) refl

  pub step-law : (e : ℕ) (m : Machine U C) (p : ProcNo) (s : SpaceNo) → (st : Stands stands e m) → (here : IsAt f stands keep m p s) → e < m.event
      → m.event ≤ MAX_EVENTS
      → IsStepped stands (setting m.workload s.0 here.def) (seen_on m p s) (contexts_of m s.0) here.act.0 (f.stepped here.user (seen_on m p s) here.ctx)
  step-law e m p s st here later few =
      keep.steps (setting m.workload s.0 here.def) e here.user (contexts_of m s.0) here.act.0 here.ctx (seen_on m p s)
      (value-at f stands keep e m p s st here) (mine f stands keep e m p s st here) (sees-at f stands keep e m p s st here) later few

  pub rests-stepped : (w : WorkloadView) (e g : ℕ) (m : Machine U C) (p : ProcNo) (s : SpaceNo) → (rest : Rests w e g m) → (here : IsAt f stands keep m p s)
      → e < m.event → m.event ≤ MAX_EVENTS
      → Rests w g g (step_to f p s (f.stepped here.user (seen_on m p s) here.ctx) m)
  rests-stepped w e g m p s rest here later few =
      let r = f.stepped here.user (seen_on m p s) here.ctx in
      let law = step-law e m p s rest.standing here later few in record {
        standing = subst (λ (n : ℕ). Stands stands n (step_to f p s r m)) rest.event
            (stands-put f stands keep e m.event m.event m p s r.user r.ctx _ (omega (arith, later)) rest.standing here law.value);
        fetched = rest.fetched;
        workload = rest.workload;
        event = rest.event;
      }

  pub own-page : (page : Option ℕ) → IfSome page (λ k. (1 ≤ k) × (k < 16)) → IfSome page IsOwnPage
  own-page None h = tt
  own-page (Some k) h = (h.0, let z = h.1 in omega arith)

  rests-asked : (w : WorkloadView) (g : ℕ) (m : Machine U C) (p : ProcNo) (n : ActNo) (s : SpaceNo) (seen : Seen) (answer : Step) → Rests w g g m
      → (here : IsAt f stands keep m p s)
      → seen ≡ seen_on m p s → line_of m.kernel p ≡ None → m.kernel.acts n.0 ≡ None → IsAsked (setting m.workload s.0 here.def) seen answer
      → Rests w g g (asked f p n answer m)
  rests-asked w g m p n s seen Did rest here sees low unused ask = rests-sliced w g g m p rest
  rests-asked w g m p n s seen (Block len page) rest here sees low unused ask =
      rests-blocked w g g m p n s len page rest here.owner low unused (own-page page ask.2)
  rests-asked w g m p n s seen (More i) rest here sees low unused ask =
      let asks : Asks m.kernel p s = record { owner = here.owner; low = low } in
      let few = subst (λ (z : Seen). z.demand + i ≤ m.workload.processors) sees ask.1 in
      rests-hinted w g g m p n (MoreEntry i) (rests-entered w g g m p n (MoreEntry i) rest here.within
      (record { space = s; asks = asks; some = ask.0; few = omega (arith, few, rest.standing.lives) }) unused
      (same-more m.event p i (owner_of m.kernel p) (scene_of m)))
  rests-asked w g m p n s seen Idle rest here sees low unused ask =
      let asks : Asks m.kernel p s = record { owner = here.owner; low = low } in
      let some = subst (λ (z : Seen). 1 ≤ z.demand) sees ask in
      rests-hinted w g g m p n IdleEntry (rests-entered w g g m p n IdleEntry rest here.within
      (record { space = s; asks = asks; some = some }) unused (same-idled m.event p (owner_of m.kernel p) (scene_of m)))
  rests-asked w g m p n s seen GiveBack rest here sees low unused ask =
      let asks : Asks m.kernel p s = record { owner = here.owner; low = low } in
      let some = subst (λ (z : Seen). 1 ≤ z.taken) sees ask in
      rests-hinted w g g m p n GiveBackEntry (rests-given w g g m p n s rest here.within here.owner (record { space = s; asks = asks; some = some }) unused)
  rests-asked w g m p n s seen (InterruptOwn q) rest here sees low unused ask =
      let asks : Asks m.kernel p s = record { owner = here.owner; low = low } in
      let bit = subst (λ (z : Seen). bit_at z.low q.0 ≡ 1) sees ask.2 in
      let other = (low-bit m.kernel s q rest.standing.sound.formed.sizes).0 bit in
      let apart = subst (λ (z : Seen). q ≢ z.proc) sees ask.0 in
      rests-hinted w g g m p n (InterruptOwnEntry q) (rests-entered w g g m p n (InterruptOwnEntry q) rest here.within
      (record {
        space = s;
        asks = asks;
        other = λ is. apart (sym (ap (λ i. record { 0 = i }) is));
        within = (let z = ask.1 in omega (arith, rest.standing.lives));
        owned = record { owner = other.owner; low = other.line };
      }) unused (same-own m.event p q (scene_of m)))

  -- the I/O that is due
  rests-due : (w : WorkloadView) (e g : ℕ) (m : Machine U C) (p : ProcNo) (n : ActNo) (io : IoNo) → Rests w e g m → p.0 < length m.kernel.lives
      → line_of m.kernel p ≡ None → m.kernel.acts n.0 ≡ None → option_map io_no (due_of m.event m.kernel.under_way) ≡ Some io
      → Rests w e g (entered_on f p n (Complete io) m)
  rests-due w e g m p n io rest within low unused due =
      let there = subst (λ (o : Option IoNo). IfSome o (λ i. IsSome (io_at i.0 m.kernel.under_way))) due (due_of-under_way m.event m.kernel.under_way) in
      let here = some-is (io_at io.0 m.kernel.under_way) there in
      rests-entered w e g m p n (Complete io) rest within (record { here = here.0; under_way = here.1; low = low }) unused
      (same-over m.event p io (kind_at io.0 m.kernel.under_way) (scene_of m))

  -- what rests in an event rests on its steps
  pub rests-later : (w : WorkloadView) (e g : ℕ) (m : Machine U C) → e ≤ g → Rests w e g m → Rests w g g m
  rests-later w e g m later rest = record {
    standing = stands-later f stands keep e g m later rest.standing;
    fetched = rest.fetched;
    workload = rest.workload;
    event = rest.event;
  }

  -- a turn, in an event that has begun
  rests-owned : (w : WorkloadView) (e g : ℕ) (m : Machine U C) (p : ProcNo) (n : ActNo) (o : Option SpaceNo) → Rests w e g m → e < m.event
      → m.event ≤ MAX_EVENTS
      → line_of m.kernel p ≡ None → m.kernel.acts n.0 ≡ None → owner_of m.kernel p ≡ o → Rests w g g (turned_owned f p n o m)
  rests-owned w e g m p n None rest later few low unused owner =
      let done = rests-sliced w e g (ticked p m) p (rests-ticked w e g m p rest) in
      rests-later w e g (sliced p (ticked p m)) (omega (arith, later, rest.event)) done
  rests-owned w e g m p n (Some s) rest later few low unused owner =
      let here = at-owned f stands keep e m p s rest.standing owner in
      let r = f.stepped here.user (seen_on m p s) here.ctx in
      let after = step_to f p s r m in
      let done = rests-stepped w e g m p s rest here later few in
      let law = step-law e m p s rest.standing here later few in
      let there = at-owned f stands keep g after p s done.standing owner in
      let same : there.def ≡ here.def = same_Some there.def here.def (sym there.is_def ∙ here.is_def) in
      subst (λ (z : Machine U C × Step). Rests w g g (asked f p n z.1 z.0)) (sym (stepped-is m p s here))
      (rests-asked w g after p n s (seen_on m p s) r.answer done there refl low unused
      (subst (λ d. IsAsked (setting m.workload s.0 d) (seen_on m p s) r.answer) (sym same) law.asked))

  rests-turned_due : (w : WorkloadView) (e g : ℕ) (m : Machine U C) (p : ProcNo) (n : ActNo) (o : Option IoNo) → Rests w e g m → e < m.event
      → m.event ≤ MAX_EVENTS
      → p.0 < length m.kernel.lives → line_of m.kernel p ≡ None → m.kernel.acts n.0 ≡ None → option_map io_no (due_of m.event m.kernel.under_way) ≡ o
      → Rests w g g (turned_due f p n o m)
  rests-turned_due w e g m p n None rest later few within low unused due = rests-owned w e g m p n (owner_of m.kernel p) rest later few low unused refl
  rests-turned_due w e g m p n (Some io) rest later few within low unused due =
      rests-later w e g (entered_on f p n (Complete io) m) (omega (arith, later, rest.event)) (rests-due w e g m p n io rest within low unused due)

  rests-raised : (w : WorkloadView) (e g : ℕ) (m : Machine U C) (p : ProcNo) (n : ActNo) (o : Option ℕ) → Rests w e g m → e < m.event → m.event ≤ MAX_EVENTS
      → p.0 < length m.kernel.lives → m.kernel.acts n.0 ≡ None → line_of m.kernel p ≡ o → Rests w g g (turned_raised f p n o m)
  rests-raised w e g m p n None rest later few within unused line =
      rests-turned_due w e g m p n (option_map io_no (due_of m.event m.kernel.under_way)) rest later few within line unused refl
  rests-raised w e g m p n (Some raised) rest later few within unused line =
      rests-later w e g (interrupted f p n m) (omega (arith, later, rest.event)) (rests-interrupted w e g m p n raised rest within line unused)

  -- an event begins
  pub rests-next : (w : WorkloadView) (e g : ℕ) (m : Machine U C) → Rests w e g m → Rests w e (g + 1) (next_event m)
  rests-next w e g m rest = record {
    standing = stands-runs f stands keep e (m.event + 1) m (evicted_at (m.event + 1) m.kernel) m.items rest.standing
        (sound-evicted (m.event + 1) m.kernel rest.standing.sound) refl refl refl;
    fetched = rest.fetched;
    workload = rest.workload;
    event = ap (λ (i : ℕ). i + 1) rest.event;
  }

  pub rests-between : (m : Machine U C) → IsBetween stands m → Rests m.workload m.event m.event m
  rests-between m between = record { standing = between.standing; fetched = between.fetched; workload = refl; event = refl }

  -- a turn keeps a machine standing, and is one event
  pub rests-turned : (m : Machine U C) (p : ProcNo) (n : ActNo) → IsBetween stands m → m.event + 1 ≤ MAX_EVENTS → p.0 < m.workload.processors
      → m.kernel.acts n.0 ≡ None
      → Rests m.workload (m.event + 1) (m.event + 1) (turned f p n m)
  rests-turned m p n between few within unused =
      let first = rests-next m.workload m.event m.event m (rests-between m between) in
      rests-raised m.workload m.event (m.event + 1) (next_event m) p n (line_of (next_event m).kernel p) first (omega arith) few
      (omega (arith, within, between.standing.lives)) unused refl

  pub between-rests : (w : WorkloadView) (g : ℕ) (m : Machine U C) → Rests w g g m → IsBetween stands m
  between-rests w g m rest = record { standing = subst (λ (i : ℕ). Stands stands i m) (sym rest.event) rest.standing; fetched = rest.fetched }
