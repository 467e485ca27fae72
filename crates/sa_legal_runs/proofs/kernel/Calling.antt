-- An upcall: its context begins, is told, and goes on.
use Rattle.std.proofs.Common.{Contains, get_or, ◌≡◌, ◌≢◌, ℕ, ◌<◌, Option, Some, None, List, [], slice_get, slice_set, length, refl, sym, ap, subst, ◌∙◌}
use Rattle.std.proofs.Math.Path.{fun_ext}
use Rattle.std.proofs.lemmas.Option.{same_Some, none-some}
use Rattle.std.proofs.lemmas.List.{set-get_or}
use Rattle.sa_base.specs.declared.number.ProcNo.{ProcNo}
use Rattle.sa_base.specs.declared.number.SpaceNo.{SpaceNo}
use Rattle.sa_base.specs.declared.number.ActNo.{ActNo}
use Rattle.sa_base.specs.declared.record.Item.{Item}
use Rattle.sa_base.specs.declared.record.Note.{Note}
use Rattle.sa_base.specs.declared.record.Record.TheVariants.{Up}
use Rattle.sa_lemmas.specs.Function.{put}
use Rattle.sa_spaces.specs.Space.{SpaceView}
use Rattle.sa_spaces.specs.Workload.{WorkloadView, IsWorkload}
use Rattle.sa_abstract.specs.Calls.{Contexts}
use Rattle.sa_acts.specs.declared.acts.Act.{Act}
use Rattle.sa_acts.specs.Table.{runs_in}
use Rattle.sa_assign.specs.Aims.{space_no}
use Rattle.sa_laws.specs.Event.{Event}
use Rattle.sa_laws.specs.Record.{with_life, after_record}
use Rattle.sa_laws.specs.History.{arisen}
use Rattle.sa_laws.specs.Life.{Life, new_life}
use Rattle.sa_laws.specs.Readings.{Readings, life_of as life_at, running_of, owner_of as owner_in}
use Rattle.sa_kernel_model.specs.State.{KernelState, life_of}
use Rattle.sa_kernel_laws.proofs.overview.Untold.{AreOnce}
use Rattle.sa_core_model.specs.Machine.{answered, Machine, seen_on, context_begun}
use Rattle.sa_core_model.specs.Standing.{contexts_of, contexts_in, context_in, running}
use Rattle.sa_core_model.proofs.Phases.{at-owned, Paused}
use Rattle.sa_core_model.proofs.Calls.{called-is, mine, runs-at, Tells}
use Rattle.sa_core_model.proofs.Running.{contexts-put, contexts-put_kept, IsFree, contexts-begin, contexts-begin_kept, rests}
use Rattle.sa_core_model.specs.Run.{setting}
use Rattle.sa_core_model.proofs.Turns.{begun-is}
use Rattle.sa_user_laws.specs.Moments.{SameFor, AlikeButDemands, AlikeButEnds, IsMoment, Sees}
use Rattle.sa_user_laws.specs.Level.{UserLevel}
use Rattle.sa_legal_runs.proofs.frames.Foreign.{IsLifeOf, lives-foreign, runs-alike, AreLivesOf, foreign}
use Rattle.sa_legal_runs.proofs.kernel.Telling.{matched-of, Hearing}
use Rattle.sa_histories.proofs.Sizes.{IsSized, sized-step}
use Rattle.sa_kernel_laws.specs.Overview.{overview, read_off}
use Rattle.sa_core_model.proofs.Commits.{get-set}
use Rattle.sa_legal_runs.proofs.frames.Sizes.{are-sized}
use Rattle.sa_legal_runs.proofs.matching.Spaces.{holds-of, fit-put, AreFit, of-space, but-same, but-put, but-all}
use Rattle.sa_legal_runs.proofs.frames.Moments.{same-for, same-trans, alike-stays}
use Rattle.sa_legal_runs.proofs.frames.Lives.{AreMatched, Matches, matched-put}

module _ {C : Type 0} where
  none-matched : (x : Option (Act C)) (o : Option Life) → x ≡ None → Matches x o → o ≡ None
  none-matched None None is h = refl
  none-matched None (Some life) is h = absurd h
  none-matched (Some act) o is h = absurd (none-some act (sym is))

module _ {U C : Type 0} (level : UserLevel U C) where
  -- Where a context is set aside, or none ran, a fresh activation of the space can begin.
  pub record CanBegin (w : WorkloadView) (e g : ℕ) (p : ProcNo) (s : SpaceNo) (n : ActNo) (lives : List (Option ActNo))
      (acts : ℕ → Option (Act C)) (us : List (List Note)) (m : Machine U C) (k : KernelState C) (r : Readings) : Type 0 where
    pub ok : IsWorkload w
    pub paused : Paused level.stands e p lives acts m
    pub workload : m.workload ≡ w
    pub fit : AreFit level.fits w r m.users (contexts_in lives acts m.contexts)
    pub matched : AreMatched acts r.lives
    pub unused : acts n.0 ≡ None
    pub new_lives : k.lives ≡ slice_set lives p.0 (Some n)
    pub new_acts : k.acts ≡ put acts n.0 (Some (runs_in s))
    pub life : life_of k p ≡ Some n
    pub owner : owner_in r p ≡ Some s
    pub free : running_of r p ≡ None
    pub within : s.0 < length us
    pub untold : r.untold ≡ us
    pub once : AreOnce us
    pub sized : IsSized w r
    pub proc : p.0 < w.processors
    pub nowhere : (q : ProcNo) → running_of r q ≢ Some n

  pub hearing-begun : (w : WorkloadView) (e g : ℕ) (p : ProcNo) (s : SpaceNo) (n : ActNo) (lives : List (Option ActNo))
      (acts : ℕ → Option (Act C)) (us : List (List Note)) (m : Machine U C) (k : KernelState C) (items : List Item) (r : Readings) (number : ℕ)
      (u : U) (def : SpaceView) (notes : List Note)
      → CanBegin w e g p s n lives acts us m k r → slice_get m.users s.0 ≡ Some u → slice_get w.spaces s.0 ≡ Some def
      → Tells level.calls level.stands level.keep w e g p s notes (context_begun level.calls p s (record m { kernel = k; items = items }))
      → Hearing level w e g p s n us notes (get_or us s.0 []) (context_begun level.calls p s (record m { kernel = k; items = items }))
      (after_record w number p r (Up s n))
  hearing-begun w e g p s n lives acts us m k items r number u def notes can at of tells =
      let paused = can.paused in
      let x : Machine U C = record m { kernel = k; items = items } in
      let v : U × C = level.calls.begun u (seen_on x p s) in
      let cs : List (Option C) = slice_set m.contexts p.0 (Some v.1) in
      let old : ℕ → Contexts C = contexts_in lives acts m.contexts in
      let next = after_record w number p r (Up s n) in
      let size : length m.contexts ≡ length lives = paused.contexts ∙ sym paused.lives in
      let free : IsFree lives acts m.contexts p.0 n s = record {
        none = paused.none;
        within = paused.within;
        size = size;
        unused = can.unused;
        rest = rests paused.owners lives acts n.0 paused.alive (λ t is. none-some (runs_in t) (sym can.unused ∙ is));
      } in
      let none : old s.0 n.0 ≡ None = ap (λ (o : Option (Act C)). context_in s.0 o (running lives m.contexts n.0)) can.unused in
      let none_life : life_at r n ≡ None = none-matched (acts n.0) (r.lives n.0) can.unused (can.matched n.0) in
      let value = subst (λ (z : WorkloadView). level.stands (setting z s.0 def) e u (old s.0)) can.workload
      (paused.values s.0 u def at (subst (λ (z : WorkloadView). slice_get z.spaces s.0 ≡ Some def) (sym can.workload) of)) in
      let new = level.laws.begins w (setting w s.0 def) e r u (old s.0) p n (seen_on x p s) number
      (record { of = of-space w s.0 def can.ok of; sizes = are-sized w r can.sized; value = value })
      (can.fit s.0 u def at of) refl can.proc can.owner can.free none_life none can.nowhere in
      let to : (t b : ℕ) → contexts_in (slice_set lives p.0 (Some n))
      (put acts n.0 (Some (runs_in s))) cs t b ≡ contexts_in k.lives k.acts cs t b =
      λ t b. ap (λ (ls : List (Option ActNo)). contexts_in ls (put acts n.0 (Some (runs_in s))) cs t b) (sym can.new_lives)
      ∙ ap (λ (fs : ℕ → Option (Act C)). contexts_in k.lives fs cs t b) (sym can.new_acts) in
      let own : (b : ℕ) → put (old s.0) n.0 (Some v.1) b ≡ contexts_in k.lives k.acts cs s.0 b =
      λ b. contexts-begin lives acts m.contexts p.0 n s free v.1 b ∙ to s.0 b in
      let kept : (t : ℕ) → t ≢ s.0 → (b : ℕ) → old t b ≡ contexts_in k.lives k.acts cs t b =
      λ t apart b. contexts-begin_kept lives acts m.contexts p.0 n s free v.1 t apart b ∙ to t b in
      subst (λ (z : Machine U C). Tells level.calls level.stands level.keep w e g p s notes z
      → Hearing level w e g p s n us notes (get_or us s.0 []) z next) (sym (begun-is level.calls level.stands level.keep p s x u at))
      (λ told. record {
        tells = told;
        life = can.life;
        matched = subst (λ (fs : ℕ → Option (Act C)). AreMatched fs next.lives) (sym can.new_acts)
            (matched-put n.0 (Some (runs_in s)) (Some (new_life s p)) acts r.lives (refl, tt) can.matched);
        upped = refl;
        sized = sized-step w number p r (Up s n) can.sized;
        within = can.within;
        untold = can.untold ∙ sym (set-get_or us s.0 []);
        once = subst (λ (z : List (List Note)). AreOnce z) (sym (set-get_or us s.0 [])) can.once;
        hear = record {
          hear = λ z d is here.
              let same_user : v.0 ≡ z = same_Some v.0 z (sym (get-set m.users s.0 v.0 u at) ∙ is) in
              let same_def : def ≡ d = same_Some def d (sym of ∙ here) in
              subst (λ (y : U). level.hears w (setting w s.0 d) next n y (contexts_in k.lives k.acts cs s.0)) same_user
              (subst (λ (y : SpaceView). level.hears w (setting w s.0 y) next n v.0 (contexts_in k.lives k.acts cs s.0)) same_def
              (subst (λ (y : Contexts C). level.hears w (setting w s.0 def) next n v.0 y) (fun_ext own) new));
          others = but-put level w next s.0 m.users v.0 old (contexts_in k.lives k.acts cs) kept
              (but-same level w r next s.0 m.users old can.ok
              (λ t apart. foreign w number p s (space_no t) r (Up s n)
              (refl, (λ life is. absurd (none-some life (sym none_life ∙ is))), λ a is. absurd (none-some a (sym can.free ∙ is))) apart)
              (but-all level w r s.0 m.users old can.fit));
        };
      })
      tells

  -- After the closing the context goes on, and its event ends.
  abbrev pub risen : WorkloadView → Readings → Event → Readings → ActNo → Readings → Readings
  risen w before ev last n r = record r { lives = with_life (arisen level.rules.inside w before ev last) (Some n) r.lives }

  pub hearing-answered : (w : WorkloadView) (e g : ℕ) (p : ProcNo) (s : SpaceNo) (n : ActNo) (us : List (List Note))
      (m : Machine U C) (before r close last : Readings) (ev : Event)
      → IsWorkload w → (h : Hearing level w e g p s n us [] [] m r) → AlikeButDemands r close → IsMoment close → IsSized w close
      → overview close ≡ read_off m.kernel → AlikeButEnds last close
      → running_of close p ≡ Some n → ev.proc ≡ p → Contains ev.records (Up s n) → Sees s close p ev.number (seen_on m p s)
      → AreFit level.fits w (risen w before ev last n close) (answered level.calls p s m).users (contexts_of (answered level.calls p s m))
  hearing-answered w e g p s n us m before r close last ev ok h alike moment sized reads ends running proc up sees =
      let st = h.tells.standing in
      let here = at-owned level.calls level.stands level.keep e m p s st h.tells.owner in
      let seen = seen_on m p s in
      let x : U × C = level.calls.answered here.user seen here.ctx in
      let cs : List (Option C) = slice_set m.contexts p.0 (Some x.1) in
      let k = m.kernel in
      let final = risen w before ev last n close in
      let life : here.act ≡ n = same_Some here.act n (sym here.life ∙ h.life) in
      let size : length m.contexts ≡ length k.lives = st.contexts ∙ sym st.lives in
      let of : slice_get w.spaces s.0 ≡ Some here.def =
      subst (λ (v : WorkloadView). slice_get v.spaces s.0 ≡ Some here.def) h.tells.workload here.is_def in
      let set = setting w s.0 here.def in
      let mine_at : contexts_of m s.0 n.0 ≡ Some here.ctx =
      subst (λ (a : ActNo). contexts_of m s.0 a.0 ≡ Some here.ctx) life (mine level.calls level.stands level.keep e m p s st here) in
      let heard_at = level.laws.hears_same w set r close n here.user (contexts_of m s.0) (of-space w s.0 here.def ok of) alike
      (h.hear.hear here.user here.def here.is_user of) in
      let new = level.laws.answers w set e before close last ev here.user (contexts_of m s.0) n here.ctx seen
      (holds-of level w e m close s.0 here.user here.def ok h.tells.workload st h.tells.telling reads sized moment here.is_user of) heard_at mine_at
      (subst (λ (q : ProcNo). running_of close q ≡ Some n) (sym proc) running) up ends
      (subst (λ (q : ProcNo). Sees s close q ev.number seen) (sym proc) sees) in
      let runs = runs-at level.calls level.stands level.keep e m p s st here in
      let own : (b : ℕ) → put (contexts_of m s.0) n.0 (Some x.1) b ≡ contexts_in k.lives k.acts cs s.0 b =
      subst (λ (a : ActNo). (b : ℕ) → put (contexts_of m s.0) a.0 (Some x.1) b ≡ contexts_in k.lives k.acts cs s.0 b) life
      (contexts-put k.assign.owners k.lives k.acts m.contexts p.0 here.act s runs size here.within x.1) in
      let kept = contexts-put_kept k.assign.owners k.lives k.acts m.contexts p.0 here.act s runs (Some x.1) in
      let of_life : IsLifeOf s close.lives n =
      λ l is. matched-of s k.acts r.lives n (runs_in s) h.matched
      (subst (λ (a : ActNo). k.acts a.0 ≡ Some (runs_in s)) life here.runs) refl l
      (ap (λ (ls : ℕ → Option Life). ls n.0) (sym alike.lives) ∙ is) in
      let mine_of : AreLivesOf s close.lives (Some n) =
      λ a is. subst (λ (b : ActNo). IsLifeOf s close.lives b) (same_Some n a is) of_life in
      let ended_at : (t : SpaceNo) → t.0 ≢ s.0 → SameFor t close final = λ t apart.
      let all = lives-foreign s t (arisen level.rules.inside w before ev last) (Some n) close.lives (λ l. refl) mine_of apart in
      record {
        space = refl;
        lives = all;
        running = λ q. runs-alike t close.lives final.lives (running_of close q) all;
        taken = refl;
        untold = refl;
        ready = refl;
        lines = λ q runs raised. raised;
      } in
      subst (λ (z : Machine U C). AreFit level.fits w final z.users (contexts_of z))
      (sym (called-is level.calls level.stands level.keep
      (λ u c. level.calls.answered u seen c) p s m m here.user here.ctx here.is_user here.is_ctx))
      (fit-put level w final s.0 m.users x.0 (contexts_of m) (contexts_in k.lives k.acts cs) kept
      (λ d at. subst (λ (y : SpaceView). level.fits w (setting w s.0 y) final x.0 (contexts_in k.lives k.acts cs s.0))
      (same_Some here.def d (sym of ∙ at))
      (subst (λ (y : Contexts C). level.fits w set final x.0 y) (fun_ext own) new))
      (but-same level w r final s.0 m.users (contexts_of m) ok
      (λ t apart. same-trans (space_no t) r close final (same-for r close (alike-stays r close alike) (space_no t))
      (ended_at (space_no t) apart)) h.hear.others))
