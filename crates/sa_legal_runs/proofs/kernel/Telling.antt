-- An upcall is told: each told record beside its call.
use Rattle.std.proofs.Common.{true, map, inr, inl, ◌⊎◌, get_or, ◌≡◌, ◌≢◌, ℕ, ◌<◌, Option, Some, None, List, [], ◌∷◌, slice_get, slice_set, length, Contains, refl, sym, ap, subst, ◌∙◌, arith}
use Rattle.std.proofs.lemmas.Bool.Decides.{nat_tests}
use Rattle.std.proofs.Math.Path.{fun_ext}
use Rattle.std.proofs.lemmas.Option.{same_Some, none-some}
use Rattle.std.proofs.lemmas.List.{get_or-set_same, get_or-set_other}
use Rattle.sa_base.specs.declared.record.Note.TheVariants.{Add, Preempted, Blocked, Unblocked}
use Rattle.sa_base.specs.declared.number.ProcNo.{ProcNo}
use Rattle.sa_base.specs.declared.number.SpaceNo.{SpaceNo}
use Rattle.sa_base.specs.declared.number.ActNo.{ActNo}
use Rattle.sa_base.specs.declared.context.Stopped.{Stopped}
use Rattle.sa_base.specs.declared.record.Note.{Note}
use Rattle.sa_base.specs.declared.record.Record.TheVariants.{Told}
use Rattle.sa_lemmas.specs.Function.{put}
use Rattle.sa_spaces.specs.Space.{SpaceView}
use Rattle.sa_spaces.specs.Workload.{WorkloadView, IsWorkload}
use Rattle.sa_abstract.specs.Keeps.{IsHanded, told_contexts}
use Rattle.sa_abstract.specs.Calls.{Contexts}
use Rattle.sa_abstract.specs.Setting.{Setting}
use Rattle.sa_acts.specs.Table.{held_of, runs_in, taken_from}
use Rattle.sa_acts.specs.declared.acts.Act.{Act}
use Rattle.sa_assign.specs.Aims.{space_no}
use Rattle.sa_laws.specs.Readings.{untold_of, Readings}
use Rattle.sa_laws.specs.History.{after_records}
use Rattle.sa_laws.specs.Life.{Life}
use Rattle.sa_laws.specs.Record.{after_record, without_note}
use Rattle.sa_kernel_laws.proofs.overview.Untold.{none-without, copies, once-left, AreOnce, told-left}
use Rattle.sa_kernel_model.specs.Sound.{note_claim}
use Rattle.sa_kernel_model.specs.State.{KernelState, life_of}
use Rattle.sa_kernel_model.specs.Entries.{fetched, held_for, handed_by}
use Rattle.sa_core_model.proofs.Running.{contexts-put, contexts-put_kept}
use Rattle.sa_core_model.proofs.Commits.{get-set}
use Rattle.sa_histories.proofs.Sizes.{IsSized, sized-step}
use Rattle.sa_legal_runs.proofs.frames.Sizes.{are-sized}
use Rattle.sa_core_model.proofs.Calls.{called-is, handed-acts, handed-lives, contexts-given, handed-next, held-for, next-kept, Tells, tells-next, mine, runs-at}
use Rattle.sa_core_model.specs.Turn.{told_all, told_one}
use Rattle.sa_core_model.specs.Machine.{Machine, with_pair, context_on, user_of, called_by}
use Rattle.sa_core_model.specs.Run.{setting}
use Rattle.sa_core_model.specs.Standing.{contexts_in, contexts_of}
use Rattle.sa_core_model.proofs.Phases.{IsAt, at-owned}
use Rattle.sa_user_laws.specs.Moments.{SameFor}
use Rattle.sa_user_laws.specs.Scene.{HoldsIn}
use Rattle.sa_user_laws.specs.Level.{UserLevel}
use Rattle.sa_legal_runs.proofs.frames.Lives.{matched-record, matched-taken, AreMatched, leaves_lives, Matches, IsHeldAlike}
use Rattle.sa_legal_runs.proofs.frames.Foreign.{foreign, IsLifeOf, AreLivesOf}
use Rattle.sa_legal_runs.proofs.matching.Spaces.{value-of, AreHearing, of-space, but-same, but-put}

module _ {C : Type 0} where
  -- A number in use has its life, of the same space.
  pub matched-some : (x : Option (Act C)) (o : Option Life) (act : Act C) → x ≡ Some act → Matches x o
      → (life : Life) × (o ≡ Some life) × (life.space ≡ act.space) × IsHeldAlike act.held life
  matched-some None o act is h = absurd (none-some act is)
  matched-some (Some y) None act is h = absurd h
  matched-some (Some y) (Some life) act is h =
      subst (λ (z : Act C). (l : Life) × (Some life ≡ Some l) × (l.space ≡ z.space) × IsHeldAlike z.held l) (same_Some y act is)
      (life, refl, h.0, h.1)

  pub matched-of : (s : SpaceNo) (acts : ℕ → Option (Act C)) (lives : ℕ → Option Life) (a : ActNo) (act : Act C)
      → AreMatched acts lives → acts a.0 ≡ Some act → act.space.0 ≡ s.0 → IsLifeOf s lives a
  matched-of s acts lives a act h is space life at =
      let found = matched-some (acts a.0) (lives a.0) act is (h a.0) in
      let same : found.0 ≡ life = same_Some found.0 life (sym found.1 ∙ at) in
      ap (λ (l : Life). l.space) (sym same) ∙ found.2 ∙ ap (λ i. record { 0 = i }) space

head-in : (n : Note) (us : List (List Note)) (s : ℕ) (ns : List Note) (untold : List (List Note)) → s < length us
    → untold ≡ slice_set us s (n ∷ ns) → Contains (get_or untold s []) n
head-in n us s ns untold within is =
    subst (λ (xs : List Note). Contains xs n)
    (sym (ap (λ (u : List (List Note)). get_or u s []) is ∙ get_or-set_same us s (n ∷ ns) [] within)) (0, omega arith, refl)

left-others : (n : Note) (us : List (List Note)) (s : ℕ) (ns : List Note) (untold : List (List Note)) → s < length us
    → untold ≡ slice_set us s (n ∷ ns) → AreOnce (slice_set us s (n ∷ ns))
    → (t : SpaceNo) → t.0 ≢ s → get_or (without_note untold n) t.0 [] ≡ get_or untold t.0 []
left-others n us s ns untold within is once t apart =
    ap (λ (u : List (List Note)). get_or u t.0 []) (told-left n us s ns untold within is once) ∙ get_or-set_other us s t.0 ns [] apart
    ∙ sym (ap (λ (u : List (List Note)). get_or u t.0 []) is ∙ get_or-set_other us s t.0 (n ∷ ns) [] apart)

module _ {U C : Type 0} (level : UserLevel U C) where
  -- The context of fresh life n is about to be told these notices, and of its space those wait.
  pub record Hearing (w : WorkloadView) (e g : ℕ) (p : ProcNo) (s : SpaceNo) (n : ActNo) (us : List (List Note))
      (notes waiting : List Note) (m : Machine U C) (r : Readings) : Type 0 where
    pub tells : Tells level.calls level.stands level.keep w e g p s notes m
    pub life : life_of m.kernel p ≡ Some n
    pub matched : AreMatched m.kernel.acts r.lives
    pub upped : r.upped ≡ Some n
    pub sized : IsSized w r
    pub within : s.0 < length us
    pub untold : r.untold ≡ slice_set us s.0 waiting
    pub once : AreOnce (slice_set us s.0 waiting)
    pub hear : AreHearing level.fits level.hears w r s n m.users (contexts_of m)

  -- The upcall's life is one of the space.
  upped-of : (w : WorkloadView) (e g : ℕ) (p : ProcNo) (s : SpaceNo) (n : ActNo) (us : List (List Note))
      (notes waiting : List Note) (m : Machine U C) (r : Readings)
      → Hearing w e g p s n us notes waiting m r → AreLivesOf s r.lives r.upped
  upped-of w e g p s n us notes waiting m r h a is =
      let here = at-owned level.calls level.stands level.keep e m p s h.tells.standing h.tells.owner in
      let same : here.act ≡ a = same_Some here.act a (sym here.life ∙ h.life ∙ sym h.upped ∙ is) in
      subst (λ (x : ActNo). IsLifeOf s r.lives x) same (matched-of s m.kernel.acts r.lives here.act (runs_in s) h.matched here.runs refl)

  -- One call is made after its record.
  heard : (w : WorkloadView) (e g : ℕ) (p : ProcNo) (s : SpaceNo) (n : ActNo) (m : Machine U C) (r next : Readings) (k : KernelState C)
      (here : IsAt level.calls level.stands level.keep m p s) (v : U) (c : C) (cs : Contexts C)
      → IsWorkload w → m.workload ≡ w → ((t : SpaceNo) → t.0 ≢ s.0 → SameFor t r next)
      → level.hears w (setting w s.0 here.def) next n v cs
      → ((b : ℕ) → cs b ≡ contexts_in k.lives k.acts (slice_set m.contexts p.0 (Some c)) s.0 b)
      → ((t : ℕ) → t ≢ s.0 → (b : ℕ) → contexts_of m t b ≡ contexts_in k.lives k.acts (slice_set m.contexts p.0 (Some c)) t b)
      → AreHearing level.fits level.hears w r s n m.users (contexts_of m)
      → AreHearing level.fits level.hears w next s n (slice_set m.users s.0 v)
      (contexts_in k.lives k.acts (slice_set m.contexts p.0 (Some c)))
  heard w e g p s n m r next k here v c cs ok at same new own kept h = record {
    hear = λ u def is of.
        let same_user : v ≡ u = same_Some v u (sym (get-set m.users s.0 v here.user here.is_user) ∙ is) in
        let same_def : here.def ≡ def =
        same_Some here.def def (sym (subst (λ (x : WorkloadView). slice_get x.spaces s.0 ≡ Some here.def) at here.is_def) ∙ of) in
        subst (λ (x : U). level.hears w (setting w s.0 def) next n x
        (contexts_in k.lives k.acts (slice_set m.contexts p.0 (Some c)) s.0)) same_user
        (subst (λ (d : SpaceView). level.hears w (setting w s.0 d) next n v
        (contexts_in k.lives k.acts (slice_set m.contexts p.0 (Some c)) s.0)) same_def
        (subst (λ (x : Contexts C). level.hears w (setting w s.0 here.def) next n v x) (fun_ext own) new));
    others = but-put level w next s.0 m.users v (contexts_of m) (contexts_in k.lives k.acts (slice_set m.contexts p.0 (Some c))) kept
        (but-same level w r next s.0 m.users (contexts_of m) ok (λ t apart. same (space_no t) apart) h.others);
  }

  -- The next notice hands nothing over.
  hearing-plain : (w : WorkloadView) (e g : ℕ) (p : ProcNo) (s : SpaceNo) (n : ActNo) (us : List (List Note)) (note : Note)
      (notes waiting after : List Note) (m : Machine U C) (r : Readings) (number : ℕ)
      → IsWorkload w → (h : Hearing w e g p s n us (note ∷ notes) waiting m r)
      → fetched note (record m.kernel { telling = notes }) ≡ record m.kernel { telling = notes } → held_for m.kernel note ≡ None
      → (after_record w number p r (Told note)).lives ≡ r.lives → (after_record w number p r (Told note)).upped ≡ r.upped
      → without_note r.untold note ≡ slice_set us s.0 after → AreOnce (slice_set us s.0 after)
      → ((t : SpaceNo) → t.0 ≢ s.0 → SameFor t r (after_record w number p r (Told note)))
      → ((st : Setting) (u : U) (cs : Contexts C) (c : C) → HoldsIn level.stands w st e r u cs → st.space ≡ s
      → level.hears w st r n u cs → cs n.0 ≡ Some c
      → level.hears w st (after_record w number p r (Told note)) n (level.calls.told u c note None).0
      (put cs n.0 (Some (level.calls.told u c note None).1)))
      → Hearing w e g p s n us notes after (told_one level.calls p s note notes m) (after_record w number p r (Told note))
  hearing-plain w e g p s n us note notes waiting after m r number ok h fetch none lives upped left once same law =
      let here = at-owned level.calls level.stands level.keep e m p s h.tells.standing h.tells.owner in
      let st = h.tells.standing in
      let k : KernelState C = record m.kernel { telling = notes } in
      let x : U × C = level.calls.told here.user here.ctx note None in
      let cs : List (Option C) = slice_set m.contexts p.0 (Some x.1) in
      let life : here.act ≡ n = same_Some here.act n (sym here.life ∙ h.life) in
      let size : length m.contexts ≡ length m.kernel.lives = st.contexts ∙ sym st.lives in
      let of : slice_get w.spaces s.0 ≡ Some here.def =
      subst (λ (v : WorkloadView). slice_get v.spaces s.0 ≡ Some here.def) h.tells.workload here.is_def in
      let mine_at : contexts_of m s.0 n.0 ≡ Some here.ctx =
      subst (λ (a : ActNo). contexts_of m s.0 a.0 ≡ Some here.ctx) life (mine level.calls level.stands level.keep e m p s st here) in
      let value = value-of level w e m s.0 here.user here.def h.tells.workload st here.is_user of in
      let new = law (setting w s.0 here.def) here.user (contexts_of m s.0) here.ctx
      (record { of = of-space w s.0 here.def ok of; sizes = are-sized w r h.sized; value = value }) refl
      (h.hear.hear here.user here.def here.is_user of) mine_at in
      let is : told_one level.calls p s note notes m ≡ with_pair p s x.0 x.1 (record m { kernel = k }) =
      ap (λ (o : Option (Stopped C)). called_by (λ u c. level.calls.told u c note o) p s (user_of m s) (context_on m p)
      (record m { kernel = fetched note k })) none
      ∙ ap (λ (z : KernelState C). called_by (λ u c. level.calls.told u c note None) p s (user_of m s) (context_on m p)
      (record m { kernel = z })) fetch
      ∙ called-is level.calls level.stands level.keep (λ u c. level.calls.told u c note None) p s m
      (record m { kernel = k }) here.user here.ctx here.is_user here.is_ctx in
      let runs = runs-at level.calls level.stands level.keep e m p s st here in
      let own : (b : ℕ) → put (contexts_of m s.0) n.0 (Some x.1) b ≡ contexts_in k.lives k.acts cs s.0 b =
      subst (λ (a : ActNo). (b : ℕ) → put (contexts_of m s.0) a.0 (Some x.1) b ≡ contexts_in k.lives k.acts cs s.0 b) life
      (contexts-put m.kernel.assign.owners m.kernel.lives m.kernel.acts m.contexts p.0 here.act s runs size here.within x.1) in
      let kept = contexts-put_kept m.kernel.assign.owners m.kernel.lives m.kernel.acts m.contexts p.0 here.act s runs (Some x.1) in
      subst (λ (z : Machine U C). Tells level.calls level.stands level.keep w e g p s notes z
      → Hearing w e g p s n us notes after z (after_record w number p r (Told note))) (sym is)
      (λ tells. record {
        tells = tells;
        life = h.life;
        matched = subst (λ (ls : ℕ → Option Life). AreMatched m.kernel.acts ls) (sym lives) h.matched;
        upped = upped ∙ h.upped;
        sized = sized-step w number p r (Told note) h.sized;
        within = h.within;
        untold = left;
        once = once;
        hear = heard w e g p s n m r (after_record w number p r (Told note)) k here x.0 x.1
            (put (contexts_of m s.0) n.0 (Some x.1)) ok h.tells.workload same new own kept h.hear;
      })
      (tells-next level.calls level.stands level.keep w e g m p s note notes h.tells)

  -- The next notice hands a context over.
  hearing-handed : (w : WorkloadView) (e g : ℕ) (p : ProcNo) (s : SpaceNo) (n : ActNo) (us : List (List Note)) (note : Note)
      (notes waiting : List Note) (b : ActNo) (m : Machine U C) (r : Readings) (number : ℕ)
      → IsWorkload w → (h : Hearing w e g p s n us (note ∷ notes) (note ∷ waiting) m r)
      → fetched note (record m.kernel { telling = notes }) ≡ handed_by (held_of (m.kernel.acts b.0)) b
      (record m.kernel { telling = notes }) → held_for m.kernel note ≡ held_of (m.kernel.acts b.0)
      → note_claim b.0 note ≡ 1 → (note ≡ Preempted b) ⊎ (note ≡ Unblocked b)
      → ((cs : Contexts C) (a : ℕ) (c : C) → told_contexts cs a c note ≡ put (put cs a (Some c)) b.0 None)
      → leaves_lives (Told note) ≡ true → (after_record w number p r (Told note)).upped ≡ r.upped
      → (after_record w number p r (Told note)).untold ≡ without_note r.untold note
      → ((t : SpaceNo) → t.0 ≢ s.0 → IsLifeOf s r.lives b → AreLivesOf s r.lives r.upped
      → SameFor t r (after_record w number p r (Told note)))
      → Hearing w e g p s n us notes waiting (told_one level.calls p s note notes m) (after_record w number p r (Told note))
  hearing-handed w e g p s n us note notes waiting b m r number ok h fetch is_held one which both leaves upped untold same =
      let here = at-owned level.calls level.stands level.keep e m p s h.tells.standing h.tells.owner in
      let st = h.tells.standing in
      let next = after_record w number p r (Told note) in
      let j : KernelState C = record m.kernel { telling = notes } in
      let kept_of = next-kept s.0 note notes b.0 m.kernel h.tells.telling one h.tells.claimed in
      let held : Stopped C = kept_of.stopped in
      let o = held-for s.0 (m.kernel.acts b.0) kept_of in
      let k : KernelState C = handed_by (held_of (m.kernel.acts b.0)) b j in
      let x : U × C = level.calls.told here.user here.ctx note (Some held) in
      let cs : List (Option C) = slice_set m.contexts p.0 (Some x.1) in
      let life : here.act ≡ n = same_Some here.act n (sym here.life ∙ h.life) in
      let size : length m.contexts ≡ length m.kernel.lives = st.contexts ∙ sym st.lives in
      let of : slice_get w.spaces s.0 ≡ Some here.def =
      subst (λ (v : WorkloadView). slice_get v.spaces s.0 ≡ Some here.def) h.tells.workload here.is_def in
      let mine_at : contexts_of m s.0 n.0 ≡ Some here.ctx =
      subst (λ (a : ActNo). contexts_of m s.0 a.0 ≡ Some here.ctx) life (mine level.calls level.stands level.keep e m p s st here) in
      let value = value-of level w e m s.0 here.user here.def h.tells.workload st here.is_user of in
      let handed : IsHanded (contexts_of m s.0) n.0 note (Some held) =
      subst (λ (y : Option (Stopped C)). IsHanded (contexts_of m s.0) n.0 note y) (is_held ∙ o)
      (subst (λ (a : ActNo). IsHanded (contexts_of m s.0) a.0 note (held_for m.kernel note)) life
      (handed-next level.calls level.stands level.keep e m p s note notes st here h.tells.telling h.tells.claimed)) in
      let found = matched-some (m.kernel.acts b.0) (r.lives b.0) kept_of.act kept_of.is (h.matched b.0) in
      let of_life : IsLifeOf s r.lives b = matched-of s m.kernel.acts r.lives b kept_of.act h.matched kept_of.is kept_of.space in
      let thread : held.thread ≡ found.0.thread = sym (subst (λ (y : Option (Stopped C)). IsHeldAlike y found.0) kept_of.holds found.3) in
      let new = level.laws.tells w (setting w s.0 here.def) e r here.user (contexts_of m s.0) p n here.ctx number note b found.0 held
      (record { of = of-space w s.0 here.def ok of; sizes = are-sized w r h.sized; value = value })
      (h.hear.hear here.user here.def here.is_user of) mine_at h.upped
      (head-in note us s.0 waiting r.untold h.within h.untold) which found.1 (of_life found.0 found.1) thread handed in
      let is : told_one level.calls p s note notes m ≡ with_pair p s x.0 x.1 (record m { kernel = k }) =
      ap (λ (y : Option (Stopped C)). called_by (λ u c. level.calls.told u c note y) p s (user_of m s) (context_on m p)
      (record m { kernel = fetched note j })) (is_held ∙ o)
      ∙ ap (λ (z : KernelState C). called_by (λ u c. level.calls.told u c note (Some held)) p s (user_of m s) (context_on m p)
      (record m { kernel = z })) fetch
      ∙ called-is level.calls level.stands level.keep (λ u c. level.calls.told u c note (Some held)) p s m
      (record m { kernel = k }) here.user here.ctx here.is_user here.is_ctx in
      let acts : k.acts ≡ put m.kernel.acts b.0 (taken_from (m.kernel.acts b.0)) = handed-acts (held_of (m.kernel.acts b.0)) held b j o in
      let lives : k.lives ≡ m.kernel.lives = (handed-lives (held_of (m.kernel.acts b.0)) b j).0 in
      let given : ℕ → Option (Act C) = put m.kernel.acts b.0 (taken_from (m.kernel.acts b.0)) in
      let there : (t i : ℕ) → contexts_in m.kernel.lives given cs t i ≡ contexts_in k.lives k.acts cs t i =
      λ t i. ap (λ (ls : List (Option ActNo)). contexts_in ls given cs t i) (sym lives)
      ∙ ap (λ (fs : ℕ → Option (Act C)). contexts_in k.lives fs cs t i) (sym acts) in
      let given_to = contexts-given level.calls level.stands level.keep e m p s b.0 x.1 st here kept_of in
      let own : (i : ℕ) → told_contexts (contexts_of m s.0) n.0 x.1 note i ≡ contexts_in k.lives k.acts cs s.0 i =
      λ i. ap (λ (y : Contexts C). y i) (both (contexts_of m s.0) n.0 x.1)
      ∙ subst (λ (a : ActNo). put
      (put (contexts_of m s.0) a.0 (Some x.1)) b.0 None i ≡ contexts_in m.kernel.lives given cs s.0 i) life (given_to.0 i) ∙ there s.0 i in
      let kept : (t : ℕ) → t ≢ s.0 → (i : ℕ) → contexts_of m t i ≡ contexts_in k.lives k.acts cs t i =
      λ t apart i. given_to.1 t apart i ∙ there t i in
      subst (λ (z : Machine U C). Tells level.calls level.stands level.keep w e g p s notes z
      → Hearing w e g p s n us notes waiting z next) (sym is)
      (λ tells. record {
        tells = tells;
        life = ap (λ (ls : List (Option ActNo)). get_or ls p.0 None) lives ∙ h.life;
        matched = subst (λ (fs : ℕ → Option (Act C)). AreMatched fs next.lives) (sym acts)
            (matched-taken b.0 m.kernel.acts next.lives (matched-record w number p r (Told note) m.kernel.acts leaves h.matched));
        upped = upped ∙ h.upped;
        sized = sized-step w number p r (Told note) h.sized;
        within = h.within;
        untold = untold ∙ told-left note us s.0 waiting r.untold h.within h.untold h.once;
        once = once-left note us s.0 waiting h.once;
        hear = heard w e g p s n m r next k here x.0 x.1 (told_contexts (contexts_of m s.0) n.0 x.1 note) ok h.tells.workload
            (λ t apart. same t apart of_life (upped-of w e g p s n us (note ∷ notes) (note ∷ waiting) m r h)) new own kept h.hear;
      })
      (tells-next level.calls level.stands level.keep w e g m p s note notes h.tells)

  -- The next notice is the first of those that wait.
  hearing-next : (w : WorkloadView) (e g : ℕ) (p : ProcNo) (s : SpaceNo) (n : ActNo) (us : List (List Note)) (note : Note)
      (notes waiting : List Note) (m : Machine U C) (r : Readings) (number : ℕ)
      → IsWorkload w → Hearing w e g p s n us (note ∷ notes) (note ∷ waiting) m r
      → Hearing w e g p s n us notes waiting (told_one level.calls p s note notes m) (after_record w number p r (Told note))
  hearing-next w e g p s n us (Add q) notes waiting m r number ok h =
      hearing-plain w e g p s n us (Add q) notes (Add q ∷ waiting) waiting m r number ok h refl refl refl refl
      (told-left (Add q) us s.0 waiting r.untold h.within h.untold h.once) (once-left (Add q) us s.0 waiting h.once)
      (λ t apart. foreign w number p s t r (Told (Add q))
      (λ u differ. left-others (Add q) us s.0 waiting r.untold h.within h.untold h.once u differ) apart)
      (λ st u cs c holds is here mine. level.laws.tells_add w st e r u cs p n c number q holds here mine h.upped)
  hearing-next w e g p s n us (Blocked b) notes waiting m r number ok h =
      hearing-plain w e g p s n us (Blocked b) notes (Blocked b ∷ waiting) waiting m r number ok h refl refl refl refl
      (told-left (Blocked b) us s.0 waiting r.untold h.within h.untold h.once) (once-left (Blocked b) us s.0 waiting h.once)
      (λ t apart. foreign w number p s t r (Told (Blocked b))
      (λ u differ. left-others (Blocked b) us s.0 waiting r.untold h.within h.untold h.once u differ) apart)
      (λ st u cs c holds is here mine. level.laws.tells_blocked w st e r u cs p n c number b holds here mine h.upped
      (subst (λ (z : SpaceNo). Contains (untold_of r z) (Blocked b)) (sym is)
      (head-in (Blocked b) us s.0 waiting r.untold h.within h.untold)))
  hearing-next w e g p s n us (Preempted b) notes waiting m r number ok h =
      hearing-handed w e g p s n us (Preempted b) notes waiting b m r number ok h refl refl (grind (arith, nat_tests)) (inl refl)
      (λ cs a c. refl) refl refl refl
      (λ t apart of ups. foreign w number p s t r (Told (Preempted b))
      (λ u differ. left-others (Preempted b) us s.0 waiting r.untold h.within h.untold h.once u differ, of, ups) apart)
  hearing-next w e g p s n us (Unblocked b) notes waiting m r number ok h =
      hearing-handed w e g p s n us (Unblocked b) notes waiting b m r number ok h refl refl (grind (arith, nat_tests)) (inr refl)
      (λ cs a c. refl) refl refl refl
      (λ t apart of ups. foreign w number p s t r (Told (Unblocked b))
      (λ u differ. left-others (Unblocked b) us s.0 waiting r.untold h.within h.untold h.once u differ, of, ups) apart)

  -- So all of them go through.
  pub hearing-all : (w : WorkloadView) (e g : ℕ) (p : ProcNo) (s : SpaceNo) (n : ActNo) (us : List (List Note))
      (notes : List Note) (m : Machine U C) (r : Readings) (number : ℕ)
      → IsWorkload w → Hearing w e g p s n us notes notes m r
      → Hearing w e g p s n us [] [] (told_all level.calls p s notes m) (after_records w number p r (map Told notes))
  hearing-all w e g p s n us [] m r number ok h = h
  hearing-all w e g p s n us (note ∷ notes) m r number ok h =
      hearing-all w e g p s n us notes (told_one level.calls p s note notes m) (after_record w number p r (Told note)) number ok
      (hearing-next w e g p s n us note notes notes m r number ok h)

  -- The notice of an added processor comes before those that wait, and is none of them.
  pub hearing-added : (w : WorkloadView) (e g : ℕ) (p : ProcNo) (s : SpaceNo) (n : ActNo) (us : List (List Note)) (q : ProcNo)
      (notes : List Note) (m : Machine U C) (r : Readings) (number : ℕ)
      → IsWorkload w → copies (Add q) (slice_set us s.0 notes) ≡ 0 → Hearing w e g p s n us (Add q ∷ notes) notes m r
      → Hearing w e g p s n us [] [] (told_all level.calls p s (Add q ∷ notes) m) (after_records w number p r (map Told (Add q ∷ notes)))
  hearing-added w e g p s n us q notes m r number ok none h =
      let left : without_note r.untold (Add q) ≡ r.untold = none-without (Add q) r.untold (ap (copies (Add q)) h.untold ∙ none) in
      hearing-all w e g p s n us notes (told_one level.calls p s (Add q) notes m) (after_record w number p r (Told (Add q))) number ok
      (hearing-plain w e g p s n us (Add q) notes notes notes m r number ok h refl refl refl refl (left ∙ h.untold) h.once
      (λ t apart. foreign w number p s t r (Told (Add q)) (λ u differ. ap (λ (xs : List (List Note)). get_or xs u.0 []) left) apart)
      (λ st u cs c holds is here mine. level.laws.tells_add w st e r u cs p n c number q holds here mine h.upped))
