-- What a machine keeps while an entry of the kernel goes on: a context is set aside, and another begins.
use Rattle.std.proofs.Common.{◌≡◌, ◌≢◌, ℕ, zero, suc, ◌<◌, ◌≤◌, true, false, Option, Some, None, is_some, List, [], ◌∷◌, get_or, slice_get, slice_set, length, refl, sym, ap, subst, ◌∙◌, inl, inr, arith}
use Rattle.std.proofs.Math.Path.{fun_ext}
use Rattle.std.proofs.lemmas.List.{length-set, set-get_or}
use Rattle.sa_base.specs.declared.number.ProcNo.{ProcNo}
use Rattle.sa_base.specs.declared.number.SpaceNo.{SpaceNo}
use Rattle.sa_base.specs.declared.number.ActNo.{ActNo}
use Rattle.sa_base.specs.declared.context.Seen.{Seen}
use Rattle.sa_base.specs.declared.context.Stopped.{Stopped}
use Rattle.sa_base.specs.declared.record.Item.{Item}
use Rattle.sa_lemmas.specs.Function.{put}
use Rattle.sa_lemmas.proofs.Options.{some-is, not_some-is}
use Rattle.sa_lemmas.proofs.ListUpdates.{slice_get-set_cases}
use Rattle.sa_spaces.specs.Space.{SpaceView}
use Rattle.sa_spaces.specs.Workload.{WorkloadView, IsWorkload}
use Rattle.sa_lemmas.proofs.ListReads.{some-below, read-at}
use Rattle.sa_abstract.specs.Calls.{Calls, Contexts}
use Rattle.sa_abstract.specs.Keeps.{Standing, Keeps}
use Rattle.sa_acts.specs.declared.acts.Act.{Act}
use Rattle.sa_acts.specs.Table.{runs_in, holding}
use Rattle.sa_kernel_model.specs.State.{KernelState, owner_of, life_of}
use Rattle.sa_kernel_model.specs.Sound.{IsSound, AreAlive}
use Rattle.sa_kernel_model.proofs.parts.Running.{alive-aside}
use Rattle.sa_kernel_model.proofs.sound.Formed.{free-set}
use Rattle.sa_kernel_model.proofs.sound.Held.{runs-here}
use Rattle.sa_core_model.specs.Machine.{Machine, with_pair, without_context, context_on}
use Rattle.sa_core_model.specs.Run.{setting}
use Rattle.sa_core_model.specs.Standing.{context_in, contexts_in, contexts_of, running, AreValues, Stands}
use Rattle.sa_core_model.proofs.Running.{rests, contexts-stop, IsFree, contexts-begin, contexts-begin_kept}
use Rattle.sa_core_model.proofs.Effects.{SameRuns}

-- where two lists have the same cells filled

pub there-set : {A B : Type 0} (xs : List (Option A)) (ys : List (Option B)) (p : ℕ) (x : Option A) (y : Option B) → length xs ≡ length ys
    → is_some x ≡ is_some y
    → ((q : ℕ) → is_some (get_or xs q None) ≡ is_some (get_or ys q None)) → (q : ℕ)
    → is_some (get_or (slice_set xs p x) q None) ≡ is_some (get_or (slice_set ys p y) q None)
there-set [] [] p x y size same each q = refl
there-set (a ∷ xs) (b ∷ ys) zero x y size same each zero = same
there-set (a ∷ xs) (b ∷ ys) zero x y size same each (suc q) = each (suc q)
there-set (a ∷ xs) (b ∷ ys) (suc p) x y size same each zero = each zero
there-set (a ∷ xs) (b ∷ ys) (suc p) x y size same each (suc q) = there-set xs ys p x y (omega (arith, size)) same (λ r. each (suc r)) q
there-set _ _ p x y size same each q = absurd (omega (arith, size))

pub there-put : {A B : Type 0} (xs : List (Option A)) (ys : List (Option B)) (p : ℕ) (x : A) → length xs ≡ length ys → is_some (get_or ys p None) ≡ true
    → ((q : ℕ) → is_some (get_or xs q None) ≡ is_some (get_or ys q None)) → (q : ℕ)
    → is_some (get_or (slice_set xs p (Some x)) q None) ≡ is_some (get_or ys q None)
there-put [] [] p x size here each q = refl
there-put (a ∷ xs) (b ∷ ys) zero x size here each zero = sym here
there-put (a ∷ xs) (b ∷ ys) zero x size here each (suc q) = each (suc q)
there-put (a ∷ xs) (b ∷ ys) (suc p) x size here each zero = each zero
there-put (a ∷ xs) (b ∷ ys) (suc p) x size here each (suc q) = there-put xs ys p x (omega (arith, size)) here (λ r. each (suc r)) q
there-put _ _ p x size here each q = absurd (omega (arith, size))

module _ {C : Type 0} where
  pub contexts-same : (ls ms : List (Option ActNo)) (f g : ℕ → Option (Act C)) (cs : List (Option C)) → ms ≡ ls → g ≡ f → (t b : ℕ)
      → contexts_in ls f cs t b ≡ contexts_in ms g cs t b
  contexts-same ls ms f g cs l a t b =
      ap (λ (x : List (Option ActNo)). contexts_in x f cs t b) (sym l) ∙ ap (λ (x : ℕ → Option (Act C)). contexts_in ms x cs t b) (sym a)

-- nothing runs on the processor, and all else stands
pub record Paused {U C : Type 0} (stands : Standing U C) (e : ℕ) (p : ProcNo) (ls : List (Option ActNo)) (acts : ℕ
    → Option (Act C)) (m : Machine U C) : Type 0 where
  pub workload : IsWorkload m.workload
  pub within : p.0 < length ls
  pub none : get_or ls p.0 None ≡ None
  pub owners : List (Option SpaceNo)
  pub alive : AreAlive owners ls acts
  pub lives : length ls ≡ m.workload.processors
  pub contexts : length m.contexts ≡ m.workload.processors
  pub users : length m.users ≡ length m.workload.spaces
  pub there : (q : ℕ) → is_some (get_or m.contexts q None) ≡ is_some (get_or ls q None)
  pub values : AreValues stands m.workload e m.users (contexts_in ls acts m.contexts)

module _ {U C : Type 0} (stands : Standing U C) where
  pub values-same : (w : WorkloadView) (e : ℕ) (users : List U) (old new : ℕ → Contexts C) → ((t b : ℕ) → old t b ≡ new t b)
      → AreValues stands w e users old → AreValues stands w e users new
  values-same w e users old new same was s u def at of = subst (λ (cs : Contexts C). stands (setting w s def) e u cs) (fun_ext (same s)) (was s u def at of)

  pub values-put : (w : WorkloadView) (e : ℕ) (users : List U) (s : ℕ) (v : U) (old new : ℕ → Contexts C)
      → ((def : SpaceView) → slice_get w.spaces s ≡ Some def → stands (setting w s def) e v (new s)) → ((t : ℕ) → t ≢ s → (b : ℕ) → old t b ≡ new t b)
      → AreValues stands w e users old → AreValues stands w e (slice_set users s v) new
  values-put w e users s v old new here same was t u def at of = elim (slice_get-set_cases users s t v u at) [
    | inl y ↦
        let h : stands (setting w s def) e v (new s) = here def (ap (slice_get w.spaces) (sym y.0) ∙ of) in
        subst (λ (n : ℕ). stands (setting w n def) e u (new n)) (sym y.0) (subst (λ (x : U). stands (setting w s def) e x (new s)) (sym y.1) h)
    | inr y ↦ subst (λ (cs : Contexts C). stands (setting w t def) e u cs) (fun_ext (same t y.0)) (was t u def y.1 of)
  ]

module _ {U C : Type 0} (f : Calls U C) (stands : Standing U C) (keep : Keeps f stands) where
  pub values-later : (w : WorkloadView) (e g : ℕ) (users : List U) (cs : ℕ → Contexts C) → e ≤ g → AreValues stands w e users cs → AreValues stands w g users cs
  values-later w e g users cs later was s u def at of = keep.later (setting w s def) e g u (cs s) (was s u def at of) later

  pub stands-later : (e g : ℕ) (m : Machine U C) → e ≤ g → Stands stands e m → Stands stands g m
  stands-later e g m later st = record {
    workload = st.workload;
    sound = st.sound;
    lives = st.lives;
    contexts = st.contexts;
    demands = st.demands;
    users = st.users;
    there = st.there;
    values = values-later m.workload e g m.users (contexts_of m) later st.values;
  }

  -- the kernel changes, but not what runs
  pub stands-runs : (e event : ℕ) (m : Machine U C) (k : KernelState C) (items : List Item) → Stands stands e m → IsSound k → k.lives ≡ m.kernel.lives
      → k.acts ≡ m.kernel.acts
      → length k.demands ≡ length m.kernel.demands → Stands stands e (record m { kernel = k; event = event; items = items })
  stands-runs e event m k items st sound lives acts demands = record {
    workload = st.workload;
    sound = sound;
    lives = ap (λ (ls : List (Option ActNo)). length ls) lives ∙ st.lives;
    contexts = st.contexts;
    demands = demands ∙ st.demands;
    users = st.users;
    there = λ q. st.there q ∙ ap (λ (ls : List (Option ActNo)). is_some (get_or ls q None)) (sym lives);
    values = values-same stands m.workload e m.users (contexts_of m) (contexts_in k.lives k.acts m.contexts)
        (contexts-same m.kernel.lives k.lives m.kernel.acts k.acts m.contexts lives acts) st.values;
  }

  pub stands-kernel : (e event : ℕ) (m : Machine U C) (k : KernelState C) (items : List Item) → Stands stands e m → IsSound k → SameRuns m.kernel k
      → Stands stands e (record m { kernel = k; event = event; items = items })
  stands-kernel e event m k items st sound same = stands-runs e event m k items st sound same.lives same.acts same.demands

  -- activations are given back that have no context
  pub stands-emptied : (e : ℕ) (m : Machine U C) (k : KernelState C) (items : List Item) → Stands stands e m → IsSound k → k.lives ≡ m.kernel.lives
      → length k.demands ≡ length m.kernel.demands → ((t b : ℕ) → contexts_of m t b ≡ contexts_in m.kernel.lives k.acts m.contexts t b)
      → Stands stands e (record m { kernel = k; items = items })
  stands-emptied e m k items st sound lives demands same = record {
    workload = st.workload;
    sound = sound;
    lives = ap (λ (ls : List (Option ActNo)). length ls) lives ∙ st.lives;
    contexts = st.contexts;
    demands = demands ∙ st.demands;
    users = st.users;
    there = λ q. st.there q ∙ ap (λ (ls : List (Option ActNo)). is_some (get_or ls q None)) (sym lives);
    values = values-same stands m.workload e m.users (contexts_of m) (contexts_in k.lives k.acts m.contexts)
        (λ t b. same t b ∙ contexts-same m.kernel.lives k.lives k.acts k.acts m.contexts lives refl t b) st.values;
  }

  -- what runs on a processor that is owned

  pub record IsAt (m : Machine U C) (p : ProcNo) (s : SpaceNo) : Type 0 where
    pub act : ActNo
    pub user : U
    pub ctx : C
    pub def : SpaceView
    pub owner : owner_of m.kernel p ≡ Some s
    pub life : life_of m.kernel p ≡ Some act
    pub within : p.0 < length m.kernel.lives
    pub runs : m.kernel.acts act.0 ≡ Some (runs_in s)
    pub is_user : slice_get m.users s.0 ≡ Some user
    pub is_ctx : context_on m p ≡ Some ctx
    pub is_def : slice_get m.workload.spaces s.0 ≡ Some def

  some-true : {A : Type 0} (o : Option A) (x : A) → o ≡ Some x → is_some o ≡ true
  some-true {A = A} o x e = ap (λ (y : Option A). is_some y) e

  pub at-owned : (e : ℕ) (m : Machine U C) (p : ProcNo) (s : SpaceNo) → Stands stands e m → owner_of m.kernel p ≡ Some s → IsAt m p s
  at-owned e m p s st owner =
      let life = some-is (life_of m.kernel p) ((st.sound.placed p.0).runs (some-true (owner_of m.kernel p) s owner)) in
      let a : ActNo = life.0 in
      let c = some-is (context_on m p) (st.there p.0 ∙ ap (λ (o : Option ActNo). is_some o) life.1) in
      let within : s.0 < length m.kernel.demands = st.sound.formed.owners p.0 s owner in
      let u = read-at m.users s.0 (omega (arith, st.users, st.demands, within)) in
      let d = read-at m.workload.spaces s.0 (omega (arith, st.demands, within)) in
      record {
        act = a;
        user = u.0;
        ctx = c.0;
        def = d.0;
        owner = owner;
        life = life.1;
        within = some-below m.kernel.lives p.0 a life.1;
        runs = runs-here m.kernel p s a owner life.1 st.sound.formed;
        is_user = u.1;
        is_ctx = c.1;
        is_def = d.1;
      }

  -- a context is set aside
  pub paused-stop : (e : ℕ) (m : Machine U C) (p : ProcNo) (s : SpaceNo) (held : Stopped C) → Stands stands e m → (here : IsAt m p s) → held.ctx ≡ here.ctx
      → Paused stands e p (slice_set m.kernel.lives p.0 None) (put m.kernel.acts here.act.0 (holding held (m.kernel.acts here.act.0))) (without_context p m)
  paused-stop e m p s held st here is =
      let k = m.kernel in
      let size : length m.contexts ≡ length k.lives = st.contexts ∙ sym st.lives in
      record {
        workload = st.workload;
        within = rw (length-set k.lives p.0 None) here.within;
        none = free-set k.lives p.0;
        owners = k.assign.owners;
        alive = alive-aside k.assign.owners k.lives k.acts p.0 here.act _ here.life st.sound.formed.lives;
        lives = length-set k.lives p.0 None ∙ st.lives;
        contexts = length-set m.contexts p.0 None ∙ st.contexts;
        users = st.users;
        there = there-set m.contexts k.lives p.0 None None size refl st.there;
        values = values-same stands m.workload e m.users (contexts_of m) _
            (contexts-stop k.assign.owners k.lives k.acts m.contexts p.0 here.act s (st.sound.formed.lives, here.life, here.runs) size held
            (here.is_ctx ∙ ap Some (sym is))) st.values;
      }

  -- no context runs on the processor
  pub paused-off : (e : ℕ) (m : Machine U C) (p : ProcNo) → Stands stands e m → p.0 < length m.kernel.lives → owner_of m.kernel p ≡ None
      → Paused stands e p m.kernel.lives m.kernel.acts (without_context p m)
  paused-off e m p st within off =
      let k = m.kernel in
      let free : life_of k p ≡ None = no-life (life_of k p) refl in
      let gone : context_on m p ≡ None = not_some-is (context_on m p) (st.there p.0 ∙ ap (λ (o : Option ActNo). is_some o) free) in
      let same : slice_set m.contexts p.0 None ≡ m.contexts = ap (slice_set m.contexts p.0) (sym gone) ∙ set-get_or m.contexts p.0 None in
      subst (λ (cs : List (Option C)). Paused stands e p k.lives k.acts (record m { contexts = cs })) (sym same) (record {
        workload = st.workload;
        within = within;
        none = free;
        owners = k.assign.owners;
        alive = st.sound.formed.lives;
        lives = st.lives;
        contexts = st.contexts;
        users = st.users;
        there = st.there;
        values = st.values;
      })
    where
      no-life : (o : Option ActNo) → life_of m.kernel p ≡ o → o ≡ None
      no-life None e = refl
      no-life (Some a) e = absurd (let r = st.sound.formed.lives.run p.0 a e in let z = r.owner in cc)

  -- the processor is left
  pub stands-left : (e : ℕ) (m : Machine U C) (p : ProcNo) (lives : List (Option ActNo)) (acts : ℕ → Option (Act C)) (k : KernelState C) (items : List Item)
      → Paused stands e p lives acts m → IsSound k → k.lives ≡ lives → k.acts ≡ acts → length k.demands ≡ length m.workload.spaces
      → Stands stands e (record m { kernel = k; items = items })
  stands-left e m p lives acts k items paused sound same_lives same_acts demands = record {
    workload = paused.workload;
    sound = sound;
    lives = ap (λ (ls : List (Option ActNo)). length ls) same_lives ∙ paused.lives;
    contexts = paused.contexts;
    demands = demands;
    users = paused.users;
    there = λ q. paused.there q ∙ ap (λ (ls : List (Option ActNo)). is_some (get_or ls q None)) (sym same_lives);
    values = values-same stands m.workload e m.users (contexts_in lives acts m.contexts) (contexts_in k.lives k.acts m.contexts)
        (contexts-same lives k.lives acts k.acts m.contexts same_lives same_acts) paused.values;
  }

  -- a fresh activation runs there, and its context begins
  pub stands-begun : (e : ℕ) (m : Machine U C) (p : ProcNo) (s : SpaceNo) (n : ActNo) (lives : List (Option ActNo)) (acts : ℕ
      → Option (Act C)) (k : KernelState C) (items : List Item)
      (u : U) (seen : Seen) → Paused stands e p lives acts m → IsSound k → k.lives ≡ slice_set lives p.0 (Some n) → k.acts ≡ put acts n.0 (Some (runs_in s))
      → length k.demands ≡ length m.workload.spaces → acts n.0 ≡ None → slice_get m.users s.0 ≡ Some u → seen.proc.0 < m.workload.processors
      → Stands stands e (with_pair p s (f.begun u seen).0 (f.begun u seen).1 (record m { kernel = k; items = items }))
  stands-begun e m p s n lives acts k items u seen paused sound new_lives new_acts demands unused at sees =
      let v : U = (f.begun u seen).0 in
      let c : C = (f.begun u seen).1 in
      let cs : List (Option C) = slice_set m.contexts p.0 (Some c) in
      let size : length m.contexts ≡ length lives = paused.contexts ∙ sym paused.lives in
      let free : IsFree lives acts m.contexts p.0 n s = record {
        none = paused.none;
        within = paused.within;
        size = size;
        unused = unused;
        rest = rests paused.owners lives acts n.0 paused.alive (λ t is. not-both (acts n.0) (runs_in t) unused is);
      } in
      let none : contexts_in lives acts m.contexts s.0 n.0 ≡ None = ap (λ (x : Option (Act C)). context_in s.0 x (running lives m.contexts n.0)) unused in
      record {
        workload = paused.workload;
        sound = sound;
        lives = ap (λ (ls : List (Option ActNo)). length ls) new_lives ∙ length-set lives p.0 (Some n) ∙ paused.lives;
        contexts = length-set m.contexts p.0 (Some c) ∙ paused.contexts;
        demands = demands;
        users = length-set m.users s.0 v ∙ paused.users;
        there = λ q. there-set m.contexts lives p.0 (Some c) (Some n) size refl paused.there q
            ∙ ap (λ (ls : List (Option ActNo)). is_some (get_or ls q None)) (sym new_lives);
        values =
            values-same stands m.workload e (slice_set m.users s.0 v) (contexts_in (slice_set lives p.0 (Some n)) (put acts n.0 (Some (runs_in s))) cs)
            (contexts_in k.lives k.acts cs)
            (contexts-same (slice_set lives p.0 (Some n)) k.lives (put acts n.0 (Some (runs_in s))) k.acts cs new_lives new_acts)
            (values-put stands m.workload e m.users s.0 v (contexts_in lives acts m.contexts)
            (contexts_in (slice_set lives p.0 (Some n)) (put acts n.0 (Some (runs_in s))) cs)
            (λ def of. subst (λ (x : Contexts C). stands (setting m.workload s.0 def) e v x) (fun_ext (contexts-begin lives acts m.contexts p.0 n s free c))
            (keep.begins (setting m.workload s.0 def) e u (contexts_in lives acts m.contexts s.0) n.0 seen (paused.values s.0 u def at of) none sees))
            (contexts-begin_kept lives acts m.contexts p.0 n s free c) paused.values);
      }
    where
      not-both : (x : Option (Act C)) (y : Act C) → x ≡ None → x ≡ Some y → ⊥
      not-both x y none some = cc
