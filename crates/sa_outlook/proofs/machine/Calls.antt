-- Calls of a user level keep machines alike, and a step answers the same.
use Rattle.std.proofs.Common.{◌≡◌, ℕ, Bool, Option, Some, None, List, length, get_or, slice_get, slice_set, refl, sym, ap, subst, ◌∙◌, inl, inr}
use Rattle.std.proofs.Math.Path.{fun_ext}
use Rattle.std.proofs.lemmas.List.{length-set}
use Rattle.std.proofs.lemmas.Option.{same_Some}
use Rattle.sa_base.specs.declared.number.ProcNo.{ProcNo}
use Rattle.sa_base.specs.declared.number.SpaceNo.{SpaceNo}
use Rattle.sa_base.specs.declared.number.ThreadNo.{ThreadNo}
use Rattle.sa_base.specs.declared.context.Seen.{Seen}
use Rattle.sa_base.specs.declared.context.Stopped.{Stopped}
use Rattle.sa_base.specs.declared.record.Note.{Note}
use Rattle.sa_base.specs.declared.record.Item.{Item}
use Rattle.sa_lemmas.proofs.ListUpdates.{slice_get-set_cases}
use Rattle.sa_spaces.specs.Space.{SpaceView}
use Rattle.sa_spaces.specs.Workload.{WorkloadView}
use Rattle.sa_abstract.specs.Calls.{Calls}
use Rattle.sa_abstract.specs.declared.answer.Step.{Step}
use Rattle.sa_kernel_model.specs.State.{owner_of, demand_of, taken_of}
use Rattle.sa_kernel_model.specs.Closing.{has_low_line}
use Rattle.sa_kernel_model.specs.Seen.{bits_where, low_of}
use Rattle.sa_core_model.specs.Machine.{Machine, user_of, context_on, seen_on, with_pair, called_by, called, context_begun_by, context_begun, answered, told, stopped_by, stopped_in, step_to, stepped_by, stepped}
use Rattle.sa_outlook.specs.Nameless.{PlainStopped, plain_held}
use Rattle.sa_outlook.specs.UserLevels.{at_event, SamePair, SameNote, IgnoresNumbers}
use Rattle.sa_outlook.specs.Outlook.{look_in, see}
use Rattle.sa_outlook.proofs.ListsAlike.{each-set}
use Rattle.sa_outlook.proofs.Alike.{AlikeMachines}
use Rattle.sa_outlook.proofs.kernel.Closings.{low_line-alike}
use Rattle.sa_outlook.proofs.kernel.Entries.{AlikeStops}

module _ {U C D : Type 0} (f : Calls U C) (plain : Option SpaceView → C → D) (IsMade : Option SpaceView → U → Type 0) (laws : IgnoresNumbers f plain IsMade) where
  -- each value was made for its space
  abbrev pub AreMade : Machine U C → Type 0
  AreMade m = (s : ℕ) (u : U) → slice_get m.users s ≡ Some u → IsMade (slice_get m.workload.spaces s) u

  -- WHAT IS SEEN

  pub seen-alike : (m n : Machine U C) (p : ProcNo) (s : SpaceNo) → AlikeMachines plain m n → seen_on n p s ≡ at_event n.event (seen_on m p s)
  seen-alike m n p s was =
      let k = m.kernel in
      let l = n.kernel in
      let a = was.kernel in
      sym (ap (λ (ds : List ℕ). seen_as p n.event (get_or ds s.0 0) (get_or k.pages s.0 0) (length (taken_of k s.0)) (low_of k s)) a.demands
      ∙ ap (λ (ps : List ℕ). seen_as p n.event (demand_of l s.0) (get_or ps s.0 0) (length (taken_of k s.0)) (low_of k s)) a.pages
      ∙ ap (λ (t : ℕ). seen_as p n.event (demand_of l s.0) (get_or l.pages s.0 0) t (low_of k s)) (a.taken s.0)
      ∙ ap (λ (t : ℕ). seen_as p n.event (demand_of l s.0) (get_or l.pages s.0 0) (length (taken_of l s.0)) t)
      (ap (λ (t : ℕ → Bool). bits_where t (length k.lives)) (fun_ext (low_line-alike (look_in plain m.workload) m.event n.event k l a s.0))
      ∙ ap (bits_where (has_low_line l s.0)) a.lives))
    where
      seen_as : ProcNo → ℕ → ℕ → ℕ → ℕ → ℕ → Seen
      seen_as q e d g t w = record { proc = q; event = e; demand = d; pages = g; taken = t; low = w }

  -- A PAIR

  pub pair-alike : (m n : Machine U C) (p : ProcNo) (s : SpaceNo) (x y : U × C) (items others : List Item) → owner_of m.kernel p ≡ Some s
      → SamePair plain IsMade (slice_get m.workload.spaces s.0) x y → AlikeMachines plain m n
      → AlikeMachines plain (record (with_pair p s x.0 x.1 m) { items = items }) (record (with_pair p s y.0 y.1 n) { items = others })
  pair-alike m n p s x y items others owner same was =
      let own : owner_of n.kernel p ≡ Some s = ap (λ (os : List (Option SpaceNo)). get_or os p.0 None) (sym was.kernel.owners) ∙ owner in
      let here : see plain m.workload (get_or m.kernel.assign.owners p.0 None) (Some x.1) ≡ see plain n.workload (get_or n.kernel.assign.owners p.0 None)
      (Some y.1) =
      ap (λ (o : Option SpaceNo). see plain m.workload o (Some x.1)) owner
      ∙ ap (λ (d : D). Some d) same.ctx ∙ ap (λ (w : WorkloadView). Some (look_in plain w s.0 y.1)) was.workload
      ∙ sym (ap (λ (o : Option SpaceNo). see plain n.workload o (Some y.1)) own) in
      record {
        workload = was.workload;
        kernel = was.kernel;
        users = ap (λ (us : List U). slice_set us s.0 x.0) was.users ∙ ap (λ (u : U). slice_set n.users s.0 u) same.user;
        contexts = each-set (λ (q : ℕ) (a b : Option C). see plain m.workload (get_or m.kernel.assign.owners q None) a
            ≡ see plain n.workload (get_or n.kernel.assign.owners q None) b)
            None None m.contexts n.contexts p.0 (Some x.1) (Some y.1) was.processors here was.contexts;
        processors = length-set m.contexts p.0 (Some x.1) ∙ was.processors ∙ sym (length-set n.contexts p.0 (Some y.1));
        until = was.until;
        beat = was.beat;
      }

  pub made-set : (m : Machine U C) (s : ℕ) (v : U) → IsMade (slice_get m.workload.spaces s) v → AreMade m
      → (t : ℕ) (u : U) → slice_get (slice_set m.users s v) t ≡ Some u → IsMade (slice_get m.workload.spaces t) u
  made-set m s v new made t u at = elim (slice_get-set_cases m.users s t v u at) [
    | inl y ↦ subst (λ (i : ℕ). IsMade (slice_get m.workload.spaces i) u) (sym y.0) (subst (λ (z : U). IsMade (slice_get m.workload.spaces s) z) (sym y.1) new)
    | inr y ↦ made t u y.1
  ]

  -- of two contexts on a processor of this owner: both are none, or plainly the same
  pub some-seen : (m n : Machine U C) (p : ProcNo) (s : SpaceNo) → owner_of m.kernel p ≡ Some s → AlikeMachines plain m n
      → see plain m.workload (Some s) (context_on m p) ≡ see plain m.workload (Some s) (context_on n p)
  some-seen m n p s owner was =
      let own : owner_of n.kernel p ≡ Some s = ap (λ (os : List (Option SpaceNo)). get_or os p.0 None) (sym was.kernel.owners) ∙ owner in
      ap (λ (o : Option SpaceNo). see plain m.workload o (context_on m p)) (sym owner) ∙ was.contexts p.0
      ∙ ap (λ (o : Option SpaceNo). see plain n.workload o (context_on n p)) own
      ∙ ap (λ (w : WorkloadView). see plain w (Some s) (context_on n p)) (sym was.workload)

  pub record BothAlike (m n : Machine U C) : Type 0 where
    pub alike : AlikeMachines plain m n
    pub made : AreMade m

  -- calls that answer alike
  abbrev pub SameCalls : Option SpaceView → (U → C → U × C) → (U → C → U × C) → Type 0
  SameCalls def call other = (u : U) (c d : C) → IsMade def u → plain def c ≡ plain def d → SamePair plain IsMade def (call u c) (other u d)

  called-by : (call other : U → C → U × C) (p : ProcNo) (s : SpaceNo) (m n : Machine U C) (o : Option U) (c d : Option C)
      → ((u : U) → o ≡ Some u → IsMade (slice_get m.workload.spaces s.0) u)
      → see plain m.workload (Some s) c ≡ see plain m.workload (Some s) d → owner_of m.kernel p ≡ Some s
      → SameCalls (slice_get m.workload.spaces s.0) call other → BothAlike m n → BothAlike (called_by call p s o c m) (called_by other p s o d n)
  called-by call other p s m n (Some u) None (Some d) made same owner law was = absurd cc
  called-by call other p s m n (Some u) (Some c) None made same owner law was = absurd cc
  called-by call other p s m n (Some u) (Some c) (Some d) made same owner law was =
      let r = law u c d (made u refl) (same_Some _ _ same) in
      record {
        alike = pair-alike m n p s (call u c) (other u d) m.items n.items owner r was.alike;
        made = made-set m s.0 (call u c).0 r.made was.made;
      }
  called-by call other p s m n _ _ _ made same owner law was = was

  pub called-alike : (call other : U → C → U × C) (p : ProcNo) (s : SpaceNo) (m n : Machine U C) → owner_of m.kernel p ≡ Some s
      → SameCalls (slice_get m.workload.spaces s.0) call other → BothAlike m n → BothAlike (called call p s m) (called other p s n)
  called-alike call other p s m n owner law was =
      subst (λ (us : List U). BothAlike (called call p s m) (called_by other p s (slice_get us s.0) (context_on n p) n)) was.alike.users
      (called-by call other p s m n (user_of m s) (context_on m p) (context_on n p) (λ u at. was.made s.0 u at)
      (some-seen m n p s owner was.alike) owner law was)

  pub answered-alike : (p : ProcNo) (s : SpaceNo) (m n : Machine U C) → owner_of m.kernel p ≡ Some s → BothAlike m n
      → BothAlike (answered f p s m) (answered f p s n)
  answered-alike p s m n owner was =
      called-alike (λ u c. f.answered u (seen_on m p s) c) (λ u c. f.answered u (seen_on n p s) c) p s m n owner
      (λ u c d made same. subst (λ (z : Seen). SamePair plain IsMade (slice_get m.workload.spaces s.0) (f.answered u (seen_on m p s) c) (f.answered u z d))
      (sym (seen-alike m n p s was.alike)) (laws.answered (slice_get m.workload.spaces s.0) u (seen_on m p s) n.event c d made same)) was

  begun-by : (p : ProcNo) (s : SpaceNo) (m n : Machine U C) (o : Option U) → ((u : U) → o ≡ Some u → IsMade (slice_get m.workload.spaces s.0) u)
      → owner_of m.kernel p ≡ Some s → BothAlike m n → BothAlike (context_begun_by f p s (seen_on m p s) o m) (context_begun_by f p s (at_event n.event (seen_on m p s)) o n)
  begun-by p s m n None made owner was = was
  begun-by p s m n (Some u) made owner was =
      let r = laws.begun (slice_get m.workload.spaces s.0) u (seen_on m p s) n.event (made u refl) in record {
        alike = pair-alike m n p s (f.begun u (seen_on m p s)) (f.begun u (at_event n.event (seen_on m p s))) m.items n.items owner r was.alike;
        made = made-set m s.0 (f.begun u (seen_on m p s)).0 r.made was.made;
      }

  pub begun-alike : (p : ProcNo) (s : SpaceNo) (m n : Machine U C) → owner_of m.kernel p ≡ Some s → BothAlike m n → BothAlike (context_begun f p s m) (context_begun f p s n)
  begun-alike p s m n owner was =
      subst (λ (z : Seen). BothAlike (context_begun f p s m) (context_begun_by f p s z (user_of n s) n)) (sym (seen-alike m n p s was.alike))
      (subst (λ (us : List U). BothAlike (context_begun f p s m) (context_begun_by f p s (at_event n.event (seen_on m p s)) (slice_get us s.0) n)) was.alike.users
      (begun-by p s m n (user_of m s) (λ u at. was.made s.0 u at) owner was))

  pub told-alike : (p : ProcNo) (s : SpaceNo) (note other : Note) (held i : Option (Stopped C)) (m n : Machine U C) → owner_of m.kernel p ≡ Some s
      → SameNote plain (slice_get m.workload.spaces s.0) note held other i → BothAlike m n
      → BothAlike (told f p s note held m) (told f p s other i n)
  told-alike p s note other held i m n owner same was =
      called-alike (λ u c. f.told u c note held) (λ u c. f.told u c other i) p s m n owner
      (λ u c d made plainly. laws.told (slice_get m.workload.spaces s.0) u c d note other held i made plainly same) was

  -- A STEP

  pub record SameSteps (x y : Machine U C × Step) : Type 0 where
    pub after : BothAlike x.0 y.0
    pub answer : x.1 ≡ y.1

  stepped-by : (p : ProcNo) (s : SpaceNo) (m n : Machine U C) (o : Option U) (c d : Option C)
      → ((u : U) → o ≡ Some u → IsMade (slice_get m.workload.spaces s.0) u)
      → see plain m.workload (Some s) c ≡ see plain m.workload (Some s) d → owner_of m.kernel p ≡ Some s
      → BothAlike m n → SameSteps (stepped_by f p s (seen_on m p s) o c m) (stepped_by f p s (at_event n.event (seen_on m p s)) o d n)
  stepped-by p s m n (Some u) None (Some d) made same owner was = absurd cc
  stepped-by p s m n (Some u) (Some c) None made same owner was = absurd cc
  stepped-by p s m n (Some u) (Some c) (Some d) made same owner was =
      let a = f.stepped u (seen_on m p s) c in
      let b = f.stepped u (at_event n.event (seen_on m p s)) d in
      let r = laws.stepped (slice_get m.workload.spaces s.0) u (seen_on m p s) n.event c d (made u refl) (same_Some _ _ same) in
      record {
        after = record {
          alike = pair-alike m n p s (a.user, a.ctx) (b.user, b.ctx) (step_to f p s a m).items (step_to f p s b n).items owner
              (record { user = r.user; ctx = r.ctx; made = r.made }) was.alike;
          made = made-set m s.0 a.user r.made was.made;
        };
        answer = r.answer;
      }
  stepped-by p s m n _ _ _ made same owner was = record { after = was; answer = refl }

  pub stepped-alike : (p : ProcNo) (s : SpaceNo) (m n : Machine U C) → owner_of m.kernel p ≡ Some s → BothAlike m n
      → SameSteps (stepped f p s m) (stepped f p s n)
  stepped-alike p s m n owner was =
      subst (λ (z : Seen). SameSteps (stepped f p s m) (stepped_by f p s z (user_of n s) (context_on n p) n)) (sym (seen-alike m n p s was.alike))
      (subst (λ (us : List U). SameSteps (stepped f p s m)
      (stepped_by f p s (at_event n.event (seen_on m p s)) (slice_get us s.0) (context_on n p) n)) was.alike.users
      (stepped-by p s m n (user_of m s) (context_on m p) (context_on n p) (λ u at. was.made s.0 u at) (some-seen m n p s owner was.alike) owner was))

  -- A CONTEXT IS STOPPED

  stopped-by : (w : WorkloadView) (s : SpaceNo) (o : Option U) (c d : Option C) → ((u : U) → o ≡ Some u → IsMade (slice_get w.spaces s.0) u)
      → see plain w (Some s) c ≡ see plain w (Some s) d
      → plain_held (look_in plain w) s.0 (stopped_by f o c) ≡ plain_held (look_in plain w) s.0 (stopped_by f o d)
  stopped-by w s (Some u) None (Some d) made same = absurd cc
  stopped-by w s (Some u) (Some c) None made same = absurd cc
  stopped-by w s (Some u) (Some c) (Some d) made same =
      let def = slice_get w.spaces s.0 in
      let e = same_Some _ _ same in
      ap (λ (x : D). one x (f.thread u c) (f.idle u c)) e
      ∙ ap (λ (x : Option ThreadNo). one (plain def d) x (f.idle u c)) (laws.thread def u c d (made u refl) e)
      ∙ ap (λ (x : Bool). one (plain def d) (f.thread u d) x) (laws.idle def u c d (made u refl) e)
    where
      one : D → Option ThreadNo → Bool → Option (PlainStopped D)
      one x t b = Some (record { ctx = x; thread = t; idle = b })
  stopped-by w s _ _ _ made same = refl

  pub stops-alike : (p : ProcNo) (m n : Machine U C) → BothAlike m n
      → AlikeStops (look_in plain m.workload) (owner_of m.kernel p) (stopped_in f m p (owner_of m.kernel p)) (stopped_in f n p (owner_of n.kernel p))
  stops-alike p m n was s owner =
      let look = look_in plain m.workload in
      let own : owner_of n.kernel p ≡ Some s = ap (λ (os : List (Option SpaceNo)). get_or os p.0 None) (sym was.alike.kernel.owners) ∙ owner in
      ap (λ (o : Option SpaceNo). plain_held look s.0 (stopped_in f m p o)) owner
      ∙ stopped-by m.workload s (user_of m s) (context_on m p) (context_on n p) (λ u at. was.made s.0 u at) (some-seen m n p s owner was.alike)
      ∙ ap (λ (us : List U). plain_held look s.0 (stopped_by f (slice_get us s.0) (context_on n p))) was.alike.users
      ∙ sym (ap (λ (o : Option SpaceNo). plain_held look s.0 (stopped_in f n p o)) own)
