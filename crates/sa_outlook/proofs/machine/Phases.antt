-- The phases of a turn keep machines alike: entries, ticks, the end of a slice, and an upcall with all that it tells.
use Rattle.std.proofs.Common.{◌≡◌, ◌≢◌, ℕ, suc, ◌%◌, Bool, true, false, ◌&&◌, not, cond, eqb, Option, Some, None, List, [], ◌∷◌, get_or, slice_get, slice_set, refl, sym, ap, subst, ◌∙◌, inl, inr}
use Rattle.std.proofs.lemmas.Bool.{cases_eq}
use Rattle.std.proofs.lemmas.List.{length-set, get_or-set_other}
use Rattle.std.proofs.lemmas.Option.{same_Some}
use Rattle.sa_base.specs.declared.number.ProcNo.{ProcNo}
use Rattle.sa_base.specs.declared.number.SpaceNo.{SpaceNo}
use Rattle.sa_base.specs.declared.number.ActNo.{ActNo}
use Rattle.sa_base.specs.declared.context.Seen.{Seen}
use Rattle.sa_base.specs.declared.context.Stopped.{Stopped}
use Rattle.sa_base.specs.declared.record.Note.{Note}
use Rattle.sa_base.specs.declared.record.Note.TheVariants.{Add, Preempted, Unblocked}
use Rattle.sa_base.specs.declared.record.Item.{Item}
use Rattle.sa_spaces.specs.Space.{SpaceView}
use Rattle.sa_spaces.specs.Workload.{WorkloadView}
use Rattle.sa_abstract.specs.Calls.{Calls}
use Rattle.sa_abstract.specs.Keeps.{Standing, Keeps}
use Rattle.sa_kernel_model.specs.declared.entry.Entry.{Entry}
use Rattle.sa_kernel_model.specs.State.{KernelState, owner_of}
use Rattle.sa_kernel_model.specs.Closing.{closed}
use Rattle.sa_kernel_model.specs.Entries.{entered_as, fetched, held_for, handed_by}
use Rattle.sa_kernel_model.specs.Sound.{AreClaimed}
use Rattle.sa_kernel_model.proofs.sound.Held.{stays-closed}
use Rattle.sa_core_model.specs.Machine.{Machine, user_of, context_on, scene_of, without_context, called_by, context_begun_by, context_begun, told, seen_on}
use Rattle.sa_core_model.specs.Turn.{ticked, ends_slice, sliced_if, sliced, kernel_entered, told_one, told_all, welcomed_in, answered_in, hinted}
use Rattle.sa_core_model.proofs.Calls.{Tells, tells-next, tells-all}
use Rattle.sa_core_model.proofs.Turns.{Welcomed}
use Rattle.sa_acts.specs.Table.{held_of}
use Rattle.sa_assign.specs.AssignView.{AssignView}
use Rattle.sa_outlook.specs.Nameless.{Held, NamelessNote, nameless_note, nameless_notes, plain_held}
use Rattle.sa_outlook.specs.Outlook.{held_by, look_in, see}
use Rattle.sa_outlook.specs.UserLevels.{SameNote, IgnoresNumbers}
use Rattle.sa_outlook.proofs.Alike.{told_notes, AlikeKernels}
use Rattle.sa_outlook.proofs.kernel.Closings.{AlikeScenes, closed-alike}
use Rattle.sa_outlook.proofs.kernel.Upcalls.{ToldAlike, fetched-alike}
use Rattle.sa_outlook.proofs.machine.Calls.{BothAlike, answered-alike, begun-alike, told-alike}

module _ {U C D : Type 0} (f : Calls U C) (plain : Option SpaceView → C → D) (IsMade : Option SpaceView → U → Type 0) (laws : IgnoresNumbers f plain IsMade) where
  abbrev pub Both : Machine U C → Machine U C → Type 0
  Both m n = BothAlike f plain IsMade laws m n

  abbrev pub look_of : Machine U C → ℕ → C → D
  look_of m = look_in plain m.workload

  see-none : (w : WorkloadView) (o : Option SpaceNo) → see plain w o None ≡ None
  see-none w None = refl
  see-none w (Some s) = refl

  -- THE KERNEL CHANGES

  pub kernel-both : (m n : Machine U C) (k l : KernelState C) (items others : List Item) → Both m n → AlikeKernels (look_of m) m.event n.event k l
      → ((q : ℕ) → see plain m.workload (get_or k.assign.owners q None) (get_or m.contexts q None)
      ≡ see plain n.workload (get_or l.assign.owners q None) (get_or n.contexts q None))
      → Both (record m { kernel = k; items = items }) (record n { kernel = l; items = others })
  kernel-both m n k l items others was kernel contexts = record {
    alike = record {
      workload = was.alike.workload;
      kernel = kernel;
      users = was.alike.users;
      contexts = contexts;
      processors = was.alike.processors;
      until = was.alike.until;
      beat = was.alike.beat;
    };
    made = was.made;
  }

  -- and not its owners
  pub same-owners : (m n : Machine U C) (k l : KernelState C) (items others : List Item) → Both m n → AlikeKernels (look_of m) m.event n.event k l
      → k.assign.owners ≡ m.kernel.assign.owners → l.assign.owners ≡ n.kernel.assign.owners
      → Both (record m { kernel = k; items = items }) (record n { kernel = l; items = others })
  same-owners m n k l items others was kernel own_k own_l =
      kernel-both m n k l items others was kernel
      (λ q. ap (λ (os : List (Option SpaceNo)). see plain m.workload (get_or os q None) (get_or m.contexts q None)) own_k ∙ was.alike.contexts q
      ∙ sym (ap (λ (os : List (Option SpaceNo)). see plain n.workload (get_or os q None) (get_or n.contexts q None)) own_l))

  -- no context runs on a processor
  none-set : (xs : List (Option C)) (p : ℕ) → get_or (slice_set xs p None) p None ≡ None
  none-set (x ∷ xs) (suc p) = none-set xs p
  none-set _ _ = refl

  -- a context is set aside, and the owners of other processors stay
  pub aside-both : (m n : Machine U C) (p : ProcNo) (k l : KernelState C) (items others : List Item) → Both m n → AlikeKernels (look_of m) m.event n.event k l
      → ((q : ℕ) → q ≢ p.0 → get_or k.assign.owners q None ≡ get_or m.kernel.assign.owners q None)
      → ((q : ℕ) → q ≢ p.0 → get_or l.assign.owners q None ≡ get_or n.kernel.assign.owners q None)
      → Both (record (without_context p m) { kernel = k; items = items }) (record (without_context p n) { kernel = l; items = others })
  aside-both m n p k l items others was kernel own_k own_l = record {
    alike = record {
      workload = was.alike.workload;
      kernel = kernel;
      users = was.alike.users;
      contexts = λ q. elim (cases_eq q p.0) [
        | inl same ↦
            ap (λ (c : Option C). see plain m.workload (get_or k.assign.owners q None) c)
            (ap (λ (i : ℕ). get_or (slice_set m.contexts p.0 None) i None) same ∙ none-set m.contexts p.0)
            ∙ see-none m.workload (get_or k.assign.owners q None)
            ∙ sym (ap (λ (c : Option C). see plain n.workload (get_or l.assign.owners q None) c)
            (ap (λ (i : ℕ). get_or (slice_set n.contexts p.0 None) i None) same ∙ none-set n.contexts p.0)
            ∙ see-none n.workload (get_or l.assign.owners q None))
        | inr apart ↦
            ap (λ (c : Option C). see plain m.workload (get_or k.assign.owners q None) c) (get_or-set_other m.contexts p.0 q None None apart)
            ∙ ap (λ (o : Option SpaceNo). see plain m.workload o (get_or m.contexts q None)) (own_k q apart)
            ∙ was.alike.contexts q
            ∙ sym (ap (λ (c : Option C). see plain n.workload (get_or l.assign.owners q None) c) (get_or-set_other n.contexts p.0 q None None apart)
            ∙ ap (λ (o : Option SpaceNo). see plain n.workload o (get_or n.contexts q None)) (own_l q apart))
      ];
      processors = length-set m.contexts p.0 None ∙ was.alike.processors ∙ sym (length-set n.contexts p.0 None);
      until = was.alike.until;
      beat = was.alike.beat;
    };
    made = was.made;
  }

  -- ENTRIES AFTER WHICH THE CONTEXT GOES ON

  pub entered-both : (p : ProcNo) (a b : ActNo) (en other : Entry C) (m n : Machine U C) → Both m n
      → AlikeScenes (look_of m) m.event n.event (entered_as m.event p a en (scene_of m)) (entered_as n.event p b other (scene_of n))
      → (entered_as m.event p a en (scene_of m)).state.assign.owners ≡ m.kernel.assign.owners
      → (entered_as n.event p b other (scene_of n)).state.assign.owners ≡ n.kernel.assign.owners
      → Both (kernel_entered p a en m) (kernel_entered p b other n)
  entered-both p a b en other m n was alike own_m own_n =
      let x = entered_as m.event p a en (scene_of m) in
      let y = entered_as n.event p b other (scene_of n) in
      let cx = closed m.event p x in
      let cy = closed n.event p y in
      same-owners m n cx.state cy.state cx.items cy.items was (closed-alike (look_of m) m.event n.event p x y alike)
      ((stays-closed m.event p x).owners ∙ own_m) ((stays-closed n.event p y).owners ∙ own_n)

  answered-in : (p : ProcNo) (o : Option SpaceNo) (m n : Machine U C) → owner_of m.kernel p ≡ o → Both m n → Both (answered_in f p o m) (answered_in f p o n)
  answered-in p None m n owner was = was
  answered-in p (Some s) m n owner was = answered-alike f plain IsMade laws p s m n owner was

  pub owners-both : (m n : Machine U C) (p : ProcNo) → Both m n → owner_of m.kernel p ≡ owner_of n.kernel p
  owners-both m n p was = ap (λ (os : List (Option SpaceNo)). get_or os p.0 None) was.alike.kernel.owners

  pub hinted-both : (p : ProcNo) (a b : ActNo) (en other : Entry C) (m n : Machine U C) → Both (kernel_entered p a en m) (kernel_entered p b other n)
      → Both (hinted f p a en m) (hinted f p b other n)
  hinted-both p a b en other m n was =
      let x = kernel_entered p a en m in
      let y = kernel_entered p b other n in
      subst (λ (o : Option SpaceNo). Both (hinted f p a en m) (answered_in f p o y)) (owners-both x y p was) (answered-in p (owner_of x.kernel p) x y refl was)

  -- A TICK, AND THE END OF A SLICE

  pub ticked-both : (p : ProcNo) (m n : Machine U C) → Both m n → Both (ticked p m) (ticked p n)
  ticked-both p m n was = same-owners m n m.kernel n.kernel (ticked p m).items (ticked p n).items was was.alike.kernel refl refl

  ends-by : (slice e : ℕ) (b : Bool) → b ≡ eqb slice 0 → not b && eqb (e % slice) 0 ≡ not b && eqb (cond b 0 (e % slice)) 0
  ends-by slice e true is = refl
  ends-by slice e false is = refl

  pub ends-same : (m n : Machine U C) → Both m n → ends_slice m ≡ ends_slice n
  ends-same m n was =
      let s = m.workload.slice in
      let t = n.workload.slice in
      ends-by s m.event (eqb s 0) refl
      ∙ ap (λ (i : ℕ). not (eqb s 0) && eqb i 0) was.alike.beat
      ∙ ap (λ (w : WorkloadView). not (eqb w.slice 0) && eqb (cond (eqb t 0) 0 (n.event % t)) 0) was.alike.workload
      ∙ sym (ends-by t n.event (eqb t 0) refl)

  sliced-if : (p : ProcNo) (b : Bool) (m n : Machine U C) → Both m n → Both (sliced_if p b m) (sliced_if p b n)
  sliced-if p false m n was = was
  sliced-if p true m n was =
      let x = closed m.event p (scene_of m) in
      let y = closed n.event p (scene_of n) in
      same-owners m n x.state y.state x.items y.items was (closed-alike (look_of m) m.event n.event p (scene_of m) (scene_of n) was.alike.kernel)
      (stays-closed m.event p (scene_of m)).owners (stays-closed n.event p (scene_of n)).owners

  pub sliced-both : (p : ProcNo) (m n : Machine U C) → Both m n → Both (sliced p m) (sliced p n)
  sliced-both p m n was =
      subst (λ (b : Bool). Both (sliced p m) (sliced_if p b n)) (ends-same m n was) (sliced-if p (ends_slice m) m n was)

  -- AFTER AN UPCALL

  called-kernel : (call : U → C → U × C) (p : ProcNo) (s : SpaceNo) (o : Option U) (c : Option C) (m : Machine U C)
      → (called_by call p s o c m).kernel ≡ m.kernel
  called-kernel call p s None c m = refl
  called-kernel call p s (Some u) None m = refl
  called-kernel call p s (Some u) (Some c) m = refl

  called-workload : (call : U → C → U × C) (p : ProcNo) (s : SpaceNo) (o : Option U) (c : Option C) (m : Machine U C)
      → (called_by call p s o c m).workload ≡ m.workload
  called-workload call p s None c m = refl
  called-workload call p s (Some u) None m = refl
  called-workload call p s (Some u) (Some c) m = refl

  begun-kernel : (p : ProcNo) (s : SpaceNo) (seen : Seen) (o : Option U) (m : Machine U C) → (context_begun_by f p s seen o m).kernel ≡ m.kernel
  begun-kernel p s seen None m = refl
  begun-kernel p s seen (Some u) m = refl

  begun-workload : (p : ProcNo) (s : SpaceNo) (seen : Seen) (o : Option U) (m : Machine U C) → (context_begun_by f p s seen o m).workload ≡ m.workload
  begun-workload p s seen None m = refl
  begun-workload p s seen (Some u) m = refl

  -- a notice with what comes with it
  note-held : (look : ℕ → C → D) (s : ℕ) (k : KernelState C) (note : Note)
      → nameless_note look s (held_by k) note ≡ nameless_note look s (λ (n : ℕ). held_for k note) note
  note-held look s k (Add p) = refl
  note-held look s k _ = refl

  note-plain : (w : WorkloadView) (s : ℕ) (h : Held C) (note : Note)
      → nameless_note (look_in plain w) s h note ≡ nameless_note (λ (i : ℕ) (c : C). plain (slice_get w.spaces s) c) 0 h note
  note-plain w s h (Preempted a) = go (h a.0)
    where
      go : (x : Option (Stopped C)) → NamelessNote.preempted (plain_held (look_in plain w) s x)
          ≡ NamelessNote.preempted (plain_held (λ (i : ℕ) (c : C). plain (slice_get w.spaces s) c) 0 x)
      go None = refl
      go (Some x) = refl
  note-plain w s h (Unblocked a) = go (h a.0)
    where
      go : (x : Option (Stopped C)) → NamelessNote.unblocked (plain_held (look_in plain w) s x)
          ≡ NamelessNote.unblocked (plain_held (λ (i : ℕ) (c : C). plain (slice_get w.spaces s) c) 0 x)
      go None = refl
      go (Some x) = refl
  note-plain w s h _ = refl

  fetched-owners : (note : Note) (k : KernelState C) → (fetched note k).assign ≡ k.assign
  fetched-owners (Preempted a) k = go (held_of (k.acts a.0))
    where
      go : (o : Option (Stopped C)) → (handed_by o a k).assign ≡ k.assign
      go None = refl
      go (Some h) = refl
  fetched-owners (Unblocked a) k = go (held_of (k.acts a.0))
    where
      go : (o : Option (Stopped C)) → (handed_by o a k).assign ≡ k.assign
      go None = refl
      go (Some h) = refl
  fetched-owners _ k = refl

  -- two upcalls' contexts that were told the same
  pub record BothTold (s : SpaceNo) (m n : Machine U C) : Type 0 where
    pub both : Both m n
    pub told : told_notes (look_of m) m.kernel s.0 ≡ told_notes (look_of m) n.kernel s.0

  module _ (stands : Standing U C) (keep : Keeps f stands) where
    told-one : (p : ProcNo) (s : SpaceNo) (note other : Note) (notes others : List Note) (m n : Machine U C) → owner_of m.kernel p ≡ Some s
        → m.kernel.telling ≡ note ∷ notes → n.kernel.telling ≡ other ∷ others → AreClaimed m.kernel s.0 → AreClaimed n.kernel s.0
        → BothTold s m n → BothTold s (told_one f p s note notes m) (told_one f p s other others n)
    told-one p s note other notes others m n owner is_m is_n claimed_m claimed_n was =
        let look = look_of m in
        let k = m.kernel in
        let l = n.kernel in
        let all : nameless_notes look s.0 (held_by k) (note ∷ notes) ≡ nameless_notes look s.0 (held_by l) (other ∷ others) =
        ap (nameless_notes look s.0 (held_by k)) (sym is_m) ∙ was.told ∙ ap (nameless_notes look s.0 (held_by l)) is_n in
        let head : nameless_note look s.0 (held_by k) note ≡ nameless_note look s.0 (held_by l) other = cc in
        let rest : nameless_notes look s.0 (held_by k) notes ≡ nameless_notes look s.0 (held_by l) others = cc in
        let k1 : KernelState C = record k { telling = notes } in
        let l1 : KernelState C = record l { telling = others } in
        let k2 = fetched note k1 in
        let l2 = fetched other l1 in
        let new = fetched-alike look m.event n.event k l s.0 note other notes others is_m is_n claimed_m claimed_n head rest was.both.alike.kernel in
        let own_k : k2.assign.owners ≡ k.assign.owners = ap (λ (a : AssignView). a.owners) (fetched-owners note k1) in
        let own_l : l2.assign.owners ≡ l.assign.owners = ap (λ (a : AssignView). a.owners) (fetched-owners other l1) in
        let mid : Both (record m { kernel = k2 }) (record n { kernel = l2 }) = same-owners m n k2 l2 m.items n.items was.both new.0 own_k own_l in
        let same : SameNote plain (slice_get m.workload.spaces s.0) note (held_for k1 note) other (held_for l1 other) =
        sym (note-plain m.workload s.0 (λ (i : ℕ). held_for k1 note) note) ∙ sym (note-held look s.0 k1 note) ∙ head
        ∙ note-held look s.0 l1 other ∙ note-plain m.workload s.0 (λ (i : ℕ). held_for l1 other) other in
        let here : owner_of k2 p ≡ Some s = ap (λ (os : List (Option SpaceNo)). get_or os p.0 None) own_k ∙ owner in
        let call : U → C → U × C = λ u c. f.told u c note (held_for k1 note) in
        let call2 : U → C → U × C = λ u c. f.told u c other (held_for l1 other) in
        let km : (told_one f p s note notes m).kernel ≡ k2 = called-kernel call p s (user_of m s) (context_on m p) (record m { kernel = k2 }) in
        let kn : (told_one f p s other others n).kernel ≡ l2 = called-kernel call2 p s (user_of n s) (context_on n p) (record n { kernel = l2 }) in
        let wm : (told_one f p s note notes m).workload ≡ m.workload = called-workload call p s (user_of m s) (context_on m p) (record m { kernel = k2 }) in
        record {
          both = told-alike f plain IsMade laws p s note other (held_for k1 note) (held_for l1 other) (record m { kernel = k2 })
              (record n { kernel = l2 }) here same mid;
          told = ap (λ (w : WorkloadView). told_notes (look_in plain w) (told_one f p s note notes m).kernel s.0) wm
              ∙ ap (λ (z : KernelState C). told_notes look z s.0) km ∙ new.1
              ∙ sym (ap (λ (w : WorkloadView). told_notes (look_in plain w) (told_one f p s other others n).kernel s.0) wm
              ∙ ap (λ (z : KernelState C). told_notes look z s.0) kn);
        }

    told-many : (w v : WorkloadView) (e g i j : ℕ) (p : ProcNo) (s : SpaceNo) (notes others : List Note) (m n : Machine U C)
        → Tells f stands keep w e g p s notes m → Tells f stands keep v i j p s others n → BothTold s m n
        → Both (told_all f p s notes m) (told_all f p s others n)
    told-many w v e g i j p s [] [] m n tm tn was = was.both
    told-many w v e g i j p s (note ∷ notes) (other ∷ others) m n tm tn was =
        told-many w v e g i j p s notes others (told_one f p s note notes m) (told_one f p s other others n)
        (tells-next f stands keep w e g m p s note notes tm) (tells-next f stands keep v i j n p s other others tn)
        (told-one p s note other notes others m n tm.owner tm.telling tn.telling tm.claimed tn.claimed was)
    told-many w v e g i j p s _ _ m n tm tn was =
        absurd (let z = ap (nameless_notes (look_of m) s.0 (held_by m.kernel)) (sym tm.telling) ∙ was.told
        ∙ ap (nameless_notes (look_of m) s.0 (held_by n.kernel)) tn.telling in cc)

    all-owner : (w : WorkloadView) (e g : ℕ) (p : ProcNo) (s : SpaceNo) (notes : List Note) (m : Machine U C) → Tells f stands keep w e g p s notes m
        → owner_of (told_all f p s notes m).kernel p ≡ Some s
    all-owner w e g p s notes m tells = (tells-all f stands keep w e g p s notes m tells).owner

    pub welcomed-both : (w v : WorkloadView) (e g i j : ℕ) (p : ProcNo) (m n : Machine U C) → Welcomed f stands keep w e g p m
        → Welcomed f stands keep v i j p n
        → ToldAlike (look_of m) p m.kernel n.kernel → Both m n
        → Both (welcomed_in f p (owner_of m.kernel p) m) (welcomed_in f p (owner_of n.kernel p) n)
    welcomed-both w v e g i j p m n wm wn told was =
        let s = wm.space in
        let own_n : owner_of n.kernel p ≡ Some s = sym (owners-both m n p was) ∙ wm.owner in
        let same : wn.space ≡ s = same_Some wn.space s (sym wn.owner ∙ own_n) in
        let tn : Tells f stands keep v i j p s n.kernel.telling (context_begun f p s n) =
        subst (λ (t : SpaceNo). Tells f stands keep v i j p t n.kernel.telling (context_begun f p t n)) same wn.begins in
        let bm = begun-kernel p s (seen_on m p s) (user_of m s) m in
        let bn = begun-kernel p s (seen_on n p s) (user_of n s) n in
        let bw = begun-workload p s (seen_on m p s) (user_of m s) m in
        let first : BothTold s (context_begun f p s m) (context_begun f p s n) = record {
          both = begun-alike f plain IsMade laws p s m n wm.owner was;
          told = ap (λ (x : WorkloadView). told_notes (look_in plain x) (context_begun f p s m).kernel s.0) bw
              ∙ ap (λ (z : KernelState C). told_notes (look_of m) z s.0) bm ∙ told s wm.owner
              ∙ sym (ap (λ (x : WorkloadView). told_notes (look_in plain x) (context_begun f p s n).kernel s.0) bw
              ∙ ap (λ (z : KernelState C). told_notes (look_of m) z s.0) bn);
        } in
        let all = told-many w v e g i j p s m.kernel.telling n.kernel.telling (context_begun f p s m) (context_begun f p s n) wm.begins tn first in
        let done : Both (welcomed_in f p (Some s) m) (welcomed_in f p (Some s) n) =
        answered-alike f plain IsMade laws p s (told_all f p s m.kernel.telling (context_begun f p s m)) (told_all f p s n.kernel.telling (context_begun f p s n))
        (all-owner w e g p s m.kernel.telling (context_begun f p s m) wm.begins) all in
        subst (λ (o : Option SpaceNo). Both (welcomed_in f p o m) (welcomed_in f p (owner_of n.kernel p) n)) (sym wm.owner)
        (subst (λ (o : Option SpaceNo). Both (welcomed_in f p (Some s) m) (welcomed_in f p o n)) (sym own_n) done)
