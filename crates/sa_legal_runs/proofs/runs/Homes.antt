-- Each activation is one of a space of the workload.
use Rattle.std.proofs.Common.{◌≡◌, ℕ, zero, suc, ◌<◌, sym, ◌∙◌, subst, refl, Bool, true, false, Option, Some, None, List, [], ◌∷◌, inl, inr}
use Rattle.std.proofs.lemmas.Bool.{cases_eq}
use Rattle.std.proofs.lemmas.Option.{same_Some, none-some}
use Rattle.std.specs.Option.{option_map}
use Rattle.sa_base.specs.declared.number.ProcNo.{ProcNo}
use Rattle.sa_base.specs.declared.number.SpaceNo.{SpaceNo}
use Rattle.sa_base.specs.declared.number.ActNo.{ActNo}
use Rattle.sa_base.specs.declared.context.Stopped.{Stopped}
use Rattle.sa_base.specs.declared.record.Note.{Note}
use Rattle.sa_base.specs.declared.record.Note.TheVariants.{Preempted, Unblocked}
use Rattle.sa_base.specs.declared.number.IoNo.{IoNo}
use Rattle.sa_lemmas.specs.Function.{put}
use Rattle.sa_lemmas.proofs.FunctionUpdates.{put-other, put-at}
use Rattle.sa_abstract.specs.Calls.{Calls}
use Rattle.sa_abstract.specs.declared.answer.Step.TheVariants.{Did, Block as BlockAsked, More, Idle as IdleAsked, GiveBack as GiveBackAsked, InterruptOwn}
use Rattle.sa_abstract.specs.declared.answer.Step.{Step}
use Rattle.sa_acts.specs.Table.{held_of, runs_in, holding, taken_from}
use Rattle.sa_acts.specs.declared.acts.Act.{Act}
use Rattle.sa_assign.specs.Aims.{is_aim}
use Rattle.sa_devices.specs.Ios.{due_of, io_no}
use Rattle.sa_kernel_model.specs.Entries.{blocked_by, told_or_left, block_begun, entered_as, go_to_aim, stopped, fetched, held_for, handed_by, kind_at, gave_back, without_acts}
use Rattle.sa_kernel_model.specs.State.{life_of, KernelState, Scene, owner_of, line_of, aim_of, can_upcall, taken_of}
use Rattle.sa_kernel_model.specs.Parts.{with_line, go_to_by}
use Rattle.sa_kernel_model.specs.declared.entry.Entry.{Entry}
use Rattle.sa_kernel_model.specs.declared.entry.Entry.TheVariants.{Interrupt, Block as BlockEntry, Complete, More as MoreEntry, Idle as IdleEntry, GiveBack as GiveBackEntry, InterruptOwn as InterruptOwnEntry}
use Rattle.sa_kernel_model.specs.Closing.{aims}
use Rattle.sa_kernel_model.specs.Entering.{upcalls}
use Rattle.sa_kernel_model.specs.Sound.{AreSpaces}
use Rattle.sa_core_model.specs.Run.Move.{turn, commit}
use Rattle.sa_core_model.specs.Run.{Move, IsMove}
use Rattle.sa_core_model.specs.Machine.{context_begun, context_begun_by, stepped, stepped_by, gone_by, Machine, without_context, seen_on, scene_of, user_of, called_by, context_on, stopped_in}
use Rattle.sa_core_model.specs.Turn.{next_event, entered_on, kernel_entered, welcomed_in, welcomed_if, told_all, hinted, answered_in, turned_raised, told_one, ticked, asked, turned_due, turned_owned, sliced_if, ends_slice, more_events, gone_in, committed, blocked_by as blocks_by}
use Rattle.sa_core_model.proofs.Effects.{same-closed, same-over, same-leave, same-more, same-idled}

-- Each activation is one of the first n spaces.
abbrev pub AreHomed : {C : Type 0} → ℕ → (ℕ → Option (Act C)) → Type 0
AreHomed {C} n acts = (a : ℕ) (act : Act C) → acts a ≡ Some act → act.space.0 < n

module _ {C : Type 0} where
  home-put : (n : ℕ) (acts : ℕ → Option (Act C)) (b : ℕ) (o : Option (Act C)) → AreHomed n acts
      → ((act : Act C) → o ≡ Some act → act.space.0 < n) → AreHomed n (put acts b o)
  home-put n acts b o h new a act is = elim (cases_eq a b) [
    | inl y ↦ new act (sym (put-at acts b a o y) ∙ is)
    | inr y ↦ h a act (sym (put-other acts b a o y) ∙ is)
  ]

  home-none : (n : ℕ) (act : Act C) → None ≡ Some act → act.space.0 < n
  home-none n act is = absurd (none-some act is)

  home-holding : (n : ℕ) (held : Stopped C) (o : Option (Act C)) → ((act : Act C) → o ≡ Some act → act.space.0 < n)
      → (act : Act C) → holding held o ≡ Some act → act.space.0 < n
  home-holding n held None h act is = absurd (none-some act is)
  home-holding n held (Some x) h act is = subst (λ (y : Act C). y.space.0 < n) (same_Some (record x { held = Some held }) act is) (h x refl)

  home-taken : (n : ℕ) (o : Option (Act C)) → ((act : Act C) → o ≡ Some act → act.space.0 < n) → (act : Act C)
      → taken_from o ≡ Some act → act.space.0 < n
  home-taken n None h act is = absurd (none-some act is)
  home-taken n (Some x) h act is =
      subst (λ (y : Act C). y.space.0 < n) (same_Some (record x { held = None; taken = true }) act is) (h x refl)

  home-new : (n : ℕ) (s : SpaceNo) → s.0 < n → (act : Act C) → Some (runs_in s) ≡ Some act → act.space.0 < n
  home-new n s below act is = subst (λ (y : Act C). y.space.0 < n) (same_Some (runs_in s) act is) below

  home-aside : (n : ℕ) (acts : ℕ → Option (Act C)) (a : ActNo) (held : Stopped C) → AreHomed n acts
      → AreHomed n (put acts a.0 (holding held (acts a.0)))
  home-aside n acts a held h = home-put n acts a.0 (holding held (acts a.0)) h (home-holding n held (acts a.0) (λ act is. h a.0 act is))

  home-back : (n : ℕ) (list : List ActNo) (acts : ℕ → Option (Act C)) → AreHomed n acts → AreHomed n (without_acts list acts)
  home-back n [] acts h = h
  home-back n (a ∷ list) acts h = home-back n list (put acts a.0 None) (home-put n acts a.0 None h (home-none n))

  home-go_to_by : (n e : ℕ) (p : ProcNo) (s : SpaceNo) (a : ActNo) (owned up : Bool) (x : Scene C) → s.0 < n
      → AreHomed n x.state.acts → AreHomed n (go_to_by e p s a owned up x).state.acts
  home-go_to_by n e p s a owned false x below h = subst (λ (fs : ℕ → Option (Act C)). AreHomed n fs) (sym (same-leave e p s x).acts) h
  home-go_to_by n e p s a true true x below h = home-put n x.state.acts a.0 (Some (runs_in s)) h (home-new n s below)
  home-go_to_by n e p s a false true x below h = home-put n x.state.acts a.0 (Some (runs_in s)) h (home-new n s below)

  home-aim : (n e : ℕ) (p : ProcNo) (a : ActNo) (o : Option SpaceNo) (x : Scene C) → ((s : SpaceNo) → o ≡ Some s → s.0 < n)
      → AreHomed n x.state.acts → AreHomed n (go_to_aim e p a o x).state.acts
  home-aim n e p a None x below h = h
  home-aim n e p a (Some s) x below h = home-go_to_by n e p s a (is_aim s.0 (owner_of x.state p)) (can_upcall x.state s) x (below s refl) h

  home-stopped : (n e : ℕ) (p : ProcNo) (o : Option SpaceNo) (l : Option ActNo) (held : Option (Stopped C)) (x : Scene C)
      → AreHomed n x.state.acts → AreHomed n (stopped e p o l held x).state.acts
  home-stopped n e p (Some s) (Some a) (Some held) x h = home-aside n x.state.acts a held h
  home-stopped n e p _ _ _ x h = h

  home-told : (n e : ℕ) (p : ProcNo) (s : SpaceNo) (a : ActNo) (b : Bool) (x : Scene C) → s.0 < n → AreHomed n x.state.acts
      → AreHomed n (told_or_left e p s a b x).state.acts
  home-told n e p s a true x below h = home-put n x.state.acts a.0 (Some (runs_in s)) h (home-new n s below)
  home-told n e p s a false x below h = subst (λ (fs : ℕ → Option (Act C)). AreHomed n fs) (sym (same-leave e p s x).acts) h

  home-blocked : (n e : ℕ) (p : ProcNo) (fresh : ActNo) (o : Option SpaceNo) (l : Option ActNo) (held : Stopped C) (len : ℕ)
      (page : Option ℕ) (x : Scene C) → ((s : SpaceNo) → o ≡ Some s → s.0 < n) → AreHomed n x.state.acts
      → AreHomed n (blocked_by e p fresh o l held len page x).state.acts
  home-blocked n e p fresh (Some s) (Some a) held len page x below h =
      home-told n e p s fresh (can_upcall x.state s) (block_begun e p s a held len page x) (below s refl)
      (home-aside n x.state.acts a held h)
  home-blocked n e p fresh _ _ held len page x below h = h

  home-gave : (n e : ℕ) (p : ProcNo) (o : Option SpaceNo) (x : Scene C) → AreHomed n x.state.acts
      → AreHomed n (gave_back e p o x).state.acts
  home-gave n e p None x h = h
  home-gave n e p (Some s) x h = home-back n (taken_of x.state s.0) x.state.acts h

  home-entered_as : (n e : ℕ) (p : ProcNo) (fresh : ActNo) (entry : Entry C) (x : Scene C) → AreSpaces n x.state.assign.owners
      → AreSpaces n x.state.assign.aims → AreHomed n x.state.acts
      → AreHomed n (entered_as e p fresh entry x).state.acts
  home-entered_as n e p fresh (Interrupt held) x owners aims h =
      home-aim n e p fresh (aim_of x.state p) _ (λ s is. aims p.0 s is)
      (home-stopped n e p (owner_of x.state p) (life_of x.state p) held (record x { state = with_line p None x.state }) h)
  home-entered_as n e p fresh (BlockEntry held len page) x owners aims h =
      home-blocked n e p fresh (owner_of x.state p) (life_of x.state p) held len page x (λ s is. owners p.0 s is) h
  home-entered_as n e p fresh (Complete io) x owners aims h =
      subst (λ (fs : ℕ → Option (Act C)). AreHomed n fs) (sym (same-over e p io (kind_at io.0 x.state.under_way) x).acts) h
  home-entered_as n e p fresh (MoreEntry i) x owners aims h =
      subst (λ (fs : ℕ → Option (Act C)). AreHomed n fs) (sym (same-more e p i (owner_of x.state p) x).acts) h
  home-entered_as n e p fresh IdleEntry x owners aims h =
      subst (λ (fs : ℕ → Option (Act C)). AreHomed n fs) (sym (same-idled e p (owner_of x.state p) x).acts) h
  home-entered_as n e p fresh GiveBackEntry x owners aims h = home-gave n e p (owner_of x.state p) x h
  home-entered_as n e p fresh (InterruptOwnEntry q) x owners aims h = h

  home-handed : (n : ℕ) (o : Option (Stopped C)) (a : ActNo) (k : KernelState C) → AreHomed n k.acts → AreHomed n (handed_by o a k).acts
  home-handed n None a k h = h
  home-handed n (Some held) a k h = home-put n k.acts a.0 (taken_from (k.acts a.0)) h (home-taken n (k.acts a.0) (λ act is. h a.0 act is))

  home-fetched : (n : ℕ) (note : Note) (k : KernelState C) → AreHomed n k.acts → AreHomed n (fetched note k).acts
  home-fetched n (Preempted a) k h = home-handed n (held_of (k.acts a.0)) a k h
  home-fetched n (Unblocked a) k h = home-handed n (held_of (k.acts a.0)) a k h
  home-fetched n _ k h = h

module _ {U C : Type 0} (f : Calls U C) where
  abbrev IsHomed : ℕ → Machine U C → Type 0
  IsHomed n m = AreHomed n m.kernel.acts

  home-called : (n : ℕ) (call : U → C → U × C) (p : ProcNo) (s : SpaceNo) (u : Option U) (c : Option C) (m : Machine U C)
      → IsHomed n m → IsHomed n (called_by call p s u c m)
  home-called n call p s None c m h = h
  home-called n call p s (Some u) None m h = h
  home-called n call p s (Some u) (Some c) m h = h

  home-begun : (n : ℕ) (p : ProcNo) (s : SpaceNo) (seen : Rattle.sa_base.specs.declared.context.Seen.Seen) (u : Option U)
      (m : Machine U C) → IsHomed n m → IsHomed n (context_begun_by f p s seen u m)
  home-begun n p s seen None m h = h
  home-begun n p s seen (Some u) m h = h

  home-told_all : (n : ℕ) (p : ProcNo) (s : SpaceNo) (notes : List Note) (m : Machine U C) → IsHomed n m
      → IsHomed n (told_all f p s notes m)
  home-told_all n p s [] m h = h
  home-told_all n p s (note ∷ notes) m h =
      let k = record m.kernel { telling = notes } in
      let next : Machine U C = record m { kernel = fetched note k } in
      home-told_all n p s notes (told_one f p s note notes m)
      (home-called n (λ u c. f.told u c note (held_for k note)) p s (user_of next s) (context_on next p) next (home-fetched n note k h))

  home-answered : (n : ℕ) (p : ProcNo) (o : Option SpaceNo) (m : Machine U C) → IsHomed n m → IsHomed n (answered_in f p o m)
  home-answered n p None m h = h
  home-answered n p (Some s) m h = home-called n (λ u c. f.answered u (seen_on m p s) c) p s (user_of m s) (context_on m p) m h

  home-welcomed : (n : ℕ) (p : ProcNo) (o : Option SpaceNo) (m : Machine U C) → IsHomed n m → IsHomed n (welcomed_in f p o m)
  home-welcomed n p None m h = h
  home-welcomed n p (Some s) m h =
      home-answered n p (Some s) (told_all f p s m.kernel.telling (context_begun f p s m))
      (home-told_all n p s m.kernel.telling (context_begun f p s m) (home-begun n p s (seen_on m p s) (user_of m s) m h))

  home-if : (n : ℕ) (p : ProcNo) (b : Bool) (m : Machine U C) → IsHomed n m → IsHomed n (welcomed_if f p b m)
  home-if n p false m h = h
  home-if n p true m h = home-welcomed n p (owner_of m.kernel p) m h

  home-kernel : (n : ℕ) (p : ProcNo) (fresh : ActNo) (entry : Entry C) (m : Machine U C) → AreSpaces n m.kernel.assign.owners
      → AreSpaces n m.kernel.assign.aims → IsHomed n m → IsHomed n (kernel_entered p fresh entry m)
  home-kernel n p fresh entry m owners aims h =
      let x = entered_as m.event p fresh entry (scene_of m) in
      subst (λ (fs : ℕ → Option (Act C)). AreHomed n fs) (sym (same-closed m.event p x).acts)
      (home-entered_as n m.event p fresh entry (scene_of m) owners aims h)

  home-entered : (n : ℕ) (p : ProcNo) (fresh : ActNo) (entry : Entry C) (m : Machine U C) → AreSpaces n m.kernel.assign.owners
      → AreSpaces n m.kernel.assign.aims → IsHomed n m → IsHomed n (entered_on f p fresh entry m)
  home-entered n p fresh entry m owners aims h =
      home-if n p (upcalls m.kernel p entry) (kernel_entered p fresh entry m) (home-kernel n p fresh entry m owners aims h)

  home-sliced : (n : ℕ) (p : ProcNo) (b : Bool) (m : Machine U C) → IsHomed n m → IsHomed n (sliced_if p b m)
  home-sliced n p false m h = h
  home-sliced n p true m h = subst (λ (fs : ℕ → Option (Act C)). AreHomed n fs) (sym (same-closed m.event p (scene_of m)).acts) h

  home-blocks : (n : ℕ) (p : ProcNo) (fresh : ActNo) (len : ℕ) (page : Option ℕ) (held : Option (Stopped C)) (m : Machine U C)
      → AreSpaces n m.kernel.assign.owners → AreSpaces n m.kernel.assign.aims → IsHomed n m
      → IsHomed n (blocks_by f p fresh len page held m)
  home-blocks n p fresh len page None m owners aims h = h
  home-blocks n p fresh len page (Some held) m owners aims h = home-entered n p fresh (BlockEntry held len page) m owners aims h

  home-hinted : (n : ℕ) (p : ProcNo) (fresh : ActNo) (entry : Entry C) (m : Machine U C) → AreSpaces n m.kernel.assign.owners
      → AreSpaces n m.kernel.assign.aims → IsHomed n m → IsHomed n (hinted f p fresh entry m)
  home-hinted n p fresh entry m owners aims h =
      home-answered n p (owner_of (kernel_entered p fresh entry m).kernel p) (kernel_entered p fresh entry m)
      (home-kernel n p fresh entry m owners aims h)

  home-asked : (n : ℕ) (p : ProcNo) (fresh : ActNo) (answer : Step) (m : Machine U C) → AreSpaces n m.kernel.assign.owners
      → AreSpaces n m.kernel.assign.aims → IsHomed n m → IsHomed n (asked f p fresh answer m)
  home-asked n p fresh Did m owners aims h = home-sliced n p (ends_slice m) m h
  home-asked n p fresh (BlockAsked len page) m owners aims h =
      home-blocks n p fresh len page (stopped_in f m p (owner_of m.kernel p)) (without_context p m) owners aims h
  home-asked n p fresh (More i) m owners aims h = home-hinted n p fresh (MoreEntry i) m owners aims h
  home-asked n p fresh IdleAsked m owners aims h = home-hinted n p fresh IdleEntry m owners aims h
  home-asked n p fresh GiveBackAsked m owners aims h = home-hinted n p fresh GiveBackEntry m owners aims h
  home-asked n p fresh (InterruptOwn q) m owners aims h = home-hinted n p fresh (InterruptOwnEntry q) m owners aims h

  kernel-stepped : (p : ProcNo) (s : SpaceNo) (seen : Rattle.sa_base.specs.declared.context.Seen.Seen) (u : Option U)
      (c : Option C) (m : Machine U C) → (stepped_by f p s seen u c m).0.kernel ≡ m.kernel
  kernel-stepped p s seen None c m = refl
  kernel-stepped p s seen (Some u) None m = refl
  kernel-stepped p s seen (Some u) (Some c) m = refl

  home-owned : (n : ℕ) (p : ProcNo) (fresh : ActNo) (o : Option SpaceNo) (m : Machine U C) → AreSpaces n m.kernel.assign.owners
      → AreSpaces n m.kernel.assign.aims → IsHomed n m → IsHomed n (turned_owned f p fresh o m)
  home-owned n p fresh None m owners aims h = home-sliced n p (ends_slice (ticked p m)) (ticked p m) h
  home-owned n p fresh (Some s) m owners aims h =
      let same = sym (kernel-stepped p s (seen_on m p s) (user_of m s) (context_on m p) m) in
      home-asked n p fresh (stepped f p s m).1 (stepped f p s m).0
      (subst (λ (k : KernelState C). AreSpaces n k.assign.owners) same owners) (subst (λ (k : KernelState C). AreSpaces n k.assign.aims) same aims)
      (subst (λ (k : KernelState C). AreHomed n k.acts) same h)

  home-due : (n : ℕ) (p : ProcNo) (fresh : ActNo) (o : Option IoNo) (m : Machine U C) → AreSpaces n m.kernel.assign.owners
      → AreSpaces n m.kernel.assign.aims → IsHomed n m → IsHomed n (turned_due f p fresh o m)
  home-due n p fresh None m owners aims h = home-owned n p fresh (owner_of m.kernel p) m owners aims h
  home-due n p fresh (Some io) m owners aims h = home-entered n p fresh (Complete io) m owners aims h

  home-raised : (n : ℕ) (p : ProcNo) (fresh : ActNo) (o : Option ℕ) (m : Machine U C) → AreSpaces n m.kernel.assign.owners
      → AreSpaces n m.kernel.assign.aims → IsHomed n m → IsHomed n (turned_raised f p fresh o m)
  home-raised n p fresh None m owners aims h = home-due n p fresh (option_map io_no (due_of m.event m.kernel.under_way)) m owners aims h
  home-raised n p fresh (Some raised) m owners aims h =
      home-entered n p fresh (Interrupt (stopped_in f m p (owner_of m.kernel p))) (without_context p m) owners aims h

  home-more : (n i : ℕ) (m : Machine U C) → IsHomed n m → IsHomed n (more_events i m)
  home-more n zero m h = h
  home-more n (suc i) m h = home-more n i (next_event m) h

  home-gone_by : (n : ℕ) (p : ProcNo) (s : SpaceNo) (seen : Rattle.sa_base.specs.declared.context.Seen.Seen) (i : ℕ)
      (u : Option U) (c : Option C) (m : Machine U C) → IsHomed n m → IsHomed n (gone_by f p s seen i u c m)
  home-gone_by n p s seen i None c m h = h
  home-gone_by n p s seen i (Some u) None m h = h
  home-gone_by n p s seen i (Some u) (Some c) m h = h

  home-gone : (n : ℕ) (p : ProcNo) (i : ℕ) (o : Option SpaceNo) (m : Machine U C) → IsHomed n m → IsHomed n (gone_in f p i o m)
  home-gone n p i None m h = h
  home-gone n p i (Some s) m h = home-gone_by n p s (seen_on m p s) i (user_of m s) (context_on m p) m h

  home-committed : (n : ℕ) (p : ProcNo) (i : ℕ) (m : Machine U C) → IsHomed n m → IsHomed n (committed f p i m)
  home-committed n p zero m h = h
  home-committed n p (suc i) m h =
      let x : Machine U C = next_event m in
      let y : Machine U C = more_events i (gone_in f p (suc i) (owner_of x.kernel p) x) in
      home-sliced n p (ends_slice y) y
      (home-more n i (gone_in f p (suc i) (owner_of x.kernel p) x) (home-gone n p (suc i) (owner_of x.kernel p) x h))

  -- Each move keeps them so.
  pub home-move : (n : ℕ) (m : Machine U C) (move : Move) (after : Machine U C) → AreSpaces n m.kernel.assign.owners
      → AreSpaces n m.kernel.assign.aims → IsMove f m move after → AreHomed n m.kernel.acts → AreHomed n after.kernel.acts
  home-move n m (turn p) after owners aims made h =
      subst (λ (z : Machine U C). IsHomed n z) (sym made.1.is)
      (home-raised n p made.1.fresh (line_of m.kernel p) (next_event m) owners aims h)
  home-move n m (commit p i) after owners aims made h = subst (λ (z : Machine U C). IsHomed n z) (sym made.1) (home-committed n p i m h)
