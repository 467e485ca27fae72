-- What a turn and a commit do to the lines.
use Rattle.std.proofs.Common.{◌≡◌, ℕ, zero, suc, ◌+◌, Bool, true, false, inl, Option, Some, None, List, [], ◌∷◌, refl, sym, ap, subst, ◌∙◌, arith}
use Rattle.sa_base.specs.declared.number.ProcNo.{ProcNo}
use Rattle.sa_base.specs.declared.number.SpaceNo.{SpaceNo}
use Rattle.sa_base.specs.declared.number.ActNo.{ActNo}
use Rattle.sa_base.specs.declared.number.IoNo.{IoNo}
use Rattle.sa_base.specs.declared.context.Seen.{Seen}
use Rattle.sa_base.specs.declared.context.Stopped.{Stopped}
use Rattle.sa_base.specs.declared.record.Note.{Note}
use Rattle.sa_abstract.specs.Calls.{Calls}
use Rattle.sa_abstract.specs.declared.answer.Step.{Step}
use Rattle.sa_abstract.specs.declared.answer.Step.TheVariants.{Did, Block, More, Idle, GiveBack, InterruptOwn}
use Rattle.sa_assign.specs.AssignView.{AssignView}
use Rattle.sa_assign.specs.Reaim.{line_at}
use Rattle.sa_kernel_model.specs.declared.entry.Entry.{Entry}
use Rattle.sa_kernel_model.specs.declared.entry.Entry.TheVariants.{Interrupt, Block as BlockEntry, Complete, More as MoreEntry, Idle as IdleEntry, GiveBack as GiveBackEntry, InterruptOwn as InterruptOwnEntry}
use Rattle.sa_kernel_model.specs.State.{KernelState, owner_of}
use Rattle.sa_kernel_model.specs.Entries.{fetched}
use Rattle.sa_kernel_model.specs.Entering.{upcalls}
use Rattle.sa_core_model.specs.Machine.{Machine, scene_of, user_of, context_on, seen_on, without_context, called_by, context_begun, context_begun_by, answered, stopped_in, stepped, stepped_by, gone_by}
use Rattle.sa_core_model.specs.Turn.{next_event, more_events, ticked, ends_slice, sliced, sliced_if, kernel_entered, told_one, told_all, welcomed_in, welcomed_if, entered_on, answered_in, hinted, blocked_by, blocked, asked, turned_owned, turned_due, turned_raised, turned, gone_in, committed}
use Rattle.sa_seat.proofs.Lines.{Tells, tells-same, tells-more, tells-again, tells-closed, tells-entered, same-fetched}

module _ {U C : Type 0} where
  -- within one event
  pub record Says (m after : Machine U C) : Type 0 where
    pub event : after.event ≡ m.event
    pub tells : Tells m.event (scene_of m) (scene_of after)

  says-self : (m : Machine U C) → Says m m
  says-self m = record { event = refl; tells = tells-same m.event (scene_of m) (scene_of m) refl refl }

  says-again : (a b c : Machine U C) → Says a b → Says b c → Says a c
  says-again a b c h k = record {
    event = k.event ∙ h.event;
    tells = tells-again a.event (scene_of a) (scene_of b) (scene_of c) h.tells (subst (λ (e : ℕ). Tells e (scene_of b) (scene_of c)) h.event k.tells);
  }

  says-called_by : (call : U → C → U × C) (p : ProcNo) (s : SpaceNo) (u : Option U) (c : Option C) (m : Machine U C) → Says m (called_by call p s u c m)
  says-called_by call p s (Some u) (Some c) m = record { event = refl; tells = tells-same m.event (scene_of m) _ refl refl }
  says-called_by call p s _ _ m = says-self m

  says-sliced_if : (p : ProcNo) (b : Bool) (m : Machine U C) → Says m (sliced_if p b m)
  says-sliced_if p false m = says-self m
  says-sliced_if p true m = record { event = refl; tells = tells-closed m.event p (scene_of m) }

  says-sliced : (p : ProcNo) (m : Machine U C) → Says m (sliced p m)
  says-sliced p m = says-sliced_if p (ends_slice m) m

  says-kernel_entered : (p : ProcNo) (a : ActNo) (entry : Entry C) (m : Machine U C) → Says m (kernel_entered p a entry m)
  says-kernel_entered p a entry m = record { event = refl; tells = tells-entered m.event p a entry (scene_of m) }

  says-ticked : (p : ProcNo) (m : Machine U C) → Says m (ticked p m)
  says-ticked p m = record { event = refl; tells = tells-more m.event (scene_of m) _ _ refl refl }

  says-without : (p : ProcNo) (m : Machine U C) → Says m (without_context p m)
  says-without p m = record { event = refl; tells = tells-same m.event (scene_of m) _ refl refl }

module _ {U C : Type 0} (f : Calls U C) where
  says-begun_by : (p : ProcNo) (s : SpaceNo) (seen : Seen) (u : Option U) (m : Machine U C) → Says m (context_begun_by f p s seen u m)
  says-begun_by p s seen None m = says-self m
  says-begun_by p s seen (Some u) m = record { event = refl; tells = tells-same m.event (scene_of m) _ refl refl }

  says-answered : (p : ProcNo) (s : SpaceNo) (m : Machine U C) → Says m (answered f p s m)
  says-answered p s m = says-called_by (λ u c. f.answered u (seen_on m p s) c) p s (user_of m s) (context_on m p) m

  says-told_one : (p : ProcNo) (s : SpaceNo) (note : Note) (notes : List Note) (m : Machine U C) → Says m (told_one f p s note notes m)
  says-told_one p s note notes m =
      let k : KernelState C = record m.kernel { telling = notes } in
      let here : Machine U C = record m { kernel = fetched note k } in
      says-again m here (told_one f p s note notes m)
      record { event = refl; tells = tells-same m.event (scene_of m) (scene_of here) refl (ap (λ (a : AssignView). a.lines) (same-fetched note k)) }
      (says-called_by _ p s (user_of here s) (context_on here p) here)

  says-told_all : (p : ProcNo) (s : SpaceNo) (notes : List Note) (m : Machine U C) → Says m (told_all f p s notes m)
  says-told_all p s [] m = says-self m
  says-told_all p s (note ∷ notes) m =
      let one = told_one f p s note notes m in
      says-again m one (told_all f p s notes one) (says-told_one p s note notes m) (says-told_all p s notes one)

  says-welcomed_in : (p : ProcNo) (o : Option SpaceNo) (m : Machine U C) → Says m (welcomed_in f p o m)
  says-welcomed_in p None m = says-self m
  says-welcomed_in p (Some s) m =
      let one = context_begun f p s m in
      let two = told_all f p s m.kernel.telling one in
      says-again m two (answered f p s two)
      (says-again m one two (says-begun_by p s (seen_on m p s) (user_of m s) m) (says-told_all p s m.kernel.telling one))
      (says-answered p s two)

  says-welcomed_if : (p : ProcNo) (b : Bool) (m : Machine U C) → Says m (welcomed_if f p b m)
  says-welcomed_if p false m = says-self m
  says-welcomed_if p true m = says-welcomed_in p (owner_of m.kernel p) m

  says-entered_on : (p : ProcNo) (a : ActNo) (entry : Entry C) (m : Machine U C) → Says m (entered_on f p a entry m)
  says-entered_on p a entry m =
      let one = kernel_entered p a entry m in
      says-again m one _ (says-kernel_entered p a entry m) (says-welcomed_if p (upcalls m.kernel p entry) one)

  says-answered_in : (p : ProcNo) (o : Option SpaceNo) (m : Machine U C) → Says m (answered_in f p o m)
  says-answered_in p None m = says-self m
  says-answered_in p (Some s) m = says-answered p s m

  says-hinted : (p : ProcNo) (a : ActNo) (entry : Entry C) (m : Machine U C) → Says m (hinted f p a entry m)
  says-hinted p a entry m =
      let one = kernel_entered p a entry m in
      says-again m one _ (says-kernel_entered p a entry m) (says-answered_in p (owner_of one.kernel p) one)

  says-blocked_by : (p : ProcNo) (a : ActNo) (len : ℕ) (page : Option ℕ) (held : Option (Stopped C)) (m : Machine U C)
      → Says m (blocked_by f p a len page held m)
  says-blocked_by p a len page None m = says-self m
  says-blocked_by p a len page (Some held) m = says-entered_on p a (BlockEntry held len page) m

  says-blocked : (p : ProcNo) (a : ActNo) (len : ℕ) (page : Option ℕ) (m : Machine U C) → Says m (blocked f p a len page m)
  says-blocked p a len page m =
      says-again m (without_context p m) _ (says-without p m) (says-blocked_by p a len page (stopped_in f m p (owner_of m.kernel p)) (without_context p m))

  says-asked : (p : ProcNo) (a : ActNo) (step : Step) (m : Machine U C) → Says m (asked f p a step m)
  says-asked p a Did m = says-sliced p m
  says-asked p a (Block len page) m = says-blocked p a len page m
  says-asked p a (More n) m = says-hinted p a (MoreEntry n) m
  says-asked p a Idle m = says-hinted p a IdleEntry m
  says-asked p a GiveBack m = says-hinted p a GiveBackEntry m
  says-asked p a (InterruptOwn q) m = says-hinted p a (InterruptOwnEntry q) m

  says-stepped_by : (p : ProcNo) (s : SpaceNo) (seen : Seen) (u : Option U) (c : Option C) (m : Machine U C) → Says m (stepped_by f p s seen u c m).0
  says-stepped_by p s seen (Some u) (Some c) m = record { event = refl; tells = tells-more m.event (scene_of m) _ _ refl refl }
  says-stepped_by p s seen _ _ m = says-self m

  says-turned_owned : (p : ProcNo) (a : ActNo) (o : Option SpaceNo) (m : Machine U C) → Says m (turned_owned f p a o m)
  says-turned_owned p a None m = says-again m (ticked p m) _ (says-ticked p m) (says-sliced p (ticked p m))
  says-turned_owned p a (Some s) m =
      let r = stepped f p s m in
      says-again m r.0 _ (says-stepped_by p s (seen_on m p s) (user_of m s) (context_on m p) m) (says-asked p a r.1 r.0)

  says-turned_due : (p : ProcNo) (a : ActNo) (o : Option IoNo) (m : Machine U C) → Says m (turned_due f p a o m)
  says-turned_due p a None m = says-turned_owned p a (owner_of m.kernel p) m
  says-turned_due p a (Some io) m = says-entered_on p a (Complete io) m

  says-turned_raised : (p : ProcNo) (a : ActNo) (o : Option ℕ) (m : Machine U C) → Says m (turned_raised f p a o m)
  says-turned_raised p a None m = says-turned_due p a _ m
  says-turned_raised p a (Some e) m =
      says-again m (without_context p m) _ (says-without p m) (says-entered_on p a (Interrupt (stopped_in f m p (owner_of m.kernel p))) (without_context p m))

  -- a turn is an event by itself
  pub tells-turned : (p : ProcNo) (a : ActNo) (m : Machine U C)
      → ((turned f p a m).event ≡ m.event + 1) × Tells (m.event + 1) (scene_of m) (scene_of (turned f p a m))
  tells-turned p a m =
      let n = next_event m in
      let h = says-turned_raised p a _ n in
      (h.event, tells-again n.event (scene_of m) (scene_of n) _ (tells-same n.event (scene_of m) (scene_of n) refl refl) h.tells)

  says-gone_by : (p : ProcNo) (s : SpaceNo) (seen : Seen) (n : ℕ) (u : Option U) (c : Option C) (m : Machine U C) → Says m (gone_by f p s seen n u c m)
  says-gone_by p s seen n (Some u) (Some c) m = record { event = refl; tells = tells-more m.event (scene_of m) _ _ refl refl }
  says-gone_by p s seen n _ _ m = says-self m

  says-gone_in : (p : ProcNo) (n : ℕ) (o : Option SpaceNo) (m : Machine U C) → Says m (gone_in f p n o m)
  says-gone_in p n None m = says-self m
  says-gone_in p n (Some s) m = says-gone_by p s (seen_on m p s) n (user_of m s) (context_on m p) m

  -- more events begin

  event-more : (n : ℕ) (m : Machine U C) → (more_events n m).event ≡ m.event + n
  event-more zero m = omega arith
  event-more (suc n) m = event-more n (next_event m) ∙ omega arith

  tells-more_events : (e n : ℕ) (m : Machine U C) → Tells e (scene_of m) (scene_of (more_events n m))
  tells-more_events e zero m = tells-same e (scene_of m) (scene_of m) refl refl
  tells-more_events e (suc n) m =
      tells-again e (scene_of m) (scene_of (next_event m)) _ (tells-same e (scene_of m) (scene_of (next_event m)) refl refl)
      (tells-more_events e n (next_event m))

  -- nothing but the closing raises a line in a commit
  tells-any : (d e : ℕ) (m after : Machine U C) → ((q k : ℕ) → line_at after.kernel.assign.lines q ≡ Some k → line_at m.kernel.assign.lines q ≡ Some k)
      → Tells d (scene_of m) (scene_of after) → Tells e (scene_of m) (scene_of after)
  tells-any d e m after same h = record { kept = h.kept; raised = λ q k is. inl (same q k is) }

  lines-gone_by : (p : ProcNo) (s : SpaceNo) (seen : Seen) (n : ℕ) (u : Option U) (c : Option C) (m : Machine U C)
      → (gone_by f p s seen n u c m).kernel ≡ m.kernel
  lines-gone_by p s seen n None c m = refl
  lines-gone_by p s seen n (Some u) None m = refl
  lines-gone_by p s seen n (Some u) (Some c) m = refl

  lines-gone_in : (p : ProcNo) (n : ℕ) (o : Option SpaceNo) (m : Machine U C) → (gone_in f p n o m).kernel ≡ m.kernel
  lines-gone_in p n None m = refl
  lines-gone_in p n (Some s) m = lines-gone_by p s (seen_on m p s) n (user_of m s) (context_on m p) m

  pub tells-committed : (p : ProcNo) (n : ℕ) (m : Machine U C)
      → ((committed f p (suc n) m).event ≡ m.event + suc n) × Tells (m.event + suc n) (scene_of m) (scene_of (committed f p (suc n) m))
  tells-committed p n m =
      let first = next_event m in
      let e = m.event + suc n in
      let o = owner_of first.kernel p in
      let went = gone_in f p (suc n) o first in
      let all = more_events n went in
      let goes = says-gone_in p (suc n) o first in
      let at : all.event ≡ e = event-more n went ∙ ap (λ (i : ℕ). i + n) goes.event ∙ omega arith in
      let same : (q k : ℕ) → line_at went.kernel.assign.lines q ≡ Some k → line_at first.kernel.assign.lines q ≡ Some k =
      λ q k is. ap (λ (l : KernelState C). line_at l.assign.lines q) (sym (lines-gone_in p (suc n) o first)) ∙ is in
      let end = says-sliced p all in
      let one : Tells e (scene_of m) (scene_of first) = tells-same e (scene_of m) (scene_of first) refl refl in
      let two : Tells e (scene_of m) (scene_of went) =
      tells-again e (scene_of m) (scene_of first) (scene_of went) one (tells-any first.event e first went same goes.tells) in
      let three : Tells e (scene_of m) (scene_of all) = tells-again e (scene_of m) (scene_of went) (scene_of all) two (tells-more_events e n went) in (
        end.event ∙ at,
        tells-again e (scene_of m) (scene_of all) (scene_of (sliced p all)) three
            (subst (λ (i : ℕ). Tells i (scene_of all) (scene_of (sliced p all))) at end.tells),
      )
