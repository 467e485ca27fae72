-- A step, and a notice, keep all standing.
use Rattle.std.proofs.Common.{◌≡◌, ℕ, ◌+◌, ◌≤◌, ◌<◌, Bool, true, false, not, ◌&&◌, nat_lt, length, Option, Some, None, slice_get, min, refl, sym, ap, ◌∙◌, subst, arith}
use Rattle.std.proofs.lemmas.Bool.{ltb-true}
use Rattle.sa_base.specs.declared.number.ThreadNo.{ThreadNo}
use Rattle.sa_base.specs.declared.limits.TheConstants.{MAX_EVENTS}
use Rattle.sa_base.specs.declared.context.Seen.{Seen}
use Rattle.sa_base.specs.declared.context.Stopped.{Stopped}
use Rattle.sa_base.specs.declared.record.Note.{Note}
use Rattle.sa_base.specs.declared.record.Note.TheVariants.{Preempted, Unblocked}
use Rattle.sa_instr.specs.declared.limits.TheConstants.{MAX_PATIENCE}
use Rattle.sa_abstract.specs.Setting.{Setting}
use Rattle.sa_abstract.specs.Calls.{Contexts, Stepped}
use Rattle.sa_abstract.specs.Keeps.{IsSeen, IsHandedOver, IsHanded, IsStepped, told_contexts}
use Rattle.sa_lemmas.specs.Function.{put}
use Rattle.sa_lemmas.proofs.FunctionUpdates.{put-same, put-put, put-self}
use Rattle.sa_lists.specs.ReadyView.{list_of, is_locked, sought}
use Rattle.sa_lists.proofs.Changes.{home-inside}
use Rattle.sa_lists.proofs.Rounds.{sought-first}
use Rattle.sa_code.specs.declared.state.Frame.{Frame}
use Rattle.sa_package_model.specs.declared.context.Context.{Context}
use Rattle.sa_package_model.specs.declared.context.ContextState.{ContextState}
use Rattle.sa_package_model.specs.declared.context.ContextState.TheVariants.{Code, Work, Hint, Return, User, Look}
use Rattle.sa_package_model.specs.declared.package.Package.{Package}
use Rattle.sa_package_model.specs.Context.{carried_by, section_in, has_bulk}
use Rattle.sa_package_model.specs.Rules.{own_list, at_state, owed, took_over, looked_by, is_idle}
use Rattle.sa_package_model.specs.Step.{told_of, told, worked, hinted, if_owed, if_bulk, resettled, stepped_at, stepped}
use Rattle.sa_package_model.specs.Stands.{IsStanding}
use Rattle.sa_package_model.proofs.Changing.{IsChange, still-change, change-stands, later-stands, join-stands}
use Rattle.sa_package_model.proofs.Parts.{parts_later}
use Rattle.sa_package_model.proofs.Asking.{step-asks}
use Rattle.sa_package_model.proofs.Saying.{step-own}
use Rattle.sa_package_model.proofs.CodeRule.{coded-change}
use Rattle.sa_package_model.proofs.WorkRule.{continued-change, pushing-change, popping-change, between-change, settled-change}
use Rattle.sa_package_model.proofs.UseRule.{used-change}
use Rattle.sa_package_model.proofs.TakeRule.{took_over-join}
use Rattle.sa_package_model.proofs.Able.{step_can}

open_filled : (held : Bool) (n : ℕ) → not held && nat_lt 0 n ≡ true → 0 < n
open_filled true n e = absurd cc
open_filled false n e = ltb-true 0 n e

module _ (s : Setting) (e : ℕ) (u : Package) (cs : Contexts Context) (h : IsStanding s e u cs) (a : ℕ) (c : Context) (is : cs a ≡ Some c) where
  -- before the rules: the context settles again, or stays
  stays : IsChange s e u u (Some c) c
  stays = still-change s e u cs h a c is

  owed_change : (seen : Seen) (t : Option ThreadNo) → c.state ≡ Hint t → (more : Option ℕ) → IsChange s e u u (Some c) (if_owed u seen c t more)
  owed_change seen t at (Some n) = stays
  owed_change seen t at None = settled-change s e u cs h a c is t (ap section_in at) (ap carried_by at) seen

  bulk_change : (seen : Seen) → c.state ≡ Return → (bulk : Bool) → IsChange s e u u (Some c) (if_bulk u seen c bulk)
  bulk_change seen at true = stays
  bulk_change seen at false = settled-change s e u cs h a c is None (ap section_in at) (ap carried_by at) seen

  resettled_stands : (seen : Seen) (state : ContextState) → c.state ≡ state → IsStanding s e u (put cs a (Some (resettled u seen c state)))
  resettled_stands seen (Hint t) at = change-stands s e u cs h e a u (Some c) (if_owed u seen c t (owed u seen)) is (owed_change seen t at (owed u seen))
  resettled_stands seen Return at = change-stands s e u cs h e a u (Some c) (if_bulk u seen c (has_bulk seen)) is (bulk_change seen at (has_bulk seen))
  resettled_stands seen _ at = change-stands s e u cs h e a u (Some c) c is stays

  -- a change, and then a later event
  then_later : (f : ℕ) (v : Package) (new : Context) → e ≤ f → IsChange s e u v (Some c) new → IsStanding s f v (put cs a (Some new))
  then_later f v new later change =
      let k = change-stands s e u cs h e a v (Some c) new is change in
      later-stands s e v (put cs a (Some new)) k f (parts_later v.def v.processors e f v.shared k.parts later)

  -- the rules
  module _ (seen : Seen) (sees : IsSeen s seen) (later : e < seen.event) where
    abbrev Stands : Stepped Package Context → Type 0
    Stands r = IsStanding s seen.event r.user (put cs a (Some r.ctx))

    proc_inside : (own_list u seen.proc).0 < length u.shared.state.lists.lists
    proc_inside = home-inside u.shared.state.lists u.processors seen.proc.0 h.parts.lists (let processors = h.made.processors in omega arith)

    unchanged : IsStanding s seen.event u (put cs a (Some c))
    unchanged = then_later seen.event u c (omega arith) stays

    work_stands : (t : Option ThreadNo) → c.state ≡ Work t → (first : Option Frame) → slice_get c.sections 0 ≡ first → (w : Option ThreadNo) → c.work ≡ w
        → Stands (worked u seen c first w)
    work_stands t at (Some f) sections w work =
        then_later seen.event (worked u seen c (Some f) w).user (worked u seen c (Some f) w).ctx (omega arith)
        (continued-change s e u cs h a c is t (ap section_in at) (ap carried_by at) f sections)
    work_stands t at None sections (Some n) work =
        then_later seen.event (worked u seen c None (Some n)).user (worked u seen c None (Some n)).ctx (omega arith)
        (pushing-change s e u cs h a c is t (ap section_in at) (ap carried_by at) seen n proc_inside work)
    work_stands t at None sections None work = unchanged

    hint_stands : (t : Option ThreadNo) → c.state ≡ Hint t → (more : Option ℕ) → Stands (hinted u c more)
    hint_stands t at (Some n) = unchanged
    hint_stands t at None = unchanged

    look_stands : (looks : ℕ) → c.state ≡ Look looks → (idle : Bool) (l : Option ℕ) → sought u.shared.state.lists (own_list u seen.proc).0 ≡ l
        → Stands (looked_by u seen c looks idle l)
    look_stands looks at idle (Some l) found =
        let first = sought-first u.shared.state.lists (own_list u seen.proc).0 l proc_inside found in
        let some = open_filled (is_locked u.shared.state.lists l) (length (list_of u.shared.state.lists l)) first.here in
        then_later seen.event (looked_by u seen c looks idle (Some l)).user (looked_by u seen c looks idle (Some l)).ctx (omega arith)
        (popping-change s e u cs h a c is None (ap section_in at) (ap carried_by at) seen l first.inside some refl)
    look_stands looks at true None found = unchanged
    look_stands looks at false None found =
        let more = Look (min (looks + 1) MAX_PATIENCE) in
        then_later seen.event u (at_state c more) (omega arith)
        (between-change s e u cs h a c is None (ap section_in at) (ap carried_by at) more (record { section = refl; carries = refl; is = omega arith }))

    at_stands : (state : ContextState) → c.state ≡ state → Stands (stepped_at u seen c state)
    at_stands (Code f) at =
        then_later seen.event (stepped_at u seen c (Code f)).user (stepped_at u seen c (Code f)).ctx (omega arith) (coded-change s e u cs h a c is f at seen)
    at_stands (Work t) at = work_stands t at (slice_get c.sections 0) refl c.work refl
    at_stands (Hint t) at = hint_stands t at (owed u seen)
    at_stands Return at = unchanged
    at_stands (User t) at =
        change-stands s e u cs h seen.event a (stepped_at u seen c (User t)).user (Some c) (stepped_at u seen c (User t)).ctx is
        (used-change s e u cs h a c is t at seen later)
    at_stands (Look looks) at = look_stands looks at (is_idle u seen looks) (sought u.shared.state.lists (own_list u seen.proc).0) refl

-- A STEP
module _ (s : Setting) (e : ℕ) (u : Package) (cs : Contexts Context) (a : ℕ) (c : Context) (seen : Seen) (h : IsStanding s e u cs) (is : cs a ≡ Some c)
    (sees : IsSeen s seen) (later : e < seen.event) where
  step_stands : IsStanding s seen.event (stepped u seen c).user (put cs a (Some (stepped u seen c).ctx))
  step_stands =
      let d = resettled u seen c c.state in
      let new = (stepped u seen c).ctx in
      let k = resettled_stands s e u cs h a c is seen c.state refl in
      let there = at_stands s e u (put cs a (Some d)) k a d (put-same cs a (Some d)) seen sees later d.state refl in
      subst (λ xs. IsStanding s seen.event (stepped u seen c).user xs) (put-put cs a (Some d) (Some new)) there

  pub steps_well : seen.event ≤ MAX_EVENTS → IsStepped IsStanding s seen cs a (stepped u seen c)
  steps_well within =
      let own = step-own s u seen h.made c in
      record {
        value = step_stands;
        asked = step-asks s u seen h.made c (step_can s e u cs h a c is seen.event later within seen sees);
        own = own.0;
        few = let two = own.1 in omega arith;
      }

-- A NOTICE
module _ (s : Setting) (e : ℕ) (u : Package) (cs : Contexts Context) (h : IsStanding s e u cs) (a : ℕ) (c : Context) (is : cs a ≡ Some c) where
  unchanged_stands : IsStanding s e u (put cs a (Some c))
  unchanged_stands = subst (λ xs. IsStanding s e u xs) (sym (ap (put cs a) (sym is) ∙ put-self cs a)) h

  over_stands : (b : ℕ) (held : Option (Stopped Context)) → IsHandedOver cs a b held
      → IsStanding s e (told_of u c held).user (put (put cs a (Some (told_of u c held).ctx)) b None)
  over_stands b held handed =
      let d = handed.stopped.ctx in
      subst (λ o. IsStanding s e (told_of u c o).user (put (put cs a (Some (told_of u c o).ctx)) b None)) (sym handed.is)
      (join-stands s e u cs h e a b (took_over u c d).user c d (took_over u c d).ctx is handed.theirs handed.differ
      (took_over-join s e u cs h a b c d is handed.theirs handed.differ))

  pub told_stands : (note : Note) (held : Option (Stopped Context)) → IsHanded cs a note held
      → IsStanding s e (told u c note held).0 (told_contexts cs a (told u c note held).1 note)
  told_stands (Preempted b) held handed = over_stands b.0 held handed
  told_stands (Unblocked b) held handed = over_stands b.0 held handed
  told_stands _ held handed = unchanged_stands
