-- The law of an upcall's end: the context settles, and its life is in where that shows so.
use Rattle.std.proofs.Common.{◌≡◌, ℕ, ◌+◌, Bool, true, not, ◌||◌, ◌&&◌, List, [], ◌∷◌, Contains, Option, Some, None, option_map, is_none, refl, sym, ap, ◌∙◌, subst}
use Rattle.std.specs.Prelude.{nat_lt, min}
use Rattle.std.specs.List.{list_any}
use Rattle.std.proofs.lemmas.Option.{same_Some}
use Rattle.sa_base.specs.declared.context.Seen.{Seen}
use Rattle.sa_base.specs.declared.number.ActNo.{ActNo}
use Rattle.sa_base.specs.declared.number.SpaceNo.{SpaceNo}
use Rattle.sa_base.specs.declared.number.ThreadNo.{ThreadNo}
use Rattle.sa_base.specs.declared.record.Note.{Note}
use Rattle.sa_base.specs.declared.record.Note.TheVariants.{Add, Preempted, Blocked, Unblocked}
use Rattle.sa_base.specs.declared.record.Record.TheVariants as records
use Rattle.sa_lemmas.specs.Function.{put}
use Rattle.sa_spaces.specs.Workload.{WorkloadView}
use Rattle.sa_abstract.specs.Calls.{Contexts}
use Rattle.sa_abstract.specs.Setting.{Setting}
use Rattle.sa_driven_model.specs.Context.{settled}
use Rattle.sa_driven_model.specs.declared.context.DrivenContext.{DrivenContext}
use Rattle.sa_driven_model.specs.declared.space.DrivenSpace.{DrivenSpace}
use Rattle.sa_driven_model.specs.Stands.{driven_stands}
use Rattle.sa_driven_model.specs.Step.{answered_by, driven_calls}
use Rattle.sa_laws.specs.Any.{any, is_held_by, names_thread, is_handed, has_heard_hand, is_tied, is_inside_any}
use Rattle.sa_laws.specs.Event.{Event}
use Rattle.sa_laws.specs.History.{arisen}
use Rattle.sa_laws.specs.Life.{Life}
use Rattle.sa_laws.specs.Readings.{Readings, running_of, demand_of, many_taken, carried_by, stopped_thread, load_of, owner_of, untold_of}
use Rattle.sa_laws.specs.Record.{with_life}
use Rattle.sa_laws.specs.State.{space_at, thread_in, is_carried, is_due, active_threads}
use Rattle.sa_user_laws.specs.Moments.{AlikeButEnds, Sees, unended}
use Rattle.sa_user_laws.specs.Scene.{Holds as HoldsNow}
use Rattle.sa_fast_laws.proofs.relation.NoteLists.{notes-same}
use Rattle.sa_fast_laws.specs.Stage.{is_gone, is_running}
use Rattle.sa_driven_laws.specs.DrivenFits.{DrivenFits, driven_fits, driven_hears}
use Rattle.sa_driven_laws.proofs.Changed.{changed-holds, changed-rest}
use Rattle.sa_driven_laws.proofs.Inside.{inside-settled}
use Rattle.sa_driven_laws.proofs.Scenes.{runs-there}
use Rattle.sa_driven_laws.proofs.Turned.{remark}

any-same : {A : Type 0} (p q : A → Bool) (xs : List A) → ((x : A) → p x ≡ q x) → list_any p xs ≡ list_any q xs
any-same p q [] same = refl
any-same p q (x ∷ xs) same = ap (λ b. b || list_any p xs) (same x) ∙ ap (λ b. q x || b) (any-same p q xs same)

held-unended : (t : ThreadNo) (o : Option Life) → is_held_by t o ≡ is_held_by t (unended o)
held-unended t None = refl
held-unended t (Some life) = refl

stopped-unended : (o : Option Life) → stopped_thread o ≡ stopped_thread (unended o)
stopped-unended None = refl
stopped-unended (Some life) = refl

-- Whether a life is in is asked of a moment that differs from what is read in the ends of own events alone.
module _ (w : WorkloadView) (before r last : Readings) (ev : Event) (alike : AlikeButEnds last r) where
  abbrev back : Readings
  back = record r { lives = last.lives }

  back-is : back ≡ last
  back-is = ap (λ (z : Readings). record z { lives = last.lives }) alike.is

  held-same : (t : ThreadNo) (a : ActNo) → is_held_by t (last.lives a.0) ≡ is_held_by t (r.lives a.0)
  held-same t a = held-unended t (last.lives a.0) ∙ ap (is_held_by t) (sym (alike.lives a.0)) ∙ sym (held-unended t (r.lives a.0))

  names-same : (t : ThreadNo) (n : Note) → names_thread back t n ≡ names_thread r t n
  names-same t (Add p) = refl
  names-same t (Blocked a) = refl
  names-same t (Preempted a) = held-same t a
  names-same t (Unblocked a) = held-same t a

  handed-same : (s : SpaceNo) (t : ThreadNo) → is_handed back s t ≡ is_handed r s t
  handed-same s t = ap (λ b. is_due (space_at r.state s) t || (is_carried (thread_in (space_at r.state s) t).place && not b))
      (any-same (names_thread back t) (names_thread r t) (untold_of r s) (names-same t))

  loads : (s : SpaceNo) → load_of back s ≡ load_of r s
  loads s = ap (λ m. active_threads (space_at r.state s) + m) (notes-same r back (untold_of r s)
      (λ b has. stopped-unended (last.lives b.0) ∙ ap stopped_thread (sym (alike.lives b.0)) ∙ sym (stopped-unended (r.lives b.0))))

  pub inside-alike : (life : Life) → is_inside_any w before ev last true life ≡ is_inside_any w before ev r true life
  inside-alike life =
      sym (ap (λ y. is_inside_any w before ev y true life) back-is)
      ∙ ap (λ b. b || is_tied life || (nat_lt (demand_of r life.space) (min w.processors (load_of back life.space)) || (is_none (carried_by r life) && many_taken r life.space)))
      (any-same (is_handed back life.space) (is_handed r life.space) life.hand (handed-same life.space))
      ∙ ap (λ m. has_heard_hand r life || is_tied life || (nat_lt (demand_of r life.space) (min w.processors m) || (is_none (carried_by r life) && many_taken r life.space)))
      (loads life.space)

pub driven-answers : (w : WorkloadView) (s : Setting) (e : ℕ) (before r last : Readings) (ev : Event) (u : DrivenSpace) (cs : Contexts DrivenContext)
    (n : ActNo) (c : DrivenContext) (seen : Seen)
    → HoldsNow driven_stands w s e r u cs → driven_hears w s r n u cs → cs n.0 ≡ Some c → running_of r ev.proc ≡ Some n
    → Contains ev.records (records.Up s.space n) → AlikeButEnds last r → Sees s.space r ev.proc ev.number seen
    → driven_fits w s (record r { lives = with_life (arisen any.inside w before ev last) (Some n) r.lives }) (driven_calls.answered u seen c).0
    (put cs n.0 (Some (driven_calls.answered u seen c).1))
driven-answers w s e before r last ev u cs n c seen h k is runs upped alike sees =
    let its = k.holds.lives n c is in
    let life = its.0 in
    let new = settled u seen c in
    let inside = is_inside_any w before ev last true life in
    let stage = k.runs life its.1 in
    let found = h.moment.lives ev.proc n runs in
    let one : found.0 ≡ life = same_Some found.0 life (sym found.1 ∙ its.1) in
    let owner : owner_of r ev.proc ≡ Some s.space = found.3 ∙ ap (λ (l : Life). Some l.space) one ∙ ap Some its.2.space in
    let carries = runs-there s e u cs h.value r r h.moment k.holds ev.proc n c life owner runs its.1 its.2.space is (λ z ne. refl) in
    let is_in : inside ≡ new.inside = inside-alike w before r last ev alike life
    ∙ inside-settled s e u cs h.value r k.holds n c is life its.1 (ap is_gone stage) w seen (h.value.made.processors ∙ h.of.processors) sees.demand sees.taken
    carries before ev in
    let x = remark s.space r u.base.shared cs k.holds n c new is life its.1 life.freed inside life.scans r.number r.last r.moved
    (record { thread = refl; locks = refl; continues = refl; hand = refl }) in
    subst (λ d. driven_fits w s (record r { lives = with_life (arisen any.inside w before ev last) (Some n) r.lives }) u (put cs n.0 (Some d)))
    (sym (ap (answered_by u seen c) (k.lowers c is)))
    (subst (λ ls. DrivenFits s.space (record r { lives = ls }) u.base.shared (put cs n.0 (Some new)))
    (sym (ap (λ o. put r.lives n.0 (option_map (arisen any.inside w before ev last) o)) its.1)) (record {
      holds = changed-holds s.space r _ u.base.shared u.base.shared cs (put cs n.0 (Some new)) n _ new x k.holds;
      rest = changed-rest s.space r _ u.base.shared u.base.shared cs (put cs n.0 (Some new)) n _ new x k.others (record {
        lowers = k.lowers c is;
        inside = λ yes. is_in;
        busy = λ no. absurd (let yes = ap is_running stage in cc);
      });
    }))
