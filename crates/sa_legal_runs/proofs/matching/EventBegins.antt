-- An event begins: what holds then, of the machine and of what is read; and the life that acts in it.
use Rattle.std.proofs.Common.{◌≡◌, ◌⊎◌, ℕ, ◌+◌, ◌≤◌, Option, Some, None, List, [], slice_get, get_or, refl, sym, ap, subst, ◌∙◌, inl, inr, arith}
use Rattle.std.proofs.lemmas.Option.{same_Some}
use Rattle.sa_base.specs.declared.number.ProcNo.{ProcNo}
use Rattle.sa_base.specs.declared.number.SpaceNo.{SpaceNo}
use Rattle.sa_base.specs.declared.number.ThreadNo.{ThreadNo}
use Rattle.sa_base.specs.declared.number.ActNo.{ActNo}
use Rattle.sa_base.specs.declared.limits.TheConstants.{MAX_EVENTS}
use Rattle.sa_spaces.specs.Workload.{WorkloadView, IsWorkload}
use Rattle.sa_assign.specs.Aims.{space_no}
use Rattle.sa_laws.specs.declared.place.Place.TheVariants.{Running}
use Rattle.sa_laws.specs.Life.{Life}
use Rattle.sa_laws.specs.State.{State as Abstract, thread_at, runner_on}
use Rattle.sa_laws.specs.Event.{Event}
use Rattle.sa_laws.specs.Readings.{Readings, running_of, owner_of as owner_in, line_of as line_in}
use Rattle.sa_histories.proofs.Sizes.{IsSized}
use Rattle.sa_kernel_model.specs.State.{line_of, owner_of}
use Rattle.sa_kernel_laws.specs.Overview.{Overview}
use Rattle.sa_kernel_laws.specs.Kept.{IsTidy}
use Rattle.sa_core_model.specs.Machine.{Machine, seen_on}
use Rattle.sa_core_model.specs.Turn.{next_event}
use Rattle.sa_core_model.specs.Run.{setting}
use Rattle.sa_core_model.specs.Standing.{contexts_of}
use Rattle.sa_core_model.proofs.Phases.{IsAt}
use Rattle.sa_core_model.proofs.Calls.{mine}
use Rattle.sa_core_model.proofs.Turns.{Rests, rests-next, rests-between}
use Rattle.sa_user_laws.specs.Moments.{IsMoment, Sees, runs_in}
use Rattle.sa_user_laws.specs.Scene.{IsOn, IsActing, event_begun_at}
use Rattle.sa_user_laws.specs.Steps.{IsLegalStep}
use Rattle.sa_user_laws.specs.Level.{UserLevel}
use Rattle.sa_user_laws.proofs.Runners.{runner-is, acting}
use Rattle.sa_legal_runs.proofs.frames.Moments.{begun-same}
use Rattle.sa_legal_runs.proofs.frames.Sizes.{sized-begun}
use Rattle.sa_legal_runs.proofs.frames.Lives.{AreMatched}
use Rattle.sa_legal_runs.proofs.matching.Spaces.{AreFit, fit-same}
use Rattle.sa_legal_runs.proofs.matching.Overviews.{sees-of, begun-reads}
use Rattle.sa_legal_runs.proofs.matching.Composed.{IsComposed, read, moment, holds-at}

-- Where no thread is running on a processor, a search finds no runner.
pub nobody-runs : (a : Abstract) (p : ProcNo) → ((s : SpaceNo) (t : ThreadNo) → (thread_at a s t).place ≡ Running p → ⊥)
    → runner_on a p ≡ None
nobody-runs a p none = runner-is a p (space_no 0) None (λ s t is. absurd (none s t is)) (λ t some. absurd (cc))

module _ {U C : Type 0} (level : UserLevel U C) where
  -- Event g of processor p has begun on a machine, and nothing else was done in it.
  pub record IsBegun (w : WorkloadView) (e g : ℕ) (p : ProcNo) (x : Machine U C) (c : Readings) : Type 0 where
    pub ok : IsWorkload w
    pub rest : Rests level.calls level.stands level.keep w e g x
    pub moment : IsMoment c
    pub matched : AreMatched x.kernel.acts c.lives
    pub sized : IsSized w c
    pub running : c.running ≡ x.kernel.lives
    pub owners : c.state.owners ≡ x.kernel.assign.owners
    pub untold : c.untold ≡ x.kernel.untold

  pub begins-now : (w : WorkloadView) (events : List Event) (m : Machine U C) (p : ProcNo) → IsComposed level w events m
      → IsBegun w m.event (m.event + 1) p (next_event m) (event_begun_at w (m.event + 1) p (read level w events))
  begins-now w events m p c =
      let r = read level w events in
      let at = moment level w events m c in
      let kept = c.history.kept in
      record {
        ok = c.history.ok;
        rest = subst (λ (v : WorkloadView). Rests level.calls level.stands level.keep v m.event (m.event + 1) (next_event m)) c.workload
            (rests-next level.calls level.stands level.keep m.workload m.event m.event m
            (rests-between level.calls level.stands level.keep m c.between));
        moment = record { lives = at.lives; apart = at.apart; owned = at.owned; alone = at.alone };
        matched = c.matched;
        sized = sized-begun w (record { number = m.event + 1; proc = p; records = [] }) r c.sized;
        running = ap (λ (v : Overview). v.running) kept.reads;
        owners = ap (λ (v : Overview). v.assign.owners) kept.reads;
        untold = ap (λ (v : Overview). v.untold) kept.reads;
      }

  pub tidy-now : (w : WorkloadView) (events : List Event) (m : Machine U C) → IsComposed level w events m → IsTidy (next_event m).kernel
  tidy-now w events m c =
      let tidy = c.history.kept.tidy in
      record { added = tidy.added; blocked = tidy.blocked; fetched = tidy.fetched; taken = tidy.taken }

  -- The line is low in what is read.
  pub low-now : (w : WorkloadView) (events : List Event) (m : Machine U C) (p : ProcNo) → IsComposed level w events m
      → line_of m.kernel p ≡ None → line_in (read level w events) p ≡ None
  low-now w events m p c low = ap (λ (v : Overview). get_or v.assign.lines p.0 None) c.history.kept.reads ∙ low

  -- Where the line was low, or nobody owns the processor, each space fits then as before.
  pub fit-begun : (w : WorkloadView) (events : List Event) (m : Machine U C) (p : ProcNo) → IsComposed level w events m
      → (line_of m.kernel p ≡ None) ⊎ (owner_of m.kernel p ≡ None)
      → AreFit level.fits w (event_begun_at w (m.event + 1) p (read level w events)) m.users (contexts_of m)
  fit-begun w events m p c off =
      let r = read level w events in
      fit-same level w r (event_begun_at w (m.event + 1) p r) m.users (contexts_of m) c.history.ok
      (λ t. begun-same w (m.event + 1) p (space_no t) r (elim off [
        | inl low ↦ inl (low-now w events m p c low)
        | inr free ↦ inr (ap (λ (o : Option ActNo). runs_in (space_no t) r.lives o)
            (nobody (running_of r p) refl (ap (λ (v : Overview). get_or v.assign.owners p.0 None) c.history.kept.reads ∙ free)))
      ])) c.fit
    where
      nobody : (o : Option ActNo) → running_of (read level w events) p ≡ o → owner_in (read level w events) p ≡ None
          → running_of (read level w events) p ≡ None
      nobody None is free = is
      nobody (Some a) is free = absurd (let l = (moment level w events m c).lives p a is in let both = sym free ∙ l.3 in cc)

  -- The running life of a processor acts: its setting, and what its space may rest on before the event.
  pub record Acts (w : WorkloadView) (events : List Event) (m : Machine U C) (p : ProcNo) (s : SpaceNo)
      (here : IsAt level.calls level.stands level.keep (next_event m) p s) : Type 0 where
    pub def_at : slice_get w.spaces s.0 ≡ Some here.def
    pub life : Life
    pub on : IsOn s (read level w events) p here.act life (contexts_of m s.0) here.ctx
    pub acting : IsActing level.calls level.stands level.fits w (setting w s.0 here.def) m.event (read level w events) here.user
        (contexts_of m s.0) p here.act life here.ctx

  pub acts-at : (w : WorkloadView) (events : List Event) (m : Machine U C) (p : ProcNo) (s : SpaceNo) → IsComposed level w events m
      → (here : IsAt level.calls level.stands level.keep (next_event m) p s) → Acts w events m p s here
  acts-at w events m p s c here =
      let r = read level w events in
      let at : slice_get w.spaces s.0 ≡ Some here.def =
      subst (λ (v : WorkloadView). slice_get v.spaces s.0 ≡ Some here.def) c.workload here.is_def in
      let runs : running_of r p ≡ Some here.act = ap (λ (v : Overview). get_or v.running p.0 None) c.history.kept.reads ∙ here.life in
      let owner : owner_in r p ≡ Some s = ap (λ (v : Overview). get_or v.assign.owners p.0 None) c.history.kept.reads ∙ here.owner in
      let l = (moment level w events m c).lives p here.act runs in
      let st = (begins-now w events m p c).rest.standing in
      let on : IsOn s r p here.act l.0 (contexts_of m s.0) here.ctx = record {
        runs = runs;
        is = l.1;
        space = same_Some l.0.space s (sym l.3 ∙ owner);
        proc = l.2;
        owner = owner;
        mine = mine level.calls level.stands level.keep m.event (next_event m) p s st here;
      } in
      record {
        def_at = at;
        life = l.0;
        on = on;
        acting = acting level.calls level.stands level.rules level.fits level.hears level.laws w
            (setting w s.0 here.def) m.event r here.user (contexts_of m s.0) p here.act l.0 here.ctx
            (holds-at level w events m s.0 here.user here.def c here.is_user at) (c.fit s.0 here.user here.def here.is_user at) on;
      }

  -- What it sees in the event is what is read, where the line was low.
  pub sees-now : (w : WorkloadView) (events : List Event) (m : Machine U C) (p : ProcNo) (s : SpaceNo)
      → IsComposed level w events m → line_of m.kernel p ≡ None → owner_of m.kernel p ≡ Some s
      → Sees s (event_begun_at w (m.event + 1) p (read level w events)) p (m.event + 1) (seen_on (next_event m) p s)
  sees-now w events m p s c low owner =
      let b = begins-now w events m p c in
      sees-of (next_event m).kernel (event_begun_at w (m.event + 1) p (read level w events)) p s (m.event + 1) b.rest.standing.sound
      (begun-reads w m.kernel (read level w events) (m.event + 1) p c.history.kept low) b.rest.fetched
      (b.rest.standing.sound.formed.owners p.0 s owner)

  -- So its step is legal.
  pub steps-legally : (w : WorkloadView) (events : List Event) (m : Machine U C) (p : ProcNo) (s : SpaceNo)
      → IsComposed level w events m → line_of m.kernel p ≡ None → m.event + 1 ≤ MAX_EVENTS
      → (here : IsAt level.calls level.stands level.keep (next_event m) p s)
      → IsLegalStep level.calls level.rules level.fits w (setting w s.0 here.def) (read level w events) p (m.event + 1) here.act
      (contexts_of m s.0)
      (level.calls.stepped here.user (seen_on (next_event m) p s) here.ctx)
  steps-legally w events m p s c low few here =
      let at = acts-at w events m p s c here in
      level.laws.steps w (setting w s.0 here.def) m.event (read level w events) here.user
      (contexts_of m s.0) p here.act at.life here.ctx (seen_on (next_event m) p s) at.acting
      (sees-now w events m p s c low here.owner) (low-now w events m p c low) (omega arith) (omega arith) few
