-- An interrupt: the turn of a processor whose line is raised, in all its cases.
use Rattle.std.proofs.lemmas.List.{length-set, append-nil}
use Rattle.std.proofs.Common.{is_none, get_or, ◌≡◌, ℕ, ◌+◌, ◌<◌, ◌≤◌, arith, sym, ◌∙◌, ap, subst, refl, Bool, true, not, ◌&&◌, Option, Some, None, is_some, List, [], ◌∷◌, ◌++◌, length, false}
use Rattle.std.proofs.lemmas.Option.{same_Some}
use Rattle.std.proofs.lemmas.Bool.Decides.{nat_tests}
use Rattle.sa_lemmas.proofs.Options.{some-is}
use Rattle.sa_base.specs.declared.number.ProcNo.{ProcNo}
use Rattle.sa_base.specs.declared.number.SpaceNo.{SpaceNo}
use Rattle.sa_base.specs.declared.number.ActNo.{ActNo}
use Rattle.sa_base.specs.declared.context.Stopped.{Stopped}
use Rattle.sa_base.specs.declared.record.Item.{Item}
use Rattle.sa_base.specs.declared.record.Record.TheVariants.{Stop}
use Rattle.sa_base.specs.Items.{items_at}
use Rattle.sa_base.specs.declared.record.Note.TheVariants.{Preempted}
use Rattle.sa_base.specs.declared.limits.TheConstants.{MAX_EVENTS}
use Rattle.sa_spaces.specs.Workload.{WorkloadView}
use Rattle.sa_assign.specs.Aims.{is_aim}
use Rattle.sa_laws.specs.Event.{Event}
use Rattle.sa_laws.specs.Life.{Life}
use Rattle.sa_kernel_model.specs.declared.entry.Entry.{Entry}
use Rattle.sa_kernel_model.specs.declared.entry.Entry.TheVariants.{Interrupt}
use Rattle.sa_kernel_model.specs.State.{KernelState, Scene, owner_of, life_of, line_of, aim_of, can_upcall}
use Rattle.sa_kernel_model.specs.Parts.{go_to_by, put_aside, with_line}
use Rattle.sa_kernel_model.specs.Entries.{entered_as, go_to_aim, stopped}
use Rattle.sa_kernel_model.specs.Entering.{upcalls, MayEnter}
use Rattle.sa_kernel_laws.specs.Turn.{Turn, CanTurn}
use Rattle.sa_kernel_model.specs.Enters.{upcalls_for}
use Rattle.sa_core_model.specs.Machine.{Machine, without_context, stopped_in}
use Rattle.sa_core_model.specs.Turn.{next_event, entered_on, kernel_entered, turned, turned_raised}
use Rattle.sa_core_model.specs.Standing.{contexts_of, Stands}
use Rattle.sa_core_model.proofs.Turns.{Welcomed, Rests, can-interrupt, welcomed-upcall, rests-turned, between-rests, stopped-is, CanEnter}
use Rattle.sa_core_model.proofs.Phases.{IsAt, at-owned}
use Rattle.sa_core_model.specs.Run.{setting}
use Rattle.sa_user_laws.specs.Scene.{event_begun_at}
use Rattle.sa_user_laws.specs.Level.{UserLevel}
use Rattle.sa_legal_runs.proofs.matching.Composed.{IsComposed, Goes, read}
use Rattle.sa_legal_runs.proofs.kernel.Halted.{halted-stop, halted-off, IsHalted}
use Rattle.sa_legal_runs.proofs.matching.EventBegins.{begins-now, acts-at}
use Rattle.sa_legal_runs.proofs.kernel.Interrupts.{interrupt-up, Stops, none, one}
use Rattle.sa_legal_runs.proofs.kernel.Interrupts.Stops.{one, none}
use Rattle.sa_base.specs.declared.record.Record.{Record}
use Rattle.sa_laws.specs.Readings.{line_of as line_in, Readings}
use Rattle.sa_legal_runs.proofs.kernel.Leaving.{interrupt-leave}
use Rattle.sa_legal_runs.proofs.matching.Shown.{line-reads}
use Rattle.sa_laws.specs.Step.{AreSteps}
use Rattle.sa_laws.specs.History.{after_records}

aim-same : (s o : SpaceNo) → is_aim s.0 (Some o) ≡ true → s ≡ o
aim-same s o is = ap (λ i. record { 0 = i }) (let e : s.0 ≡ o.0 = grind (arith, nat_tests, is) in e)

-- THE TURN OF A RAISED LINE. A context runs there and is stopped, or nobody owns the processor. Where the upcall page of
-- the aim is resident the aim is upcalled, else the processor is left.
module _ {U C : Type 0} (level : UserLevel U C) (w : WorkloadView) (events : List Event) (m : Machine U C)
    (c : IsComposed level w events m) (p : ProcNo) (n : ActNo) (raised : ℕ) (s : SpaceNo)
    (within : p.0 < m.workload.processors) (few : m.event + 1 ≤ MAX_EVENTS) (unused : m.kernel.acts n.0 ≡ None)
    (line : line_of m.kernel p ≡ Some raised) (aim : aim_of m.kernel p ≡ Some s) where
  -- the machine in the event, its kernel, the event's number, and the moment at its beginning
  abbrev x : Machine U C
  x = next_event m

  abbrev k : KernelState C
  k = x.kernel

  abbrev g : ℕ
  g = m.event + 1

  abbrev b0 : Readings
  b0 = event_begun_at w g p (read level w events)

  standing : Stands level.stands m.event x
  standing = (begins-now level w events m p c).rest.standing

  inside : p.0 < length k.lives
  inside = omega (arith, within, standing.lives)

  raised-in : is_some (line_in (read level w events) p) ≡ true
  raised-in = ap (λ (l : Option ℕ). is_some l) (line-reads level w events m p c.history ∙ line)

  -- the kernel's entry with the context that is set aside, the turn, and the machine after it
  abbrev entry : Option (Stopped C) → Entry C
  entry held = Interrupt held

  abbrev turn : Option (Stopped C) → Turn C
  turn held = record { number = g; proc = p; says = []; fresh = n; entry = Some (entry held) }

  abbrev after : Option (Stopped C) → Machine U C
  after held = entered_on level.calls p n (entry held) (without_context p x)

  turn-is : (held : Option (Stopped C)) → stopped_in level.calls x p (owner_of k p) ≡ held → turned level.calls p n m ≡ after held
  turn-is held is =
      ap (λ (l : Option ℕ). turned_raised level.calls p n l x) line
      ∙ ap (λ (h : Option (Stopped C)). entered_on level.calls p n (Interrupt h) (without_context p x)) is

  rests-after : (held : Option (Stopped C)) → stopped_in level.calls x p (owner_of k p) ≡ held
      → Rests level.calls level.stands level.keep m.workload g g (after held)
  rests-after held is = subst (λ (z : Machine U C). Rests level.calls level.stands level.keep m.workload g g z) (turn-is held is)
      (rests-turned level.calls level.stands level.keep m p n c.between few within unused)

  can-enter : CanEnter level.calls level.stands level.keep m.event x p n (Interrupt (stopped_in level.calls x p (owner_of k p)))
  can-enter = can-interrupt level.calls level.stands level.keep w m.event g x p n raised
      (begins-now level w events m p c).rest inside line unused

  fits-held : (held : Option (Stopped C)) → stopped_in level.calls x p (owner_of k p) ≡ held → MayEnter k p g (entry held)
  fits-held held is = subst (λ (h : Option (Stopped C)). MayEnter k p g (Interrupt h)) is can-enter.fit

  upcalls-is : (held : Option (Stopped C)) (b : Bool) → can_upcall k s ≡ b → upcalls k p (entry held) ≡ b
  upcalls-is held b resident = ap (λ (q : Option SpaceNo). upcalls_for k q) aim ∙ resident

  welcomed-held : (held : Option (Stopped C)) → stopped_in level.calls x p (owner_of k p) ≡ held → can_upcall k s ≡ true
      → Welcomed level.calls level.stands level.keep w m.event g p (kernel_entered p n (entry held) (without_context p x))
  welcomed-held held is resident =
      subst (λ (h : Option (Stopped C)). Welcomed level.calls level.stands level.keep w m.event g p
      (kernel_entered p n (Interrupt h) (without_context p x))) is
      (welcomed-upcall level.calls level.stands level.keep w m.event g x p n
      (Interrupt (stopped_in level.calls x p (owner_of k p))) can-enter.state
      (begins-now level w events m p c).rest inside can-enter.fit unused can-enter.pauses
      (subst (λ (h : Option (Stopped C)). upcalls k p (Interrupt h) ≡ true) (sym is) (upcalls-is held true resident)))

  -- After the stop, if there is one, the processor is halted; then it passes to the aim.
  record Halts (held : Option (Stopped C)) (first : List Record) (y : KernelState C) : Type 0 where
    is : stopped_in level.calls x p (owner_of k p) ≡ held
    stops : Stops first
    can : CanTurn w m.kernel (read level w events) (turn held)
    entering : (items : List Item) → entered_as g p n (entry held) (record { state = k; items = items })
        ≡ go_to_by g p s n (is_aim s.0 (owner_of y p)) (can_upcall k s) (record { state = y; items = items ++ items_at g p first })
    halted : IsHalted level w m.event p n x y (after_records w g p b0 first)
    steps : AreSteps w g p b0 first
    own : is_aim s.0 (owner_of y p) ≡ true → owner_of y p ≡ Some s
    heard : s.0 < length y.untold
    owners : length y.assign.owners ≡ length k.assign.owners

  goes-on : (held : Option (Stopped C)) (first : List Record) (y : KernelState C) → Halts held first y → (b : Bool) → can_upcall k s ≡ b
      → (ev : Event) × Goes level w events m p (turned level.calls p n m) ev
  goes-on held first y h true resident =
      let rest = rests-after held h.is in
      subst (λ (z : Machine U C). (ev : Event) × Goes level w events m p z ev) (sym (turn-is held h.is))
      (interrupt-up level w events m p n s held first y (is_aim s.0 (owner_of y p)) c h.stops h.can
      (λ items. h.entering items
      ∙ ap (λ (b : Bool). go_to_by g p s n (is_aim s.0 (owner_of y p)) b
      (record { state = y; items = items ++ items_at g p first })) resident)
      h.halted h.steps h.own h.heard (omega (arith, inside, standing.sound.formed.sizes.owners, h.owners))
      (ap (λ (os : List (Option SpaceNo)). length os) h.halted.owners)
      (welcomed-held held h.is resident) (upcalls-is held true resident) raised-in
      (between-rests level.calls level.stands level.keep m.workload g (after held) rest) (rest.workload ∙ c.workload) rest.event)
  goes-on held first y h false resident =
      let rest = rests-after held h.is in
      subst (λ (z : Machine U C). (ev : Event) × Goes level w events m p z ev) (sym (turn-is held h.is))
      (interrupt-leave level w events m p n s held first y c h.stops h.can
      (λ items. h.entering items
      ∙ ap (λ (b : Bool). go_to_by g p s n (is_aim s.0 (owner_of y p)) b
      (record { state = y; items = items ++ items_at g p first })) resident)
      h.halted h.steps (upcalls-is held false resident) raised-in
      (between-rests level.calls level.stands level.keep m.workload g (after held) rest) (rest.workload ∙ c.workload) rest.event)

  -- A context runs there.
  halts-stop : (o : SpaceNo) → owner_of m.kernel p ≡ Some o → (here : IsAt level.calls level.stands level.keep x p o)
      → let held : Stopped C = record { ctx = here.ctx; thread = level.calls.thread here.user here.ctx; idle = level.calls.idle here.user here.ctx } in
      Halts (Some held) (Stop o held.thread here.act ∷ []) (put_aside p o here.act (Preempted here.act) held (with_line p None k))
  halts-stop o owner here =
      let held : Stopped C = record { ctx = here.ctx; thread = level.calls.thread here.user here.ctx; idle = level.calls.idle here.user here.ctx } in
      let r = read level w events in
      let a = here.act in
      let at = acts-at level w events m p o c here in
      let law = level.laws.stops w (setting w o.0 here.def) m.event r here.user (contexts_of m o.0) p a at.life here.ctx g at.acting in
      let is_held : stopped_in level.calls x p (owner_of k p) ≡ Some held = stopped-is level.calls level.stands level.keep x p o here in
      record {
        is = is_held;
        stops = one o held.thread a;
        can = record {
          within = here.within;
          later = omega arith;
          unused = unused;
          fetched = c.between.fetched;
          fits = fits-held (Some held) is_held;
          says = (
            refl,
            λ i life runs is.
                let same : i ≡ a = same_Some i a (sym runs ∙ at.on.runs) in
                law.0 ∙ ap (λ (l : Life). not l.inside && is_none held.thread)
                (same_Some at.life life (sym at.on.is ∙ ap (λ (z : ActNo). r.lives z.0) (sym same) ∙ is)),
          );
        };
        entering = λ items.
            let low : Scene C = record { state = with_line p None k; items = items } in
            ap (λ (q : Option SpaceNo). go_to_aim g p n q (stopped g p (owner_of k p) (life_of k p) (Some held) low)) aim
            ∙ ap (λ (q : Option SpaceNo). go_to_aim g p n (Some s) (stopped g p q (life_of k p) (Some held) low)) owner
            ∙ ap (λ (q : Option ActNo). go_to_aim g p n (Some s) (stopped g p (Some o) q (Some held) low)) here.life;
        halted = halted-stop level w events m p n o c unused here;
        steps = ((at.on.owner, at.acting.runner), tt);
        own = λ is. owner ∙ ap Some (sym (aim-same s o (ap (is_aim s.0) (sym owner) ∙ is)));
        heard = (let below : s.0 < length k.demands = standing.sound.formed.aims p.0 s aim in
            let size = length-set k.untold o.0 (get_or k.untold o.0 [] ++ Preempted a ∷ []) in
            omega (arith, below, standing.sound.formed.sizes.untold, size));
        owners = refl;
      }

  -- Nobody owns the processor.
  halts-off : owner_of m.kernel p ≡ None → Halts None [] (with_line p None k)
  halts-off owner =
      let is_held : stopped_in level.calls x p (owner_of k p) ≡ None = ap (λ (q : Option SpaceNo). stopped_in level.calls x p q) owner in
      record {
        is = is_held;
        stops = none;
        can = record { within = inside; later = omega arith; unused = unused; fetched = c.between.fetched; fits = fits-held None is_held; says = (refl, tt) };
        entering = λ items.
            let low : Scene C = record { state = with_line p None k; items = items } in
            let owned = is_aim s.0 (owner_of (with_line p None k) p) in
            ap (λ (q : Option SpaceNo). go_to_aim g p n q (stopped g p (owner_of k p) (life_of k p) None low)) aim
            ∙ ap (λ (q : Option SpaceNo). go_to_aim g p n (Some s) (stopped g p q (life_of k p) None low)) owner
            ∙ ap (λ (xs : List Item). go_to_by g p s n owned (can_upcall k s) (record { state = with_line p None k; items = xs }))
            (sym (append-nil items));
        halted = halted-off level w events m p n c unused inside owner;
        steps = tt;
        own = λ is. absurd (let z : is_aim s.0 None ≡ true = ap (is_aim s.0) (sym owner) ∙ is in cc);
        heard = (let below : s.0 < length k.demands = standing.sound.formed.aims p.0 s aim in omega
            (arith, below, standing.sound.formed.sizes.untold));
        owners = refl;
      }

  raised-aimed : (ev : Event) × Goes level w events m p (turned level.calls p n m) ev
  raised-aimed = go (owner_of m.kernel p) refl
    where
      go : (o : Option SpaceNo) → owner_of m.kernel p ≡ o → (ev : Event) × Goes level w events m p (turned level.calls p n m) ev
      go (Some o) owner =
          let here = at-owned level.calls level.stands level.keep m.event x p o standing owner in
          goes-on _ _ _ (halts-stop o owner here) (can_upcall k s) refl
      go None owner = goes-on None [] (with_line p None k) (halts-off owner) (can_upcall k s) refl

module _ {U C : Type 0} (level : UserLevel U C) where
  pub raised-goes : (w : WorkloadView) (events : List Event) (m : Machine U C) (p : ProcNo) (n : ActNo) (raised : ℕ)
      → (c : IsComposed level w events m)
      → p.0 < m.workload.processors → m.event + 1 ≤ MAX_EVENTS → m.kernel.acts n.0 ≡ None → line_of m.kernel p ≡ Some raised
      → (ev : Event) × Goes level w events m p (turned level.calls p n m) ev
  raised-goes w events m p n raised c within few unused line =
      let aim = some-is (aim_of m.kernel p) ((c.between.standing.sound.placed p.0).aimed (ap (λ (l : Option ℕ). is_some l) line)) in
      raised-aimed level w events m c p n raised aim.0 within few unused line aim.1
