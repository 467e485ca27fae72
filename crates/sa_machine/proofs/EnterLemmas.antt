-- What entries and steps need, and what holds after them.
use Rattle.std.proofs.Common.{◌≡◌, ℕ, ◌+◌, ◌<◌, ◌≤◌, true, Option, Some, None, IsSome, length, refl, sym, ap, subst, ◌∙◌, arith}
use Rattle.sa_lemmas.proofs.Options.{some-is}
use Rattle.sa_base.specs.declared.number.ProcNo.{ProcNo}
use Rattle.sa_base.specs.declared.number.SpaceNo.{SpaceNo}
use Rattle.sa_base.specs.declared.number.ActNo.{ActNo}
use Rattle.sa_base.specs.declared.context.Stopped.{Stopped}
use Rattle.sa_base.specs.declared.limits.TheConstants.{MAX_EVENTS}
use Rattle.sa_spaces.specs.Workload.{WorkloadView}
use Rattle.sa_abstract.specs.Calls.{Calls}
use Rattle.sa_abstract.specs.Keeps.{Standing, Keeps}
use Rattle.sa_abstract.specs.declared.answer.Step.{Step}
use Rattle.sa_abstract.specs.declared.answer.Step.TheVariants.{Block, More, Idle, GiveBack, InterruptOwn}
use Rattle.sa_kernel_model.specs.declared.entry.Entry.TheVariants.{Interrupt, Block as BlockEntry, More as MoreEntry, Idle as IdleEntry, GiveBack as GiveBackEntry, InterruptOwn as InterruptOwnEntry}
use Rattle.sa_kernel_model.specs.State.{KernelState, owner_of, line_of}
use Rattle.sa_kernel_model.specs.Entering.{MayEnter, Asks as KernelAsks, upcalls}
use Rattle.sa_kernel_model.specs.Sound.{AreClaimed}
use Rattle.sa_kernel_model.proofs.parts.Seen.{low-bit}
use Rattle.sa_core_model.specs.Machine.{Machine, seen_on, scene_of, without_context, stopped_in, stepped, step_to, context_begun}
use Rattle.sa_core_model.specs.Turn.{kernel_entered, asked, turned_owned, next_event}
use Rattle.sa_core_model.specs.Run.{CanGo}
use Rattle.sa_core_model.specs.Standing.{Stands, IsBetween}
use Rattle.sa_core_model.proofs.Effects.{same-more, same-idled, same-own}
use Rattle.sa_core_model.proofs.Phases.{at-owned, stands-later}
use Rattle.sa_core_model.proofs.Turns.{Rests, begun-is, rests-next, Welcomed, CanEnter, can-interrupt, can-block, welcomed-upcall, rests-between, rests-entered, rests-given, stepped-is, rests-stepped, step-law, between-rests, own-page}
use Rattle.sa_machine.specs.Needs.{ByFresh, Welcomes, IsNext, Asks}

-- a step and what it asked for
pub turned-so : {U C : Type 0} (f : Calls U C) (p : ProcNo) (s : SpaceNo) (m n last : Machine U C) (step : Step) → owner_of m.kernel p ≡ Some s
    → (n, step) ≡ stepped f p s m → n.kernel ≡ m.kernel → ByFresh n last (λ fresh. asked f p fresh step n)
    → ByFresh m last (λ fresh. turned_owned f p fresh (owner_of m.kernel p) m)
turned-so {U} {C} f p s m n last step owner is kernel by = record {
  fresh = by.fresh;
  unused = ap (λ (k : KernelState C). k.acts by.fresh.0) (sym kernel) ∙ by.unused;
  is =
      by.is ∙ ap (λ (z : Machine U C × Step). asked f p by.fresh z.1 z.0) is
      ∙ sym (ap (λ (o : Option SpaceNo). turned_owned f p by.fresh o m) owner);
}

module _ {U C : Type 0} (f : Calls U C) (stands : Standing U C) (keep : Keeps f stands) where
  rests : (m : Machine U C) → (next : IsNext stands m) → Rests f stands keep m.workload next.last m.event m
  rests m next = record { standing = next.standing; fetched = next.fetched; workload = refl; event = refl }

  welcomes-new : (w : WorkloadView) (e g : ℕ) (p : ProcNo) (m : Machine U C) → e ≤ m.event → Welcomed f stands keep w e g p m → Welcomes f stands p m
  welcomes-new w e g p m later new = record {
    space = new.space;
    user = new.user;
    owner = new.owner;
    is_user = new.is_user;
    before = new.before;
    place = new.place;
    lives = new.within;
    begins = stands-later f stands keep e m.event (context_begun f p new.space m) later new.begins.standing;
    claimed =
        subst (λ (k : KernelState C). AreClaimed k new.space.0)
        (ap (λ (z : Machine U C). z.kernel) (begun-is f stands keep p new.space m new.user new.is_user)) new.begins.claimed;
  }

  pub lives-of : (e : ℕ) (m : Machine U C) (p : ProcNo) → Stands stands e m → p.0 < m.workload.processors → p.0 < length m.kernel.lives
  lives-of e m p st within = omega (arith, within, st.lives)

  -- the line is raised
  pub can-stop : (m : Machine U C) (p : ProcNo) (n : ActNo) → (next : IsNext stands m) → p.0 < m.workload.processors → IsSome (line_of m.kernel p)
      → m.kernel.acts n.0 ≡ None
      → CanEnter f stands keep next.last m p n (Interrupt (stopped_in f m p (owner_of m.kernel p)))
  can-stop m p n next within raised unused =
      let line = some-is (line_of m.kernel p) raised in
      can-interrupt f stands keep m.workload next.last m.event m p n line.0 (rests m next) (lives-of next.last m p next.standing within) line.1 unused

  pub interrupt-welcomes : (m : Machine U C) (p : ProcNo) (n : ActNo) (held : Option (Stopped C)) → IsNext stands m → p.0 < m.workload.processors
      → IsSome (line_of m.kernel p)
      → m.kernel.acts n.0 ≡ None → held ≡ stopped_in f m p (owner_of m.kernel p) → upcalls m.kernel p (Interrupt held) ≡ true
      → Welcomes f stands p (kernel_entered p n (Interrupt held) (without_context p m))
  interrupt-welcomes m p n held next within raised unused is up =
      let h = stopped_in f m p (owner_of m.kernel p) in
      let can = can-stop m p n next within raised unused in
      subst (λ (x : Option (Stopped C)). Welcomes f stands p (kernel_entered p n (Interrupt x) (without_context p m))) (sym is)
      (welcomes-new m.workload next.last m.event p (kernel_entered p n (Interrupt h) (without_context p m)) (let z = next.before in omega (arith, z))
      (welcomed-upcall f stands keep m.workload next.last m.event m p n (Interrupt h) can.state (rests m next)
      (lives-of next.last m p next.standing within) can.fit unused can.pauses up))

  -- a block
  pub can-hold : (m : Machine U C) (p : ProcNo) (n : ActNo) (len : ℕ) (page : Option ℕ) (held : Stopped C) → Asks stands p (Block len page) m
      → m.kernel.acts n.0 ≡ None
      → stopped_in f m p (owner_of m.kernel p) ≡ Some held → CanEnter f stands keep m.event m p n (BlockEntry held len page)
  can-hold m p n len page held asks unused is =
      can-block f stands keep m.workload m.event m.event m p n asks.space len page held (rests-between f stands keep m asks.between) asks.owner asks.low unused
      (own-page f stands keep page (asks.can.2)) is

  pub asks-within : (m : Machine U C) (p : ProcNo) (asked : Step) → Asks stands p asked m → p.0 < length m.kernel.lives
  asks-within m p asked asks = (at-owned f stands keep m.event m p asks.space asks.between.standing asks.owner).within

  pub block-welcomes : (m : Machine U C) (p : ProcNo) (n : ActNo) (len : ℕ) (page : Option ℕ) (held : Stopped C) → Asks stands p (Block len page) m
      → m.kernel.acts n.0 ≡ None
      → stopped_in f m p (owner_of m.kernel p) ≡ Some held → upcalls m.kernel p (BlockEntry held len page) ≡ true
      → Welcomes f stands p (kernel_entered p n (BlockEntry held len page) (without_context p m))
  block-welcomes m p n len page held asks unused is up =
      let can = can-hold m p n len page held asks unused is in
      welcomes-new m.workload m.event m.event p (kernel_entered p n (BlockEntry held len page) (without_context p m)) (omega arith)
      (welcomed-upcall f stands keep m.workload m.event m.event m p n (BlockEntry held len page) can.state (rests-between f stands keep m asks.between)
      (asks-within m p (Block len page) asks) can.fit unused can.pauses up)

  -- the hints
  asks-of : (m : Machine U C) (p : ProcNo) (asked : Step) → (asks : Asks stands p asked m) → KernelAsks m.kernel p asks.space
  asks-of m p asked asks = record { owner = asks.owner; low = asks.low }

  pub more-fits : (m : Machine U C) (p : ProcNo) (n : ℕ) → Asks stands p (More n) m → MayEnter m.kernel p m.event (MoreEntry n)
  more-fits m p n asks = record {
    space = asks.space;
    asks = asks-of m p (More n) asks;
    some = asks.can.0;
    few = (let few = asks.can.1 in omega (arith, few, asks.between.standing.lives));
  }

  pub idle-fits : (m : Machine U C) (p : ProcNo) → Asks stands p Idle m → MayEnter m.kernel p m.event IdleEntry
  idle-fits m p asks = record { space = asks.space; asks = asks-of m p Idle asks; some = asks.can }

  pub back-fits : (m : Machine U C) (p : ProcNo) → Asks stands p GiveBack m → MayEnter m.kernel p m.event GiveBackEntry
  back-fits m p asks = record { space = asks.space; asks = asks-of m p GiveBack asks; some = asks.can }

  pub own-fits : (m : Machine U C) (p q : ProcNo) → Asks stands p (InterruptOwn q) m → MayEnter m.kernel p m.event (InterruptOwnEntry q)
  own-fits m p q asks =
      let low = (low-bit m.kernel asks.space q asks.between.standing.sound.formed.sizes).0 asks.can.2 in
      record {
        space = asks.space;
        asks = asks-of m p (InterruptOwn q) asks;
        other = λ is. asks.can.0 (sym (ap (λ i. record { 0 = i }) is));
        within = (let z = asks.can.1 in omega (arith, z, asks.between.standing.lives));
        owned = record { owner = low.owner; low = low.line };
      }

  pub more-stands : (m : Machine U C) (p : ProcNo) (n : ActNo) (i : ℕ) → Asks stands p (More i) m → m.kernel.acts n.0 ≡ None
      → Stands stands m.event (kernel_entered p n (MoreEntry i) m)
  more-stands m p n i asks unused =
      (rests-entered f stands keep m.workload m.event m.event m p n (MoreEntry i) (rests-between f stands keep m asks.between) (asks-within m p (More i) asks)
      (more-fits m p i asks) unused (same-more m.event p i (owner_of m.kernel p) (scene_of m))).standing

  pub idle-stands : (m : Machine U C) (p : ProcNo) (n : ActNo) → Asks stands p Idle m → m.kernel.acts n.0 ≡ None
      → Stands stands m.event (kernel_entered p n IdleEntry m)
  idle-stands m p n asks unused =
      (rests-entered f stands keep m.workload m.event m.event m p n IdleEntry (rests-between f stands keep m asks.between) (asks-within m p Idle asks)
      (idle-fits m p asks) unused (same-idled m.event p (owner_of m.kernel p) (scene_of m))).standing

  pub back-stands : (m : Machine U C) (p : ProcNo) (n : ActNo) → Asks stands p GiveBack m → m.kernel.acts n.0 ≡ None
      → Stands stands m.event (kernel_entered p n GiveBackEntry m)
  back-stands m p n asks unused =
      (rests-given f stands keep m.workload m.event m.event m p n asks.space (rests-between f stands keep m asks.between) (asks-within m p GiveBack asks)
      asks.owner (back-fits m p asks) unused).standing

  pub own-stands : (m : Machine U C) (p q : ProcNo) (n : ActNo) → Asks stands p (InterruptOwn q) m → m.kernel.acts n.0 ≡ None
      → Stands stands m.event (kernel_entered p n (InterruptOwnEntry q) m)
  own-stands m p q n asks unused =
      (rests-entered f stands keep m.workload m.event m.event m p n (InterruptOwnEntry q) (rests-between f stands keep m asks.between)
      (asks-within m p (InterruptOwn q) asks)
      (own-fits m p q asks) unused (same-own m.event p q (scene_of m))).standing

  -- a step asks for what the kernel can do
  pub asks-stepped : (m : Machine U C) (p : ProcNo) (s : SpaceNo) → IsNext stands m → owner_of m.kernel p ≡ Some s → line_of m.kernel p ≡ None
      → Asks stands p (stepped f p s m).1 (stepped f p s m).0
  asks-stepped m p s next owner low =
      let here = at-owned f stands keep next.last m p s next.standing owner in
      let r = f.stepped here.user (seen_on m p s) here.ctx in
      let after = step_to f p s r m in
      let done = rests-stepped f stands keep m.workload next.last m.event m p s (rests m next) here next.before next.within in
      let law = step-law f stands keep next.last m p s next.standing here next.before next.within in
      subst (λ (z : Machine U C × Step). Asks stands p z.1 z.0) (sym (stepped-is f stands keep m p s here)) (record {
        space = s;
        def = here.def;
        between = between-rests f stands keep m.workload m.event after done;
        owner = owner;
        is_def = here.is_def;
        low = low;
        can = law.asked;
      })

  -- an event has begun
  pub next-of : (m n : Machine U C) → IsBetween stands m → m.event + 1 ≤ MAX_EVENTS → n ≡ next_event m → IsNext stands n
  next-of m n between few is =
      let rest = rests-next f stands keep m.workload m.event m.event m (rests-between f stands keep m between) in
      subst (λ z. IsNext stands z) (sym is) (record {
        last = m.event;
        before = omega arith;
        within = few;
        standing = rest.standing;
        fetched = rest.fetched;
      })

  pub can-next : (m n : Machine U C) (p : ProcNo) (k : ℕ) → CanGo f m p k → n ≡ next_event m → CanGo f n p k
  can-next m n p k can is =
      subst (λ z. CanGo f z p k) (sym is) (record { space = can.space; def = can.def; owner = can.owner; is_def = can.is_def; goes = can.goes })

  -- the same at a machine that is known to be without the context
  pub stopped-welcomes : (m n : Machine U C) (p : ProcNo) (a : ActNo) (held : Option (Stopped C)) → IsNext stands m → p.0 < m.workload.processors
      → IsSome (line_of m.kernel p)
      → n ≡ without_context p m → held ≡ stopped_in f m p (owner_of m.kernel p) → n.kernel.acts a.0 ≡ None → upcalls n.kernel p (Interrupt held) ≡ true
      → Welcomes f stands p (kernel_entered p a (Interrupt held) n)
  stopped-welcomes m n p a held next within raised is is_held unused up =
      let kernel : n.kernel ≡ m.kernel = ap (λ (z : Machine U C). z.kernel) is in
      subst (λ z. Welcomes f stands p (kernel_entered p a (Interrupt held) z)) (sym is)
      (interrupt-welcomes m p a held next within raised (ap (λ (k : KernelState C). k.acts a.0) (sym kernel) ∙ unused) is_held
      (ap (λ (k : KernelState C). upcalls k p (Interrupt held)) (sym kernel) ∙ up))

  pub blocked-welcomes : (m n : Machine U C) (p : ProcNo) (a : ActNo) (len : ℕ) (page : Option ℕ) (held : Stopped C) → Asks stands p (Block len page) m
      → n ≡ without_context p m
      → stopped_in f m p (owner_of m.kernel p) ≡ Some held → n.kernel.acts a.0 ≡ None → upcalls n.kernel p (BlockEntry held len page) ≡ true
      → Welcomes f stands p (kernel_entered p a (BlockEntry held len page) n)
  blocked-welcomes m n p a len page held asks is is_held unused up =
      let kernel : n.kernel ≡ m.kernel = ap (λ (z : Machine U C). z.kernel) is in
      subst (λ z. Welcomes f stands p (kernel_entered p a (BlockEntry held len page) z)) (sym is)
      (block-welcomes m p a len page held asks (ap (λ (k : KernelState C). k.acts a.0) (sym kernel) ∙ unused) is_held
      (ap (λ (k : KernelState C). upcalls k p (BlockEntry held len page)) (sym kernel) ∙ up))
