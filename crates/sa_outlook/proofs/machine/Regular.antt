-- A turn keeps a machine regular.
use Rattle.std.proofs.Common.{◌≡◌, ℕ, ◌+◌, ◌<◌, Bool, true, false, Option, Some, None, option_map, List, [], ◌∷◌, length, refl, sym, ap, ◌∙◌, arith}
use Rattle.sa_base.specs.declared.number.ProcNo.{ProcNo}
use Rattle.sa_base.specs.declared.number.SpaceNo.{SpaceNo}
use Rattle.sa_base.specs.declared.number.ActNo.{ActNo}
use Rattle.sa_base.specs.declared.number.IoNo.{IoNo}
use Rattle.sa_base.specs.declared.limits.TheConstants.{MAX_EVENTS}
use Rattle.sa_base.specs.declared.context.Seen.{Seen}
use Rattle.sa_base.specs.declared.context.Stopped.{Stopped}
use Rattle.sa_base.specs.declared.record.Note.{Note}
use Rattle.sa_base.specs.declared.record.Note.TheVariants.{Preempted, Unblocked}
use Rattle.sa_spaces.specs.Space.{SpaceView}
use Rattle.sa_abstract.specs.Calls.{Calls}
use Rattle.sa_abstract.specs.Keeps.{Standing, Keeps}
use Rattle.sa_abstract.specs.declared.answer.Step.{Step}
use Rattle.sa_abstract.specs.declared.answer.Step.TheVariants.{Did, Block, More, Idle, GiveBack, InterruptOwn}
use Rattle.sa_acts.specs.Table.{held_of}
use Rattle.sa_devices.specs.Ios.{io_no, due_of}
use Rattle.sa_devices.specs.declared.kind.IoKind.{IoKind}
use Rattle.sa_devices.specs.declared.kind.IoKind.TheVariants.{Upcall}
use Rattle.sa_kernel_model.specs.declared.entry.Entry.{Entry}
use Rattle.sa_kernel_model.specs.declared.entry.Entry.TheVariants.{Interrupt, Block as BlockEntry, Complete, More as MoreEntry, Idle as IdleEntry, GiveBack as GiveBackEntry, InterruptOwn as InterruptOwnEntry}
use Rattle.sa_kernel_model.specs.State.{KernelState, Scene, Fixed, owner_of, aim_of, life_of, line_of, can_upcall, is_fetching}
use Rattle.sa_kernel_model.specs.Parts.{with_line, with_io, fetch_page, leave, go_to_by}
use Rattle.sa_kernel_model.specs.Closing.{spaces, want_one, want_for, must_want, wants, aims, interrupt, interrupt_one, interrupt_for, must_interrupt, has_low_line, closed}
use Rattle.sa_kernel_model.specs.Entries.{stopped, go_to_aim, told_or_left, block_begun, blocked_by as kernel_blocked_by, over, over_for, more, idled, gave_back, entered_as, kind_at, handed_by, fetched, io_for}
use Rattle.sa_kernel_model.specs.Entering.{upcalls}
use Rattle.sa_kernel_model.proofs.parts.Placed.{for_spaces-keeps}
use Rattle.sa_assign.specs.Aims.{least_below}
use Rattle.sa_core_model.specs.Machine.{Machine, user_of, context_on, seen_on, scene_of, without_context, stopped_in, called_by, context_begun_by, context_begun, answered, stepped_by, stepped}
use Rattle.sa_core_model.specs.Turn.{next_event, ticked, sliced_if, ends_slice, kernel_entered, told_one, told_all, welcomed_in, welcomed_if, entered_on, answered_in, hinted, blocked_by, asked, turned_owned, turned_due, turned_raised, turned}
use Rattle.sa_core_model.specs.Standing.{IsBetween}
use Rattle.sa_core_model.proofs.Turns.{rests-turned}
use Rattle.sa_outlook.specs.UserLevels.{IgnoresNumbers}
use Rattle.sa_outlook.proofs.Invariant.{fixed_of, IsNumbered, IsRegular}
use Rattle.sa_outlook.proofs.Alike.{AlikeMachines}
use Rattle.sa_outlook.proofs.ios.DueOrder.{numbered-begun, numbered-over}
use Rattle.sa_outlook.proofs.machine.OneTurn.{turned-both}

module _ {C : Type 0} (w : Fixed) where
  abbrev pub IsInOrder : KernelState C → Type 0
  IsInOrder k = (k.fixed ≡ w) × IsNumbered k

  begun-io : (kind : IoKind) (ends : ℕ) (k : KernelState C) → IsInOrder k → IsInOrder (with_io kind ends k)
  begun-io kind ends k h = (h.0, numbered-begun 0 (record { number = k.io_count; ends = ends; kind = kind }) k.under_way h.1)

  fetch : (e : ℕ) (p : ProcNo) (s : SpaceNo) (b : Bool) (x : Scene C) → IsInOrder x.state → IsInOrder (fetch_page e p s b x).state
  fetch e p s true x h = h
  fetch e p s false x h = begun-io (Upcall s) (e + x.state.fixed.fetch) x.state h

  left : (e : ℕ) (p : ProcNo) (s : SpaceNo) (x : Scene C) → IsInOrder x.state → IsInOrder (leave e p s x).state
  left e p s x h = fetch e p s (is_fetching x.state s.0) _ (h.0, h.1)

  goes : (e : ℕ) (p : ProcNo) (s : SpaceNo) (a : ActNo) (owned can : Bool) (x : Scene C) → IsInOrder x.state → IsInOrder (go_to_by e p s a owned can x).state
  goes e p s a owned false x h = left e p s x h
  goes e p s a true true x h = (h.0, h.1)
  goes e p s a false true x h = (h.0, h.1)

  aimed : (e : ℕ) (p : ProcNo) (a : ActNo) (o : Option SpaceNo) (x : Scene C) → IsInOrder x.state → IsInOrder (go_to_aim e p a o x).state
  aimed e p a None x h = h
  aimed e p a (Some s) x h = goes e p s a _ _ x h

  stops : (e : ℕ) (p : ProcNo) (o : Option SpaceNo) (l : Option ActNo) (i : Option (Stopped C)) (x : Scene C) → IsInOrder x.state
      → IsInOrder (stopped e p o l i x).state
  stops e p (Some s) (Some a) (Some i) x h = (h.0, h.1)
  stops e p _ _ _ x h = h

  tells : (e : ℕ) (p : ProcNo) (s : SpaceNo) (a : ActNo) (b : Bool) (x : Scene C) → IsInOrder x.state → IsInOrder (told_or_left e p s a b x).state
  tells e p s a true x h = (h.0, h.1)
  tells e p s a false x h = left e p s x h

  blocks : (e : ℕ) (p : ProcNo) (a : ActNo) (o : Option SpaceNo) (l : Option ActNo) (i : Stopped C) (n : ℕ) (page : Option ℕ) (x : Scene C)
      → IsInOrder x.state → IsInOrder (kernel_blocked_by e p a o l i n page x).state
  blocks e p a (Some s) (Some b) i n page x h =
      tells e p s a (can_upcall x.state s) (block_begun e p s b i n page x)
      (let z = begun-io (io_for s b page) (e + n) x.state h in (z.0, z.1))
  blocks e p a _ _ i n page x h = h

  overs_for : (e : ℕ) (p : ProcNo) (kind : IoKind) (x : Scene C) → IsInOrder x.state → IsInOrder (over_for e p kind x).state
  overs_for e p (Upcall s) x h = h
  overs_for e p _ x h = (h.0, h.1)

  overs : (e : ℕ) (p : ProcNo) (io : IoNo) (kind : Option IoKind) (x : Scene C) → IsInOrder x.state → IsInOrder (over e p io kind x).state
  overs e p io None x h = h
  overs e p io (Some kind) x h = overs_for e p kind _ (h.0, numbered-over io.0 0 x.state.io_count x.state.under_way h.1)

  mores : (e : ℕ) (p : ProcNo) (n : ℕ) (o : Option SpaceNo) (x : Scene C) → IsInOrder x.state → IsInOrder (more e p n o x).state
  mores e p n None x h = h
  mores e p n (Some s) x h = (h.0, h.1)

  idles : (e : ℕ) (p : ProcNo) (o : Option SpaceNo) (x : Scene C) → IsInOrder x.state → IsInOrder (idled e p o x).state
  idles e p None x h = h
  idles e p (Some s) x h = (h.0, h.1)

  gives : (e : ℕ) (p : ProcNo) (o : Option SpaceNo) (x : Scene C) → IsInOrder x.state → IsInOrder (gave_back e p o x).state
  gives e p None x h = h
  gives e p (Some s) x h = (h.0, h.1)

  enters : (e : ℕ) (p : ProcNo) (a : ActNo) (en : Entry C) (x : Scene C) → IsInOrder x.state → IsInOrder (entered_as e p a en x).state
  enters e p a (Interrupt i) x h =
      aimed e p a (aim_of x.state p) _ (stops e p (owner_of x.state p) (life_of x.state p) i (record x { state = with_line p None x.state }) (h.0, h.1))
  enters e p a (BlockEntry i n page) x h = blocks e p a (owner_of x.state p) (life_of x.state p) i n page x h
  enters e p a (Complete io) x h = overs e p io (kind_at io.0 x.state.under_way) x h
  enters e p a (MoreEntry n) x h = mores e p n (owner_of x.state p) x h
  enters e p a IdleEntry x h = idles e p (owner_of x.state p) x h
  enters e p a GiveBackEntry x h = gives e p (owner_of x.state p) x h
  enters e p a (InterruptOwnEntry q) x h = (h.0, h.1)

  abbrev At : Scene C → Type 0
  At x = IsInOrder x.state

  wanted : (e : ℕ) (p : ProcNo) (b : Bool) (s : ℕ) (x : Scene C) → At x → At (want_one e p b s x)
  wanted e p false s x h = h
  wanted e p true s x h = (h.0, h.1)

  raises : (e : ℕ) (p : ProcNo) (o : Option ℕ) (x : Scene C) → At x → At (interrupt e p o x)
  raises e p None x h = h
  raises e p (Some q) x h = (h.0, h.1)

  raises_one : (e : ℕ) (p : ProcNo) (b : Bool) (s : ℕ) (x : Scene C) → At x → At (interrupt_one e p b s x)
  raises_one e p false s x h = h
  raises_one e p true s x h = raises e p (least_below (length x.state.lives) (has_low_line x.state s)) x h

  pub closes : (e : ℕ) (p : ProcNo) (x : Scene C) → At x → At (closed e p x)
  closes e p x h =
      let v = wants e p x in
      let one : At v = for_spaces-keeps At (want_for e p) (λ s y i. wanted e p (must_want y.state s) s y i) 0 (spaces x.state) x h in
      let two : At (aims e p v) = (one.0, one.1) in
      for_spaces-keeps At (interrupt_for e p) (λ s y i. raises_one e p (must_interrupt y.state s) s y i) 0 (spaces (aims e p v).state) (aims e p v) two

  hands : (o : Option (Stopped C)) (a : ActNo) (k : KernelState C) → IsInOrder k → IsInOrder (handed_by o a k)
  hands None a k h = h
  hands (Some i) a k h = (h.0, h.1)

  fetches : (note : Note) (k : KernelState C) → IsInOrder k → IsInOrder (fetched note k)
  fetches (Preempted a) k h = hands (held_of (k.acts a.0)) a k h
  fetches (Unblocked a) k h = hands (held_of (k.acts a.0)) a k h
  fetches _ k h = h

module _ {U C : Type 0} (f : Calls U C) (w : Fixed) where
  abbrev pub Ordered : Machine U C → Type 0
  Ordered m = IsInOrder w m.kernel

  calls : (call : U → C → U × C) (p : ProcNo) (s : SpaceNo) (o : Option U) (c : Option C) (m : Machine U C) → Ordered m → Ordered (called_by call p s o c m)
  calls call p s None c m h = h
  calls call p s (Some u) None m h = h
  calls call p s (Some u) (Some c) m h = h

  begins : (p : ProcNo) (s : SpaceNo) (seen : Seen) (o : Option U) (m : Machine U C) → Ordered m → Ordered (context_begun_by f p s seen o m)
  begins p s seen None m h = h
  begins p s seen (Some u) m h = h

  answers : (p : ProcNo) (s : SpaceNo) (m : Machine U C) → Ordered m → Ordered (answered f p s m)
  answers p s m h = calls (λ u c. f.answered u (seen_on m p s) c) p s (user_of m s) (context_on m p) m h

  tells_all : (p : ProcNo) (s : SpaceNo) (notes : List Note) (m : Machine U C) → Ordered m → Ordered (told_all f p s notes m)
  tells_all p s [] m h = h
  tells_all p s (note ∷ notes) m h =
      tells_all p s notes (told_one f p s note notes m)
      (let k : KernelState C = record m.kernel { telling = notes } in
      calls _ p s (user_of m s) (context_on m p) (record m { kernel = fetched note k }) (fetches w note k (h.0, h.1)))

  welcomes_in : (p : ProcNo) (o : Option SpaceNo) (m : Machine U C) → Ordered m → Ordered (welcomed_in f p o m)
  welcomes_in p None m h = h
  welcomes_in p (Some s) m h =
      answers p s (told_all f p s m.kernel.telling (context_begun f p s m))
      (tells_all p s m.kernel.telling (context_begun f p s m) (begins p s (seen_on m p s) (user_of m s) m h))

  welcomes : (p : ProcNo) (b : Bool) (m : Machine U C) → Ordered m → Ordered (welcomed_if f p b m)
  welcomes p false m h = h
  welcomes p true m h = welcomes_in p (owner_of m.kernel p) m h

  kernel_enters : (p : ProcNo) (a : ActNo) (en : Entry C) (m : Machine U C) → Ordered m → Ordered (kernel_entered p a en m)
  kernel_enters p a en m h = closes w m.event p (entered_as m.event p a en (scene_of m)) (enters w m.event p a en (scene_of m) h)

  enters_on : (p : ProcNo) (a : ActNo) (en : Entry C) (m : Machine U C) → Ordered m → Ordered (entered_on f p a en m)
  enters_on p a en m h = welcomes p (upcalls m.kernel p en) (kernel_entered p a en m) (kernel_enters p a en m h)

  answers_in : (p : ProcNo) (o : Option SpaceNo) (m : Machine U C) → Ordered m → Ordered (answered_in f p o m)
  answers_in p None m h = h
  answers_in p (Some s) m h = answers p s m h

  hints : (p : ProcNo) (a : ActNo) (en : Entry C) (m : Machine U C) → Ordered m → Ordered (hinted f p a en m)
  hints p a en m h =
      let x = kernel_entered p a en m in
      answers_in p (owner_of x.kernel p) x (kernel_enters p a en m h)

  slices_if : (p : ProcNo) (b : Bool) (m : Machine U C) → Ordered m → Ordered (sliced_if p b m)
  slices_if p false m h = h
  slices_if p true m h = closes w m.event p (scene_of m) h

  stops_by : (p : ProcNo) (a : ActNo) (n : ℕ) (page : Option ℕ) (i : Option (Stopped C)) (m : Machine U C) → Ordered m → Ordered (blocked_by f p a n page i m)
  stops_by p a n page None m h = h
  stops_by p a n page (Some i) m h = enters_on p a (BlockEntry i n page) m h

  asks : (p : ProcNo) (a : ActNo) (step : Step) (m : Machine U C) → Ordered m → Ordered (asked f p a step m)
  asks p a Did m h = slices_if p (ends_slice m) m h
  asks p a (Block n page) m h = stops_by p a n page (stopped_in f m p (owner_of m.kernel p)) (without_context p m) h
  asks p a (More n) m h = hints p a (MoreEntry n) m h
  asks p a Idle m h = hints p a IdleEntry m h
  asks p a GiveBack m h = hints p a GiveBackEntry m h
  asks p a (InterruptOwn q) m h = hints p a (InterruptOwnEntry q) m h

  steps_by : (p : ProcNo) (s : SpaceNo) (seen : Seen) (o : Option U) (c : Option C) (m : Machine U C) → Ordered m → Ordered (stepped_by f p s seen o c m).0
  steps_by p s seen None c m h = h
  steps_by p s seen (Some u) None m h = h
  steps_by p s seen (Some u) (Some c) m h = h

  turns_owned : (p : ProcNo) (a : ActNo) (o : Option SpaceNo) (m : Machine U C) → Ordered m → Ordered (turned_owned f p a o m)
  turns_owned p a None m h = slices_if p (ends_slice (ticked p m)) (ticked p m) h
  turns_owned p a (Some s) m h = asks p a (stepped f p s m).1 (stepped f p s m).0 (steps_by p s (seen_on m p s) (user_of m s) (context_on m p) m h)

  turns_due : (p : ProcNo) (a : ActNo) (o : Option IoNo) (m : Machine U C) → Ordered m → Ordered (turned_due f p a o m)
  turns_due p a None m h = turns_owned p a (owner_of m.kernel p) m h
  turns_due p a (Some io) m h = enters_on p a (Complete io) m h

  turns_raised : (p : ProcNo) (a : ActNo) (o : Option ℕ) (m : Machine U C) → Ordered m → Ordered (turned_raised f p a o m)
  turns_raised p a None m h = turns_due p a (option_map io_no (due_of m.event m.kernel.under_way)) m h
  turns_raised p a (Some r) m h = enters_on p a (Interrupt (stopped_in f m p (owner_of m.kernel p))) (without_context p m) h

  pub turns : (p : ProcNo) (a : ActNo) (m : Machine U C) → Ordered m → Ordered (turned f p a m)
  turns p a m h = turns_raised p a (line_of m.kernel p) (next_event m) (h.0, h.1)

module _ {U C D : Type 0} (f : Calls U C) (plain : Option SpaceView → C → D) (IsMade : Option SpaceView → U → Type 0) (laws : IgnoresNumbers f plain IsMade)
    (stands : Standing U C) (keep : Keeps f stands) where
  pub alike-self : (m : Machine U C) → AlikeMachines plain m m
  alike-self m = record {
    workload = refl;
    kernel = record {
      fixed = refl;
      owners = refl;
      aims = refl;
      raised = λ p. refl;
      lines = refl;
      marks = refl;
      live = λ p. refl;
      lives = refl;
      taken = λ s. refl;
      takers = refl;
      demands = refl;
      untold = λ s. refl;
      spaces = refl;
      ios = refl;
      pages = refl;
      first = refl;
    };
    users = refl;
    contexts = λ p. refl;
    processors = refl;
    until = refl;
    beat = refl;
  }

  pub regular-turned : (m : Machine U C) (p : ProcNo) (a : ActNo) → IsBetween stands m → IsRegular IsMade m → p.0 < m.workload.processors → m.event < MAX_EVENTS
      → m.kernel.acts a.0 ≡ None → IsRegular IsMade (turned f p a m)
  regular-turned m p a between reg within few unused =
      let kept = turns f (fixed_of m.workload) p a m (reg.fixed, reg.numbered) in
      let rest = rests-turned f stands keep m p a between (omega arith) within unused in
      let both = turned-both f plain IsMade laws stands keep m m p a a between between reg reg within few few unused unused (alike-self m) in
      record {
        numbered = kept.1;
        fixed = kept.0 ∙ ap fixed_of (sym rest.workload);
        made = both.made;
      }
