-- A turn of one processor keeps machines alike, whichever numbers it takes on either.
use Rattle.std.proofs.Common.{◌≡◌, ◌≢◌, ℕ, ◌+◌, ◌-◌, ◌<◌, ◌≤◌, ◌⊎◌, Bool, true, false, leb, Option, Some, None, option_map, is_some, IfSome, List, [], ◌∷◌, length, map, get_or, refl, sym, ap, subst, ◌∙◌, inl, inr, arith}
use Rattle.std.proofs.lemmas.List.{get_or-set_other}
use Rattle.std.proofs.lemmas.Bool.{cond-true, cond-false, le-leb, lt-leb}
use Rattle.sa_base.specs.declared.number.ProcNo.{ProcNo}
use Rattle.sa_base.specs.declared.number.SpaceNo.{SpaceNo}
use Rattle.sa_base.specs.declared.number.ActNo.{ActNo}
use Rattle.sa_base.specs.declared.number.IoNo.{IoNo}
use Rattle.sa_base.specs.declared.limits.TheConstants.{MAX_EVENTS}
use Rattle.sa_base.specs.declared.context.Stopped.{Stopped}
use Rattle.sa_base.specs.Pages.{has_page}
use Rattle.sa_spaces.specs.Space.{SpaceView}
use Rattle.sa_spaces.specs.Workload.{WorkloadView}
use Rattle.sa_abstract.specs.Calls.{Calls}
use Rattle.sa_abstract.specs.Keeps.{Standing, Keeps, IsAsked}
use Rattle.sa_abstract.specs.declared.answer.Step.{Step}
use Rattle.sa_abstract.specs.declared.answer.Step.TheVariants.{Did, Block, More, Idle, GiveBack, InterruptOwn}
use Rattle.sa_devices.specs.Ios.{Io, io_no, due_of}
use Rattle.sa_kernel_model.specs.declared.entry.Entry.TheVariants.{Interrupt, Block as BlockEntry, Complete, More as MoreEntry, Idle as IdleEntry, GiveBack as GiveBackEntry, InterruptOwn as InterruptOwnEntry}
use Rattle.sa_kernel_model.specs.State.{KernelState, Scene, owner_of, aim_of, life_of, line_of, can_upcall}
use Rattle.sa_kernel_model.specs.Parts.{with_line, fetch_page, leave, moved, go_to_by}
use Rattle.sa_kernel_model.specs.Closing.{closed}
use Rattle.sa_kernel_model.specs.Entries.{IsOwnPage, stopped, go_to_aim, told_or_left, block_begun, blocked_by as kernel_blocked_by, interrupted as kernel_interrupted, blocked as kernel_blocked, over, over_for, more, idled, gave_back, kind_at}
use Rattle.sa_devices.specs.declared.kind.IoKind.{IoKind}
use Rattle.sa_devices.specs.declared.kind.IoKind.TheVariants.{Plain}
use Rattle.sa_kernel_model.specs.Enters.{upcalls_for, upcalls_in}
use Rattle.sa_kernel_model.proofs.sound.Held.{stays-closed}
use Rattle.sa_core_model.specs.Machine.{Machine, seen_on, scene_of, without_context, stopped_in, stepped, step_to}
use Rattle.sa_core_model.specs.Turn.{next_event, ticked, kernel_entered, welcomed_if, entered_on, blocked_by, blocked, interrupted, asked, turned_owned, turned_due, turned_raised, turned}
use Rattle.sa_core_model.specs.Run.{setting}
use Rattle.sa_core_model.specs.Standing.{IsBetween}
use Rattle.sa_core_model.proofs.Phases.{at-owned}
use Rattle.sa_core_model.proofs.Turns.{Rests, welcomed-upcall, stopped-is, can-interrupt, can-block, stepped-is, step-law, rests-stepped, own-page, rests-next, rests-between}
use Rattle.sa_assign.specs.AssignView.{AssignView}
use Rattle.sa_outlook.specs.Nameless.{NamelessIo, nameless_io, plain_held}
use Rattle.sa_outlook.specs.DueOrder.{in_order}
use Rattle.sa_outlook.specs.Outlook.{held_by}
use Rattle.sa_outlook.specs.UserLevels.{IgnoresNumbers}
use Rattle.sa_outlook.proofs.ios.DueOrder.{first_due, order, due-first}
use Rattle.sa_outlook.proofs.Invariant.{IsNumbered, IsRegular}
use Rattle.sa_outlook.proofs.Alike.{AlikeKernels, AlikeMachines}
use Rattle.sa_outlook.proofs.kernel.Closings.{AlikeScenes, closed-alike}
use Rattle.sa_outlook.proofs.kernel.Entries.{AlikeStops, over-alike, more-alike, idled-alike, gave-alike, own-alike, none-held, aimed-alike}
use Rattle.sa_outlook.proofs.kernel.Upcalls.{stopped-assign, IsReady, ToldAlike, told-closed, interrupted-alike, interrupted-told, blocked-alike}
use Rattle.sa_outlook.proofs.machine.Calls.{SameSteps, stepped-alike, stops-alike}
use Rattle.sa_outlook.proofs.machine.Phases.{Both, look_of, aside-both, entered-both, owners-both, hinted-both, ticked-both, sliced-both, welcomed-both}
use Rattle.sa_outlook.proofs.machine.EventBegins.{next-both}

-- WHOSE OWNER CHANGES
module _ {C : Type 0} where
  abbrev OthersStay : ProcNo → Scene C → Scene C → Type 0
  OthersStay p x y = (q : ℕ) → q ≢ p.0 → get_or y.state.assign.owners q None ≡ get_or x.state.assign.owners q None

  fetch-assign : (e : ℕ) (p : ProcNo) (s : SpaceNo) (b : Bool) (x : Scene C) → (fetch_page e p s b x).state.assign ≡ x.state.assign
  fetch-assign e p s true x = refl
  fetch-assign e p s false x = refl

  others-leave : (e : ℕ) (p : ProcNo) (s : SpaceNo) (x : Scene C) → OthersStay p x (leave e p s x)
  others-leave e p s x q apart =
      ap (λ (a : AssignView). get_or a.owners q None) (fetch-assign e p s _ _)
      ∙ get_or-set_other x.state.assign.owners p.0 q None None apart

  others-moved : (e : ℕ) (p : ProcNo) (s : SpaceNo) (owned : Bool) (x : Scene C) → OthersStay p x (moved e p s owned x)
  others-moved e p s true x q apart = refl
  others-moved e p s false x q apart = get_or-set_other x.state.assign.owners p.0 q (Some s) None apart

  others-go : (e : ℕ) (p : ProcNo) (s : SpaceNo) (a : ActNo) (owned can : Bool) (x : Scene C) → OthersStay p x (go_to_by e p s a owned can x)
  others-go e p s a owned false x = others-leave e p s x
  others-go e p s a owned true x = others-moved e p s owned x

  others-aim : (e : ℕ) (p : ProcNo) (a : ActNo) (aim : Option SpaceNo) (x : Scene C) → OthersStay p x (go_to_aim e p a aim x)
  others-aim e p a None x q apart = refl
  others-aim e p a (Some s) x q apart = others-go e p s a _ _ x q apart

  others-interrupted : (e : ℕ) (p : ProcNo) (a : ActNo) (h : Option (Stopped C)) (x : Scene C) → OthersStay p x (kernel_interrupted e p a h x)
  others-interrupted e p a h x q apart =
      let low : Scene C = record x { state = with_line p None x.state } in
      others-aim e p a (aim_of x.state p) (stopped e p (owner_of x.state p) (life_of x.state p) h low) q apart
      ∙ ap (λ (z : AssignView). get_or z.owners q None) (stopped-assign e p (owner_of x.state p) (life_of x.state p) h low)

  others-told : (e : ℕ) (p : ProcNo) (s : SpaceNo) (a : ActNo) (can : Bool) (x : Scene C) → OthersStay p x (told_or_left e p s a can x)
  others-told e p s a true x q apart = refl
  others-told e p s a false x q apart = others-leave e p s x q apart

  others-blocked_by : (e : ℕ) (p : ProcNo) (a : ActNo) (o : Option SpaceNo) (l : Option ActNo) (h : Stopped C) (n : ℕ) (page : Option ℕ) (x : Scene C)
      → OthersStay p x (kernel_blocked_by e p a o l h n page x)
  others-blocked_by e p a (Some s) (Some b) h n page x q apart = others-told e p s a (can_upcall x.state s) (block_begun e p s b h n page x) q apart
  others-blocked_by e p a _ _ h n page x q apart = refl

  others-closed : (e : ℕ) (p : ProcNo) (x y : Scene C) → OthersStay p x y → OthersStay p x (closed e p y)
  others-closed e p x y stay q apart =
      ap (λ (os : List (Option SpaceNo)). get_or os q None) (stays-closed e p y).owners ∙ stay q apart

  -- entries after which each processor has its owner
  owners-over_for : (e : ℕ) (p : ProcNo) (kind : IoKind) (x : Scene C) → (over_for e p kind x).state.assign ≡ x.state.assign
  owners-over_for e p (Plain s a) x = refl
  owners-over_for e p _ x = refl

  owners-over : (e : ℕ) (p : ProcNo) (io : IoNo) (kind : Option IoKind) (x : Scene C) → (over e p io kind x).state.assign.owners ≡ x.state.assign.owners
  owners-over e p io None x = refl
  owners-over e p io (Some kind) x = ap (λ (z : AssignView). z.owners) (owners-over_for e p kind _)

  owners-more : (e : ℕ) (p : ProcNo) (n : ℕ) (o : Option SpaceNo) (x : Scene C) → (more e p n o x).state.assign.owners ≡ x.state.assign.owners
  owners-more e p n None x = refl
  owners-more e p n (Some s) x = refl

  owners-idled : (e : ℕ) (p : ProcNo) (o : Option SpaceNo) (x : Scene C) → (idled e p o x).state.assign.owners ≡ x.state.assign.owners
  owners-idled e p None x = refl
  owners-idled e p (Some s) x = refl

  owners-gave : (e : ℕ) (p : ProcNo) (o : Option SpaceNo) (x : Scene C) → (gave_back e p o x).state.assign.owners ≡ x.state.assign.owners
  owners-gave e p None x = refl
  owners-gave e p (Some s) x = refl

-- WHICH I/O IS DUE
module _ {C D : Type 0} (look : ℕ → C → D) where
  -- the first in order of both
  pub record Firsts (k l : KernelState C) : Type 0 where
    pub a : Io
    pub b : Io
    pub rest : List Io
    pub others : List Io
    pub is_k : in_order k.under_way ≡ a ∷ rest
    pub is_l : in_order l.under_way ≡ b ∷ others

  -- both have none that is due, or the first in order is
  abbrev pub DueAlike : ℕ → ℕ → KernelState C → KernelState C → Type 0
  DueAlike e g k l =
      ((due_of e k.under_way ≡ None) × (due_of g l.under_way ≡ None))
      ⊎ ((h : Firsts k l) × (due_of e k.under_way ≡ Some h.a) × (due_of g l.under_way ≡ Some h.b))

  pub due-both : (e g : ℕ) (k l : KernelState C) → IsNumbered k → IsNumbered l → AlikeKernels look e g k l → DueAlike e g k l
  due-both e g k l num_k num_l was = go (in_order k.under_way) (in_order l.under_way) refl refl was.ios
    where
      due_k : due_of e k.under_way ≡ first_due e (in_order k.under_way)
      due_k = due-first e 0 k.io_count k.under_way num_k

      due_l : due_of g l.under_way ≡ first_due g (in_order l.under_way)
      due_l = due-first g 0 l.io_count l.under_way num_l

      go : (xs ys : List Io) → in_order k.under_way ≡ xs → in_order l.under_way ≡ ys
          → map (nameless_io look e (held_by k)) (in_order k.under_way) ≡ map (nameless_io look g (held_by l)) (in_order l.under_way)
          → DueAlike e g k l
      go [] [] is_k is_l same = inl (due_k ∙ ap (first_due e) is_k, due_l ∙ ap (first_due g) is_l)
      go [] (b ∷ ys) is_k is_l same =
          absurd (let z = ap (map (nameless_io look e (held_by k))) (sym is_k) ∙ same ∙ ap (map (nameless_io look g (held_by l))) is_l in cc)
      go (a ∷ xs) [] is_k is_l same =
          absurd (let z = ap (map (nameless_io look e (held_by k))) (sym is_k) ∙ same ∙ ap (map (nameless_io look g (held_by l))) is_l in cc)
      go (a ∷ xs) (b ∷ ys) is_k is_l same =
          let z : nameless_io look e (held_by k) a ∷ map (nameless_io look e (held_by k)) xs
          ≡ nameless_io look g (held_by l) b ∷ map (nameless_io look g (held_by l)) ys =
          ap (map (nameless_io look e (held_by k))) (sym is_k) ∙ same ∙ ap (map (nameless_io look g (held_by l))) is_l in
          let head : nameless_io look e (held_by k) a ≡ nameless_io look g (held_by l) b = cc in
          let left : a.ends - e ≡ b.ends - g = ap (λ (s : NamelessIo D). s.left) head in
          let dk = due_k ∙ ap (first_due e) is_k in
          let dl = due_l ∙ ap (first_due g) is_l in
          elim (order a.ends e) [
            | inl h ↦ inr (
              record { a = a; b = b; rest = xs; others = ys; is_k = is_k; is_l = is_l },
              dk ∙ cond-true (leb a.ends e) (Some a) None (le-leb a.ends e h),
              dl ∙ cond-true (leb b.ends g) (Some b) None (le-leb b.ends g (omega arith)),
            )
            | inr h ↦ inl (
              dk ∙ cond-false (leb a.ends e) (Some a) None (lt-leb a.ends e h),
              dl ∙ cond-false (leb b.ends g) (Some b) None (lt-leb b.ends g (omega arith)),
            )
          ]

module _ {U C D : Type 0} (f : Calls U C) (plain : Option SpaceView → C → D) (IsMade : Option SpaceView → U → Type 0) (laws : IgnoresNumbers f plain IsMade)
    (stands : Standing U C) (keep : Keeps f stands) where
  abbrev pub Two : Machine U C → Machine U C → Type 0
  Two m n = Both f plain IsMade laws m n

  abbrev Stay : WorkloadView → ℕ → ℕ → Machine U C → Type 0
  Stay w e g m = Rests f stands keep w e g m

  ready : (w : WorkloadView) (e g : ℕ) (m : Machine U C) (p : ProcNo) (a : ActNo) → Stay w e g m → p.0 < length m.kernel.lives → m.kernel.acts a.0 ≡ None
      → IsReady (look_of f plain IsMade laws m) m.kernel p a
  ready w e g m p a rest within unused = record {
    formed = rest.standing.sound.formed;
    told_to = rest.standing.sound.claimed.told_to;
    claimed = rest.standing.sound.claimed.once;
    unused = unused;
    within = within;
  }

  ready_as : (w : WorkloadView) (e g : ℕ) (m n : Machine U C) (p : ProcNo) (a : ActNo) → Stay w e g n → p.0 < length n.kernel.lives → n.kernel.acts a.0 ≡ None
      → IsReady (look_of f plain IsMade laws m) n.kernel p a
  ready_as w e g m n p a rest within unused = record {
    formed = rest.standing.sound.formed;
    told_to = rest.standing.sound.claimed.told_to;
    claimed = rest.standing.sound.claimed.once;
    unused = unused;
    within = within;
  }

  -- AN INTERRUPT

  upcalls-same : (m n : Machine U C) (p : ProcNo) → Two m n → upcalls_for m.kernel (aim_of m.kernel p) ≡ upcalls_for n.kernel (aim_of n.kernel p)
  upcalls-same m n p was =
      ap (λ (o : Option SpaceNo). upcalls_for m.kernel o) (aimed-alike (look_of f plain IsMade laws m) m.event n.event m.kernel n.kernel was.alike.kernel p)
      ∙ by-pages (aim_of n.kernel p)
    where
      by-pages : (o : Option SpaceNo) → upcalls_for m.kernel o ≡ upcalls_for n.kernel o
      by-pages None = refl
      by-pages (Some s) = ap (λ (ps : List ℕ). has_page (get_or ps s.0 0) 0) was.alike.kernel.pages

  interrupted-both : (w v : WorkloadView) (e g i j : ℕ) (m n : Machine U C) (p : ProcNo) (a b : ActNo) (raised risen : ℕ) → Stay w e g m → Stay v i j n
      → p.0 < length m.kernel.lives → p.0 < length n.kernel.lives → line_of m.kernel p ≡ Some raised → line_of n.kernel p ≡ Some risen
      → m.kernel.acts a.0 ≡ None → n.kernel.acts b.0 ≡ None → Two m n → Two (interrupted f p a m) (interrupted f p b n)
  interrupted-both w v e g i j m n p a b raised risen rm rn wm wn lm ln um un was =
      subst (λ (t : Bool). Two (welcomed_if f p (upcalls_for m.kernel (aim_of m.kernel p)) x) (welcomed_if f p t y)) (upcalls-same m n p was)
      (go (upcalls_for m.kernel (aim_of m.kernel p)) refl)
    where
      look : ℕ → C → D
      look = look_of f plain IsMade laws m

      h : Option (Stopped C)
      h = stopped_in f m p (owner_of m.kernel p)

      k : Option (Stopped C)
      k = stopped_in f n p (owner_of n.kernel p)

      x : Machine U C
      x = kernel_entered p a (Interrupt h) (without_context p m)

      y : Machine U C
      y = kernel_entered p b (Interrupt k) (without_context p n)

      sx : Scene C
      sx = kernel_interrupted m.event p a h (scene_of m)

      sy : Scene C
      sy = kernel_interrupted n.event p b k (scene_of n)

      at_m : IsReady look m.kernel p a
      at_m = ready w e g m p a rm wm um

      at_n : IsReady look n.kernel p b
      at_n = ready_as v i j m n p b rn wn un

      stops : AlikeStops look (owner_of m.kernel p) h k
      stops = stops-alike f plain IsMade laws p m n was

      kernels : AlikeScenes look m.event n.event sx sy
      kernels = interrupted-alike look m.event n.event p a b h k (scene_of m) (scene_of n) at_m at_n stops was.alike.kernel

      both : Two x y
      both =
          let cx = closed m.event p sx in
          let cy = closed n.event p sy in
          aside-both f plain IsMade laws m n p cx.state cy.state cx.items cy.items was (closed-alike look m.event n.event p sx sy kernels)
          (others-closed m.event p (scene_of m) sx (others-interrupted m.event p a h (scene_of m)))
          (others-closed n.event p (scene_of n) sy (others-interrupted n.event p b k (scene_of n)))

      go : (t : Bool) → upcalls_for m.kernel (aim_of m.kernel p) ≡ t → Two (welcomed_if f p t x) (welcomed_if f p t y)
      go false up = both
      go true up =
          let can_m = can-interrupt f stands keep w e g m p a raised rm wm lm um in
          let can_n = can-interrupt f stands keep v i j n p b risen rn wn ln un in
          welcomed-both f plain IsMade laws stands keep w v e g i j p x y
          (welcomed-upcall f stands keep w e g m p a (Interrupt h) can_m.state rm wm can_m.fit um can_m.pauses up)
          (welcomed-upcall f stands keep v i j n p b (Interrupt k) can_n.state rn wn can_n.fit un can_n.pauses (sym (upcalls-same m n p was) ∙ up))
          (told-closed look m.event n.event p sx sy
          (interrupted-told look m.event n.event p a b h k (scene_of m) (scene_of n) at_m at_n stops up was.alike.kernel))
          both

  -- A BLOCK

  upcalls_in-same : (m n : Machine U C) (p : ProcNo) → Two m n
      → upcalls_in m.kernel (owner_of m.kernel p) (life_of m.kernel p) ≡ upcalls_in n.kernel (owner_of n.kernel p) (life_of n.kernel p)
  upcalls_in-same m n p was =
      by-parts (owner_of m.kernel p) (life_of m.kernel p) (life_of n.kernel p) (was.alike.kernel.live p.0)
      ∙ ap (λ (o : Option SpaceNo). upcalls_in n.kernel o (life_of n.kernel p)) (owners-both f plain IsMade laws m n p was)
    where
      by-parts : (o : Option SpaceNo) (c d : Option ActNo) → is_some c ≡ is_some d → upcalls_in m.kernel o c ≡ upcalls_in n.kernel o d
      by-parts None c d same = refl
      by-parts (Some s) None None same = refl
      by-parts (Some s) None (Some d) same = absurd cc
      by-parts (Some s) (Some c) None same = absurd cc
      by-parts (Some s) (Some c) (Some d) same = ap (λ (ps : List ℕ). has_page (get_or ps s.0 0) 0) was.alike.kernel.pages

  held-both : (w v : WorkloadView) (e g i j : ℕ) (m n : Machine U C) (p : ProcNo) (a b : ActNo) (s : SpaceNo) (len : ℕ) (page : Option ℕ) (h k : Stopped C)
      → Stay w e g m → Stay v i j n → p.0 < length m.kernel.lives → p.0 < length n.kernel.lives → owner_of m.kernel p ≡ Some s
      → line_of m.kernel p ≡ None → line_of n.kernel p ≡ None → m.kernel.acts a.0 ≡ None → n.kernel.acts b.0 ≡ None → IfSome page IsOwnPage
      → stopped_in f m p (owner_of m.kernel p) ≡ Some h → stopped_in f n p (owner_of n.kernel p) ≡ Some k → Two m n
      → Two (entered_on f p a (BlockEntry h len page) (without_context p m)) (entered_on f p b (BlockEntry k len page) (without_context p n))
  held-both w v e g i j m n p a b s len page h k rm rn wm wn owner lm ln um un own is_h is_k was =
      subst (λ (t : Bool). Two (welcomed_if f p (upcalls_in m.kernel (owner_of m.kernel p) (life_of m.kernel p)) x) (welcomed_if f p t y))
      (upcalls_in-same m n p was)
      (go (upcalls_in m.kernel (owner_of m.kernel p) (life_of m.kernel p)) refl)
    where
      look : ℕ → C → D
      look = look_of f plain IsMade laws m

      x : Machine U C
      x = kernel_entered p a (BlockEntry h len page) (without_context p m)

      y : Machine U C
      y = kernel_entered p b (BlockEntry k len page) (without_context p n)

      sx : Scene C
      sx = kernel_blocked m.event p a h len page (scene_of m)

      sy : Scene C
      sy = kernel_blocked n.event p b k len page (scene_of n)

      at_m : IsReady look m.kernel p a
      at_m = ready w e g m p a rm wm um

      at_n : IsReady look n.kernel p b
      at_n = ready_as v i j m n p b rn wn un

      stops : AlikeStops look (owner_of m.kernel p) (Some h) (Some k)
      stops t is =
          ap (plain_held look t.0) (sym is_h) ∙ stops-alike f plain IsMade laws p m n was t is ∙ ap (plain_held look t.0) is_k

      owner_n : owner_of n.kernel p ≡ Some s
      owner_n = sym (owners-both f plain IsMade laws m n p was) ∙ owner

      kernels : AlikeScenes look m.event n.event sx sy
          × (upcalls_in m.kernel (owner_of m.kernel p) (life_of m.kernel p) ≡ true → ToldAlike look p sx.state sy.state)
      kernels = blocked-alike look m.event n.event p a b h k len page (scene_of m) (scene_of n) at_m at_n stops was.alike.kernel

      both : Two x y
      both =
          let cx = closed m.event p sx in
          let cy = closed n.event p sy in
          aside-both f plain IsMade laws m n p cx.state cy.state cx.items cy.items was (closed-alike look m.event n.event p sx sy kernels.0)
          (others-closed m.event p (scene_of m) sx (others-blocked_by m.event p a (owner_of m.kernel p) (life_of m.kernel p) h len page (scene_of m)))
          (others-closed n.event p (scene_of n) sy (others-blocked_by n.event p b (owner_of n.kernel p) (life_of n.kernel p) k len page (scene_of n)))

      go : (t : Bool) → upcalls_in m.kernel (owner_of m.kernel p) (life_of m.kernel p) ≡ t → Two (welcomed_if f p t x) (welcomed_if f p t y)
      go false up = both
      go true up =
          let can_m = can-block f stands keep w e g m p a s len page h rm owner lm um own is_h in
          let can_n = can-block f stands keep v i j n p b s len page k rn owner_n ln un own is_k in
          welcomed-both f plain IsMade laws stands keep w v e g i j p x y
          (welcomed-upcall f stands keep w e g m p a (BlockEntry h len page) can_m.state rm wm can_m.fit um can_m.pauses up)
          (welcomed-upcall f stands keep v i j n p b (BlockEntry k len page) can_n.state rn wn can_n.fit un can_n.pauses (sym (upcalls_in-same m n p was) ∙ up))
          (told-closed look m.event n.event p sx sy (kernels.1 up)) both

  blocked-both : (w v : WorkloadView) (e g i j : ℕ) (m n : Machine U C) (p : ProcNo) (a b : ActNo) (s : SpaceNo) (len : ℕ) (page : Option ℕ)
      → Stay w e g m → Stay v i j n → owner_of m.kernel p ≡ Some s
      → line_of m.kernel p ≡ None → line_of n.kernel p ≡ None → m.kernel.acts a.0 ≡ None → n.kernel.acts b.0 ≡ None → IfSome page IsOwnPage
      → Two m n → Two (blocked f p a len page m) (blocked f p b len page n)
  blocked-both w v e g i j m n p a b s len page rm rn owner lm ln um un own was =
      let owner_n : owner_of n.kernel p ≡ Some s = sym (owners-both f plain IsMade laws m n p was) ∙ owner in
      let am = at-owned f stands keep e m p s rm.standing owner in
      let an = at-owned f stands keep i n p s rn.standing owner_n in
      let h : Stopped C = record { ctx = am.ctx; thread = f.thread am.user am.ctx; idle = f.idle am.user am.ctx } in
      let k : Stopped C = record { ctx = an.ctx; thread = f.thread an.user an.ctx; idle = f.idle an.user an.ctx } in
      let is_h = stopped-is f stands keep m p s am in
      let is_k = stopped-is f stands keep n p s an in
      subst (λ (o : Option (Stopped C)). Two (blocked_by f p a len page o (without_context p m)) (blocked f p b len page n)) (sym is_h)
      (subst (λ (o : Option (Stopped C)). Two (blocked_by f p a len page (Some h) (without_context p m)) (blocked_by f p b len page o (without_context p n)))
      (sym is_k)
      (held-both w v e g i j m n p a b s len page h k rm rn am.within an.within owner lm ln um un own is_h is_k was))

  -- WHAT A STEP ASKS FOR

  asked-both : (w v : WorkloadView) (e g i j : ℕ) (m n : Machine U C) (p : ProcNo) (a b : ActNo) (s : SpaceNo) (step : Step)
      → Stay w e g m → Stay v i j n → owner_of m.kernel p ≡ Some s
      → line_of m.kernel p ≡ None → line_of n.kernel p ≡ None → m.kernel.acts a.0 ≡ None → n.kernel.acts b.0 ≡ None
      → ((len : ℕ) (page : Option ℕ) → step ≡ Block len page → IfSome page IsOwnPage)
      → Two m n → Two (asked f p a step m) (asked f p b step n)
  asked-both w v e g i j m n p a b s Did rm rn owner lm ln um un own was = sliced-both f plain IsMade laws p m n was
  asked-both w v e g i j m n p a b s (Block len page) rm rn owner lm ln um un own was =
      blocked-both w v e g i j m n p a b s len page rm rn owner lm ln um un (own len page refl) was
  asked-both w v e g i j m n p a b s (More c) rm rn owner lm ln um un own was =
      let look = look_of f plain IsMade laws m in
      let os = owners-both f plain IsMade laws m n p was in
      let new = subst (λ (o : Option SpaceNo). AlikeScenes look m.event n.event (more m.event p c (owner_of m.kernel p) (scene_of m))
      (more n.event p c o (scene_of n))) os
      (more-alike look m.event n.event p c (owner_of m.kernel p) (scene_of m) (scene_of n) was.alike.kernel) in
      hinted-both f plain IsMade laws p a b (MoreEntry c) (MoreEntry c) m n
      (entered-both f plain IsMade laws p a b (MoreEntry c) (MoreEntry c) m n was new
      (owners-more m.event p c (owner_of m.kernel p) (scene_of m)) (owners-more n.event p c (owner_of n.kernel p) (scene_of n)))
  asked-both w v e g i j m n p a b s Idle rm rn owner lm ln um un own was =
      let look = look_of f plain IsMade laws m in
      let os = owners-both f plain IsMade laws m n p was in
      let new = subst (λ (o : Option SpaceNo). AlikeScenes look m.event n.event (idled m.event p (owner_of m.kernel p) (scene_of m))
      (idled n.event p o (scene_of n))) os
      (idled-alike look m.event n.event p (owner_of m.kernel p) (scene_of m) (scene_of n) was.alike.kernel) in
      hinted-both f plain IsMade laws p a b IdleEntry IdleEntry m n
      (entered-both f plain IsMade laws p a b IdleEntry IdleEntry m n was new
      (owners-idled m.event p (owner_of m.kernel p) (scene_of m)) (owners-idled n.event p (owner_of n.kernel p) (scene_of n)))
  asked-both w v e g i j m n p a b s GiveBack rm rn owner lm ln um un own was =
      let look = look_of f plain IsMade laws m in
      let os = owners-both f plain IsMade laws m n p was in
      let new = subst (λ (o : Option SpaceNo). AlikeScenes look m.event n.event (gave_back m.event p (owner_of m.kernel p) (scene_of m))
      (gave_back n.event p o (scene_of n))) os
      (gave-alike look m.event n.event p (owner_of m.kernel p) (scene_of m) (scene_of n) (none-held look m.kernel rm.standing.sound.formed)
      (none-held look n.kernel rn.standing.sound.formed) was.alike.kernel) in
      hinted-both f plain IsMade laws p a b GiveBackEntry GiveBackEntry m n
      (entered-both f plain IsMade laws p a b GiveBackEntry GiveBackEntry m n was new
      (owners-gave m.event p (owner_of m.kernel p) (scene_of m)) (owners-gave n.event p (owner_of n.kernel p) (scene_of n)))
  asked-both w v e g i j m n p a b s (InterruptOwn q) rm rn owner lm ln um un own was =
      hinted-both f plain IsMade laws p a b (InterruptOwnEntry q) (InterruptOwnEntry q) m n
      (entered-both f plain IsMade laws p a b (InterruptOwnEntry q) (InterruptOwnEntry q) m n was
      (own-alike (look_of f plain IsMade laws m) m.event n.event p q (scene_of m) (scene_of n) was.alike.kernel) refl refl)

  -- A TURN, IN AN EVENT THAT HAS BEGUN

  owned-both : (w v : WorkloadView) (e g i j : ℕ) (m n : Machine U C) (p : ProcNo) (a b : ActNo) (o : Option SpaceNo)
      → Stay w e g m → Stay v i j n → e < m.event → m.event ≤ MAX_EVENTS → i < n.event → n.event ≤ MAX_EVENTS → owner_of m.kernel p ≡ o
      → line_of m.kernel p ≡ None → line_of n.kernel p ≡ None → m.kernel.acts a.0 ≡ None → n.kernel.acts b.0 ≡ None
      → Two m n → Two (turned_owned f p a o m) (turned_owned f p b o n)
  owned-both w v e g i j m n p a b None rm rn later few later_n few_n owner lm ln um un was =
      sliced-both f plain IsMade laws p (ticked p m) (ticked p n) (ticked-both f plain IsMade laws p m n was)
  owned-both w v e g i j m n p a b (Some s) rm rn later few later_n few_n owner lm ln um un was =
      let owner_n : owner_of n.kernel p ≡ Some s = sym (owners-both f plain IsMade laws m n p was) ∙ owner in
      let am = at-owned f stands keep e m p s rm.standing owner in
      let an = at-owned f stands keep i n p s rn.standing owner_n in
      let r = f.stepped am.user (seen_on m p s) am.ctx in
      let q = f.stepped an.user (seen_on n p s) an.ctx in
      let is_m : stepped f p s m ≡ (step_to f p s r m, r.answer) = stepped-is f stands keep m p s am in
      let is_n : stepped f p s n ≡ (step_to f p s q n, q.answer) = stepped-is f stands keep n p s an in
      let law = step-law f stands keep e m p s rm.standing am later few in
      let both : SameSteps f plain IsMade laws (step_to f p s r m, r.answer) (step_to f p s q n, q.answer) =
      subst (λ (z : Machine U C × Step). SameSteps f plain IsMade laws z (step_to f p s q n, q.answer)) is_m
      (subst (λ (z : Machine U C × Step). SameSteps f plain IsMade laws (stepped f p s m) z) is_n (stepped-alike f plain IsMade laws p s m n owner was)) in
      let own : (len : ℕ) (page : Option ℕ) → r.answer ≡ Block len page → IfSome page IsOwnPage = λ len page is.
      own-page f stands keep page (subst (λ (z : Step). IsAsked (setting m.workload s.0 am.def) (seen_on m p s) z) is law.asked).2 in
      let done : Two (asked f p a r.answer (step_to f p s r m)) (asked f p b q.answer (step_to f p s q n)) =
      subst (λ (z : Step). Two (asked f p a r.answer (step_to f p s r m)) (asked f p b z (step_to f p s q n))) both.answer
      (asked-both w v g g j j (step_to f p s r m) (step_to f p s q n) p a b s r.answer
      (rests-stepped f stands keep w e g m p s rm am later few) (rests-stepped f stands keep v i j n p s rn an later_n few_n)
      owner lm ln um un own both.after) in
      subst (λ (z : Machine U C × Step). Two (asked f p a z.1 z.0) (turned_owned f p b (Some s) n)) (sym is_m)
      (subst (λ (z : Machine U C × Step). Two (asked f p a r.answer (step_to f p s r m)) (asked f p b z.1 z.0)) (sym is_n) done)

  due_io-both : (w v : WorkloadView) (e g i j : ℕ) (m n : Machine U C) (p : ProcNo) (a b : ActNo)
      → Stay w e g m → Stay v i j n → e < m.event → m.event ≤ MAX_EVENTS → i < n.event → n.event ≤ MAX_EVENTS
      → IsNumbered m.kernel → IsNumbered n.kernel
      → line_of m.kernel p ≡ None → line_of n.kernel p ≡ None → m.kernel.acts a.0 ≡ None → n.kernel.acts b.0 ≡ None
      → Two m n
      → Two (turned_due f p a (option_map io_no (due_of m.event m.kernel.under_way)) m)
      (turned_due f p b (option_map io_no (due_of n.event n.kernel.under_way)) n)
  due_io-both w v e g i j m n p a b rm rn later few later_n few_n num_m num_n lm ln um un was =
      elim (due-both (look_of f plain IsMade laws m) m.event n.event m.kernel n.kernel num_m num_n was.alike.kernel) [
        | inl none ↦
            subst (λ (o : Option Io). Two (turned_due f p a (option_map io_no o) m)
            (turned_due f p b (option_map io_no (due_of n.event n.kernel.under_way)) n)) (sym none.0)
            (subst (λ (o : Option Io). Two (turned_due f p a None m) (turned_due f p b (option_map io_no o) n)) (sym none.1)
            (subst (λ (o : Option SpaceNo). Two (turned_due f p a None m) (turned_owned f p b o n)) (owners-both f plain IsMade laws m n p was)
            (owned-both w v e g i j m n p a b (owner_of m.kernel p) rm rn later few later_n few_n refl lm ln um un was)))
        | inr some ↦
            let h = some.0 in
            let new = over-alike (look_of f plain IsMade laws m) m.event n.event p (scene_of m)
            (scene_of n) h.a h.b h.rest h.others num_m num_n h.is_k h.is_l was.alike.kernel in
            subst (λ (o : Option Io). Two (turned_due f p a (option_map io_no o) m)
            (turned_due f p b (option_map io_no (due_of n.event n.kernel.under_way)) n)) (sym some.1)
            (subst (λ (o : Option Io). Two (turned_due f p a (Some (io_no h.a)) m) (turned_due f p b (option_map io_no o) n)) (sym some.2)
            (entered-both f plain IsMade laws p a b (Complete (io_no h.a)) (Complete (io_no h.b)) m n was new
            (owners-over m.event p (io_no h.a) (kind_at h.a.number m.kernel.under_way) (scene_of m))
            (owners-over n.event p (io_no h.b) (kind_at h.b.number n.kernel.under_way) (scene_of n))))
      ]

  raised-both : (w v : WorkloadView) (e g i j : ℕ) (m n : Machine U C) (p : ProcNo) (a b : ActNo) (x y : Option ℕ)
      → Stay w e g m → Stay v i j n → e < m.event → m.event ≤ MAX_EVENTS → i < n.event → n.event ≤ MAX_EVENTS
      → p.0 < length m.kernel.lives → p.0 < length n.kernel.lives → IsNumbered m.kernel → IsNumbered n.kernel
      → is_some x ≡ is_some y → line_of m.kernel p ≡ x → line_of n.kernel p ≡ y → m.kernel.acts a.0 ≡ None → n.kernel.acts b.0 ≡ None
      → Two m n → Two (turned_raised f p a x m) (turned_raised f p b y n)
  raised-both w v e g i j m n p a b None None rm rn later few later_n few_n wm wn num_m num_n same lm ln um un was =
      due_io-both w v e g i j m n p a b rm rn later few later_n few_n num_m num_n lm ln um un was
  raised-both w v e g i j m n p a b (Some x) (Some y) rm rn later few later_n few_n wm wn num_m num_n same lm ln um un was =
      interrupted-both w v e g i j m n p a b x y rm rn wm wn lm ln um un was
  raised-both w v e g i j m n p a b _ _ rm rn later few later_n few_n wm wn num_m num_n same lm ln um un was = absurd cc

  -- ONE TURN
  pub turned-both : (m n : Machine U C) (p : ProcNo) (a b : ActNo) → IsBetween stands m → IsBetween stands n → IsRegular IsMade m → IsRegular IsMade n
      → p.0 < m.workload.processors → m.event < MAX_EVENTS → n.event < MAX_EVENTS → m.kernel.acts a.0 ≡ None → n.kernel.acts b.0 ≡ None
      → AlikeMachines plain m n → Two (turned f p a m) (turned f p b n)
  turned-both m n p a b bm bn reg_m reg_n within few few_n um un was =
      let w = m.workload in
      let v = n.workload in
      let first : Two (next_event m) (next_event n) =
      next-both f plain IsMade laws m n reg_m.fixed bm.standing.sound.formed.sizes.some_space (record { alike = was; made = reg_m.made }) in
      let rm = rests-next f stands keep w m.event m.event m (rests-between f stands keep m bm) in
      let rn = rests-next f stands keep v n.event n.event n (rests-between f stands keep n bn) in
      let lives = was.kernel.lives in
      raised-both w v m.event (m.event + 1) n.event (n.event + 1) (next_event m) (next_event n) p a b (line_of m.kernel p) (line_of n.kernel p) rm rn
      (omega arith) (omega arith) (omega arith) (omega arith) (omega (arith, within, bm.standing.lives)) (omega (arith, within, bm.standing.lives, lives))
      reg_m.numbered reg_n.numbered (was.kernel.raised p.0) refl refl um un first
