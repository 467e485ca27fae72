-- The closing of an event keeps kernels alike: the same spaces want, the same aims change, the same lines are raised.
use Rattle.std.proofs.Common.{◌≡◌, ℕ, zero, suc, ◌+◌, Bool, true, false, ◌&&◌, ◌||◌, not, min, cond, eqb, Option, Some, None, is_some, is_none, List, [], ◌∷◌, length, map, get_or, refl, sym, ap, subst, ◌∙◌}
use Rattle.std.specs.List.{list_any}
use Rattle.std.proofs.Math.Path.{fun_ext}
use Rattle.std.proofs.lemmas.List.{length-set}
use Rattle.sa_base.specs.declared.number.ProcNo.{ProcNo}
use Rattle.sa_base.specs.declared.number.SpaceNo.{SpaceNo}
use Rattle.sa_base.specs.declared.record.Note.{Note}
use Rattle.sa_base.specs.declared.record.Note.TheVariants.{Preempted}
use Rattle.sa_base.specs.declared.context.Stopped.{Stopped}
use Rattle.sa_share.specs.declared.Claim.{Claim}
use Rattle.sa_share.specs.Rounds.{shares_of}
use Rattle.sa_acts.specs.Table.{held_of}
use Rattle.sa_assign.specs.Aims.{Change, aimed, is_aim, least_below, changes, aims_after}
use Rattle.sa_assign.specs.Reaim.{proc_no, line_at, raised, lines_with, lines_after, changes_in}
use Rattle.sa_batch.specs.Notices.{has_untold}
use Rattle.sa_devices.specs.declared.kind.IoKind.{IoKind}
use Rattle.sa_devices.specs.declared.kind.IoKind.TheVariants.{Plain}
use Rattle.sa_devices.specs.Ios.{Io, fetches, is_fetch_of}
use Rattle.sa_kernel_model.specs.State.{KernelState, Scene, owner_of, aim_of, line_of, demand_of, untold_of, is_fetching, Fixed}
use Rattle.sa_kernel_model.specs.Closing.{for_spaces, spaces, was_idle, calls_for, must_want, want_one, want_for, wants, claim_of, claims_from, claims, first_space, shares, aims, is_told_by, has_low_line, must_interrupt, interrupt, interrupt_one, interrupt_for, lines, closed}
use Rattle.sa_outlook.specs.Nameless.{Held, PlainStopped, NamelessNote, NamelessKind, NamelessIo, plain_held, nameless_note, nameless_notes, nameless_kind, nameless_io}
use Rattle.sa_outlook.specs.DueOrder.{in_order}
use Rattle.sa_outlook.specs.Outlook.{held_by}
use Rattle.sa_outlook.proofs.ios.WholeLists.{any-order}
use Rattle.sa_outlook.proofs.ListsAlike.{each-set}
use Rattle.sa_outlook.proofs.Alike.{AlikeKernels}
use Rattle.sa_outlook.proofs.kernel.Parts.{alike-demand, alike-line}

-- WHAT NOTICES AND I/OS SAY WITHOUT THEIR NUMBERS

abbrev pub is_plainly_idle : {D : Type 0} → Option (PlainStopped D) → Bool
is_plainly_idle None = false
is_plainly_idle (Some x) = x.idle

abbrev pub nameless_calls : {D : Type 0} → NamelessNote D → Bool
nameless_calls (NamelessNote.preempted x) = not (is_plainly_idle x)
nameless_calls (NamelessNote.unblocked x) = true
nameless_calls _ = false

abbrev pub has_notes : {D : Type 0} → List (NamelessNote D) → Bool
has_notes [] = false
has_notes (w ∷ ws) = true

abbrev pub kind_fetches : {D : Type 0} → ℕ → NamelessKind D → Bool
kind_fetches s (NamelessKind.upcall t) = eqb t.0 s
kind_fetches s _ = false

abbrev pub io_fetches : {D : Type 0} → ℕ → NamelessIo D → Bool
io_fetches s x = kind_fetches s x.kind

-- a claim by what it is made of
abbrev claim_at : ℕ → List ℕ → Bool → List ℕ → List (Option SpaceNo) → Claim
claim_at s ps b ds xs = record { priority = get_or ps s 0; want = cond b (min (get_or ds s 0) (aimed s xs)) (get_or ds s 0) }

is_none-some : {A : Type 0} (o : Option A) → is_none o ≡ not (is_some o)
is_none-some None = refl
is_none-some (Some x) = refl

-- raised lines after changes of aims
pub lines-alike : (e g : ℕ) (xs ys : List (Option ℕ)) (cs : List Change) → length xs ≡ length ys
    → ((p : ℕ) → is_some (get_or xs p None) ≡ is_some (get_or ys p None))
    → (length (lines_after e xs cs) ≡ length (lines_after g ys cs))
    × ((p : ℕ) → is_some (get_or (lines_after e xs cs) p None) ≡ is_some (get_or (lines_after g ys cs) p None))
lines-alike e g xs ys [] size each = (size, each)
lines-alike e g xs ys (c ∷ cs) size each =
    let x : Option ℕ = raised e (line_at xs c.proc) in
    let y : Option ℕ = raised g (line_at ys c.proc) in
    lines-alike e g (lines_with e xs c) (lines_with g ys c) cs
    (length-set xs c.proc x ∙ size ∙ sym (length-set ys c.proc y))
    (each-set (λ (i : ℕ) (a b : Option ℕ). is_some a ≡ is_some b) None None xs ys c.proc x y size
    (risen e (line_at xs c.proc) ∙ sym (risen g (line_at ys c.proc))) each)
  where
    risen : (n : ℕ) (o : Option ℕ) → is_some (raised n o) ≡ true
    risen n None = refl
    risen n (Some m) = refl

module _ {C D : Type 0} (look : ℕ → C → D) where
  note-calls : (k : KernelState C) (s : ℕ) (note : Note) → calls_for k note ≡ nameless_calls (nameless_note look s (held_by k) note)
  note-calls k s (Preempted a) = go (held_of (k.acts a.0))
    where
      go : (h : Option (Stopped C)) → not (was_idle h) ≡ not (is_plainly_idle (plain_held look s h))
      go None = refl
      go (Some h) = refl
  note-calls k s _ = refl

  notes-call : (k : KernelState C) (s : ℕ) (notes : List Note)
      → list_any (calls_for k) notes ≡ list_any nameless_calls (nameless_notes look s (held_by k) notes)
  notes-call k s [] = refl
  notes-call k s (note ∷ notes) =
      ap (λ (b : Bool). b || list_any (calls_for k) notes) (note-calls k s note)
      ∙ ap (λ (b : Bool). nameless_calls (nameless_note look s (held_by k) note) || b) (notes-call k s notes)

  notes-some : (held : Held C) (s : ℕ) (notes : List Note) → has_untold notes ≡ has_notes (nameless_notes look s held notes)
  notes-some held s [] = refl
  notes-some held s (note ∷ notes) = refl

  one-fetches : (held : Held C) (s : ℕ) (kind : IoKind) → is_fetch_of s kind ≡ kind_fetches s (nameless_kind look held kind)
  one-fetches held s (Plain t a) = refl
  one-fetches held s _ = refl

  ios-fetch : (e : ℕ) (held : Held C) (s : ℕ) (ios : List Io) → list_any (fetches s) ios ≡ list_any (io_fetches s) (map (nameless_io look e held) ios)
  ios-fetch e held s [] = refl
  ios-fetch e held s (io ∷ ios) =
      ap (λ (b : Bool). b || list_any (fetches s) ios) (one-fetches held s io.kind)
      ∙ ap (λ (b : Bool). kind_fetches s (nameless_kind look held io.kind) || b) (ios-fetch e held s ios)

  pub calls-alike : (e g : ℕ) (k l : KernelState C) → AlikeKernels look e g k l → (s : ℕ)
      → list_any (calls_for k) (untold_of k s) ≡ list_any (calls_for l) (untold_of l s)
  calls-alike e g k l was s =
      notes-call k s (untold_of k s) ∙ ap (list_any nameless_calls) (was.untold s) ∙ sym (notes-call l s (untold_of l s))

  pub untold-alike : (e g : ℕ) (k l : KernelState C) → AlikeKernels look e g k l → (s : ℕ) → has_untold (untold_of k s) ≡ has_untold (untold_of l s)
  untold-alike e g k l was s = notes-some (held_by k) s (untold_of k s) ∙ ap has_notes (was.untold s) ∙ sym (notes-some (held_by l) s (untold_of l s))

  pub fetching-alike : (e g : ℕ) (k l : KernelState C) → AlikeKernels look e g k l → (s : ℕ) → is_fetching k s ≡ is_fetching l s
  fetching-alike e g k l was s =
      sym (any-order (fetches s) k.under_way) ∙ ios-fetch e (held_by k) s (in_order k.under_way)
      ∙ ap (list_any (io_fetches s)) was.ios
      ∙ sym (ios-fetch g (held_by l) s (in_order l.under_way)) ∙ any-order (fetches s) l.under_way

  -- scenes whose kernels are alike
  abbrev pub AlikeScenes : ℕ → ℕ → Scene C → Scene C → Type 0
  AlikeScenes e g x y = AlikeKernels look e g x.state y.state

  pub for_spaces-alike : (e g : ℕ) (f h : ℕ → Scene C → Scene C) → ((s : ℕ) (x y : Scene C) → AlikeScenes e g x y → AlikeScenes e g (f s x) (h s y))
      → (s n : ℕ) (x y : Scene C) → AlikeScenes e g x y → AlikeScenes e g (for_spaces f s n x) (for_spaces h s n y)
  for_spaces-alike e g f h step s zero x y was = was
  for_spaces-alike e g f h step s (suc n) x y was = for_spaces-alike e g f h step (s + 1) n (f s x) (h s y) (step s x y was)

  -- WANTS

  must_want-alike : (e g : ℕ) (k l : KernelState C) → AlikeKernels look e g k l → (s : ℕ) → must_want k s ≡ must_want l s
  must_want-alike e g k l was s =
      ap (λ (b : Bool). eqb (demand_of k s) 0 && b) (calls-alike e g k l was s)
      ∙ ap (λ (ds : List ℕ). eqb (get_or ds s 0) 0 && list_any (calls_for l) (untold_of l s)) was.demands

  want_one-alike : (e g : ℕ) (p : ProcNo) (b : Bool) (s : ℕ) (x y : Scene C) → AlikeScenes e g x y → AlikeScenes e g (want_one e p b s x) (want_one g p b s y)
  want_one-alike e g p false s x y was = was
  want_one-alike e g p true s x y was = alike-demand look e g x.state y.state s 1 was

  want-alike : (e g : ℕ) (p : ProcNo) (s : ℕ) (x y : Scene C) → AlikeScenes e g x y → AlikeScenes e g (want_for e p s x) (want_for g p s y)
  want-alike e g p s x y was =
      subst (λ (b : Bool). AlikeScenes e g (want_one e p (must_want x.state s) s x) (want_one g p b s y)) (must_want-alike e g x.state y.state was s)
      (want_one-alike e g p (must_want x.state s) s x y was)

  wants-alike : (e g : ℕ) (p : ProcNo) (x y : Scene C) → AlikeScenes e g x y → AlikeScenes e g (wants e p x) (wants g p y)
  wants-alike e g p x y was =
      subst (λ (n : ℕ). AlikeScenes e g (wants e p x) (for_spaces (want_for g p) 0 n y)) (ap (λ (ds : List ℕ). length ds) was.demands)
      (for_spaces-alike e g (want_for e p) (want_for g p) (want-alike e g p) 0 (spaces x.state) x y was)

  -- AIMS

  claim-alike : (e g : ℕ) (k l : KernelState C) → AlikeKernels look e g k l → (s : ℕ) → claim_of k s ≡ claim_of l s
  claim-alike e g k l was s =
      ap (λ (ps : List ℕ). claim_at s ps (is_fetching k s) k.demands k.assign.aims) (ap (λ (f : Fixed). f.priorities) was.fixed)
      ∙ ap (λ (b : Bool). claim_at s l.fixed.priorities b k.demands k.assign.aims) (fetching-alike e g k l was s)
      ∙ ap (λ (ds : List ℕ). claim_at s l.fixed.priorities (is_fetching l s) ds k.assign.aims) was.demands
      ∙ ap (λ (xs : List (Option SpaceNo)). claim_at s l.fixed.priorities (is_fetching l s) l.demands xs) was.aims

  claims-alike : (e g : ℕ) (k l : KernelState C) → AlikeKernels look e g k l → (s n : ℕ) → claims_from k s n ≡ claims_from l s n
  claims-alike e g k l was s zero = refl
  claims-alike e g k l was s (suc n) =
      ap (λ (c : Claim). c ∷ claims_from k (s + 1) n) (claim-alike e g k l was s)
      ∙ ap (λ (cs : List Claim). claim_of l s ∷ cs) (claims-alike e g k l was (s + 1) n)

  shares-alike : (e g : ℕ) (k l : KernelState C) → AlikeKernels look e g k l → shares k e ≡ shares l g
  shares-alike e g k l was =
      ap (λ (os : List (Option SpaceNo)). shares_of (length os) (first_space k e) (claims k)) was.owners
      ∙ ap (λ (n : ℕ). shares_of (length l.assign.owners) n (claims k)) was.first
      ∙ ap (λ (cs : List Claim). shares_of (length l.assign.owners) (first_space l g) cs)
      (claims-alike e g k l was 0 (spaces k) ∙ ap (λ (ds : List ℕ). claims_from l 0 (length ds)) was.demands)

  changes-alike : (e g : ℕ) (k l : KernelState C) → AlikeKernels look e g k l
      → changes_in (spaces k) (shares k e) k.assign ≡ changes_in (spaces l) (shares l g) l.assign
  changes-alike e g k l was =
      ap (λ (ds : List ℕ). changes (length ds) (shares k e) k.assign.marks k.assign.aims) was.demands
      ∙ ap (λ (ss : List ℕ). changes (spaces l) ss k.assign.marks k.assign.aims) (shares-alike e g k l was)
      ∙ ap (λ (ms : List Bool). changes (spaces l) (shares l g) ms k.assign.aims) was.marks
      ∙ ap (λ (xs : List (Option SpaceNo)). changes (spaces l) (shares l g) l.assign.marks xs) was.aims

  aims-alike : (e g : ℕ) (p : ProcNo) (x y : Scene C) → AlikeScenes e g x y → AlikeScenes e g (aims e p x) (aims g p y)
  aims-alike e g p x y was =
      let k = x.state in
      let l = y.state in
      let cs : List Change = changes_in (spaces k) (shares k e) k.assign in
      let ds : List Change = changes_in (spaces l) (shares l g) l.assign in
      let same : cs ≡ ds = changes-alike e g k l was in
      let two = lines-alike e g k.assign.lines l.assign.lines cs was.lines was.raised in
      record {
        fixed = was.fixed;
        owners = was.owners;
        aims = ap (λ (xs : List (Option SpaceNo)). aims_after xs cs) was.aims ∙ ap (λ (zs : List Change). aims_after l.assign.aims zs) same;
        raised = λ q. two.1 q ∙ ap (λ (zs : List Change). is_some (get_or (lines_after g l.assign.lines zs) q None)) same;
        lines = two.0 ∙ ap (λ (zs : List Change). length (lines_after g l.assign.lines zs)) same;
        marks = was.marks;
        live = was.live;
        lives = was.lives;
        taken = was.taken;
        takers = was.takers;
        demands = was.demands;
        untold = was.untold;
        spaces = was.spaces;
        ios = was.ios;
        pages = was.pages;
        first = was.first;
      }

  -- LINES

  told_by-alike : (e g : ℕ) (k l : KernelState C) → AlikeKernels look e g k l → (s q : ℕ) → is_told_by k s q ≡ is_told_by l s q
  told_by-alike e g k l was s q =
      ap (λ (os : List (Option SpaceNo)). is_aim s (get_or os q None) && is_aim s (aim_of k (proc_no q)) && is_some (line_of k (proc_no q))) was.owners
      ∙ ap (λ (os : List (Option SpaceNo)). is_aim s (owner_of l (proc_no q)) && is_aim s (get_or os q None) && is_some (line_of k (proc_no q))) was.aims
      ∙ ap (λ (b : Bool). is_aim s (owner_of l (proc_no q)) && is_aim s (aim_of l (proc_no q)) && b) (was.raised q)

  pub low_line-alike : (e g : ℕ) (k l : KernelState C) → AlikeKernels look e g k l → (s q : ℕ) → has_low_line k s q ≡ has_low_line l s q
  low_line-alike e g k l was s q =
      ap (λ (os : List (Option SpaceNo)). is_aim s (get_or os q None) && is_none (line_of k (proc_no q))) was.owners
      ∙ ap (λ (b : Bool). is_aim s (owner_of l (proc_no q)) && b)
      (is_none-some (line_of k (proc_no q)) ∙ ap not (was.raised q) ∙ sym (is_none-some (line_of l (proc_no q))))

  pub least-alike : (m n : ℕ) (f h : ℕ → Bool) → m ≡ n → ((q : ℕ) → f q ≡ h q) → least_below m f ≡ least_below n h
  least-alike m n f h size same = ap (λ (i : ℕ). least_below i f) size ∙ ap (least_below n) (fun_ext same)

  must_interrupt-alike : (e g : ℕ) (k l : KernelState C) → AlikeKernels look e g k l → (s : ℕ) → must_interrupt k s ≡ must_interrupt l s
  must_interrupt-alike e g k l was s =
      ap (λ (b : Bool). b && not (is_fetching k s) && is_none (least_below (length k.lives) (is_told_by k s))) (untold-alike e g k l was s)
      ∙ ap (λ (b : Bool). has_untold (untold_of l s) && not b && is_none (least_below (length k.lives) (is_told_by k s))) (fetching-alike e g k l was s)
      ∙ ap (λ (o : Option ℕ). has_untold (untold_of l s) && not (is_fetching l s) && is_none o)
      (least-alike (length k.lives) (length l.lives) (is_told_by k s) (is_told_by l s) was.lives (told_by-alike e g k l was s))

  interrupt-alike : (e g : ℕ) (p : ProcNo) (o : Option ℕ) (x y : Scene C) → AlikeScenes e g x y → AlikeScenes e g (interrupt e p o x) (interrupt g p o y)
  interrupt-alike e g p None x y was = was
  interrupt-alike e g p (Some q) x y was = alike-line look e g x.state y.state (proc_no q) (Some e) (Some g) refl was

  interrupt_one-alike : (e g : ℕ) (p : ProcNo) (b : Bool) (s : ℕ) (x y : Scene C) → AlikeScenes e g x y
      → AlikeScenes e g (interrupt_one e p b s x) (interrupt_one g p b s y)
  interrupt_one-alike e g p false s x y was = was
  interrupt_one-alike e g p true s x y was =
      let q = least_below (length x.state.lives) (has_low_line x.state s) in
      subst (λ (o : Option ℕ). AlikeScenes e g (interrupt e p q x) (interrupt g p o y))
      (least-alike (length x.state.lives) (length y.state.lives) (has_low_line x.state s) (has_low_line y.state s) was.lives
      (low_line-alike e g x.state y.state was s))
      (interrupt-alike e g p q x y was)

  interrupt_for-alike : (e g : ℕ) (p : ProcNo) (s : ℕ) (x y : Scene C) → AlikeScenes e g x y → AlikeScenes e g (interrupt_for e p s x) (interrupt_for g p s y)
  interrupt_for-alike e g p s x y was =
      subst (λ (b : Bool). AlikeScenes e g (interrupt_for e p s x) (interrupt_one g p b s y)) (must_interrupt-alike e g x.state y.state was s)
      (interrupt_one-alike e g p (must_interrupt x.state s) s x y was)

  lines_all-alike : (e g : ℕ) (p : ProcNo) (x y : Scene C) → AlikeScenes e g x y → AlikeScenes e g (lines e p x) (lines g p y)
  lines_all-alike e g p x y was =
      subst (λ (n : ℕ). AlikeScenes e g (lines e p x) (for_spaces (interrupt_for g p) 0 n y)) (ap (λ (ds : List ℕ). length ds) was.demands)
      (for_spaces-alike e g (interrupt_for e p) (interrupt_for g p) (interrupt_for-alike e g p) 0 (spaces x.state) x y was)

  -- THE CLOSING

  pub closed-alike : (e g : ℕ) (p : ProcNo) (x y : Scene C) → AlikeScenes e g x y → AlikeScenes e g (closed e p x) (closed g p y)
  closed-alike e g p x y was =
      lines_all-alike e g p (aims e p (wants e p x)) (aims g p (wants g p y))
      (aims-alike e g p (wants e p x) (wants g p y) (wants-alike e g p x y was))
