-- The parts of entries keep kernels alike.
use Rattle.std.proofs.Common.{◌≡◌, ℕ, ◌+◌, ◌-◌, ◌/◌, ◌%◌, Bool, cond, eqb, Option, Some, None, is_some, List, [], ◌∷◌, ◌++◌, map, slice_set, sym, ap, ◌∙◌, arith}
use Rattle.std.proofs.lemmas.List.{map-append, length-set}
use Rattle.sa_base.specs.declared.number.ProcNo.{ProcNo}
use Rattle.sa_base.specs.declared.number.SpaceNo.{SpaceNo}
use Rattle.sa_base.specs.declared.number.ActNo.{ActNo}
use Rattle.sa_base.specs.declared.record.Note.{Note}
use Rattle.sa_base.specs.declared.context.Stopped.{Stopped}
use Rattle.sa_lemmas.proofs.FunctionUpdates.{put-same, put-other}
use Rattle.sa_acts.specs.declared.acts.Act.{Act}
use Rattle.sa_acts.specs.Table.{holding, runs_in, held_of}
use Rattle.sa_devices.specs.declared.kind.IoKind.{IoKind}
use Rattle.sa_devices.specs.Ios.{Io}
use Rattle.sa_kernel_model.specs.State.{KernelState, Fixed, untold_of}
use Rattle.sa_kernel_model.specs.Parts.{with_owner, without_aim, with_line, with_mark, with_life, with_demand, noted, with_held, with_io}
use Rattle.sa_kernel_model.specs.Sound.{AreClaimed, io_claim}
use Rattle.sa_kernel_model.proofs.sound.Claims.{held-none}
use Rattle.sa_outlook.specs.Nameless.{NamelessNote, NamelessKind, nameless_note, nameless_notes, nameless_kind, nameless_io}
use Rattle.sa_outlook.specs.DueOrder.{in_order}
use Rattle.sa_outlook.specs.Outlook.{held_by, untold_notes, nameless_ios}
use Rattle.sa_outlook.proofs.ios.WholeLists.{sum-order}
use Rattle.sa_outlook.proofs.ListsAlike.{each-set}
use Rattle.sa_outlook.proofs.Alike.{AlikeKernels, IsUnclaimed}
use Rattle.sa_outlook.proofs.ios.DueOrder.{order-begun}
use Rattle.sa_outlook.proofs.kernel.HeldContexts.{Others, notes-other, ios-other, put_nameless, ios-put}

-- whose turn it is to be served first, by what the kernel is given and how many spaces there are
abbrev first_of : Fixed → ℕ → ℕ → ℕ
first_of f n e = cond (eqb f.slice 0) 0 (e / f.slice % n)

module _ {C D : Type 0} (look : ℕ → C → D) where
  -- the claims say so of an activation of which nothing is held
  pub unclaimed : (k : KernelState C) (t a : ℕ) → AreClaimed k t → held_of (k.acts a) ≡ None → IsUnclaimed k a
  unclaimed k t a claimed none = record {
    untold = λ s. (let z = claimed s a in let y = held-none (k.acts a) s none in omega arith);
    ios = λ s. (let z = claimed s a in let y = held-none (k.acts a) s none in omega arith);
  }

  pub alike-line : (e g : ℕ) (k l : KernelState C) (p : ProcNo) (x y : Option ℕ) → is_some x ≡ is_some y → AlikeKernels look e g k l
      → AlikeKernels look e g (with_line p x k) (with_line p y l)
  alike-line e g k l p x y same was = record {
    fixed = was.fixed;
    owners = was.owners;
    aims = was.aims;
    raised = each-set (λ (i : ℕ) (x y : Option ℕ). is_some x ≡ is_some y) None None k.assign.lines l.assign.lines p.0 x y was.lines same was.raised;
    lines = length-set k.assign.lines p.0 x ∙ was.lines ∙ sym (length-set l.assign.lines p.0 y);
    marks = was.marks;
    live = was.live;
    lives = was.lives;
    taken = was.taken;
    takers = was.takers;
    demands = was.demands;
    untold = was.untold;
    spaces = was.spaces;
    ios = was.ios;
    pages = was.pages;
    first = was.first;
  }

  pub alike-owner : (e g : ℕ) (k l : KernelState C) (p : ProcNo) (o : Option SpaceNo) → AlikeKernels look e g k l
      → AlikeKernels look e g (with_owner p o k) (with_owner p o l)
  alike-owner e g k l p o was = record {
    fixed = was.fixed;
    owners = ap (λ (xs : List (Option SpaceNo)). slice_set xs p.0 o) was.owners;
    aims = was.aims;
    raised = was.raised;
    lines = was.lines;
    marks = was.marks;
    live = was.live;
    lives = was.lives;
    taken = was.taken;
    takers = was.takers;
    demands = was.demands;
    untold = was.untold;
    spaces = was.spaces;
    ios = was.ios;
    pages = was.pages;
    first = was.first;
  }

  pub alike-no_aim : (e g : ℕ) (k l : KernelState C) (p : ProcNo) → AlikeKernels look e g k l → AlikeKernels look e g (without_aim p k) (without_aim p l)
  alike-no_aim e g k l p was = record {
    fixed = was.fixed;
    owners = was.owners;
    aims = ap (λ (xs : List (Option SpaceNo)). slice_set xs p.0 None) was.aims;
    raised = was.raised;
    lines = was.lines;
    marks = was.marks;
    live = was.live;
    lives = was.lives;
    taken = was.taken;
    takers = was.takers;
    demands = was.demands;
    untold = was.untold;
    spaces = was.spaces;
    ios = was.ios;
    pages = was.pages;
    first = was.first;
  }

  pub alike-mark : (e g : ℕ) (k l : KernelState C) (p : ProcNo) (b : Bool) → AlikeKernels look e g k l
      → AlikeKernels look e g (with_mark p b k) (with_mark p b l)
  alike-mark e g k l p b was = record {
    fixed = was.fixed;
    owners = was.owners;
    aims = was.aims;
    raised = was.raised;
    lines = was.lines;
    marks = ap (λ (xs : List Bool). slice_set xs p.0 b) was.marks;
    live = was.live;
    lives = was.lives;
    taken = was.taken;
    takers = was.takers;
    demands = was.demands;
    untold = was.untold;
    spaces = was.spaces;
    ios = was.ios;
    pages = was.pages;
    first = was.first;
  }

  pub alike-life : (e g : ℕ) (k l : KernelState C) (p : ProcNo) (a b : Option ActNo) → is_some a ≡ is_some b → AlikeKernels look e g k l
      → AlikeKernels look e g (with_life p a k) (with_life p b l)
  alike-life e g k l p a b same was = record {
    fixed = was.fixed;
    owners = was.owners;
    aims = was.aims;
    raised = was.raised;
    lines = was.lines;
    marks = was.marks;
    live = each-set (λ (i : ℕ) (x y : Option ActNo). is_some x ≡ is_some y) None None k.lives l.lives p.0 a b was.lives same was.live;
    lives = length-set k.lives p.0 a ∙ was.lives ∙ sym (length-set l.lives p.0 b);
    taken = was.taken;
    takers = was.takers;
    demands = was.demands;
    untold = was.untold;
    spaces = was.spaces;
    ios = was.ios;
    pages = was.pages;
    first = was.first;
  }

  pub alike-demand : (e g : ℕ) (k l : KernelState C) (s n : ℕ) → AlikeKernels look e g k l → AlikeKernels look e g (with_demand s n k) (with_demand s n l)
  alike-demand e g k l s n was = record {
    fixed = was.fixed;
    owners = was.owners;
    aims = was.aims;
    raised = was.raised;
    lines = was.lines;
    marks = was.marks;
    live = was.live;
    lives = was.lives;
    taken = was.taken;
    takers = was.takers;
    demands = ap (λ (xs : List ℕ). slice_set xs s n) was.demands;
    untold = was.untold;
    spaces = was.spaces;
    ios = was.ios;
    pages = was.pages;
    first = ap (λ (m : ℕ). first_of k.fixed m e) (length-set k.demands s n) ∙ was.first ∙ sym (ap (λ (m : ℕ). first_of l.fixed m g) (length-set l.demands s n));
  }

  pub alike-noted : (e g : ℕ) (k l : KernelState C) (s : SpaceNo) (note other : Note)
      → nameless_note look s.0 (held_by k) note ≡ nameless_note look s.0 (held_by l) other → AlikeKernels look e g k l
      → AlikeKernels look e g (noted s note k) (noted s other l)
  alike-noted e g k l s note other same was = record {
    fixed = was.fixed;
    owners = was.owners;
    aims = was.aims;
    raised = was.raised;
    lines = was.lines;
    marks = was.marks;
    live = was.live;
    lives = was.lives;
    taken = was.taken;
    takers = was.takers;
    demands = was.demands;
    untold = each-set (λ (t : ℕ) (x y : List Note). nameless_notes look t (held_by k) x ≡ nameless_notes look t (held_by l) y) [] [] k.untold l.untold s.0
        (untold_of k s.0 ++ note ∷ []) (untold_of l s.0 ++ other ∷ []) was.spaces
        (map-append (nameless_note look s.0 (held_by k)) (untold_of k s.0) (note ∷ [])
        ∙ ap (λ (ws : List (NamelessNote D)). ws ++ nameless_note look s.0 (held_by k) note ∷ []) (was.untold s.0)
        ∙ ap (λ (w : NamelessNote D). untold_notes look l s.0 ++ w ∷ []) same
        ∙ sym (map-append (nameless_note look s.0 (held_by l)) (untold_of l s.0) (other ∷ []))) was.untold;
    spaces = length-set k.untold s.0 (untold_of k s.0 ++ note ∷ []) ∙ was.spaces ∙ sym (length-set l.untold s.0 (untold_of l s.0 ++ other ∷ []));
    ios = was.ios;
    pages = was.pages;
    first = was.first;
  }

  -- a context is held that nothing claims
  pub held-others : (k : KernelState C) (a : ActNo) (h : Stopped C) → Others look (held_by (with_held a h k)) (held_by k) a.0
  held-others k a h b other = ap (λ (x : Option (Act C)). held_of x) (put-other k.acts a.0 b (holding h (k.acts a.0)) other)

  pub held-here : (k : KernelState C) (a : ActNo) (s : SpaceNo) (h : Stopped C) → k.acts a.0 ≡ Some (runs_in s) → held_by (with_held a h k) a.0 ≡ Some h
  held-here k a s h runs =
      ap (λ (x : Option (Act C)). held_of x) (put-same k.acts a.0 (holding h (k.acts a.0)))
      ∙ ap (λ (x : Option (Act C)). held_of (holding h x)) runs

  pub untold-held : (k : KernelState C) (a : ActNo) (h : Stopped C) → IsUnclaimed k a.0 → (s : ℕ)
      → untold_notes look (with_held a h k) s ≡ untold_notes look k s
  untold-held k a h free s = notes-other look (held_by (with_held a h k)) (held_by k) a.0 s (untold_of k s) (held-others k a h) (free.untold s)

  pub ios-held : (e : ℕ) (k : KernelState C) (a : ActNo) (h : Stopped C) → IsUnclaimed k a.0 → nameless_ios look e (with_held a h k) ≡ nameless_ios look e k
  ios-held e k a h free =
      ios-other look e (held_by (with_held a h k)) (held_by k) a.0 (in_order k.under_way) (held-others k a h)
      (λ s. sum-order (io_claim s a.0) k.under_way ∙ free.ios s)

  pub alike-held : (e g : ℕ) (k l : KernelState C) (a b : ActNo) (h i : Stopped C) → IsUnclaimed k a.0 → IsUnclaimed l b.0 → AlikeKernels look e g k l
      → AlikeKernels look e g (with_held a h k) (with_held b i l)
  alike-held e g k l a b h i free_a free_b was = record {
    fixed = was.fixed;
    owners = was.owners;
    aims = was.aims;
    raised = was.raised;
    lines = was.lines;
    marks = was.marks;
    live = was.live;
    lives = was.lives;
    taken = was.taken;
    takers = was.takers;
    demands = was.demands;
    untold = λ s. untold-held k a h free_a s ∙ was.untold s ∙ sym (untold-held l b i free_b s);
    spaces = was.spaces;
    ios = ios-held e k a h free_a ∙ was.ios ∙ sym (ios-held g l b i free_b);
    pages = was.pages;
    first = was.first;
  }

  ios-begun : (e n : ℕ) (k : KernelState C) (kind : IoKind)
      → nameless_ios look e (with_io kind (e + n) k) ≡ put_nameless (record { left = n; kind = nameless_kind look (held_by k) kind }) (nameless_ios look e k)
  ios-begun e n k kind =
      let io : Io = record { number = k.io_count; ends = e + n; kind = kind } in
      let left : e + n - e ≡ n = omega arith in
      ap (map (nameless_io look e (held_by k))) (order-begun io k.under_way)
      ∙ ios-put look e (held_by k) io (in_order k.under_way) (omega arith)
      ∙ ap (λ (m : ℕ). put_nameless (record { left = m; kind = nameless_kind look (held_by k) kind }) (nameless_ios look e k)) left

  pub alike-io : (e g : ℕ) (k l : KernelState C) (n : ℕ) (kind other : IoKind)
      → nameless_kind look (held_by k) kind ≡ nameless_kind look (held_by l) other → AlikeKernels look e g k l
      → AlikeKernels look e g (with_io kind (e + n) k) (with_io other (g + n) l)
  alike-io e g k l n kind other same was = record {
    fixed = was.fixed;
    owners = was.owners;
    aims = was.aims;
    raised = was.raised;
    lines = was.lines;
    marks = was.marks;
    live = was.live;
    lives = was.lives;
    taken = was.taken;
    takers = was.takers;
    demands = was.demands;
    untold = was.untold;
    spaces = was.spaces;
    ios = ios-begun e n k kind ∙ ap (λ (p : NamelessKind D). put_nameless (record { left = n; kind = p }) (nameless_ios look e k)) same
        ∙ ap (put_nameless (record { left = n; kind = nameless_kind look (held_by l) other })) was.ios ∙ sym (ios-begun g n l other);
    pages = was.pages;
    first = was.first;
  }
