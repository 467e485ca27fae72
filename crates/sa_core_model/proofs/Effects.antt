-- What the entries of the kernel do to lives and activations, and that the rest of them leaves these alone.
use Rattle.std.proofs.Common.{◌≡◌, ℕ, Bool, true, false, Option, Some, None, length, slice_set, refl, sym, ap, ◌∙◌}
use Rattle.std.proofs.lemmas.List.{length-set}
use Rattle.sa_base.specs.declared.number.ProcNo.{ProcNo}
use Rattle.sa_base.specs.declared.number.SpaceNo.{SpaceNo}
use Rattle.sa_base.specs.declared.number.ActNo.{ActNo}
use Rattle.sa_base.specs.declared.number.IoNo.{IoNo}
use Rattle.sa_base.specs.declared.context.Stopped.{Stopped}
use Rattle.sa_lemmas.specs.Function.{put}
use Rattle.sa_acts.specs.declared.acts.Act.{Act}
use Rattle.sa_acts.specs.Table.{runs_in, holding}
use Rattle.sa_assign.specs.Aims.{least_below, is_aim}
use Rattle.sa_devices.specs.declared.kind.IoKind.{IoKind}
use Rattle.sa_devices.specs.declared.kind.IoKind.TheVariants.{Plain}
use Rattle.sa_kernel_model.specs.State.{KernelState, Scene, owner_of, can_upcall}
use Rattle.sa_kernel_model.specs.Parts.{fetch_page, leave, moved, upcall, go_to_by, raised}
use Rattle.sa_kernel_model.specs.Closing.{spaces, want_one, want_for, wants, must_want, aims, interrupt, interrupt_one, interrupt_for, must_interrupt, has_low_line, closed}
use Rattle.sa_kernel_model.specs.Entries.{stopped, go_to_aim, over, over_for, more, idled, told_or_left, block_begun}
use Rattle.sa_kernel_model.specs.Enters.{upcalls_for}
use Rattle.sa_kernel_model.proofs.parts.Placed.{for_spaces-keeps}
use Rattle.sa_kernel_model.proofs.sound.Held.{stays-closed}

module _ {C : Type 0} where
  -- the same activations run, and as many spaces have a demand
  pub record SameRuns (k l : KernelState C) : Type 0 where
    pub lives : l.lives ≡ k.lives
    pub acts : l.acts ≡ k.acts
    pub telling : l.telling ≡ k.telling
    pub demands : length l.demands ≡ length k.demands

  pub same-again : (j k l : KernelState C) → SameRuns j k → SameRuns k l → SameRuns j l
  same-again j k l a b = record {
    lives = b.lives ∙ a.lives;
    acts = b.acts ∙ a.acts;
    telling = b.telling ∙ a.telling;
    demands = b.demands ∙ a.demands;
  }

  -- the closing

  demands-want_one : (n e : ℕ) (p : ProcNo) (b : Bool) (s : ℕ) (x : Scene C) → length x.state.demands ≡ n → length (want_one e p b s x).state.demands ≡ n
  demands-want_one n e p false s x h = h
  demands-want_one n e p true s x h = length-set x.state.demands s 1 ∙ h

  demands-interrupt : (n e : ℕ) (p : ProcNo) (q : Option ℕ) (x : Scene C) → length x.state.demands ≡ n → length (interrupt e p q x).state.demands ≡ n
  demands-interrupt n e p None x h = h
  demands-interrupt n e p (Some q) x h = h

  demands-interrupt_one : (n e : ℕ) (p : ProcNo) (b : Bool) (s : ℕ) (x : Scene C) → length x.state.demands ≡ n
      → length (interrupt_one e p b s x).state.demands ≡ n
  demands-interrupt_one n e p false s x h = h
  demands-interrupt_one n e p true s x h = demands-interrupt n e p (least_below (length x.state.lives) (has_low_line x.state s)) x h

  demands-closed : (e : ℕ) (p : ProcNo) (x : Scene C) → length (closed e p x).state.demands ≡ length x.state.demands
  demands-closed e p x =
      let n = length x.state.demands in
      let P : Scene C → Type 0 = λ y. length y.state.demands ≡ n in
      let w = wants e p x in
      let h : P w = for_spaces-keeps P (want_for e p) (λ s y h. demands-want_one n e p (must_want y.state s) s y h) 0 (spaces x.state) x refl in
      for_spaces-keeps P (interrupt_for e p) (λ s y h. demands-interrupt_one n e p (must_interrupt y.state s) s y h) 0 (spaces (aims e p w).state)
      (aims e p w) h

  pub same-closed : (e : ℕ) (p : ProcNo) (x : Scene C) → SameRuns x.state (closed e p x).state
  same-closed e p x =
      let h = stays-closed e p x in
      record { lives = h.lives; acts = h.acts; telling = h.telling; demands = demands-closed e p x }

  -- entries after which the same activations run

  same-over_for : (e : ℕ) (p : ProcNo) (kind : IoKind) (x : Scene C) → SameRuns x.state (over_for e p kind x).state
  same-over_for e p (Plain s a) x = record { lives = refl; acts = refl; telling = refl; demands = refl }
  same-over_for e p _ x = record { lives = refl; acts = refl; telling = refl; demands = refl }

  pub same-over : (e : ℕ) (p : ProcNo) (io : IoNo) (kind : Option IoKind) (x : Scene C) → SameRuns x.state (over e p io kind x).state
  same-over e p io None x = record { lives = refl; acts = refl; telling = refl; demands = refl }
  same-over e p io (Some kind) x =
      let h = same-over_for e p kind _ in
      record { lives = h.lives; acts = h.acts; telling = h.telling; demands = h.demands }

  pub same-more : (e : ℕ) (p : ProcNo) (n : ℕ) (o : Option SpaceNo) (x : Scene C) → SameRuns x.state (more e p n o x).state
  same-more e p n None x = record { lives = refl; acts = refl; telling = refl; demands = refl }
  same-more e p n (Some s) x = record { lives = refl; acts = refl; telling = refl; demands = length-set x.state.demands s.0 _ }

  pub same-idled : (e : ℕ) (p : ProcNo) (o : Option SpaceNo) (x : Scene C) → SameRuns x.state (idled e p o x).state
  same-idled e p None x = record { lives = refl; acts = refl; telling = refl; demands = refl }
  same-idled e p (Some s) x = record { lives = refl; acts = refl; telling = refl; demands = length-set x.state.demands s.0 _ }

  pub same-own : (e : ℕ) (p q : ProcNo) (x : Scene C) → SameRuns x.state (raised e p q x).state
  same-own e p q x = record { lives = refl; acts = refl; telling = refl; demands = refl }

  -- a fresh activation of a space runs on a processor
  pub record Starts (k l : KernelState C) (p : ProcNo) (a : ActNo) (s : SpaceNo) : Type 0 where
    pub lives : l.lives ≡ slice_set k.lives p.0 (Some a)
    pub acts : l.acts ≡ put k.acts a.0 (Some (runs_in s))
    pub demands : length l.demands ≡ length k.demands

  pub starts-same : (k l m : KernelState C) (p : ProcNo) (a : ActNo) (s : SpaceNo) → Starts k l p a s → SameRuns l m → Starts k m p a s
  starts-same k l m p a s h same = record { lives = same.lives ∙ h.lives; acts = same.acts ∙ h.acts; demands = same.demands ∙ h.demands }

  -- after a stop or a block: an upcall, or the processor is left

  same-fetch_page : (e : ℕ) (p : ProcNo) (s : SpaceNo) (b : Bool) (x : Scene C) → SameRuns x.state (fetch_page e p s b x).state
  same-fetch_page e p s true x = record { lives = refl; acts = refl; telling = refl; demands = refl }
  same-fetch_page e p s false x = record { lives = refl; acts = refl; telling = refl; demands = refl }

  pub same-leave : (e : ℕ) (p : ProcNo) (s : SpaceNo) (x : Scene C) → SameRuns x.state (leave e p s x).state
  same-leave e p s x =
      let h = same-fetch_page e p s _ _ in
      record { lives = h.lives; acts = h.acts; telling = h.telling; demands = h.demands }

  pub starts-upcall : (e : ℕ) (p : ProcNo) (s : SpaceNo) (a : ActNo) (added : Bool) (x : Scene C) → Starts x.state (upcall e p s a added x).state p a s
  starts-upcall e p s a added x = record { lives = refl; acts = refl; demands = refl }

  same-moved : (e : ℕ) (p : ProcNo) (s : SpaceNo) (owned : Bool) (x : Scene C) → SameRuns x.state (moved e p s owned x).state
  same-moved e p s true x = record { lives = refl; acts = refl; telling = refl; demands = refl }
  same-moved e p s false x = record { lives = refl; acts = refl; telling = refl; demands = refl }

  pub starts-go_to : (e : ℕ) (p : ProcNo) (s : SpaceNo) (a : ActNo) (owned : Bool) (x : Scene C) → Starts x.state (go_to_by e p s a owned true x).state p a s
  starts-go_to e p s a owned x =
      let h = same-moved e p s owned x in
      let y = moved e p s owned x in record {
        lives = ap (λ ls. slice_set ls p.0 (Some a)) h.lives;
        acts = ap (λ (fs : ℕ → Option (Act C)). put fs a.0 (Some (runs_in s))) h.acts;
        demands = h.demands;
      }

  -- the processor goes to its aim, which is in its space or not

  pub record Aims (x y : Scene C) (p : ProcNo) (a : ActNo) (aim : Option SpaceNo) : Type 0 where
    pub started : upcalls_for x.state aim ≡ true → (s : SpaceNo) × Starts x.state y.state p a s
    pub same : upcalls_for x.state aim ≡ false → SameRuns x.state y.state

  aims-by : (e : ℕ) (p : ProcNo) (s : SpaceNo) (a : ActNo) (owned b : Bool) (x : Scene C) → can_upcall x.state s ≡ b
      → Aims x (go_to_by e p s a owned b x) p a (Some s)
  aims-by e p s a owned true x can = record {
    started = λ up. (s, starts-go_to e p s a owned x);
    same = λ up. absurd (let z = sym can ∙ up in cc);
  }
  aims-by e p s a owned false x can = record {
    started = λ up. absurd (let z = sym can ∙ up in cc);
    same = λ up. same-leave e p s x;
  }

  pub aims-at : (e : ℕ) (p : ProcNo) (a : ActNo) (aim : Option SpaceNo) (x : Scene C) → Aims x (go_to_aim e p a aim x) p a aim
  aims-at e p a None x = record {
    started = λ up. absurd (let z = up in cc);
    same = λ up. record { lives = refl; acts = refl; telling = refl; demands = refl };
  }
  aims-at e p a (Some s) x = aims-by e p s a (is_aim s.0 (owner_of x.state p)) (can_upcall x.state s) x refl

  -- the context of a life is set aside
  pub record SetsAside (k l : KernelState C) (p : ProcNo) (a : ActNo) (held : Stopped C) : Type 0 where
    pub lives : l.lives ≡ slice_set k.lives p.0 None
    pub acts : l.acts ≡ put k.acts a.0 (holding held (k.acts a.0))
    pub telling : l.telling ≡ k.telling
    pub pages : l.pages ≡ k.pages
    pub demands : length l.demands ≡ length k.demands

  pub stopped-aside : (e : ℕ) (p : ProcNo) (o : Option SpaceNo) (l : Option ActNo) (h : Option (Stopped C)) (x : Scene C) (s : SpaceNo) (a : ActNo)
      (held : Stopped C)
      → o ≡ Some s → l ≡ Some a → h ≡ Some held → SetsAside x.state (stopped e p o l h x).state p a held
  stopped-aside e p o l h x s a held owner life is =
      rw (owner, life, is) (record { lives = refl; acts = refl; telling = refl; pages = refl; demands = refl })

  pub stopped-off : (e : ℕ) (p : ProcNo) (o : Option SpaceNo) (l : Option ActNo) (h : Option (Stopped C)) (x : Scene C) → o ≡ None → stopped e p o l h x ≡ x
  stopped-off e p o l h x off = rw off refl

  pub blocked-aside : (e : ℕ) (p : ProcNo) (s : SpaceNo) (a : ActNo) (held : Stopped C) (len : ℕ) (page : Option ℕ) (x : Scene C)
      → SetsAside x.state (block_begun e p s a held len page x).state p a held
  blocked-aside e p s a held len page x = record { lives = refl; acts = refl; telling = refl; pages = refl; demands = refl }

  pub told-or-left : (e : ℕ) (p : ProcNo) (s : SpaceNo) (a : ActNo) (b : Bool) (x : Scene C)
      → (b ≡ true → Starts x.state (told_or_left e p s a b x).state p a s) × (b ≡ false → SameRuns x.state (told_or_left e p s a b x).state)
  told-or-left e p s a true x = ((λ up. starts-upcall e p s a false x), λ up. absurd (let z = up in cc))
  told-or-left e p s a false x = ((λ up. absurd (let z = up in cc)), λ up. same-leave e p s x)
