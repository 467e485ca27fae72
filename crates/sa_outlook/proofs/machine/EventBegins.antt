-- The beginning of an event keeps machines alike: time goes on, and pages are evicted.
use Rattle.std.proofs.Common.{◌≡◌, ℕ, ◌+◌, ◌-◌, ◌*◌, ◌/◌, ◌%◌, ◌<◌, ◌≤◌, ◌⊎◌, Bool, true, false, ◌||◌, cond, eqb, ltb, Option, Some, None, List, [], ◌∷◌, length, map, refl, sym, ap, ◌∙◌, inl, inr, arith, add-mul, one-mul}
use Rattle.std.proofs.lemmas.Bool.{ne_eqb, eqb-false, ltb-false, le-ltb, or_parts}
use Rattle.std.proofs.lemmas.Nat.{div-mul-add, mod-mul-add, div-add-mod', mod_below}
use Rattle.sa_spaces.specs.Space.{SpaceView}
use Rattle.sa_spaces.specs.declared.workload.Evict.{Evict}
use Rattle.sa_spaces.specs.Workload.{WorkloadView}
use Rattle.sa_abstract.specs.Calls.{Calls}
use Rattle.sa_devices.specs.Ios.{Io}
use Rattle.sa_devices.specs.Pages.{evicted, gone}
use Rattle.sa_kernel_model.specs.State.{KernelState, Fixed}
use Rattle.sa_kernel_model.specs.Entries.{evicted_at}
use Rattle.sa_core_model.specs.Machine.{Machine}
use Rattle.sa_core_model.specs.Turn.{next_event}
use Rattle.sa_outlook.specs.Nameless.{Held, NamelessIo, nameless_kind, nameless_io}
use Rattle.sa_outlook.specs.DueOrder.{in_order}
use Rattle.sa_outlook.specs.Outlook.{held_by, is_to_come, until, beat, look_in}
use Rattle.sa_outlook.specs.UserLevels.{IgnoresNumbers}
use Rattle.sa_outlook.proofs.Invariant.{fixed_of}
use Rattle.sa_outlook.proofs.Alike.{AlikeKernels}
use Rattle.sa_outlook.proofs.ios.DueOrder.{order}
use Rattle.sa_outlook.proofs.machine.Calls.{BothAlike}

-- NUMBERS

-- the next event within a slice, and after its end
within : (d e : ℕ) → e % d + 1 < d → ((e + 1) % d ≡ e % d + 1) × ((e + 1) / d ≡ e / d)
within d e h =
    let whole = div-add-mod' e d in
    let is : e + 1 ≡ e / d * d + (e % d + 1) = omega arith in
    (ap (λ (n : ℕ). n % d) is ∙ mod-mul-add (e / d) d (e % d + 1) h, ap (λ (n : ℕ). n / d) is ∙ div-mul-add (e / d) d (e % d + 1) h)

distribute : (q d : ℕ) → (q + 1) * d ≡ q * d + d
distribute q d = simp (add-mul, one-mul)

after : (d e : ℕ) → 1 ≤ d → e % d + 1 ≡ d → ((e + 1) % d ≡ 0) × ((e + 1) / d ≡ e / d + 1)
after d e some h =
    let whole = div-add-mod' e d in
    let two = distribute (e / d) d in
    let is : e + 1 ≡ (e / d + 1) * d + 0 = omega arith in
    (ap (λ (n : ℕ). n % d) is ∙ mod-mul-add (e / d + 1) d 0 (omega arith), ap (λ (n : ℕ). n / d) is ∙ div-mul-add (e / d + 1) d 0 (omega arith))

-- one more, modulo a number
more-mod : (a b n : ℕ) → 1 ≤ n → a % n ≡ b % n → (a + 1) % n ≡ (b + 1) % n
more-mod a b n some same = elim (order n (a % n + 1)) [
  | inl h ↦
      let below = mod_below a n (omega arith) in
      (after n a (omega arith) (omega arith)).0 ∙ sym (after n b (omega arith) (omega arith)).0
  | inr h ↦ (within n a h).0 ∙ ap (λ (i : ℕ). i + 1) same ∙ sym (within n b (omega arith)).0
]

-- whose turn it is, and how far the slice has gone, one event later
next-beat : (d a b : ℕ) → beat d a ≡ beat d b → beat d (a + 1) ≡ beat d (b + 1)
next-beat d a b same = go (eqb d 0) refl same
  where
    go : (t : Bool) → eqb d 0 ≡ t → cond t 0 (a % d) ≡ cond t 0 (b % d) → cond t 0 ((a + 1) % d) ≡ cond t 0 ((b + 1) % d)
    go true is h = refl
    go false is h = let z = eqb-false d 0 is in more-mod a b d (omega arith) h

pub next-first : (d n a b : ℕ) → 1 ≤ n → beat d a ≡ beat d b → cond (eqb d 0) 0 (a / d % n) ≡ cond (eqb d 0) 0 (b / d % n)
    → cond (eqb d 0) 0 ((a + 1) / d % n) ≡ cond (eqb d 0) 0 ((b + 1) / d % n)
next-first d n a b some same first = go (eqb d 0) refl same first
  where
    go : (t : Bool) → eqb d 0 ≡ t → cond t 0 (a % d) ≡ cond t 0 (b % d) → cond t 0 (a / d % n) ≡ cond t 0 (b / d % n)
        → cond t 0 ((a + 1) / d % n) ≡ cond t 0 ((b + 1) / d % n)
    go true is h i = refl
    go false is h i =
        let z = eqb-false d 0 is in
        let below = mod_below a d (omega arith) in
        elim (order d (a % d + 1)) [
          | inl y ↦
              ap (λ (q : ℕ). q % n) (after d a (omega arith) (omega arith)).1 ∙ more-mod (a / d) (b / d) n some i
              ∙ sym (ap (λ (q : ℕ). q % n) (after d b (omega arith) (omega arith)).1)
          | inr y ↦
              ap (λ (q : ℕ). q % n) (within d a y).1 ∙ i ∙ sym (ap (λ (q : ℕ). q % n) (within d b (omega arith)).1)
        ]

-- EVICTIONS

none-evicted : (e : ℕ) (es : List Evict) (pages : List ℕ) → is_to_come e es ≡ false → evicted (e + 1) es pages ≡ pages
none-evicted e [] pages none = refl
none-evicted e (x ∷ es) pages none =
    let two = or_parts (ltb e x.event) (is_to_come e es) none in
    let late : x.event ≤ e = ltb-false e x.event two.0 in
    ap (λ (t : Bool). evicted (e + 1) es (cond t (gone pages x.space.0 x.page) pages)) (ne_eqb x.event (e + 1) (λ s. omega arith))
    ∙ none-evicted e es pages two.1

later-none : (e : ℕ) (es : List Evict) → is_to_come e es ≡ false → is_to_come (e + 1) es ≡ false
later-none e [] none = refl
later-none e (x ∷ es) none =
    let two = or_parts (ltb e x.event) (is_to_come e es) none in
    let late : x.event ≤ e = ltb-false e x.event two.0 in
    ap (λ (t : Bool). t || is_to_come (e + 1) es) (le-ltb (e + 1) x.event (omega arith)) ∙ later-none e es two.1

until-cases : (e g : ℕ) (es : List Evict) → until e es ≡ until g es → (e ≡ g) ⊎ ((is_to_come e es ≡ false) × (is_to_come g es ≡ false))
until-cases e g es same = go (is_to_come e es) (is_to_come g es) refl refl same
  where
    go : (a b : Bool) → is_to_come e es ≡ a → is_to_come g es ≡ b → cond a (Some e) None ≡ cond b (Some g) None
        → (e ≡ g) ⊎ ((is_to_come e es ≡ false) × (is_to_come g es ≡ false))
    go true true p q h = inl cc
    go true false p q h = absurd cc
    go false true p q h = absurd cc
    go false false p q h = inr (p, q)

next-until : (e g : ℕ) (es : List Evict) → until e es ≡ until g es → until (e + 1) es ≡ until (g + 1) es
next-until e g es same = elim (until-cases e g es same) [
  | inl h ↦ ap (λ (i : ℕ). until (i + 1) es) h
  | inr h ↦
      ap (λ (t : Bool). cond t (Some (e + 1)) None) (later-none e es h.0) ∙ sym (ap (λ (t : Bool). cond t (Some (g + 1)) None) (later-none g es h.1))
]

next-pages : (e g : ℕ) (es : List Evict) (pages : List ℕ) → until e es ≡ until g es → evicted (e + 1) es pages ≡ evicted (g + 1) es pages
next-pages e g es pages same = elim (until-cases e g es same) [
  | inl h ↦ ap (λ (i : ℕ). evicted (i + 1) es pages) h
  | inr h ↦ none-evicted e es pages h.0 ∙ sym (none-evicted g es pages h.1)
]

-- I/OS

abbrev tick : {D : Type 0} → NamelessIo D → NamelessIo D
tick x = record { left = x.left - 1; kind = x.kind }

module _ {C D : Type 0} (look : ℕ → C → D) where
  ios-tick : (e : ℕ) (held : Held C) (ios : List Io) → map (nameless_io look (e + 1) held) ios ≡ map tick (map (nameless_io look e held) ios)
  ios-tick e held [] = refl
  ios-tick e held (io ∷ ios) =
      let less : io.ends - (e + 1) ≡ io.ends - e - 1 = omega arith in
      ap (λ (n : ℕ). record { left = n; kind = nameless_kind look held io.kind } ∷ map (nameless_io look (e + 1) held) ios) less
      ∙ ap (λ (xs : List (NamelessIo D)). tick (nameless_io look e held io) ∷ xs) (ios-tick e held ios)

  -- the evictions of both are those of a workload, whose slices they count
  pub next-kernel : (w : WorkloadView) (e g : ℕ) (k l : KernelState C) → k.fixed ≡ fixed_of w → 1 ≤ length k.demands
      → beat w.slice e ≡ beat w.slice g → until e w.evictions ≡ until g w.evictions
      → AlikeKernels look e g k l → AlikeKernels look (e + 1) (g + 1) (evicted_at (e + 1) k) (evicted_at (g + 1) l)
  next-kernel w e g k l fixed some beats untils was =
      let fixed_l : l.fixed ≡ fixed_of w = sym was.fixed ∙ fixed in
      let n : ℕ = length k.demands in
      let m : ℕ = length l.demands in
      let size : n ≡ m = ap (λ (ds : List ℕ). length ds) was.demands in
      let firsts : cond (eqb w.slice 0) 0 (e / w.slice % n) ≡ cond (eqb w.slice 0) 0 (g / w.slice % n) =
      ap (λ (f : Fixed). cond (eqb f.slice 0) 0 (e / f.slice % n)) (sym fixed) ∙ was.first
      ∙ ap (λ (f : Fixed). cond (eqb f.slice 0) 0 (g / f.slice % m)) fixed_l
      ∙ ap (λ (i : ℕ). cond (eqb w.slice 0) 0 (g / w.slice % i)) (sym size) in
      record {
        fixed = was.fixed;
        owners = was.owners;
        aims = was.aims;
        raised = was.raised;
        lines = was.lines;
        marks = was.marks;
        live = was.live;
        lives = was.lives;
        taken = was.taken;
        takers = was.takers;
        demands = was.demands;
        untold = was.untold;
        spaces = was.spaces;
        ios = ios-tick e (held_by k) (in_order k.under_way) ∙ ap (map tick) was.ios ∙ sym (ios-tick g (held_by l) (in_order l.under_way));
        pages = ap (λ (x : Fixed). evicted (e + 1) x.evictions k.pages) fixed ∙ next-pages e g w.evictions k.pages untils
            ∙ ap (evicted (g + 1) w.evictions) was.pages ∙ sym (ap (λ (x : Fixed). evicted (g + 1) x.evictions l.pages) fixed_l);
        first = ap (λ (x : Fixed). cond (eqb x.slice 0) 0 ((e + 1) / x.slice % n)) fixed ∙ next-first w.slice n e g some beats firsts
            ∙ ap (λ (i : ℕ). cond (eqb w.slice 0) 0 ((g + 1) / w.slice % i)) size
            ∙ sym (ap (λ (x : Fixed). cond (eqb x.slice 0) 0 ((g + 1) / x.slice % m)) fixed_l);
      }

module _ {U C D : Type 0} (f : Calls U C) (plain : Option SpaceView → C → D) (IsMade : Option SpaceView → U → Type 0) (laws : IgnoresNumbers f plain IsMade) where
  pub next-both : (m n : Machine U C) → m.kernel.fixed ≡ fixed_of m.workload → 1 ≤ length m.kernel.demands → BothAlike f plain IsMade laws m n
      → BothAlike f plain IsMade laws (next_event m) (next_event n)
  next-both m n fixed some was =
      let a = was.alike in
      let w = m.workload in
      let beats : beat w.slice m.event ≡ beat w.slice n.event = a.beat ∙ ap (λ (x : WorkloadView). beat x.slice n.event) (sym a.workload) in
      let untils : until m.event w.evictions ≡ until n.event w.evictions = a.until ∙ ap (λ (x : WorkloadView). until n.event x.evictions) (sym a.workload) in
      record {
        alike = record {
          workload = a.workload;
          kernel = next-kernel (look_in plain w) w m.event n.event m.kernel n.kernel fixed some beats untils a.kernel;
          users = a.users;
          contexts = a.contexts;
          processors = a.processors;
          until = next-until m.event n.event w.evictions untils ∙ ap (λ (x : WorkloadView). until (n.event + 1) x.evictions) a.workload;
          beat = next-beat w.slice m.event n.event beats ∙ ap (λ (x : WorkloadView). beat x.slice (n.event + 1)) a.workload;
        };
        made = was.made;
      }
