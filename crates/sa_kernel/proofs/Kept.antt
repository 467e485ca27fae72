-- What the kernel keeps.
use Rattle.std.proofs.Common.{◌≡◌, ℕ, ◌+◌, ◌-◌, ◌<◌, ◌≤◌, List, [], ◌++◌, length, refl, sym, ap, subst, ◌∙◌, arith}
use Rattle.std.proofs.lemmas.List.Folds.{sum_by-replicate}
use Rattle.std.proofs.lemmas.List.{length-replicate}
use Rattle.sa_base.specs.declared.number.ProcNo.{ProcNo}
use Rattle.sa_base.specs.declared.number.ActNo.{ActNo}
use Rattle.sa_base.specs.declared.record.Note.{Note}
use Rattle.sa_base.specs.declared.record.Item.{Item}
use Rattle.sa_base.specs.declared.limits.TheConstants.{MAX_EVENTS, MAX_SPACES}
use Rattle.sa_base.specs.Recorded.{Recorded}
use Rattle.sa_base.specs.Items.{items_at}
use Rattle.sa_spaces.specs.Workload.{WorkloadView, IsWorkload}
use Rattle.sa_assign.specs.Reaim.{proc_no}
use Rattle.sa_devices.specs.DevicesView.{DevicesView}
use Rattle.sa_devices.specs.Pages.{evicted}
use Rattle.sa_kernel.specs.declared.parts.Parts.{Parts}
use Rattle.sa_kernel_model.specs.declared.entry.Entry.{Entry}
use Rattle.sa_kernel_model.specs.declared.entry.Given.{Given}
use Rattle.sa_kernel_model.specs.declared.entry.Given.TheVariants.{Upcall}
use Rattle.sa_kernel_model.specs.State.{KernelState, Scene}
use Rattle.sa_kernel_model.specs.Closing.{closed}
use Rattle.sa_kernel_model.specs.Entries.{entered_as, after_fetch}
use Rattle.sa_kernel_model.specs.Opening.{opening_state, first_wants, opened}
use Rattle.sa_kernel_model.specs.Enters.{Enters}
use Rattle.sa_kernel_model.specs.Sound.{IsSound, IsPrompt, AreClaimed, IsUpcalled}
use Rattle.sa_kernel.specs.View.{state_of, scene_of, used, Spends}
use Rattle.sa_kernel.specs.Kept.{KernelView, kernel_of, processors, IsKept}
use Rattle.sa_kernel_model.specs.Entering.{MayEnter, upcalls}
use Rattle.sa_kernel_model.specs.Owed.{owed_items, pending_count}
use Rattle.sa_base.specs.Recorded.{Adds}
use Rattle.sa_kernel_model.proofs.sound.Formed.{no_notes, no_acts}
use Rattle.sa_kernel_model.proofs.sound.Held.{stays-closed, claimed-after_fetch, upcalled-closed}
use Rattle.sa_kernel_model.proofs.parts.Owed.{owes-entered_as, owed-closed, owed-after_fetch}
use Rattle.sa_kernel_model.proofs.sound.Prompt.{prompt-closed, prompt-evicted, prompt-after_fetch}
use Rattle.sa_kernel_model.proofs.sound.Sound.{sound-evicted, sound-closed, sound-enters, upcalled-enters, sound-opening, sound-after_fetch}

none-owed : (C : Type 0) (w : WorkloadView) → owed_items (opening_state {C = C} w) ≡ 0
none-owed C w =
    let a = sum_by-replicate (λ (ns : List Note). length ns) (length w.spaces) no_notes in
    let b = sum_by-replicate (λ (list : List ActNo). length list) MAX_SPACES no_acts in
    omega arith

module _ {C : Type 0} where
  pub kept-evict : (m : Parts C) (d : DevicesView) (event room last : ℕ) → d ≡ record m.devices { pages = evicted event m.devices.evictions m.devices.pages }
      → IsKept m room last → IsKept (record m { devices = d }) room last
  kept-evict m d event room last is kept =
      subst (λ (v : DevicesView). IsKept (record m { devices = v }) room last) (sym is) (record {
        sound = sound-evicted event (state_of m) kept.sound;
        notices = kept.notices;
        acts = kept.acts;
        ios = kept.ios;
        used = kept.used;
        io_count = kept.io_count;
        pending = kept.pending;
        prompt = prompt-evicted event (state_of m) kept.prompt;
        last = kept.last;
      })

  sound-at : (x y : Scene C) → x ≡ y → IsSound y.state → IsSound x.state
  sound-at x y is sound = subst (λ (z : Scene C). IsSound z.state) (sym is) sound

  prompt-at : (x y : Scene C) → x ≡ y → IsPrompt y.state → IsPrompt x.state
  prompt-at x y is prompt = subst (λ (z : Scene C). IsPrompt z.state) (sym is) prompt

  pub kept-closed : (m new : Parts C) (t tn : Recorded) (event room last : ℕ) (p : ProcNo) → scene_of new tn ≡ closed event p (scene_of m t)
      → Spends m new 0 0 0 → last < event → event ≤ MAX_EVENTS → IsKept m room last → IsKept new room event
  kept-closed m new t tn event room last p is spends later few kept = record {
    sound = sound-at (scene_of new tn) (closed event p (scene_of m t)) is (sound-closed event p (scene_of m t) kept.sound);
    notices = omega (arith, spends.notices, kept.notices);
    acts = omega (arith, spends.acts, kept.acts);
    ios = omega (arith, spends.ios, kept.ios);
    used = omega (arith, spends.used, kept.used);
    io_count = omega (arith, spends.count, kept.io_count);
    pending =
        (let h = kept.pending in let same = (owed-closed event p (scene_of m t)).1 in let now = ap (λ (x : Scene C). pending_count x.state) is in omega arith);
    prompt = prompt-at (scene_of new tn) (closed event p (scene_of m t)) is (prompt-closed event p (scene_of m t) kept.sound.formed.sizes);
    last = few;
  }

  pub kept-fetch : (m new : Parts C) (room last : ℕ) → state_of new ≡ after_fetch (state_of m).telling (state_of m) → Spends m new 0 0 0
      → IsKept m room last → IsKept new room last
  kept-fetch m new room last is spends kept =
      let io_count : new.devices.ios.io_count ≤ m.devices.ios.io_count = omega (arith, spends.count) in
      record {
        sound = subst (λ (k : KernelState C). IsSound k) (sym is) (sound-after_fetch (state_of m).telling (state_of m) refl kept.sound);
        notices = omega (arith, spends.notices, kept.notices);
        acts = omega (arith, spends.acts, kept.acts);
        ios = omega (arith, spends.ios, kept.ios);
        used = omega (arith, spends.used, kept.used);
        io_count = omega (arith, kept.io_count);
        pending =
            (let h = kept.pending in let less = (owed-after_fetch (state_of m).telling (state_of m) refl).1 in let now = ap pending_count is in omega arith);
        prompt = subst (λ (k : KernelState C). IsPrompt k) (sym is) (prompt-after_fetch (state_of m).telling (state_of m) kept.prompt);
        last = kept.last;
      }

  pub told-fetch : (m new : Parts C) (s : ℕ) → state_of new ≡ after_fetch (state_of m).telling (state_of m) → AreClaimed (state_of m) s
      → AreClaimed (state_of new) s
  told-fetch m new s is claimed = subst (λ (k : KernelState C). AreClaimed k s) (sym is) (claimed-after_fetch (state_of m).telling (state_of m) s refl claimed)

  pub owed-fetch : (m new : Parts C) → state_of new ≡ after_fetch (state_of m).telling (state_of m) → owed_items (state_of new) ≤ owed_items (state_of m)
  owed-fetch m new is = let less = (owed-after_fetch (state_of m).telling (state_of m) refl).0 in let now = ap owed_items is in omega arith

  -- an entry, before its closing
  pub record IsEntered (m mid : Parts C) (t tm : Recorded) (given : Given) (p : ProcNo) : Type 0 where
    pub sound : IsSound (state_of mid)
    pub items : length tm.items + owed_items (state_of mid) ≤ length t.items + owed_items (state_of m) + 6
    pub pending : pending_count (state_of mid) ≤ pending_count (state_of m) + 1
    pub upcalled : (a : ActNo) → given ≡ Upcall a → IsUpcalled (state_of mid) p a

  pub entered-mid : (v : KernelView C) (m mid : Parts C) (t tm : Recorded) (event room last : ℕ) (p : ProcNo) (entry : Entry C) (given : Given)
      → record { parts = m; spare = room; last = last } ≡ v → p.0 < processors v → MayEnter (kernel_of v) p event entry → (kernel_of v).telling ≡ []
      → Enters (scene_of m t) (scene_of mid tm) given (upcalls (state_of m) p entry) (λ a. entered_as event p a entry)
      → IsKept m room last → IsEntered m mid t tm given p
  entered-mid v m mid t tm event room last p entry given view inside fits none enters kept =
      let old = scene_of m t in
      let within : p.0 < length m.lives.items = subst (λ (w : KernelView C). p.0 < processors w) (sym view) inside in
      let fit : MayEnter (state_of m) p event entry = subst (λ (w : KernelView C). MayEnter (kernel_of w) p event entry) (sym view) fits in
      let empty : (state_of m).telling ≡ [] = subst (λ (w : KernelView C). (kernel_of w).telling ≡ []) (sym view) none in
      let owes = owes-entered_as event p enters.fresh entry old in
      let now = ap (λ (x : Scene C). pending_count x.state) enters.scene in
      let owed = ap (λ (x : Scene C). owed_items x.state) enters.scene in
      let len = ap (λ (x : Scene C). length x.items) enters.scene in
      let items = owes.items in
      let pending = owes.pending in
      record {
        sound = sound-enters event p entry old (scene_of mid tm) given enters within fit empty kept.sound;
        items = omega arith;
        pending = omega arith;
        upcalled = upcalled-enters event p entry old (scene_of mid tm) given enters within empty kept.sound;
      }

  pub kept-entered : (m mid new : Parts C) (t tm tn : Recorded) (event room last : ℕ) (p : ProcNo) (given : Given) → IsEntered m mid t tm given p
      → scene_of new tn ≡ closed event p (scene_of mid tm) → Spends m mid 1 1 2 → Spends mid new 0 0 0 → 1 ≤ room → last < event → event ≤ MAX_EVENTS
      → IsKept m room last → IsKept new (room - 1) event
  kept-entered m mid new t tm tn event room last p given entered is spent spends some later few kept = record {
    sound = sound-at (scene_of new tn) (closed event p (scene_of mid tm)) is (sound-closed event p (scene_of mid tm) entered.sound);
    notices = omega (arith, spends.notices, spent.notices, kept.notices);
    acts = omega (arith, spends.acts, spent.acts, kept.acts);
    ios = omega (arith, spends.ios, spent.ios, kept.ios);
    used = omega (arith, spends.used, spent.used, kept.used);
    io_count = omega (arith, spends.count, spent.count, kept.io_count);
    pending =
        (let h = kept.pending in let more = entered.pending in let same = (owed-closed event p (scene_of mid tm)).1 in
        let now = ap (λ (x : Scene C). pending_count x.state) is in omega arith);
    prompt = prompt-at (scene_of new tn) (closed event p (scene_of mid tm)) is (prompt-closed event p (scene_of mid tm) entered.sound.formed.sizes);
    last = few;
  }

  -- what is owed after the closing
  pub owed-entered : (m mid new : Parts C) (t tm tn : Recorded) (event most : ℕ) (p : ProcNo) (given : Given) → IsEntered m mid t tm given p
      → scene_of new tn ≡ closed event p (scene_of mid tm) → Adds most t tm → Adds 64 tm tn
      → t.spare + owed_items (state_of new) ≤ tn.spare + owed_items (state_of m) + 80
  owed-entered m mid new t tm tn event most p given entered is adds closes =
      let items = entered.items in
      let same = (owed-closed event p (scene_of mid tm)).0 in
      let now = ap (λ (x : Scene C). owed_items x.state) is in
      let a = adds.same in
      let b = closes.spare in
      omega arith

  pub owed-slice : (m new : Parts C) (t tn : Recorded) (event : ℕ) (p : ProcNo) → scene_of new tn ≡ closed event p (scene_of m t) → Adds 64 t tn
      → t.spare + owed_items (state_of new) ≤ tn.spare + owed_items (state_of m) + 80
  owed-slice m new t tn event p is closes =
      let same = (owed-closed event p (scene_of m t)).0 in
      let now = ap (λ (x : Scene C). owed_items x.state) is in
      let b = closes.spare in
      omega arith

  pub upcalled-new : (m mid new : Parts C) (t tm tn : Recorded) (event : ℕ) (p : ProcNo) (given : Given) → IsEntered m mid t tm given p
      → scene_of new tn ≡ closed event p (scene_of mid tm) → (a : ActNo) → given ≡ Upcall a → IsUpcalled (state_of new) p a
  upcalled-new m mid new t tm tn event p given entered is a up =
      subst (λ (x : Scene C). IsUpcalled x.state p a) (sym is) (upcalled-closed event p (scene_of mid tm) p a (entered.upcalled a up))

  -- nothing is owed at the opening
  pub owed-new : (m new : Parts C) (tn : Recorded) (w : WorkloadView) (items : List Item) → state_of m ≡ opening_state w
      → scene_of new tn ≡ closed 0 (proc_no 0) (record { state = state_of m; items = items }) → owed_items (state_of new) ≡ 0
  owed-new m new tn w items opens is =
      ap (λ (x : Scene C). owed_items x.state) is ∙ (owed-closed 0 (proc_no 0) (record { state = state_of m; items = items })).0 ∙ ap owed_items opens
      ∙ none-owed C w

  pub telling-new : (m new : Parts C) (tn : Recorded) (w : WorkloadView) (items : List Item) → state_of m ≡ opening_state w
      → scene_of new tn ≡ closed 0 (proc_no 0) (record { state = state_of m; items = items }) → (state_of new).telling ≡ []
  telling-new m new tn w items opens is =
      ap (λ (x : Scene C). x.state.telling) is ∙ (stays-closed 0 (proc_no 0) (record { state = state_of m; items = items })).telling
      ∙ ap (λ (k : KernelState C). k.telling) opens

  pub kept-start : (m new : Parts C) (tn : Recorded) (w : WorkloadView) (items : List Item) → IsWorkload w → state_of m ≡ opening_state w → used m ≡ 0
      → scene_of new tn ≡ closed 0 (proc_no 0) (record { state = state_of m; items = items }) → Spends m new 0 0 0 → IsKept new 0 0
  kept-start m new tn w items ok opens none is spends =
      let sound : IsSound (state_of m) = subst (λ (k : KernelState C). IsSound k) (sym opens) (sound-opening w ok) in
      let io_count : m.devices.ios.io_count ≡ 0 = ap (λ (k : KernelState C). k.io_count) opens in
      record {
        sound = sound-at (scene_of new tn) (closed 0 (proc_no 0) (record { state = state_of m; items = items })) is
            (sound-closed 0 (proc_no 0) (record { state = state_of m; items = items }) sound);
        notices = omega arith;
        acts = omega arith;
        ios = omega arith;
        used = omega (arith, spends.used);
        io_count = omega (arith, spends.count);
        pending = (let h = owed-new m new tn w items opens is in omega arith);
        prompt = prompt-at (scene_of new tn) (closed 0 (proc_no 0) (record { state = state_of m; items = items })) is
            (prompt-closed 0 (proc_no 0) (record { state = state_of m; items = items }) sound.formed.sizes);
        last = omega arith;
      }

  pub opened-is : (m : Parts C) (w : WorkloadView) (items : List Item) (x : Scene C) → state_of m ≡ opening_state w → items ≡ []
      → x ≡ closed 0 (proc_no 0) (record { state = state_of m; items = items ++ items_at 0 (proc_no 0) (first_wants 0 (length m.demands.items)) })
      → x ≡ opened w
  opened-is m w items x opens empty is =
      let F : KernelState C → List Item → ℕ → Scene C =
      λ k xs n. closed 0 (proc_no 0) (record { state = k; items = xs ++ items_at 0 (proc_no 0) (first_wants 0 n) }) in
      let one : ℕ = 1 in
      is ∙ ap (λ xs. F (state_of m) xs (length m.demands.items)) empty
      ∙ ap (λ (k : KernelState C). F k [] (length k.demands)) opens
      ∙ ap (λ n. F (opening_state w) [] n) (length-replicate (length w.spaces) one)
