-- After the closing of an event no notice waits without cause.
use Rattle.std.proofs.Common.{◌≡◌, ℕ, zero, suc, ◌+◌, ◌<◌, ◌≤◌, Bool, true, false, ◌&&◌, not, Option, Some, None, IsSome, is_some, is_none, List, [], ◌∷◌, length, get_or, slice_set, refl, sym, ap, subst, ◌∙◌, inl, inr, arith}
use Rattle.std.proofs.lemmas.Bool.{cases_eq, cases_lt, and_parts, true≢false}
use Rattle.std.proofs.lemmas.List.{get_or_past, get_or-set_other, get_or-set_same, length-set}
use Rattle.sa_base.specs.declared.number.ProcNo.{ProcNo}
use Rattle.sa_base.specs.declared.number.SpaceNo.{SpaceNo}
use Rattle.std.specs.List.{list_any}
use Rattle.std.proofs.lemmas.Option.{none-some}
use Rattle.sa_base.specs.declared.number.ActNo.{ActNo}
use Rattle.sa_base.specs.declared.context.Stopped.{Stopped}
use Rattle.sa_base.specs.declared.record.Note.{Note}
use Rattle.sa_base.specs.declared.record.Note.TheVariants.{Add, Preempted, Blocked, Unblocked}
use Rattle.sa_acts.specs.Table.{held_of}
use Rattle.sa_assign.specs.AssignView.{AssignView}
use Rattle.sa_devices.specs.Ios.{Io, fetches}
use Rattle.sa_kernel_model.specs.Entries.{handed_by, after_fetch, evicted_at}
use Rattle.sa_assign.specs.Aims.{is_aim, space_no, least_below}
use Rattle.sa_assign.specs.Reaim.{proc_no, changes_in}
use Rattle.sa_assign.proofs.AimLemmas.{is_aim-true}
use Rattle.sa_assign.proofs.ChoiceLemmas.{least_below-passes, least_below-none}
use Rattle.sa_kernel_model.specs.State.{KernelState, Scene, owner_of, aim_of, line_of, untold_of, is_fetching}
use Rattle.sa_batch.specs.Notices.{has_untold}
use Rattle.sa_kernel_model.specs.Closing.{for_spaces, spaces, want_one, want_for, must_want, wants, shares, aims, is_told_by, has_low_line, must_interrupt, interrupt, interrupt_one, interrupt_for, closed}
use Rattle.sa_kernel_model.specs.Sound.{HasSizes, HasRaised, IsPrompt}
use Rattle.sa_kernel_model.proofs.parts.Closings.{length-lines_after}
use Rattle.sa_kernel_model.proofs.parts.Seen.{is-low}
use Rattle.sa_kernel_model.proofs.parts.Placed.{for_spaces-keeps}

raised-line : (l : Option ℕ) → (l ≡ None → ⊥) → IsSome l
raised-line None h = absurd (h refl)
raised-line (Some e) h = refl

module _ {C : Type 0} where
  -- processors have a cell each
  pub record IsEven (k : KernelState C) : Type 0 where
    pub owners : length k.assign.owners ≡ length k.lives
    pub lines : length k.assign.lines ≡ length k.lives

  -- no notice of the space waits without cause
  abbrev pub PromptFor : ℕ → KernelState C → Type 0
  PromptFor s k = has_untold (untold_of k s) ≡ true → is_fetching k s ≡ false → (p : ProcNo) → owner_of k p ≡ Some (space_no s) → HasRaised k (space_no s)

  owned-within : (k : KernelState C) (p : ProcNo) (s : SpaceNo) → IsEven k → owner_of k p ≡ Some s → p.0 < length k.lives
  owned-within k p s even owner = elim (cases_lt p.0 (length k.lives)) [
    | inl below ↦ below
    | inr past ↦ absurd (none-some s (sym (get_or_past k.assign.owners p.0 None (let e = even.owners in omega arith)) ∙ owner))
  ]

  -- a raised line stays raised where another is
  kept-raised : (k : KernelState C) (q e : ℕ) (s : SpaceNo) → IsEven k → HasRaised k s
      → HasRaised (record k { assign = record k.assign { lines = slice_set k.assign.lines q (Some e) } }) s
  kept-raised k q e s even has = record {
    proc = has.proc;
    owner = has.owner;
    raised = elim (cases_eq has.proc.0 q) [
      | inl same ↦
          let within : q < length k.assign.lines = (let b = owned-within k has.proc s even has.owner in let l = even.lines in omega arith) in
          ap is_some (ap (λ i. get_or (slice_set k.assign.lines q (Some e)) i None) same ∙ get_or-set_same k.assign.lines q (Some e) None within)
      | inr apart ↦ subst (λ (l : Option ℕ). IsSome l) (sym (get_or-set_other k.assign.lines q has.proc.0 (Some e) None apart)) has.raised
    ];
  }

  -- what was so of a space stays so
  abbrev Good : ℕ → Scene C → Type 0
  Good t y = IsEven y.state × PromptFor t y.state

  even-interrupt : (e : ℕ) (p : ProcNo) (q : Option ℕ) (x : Scene C) → IsEven x.state → IsEven (interrupt e p q x).state
  even-interrupt e p None x even = even
  even-interrupt e p (Some q) x even = record { owners = even.owners; lines = length-set x.state.assign.lines q (Some e) ∙ even.lines }

  pub even-interrupt_one : (e : ℕ) (p : ProcNo) (b : Bool) (s : ℕ) (x : Scene C) → IsEven x.state → IsEven (interrupt_one e p b s x).state
  even-interrupt_one e p false s x even = even
  even-interrupt_one e p true s x even = even-interrupt e p (least_below (length x.state.lives) (has_low_line x.state s)) x even

  good-interrupt : (e : ℕ) (p : ProcNo) (q : Option ℕ) (t : ℕ) (x : Scene C) → Good t x → Good t (interrupt e p q x)
  good-interrupt e p None t x good = good
  good-interrupt e p (Some q) t x good =
      (even-interrupt e p (Some q) x good.0, λ waits idle r owner. kept-raised x.state q e (space_no t) good.0 (good.1 waits idle r owner))

  good-interrupt_one : (e : ℕ) (p : ProcNo) (b : Bool) (s t : ℕ) (x : Scene C) → Good t x → Good t (interrupt_one e p b s x)
  good-interrupt_one e p false s t x good = good
  good-interrupt_one e p true s t x good = good-interrupt e p (least_below (length x.state.lives) (has_low_line x.state s)) t x good

  -- a space's part of the closing
  served-interrupt : (e : ℕ) (p : ProcNo) (s : ℕ) (q : Option ℕ) (x : Scene C) → q ≡ least_below (length x.state.lives) (has_low_line x.state s)
      → IsEven x.state → PromptFor s (interrupt e p q x).state
  served-interrupt e p s None x is even waits idle r owner =
      let k = x.state in
      let below = owned-within k r (space_no s) even owner in
      let high = least_below-none (length k.lives) (has_low_line k s) (sym is) r.0 below in
      record {
        proc = r;
        owner = owner;
        raised = raised-line (line_of k r) (λ low. true≢false (sym (is-low k (space_no s) r (record { owner = owner; line = low })) ∙ high));
      }
  served-interrupt e p s (Some q) x is even waits idle r owner =
      let k = x.state in
      let found = least_below-passes (length k.lives) (has_low_line k s) q (sym is) in
      let within : q < length k.assign.lines = (let b = found.within in let l = even.lines in omega arith) in
      record {
        proc = proc_no q;
        owner = is_aim-true s (owner_of k (proc_no q)) (and_parts _ (is_none (line_of k (proc_no q))) found.passes).0;
        raised = ap is_some (get_or-set_same k.assign.lines q (Some e) None within);
      }

  served-one : (e : ℕ) (p : ProcNo) (b : Bool) (s : ℕ) (x : Scene C) → b ≡ must_interrupt x.state s → IsEven x.state
      → PromptFor s (interrupt_one e p b s x).state
  served-one e p true s x is even waits idle r owner =
      served-interrupt e p s (least_below (length x.state.lives) (has_low_line x.state s)) x refl even waits idle r owner
  served-one e p false s x is even waits idle r owner = told (least_below (length x.state.lives) (is_told_by x.state s)) refl
    where
      told : (o : Option ℕ) → o ≡ least_below (length x.state.lives) (is_told_by x.state s) → HasRaised x.state (space_no s)
      told None none =
          absurd (all-true (has_untold (untold_of x.state s)) (is_fetching x.state s)
          (is_none (least_below (length x.state.lives) (is_told_by x.state s))) waits idle (ap is_none (sym none)) (sym is))
        where
          all-true : (a b c : Bool) → a ≡ true → b ≡ false → c ≡ true → (a && not b && c) ≡ false → ⊥
          all-true true false true ea eb ec h = cc
          all-true true false false ea eb ec h = cc
          all-true true true c ea eb ec h = cc
          all-true false b c ea eb ec h = cc
      told (Some q) some =
          let found = least_below-passes (length x.state.lives) (is_told_by x.state s) q (sym some) in
          let o = is_aim s (owner_of x.state (proc_no q)) in
          let a = is_aim s (aim_of x.state (proc_no q)) in
          let l = is_some (line_of x.state (proc_no q)) in
          record {
            proc = proc_no q;
            owner = is_aim-true s (owner_of x.state (proc_no q)) (first o a l found.passes);
            raised = last o a l found.passes;
          }
        where
          first : (a b c : Bool) → (a && b && c) ≡ true → a ≡ true
          first true b c h = refl
          first false b c h = absurd cc

          last : (a b c : Bool) → (a && b && c) ≡ true → c ≡ true
          last true true true h = refl
          last true true false h = absurd cc
          last true false c h = absurd cc
          last false b c h = absurd cc

  -- n spaces from s on
  served-from : (e : ℕ) (p : ProcNo) (s n : ℕ) (x : Scene C) (t : ℕ) → IsEven x.state → s ≤ t → t < s + n
      → PromptFor t (for_spaces (interrupt_for e p) s n x).state
  served-from e p s zero x t even from below = absurd (omega arith)
  served-from e p s (suc n) x t even from below =
      let y = interrupt_for e p s x in
      let next = even-interrupt_one e p (must_interrupt x.state s) s x even in
      elim (cases_eq t s) [
        | inl same ↦
            subst (λ u. PromptFor u (for_spaces (interrupt_for e p) (s + 1) n y).state) (sym same)
            (for_spaces-keeps (Good s) (interrupt_for e p) (λ u z good. good-interrupt_one e p (must_interrupt z.state u) u s z good) (s + 1) n y
            (next, served-one e p (must_interrupt x.state s) s x refl even)).1
        | inr apart ↦ served-from e p (s + 1) n y t next (omega arith) (omega arith)
      ]

  abbrev pub Sizes : Scene C → Type 0
  Sizes y = IsEven y.state × (length y.state.untold ≡ length y.state.demands)

  sizes-want_one : (e : ℕ) (p : ProcNo) (b : Bool) (s : ℕ) (x : Scene C) → Sizes x → Sizes (want_one e p b s x)
  sizes-want_one e p false s x h = h
  sizes-want_one e p true s x h = (record { owners = h.0.owners; lines = h.0.lines }, h.1 ∙ sym (length-set x.state.demands s 1))

  untold-one : (n : ℕ) (e : ℕ) (p : ProcNo) (b : Bool) (s : ℕ) (x : Scene C) → length x.state.untold ≡ n → length (interrupt_one e p b s x).state.untold ≡ n
  untold-one n e p false s x h = h
  untold-one n e p true s x h = go (least_below (length x.state.lives) (has_low_line x.state s))
    where
      go : (q : Option ℕ) → length (interrupt e p q x).state.untold ≡ n
      go None = h
      go (Some q) = h

  -- after the wants and the aims each list has its length
  pub sizes-aimed : (e : ℕ) (p : ProcNo) (x : Scene C) → HasSizes x.state → Sizes (aims e p (wants e p x))
  sizes-aimed e p x sizes =
      let w = wants e p x in
      let wanted : Sizes w =
      for_spaces-keeps Sizes (want_for e p) (λ t y h. sizes-want_one e p (must_want y.state t) t y h) 0 (spaces x.state) x
      (record { owners = sizes.owners; lines = sizes.lines }, sizes.untold) in
      let cs = changes_in (spaces w.state) (shares w.state e) w.state.assign in
      (record { owners = wanted.0.owners; lines = length-lines_after e w.state.assign.lines cs ∙ wanted.0.lines }, wanted.1)

  -- what the spaces' parts of the closing bring about for each of them holds for all numbers, where nothing waits for the others
  pub each-space : (e : ℕ) (p : ProcNo) (y : Scene C) (P : ℕ → KernelState C → Type 0) → Sizes y
      → ((s : ℕ) → s < spaces y.state → P s (for_spaces (interrupt_for e p) 0 (spaces y.state) y).state)
      → ((s : ℕ) (k : KernelState C) → has_untold (untold_of k s) ≡ false → P s k) → (s : ℕ) → P s (for_spaces (interrupt_for e p) 0 (spaces y.state) y).state
  each-space e p y P sizes within nothing s =
      let last = for_spaces (interrupt_for e p) 0 (spaces y.state) y in
      let len : length last.state.untold ≡ spaces y.state =
      for_spaces-keeps (λ z. length z.state.untold ≡ spaces y.state) (interrupt_for e p)
      (λ t z h. untold-one (spaces y.state) e p (must_interrupt z.state t) t z h) 0 (spaces y.state) y sizes.1 in
      elim (cases_lt s (spaces y.state)) [
        | inl below ↦ within s below
        | inr past ↦ nothing s last.state (ap has_untold (get_or_past last.state.untold s [] (omega arith)))
      ]

  pub prompt-closed : (e : ℕ) (p : ProcNo) (x : Scene C) → HasSizes x.state → IsPrompt (closed e p x).state
  prompt-closed e p x sizes s waits idle r owner =
      let y = aims e p (wants e p x) in
      let aimed = sizes-aimed e p x sizes in
      each-space e p y PromptFor aimed (λ t below. served-from e p 0 (spaces y.state) y t aimed.0 (omega arith) (omega arith))
      (λ t k none some. absurd (cc)) s.0 waits idle r owner

  -- where aims, lines, notices and I/Os are the same
  prompt-same : (k m : KernelState C) → m.assign ≡ k.assign → m.untold ≡ k.untold → m.under_way ≡ k.under_way → IsPrompt k → IsPrompt m
  prompt-same k m assign untold ios prompt s waits idle p owner =
      let h =
      prompt s (subst (λ (v : List (List Note)). has_untold (get_or v s.0 []) ≡ true) untold waits)
      (subst (λ (v : List Io). list_any (fetches s.0) v ≡ false) ios idle) p
      (subst (λ (v : AssignView). get_or v.owners p.0 None ≡ Some s) assign owner) in
      record {
        proc = h.proc;
        owner = subst (λ (v : AssignView). get_or v.owners h.proc.0 None ≡ Some s) (sym assign) h.owner;
        raised = subst (λ (v : AssignView). IsSome (get_or v.lines h.proc.0 None)) (sym assign) h.raised;
      }

  pub prompt-evicted : (event : ℕ) (k : KernelState C) → IsPrompt k → IsPrompt (evicted_at event k)
  prompt-evicted event k prompt = prompt-same k (evicted_at event k) refl refl refl prompt

  same-handed : (o : Option (Stopped C)) (a : ActNo) (k : KernelState C)
      → ((handed_by o a k).assign ≡ k.assign) × ((handed_by o a k).untold ≡ k.untold) × ((handed_by o a k).under_way ≡ k.under_way)
  same-handed None a k = (refl, refl, refl)
  same-handed (Some h) a k = (refl, refl, refl)

  same-fetched : (notes : List Note) (k : KernelState C)
      → ((after_fetch notes k).assign ≡ k.assign) × ((after_fetch notes k).untold ≡ k.untold) × ((after_fetch notes k).under_way ≡ k.under_way)
  same-fetched [] k = (refl, refl, refl)
  same-fetched (Add p ∷ notes) k = (refl, refl, refl)
  same-fetched (Blocked a ∷ notes) k = (refl, refl, refl)
  same-fetched (Preempted a ∷ notes) k = same-handed (held_of (k.acts a.0)) a (record k { telling = notes })
  same-fetched (Unblocked a ∷ notes) k = same-handed (held_of (k.acts a.0)) a (record k { telling = notes })

  pub prompt-after_fetch : (notes : List Note) (k : KernelState C) → IsPrompt k → IsPrompt (after_fetch notes k)
  prompt-after_fetch notes k prompt = let same = same-fetched notes k in prompt-same k (after_fetch notes k) same.0 same.1 same.2 prompt
