-- Behind a closing no line is due, and where nothing is due a closing adds nothing.
use Rattle.std.proofs.Common.{◌≡◌, ℕ, zero, suc, ◌+◌, ◌<◌, ◌≤◌, Bool, true, false, not, ◌&&◌, is_some, is_none, Option, Some, None, List, [], ◌∷◌, ◌++◌, length, get_or, refl, sym, ap, subst, ◌∙◌, inl, inr, arith}
use Rattle.std.specs.Prelude.{slice_set}
use Rattle.std.proofs.lemmas.Bool.{cases_eq, and_parts, and_from, true≢false}
use Rattle.std.proofs.lemmas.List.{get_or-set_same, append-nil}
use Rattle.sa_base.specs.declared.number.ProcNo.{ProcNo}
use Rattle.sa_base.specs.declared.number.SpaceNo.{SpaceNo}
use Rattle.sa_base.specs.declared.number.ActNo.{ActNo}
use Rattle.sa_base.specs.declared.context.Stopped.{Stopped}
use Rattle.sa_base.specs.declared.record.Note.{Note}
use Rattle.sa_base.specs.declared.record.Note.TheVariants.{Preempted, Unblocked}
use Rattle.sa_base.specs.declared.record.Item.{Item}
use Rattle.sa_base.specs.Items.{items_at}
use Rattle.sa_lemmas.proofs.Options.{none-is}
use Rattle.sa_assign.specs.Aims.{Change, is_aim, least_below}
use Rattle.sa_assign.specs.Reaim.{proc_no, changes_in, changed, records_of}
use Rattle.sa_assign.proofs.ChoiceLemmas.{least_below-passes, least_below-none}
use Rattle.sa_batch.specs.Notices.{has_untold}
use Rattle.sa_kernel_model.specs.State.{KernelState, Scene, owner_of, aim_of, line_of, untold_of, is_fetching}
use Rattle.sa_kernel_model.specs.Closing.{for_spaces, spaces, want_one, want_for, must_want, wants, aims, shares, interrupt, interrupt_one, interrupt_for, must_interrupt, is_told_by, has_low_line, lines, closed, NoLineIsDue}
use Rattle.sa_kernel_model.specs.Entries.{handed_by, after_fetch}
use Rattle.sa_acts.specs.Table.{held_of}
use Rattle.sa_kernel_model.specs.Sound.{IsSound, ArePlaced}
use Rattle.sa_kernel_model.proofs.parts.Placed.{for_spaces-keeps, placed-interrupt_one, placed-aimed}
use Rattle.sa_kernel_model.proofs.sound.Prompt.{IsEven, even-interrupt_one, sizes-aimed, each-space}

-- a raised line stays raised, and a low one was low, where another is raised
raised-stays : (xs : List (Option ℕ)) (q r e : ℕ) → is_some (get_or xs r None) ≡ true → is_some (get_or (slice_set xs q (Some e)) r None) ≡ true
raised-stays (x ∷ xs) zero zero e h = refl
raised-stays (x ∷ xs) (suc q) (suc r) e h = raised-stays xs q r e h
raised-stays _ _ _ e h = h

low-before : (xs : List (Option ℕ)) (q r e : ℕ) → is_none (get_or (slice_set xs q (Some e)) r None) ≡ true → is_none (get_or xs r None) ≡ true
low-before (x ∷ xs) zero zero e h = absurd cc
low-before (x ∷ xs) (suc q) (suc r) e h = low-before xs q r e h
low-before _ _ _ e h = h

-- the parts of what is true of all
both-last : (b c d : Bool) → (c ≡ true → d ≡ true) → (b && c) ≡ true → (b && d) ≡ true
both-last true c d last h = last h
both-last false c d last h = absurd cc

-- none passes the one test, where each that does passes the other
none-below : (n : ℕ) (f g : ℕ → Bool) → ((r : ℕ) → r < n → g r ≡ true → f r ≡ true) → least_below n f ≡ None → least_below n g ≡ None
none-below n f g only none = go (least_below n g) refl
  where
    go : (o : Option ℕ) → least_below n g ≡ o → least_below n g ≡ None
    go None is = is
    go (Some r) is =
        let found = least_below-passes n g r is in
        absurd (true≢false (sym (only r found.within found.passes) ∙ least_below-none n f none r found.within))

is-owner : (s : ℕ) (o : Option SpaceNo) (a : Option SpaceNo) → a ≡ o → is_aim s o ≡ true → is_aim s a ≡ true
is-owner s o a same is = ap (is_aim s) same ∙ is

module _ {C : Type 0} where
  -- the space is told somewhere, or owns no processor with a low line
  abbrev Rests : ℕ → KernelState C → Type 0
  Rests s k = must_interrupt k s ≡ true → least_below (length k.lives) (has_low_line k s) ≡ None

  abbrev Base : Scene C → Type 0
  Base y = ArePlaced y.state.assign y.state.lives × IsEven y.state

  base-one : (e : ℕ) (p : ProcNo) (b : Bool) (s : ℕ) (x : Scene C) → Base x → Base (interrupt_one e p b s x)
  base-one e p b s x base = (placed-interrupt_one e p b s x base.0, even-interrupt_one e p b s x base.1)

  -- it does so still where a line is raised
  rests-raised : (e : ℕ) (p : ProcNo) (q : Option ℕ) (s : ℕ) (x : Scene C) → Rests s x.state → Rests s (interrupt e p q x).state
  rests-raised e p None s x rests must = rests must
  rests-raised e p (Some q) s x rests must =
      let k = x.state in
      let next = (interrupt e p (Some q) x).state in
      let n = length k.lives in
      let told : (r : ℕ) → r < n → is_told_by k s r ≡ true → is_told_by next s r ≡ true =
      λ r below. both-last (is_aim s (owner_of k (proc_no r)) && is_aim s (aim_of k (proc_no r))) (is_some (line_of k (proc_no r)))
      (is_some (line_of next (proc_no r)))
      (raised-stays k.assign.lines q r e) in
      let was : must_interrupt k s ≡ true =
      both-last (has_untold (untold_of k s) && not (is_fetching k s)) (is_none (least_below n (is_told_by next s))) (is_none (least_below n (is_told_by k s)))
      (λ none. ap is_none (none-below n (is_told_by next s) (is_told_by k s) told (none-is (least_below n (is_told_by next s)) none))) must in
      none-below n (has_low_line k s) (has_low_line next s)
      (λ r below. both-last (is_aim s (owner_of k (proc_no r))) (is_none (line_of next (proc_no r))) (is_none (line_of k (proc_no r)))
      (low-before k.assign.lines q r e))
      (rests was)

  rests-one : (e : ℕ) (p : ProcNo) (b : Bool) (t s : ℕ) (x : Scene C) → Rests s x.state → Rests s (interrupt_one e p b t x).state
  rests-one e p false t s x rests = rests
  rests-one e p true t s x rests = rests-raised e p (least_below (length x.state.lives) (has_low_line x.state t)) s x rests

  -- a space's part of the closing
  served : (e : ℕ) (p : ProcNo) (s : ℕ) (q : Option ℕ) (x : Scene C) → q ≡ least_below (length x.state.lives) (has_low_line x.state s) → Base x
      → Rests s (interrupt e p q x).state
  served e p s None x is base must = sym is
  served e p s (Some q) x is base must =
      let k = x.state in
      let next = (interrupt e p (Some q) x).state in
      let n = length k.lives in
      let found = least_below-passes n (has_low_line k s) q (sym is) in
      let owner = (and_parts (is_aim s (owner_of k (proc_no q))) (is_none (line_of k (proc_no q))) found.passes).0 in
      let low = none-is (line_of k (proc_no q)) (and_parts (is_aim s (owner_of k (proc_no q))) (is_none (line_of k (proc_no q))) found.passes).1 in
      let aim = is-owner s (owner_of k (proc_no q)) (aim_of k (proc_no q)) ((base.0 q).settled low) owner in
      let within : q < length k.assign.lines = (let b = found.within in let l = base.1.lines in omega arith) in
      let raised : is_some (line_of next (proc_no q)) ≡ true = ap is_some (get_or-set_same k.assign.lines q (Some e) None within) in
      let told : is_told_by next s q ≡ true =
      and_from (is_aim s (owner_of k (proc_no q)) && is_aim s (aim_of k (proc_no q))) (is_some (line_of next (proc_no q))) (and_from _ _ owner aim) raised in
      let none =
      none-is (least_below n (is_told_by next s))
      (and_parts (has_untold (untold_of k s) && not (is_fetching k s)) (is_none (least_below n (is_told_by next s))) must).1 in
      absurd (true≢false (sym told ∙ least_below-none n (is_told_by next s) none q found.within))

  served-one : (e : ℕ) (p : ProcNo) (b : Bool) (s : ℕ) (x : Scene C) → b ≡ must_interrupt x.state s → Base x → Rests s (interrupt_one e p b s x).state
  served-one e p true s x is base must = served e p s (least_below (length x.state.lives) (has_low_line x.state s)) x refl base must
  served-one e p false s x is base must = absurd (true≢false (sym must ∙ sym is))

  served-from : (e : ℕ) (p : ProcNo) (s n : ℕ) (x : Scene C) (t : ℕ) → Base x → s ≤ t → t < s + n → Rests t (for_spaces (interrupt_for e p) s n x).state
  served-from e p s zero x t base from below = absurd (omega arith)
  served-from e p s (suc n) x t base from below =
      let y = interrupt_for e p s x in
      elim (cases_eq t s) [
        | inl same ↦
            subst (λ u. Rests u (for_spaces (interrupt_for e p) (s + 1) n y).state) (sym same)
            (for_spaces-keeps (λ (z : Scene C). Rests s z.state) (interrupt_for e p) (λ u z rests. rests-one e p (must_interrupt z.state u) u s z rests)
            (s + 1) n y
            (served-one e p (must_interrupt x.state s) s x refl base))
        | inr apart ↦ served-from e p (s + 1) n y t (base-one e p (must_interrupt x.state s) s x base) (omega arith) (omega arith)
      ]

  nothing-waits : (s : ℕ) (k : KernelState C) → has_untold (untold_of k s) ≡ false → Rests s k
  nothing-waits s k none must =
      absurd (true≢false (sym (and_parts (has_untold (untold_of k s)) (not (is_fetching k s))
      (and_parts (has_untold (untold_of k s) && not (is_fetching k s)) (is_none (least_below (length k.lives) (is_told_by k s))) must).0).0 ∙ none))

  pub rests-closed : (e : ℕ) (p : ProcNo) (x : Scene C) → IsSound x.state → NoLineIsDue (closed e p x).state
  rests-closed e p x sound =
      let sizes = sound.formed.sizes in
      let y = aims e p (wants e p x) in
      let aimed = sizes-aimed e p x sizes in
      each-space e p y Rests aimed
      (λ s below. served-from e p 0 (spaces y.state) y s (placed-aimed e p x sizes sound.placed, aimed.0) (omega arith) (omega arith))
      nothing-waits

  -- where no space has a part in it, a closing leaves all as it was
  none-part : (f : ℕ → Scene C → Scene C) (s n : ℕ) (x : Scene C) → ((t : ℕ) → f t x ≡ x) → for_spaces f s n x ≡ x
  none-part f s zero x same = refl
  none-part f s (suc n) x same = ap (λ (y : Scene C). for_spaces f (s + 1) n y) (same s) ∙ none-part f (s + 1) n x same

  no-line : (e : ℕ) (p : ProcNo) (b : Bool) (s : ℕ) (x : Scene C) → must_interrupt x.state s ≡ b → NoLineIsDue x.state → interrupt_one e p b s x ≡ x
  no-line e p false s x is none = refl
  no-line e p true s x is none = ap (λ (o : Option ℕ). interrupt e p o x) (none s is)

  pub closing-adds-nothing : (e : ℕ) (p : ProcNo) (x : Scene C) → ((s : ℕ) → must_want x.state s ≡ false)
      → changes_in (spaces x.state) (shares x.state e) x.state.assign ≡ [] → NoLineIsDue x.state → closed e p x ≡ x
  closing-adds-nothing e p x wanted aimed none =
      let A : List Change → Scene C = λ cs. record {
        state = record x.state { assign = changed e x.state.assign cs };
        items = x.items ++ items_at e p (records_of e x.state.assign.lines cs);
      } in
      ap (λ (y : Scene C). lines e p (aims e p y)) (none-part (want_for e p) 0 (spaces x.state) x (λ s. ap (λ b. want_one e p b s x) (wanted s)))
      ∙ ap (λ (y : Scene C). lines e p y) (ap A aimed ∙ ap (λ (is : List Item). record x { items = is }) (append-nil x.items))
      ∙ none-part (interrupt_for e p) 0 (spaces x.state) x (λ s. no-line e p (must_interrupt x.state s) s x refl none)

  -- the fetch of a notice changes nothing of this
  rests-handed : (o : Option (Stopped C)) (a : ActNo) (k : KernelState C) → NoLineIsDue k → NoLineIsDue (handed_by o a k)
  rests-handed None a k none = none
  rests-handed (Some held) a k none = none

  pub rests-fetched : (notes : List Note) (k : KernelState C) → NoLineIsDue k → NoLineIsDue (after_fetch notes k)
  rests-fetched (Preempted a ∷ notes) k none = rests-handed (held_of (k.acts a.0)) a (record k { telling = notes }) none
  rests-fetched (Unblocked a ∷ notes) k none = rests-handed (held_of (k.acts a.0)) a (record k { telling = notes }) none
  rests-fetched _ k none = none
