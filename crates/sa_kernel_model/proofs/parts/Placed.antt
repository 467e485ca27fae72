-- Who owns a processor, where it is aimed, and what runs there, as cells change.
use Rattle.std.proofs.Common.{◌≡◌, ◌≢◌, ℕ, zero, suc, ◌+◌, ◌<◌, Bool, true, false, not, Option, Some, None, IsSome, List, [], ◌∷◌, length, get_or, slice_set, refl, sym, ap, subst, ◌∙◌, ◌⊎◌, inl, inr, arith}
use Rattle.std.proofs.lemmas.Bool.{cases_eq}
use Rattle.std.proofs.lemmas.List.{get_or-set_other, get_or-set_same, length-set}
use Rattle.sa_base.specs.declared.number.ProcNo.{ProcNo}
use Rattle.sa_base.specs.declared.number.SpaceNo.{SpaceNo}
use Rattle.sa_base.specs.declared.number.ActNo.{ActNo}
use Rattle.sa_base.specs.declared.number.IoNo.{IoNo}
use Rattle.sa_base.specs.declared.record.Note.{Note}
use Rattle.sa_base.specs.declared.record.Note.TheVariants.{Add, Preempted, Blocked, Unblocked}
use Rattle.sa_base.specs.declared.context.Stopped.{Stopped}
use Rattle.sa_acts.specs.Table.{held_of}
use Rattle.sa_assign.specs.AssignView.{AssignView}
use Rattle.sa_assign.specs.Aims.{Change, is_aim, space_no, aims_with, aims_after, least_below}
use Rattle.sa_assign.specs.Reaim.{proc_no, raised, lines_with, lines_after, changes_in}
use Rattle.sa_assign.proofs.ChoiceLemmas.{least_below-passes}
use Rattle.sa_devices.specs.declared.kind.IoKind.{IoKind}
use Rattle.sa_devices.specs.declared.kind.IoKind.TheVariants.{Plain, Page, Upcall}
use Rattle.sa_kernel_model.specs.State.{KernelState, Scene, owner_of, aim_of, line_of, life_of, can_upcall, is_fetching}
use Rattle.sa_kernel_model.specs.Parts.{upcall, fetch_page, leave, moved, go_to_by}
use Rattle.sa_kernel_model.specs.Entries.{stopped, go_to_aim, interrupted, told_or_left, block_begun, blocked_by, over_for, over, more, idled, gave_back, kind_at, entered_as, handed_by, after_fetch}
use Rattle.sa_kernel_model.specs.Closing.{for_spaces, spaces, want_one, want_for, must_want, wants, shares, aims, interrupt, interrupt_one, interrupt_for, must_interrupt, has_low_line, closed}
use Rattle.sa_kernel_model.specs.Entering.{MayEnter}
use Rattle.sa_kernel_model.specs.declared.entry.Entry.{Entry}
use Rattle.sa_kernel_model.specs.declared.entry.Entry.TheVariants.{Interrupt, Block, Complete, More, Idle, GiveBack, InterruptOwn}
use Rattle.sa_kernel_model.specs.Sound.{IsPlaced, ArePlaced, HasSizes}
use Rattle.sa_kernel_model.proofs.sound.Formed.{owner-moved, same-stopped}
use Rattle.sa_kernel_model.proofs.parts.Seen.{low-is}

none-set : {A : Type 0} (xs : List (Option A)) (p : ℕ) → get_or (slice_set xs p None) p None ≡ None
none-set [] p = refl
none-set (x ∷ xs) zero = refl
none-set (x ∷ xs) (suc p) = none-set xs p

-- the same, of cells that are the same
pub placed-same : (o o' a a' : Option SpaceNo) (l l' : Option ℕ) (x x' : Option ActNo) → o' ≡ o → a' ≡ a → l' ≡ l → x' ≡ x → IsPlaced o a l x
    → IsPlaced o' a' l' x'
placed-same o o' a a' l l' x x' owner aim line life h =
    subst (λ v. IsPlaced o' a' l' v) (sym life)
    (subst (λ v. IsPlaced o' a' v x) (sym line) (subst (λ v. IsPlaced o' v l x) (sym aim) (subst (λ v. IsPlaced v a l x) (sym owner) h)))

-- processors but p are placed
abbrev pub PlacedBut : ℕ → AssignView → List (Option ActNo) → Type 0
PlacedBut p a lives = (q : ℕ) → q ≢ p → IsPlaced (get_or a.owners q None) (get_or a.aims q None) (get_or a.lines q None) (get_or lives q None)

but-all : (p : ℕ) (a : AssignView) (lives : List (Option ActNo)) → ArePlaced a lives → PlacedBut p a lives
but-all p a lives placed q apart = placed q

all-but : (p : ℕ) (a : AssignView) (lives : List (Option ActNo)) → PlacedBut p a lives
    → IsPlaced (get_or a.owners p None) (get_or a.aims p None) (get_or a.lines p None) (get_or lives p None) → ArePlaced a lives
all-but p a lives but here q = elim (cases_eq q p) [
  | inl same ↦ subst (λ i. IsPlaced (get_or a.owners i None) (get_or a.aims i None) (get_or a.lines i None) (get_or lives i None)) (sym same) here
  | inr apart ↦ but q apart
]

but-line : (p : ℕ) (v : Option ℕ) (a : AssignView) (lives : List (Option ActNo)) → PlacedBut p a lives
    → PlacedBut p (record a { lines = slice_set a.lines p v }) lives
but-line p v a lives but q apart =
    subst (λ l. IsPlaced (get_or a.owners q None) (get_or a.aims q None) l (get_or lives q None)) (sym (get_or-set_other a.lines p q v None apart))
    (but q apart)

but-owner : (p : ℕ) (v : Option SpaceNo) (a : AssignView) (lives : List (Option ActNo)) → PlacedBut p a lives
    → PlacedBut p (record a { owners = slice_set a.owners p v }) lives
but-owner p v a lives but q apart =
    subst (λ o. IsPlaced o (get_or a.aims q None) (get_or a.lines q None) (get_or lives q None)) (sym (get_or-set_other a.owners p q v None apart))
    (but q apart)

but-aim : (p : ℕ) (v : Option SpaceNo) (a : AssignView) (lives : List (Option ActNo)) → PlacedBut p a lives
    → PlacedBut p (record a { aims = slice_set a.aims p v }) lives
but-aim p v a lives but q apart =
    subst (λ o. IsPlaced (get_or a.owners q None) o (get_or a.lines q None) (get_or lives q None)) (sym (get_or-set_other a.aims p q v None apart))
    (but q apart)

but-life : (p : ℕ) (v : Option ActNo) (a : AssignView) (lives : List (Option ActNo)) → PlacedBut p a lives → PlacedBut p a (slice_set lives p v)
but-life p v a lives but q apart =
    subst (λ o. IsPlaced (get_or a.owners q None) (get_or a.aims q None) (get_or a.lines q None) o) (sym (get_or-set_other lives p q v None apart))
    (but q apart)

some-none : (o : Option SpaceNo) → o ≡ None → IsSome o → ⊥
some-none None e h = cc
some-none (Some s) e h = cc

-- the line is raised of a processor that is owned, where it was low
placed-raised : (o a : Option SpaceNo) (l l' : Option ℕ) (x : Option ActNo) → l ≡ None → IsSome o → IsPlaced o a l x → IsPlaced o a l' x
placed-raised o a l l' x low some h = record {
  runs = h.runs;
  aimed = λ up. subst (λ v. IsSome v) (sym (h.settled low)) some;
  settled = λ e. h.settled low;
}

-- an aim changes, and its line is raised
set-both : (aims : List (Option SpaceNo)) (lines : List (Option ℕ)) (c q : ℕ) (s : SpaceNo) (e : ℕ) → length aims ≡ length lines
    → ((get_or (slice_set aims c (Some s)) q None ≡ get_or aims q None)
    × (get_or (slice_set lines c (raised e (get_or lines c None))) q None ≡ get_or lines q None))
    ⊎ ((get_or (slice_set aims c (Some s)) q None ≡ Some s) × IsSome (get_or (slice_set lines c (raised e (get_or lines c None))) q None))
set-both [] [] c q s e len = inl (refl, refl)
set-both [] (l ∷ lines) c q s e len = absurd (omega arith)
set-both (a ∷ aims) [] c q s e len = absurd (omega arith)
set-both (a ∷ aims) (l ∷ lines) zero zero s e len = inr (refl, some l)
  where
    some : (o : Option ℕ) → IsSome (raised e o)
    some None = refl
    some (Some earlier) = refl
set-both (a ∷ aims) (l ∷ lines) zero (suc q) s e len = inl (refl, refl)
set-both (a ∷ aims) (l ∷ lines) (suc c) zero s e len = inl (refl, refl)
set-both (a ∷ aims) (l ∷ lines) (suc c) (suc q) s e len = set-both aims lines c q s e (omega arith)

some-line : (l : Option ℕ) → IsSome l → l ≡ None → ⊥
some-line None h e = cc
some-line (Some n) h e = cc

placed-change : (e : ℕ) (a : AssignView) (lives : List (Option ActNo)) (c : Change) → length a.aims ≡ length a.lines → ArePlaced a lives
    → ArePlaced (record a { aims = aims_with a.aims c; lines = lines_with e a.lines c }) lives
placed-change e a lives c len placed q = elim (set-both a.aims a.lines c.proc q (space_no c.space) e len) [
  | inl same ↦ placed-same _ (get_or a.owners q None) _ _ _ _ _ (get_or lives q None) refl same.0 same.1 refl (placed q)
  | inr new ↦ record {
    runs = (placed q).runs;
    aimed = λ up. subst (λ v. IsSome v) (sym new.0) refl;
    settled = λ none. absurd (some-line _ new.1 none);
  }
]

placed-changes : (e : ℕ) (a : AssignView) (lives : List (Option ActNo)) (cs : List Change) → length a.aims ≡ length a.lines → ArePlaced a lives
    → ArePlaced (record a { aims = aims_after a.aims cs; lines = lines_after e a.lines cs }) lives
placed-changes e a lives [] len placed = placed
placed-changes e a lives (c ∷ cs) len placed =
    placed-changes e (record a { aims = aims_with a.aims c; lines = lines_with e a.lines c }) lives cs
    (length-set a.aims c.proc _ ∙ len ∙ sym (length-set a.lines c.proc _)) (placed-change e a lives c len placed)

module _ {C : Type 0} where
  abbrev ButAt : ProcNo → Scene C → Type 0
  ButAt p x = PlacedBut p.0 x.state.assign x.state.lives

  abbrev pub AllAt : Scene C → Type 0
  AllAt x = ArePlaced x.state.assign x.state.lives

  but-stopped : (e : ℕ) (p : ProcNo) (o : Option SpaceNo) (l : Option ActNo) (held : Option (Stopped C)) (x : Scene C) → ButAt p x
      → ButAt p (stopped e p o l held x)
  but-stopped e p None l held x but = but
  but-stopped e p (Some s) None held x but = but
  but-stopped e p (Some s) (Some a) None x but = but
  but-stopped e p (Some s) (Some a) (Some h) x but = but-life p.0 None x.state.assign x.state.lives but

  placed-fetch : (e : ℕ) (p : ProcNo) (s : SpaceNo) (b : Bool) (x : Scene C) → AllAt x → AllAt (fetch_page e p s b x)
  placed-fetch e p s true x placed = placed
  placed-fetch e p s false x placed = placed

  placed-leave : (e : ℕ) (p : ProcNo) (s : SpaceNo) (x : Scene C) → line_of x.state p ≡ None → ButAt p x → AllAt (leave e p s x)
  placed-leave e p s x low but =
      let a = x.state.assign in
      let owned : AssignView = record a { owners = slice_set a.owners p.0 None } in
      let left : AssignView = record owned { aims = slice_set a.aims p.0 None } in
      let no : Option SpaceNo = None in
      let here : IsPlaced (get_or left.owners p.0 None) (get_or left.aims p.0 None) (get_or left.lines p.0 None) (life_of x.state p) =
      placed-same None _ None _ None _ (life_of x.state p) (life_of x.state p) (none-set a.owners p.0) (none-set a.aims p.0) low refl
      (record { runs = λ h. absurd (some-none no refl h); aimed = λ h. absurd (some-line None h refl); settled = λ h. refl }) in
      placed-fetch e p s (is_fetching x.state s.0) _
      (all-but p.0 left x.state.lives (but-aim p.0 None owned x.state.lives (but-owner p.0 None a x.state.lives but)) here)

  placed-upcall : (e : ℕ) (p : ProcNo) (s : SpaceNo) (a : ActNo) (added : Bool) (x : Scene C) → p.0 < length x.state.lives
      → owner_of x.state p ≡ Some s → aim_of x.state p ≡ Some s → line_of x.state p ≡ None → ButAt p x → AllAt (upcall e p s a added x)
  placed-upcall e p s a added x within owner aim low but =
      let b = x.state.assign in
      all-but p.0 b (slice_set x.state.lives p.0 (Some a)) (but-life p.0 (Some a) b x.state.lives but)
      (placed-same (Some s) (owner_of x.state p) (Some s) (aim_of x.state p) None (line_of x.state p) (Some a) _ owner aim low
      (get_or-set_same x.state.lives p.0 (Some a) None within)
      (record { runs = λ h. refl; aimed = λ h. refl; settled = λ h. refl }))

  but-moved : (e : ℕ) (p : ProcNo) (s : SpaceNo) (owned : Bool) (x : Scene C) → ButAt p x → ButAt p (moved e p s owned x)
  but-moved e p s true x but = but
  but-moved e p s false x but = but-owner p.0 (Some s) x.state.assign x.state.lives but

  pub cells-moved : (e : ℕ) (p : ProcNo) (s : SpaceNo) (owned : Bool) (x : Scene C)
      → (aim_of (moved e p s owned x).state p ≡ aim_of x.state p) × (line_of (moved e p s owned x).state p ≡ line_of x.state p)
      × ((moved e p s owned x).state.lives ≡ x.state.lives)
  cells-moved e p s true x = (refl, refl, refl)
  cells-moved e p s false x = (refl, refl, refl)

  placed-go_to_by : (e : ℕ) (p : ProcNo) (s : SpaceNo) (a : ActNo) (owned can : Bool) (x : Scene C) → owned ≡ is_aim s.0 (owner_of x.state p)
      → p.0 < length x.state.lives → p.0 < length x.state.assign.owners → aim_of x.state p ≡ Some s → line_of x.state p ≡ None → ButAt p x
      → AllAt (go_to_by e p s a owned can x)
  placed-go_to_by e p s a owned false x is within inside aim low but = placed-leave e p s x low but
  placed-go_to_by e p s a owned true x is within inside aim low but =
      let same = cells-moved e p s owned x in
      placed-upcall e p s a (not owned) (moved e p s owned x) (subst (λ (ls : List (Option ActNo)). p.0 < length ls) (sym same.2) within)
      (owner-moved e p s owned x is inside) (same.0 ∙ aim) (same.1 ∙ low) (but-moved e p s owned x but)

  placed-go_to_aim : (e : ℕ) (p : ProcNo) (a : ActNo) (aim : Option SpaceNo) (x : Scene C) → aim ≡ aim_of x.state p → IsSome aim
      → p.0 < length x.state.lives → p.0 < length x.state.assign.owners → line_of x.state p ≡ None → ButAt p x → AllAt (go_to_aim e p a aim x)
  placed-go_to_aim e p a None x is some within inside low but = absurd (some-none None refl some)
  placed-go_to_aim e p a (Some s) x is some within inside low but =
      placed-go_to_by e p s a (is_aim s.0 (owner_of x.state p)) (can_upcall x.state s) x refl within inside (sym is) low but

  lives-stopped : (e : ℕ) (p : ProcNo) (o : Option SpaceNo) (l : Option ActNo) (held : Option (Stopped C)) (x : Scene C)
      → length (stopped e p o l held x).state.lives ≡ length x.state.lives
  lives-stopped e p None l held x = refl
  lives-stopped e p (Some s) None held x = refl
  lives-stopped e p (Some s) (Some a) None x = refl
  lives-stopped e p (Some s) (Some a) (Some h) x = length-set x.state.lives p.0 None

  placed-interrupted : (e : ℕ) (p : ProcNo) (a : ActNo) (held : Option (Stopped C)) (x : Scene C) → HasSizes x.state → p.0 < length x.state.lives
      → IsSome (line_of x.state p) → AllAt x → AllAt (interrupted e p a held x)
  placed-interrupted e p a held x sizes within raised placed =
      let k = x.state in
      let low : Scene C = record x { state = record k { assign = record k.assign { lines = slice_set k.assign.lines p.0 None } } } in
      let o = owner_of k p in
      let l = life_of k p in
      let mid = stopped e p o l held low in
      let same : mid.state.assign ≡ low.state.assign = (same-stopped e p o l held low).0 in
      let len = lives-stopped e p o l held low in
      let inside : p.0 < length mid.state.lives = omega arith in
      let owners : length mid.state.assign.owners ≡ length k.assign.owners = ap (λ (b : AssignView). length b.owners) same in
      let enough : p.0 < length mid.state.assign.owners = (let z = sizes.owners in omega arith) in
      placed-go_to_aim e p a (aim_of k p) mid (sym (ap (λ (b : AssignView). get_or b.aims p.0 None) same)) ((placed p.0).aimed raised) inside enough
      (ap (λ (b : AssignView). get_or b.lines p.0 None) same ∙ none-set k.assign.lines p.0)
      (but-stopped e p o l held low (but-line p.0 None k.assign k.lives (but-all p.0 k.assign k.lives placed)))

  placed-blocked : (e : ℕ) (p : ProcNo) (b : ActNo) (o : Option SpaceNo) (l : Option ActNo) (held : Stopped C) (len : ℕ) (page : Option ℕ) (x : Scene C)
      → o ≡ owner_of x.state p → p.0 < length x.state.lives → line_of x.state p ≡ None → AllAt x → AllAt (blocked_by e p b o l held len page x)
  placed-blocked e p b None l held len page x owner within low placed = placed
  placed-blocked e p b (Some s) None held len page x owner within low placed = placed
  placed-blocked e p b (Some s) (Some a) held len page x owner within low placed = told (can_upcall x.state s)
    where
      but : ButAt p (block_begun e p s a held len page x)
      but = but-life p.0 None x.state.assign x.state.lives (but-all p.0 x.state.assign x.state.lives placed)

      told : (can : Bool) → AllAt (told_or_left e p s b can (block_begun e p s a held len page x))
      told true =
          placed-upcall e p s b false (block_begun e p s a held len page x) (let z = length-set x.state.lives p.0 None in omega arith)
          (sym owner) ((placed p.0).settled low ∙ sym owner) low but
      told false = placed-leave e p s (block_begun e p s a held len page x) low but

  placed-over_for : (e : ℕ) (p : ProcNo) (kind : IoKind) (x : Scene C) → AllAt x → AllAt (over_for e p kind x)
  placed-over_for e p (Plain s a) x placed = placed
  placed-over_for e p (Page s a k) x placed = placed
  placed-over_for e p (Upcall s) x placed = placed

  placed-over : (e : ℕ) (p : ProcNo) (io : IoNo) (kind : Option IoKind) (x : Scene C) → AllAt x → AllAt (over e p io kind x)
  placed-over e p io None x placed = placed
  placed-over e p io (Some kind) x placed = placed-over_for e p kind _ placed

  placed-more : (e : ℕ) (p : ProcNo) (n : ℕ) (o : Option SpaceNo) (x : Scene C) → AllAt x → AllAt (more e p n o x)
  placed-more e p n None x placed = placed
  placed-more e p n (Some s) x placed = placed

  placed-idled : (e : ℕ) (p : ProcNo) (o : Option SpaceNo) (x : Scene C) → AllAt x → AllAt (idled e p o x)
  placed-idled e p None x placed = placed
  placed-idled e p (Some s) x placed = placed

  placed-gave_back : (e : ℕ) (p : ProcNo) (o : Option SpaceNo) (x : Scene C) → AllAt x → AllAt (gave_back e p o x)
  placed-gave_back e p None x placed = placed
  placed-gave_back e p (Some s) x placed = placed

  placed-raise : (k : KernelState C) (q : ℕ) (v : Option ℕ) → line_of k (proc_no q) ≡ None → IsSome (owner_of k (proc_no q)) → ArePlaced k.assign k.lives
      → ArePlaced (record k.assign { lines = slice_set k.assign.lines q v }) k.lives
  placed-raise k q v low some placed =
      all-but q (record k.assign { lines = slice_set k.assign.lines q v }) k.lives (but-line q v k.assign k.lives (but-all q k.assign k.lives placed))
      (placed-raised _ _ (line_of k (proc_no q)) _ _ low some (placed q))

  pub placed-entered_as : (e : ℕ) (p : ProcNo) (a : ActNo) (entry : Entry C) (x : Scene C) → HasSizes x.state → p.0 < length x.state.lives
      → MayEnter x.state p e entry → AllAt x → AllAt (entered_as e p a entry x)
  placed-entered_as e p a (Interrupt held) x sizes within fit placed = placed-interrupted e p a held x sizes within fit.raised placed
  placed-entered_as e p a (Block held len page) x sizes within fit placed =
      placed-blocked e p a (owner_of x.state p) (life_of x.state p) held len page x refl within fit.asks.low placed
  placed-entered_as e p a (Complete io) x sizes within fit placed = placed-over e p io (kind_at io.0 x.state.under_way) x placed
  placed-entered_as e p a (More n) x sizes within fit placed = placed-more e p n (owner_of x.state p) x placed
  placed-entered_as e p a Idle x sizes within fit placed = placed-idled e p (owner_of x.state p) x placed
  placed-entered_as e p a GiveBack x sizes within fit placed = placed-gave_back e p (owner_of x.state p) x placed
  placed-entered_as e p a (InterruptOwn q) x sizes within fit placed =
      placed-raise x.state q.0 (Some e) fit.owned.low (subst (λ v. IsSome v) (sym fit.owned.owner) refl) placed

  -- what each space's part of the closing keeps, the closing keeps
  pub for_spaces-keeps : (P : Scene C → Type 0) (f : ℕ → Scene C → Scene C) → ((s : ℕ) (x : Scene C) → P x → P (f s x))
      → (s n : ℕ) (x : Scene C) → P x → P (for_spaces f s n x)
  for_spaces-keeps P f keeps s zero x h = h
  for_spaces-keeps P f keeps s (suc n) x h = for_spaces-keeps P f keeps (s + 1) n (f s x) (keeps s x h)

  placed-want_one : (e : ℕ) (p : ProcNo) (b : Bool) (s : ℕ) (x : Scene C) → AllAt x × (length x.state.assign.aims ≡ length x.state.assign.lines)
      → AllAt (want_one e p b s x) × (length (want_one e p b s x).state.assign.aims ≡ length (want_one e p b s x).state.assign.lines)
  placed-want_one e p false s x h = h
  placed-want_one e p true s x h = h

  placed-interrupt : (e : ℕ) (p : ProcNo) (s : ℕ) (q : Option ℕ) (x : Scene C) → q ≡ least_below (length x.state.lives) (has_low_line x.state s)
      → AllAt x → AllAt (interrupt e p q x)
  placed-interrupt e p s None x is placed = placed
  placed-interrupt e p s (Some q) x is placed =
      let low = low-is x.state (space_no s) (proc_no q) (least_below-passes (length x.state.lives) (has_low_line x.state s) q (sym is)).passes in
      placed-raise x.state q (Some e) low.line (subst (λ v. IsSome v) (sym low.owner) refl) placed

  pub placed-interrupt_one : (e : ℕ) (p : ProcNo) (b : Bool) (s : ℕ) (x : Scene C) → AllAt x → AllAt (interrupt_one e p b s x)
  placed-interrupt_one e p false s x placed = placed
  placed-interrupt_one e p true s x placed = placed-interrupt e p s (least_below (length x.state.lives) (has_low_line x.state s)) x refl placed

  -- after the wants and the aims
  pub placed-aimed : (e : ℕ) (p : ProcNo) (x : Scene C) → HasSizes x.state → AllAt x → AllAt (aims e p (wants e p x))
  placed-aimed e p x sizes placed =
      let P : Scene C → Type 0 = λ y. AllAt y × (length y.state.assign.aims ≡ length y.state.assign.lines) in
      let w = wants e p x in
      let wanted : P w =
      for_spaces-keeps P (want_for e p) (λ s y h. placed-want_one e p (must_want y.state s) s y h) 0 (spaces x.state) x
      (placed, sizes.aims ∙ sym sizes.lines) in
      placed-changes e w.state.assign w.state.lives (changes_in (spaces w.state) (shares w.state e) w.state.assign) wanted.1 wanted.0

  pub placed-closed : (e : ℕ) (p : ProcNo) (x : Scene C) → HasSizes x.state → AllAt x → AllAt (closed e p x)
  placed-closed e p x sizes placed =
      let y = aims e p (wants e p x) in
      for_spaces-keeps AllAt (interrupt_for e p) (λ s z h. placed-interrupt_one e p (must_interrupt z.state s) s z h) 0 (spaces y.state) y
      (placed-aimed e p x sizes placed)

  placed-handed : (o : Option (Stopped C)) (a : ActNo) (k : KernelState C) → ArePlaced k.assign k.lives
      → ArePlaced (handed_by o a k).assign (handed_by o a k).lives
  placed-handed None a k placed = placed
  placed-handed (Some h) a k placed = placed

  pub placed-after_fetch : (notes : List Note) (k : KernelState C) → ArePlaced k.assign k.lives
      → ArePlaced (after_fetch notes k).assign (after_fetch notes k).lives
  placed-after_fetch [] k placed = placed
  placed-after_fetch (Add p ∷ notes) k placed = placed
  placed-after_fetch (Blocked a ∷ notes) k placed = placed
  placed-after_fetch (Preempted a ∷ notes) k placed = placed-handed (held_of (k.acts a.0)) a (record k { telling = notes }) placed
  placed-after_fetch (Unblocked a ∷ notes) k placed = placed-handed (held_of (k.acts a.0)) a (record k { telling = notes }) placed
