-- What an event does to the lines: one that is raised and was not has its record.
use Rattle.std.proofs.Common.{◌≡◌, ℕ, zero, suc, ◌++◌, Bool, true, false, not, ◌⊎◌, inl, inr, Option, Some, None, List, [], ◌∷◌, map, length, slice_set, refl, sym, ap, subst, ◌∙◌, arith}
use Rattle.std.specs.Prelude.{Contains}
use Rattle.std.proofs.lemmas.Option.{same_Some}
use Rattle.std.proofs.lemmas.List.{append_assoc}
use Rattle.std.proofs.lemmas.List.Elements.{Contains-append_left, Contains-append_right, Contains-push}
use Rattle.sa_base.specs.declared.number.ProcNo.{ProcNo}
use Rattle.sa_base.specs.declared.number.SpaceNo.{SpaceNo}
use Rattle.sa_base.specs.declared.number.ActNo.{ActNo}
use Rattle.sa_base.specs.declared.number.IoNo.{IoNo}
use Rattle.sa_base.specs.declared.context.Stopped.{Stopped}
use Rattle.sa_base.specs.declared.record.Item.{Item}
use Rattle.sa_base.specs.declared.record.Note.{Note}
use Rattle.sa_base.specs.declared.record.Note.TheVariants.{Preempted, Unblocked}
use Rattle.sa_base.specs.declared.record.Record.{Record}
use Rattle.sa_base.specs.declared.record.Record.TheVariants.{Line, Aim, Move, Up, Told}
use Rattle.sa_base.specs.Items.{items_at}
use Rattle.sa_lemmas.proofs.Membership.{contains-head, contains-tail}
use Rattle.sa_acts.specs.Table.{held_of}
use Rattle.sa_assign.specs.Aims.{Change, space_no, is_aim, least_below}
use Rattle.sa_assign.specs.Reaim.{proc_no, line_at, raised, lines_with, lines_after, line_records, records_of, changes_in, reaim_records}
use Rattle.sa_devices.specs.Ios.{without}
use Rattle.sa_devices.specs.Pages.{completed}
use Rattle.sa_devices.specs.declared.kind.IoKind.{IoKind}
use Rattle.sa_devices.specs.declared.kind.IoKind.TheVariants.{Plain}
use Rattle.sa_kernel_model.specs.declared.entry.Entry.{Entry}
use Rattle.sa_kernel_model.specs.declared.entry.Entry.TheVariants.{Interrupt, Block as BlockEntry, Complete, More as MoreEntry, Idle as IdleEntry, GiveBack as GiveBackEntry, InterruptOwn as InterruptOwnEntry}
use Rattle.sa_kernel_model.specs.State.{KernelState, Scene, owner_of, aim_of, life_of, can_upcall, is_fetching, untold_of}
use Rattle.sa_batch.specs.Notices.{notes_told}
use Rattle.sa_kernel_model.specs.Parts.{with_line, with_owner, without_aim, fetch_page, leave, upcall, moved, go_to_by}
use Rattle.sa_kernel_model.specs.Closing.{wants, want_for, want_one, must_want, aims, shares, spaces, interrupt, interrupt_one, interrupt_for, must_interrupt, has_low_line, closed}
use Rattle.sa_kernel_model.specs.Entries.{stopped, go_to_aim, interrupted, told_or_left, block_begun, blocked_by, kind_at, over_for, over, more, idled, gave_back, entered_as, entered, fetched, handed_by}
use Rattle.sa_kernel_model.proofs.parts.Placed.{for_spaces-keeps}
use Rattle.sa_seat.specs.Chain.{line_item, HasLine}

-- a line after a write to the lines
set-cases : (ls : List (Option ℕ)) (i q : ℕ) (v : Option ℕ) → ((q ≡ i) × (line_at (slice_set ls i v) q ≡ v)) ⊎ (line_at (slice_set ls i v) q ≡ line_at ls q)
set-cases (x ∷ xs) zero zero v = inl (refl, refl)
set-cases (x ∷ xs) (suc i) (suc q) v = elim (set-cases xs i q v) [ inl h ↦ inl (ap suc h.0, h.1) | inr h ↦ inr h ]
set-cases _ _ _ v = inr refl

-- the records of raised lines among those of changed aims

raised-by : (e p q k : ℕ) (line : Option ℕ) → q ≡ p → raised e line ≡ Some k → (line ≡ Some k) ⊎ ((k ≡ e) × Contains (line_records p line) (Line (proc_no q)))
raised-by e p q k None same is =
    inr (sym (same_Some e k is), subst (λ (i : ℕ). Contains (line_records p None) (Line (proc_no i))) (sym same) (contains-head (Line (proc_no p)) []))
raised-by e p q k (Some earlier) same is = inl is

pub changes-tell : (e q k : ℕ) (ls : List (Option ℕ)) (cs : List Change) → line_at (lines_after e ls cs) q ≡ Some k
    → (line_at ls q ≡ Some k) ⊎ ((k ≡ e) × Contains (records_of e ls cs) (Line (proc_no q)))
changes-tell e q k ls [] is = inl is
changes-tell e q k ls (c ∷ cs) is =
    let next = lines_with e ls c in
    let own = line_records c.proc (line_at ls c.proc) in
    let rest = records_of e next cs in
    let aim = Aim (proc_no c.proc) (Some (space_no c.space)) in
    elim (changes-tell e q k next cs is) [
      | inl here ↦ elim (set-cases ls c.proc q (raised e (line_at ls c.proc))) [
        | inl at ↦ elim (raised-by e c.proc q k (line_at ls c.proc) at.0 (sym at.1 ∙ here)) [
          | inl was ↦ inl (ap (line_at ls) at.0 ∙ was)
          | inr new ↦ inr (new.0, contains-tail aim (own ++ rest) (Line (proc_no q)) (Contains-append_left own rest (Line (proc_no q)) new.1))
        ]
        | inr other ↦ inl (sym other ∙ here)
      ]
      | inr new ↦ inr (new.0, contains-tail aim (own ++ rest) (Line (proc_no q)) (Contains-append_right own rest (Line (proc_no q)) new.1))
    ]

pub has-item : (e : ℕ) (p : ProcNo) (rs : List Record) (r : Record) → Contains rs r → Contains (items_at e p rs) (record { event = e; proc = p; what = r })
has-item e p [] r h = absurd (omega (arith, h.1))
has-item e p (x ∷ rs) r (zero, lt, is) =
    subst (λ (z : Record). Contains (items_at e p (x ∷ rs)) (record { event = e; proc = p; what = z })) is
    (contains-head (record { event = e; proc = p; what = x }) (items_at e p rs))
has-item e p (x ∷ rs) r (suc k, lt, is) =
    contains-tail (record { event = e; proc = p; what = x }) (items_at e p rs) (record { event = e; proc = p; what = r })
    (has-item e p rs r (k, omega (arith, lt), is))

module _ {C : Type 0} where
  -- from one scene to another of the same event: items were added, and each line that is raised was so, or has its record
  pub record Tells (e : ℕ) (x y : Scene C) : Type 0 where
    pub kept : (i : Item) → Contains x.items i → Contains y.items i
    pub raised : (q k : ℕ) → line_at y.state.assign.lines q ≡ Some k → (line_at x.state.assign.lines q ≡ Some k) ⊎ ((k ≡ e) × HasLine y.items e q)

  pub tells-more : (e : ℕ) (x y : Scene C) (new : List Item) → y.items ≡ x.items ++ new → y.state.assign.lines ≡ x.state.assign.lines → Tells e x y
  tells-more e x y new items same = record {
    kept = λ i h. subst (λ (is : List Item). Contains is i) (sym items) (Contains-append_left x.items new i h);
    raised = λ q k is. inl (ap (λ (ls : List (Option ℕ)). line_at ls q) (sym same) ∙ is);
  }

  pub tells-same : (e : ℕ) (x y : Scene C) → y.items ≡ x.items → y.state.assign.lines ≡ x.state.assign.lines → Tells e x y
  tells-same e x y items same = record {
    kept = λ i h. subst (λ (is : List Item). Contains is i) (sym items) h;
    raised = λ q k is. inl (ap (λ (ls : List (Option ℕ)). line_at ls q) (sym same) ∙ is);
  }

  pub tells-again : (e : ℕ) (x y z : Scene C) → Tells e x y → Tells e y z → Tells e x z
  tells-again e x y z a b = record {
    kept = λ i h. b.kept i (a.kept i h);
    raised = λ q k is. elim (b.raised q k is) [
      | inl was ↦ elim (a.raised q k was) [
        | inl before ↦ inl before
        | inr new ↦ inr (new.0, (new.1.0, b.kept (line_item e new.1.0 q) new.1.1))
      ]
      | inr new ↦ inr new
    ];
  }

  -- a line is raised, with its record
  tells-line : (e q : ℕ) (p : ProcNo) (x y : Scene C) → y.items ≡ x.items ++ line_item e p q ∷ []
      → y.state.assign.lines ≡ slice_set x.state.assign.lines q (Some e) → Tells e x y
  tells-line e q p x y items ls = record {
    kept = λ i h. subst (λ (is : List Item). Contains is i) (sym items) (Contains-append_left x.items (line_item e p q ∷ []) i h);
    raised = λ r k is. elim (set-cases x.state.assign.lines q r (Some e)) [
      | inl at ↦ inr (
        same_Some k e (sym is ∙ ap (λ (l : List (Option ℕ)). line_at l r) ls ∙ at.1),
        (
          p,
          subst (λ (i : Item). Contains y.items i) (ap (λ (n : ℕ). line_item e p n) (sym at.0))
              (subst (λ (is : List Item). Contains is (line_item e p q)) (sym items) (Contains-push x.items (line_item e p q))),
        ),
      )
      | inr other ↦ inl (sym other ∙ ap (λ (l : List (Option ℕ)). line_at l r) (sym ls) ∙ is)
    ];
  }

  -- a line is lowered
  tells-low : (e q : ℕ) (x y : Scene C) → y.items ≡ x.items → y.state.assign.lines ≡ slice_set x.state.assign.lines q None → Tells e x y
  tells-low e q x y items ls = record {
    kept = λ i h. subst (λ (is : List Item). Contains is i) (sym items) h;
    raised = λ r k is. elim (set-cases x.state.assign.lines q r None) [
      | inl at ↦ absurd (let z : None ≡ Some k = sym at.1 ∙ ap (λ (l : List (Option ℕ)). line_at l r) (sym ls) ∙ is in cc)
      | inr other ↦ inl (sym other ∙ ap (λ (l : List (Option ℕ)). line_at l r) (sym ls) ∙ is)
    ];
  }

  -- the closing

  tells-want_one : (e : ℕ) (p : ProcNo) (b : Bool) (s : ℕ) (x : Scene C) → Tells e x (want_one e p b s x)
  tells-want_one e p false s x = tells-same e x x refl refl
  tells-want_one e p true s x = tells-more e x _ _ refl refl

  tells-interrupt : (e : ℕ) (p : ProcNo) (o : Option ℕ) (x : Scene C) → Tells e x (interrupt e p o x)
  tells-interrupt e p None x = tells-same e x x refl refl
  tells-interrupt e p (Some q) x = tells-line e q p x _ refl refl

  tells-interrupt_one : (e : ℕ) (p : ProcNo) (b : Bool) (s : ℕ) (x : Scene C) → Tells e x (interrupt_one e p b s x)
  tells-interrupt_one e p false s x = tells-same e x x refl refl
  tells-interrupt_one e p true s x = tells-interrupt e p (least_below (length x.state.lives) (has_low_line x.state s)) x

  tells-aims : (e : ℕ) (p : ProcNo) (x : Scene C) → Tells e x (aims e p x)
  tells-aims e p x =
      let cs = changes_in (spaces x.state) (shares x.state e) x.state.assign in
      let rs = reaim_records e (spaces x.state) (shares x.state e) x.state.assign in record {
        kept = λ i h. Contains-append_left x.items (items_at e p rs) i h;
        raised = λ q k is. elim (changes-tell e q k x.state.assign.lines cs is) [
          | inl was ↦ inl was
          | inr new ↦ inr (new.0, (p, Contains-append_right x.items (items_at e p rs) (line_item e p q) (has-item e p rs (Line (proc_no q)) new.1)))
        ];
      }

  pub tells-closed : (e : ℕ) (p : ProcNo) (x : Scene C) → Tells e x (closed e p x)
  tells-closed e p x =
      let w = wants e p x in
      let a = aims e p w in
      let first : Tells e x w = for_spaces-keeps (λ (y : Scene C). Tells e x y) (want_for e p)
      (λ s y h. tells-again e x y (want_for e p s y) h (tells-want_one e p (must_want y.state s) s y)) 0 (spaces x.state) x (tells-same e x x refl refl) in
      let second : Tells e x a = tells-again e x w a first (tells-aims e p w) in
      for_spaces-keeps (λ (y : Scene C). Tells e x y) (interrupt_for e p)
      (λ s y h. tells-again e x y (interrupt_for e p s y) h (tells-interrupt_one e p (must_interrupt y.state s) s y)) 0 (spaces a.state) a second

  -- the entries

  tells-fetch_page : (e : ℕ) (p : ProcNo) (s : SpaceNo) (b : Bool) (x : Scene C) → Tells e x (fetch_page e p s b x)
  tells-fetch_page e p s true x = tells-same e x x refl refl
  tells-fetch_page e p s false x = tells-more e x _ _ refl refl

  tells-leave : (e : ℕ) (p : ProcNo) (s : SpaceNo) (x : Scene C) → Tells e x (leave e p s x)
  tells-leave e p s x =
      let owner = owner_of x.state p in
      let first : List Item = record { event = e; proc = p; what = Move owner None } ∷ [] in
      let second : List Item = record { event = e; proc = p; what = Aim p None } ∷ [] in
      let left : Scene C = record { state = without_aim p (with_owner p None x.state); items = (x.items ++ first) ++ second } in
      tells-again e x left (leave e p s x) (tells-more e x left (first ++ second) (append_assoc x.items first second) refl)
      (tells-fetch_page e p s (is_fetching left.state s.0) left)

  tells-upcall : (e : ℕ) (p : ProcNo) (s : SpaceNo) (a : ActNo) (added : Bool) (x : Scene C) → Tells e x (upcall e p s a added x)
  tells-upcall e p s a added x =
      let first : List Item = record { event = e; proc = p; what = Up s a } ∷ [] in
      let second : List Item = items_at e p (map Told (notes_told added p (untold_of x.state s.0))) in
      tells-more e x (upcall e p s a added x) (first ++ second) (append_assoc x.items first second) refl

  tells-moved : (e : ℕ) (p : ProcNo) (s : SpaceNo) (b : Bool) (x : Scene C) → Tells e x (moved e p s b x)
  tells-moved e p s true x = tells-same e x x refl refl
  tells-moved e p s false x = tells-more e x _ _ refl refl

  tells-go_to_by : (e : ℕ) (p : ProcNo) (s : SpaceNo) (a : ActNo) (owned can : Bool) (x : Scene C) → Tells e x (go_to_by e p s a owned can x)
  tells-go_to_by e p s a owned false x = tells-leave e p s x
  tells-go_to_by e p s a owned true x =
      let there = moved e p s owned x in
      tells-again e x there (upcall e p s a (not owned) there) (tells-moved e p s owned x) (tells-upcall e p s a (not owned) there)

  tells-go_to_aim : (e : ℕ) (p : ProcNo) (a : ActNo) (o : Option SpaceNo) (x : Scene C) → Tells e x (go_to_aim e p a o x)
  tells-go_to_aim e p a None x = tells-same e x x refl refl
  tells-go_to_aim e p a (Some s) x = tells-go_to_by e p s a (is_aim s.0 (owner_of x.state p)) (can_upcall x.state s) x

  tells-stopped : (e : ℕ) (p : ProcNo) (o : Option SpaceNo) (l : Option ActNo) (h : Option (Stopped C)) (x : Scene C) → Tells e x (stopped e p o l h x)
  tells-stopped e p (Some s) (Some a) (Some held) x = tells-more e x _ _ refl refl
  tells-stopped e p _ _ _ x = tells-same e x x refl refl

  tells-interrupted : (e : ℕ) (p : ProcNo) (a : ActNo) (h : Option (Stopped C)) (x : Scene C) → Tells e x (interrupted e p a h x)
  tells-interrupted e p a h x =
      let low : Scene C = record x { state = with_line p None x.state } in
      let off = stopped e p (owner_of x.state p) (life_of x.state p) h low in
      let end = go_to_aim e p a (aim_of x.state p) off in
      tells-again e x low end (tells-low e p.0 x low refl refl)
      (tells-again e low off end (tells-stopped e p (owner_of x.state p) (life_of x.state p) h low) (tells-go_to_aim e p a (aim_of x.state p) off))

  tells-told_or_left : (e : ℕ) (p : ProcNo) (s : SpaceNo) (a : ActNo) (b : Bool) (x : Scene C) → Tells e x (told_or_left e p s a b x)
  tells-told_or_left e p s a true x = tells-upcall e p s a false x
  tells-told_or_left e p s a false x = tells-leave e p s x

  tells-blocked_by : (e : ℕ) (p : ProcNo) (fresh : ActNo) (o : Option SpaceNo) (l : Option ActNo) (held : Stopped C) (len : ℕ) (page : Option ℕ) (x : Scene C)
      → Tells e x (blocked_by e p fresh o l held len page x)
  tells-blocked_by e p fresh (Some s) (Some a) held len page x =
      let y = block_begun e p s a held len page x in
      tells-again e x y (told_or_left e p s fresh (can_upcall x.state s) y) (tells-more e x y _ refl refl)
      (tells-told_or_left e p s fresh (can_upcall x.state s) y)
  tells-blocked_by e p fresh _ _ held len page x = tells-same e x x refl refl

  tells-over_for : (e : ℕ) (p : ProcNo) (kind : IoKind) (x : Scene C) → Tells e x (over_for e p kind x)
  tells-over_for e p (Plain s a) x = tells-more e x _ _ refl refl
  tells-over_for e p _ x = tells-more e x _ _ refl refl

  tells-over : (e : ℕ) (p : ProcNo) (io : IoNo) (kind : Option IoKind) (x : Scene C) → Tells e x (over e p io kind x)
  tells-over e p io None x = tells-same e x x refl refl
  tells-over e p io (Some kind) x =
      let y : Scene C = record x { state = record x.state { under_way = without io.0 x.state.under_way; pages = completed kind x.state.pages } } in
      tells-again e x y (over_for e p kind y) (tells-same e x y refl refl) (tells-over_for e p kind y)

  tells-more_want : (e : ℕ) (p : ProcNo) (n : ℕ) (o : Option SpaceNo) (x : Scene C) → Tells e x (more e p n o x)
  tells-more_want e p n None x = tells-same e x x refl refl
  tells-more_want e p n (Some s) x = tells-more e x _ _ refl refl

  tells-idled : (e : ℕ) (p : ProcNo) (o : Option SpaceNo) (x : Scene C) → Tells e x (idled e p o x)
  tells-idled e p None x = tells-same e x x refl refl
  tells-idled e p (Some s) x = tells-more e x _ _ refl refl

  tells-gave_back : (e : ℕ) (p : ProcNo) (o : Option SpaceNo) (x : Scene C) → Tells e x (gave_back e p o x)
  tells-gave_back e p None x = tells-same e x x refl refl
  tells-gave_back e p (Some s) x = tells-more e x _ _ refl refl

  tells-entered_as : (e : ℕ) (p : ProcNo) (a : ActNo) (entry : Entry C) (x : Scene C) → Tells e x (entered_as e p a entry x)
  tells-entered_as e p a (Interrupt held) x = tells-interrupted e p a held x
  tells-entered_as e p a (BlockEntry held len page) x = tells-blocked_by e p a (owner_of x.state p) (life_of x.state p) held len page x
  tells-entered_as e p a (Complete io) x = tells-over e p io (kind_at io.0 x.state.under_way) x
  tells-entered_as e p a (MoreEntry n) x = tells-more_want e p n (owner_of x.state p) x
  tells-entered_as e p a IdleEntry x = tells-idled e p (owner_of x.state p) x
  tells-entered_as e p a GiveBackEntry x = tells-gave_back e p (owner_of x.state p) x
  tells-entered_as e p a (InterruptOwnEntry q) x = tells-line e q.0 p x _ refl refl

  pub tells-entered : (e : ℕ) (p : ProcNo) (a : ActNo) (entry : Entry C) (x : Scene C) → Tells e x (entered e p a entry x)
  tells-entered e p a entry x =
      tells-again e x (entered_as e p a entry x) (entered e p a entry x) (tells-entered_as e p a entry x) (tells-closed e p (entered_as e p a entry x))

  -- a context fetches what it is told

  tells-fetched : (e : ℕ) (note : Note) (k : KernelState C) → (fetched note k).assign ≡ k.assign
  tells-fetched e (Preempted a) k = by (held_of (k.acts a.0)) where
    by : (h : Option (Stopped C)) → (handed_by h a k).assign ≡ k.assign
    by None = refl
    by (Some held) = refl
  tells-fetched e (Unblocked a) k = by (held_of (k.acts a.0)) where
    by : (h : Option (Stopped C)) → (handed_by h a k).assign ≡ k.assign
    by None = refl
    by (Some held) = refl
  tells-fetched e _ k = refl

  pub same-fetched : (note : Note) (k : KernelState C) → (fetched note k).assign ≡ k.assign
  same-fetched note k = tells-fetched 0 note k
