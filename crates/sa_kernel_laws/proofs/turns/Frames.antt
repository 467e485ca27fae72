-- A turn does the same whatever was in the trace before, and adds its items after that.
use Rattle.std.proofs.Common.{◌≡◌, ℕ, zero, suc, ◌+◌, refl, ◌∙◌, ap, Some, None, List, [], ◌∷◌, ◌++◌, append_assoc, length, map, true, false}
use Rattle.std.specs.Prelude.{Option, Bool, not}
use Rattle.sa_base.specs.declared.number.SpaceNo.{SpaceNo}
use Rattle.sa_base.specs.declared.number.ProcNo.{ProcNo}
use Rattle.sa_base.specs.declared.number.ActNo.{ActNo}
use Rattle.sa_base.specs.declared.number.IoNo.{IoNo}
use Rattle.sa_base.specs.declared.context.Stopped.{Stopped}
use Rattle.sa_base.specs.declared.record.Note.TheVariants.{Preempted, Blocked}
use Rattle.sa_base.specs.declared.record.Record.{Record}
use Rattle.sa_base.specs.declared.record.Record.TheVariants.{Up, Told, Move, Aim, Stop, Block as BlockRecord}
use Rattle.sa_base.specs.declared.record.Item.{Item}
use Rattle.sa_base.specs.Items.{items_at}
use Rattle.sa_assign.specs.Aims.{is_aim, least_below}
use Rattle.sa_assign.specs.Reaim.{reaim_records}
use Rattle.sa_batch.specs.Notices.{notes_told}
use Rattle.sa_devices.specs.declared.kind.IoKind.{IoKind}
use Rattle.sa_devices.specs.declared.kind.IoKind.TheVariants.{Plain, Upcall}
use Rattle.sa_kernel_model.specs.declared.entry.Entry.{Entry}
use Rattle.sa_kernel_model.specs.declared.entry.Entry.TheVariants as entry
use Rattle.sa_kernel_model.specs.State.{KernelState, Scene, owner_of, life_of, aim_of, untold_of, is_fetching, can_upcall, says}
use Rattle.sa_kernel_model.specs.Parts.{with_owner, without_aim, run_in, say_told, upcall, fetch_page, leave, moved, go_to_by, with_line, put_aside, with_io}
use Rattle.sa_kernel_model.specs.Entries.{stopped, go_to_aim, interrupted, told_or_left, block_begun, blocked_by, io_for, over, kind_at, more, idled, gave_back, entered_as}
use Rattle.sa_kernel_model.specs.Closing.{for_spaces, spaces, shares, must_want, want_one, want_for, wants, aims, must_interrupt, has_low_line, interrupt, interrupt_one, interrupt_for, lines, closed}
use Rattle.sa_kernel_laws.specs.Turn.{before_entry, turn_on, turned}
use Rattle.sa_kernel_laws.specs.Laws.{AddsItsEvent}
use Rattle.sa_kernel_laws.proofs.turns.WholeTurn.{whole-turn}

module _ {C : Type 0} where
  -- a scene after what was in the trace before
  abbrev behind : List Item → Scene C → Scene C
  behind past x = record x { items = past ++ x.items }

  more-items : (past xs : List Item) (k : KernelState C) (x : Scene C)
      → (let y : Scene C = record { state = k; items = (past ++ x.items) ++ xs } in y) ≡ behind past (record { state = k; items = x.items ++ xs })
  more-items past xs k x = λ i. record { state = k; items = append_assoc past x.items xs i }

  framed-says : (past : List Item) (e : ℕ) (p : ProcNo) (r : Record) (x : Scene C) → says e p r (behind past x) ≡ behind past (says e p r x)
  framed-says past e p r x = more-items past (record { event = e; proc = p; what = r } ∷ []) x.state x

  framed-upcall : (past : List Item) (e : ℕ) (p : ProcNo) (s : SpaceNo) (a : ActNo) (added : Bool) (x : Scene C)
      → upcall e p s a added (behind past x) ≡ behind past (upcall e p s a added x)
  framed-upcall past e p s a added x =
      let notes = notes_told added p (untold_of x.state s.0) in
      let up : Scene C = says e p (Up s a) (record x { state = run_in p s a notes x.state }) in
      ap (say_told e p notes) (framed-says past e p (Up s a) (record x { state = run_in p s a notes x.state }))
      ∙ more-items past (items_at e p (map Told notes)) up.state up

  framed-fetch : (past : List Item) (e : ℕ) (p : ProcNo) (s : SpaceNo) (b : Bool) (x : Scene C)
      → fetch_page e p s b (behind past x) ≡ behind past (fetch_page e p s b x)
  framed-fetch past e p s true x = refl
  framed-fetch past e p s false x = framed-says past e p _ (record x { state = with_io (Upcall s) (e + x.state.fixed.fetch) x.state })

  framed-leave : (past : List Item) (e : ℕ) (p : ProcNo) (s : SpaceNo) (x : Scene C) → leave e p s (behind past x) ≡ behind past (leave e p s x)
  framed-leave past e p s x =
      let owner = owner_of x.state p in
      let gone : Scene C = record x { state = without_aim p (with_owner p None x.state) } in
      let one = framed-says past e p (Move owner None) gone in
      let two : says e p (Aim p None) (says e p (Move owner None) (behind past gone)) ≡ behind past (says e p (Aim p None) (says e p (Move owner None) gone)) =
      ap (says e p (Aim p None)) one ∙ framed-says past e p (Aim p None) (says e p (Move owner None) gone) in
      ap (fetch_page e p s (is_fetching x.state s.0)) two
      ∙ framed-fetch past e p s (is_fetching x.state s.0) (says e p (Aim p None) (says e p (Move owner None) gone))

  framed-moved : (past : List Item) (e : ℕ) (p : ProcNo) (s : SpaceNo) (owned : Bool) (x : Scene C)
      → moved e p s owned (behind past x) ≡ behind past (moved e p s owned x)
  framed-moved past e p s true x = refl
  framed-moved past e p s false x = framed-says past e p (Move (owner_of x.state p) (Some s)) (record x { state = with_owner p (Some s) x.state })

  framed-go : (past : List Item) (e : ℕ) (p : ProcNo) (s : SpaceNo) (a : ActNo) (owned can : Bool) (x : Scene C)
      → go_to_by e p s a owned can (behind past x) ≡ behind past (go_to_by e p s a owned can x)
  framed-go past e p s a owned false x = framed-leave past e p s x
  framed-go past e p s a owned true x =
      ap (upcall e p s a (not owned)) (framed-moved past e p s owned x) ∙ framed-upcall past e p s a (not owned) (moved e p s owned x)

  framed-stopped : (past : List Item) (e : ℕ) (p : ProcNo) (o : Option SpaceNo) (l : Option ActNo) (held : Option (Stopped C)) (x : Scene C)
      → stopped e p o l held (behind past x) ≡ behind past (stopped e p o l held x)
  framed-stopped past e p (Some s) (Some a) (Some h) x =
      framed-says past e p (Stop s h.thread a) (record x { state = put_aside p s a (Preempted a) h x.state })
  framed-stopped past e p _ _ _ x = refl

  framed-aim : (past : List Item) (e : ℕ) (p : ProcNo) (fresh : ActNo) (o : Option SpaceNo) (x : Scene C)
      → go_to_aim e p fresh o (behind past x) ≡ behind past (go_to_aim e p fresh o x)
  framed-aim past e p fresh None x = refl
  framed-aim past e p fresh (Some s) x = framed-go past e p s fresh (is_aim s.0 (owner_of x.state p)) (can_upcall x.state s) x

  framed-interrupted : (past : List Item) (e : ℕ) (p : ProcNo) (fresh : ActNo) (held : Option (Stopped C)) (x : Scene C)
      → interrupted e p fresh held (behind past x) ≡ behind past (interrupted e p fresh held x)
  framed-interrupted past e p fresh held x =
      let low : Scene C = record x { state = with_line p None x.state } in
      ap (go_to_aim e p fresh (aim_of x.state p)) (framed-stopped past e p (owner_of x.state p) (life_of x.state p) held low)
      ∙ framed-aim past e p fresh (aim_of x.state p) (stopped e p (owner_of x.state p) (life_of x.state p) held low)

  framed-told : (past : List Item) (e : ℕ) (p : ProcNo) (s : SpaceNo) (fresh : ActNo) (b : Bool) (x : Scene C)
      → told_or_left e p s fresh b (behind past x) ≡ behind past (told_or_left e p s fresh b x)
  framed-told past e p s fresh true x = framed-upcall past e p s fresh false x
  framed-told past e p s fresh false x = framed-leave past e p s x

  framed-blocked : (past : List Item) (e : ℕ) (p : ProcNo) (fresh : ActNo) (o : Option SpaceNo) (l : Option ActNo) (held : Stopped C) (len : ℕ)
      (page : Option ℕ) (x : Scene C) → blocked_by e p fresh o l held len page (behind past x) ≡ behind past (blocked_by e p fresh o l held len page x)
  framed-blocked past e p fresh (Some s) (Some a) held len page x =
      let io : IoNo = record { 0 = x.state.io_count } in
      let aside : Scene C = record x { state = put_aside p s a (Blocked a) held (with_io (io_for s a page) (e + len) x.state) } in
      ap (told_or_left e p s fresh (can_upcall x.state s)) (framed-says past e p (BlockRecord s held.thread a io) aside)
      ∙ framed-told past e p s fresh (can_upcall x.state s) (block_begun e p s a held len page x)
  framed-blocked past e p fresh _ _ held len page x = refl

  framed-over : (past : List Item) (e : ℕ) (p : ProcNo) (io : IoNo) (kind : Option IoKind) (x : Scene C)
      → over e p io kind (behind past x) ≡ behind past (over e p io kind x)
  framed-over past e p io None x = refl
  framed-over past e p io (Some (Plain s a)) x = framed-says past e p _ _
  framed-over past e p io _ x = framed-says past e p _ _

  framed-more : (past : List Item) (e : ℕ) (p : ProcNo) (n : ℕ) (o : Option SpaceNo) (x : Scene C) → more e p n o (behind past x) ≡ behind past (more e p n o x)
  framed-more past e p n None x = refl
  framed-more past e p n (Some s) x = framed-says past e p _ _

  framed-idled : (past : List Item) (e : ℕ) (p : ProcNo) (o : Option SpaceNo) (x : Scene C) → idled e p o (behind past x) ≡ behind past (idled e p o x)
  framed-idled past e p None x = refl
  framed-idled past e p (Some s) x = framed-says past e p _ _

  framed-given : (past : List Item) (e : ℕ) (p : ProcNo) (o : Option SpaceNo) (x : Scene C) → gave_back e p o (behind past x) ≡ behind past (gave_back e p o x)
  framed-given past e p None x = refl
  framed-given past e p (Some s) x = more-items past _ _ x

  framed-entered : (past : List Item) (e : ℕ) (p : ProcNo) (fresh : ActNo) (en : Entry C) (x : Scene C)
      → entered_as e p fresh en (behind past x) ≡ behind past (entered_as e p fresh en x)
  framed-entered past e p fresh (entry.Interrupt held) x = framed-interrupted past e p fresh held x
  framed-entered past e p fresh (entry.Block held len page) x = framed-blocked past e p fresh (owner_of x.state p) (life_of x.state p) held len page x
  framed-entered past e p fresh (entry.Complete io) x = framed-over past e p io (kind_at io.0 x.state.under_way) x
  framed-entered past e p fresh (entry.More n) x = framed-more past e p n (owner_of x.state p) x
  framed-entered past e p fresh entry.Idle x = framed-idled past e p (owner_of x.state p) x
  framed-entered past e p fresh entry.GiveBack x = framed-given past e p (owner_of x.state p) x
  framed-entered past e p fresh (entry.InterruptOwn q) x = framed-says past e p _ _

  -- the closing
  framed-spaces : (past : List Item) (f : ℕ → Scene C → Scene C) → ((s : ℕ) (x : Scene C) → f s (behind past x) ≡ behind past (f s x)) → (s n : ℕ) (x : Scene C)
      → for_spaces f s n (behind past x) ≡ behind past (for_spaces f s n x)
  framed-spaces past f framed s zero x = refl
  framed-spaces past f framed s (suc n) x = ap (λ (y : Scene C). for_spaces f (s + 1) n y) (framed s x) ∙ framed-spaces past f framed (s + 1) n (f s x)

  framed-want : (past : List Item) (e : ℕ) (p : ProcNo) (b : Bool) (s : ℕ) (x : Scene C) → want_one e p b s (behind past x) ≡ behind past (want_one e p b s x)
  framed-want past e p false s x = refl
  framed-want past e p true s x = framed-says past e p _ _

  framed-line : (past : List Item) (e : ℕ) (p : ProcNo) (q : Option ℕ) (x : Scene C) → interrupt e p q (behind past x) ≡ behind past (interrupt e p q x)
  framed-line past e p None x = refl
  framed-line past e p (Some q) x = framed-says past e p _ _

  framed-one : (past : List Item) (e : ℕ) (p : ProcNo) (b : Bool) (s : ℕ) (x : Scene C)
      → interrupt_one e p b s (behind past x) ≡ behind past (interrupt_one e p b s x)
  framed-one past e p false s x = refl
  framed-one past e p true s x = framed-line past e p (least_below (length x.state.lives) (has_low_line x.state s)) x

  framed-closed : (past : List Item) (e : ℕ) (p : ProcNo) (x : Scene C) → closed e p (behind past x) ≡ behind past (closed e p x)
  framed-closed past e p x =
      let y = wants e p x in
      let z = aims e p y in
      let one : wants e p (behind past x) ≡ behind past y =
      framed-spaces past (want_for e p) (λ s v. framed-want past e p (must_want v.state s) s v) 0 (spaces x.state) x in
      let two : aims e p (behind past y) ≡ behind past z =
      more-items past (items_at e p (reaim_records e (spaces y.state) (shares y.state e) y.state.assign)) z.state y in
      let three : lines e p (behind past z) ≡ behind past (lines e p z) =
      framed-spaces past (interrupt_for e p) (λ s v. framed-one past e p (must_interrupt v.state s) s v) 0 (spaces z.state) z in
      ap (λ (v : Scene C). lines e p (aims e p v)) one ∙ ap (lines e p) two ∙ three

  framed-turn : (past : List Item) (e : ℕ) (p : ProcNo) (fresh : ActNo) (en : Option (Entry C)) (x : Scene C)
      → turn_on e p fresh en (behind past x) ≡ behind past (turn_on e p fresh en x)
  framed-turn past e p fresh None x = framed-closed past e p x
  framed-turn past e p fresh (Some en) x = ap (closed e p) (framed-entered past e p fresh en x) ∙ framed-closed past e p (entered_as e p fresh en x)

pub adds-its-event : (C : Type 0) → AddsItsEvent C
adds-its-event C w k r t past ok kept can =
    let whole = whole-turn w k r t kept can in
    framed-turn past t.number t.proc t.fresh t.entry (before_entry t k)
    ∙ ap (λ (xs : List Item). let y : Scene C = record { state = (turned t k).state; items = past ++ xs } in y) whole.items
