-- The kernel puts nothing out: only steps of a user level do.
use Rattle.std.proofs.Common.{◌≡◌, ℕ, ◌++◌, Bool, true, false, not, Option, Some, None, List, [], ◌∷◌, map, length, refl, ap, ◌∙◌, append_assoc}
use Rattle.std.proofs.lemmas.List.{append-nil}
use Rattle.std.proofs.lemmas.List.Folds.{flat_map-map}
use Rattle.std.proofs.lemmas.Grind.{flat_map-append}
use Rattle.sa_base.specs.declared.number.ProcNo.{ProcNo}
use Rattle.sa_base.specs.declared.number.SpaceNo.{SpaceNo}
use Rattle.sa_base.specs.declared.number.ActNo.{ActNo}
use Rattle.sa_base.specs.declared.number.IoNo.{IoNo}
use Rattle.sa_base.specs.declared.context.Stopped.{Stopped}
use Rattle.sa_base.specs.declared.record.Item.{Item}
use Rattle.sa_base.specs.declared.record.Note.{Note}
use Rattle.sa_base.specs.declared.record.Record.{Record}
use Rattle.sa_base.specs.declared.record.Record.TheVariants.{Aim, Move, Up, Told, GiveBack as GiveBackRecord}
use Rattle.sa_base.specs.Items.{items_at}
use Rattle.sa_assign.specs.Aims.{Change, is_aim, least_below}
use Rattle.sa_assign.specs.Reaim.{line_at, line_records, lines_with, records_of, changes_in}
use Rattle.sa_devices.specs.Ios.{without}
use Rattle.sa_devices.specs.Pages.{completed}
use Rattle.sa_devices.specs.declared.kind.IoKind.{IoKind}
use Rattle.sa_devices.specs.declared.kind.IoKind.TheVariants.{Plain}
use Rattle.sa_kernel_model.specs.declared.entry.Entry.{Entry}
use Rattle.sa_kernel_model.specs.declared.entry.Entry.TheVariants.{Interrupt, Block as BlockEntry, Complete, More as MoreEntry, Idle as IdleEntry, GiveBack as GiveBackEntry, InterruptOwn as InterruptOwnEntry}
use Rattle.sa_kernel_model.specs.State.{Scene, owner_of, aim_of, life_of, can_upcall, is_fetching, untold_of, taken_of}
use Rattle.sa_batch.specs.Notices.{notes_told}
use Rattle.sa_kernel_model.specs.Parts.{with_line, with_owner, without_aim, fetch_page, leave, upcall, moved, go_to_by}
use Rattle.sa_kernel_model.specs.Closing.{wants, want_for, want_one, must_want, aims, shares, spaces, interrupt, interrupt_one, interrupt_for, must_interrupt, has_low_line, closed}
use Rattle.sa_kernel_model.specs.Entries.{stopped, go_to_aim, interrupted, told_or_left, block_begun, blocked_by, kind_at, over_for, over, more, idled, gave_back, entered_as, entered}
use Rattle.sa_kernel_model.proofs.parts.Placed.{for_spaces-keeps}
use Rattle.sa_outlook.specs.declared.put.Put.{Put}
use Rattle.sa_outlook.specs.Outs.{put_by, said_by, puts_of}

pub puts-append : (xs ys : List Item) → puts_of (xs ++ ys) ≡ puts_of xs ++ puts_of ys
puts-append xs ys = flat_map-append (λ (i : Item). put_by i.what) xs ys

pub items-said : (e : ℕ) (p : ProcNo) (rs : List Record) → puts_of (items_at e p rs) ≡ said_by rs
items-said e p rs = flat_map-map (λ (i : Item). put_by i.what) (λ (r : Record). record { event = e; proc = p; what = r }) rs

-- records of the kernel
told-quiet : (notes : List Note) → said_by (map Told notes) ≡ []
told-quiet [] = refl
told-quiet (n ∷ notes) = told-quiet notes

given-quiet : (acts : List ActNo) → said_by (map GiveBackRecord acts) ≡ []
given-quiet [] = refl
given-quiet (a ∷ acts) = given-quiet acts

line-quiet : (p : ℕ) (line : Option ℕ) (rest : List Record) → said_by (line_records p line ++ rest) ≡ said_by rest
line-quiet p None rest = refl
line-quiet p (Some k) rest = refl

changes-quiet : (e : ℕ) (ls : List (Option ℕ)) (cs : List Change) → said_by (records_of e ls cs) ≡ []
changes-quiet e ls [] = refl
changes-quiet e ls (c ∷ cs) = line-quiet c.proc (line_at ls c.proc) (records_of e (lines_with e ls c) cs) ∙ changes-quiet e (lines_with e ls c) cs

pub append-none : (ps qs : List Put) → qs ≡ [] → ps ++ qs ≡ ps
append-none ps qs none = ap (λ (l : List Put). ps ++ l) none ∙ append-nil ps

module _ {C : Type 0} where
  -- from one scene to another nothing was put out
  pub record Quiet (x y : Scene C) : Type 0 where
    pub puts : puts_of y.items ≡ puts_of x.items

  pub quiet-more : (x y : Scene C) (new : List Item) → y.items ≡ x.items ++ new → puts_of new ≡ [] → Quiet x y
  quiet-more x y new items none =
      record { puts = ap puts_of items ∙ puts-append x.items new ∙ append-none (puts_of x.items) (puts_of new) none }

  quiet-again : (x y z : Scene C) → Quiet x y → Quiet y z → Quiet x z
  quiet-again x y z a b = record { puts = b.puts ∙ a.puts }

  -- the closing

  quiet-want_one : (e : ℕ) (p : ProcNo) (b : Bool) (s : ℕ) (x : Scene C) → Quiet x (want_one e p b s x)
  quiet-want_one e p false s x = record { puts = refl }
  quiet-want_one e p true s x = quiet-more x _ _ refl refl

  quiet-interrupt : (e : ℕ) (p : ProcNo) (o : Option ℕ) (x : Scene C) → Quiet x (interrupt e p o x)
  quiet-interrupt e p None x = record { puts = refl }
  quiet-interrupt e p (Some q) x = quiet-more x _ _ refl refl

  quiet-interrupt_one : (e : ℕ) (p : ProcNo) (b : Bool) (s : ℕ) (x : Scene C) → Quiet x (interrupt_one e p b s x)
  quiet-interrupt_one e p false s x = record { puts = refl }
  quiet-interrupt_one e p true s x = quiet-interrupt e p (least_below (length x.state.lives) (has_low_line x.state s)) x

  quiet-aims : (e : ℕ) (p : ProcNo) (x : Scene C) → Quiet x (aims e p x)
  quiet-aims e p x =
      let cs = changes_in (spaces x.state) (shares x.state e) x.state.assign in
      quiet-more x (aims e p x) (items_at e p (records_of e x.state.assign.lines cs)) refl
      (items-said e p (records_of e x.state.assign.lines cs) ∙ changes-quiet e x.state.assign.lines cs)

  pub quiet-closed : (e : ℕ) (p : ProcNo) (x : Scene C) → Quiet x (closed e p x)
  quiet-closed e p x =
      let w = wants e p x in
      let a = aims e p w in
      let first : Quiet x w = for_spaces-keeps (λ (y : Scene C). Quiet x y) (want_for e p)
      (λ s y h. quiet-again x y (want_for e p s y) h (quiet-want_one e p (must_want y.state s) s y)) 0 (spaces x.state) x (record { puts = refl }) in
      let second : Quiet x a = quiet-again x w a first (quiet-aims e p w) in
      for_spaces-keeps (λ (y : Scene C). Quiet x y) (interrupt_for e p)
      (λ s y h. quiet-again x y (interrupt_for e p s y) h (quiet-interrupt_one e p (must_interrupt y.state s) s y)) 0 (spaces a.state) a second

  -- the entries

  quiet-fetch_page : (e : ℕ) (p : ProcNo) (s : SpaceNo) (b : Bool) (x : Scene C) → Quiet x (fetch_page e p s b x)
  quiet-fetch_page e p s true x = record { puts = refl }
  quiet-fetch_page e p s false x = quiet-more x _ _ refl refl

  quiet-leave : (e : ℕ) (p : ProcNo) (s : SpaceNo) (x : Scene C) → Quiet x (leave e p s x)
  quiet-leave e p s x =
      let owner = owner_of x.state p in
      let first : List Item = record { event = e; proc = p; what = Move owner None } ∷ [] in
      let second : List Item = record { event = e; proc = p; what = Aim p None } ∷ [] in
      let left : Scene C = record { state = without_aim p (with_owner p None x.state); items = (x.items ++ first) ++ second } in
      quiet-again x left (leave e p s x) (quiet-more x left (first ++ second) (append_assoc x.items first second) refl)
      (quiet-fetch_page e p s (is_fetching left.state s.0) left)

  quiet-upcall : (e : ℕ) (p : ProcNo) (s : SpaceNo) (a : ActNo) (added : Bool) (x : Scene C) → Quiet x (upcall e p s a added x)
  quiet-upcall e p s a added x =
      let first : List Item = record { event = e; proc = p; what = Up s a } ∷ [] in
      let second : List Item = items_at e p (map Told (notes_told added p (untold_of x.state s.0))) in
      quiet-more x (upcall e p s a added x) (first ++ second) (append_assoc x.items first second)
      (items-said e p (map Told (notes_told added p (untold_of x.state s.0))) ∙ told-quiet (notes_told added p (untold_of x.state s.0)))

  quiet-moved : (e : ℕ) (p : ProcNo) (s : SpaceNo) (b : Bool) (x : Scene C) → Quiet x (moved e p s b x)
  quiet-moved e p s true x = record { puts = refl }
  quiet-moved e p s false x = quiet-more x _ _ refl refl

  quiet-go_to_by : (e : ℕ) (p : ProcNo) (s : SpaceNo) (a : ActNo) (owned can : Bool) (x : Scene C) → Quiet x (go_to_by e p s a owned can x)
  quiet-go_to_by e p s a owned false x = quiet-leave e p s x
  quiet-go_to_by e p s a owned true x =
      let there = moved e p s owned x in
      quiet-again x there (upcall e p s a (not owned) there) (quiet-moved e p s owned x) (quiet-upcall e p s a (not owned) there)

  quiet-go_to_aim : (e : ℕ) (p : ProcNo) (a : ActNo) (o : Option SpaceNo) (x : Scene C) → Quiet x (go_to_aim e p a o x)
  quiet-go_to_aim e p a None x = record { puts = refl }
  quiet-go_to_aim e p a (Some s) x = quiet-go_to_by e p s a (is_aim s.0 (owner_of x.state p)) (can_upcall x.state s) x

  quiet-stopped : (e : ℕ) (p : ProcNo) (o : Option SpaceNo) (l : Option ActNo) (h : Option (Stopped C)) (x : Scene C) → Quiet x (stopped e p o l h x)
  quiet-stopped e p (Some s) (Some a) (Some held) x = quiet-more x _ _ refl refl
  quiet-stopped e p _ _ _ x = record { puts = refl }

  quiet-interrupted : (e : ℕ) (p : ProcNo) (a : ActNo) (h : Option (Stopped C)) (x : Scene C) → Quiet x (interrupted e p a h x)
  quiet-interrupted e p a h x =
      let low : Scene C = record x { state = with_line p None x.state } in
      let off = stopped e p (owner_of x.state p) (life_of x.state p) h low in
      let end = go_to_aim e p a (aim_of x.state p) off in
      quiet-again x low end (record { puts = refl })
      (quiet-again low off end (quiet-stopped e p (owner_of x.state p) (life_of x.state p) h low) (quiet-go_to_aim e p a (aim_of x.state p) off))

  quiet-told_or_left : (e : ℕ) (p : ProcNo) (s : SpaceNo) (a : ActNo) (b : Bool) (x : Scene C) → Quiet x (told_or_left e p s a b x)
  quiet-told_or_left e p s a true x = quiet-upcall e p s a false x
  quiet-told_or_left e p s a false x = quiet-leave e p s x

  quiet-blocked_by : (e : ℕ) (p : ProcNo) (fresh : ActNo) (o : Option SpaceNo) (l : Option ActNo) (held : Stopped C) (len : ℕ) (page : Option ℕ) (x : Scene C)
      → Quiet x (blocked_by e p fresh o l held len page x)
  quiet-blocked_by e p fresh (Some s) (Some a) held len page x =
      let y = block_begun e p s a held len page x in
      quiet-again x y (told_or_left e p s fresh (can_upcall x.state s) y) (quiet-more x y _ refl refl)
      (quiet-told_or_left e p s fresh (can_upcall x.state s) y)
  quiet-blocked_by e p fresh _ _ held len page x = record { puts = refl }

  quiet-over_for : (e : ℕ) (p : ProcNo) (kind : IoKind) (x : Scene C) → Quiet x (over_for e p kind x)
  quiet-over_for e p (Plain s a) x = quiet-more x _ _ refl refl
  quiet-over_for e p _ x = quiet-more x _ _ refl refl

  quiet-over : (e : ℕ) (p : ProcNo) (io : IoNo) (kind : Option IoKind) (x : Scene C) → Quiet x (over e p io kind x)
  quiet-over e p io None x = record { puts = refl }
  quiet-over e p io (Some kind) x =
      let y : Scene C = record x { state = record x.state { under_way = without io.0 x.state.under_way; pages = completed kind x.state.pages } } in
      quiet-again x y (over_for e p kind y) (record { puts = refl }) (quiet-over_for e p kind y)

  quiet-more_want : (e : ℕ) (p : ProcNo) (n : ℕ) (o : Option SpaceNo) (x : Scene C) → Quiet x (more e p n o x)
  quiet-more_want e p n None x = record { puts = refl }
  quiet-more_want e p n (Some s) x = quiet-more x _ _ refl refl

  quiet-idled : (e : ℕ) (p : ProcNo) (o : Option SpaceNo) (x : Scene C) → Quiet x (idled e p o x)
  quiet-idled e p None x = record { puts = refl }
  quiet-idled e p (Some s) x = quiet-more x _ _ refl refl

  quiet-gave_back : (e : ℕ) (p : ProcNo) (o : Option SpaceNo) (x : Scene C) → Quiet x (gave_back e p o x)
  quiet-gave_back e p None x = record { puts = refl }
  quiet-gave_back e p (Some s) x =
      quiet-more x (gave_back e p (Some s) x) (items_at e p (map GiveBackRecord (taken_of x.state s.0))) refl
      (items-said e p (map GiveBackRecord (taken_of x.state s.0)) ∙ given-quiet (taken_of x.state s.0))

  quiet-entered_as : (e : ℕ) (p : ProcNo) (a : ActNo) (entry : Entry C) (x : Scene C) → Quiet x (entered_as e p a entry x)
  quiet-entered_as e p a (Interrupt held) x = quiet-interrupted e p a held x
  quiet-entered_as e p a (BlockEntry held len page) x = quiet-blocked_by e p a (owner_of x.state p) (life_of x.state p) held len page x
  quiet-entered_as e p a (Complete io) x = quiet-over e p io (kind_at io.0 x.state.under_way) x
  quiet-entered_as e p a (MoreEntry n) x = quiet-more_want e p n (owner_of x.state p) x
  quiet-entered_as e p a IdleEntry x = quiet-idled e p (owner_of x.state p) x
  quiet-entered_as e p a GiveBackEntry x = quiet-gave_back e p (owner_of x.state p) x
  quiet-entered_as e p a (InterruptOwnEntry q) x = quiet-more x _ _ refl refl

  pub quiet-entered : (e : ℕ) (p : ProcNo) (a : ActNo) (entry : Entry C) (x : Scene C) → Quiet x (entered e p a entry x)
  quiet-entered e p a entry x =
      quiet-again x (entered_as e p a entry x) (entered e p a entry x) (quiet-entered_as e p a entry x) (quiet-closed e p (entered_as e p a entry x))
