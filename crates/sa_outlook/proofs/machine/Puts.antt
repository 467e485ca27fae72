-- What a turn puts out: what the step says, if the turn comes to a step. From machines that are alike it is the same.
use Rattle.std.proofs.Common.{◌≡◌, ℕ, ◌++◌, Bool, true, false, Option, Some, None, option_map, is_some, List, [], ◌∷◌, slice_get, refl, sym, ap, ◌∙◌, inl, inr}
use Rattle.std.proofs.lemmas.List.{append-nil}
use Rattle.std.proofs.lemmas.Option.{same_Some}
use Rattle.sa_base.specs.declared.number.ProcNo.{ProcNo}
use Rattle.sa_base.specs.declared.number.SpaceNo.{SpaceNo}
use Rattle.sa_base.specs.declared.number.ActNo.{ActNo}
use Rattle.sa_base.specs.declared.number.IoNo.{IoNo}
use Rattle.sa_base.specs.declared.context.Seen.{Seen}
use Rattle.sa_base.specs.declared.context.Stopped.{Stopped}
use Rattle.sa_base.specs.declared.record.Note.{Note}
use Rattle.sa_base.specs.declared.record.Item.{Item}
use Rattle.sa_base.specs.Items.{items_at}
use Rattle.sa_spaces.specs.Space.{SpaceView}
use Rattle.sa_abstract.specs.Calls.{Calls}
use Rattle.sa_abstract.specs.declared.answer.Step.{Step}
use Rattle.sa_abstract.specs.declared.answer.Step.TheVariants.{Did, Block, More, Idle, GiveBack, InterruptOwn}
use Rattle.sa_devices.specs.Ios.{Io, io_no, due_of}
use Rattle.sa_kernel_model.specs.declared.entry.Entry.{Entry}
use Rattle.sa_kernel_model.specs.declared.entry.Entry.TheVariants.{Interrupt, Block as BlockEntry, Complete, More as MoreEntry, Idle as IdleEntry, GiveBack as GiveBackEntry, InterruptOwn as InterruptOwnEntry}
use Rattle.sa_kernel_model.specs.State.{owner_of, line_of}
use Rattle.sa_kernel_model.specs.Entering.{upcalls}
use Rattle.sa_core_model.specs.Machine.{Machine, user_of, context_on, seen_on, scene_of, without_context, called_by, context_begun_by, context_begun, answered, stopped_in, stepped_by, stepped}
use Rattle.sa_core_model.specs.Turn.{next_event, ticked, ends_slice, sliced_if, kernel_entered, told_one, told_all, welcomed_in, welcomed_if, entered_on, answered_in, hinted, blocked_by, asked, turned_owned, turned_due, turned_raised, turned}
use Rattle.sa_outlook.specs.declared.put.Put.{Put}
use Rattle.sa_outlook.specs.Outs.{said_by, puts_of, with_put, with_puts, outs_of}
use Rattle.sa_outlook.specs.Outlook.{see}
use Rattle.sa_outlook.specs.UserLevels.{at_event, IgnoresNumbers}
use Rattle.sa_outlook.proofs.Invariant.{IsNumbered}
use Rattle.sa_outlook.proofs.kernel.Quiet.{puts-append, items-said, quiet-closed, quiet-entered, quiet-more}
use Rattle.sa_outlook.proofs.machine.Calls.{seen-alike, some-seen}
use Rattle.sa_outlook.proofs.machine.Phases.{Both, look_of, owners-both}
use Rattle.sa_outlook.proofs.machine.OneTurn.{due-both}

-- what was put out before, and then this
pub puts-behind : (outs xs ys : List Put) → with_puts outs (xs ++ ys) ≡ with_puts (with_puts outs xs) ys
puts-behind outs [] ys = refl
puts-behind outs (x ∷ xs) ys = puts-behind (with_put x outs) xs ys

module _ {U C : Type 0} (f : Calls U C) where
  -- what a step says, by what is there
  abbrev pub said_step : Seen → Option U → Option C → List Put
  said_step seen (Some u) (Some c) = said_by (f.stepped u seen c).says
  said_step seen _ _ = []

  -- what a turn says in an event that has begun, by the owner, the I/O that is due and the line
  abbrev pub said_owned : ProcNo → Option SpaceNo → Machine U C → List Put
  said_owned p None m = []
  said_owned p (Some s) m = said_step (seen_on m p s) (user_of m s) (context_on m p)

  abbrev pub said_due : ProcNo → Option IoNo → Machine U C → List Put
  said_due p None m = said_owned p (owner_of m.kernel p) m
  said_due p (Some io) m = []

  abbrev pub said_raised : ProcNo → Option ℕ → Machine U C → List Put
  said_raised p None m = said_due p (option_map io_no (due_of m.event m.kernel.under_way)) m
  said_raised p (Some raised) m = []

  -- CALLS THAT ADD NO ITEM
  items-called : (call : U → C → U × C) (p : ProcNo) (s : SpaceNo) (o : Option U) (c : Option C) (m : Machine U C) → (called_by call p s o c m).items ≡ m.items
  items-called call p s (Some u) (Some c) m = refl
  items-called call p s _ _ m = refl

  items-answered : (p : ProcNo) (s : SpaceNo) (m : Machine U C) → (answered f p s m).items ≡ m.items
  items-answered p s m = items-called (λ u c. f.answered u (seen_on m p s) c) p s (user_of m s) (context_on m p) m

  items-begun : (p : ProcNo) (s : SpaceNo) (seen : Seen) (o : Option U) (m : Machine U C) → (context_begun_by f p s seen o m).items ≡ m.items
  items-begun p s seen None m = refl
  items-begun p s seen (Some u) m = refl

  items-told : (p : ProcNo) (s : SpaceNo) (notes : List Note) (m : Machine U C) → (told_all f p s notes m).items ≡ m.items
  items-told p s [] m = refl
  items-told p s (note ∷ notes) m = items-told p s notes (told_one f p s note notes m) ∙ items-called _ p s _ _ _

  items-welcomed : (p : ProcNo) (o : Option SpaceNo) (m : Machine U C) → (welcomed_in f p o m).items ≡ m.items
  items-welcomed p None m = refl
  items-welcomed p (Some s) m =
      let begun = context_begun f p s m in
      items-answered p s (told_all f p s m.kernel.telling begun) ∙ items-told p s m.kernel.telling begun ∙ items-begun p s (seen_on m p s) (user_of m s) m

  items-if : (p : ProcNo) (b : Bool) (m : Machine U C) → (welcomed_if f p b m).items ≡ m.items
  items-if p false m = refl
  items-if p true m = items-welcomed p (owner_of m.kernel p) m

  items-went_on : (p : ProcNo) (o : Option SpaceNo) (m : Machine U C) → (answered_in f p o m).items ≡ m.items
  items-went_on p None m = refl
  items-went_on p (Some s) m = items-answered p s m

  -- WHAT ENTERS THE KERNEL
  puts-entered : (p : ProcNo) (a : ActNo) (entry : Entry C) (m : Machine U C) → puts_of (entered_on f p a entry m).items ≡ puts_of m.items
  puts-entered p a entry m =
      ap puts_of (items-if p (upcalls m.kernel p entry) (kernel_entered p a entry m)) ∙ (quiet-entered m.event p a entry (scene_of m)).puts

  puts-hinted : (p : ProcNo) (a : ActNo) (entry : Entry C) (m : Machine U C) → puts_of (hinted f p a entry m).items ≡ puts_of m.items
  puts-hinted p a entry m =
      let after = kernel_entered p a entry m in
      ap puts_of (items-went_on p (owner_of after.kernel p) after) ∙ (quiet-entered m.event p a entry (scene_of m)).puts

  puts-sliced : (p : ProcNo) (b : Bool) (m : Machine U C) → puts_of (sliced_if p b m).items ≡ puts_of m.items
  puts-sliced p false m = refl
  puts-sliced p true m = (quiet-closed m.event p (scene_of m)).puts

  puts-blocked : (p : ProcNo) (a : ActNo) (len : ℕ) (page : Option ℕ) (held : Option (Stopped C)) (m : Machine U C)
      → puts_of (blocked_by f p a len page held m).items ≡ puts_of m.items
  puts-blocked p a len page None m = refl
  puts-blocked p a len page (Some held) m = puts-entered p a (BlockEntry held len page) m

  puts-asked : (p : ProcNo) (a : ActNo) (step : Step) (m : Machine U C) → puts_of (asked f p a step m).items ≡ puts_of m.items
  puts-asked p a Did m = puts-sliced p (ends_slice m) m
  puts-asked p a (Block len page) m = puts-blocked p a len page (stopped_in f m p (owner_of m.kernel p)) (without_context p m)
  puts-asked p a (More n) m = puts-hinted p a (MoreEntry n) m
  puts-asked p a Idle m = puts-hinted p a IdleEntry m
  puts-asked p a GiveBack m = puts-hinted p a GiveBackEntry m
  puts-asked p a (InterruptOwn q) m = puts-hinted p a (InterruptOwnEntry q) m

  -- A TURN
  said-none : (m : Machine U C) (items : List Item) → puts_of items ≡ puts_of m.items → puts_of items ≡ puts_of m.items ++ []
  said-none m items same = same ∙ sym (append-nil (puts_of m.items))

  puts-stepped : (p : ProcNo) (s : SpaceNo) (seen : Seen) (o : Option U) (c : Option C) (m : Machine U C)
      → puts_of (stepped_by f p s seen o c m).0.items ≡ puts_of m.items ++ said_step seen o c
  puts-stepped p s seen (Some u) (Some c) m =
      let says = (f.stepped u seen c).says in
      puts-append m.items (items_at m.event p says) ∙ ap (λ (l : List Put). puts_of m.items ++ l) (items-said m.event p says)
  puts-stepped p s seen _ _ m = said-none m m.items refl

  puts-owned : (p : ProcNo) (a : ActNo) (o : Option SpaceNo) (m : Machine U C) → puts_of (turned_owned f p a o m).items ≡ puts_of m.items ++ said_owned p o m
  puts-owned p a None m =
      said-none m (turned_owned f p a None m).items
      (puts-sliced p (ends_slice (ticked p m)) (ticked p m) ∙ (quiet-more (scene_of m) (scene_of (ticked p m)) _ refl refl).puts)
  puts-owned p a (Some s) m =
      puts-asked p a (stepped f p s m).1 (stepped f p s m).0 ∙ puts-stepped p s (seen_on m p s) (user_of m s) (context_on m p) m

  puts-due : (p : ProcNo) (a : ActNo) (io : Option IoNo) (m : Machine U C) → puts_of (turned_due f p a io m).items ≡ puts_of m.items ++ said_due p io m
  puts-due p a None m = puts-owned p a (owner_of m.kernel p) m
  puts-due p a (Some io) m = said-none m (turned_due f p a (Some io) m).items (puts-entered p a (Complete io) m)

  puts-raised : (p : ProcNo) (a : ActNo) (line : Option ℕ) (m : Machine U C)
      → puts_of (turned_raised f p a line m).items ≡ puts_of m.items ++ said_raised p line m
  puts-raised p a None m = puts-due p a (option_map io_no (due_of m.event m.kernel.under_way)) m
  puts-raised p a (Some raised) m =
      said-none m (turned_raised f p a (Some raised) m).items
      (puts-entered p a (Interrupt (stopped_in f m p (owner_of m.kernel p))) (without_context p m))

  abbrev pub said : ProcNo → Machine U C → List Put
  said p m = said_raised p (line_of (next_event m).kernel p) (next_event m)

  pub outs-turned : (p : ProcNo) (a : ActNo) (m : Machine U C) → outs_of (turned f p a m).items ≡ with_puts (outs_of m.items) (said p m)
  outs-turned p a m =
      ap (with_puts []) (puts-raised p a (line_of (next_event m).kernel p) (next_event m)) ∙ puts-behind [] (puts_of m.items) (said p m)

module _ {U C D : Type 0} (f : Calls U C) (plain : Option SpaceView → C → D) (IsMade : Option SpaceView → U → Type 0) (laws : IgnoresNumbers f plain IsMade) where
  abbrev Two : Machine U C → Machine U C → Type 0
  Two m n = Both f plain IsMade laws m n

  -- THE SAME FROM BOTH
  step-by : (p : ProcNo) (s : SpaceNo) (m n : Machine U C) (o : Option U) (c d : Option C)
      → ((u : U) → o ≡ Some u → IsMade (slice_get m.workload.spaces s.0) u)
      → see plain m.workload (Some s) c ≡ see plain m.workload (Some s) d
      → said_step f (seen_on m p s) o c ≡ said_step f (at_event n.event (seen_on m p s)) o d
  step-by p s m n (Some u) None (Some d) made same = absurd cc
  step-by p s m n (Some u) (Some c) None made same = absurd cc
  step-by p s m n (Some u) (Some c) (Some d) made same =
      ap said_by (laws.stepped (slice_get m.workload.spaces s.0) u (seen_on m p s) n.event c d (made u refl) (same_Some _ _ same)).says
  step-by p s m n _ _ _ made same = refl

  owned-alike : (p : ProcNo) (m n : Machine U C) (o : Option SpaceNo) → owner_of m.kernel p ≡ o → Two m n → said_owned f p o m ≡ said_owned f p o n
  owned-alike p m n None owner was = refl
  owned-alike p m n (Some s) owner was =
      step-by p s m n (user_of m s) (context_on m p) (context_on n p) (λ u at. was.made s.0 u at) (some-seen f plain IsMade laws m n p s owner was.alike)
      ∙ ap (λ (z : Seen). said_step f z (user_of m s) (context_on n p)) (sym (seen-alike f plain IsMade laws m n p s was.alike))
      ∙ ap (λ (us : List U). said_step f (seen_on n p s) (slice_get us s.0) (context_on n p)) was.alike.users

  due-alike : (p : ProcNo) (m n : Machine U C) → IsNumbered m.kernel → IsNumbered n.kernel → Two m n
      → said_due f p (option_map io_no (due_of m.event m.kernel.under_way)) m ≡ said_due f p (option_map io_no (due_of n.event n.kernel.under_way)) n
  due-alike p m n num_m num_n was =
      elim (due-both (look_of f plain IsMade laws m) m.event n.event m.kernel n.kernel num_m num_n was.alike.kernel) [
        | inl none ↦
            ap (λ (o : Option Io). said_due f p (option_map io_no o) m) none.0
            ∙ owned-alike p m n (owner_of m.kernel p) refl was
            ∙ ap (λ (o : Option SpaceNo). said_owned f p o n) (owners-both f plain IsMade laws m n p was)
            ∙ sym (ap (λ (o : Option Io). said_due f p (option_map io_no o) n) none.1)
        | inr some ↦
            ap (λ (o : Option Io). said_due f p (option_map io_no o) m) some.1
            ∙ sym (ap (λ (o : Option Io). said_due f p (option_map io_no o) n) some.2)
      ]

  pub raised-alike : (p : ProcNo) (m n : Machine U C) (x y : Option ℕ) → IsNumbered m.kernel → IsNumbered n.kernel → is_some x ≡ is_some y → Two m n
      → said_raised f p x m ≡ said_raised f p y n
  raised-alike p m n None None num_m num_n same was = due-alike p m n num_m num_n was
  raised-alike p m n (Some x) (Some y) num_m num_n same was = refl
  raised-alike p m n _ _ num_m num_n same was = absurd cc
