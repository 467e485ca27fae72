-- What is owed to the trace, part by part.
use Rattle.std.proofs.Common.{◌≡◌, ℕ, ◌+◌, ◌≤◌, Bool, true, false, not, Option, Some, None, List, [], ◌∷◌, ◌++◌, length, map, sum_by, get_or, slice_set, refl, ap, ◌∙◌, inl, inr, arith, length-append}
use Rattle.std.proofs.lemmas.Bool.{cases_lt}
use Rattle.std.proofs.lemmas.List.{get_or_past, set_past, length-map}
use Rattle.std.proofs.lemmas.List.Sums.{sum_by-set, sum_by-cons, get_or-le-sum_by}
use Rattle.sa_base.specs.declared.number.ProcNo.{ProcNo}
use Rattle.sa_base.specs.declared.number.SpaceNo.{SpaceNo}
use Rattle.sa_base.specs.declared.number.ActNo.{ActNo}
use Rattle.sa_base.specs.declared.number.IoNo.{IoNo}
use Rattle.sa_base.specs.declared.record.Note.{Note}
use Rattle.sa_base.specs.declared.record.Note.TheVariants.{Add, Preempted, Blocked, Unblocked}
use Rattle.sa_base.specs.declared.record.Record.{Record}
use Rattle.sa_base.specs.declared.record.Record.TheVariants.{Up, Told, Move, Aim, GiveBack as GiveBackRecord}
use Rattle.sa_base.specs.declared.record.Item.{Item}
use Rattle.sa_base.specs.Items.{items_at}
use Rattle.sa_base.specs.declared.context.Stopped.{Stopped}
use Rattle.sa_acts.specs.Table.{held_of, space_of}
use Rattle.sa_assign.specs.Aims.{is_aim}
use Rattle.sa_devices.specs.declared.kind.IoKind.{IoKind}
use Rattle.sa_devices.specs.declared.kind.IoKind.TheVariants.{Plain, Page, Upcall}
use Rattle.sa_devices.specs.Ios.{without}
use Rattle.sa_devices.specs.Pages.{completed}
use Rattle.sa_kernel_model.specs.State.{KernelState, Scene, owner_of, aim_of, life_of, can_upcall, is_fetching, untold_of, taken_of, says}
use Rattle.sa_batch.specs.Notices.{notes_told}
use Rattle.sa_kernel_model.specs.Parts.{with_line, with_owner, without_aim, upcall, fetch_page, leave, moved, go_to_by, raised}
use Rattle.sa_kernel_model.specs.Entries.{stopped, go_to_aim, interrupted, told_or_left, block_begun, blocked_by, over_for, over, more, idled, gave_back, kind_at, entered_as, handed_by, after_fetch}
use Rattle.sa_kernel_model.specs.Closing.{closed}
use Rattle.sa_kernel_model.specs.Enters.{untold_count, taken_count}
use Rattle.sa_kernel_model.specs.Owed.{hand_over, told_count, pending_count, owed_items}
use Rattle.sa_kernel_model.specs.declared.entry.Entry.{Entry}
use Rattle.sa_kernel_model.specs.declared.entry.Entry.TheVariants.{Interrupt, Block, Complete, More, Idle, GiveBack, InterruptOwn}
use Rattle.sa_kernel_model.proofs.sound.Held.{stays-closed}

-- lists in a list, of which one changes
pub count-set : {A : Type 0} (xs : List (List A)) (i : ℕ) (new : List A)
    → sum_by length (slice_set xs i new) + length (get_or xs i []) ≤ sum_by length xs + length new
count-set xs i new = elim (cases_lt i (length xs)) [
  | inl within ↦ let e = sum_by-set length xs i new [] within in omega arith
  | inr past ↦
      let e = ap (sum_by length) (set_past xs i new past) in
      let none = ap length (get_or_past xs i [] past) in
      omega arith
]

-- few notices are told, and few of them hand a context over
told-few : (notes : List Note) → sum_by hand_over notes ≤ length notes
told-few [] = omega arith
told-few (note ∷ notes) = let all = sum_by-cons hand_over note notes in let rest = told-few notes in let one = at-most note in omega arith
  where
    at-most : (n : Note) → hand_over n ≤ 1
    at-most (Add p) = omega arith
    at-most (Preempted a) = omega arith
    at-most (Blocked a) = omega arith
    at-most (Unblocked a) = omega arith

told-by : (added : Bool) (p : ProcNo) (notes : List Note)
    → (sum_by hand_over (notes_told added p notes) ≤ length notes) × (length (notes_told added p notes) ≤ length notes + 1)
told-by true p notes = (let all = sum_by-cons hand_over (Add p) notes in let few = told-few notes in omega arith, omega arith)
told-by false p notes = (told-few notes, omega arith)

module _ {C : Type 0} where
  -- with what is owed, at most `more` items more; and at most `notes` notices more on their way
  pub record Owes (old new : Scene C) (more notes : ℕ) : Type 0 where
    pub items : length new.items + owed_items new.state ≤ length old.items + owed_items old.state + more
    pub pending : pending_count new.state ≤ pending_count old.state + notes

  owes-nothing : (x : Scene C) → Owes x x 0 0
  owes-nothing x = record { items = omega arith; pending = omega arith }

  owes-both : (x y z : Scene C) (a b c d m n : ℕ) → Owes x y a b → Owes y z c d → a + c ≤ m → b + d ≤ n → Owes x z m n
  owes-both x y z a b c d m n first second few little = record {
    items = (let p = first.items in let q = second.items in omega arith);
    pending = (let p = first.pending in let q = second.pending in omega arith);
  }

  owes-more : (x y : Scene C) (a b m n : ℕ) → Owes x y a b → a ≤ m → b ≤ n → Owes x y m n
  owes-more x y a b m n owes few little = record { items = (let p = owes.items in omega arith); pending = (let p = owes.pending in omega arith) }

  -- one record, and nothing else that counts
  owes-said : (x : Scene C) (y : Scene C) (item : Item) → y.items ≡ x.items ++ item ∷ [] → y.state.untold ≡ x.state.untold → y.state.telling ≡ x.state.telling
      → y.state.taken ≡ x.state.taken → Owes x y 1 0
  owes-said x y item says untold telling taken =
      let len : length y.items ≡ length x.items + 1 = ap length says ∙ length-append x.items (item ∷ []) ∙ omega arith in
      let u : untold_count y.state ≡ untold_count x.state = ap (sum_by length) untold in
      let t : told_count y.state ≡ told_count x.state = ap (sum_by hand_over) telling in
      let k : taken_count y.state ≡ taken_count x.state = ap (sum_by length) taken in
      record { items = omega arith; pending = omega arith }

  -- a record, and a notice
  owes-noted : (x y : Scene C) (item : Item) (s : ℕ) (note : Note) → y.items ≡ x.items ++ item ∷ []
      → y.state.untold ≡ slice_set x.state.untold s (get_or x.state.untold s [] ++ note ∷ []) → y.state.telling ≡ x.state.telling
      → y.state.taken ≡ x.state.taken → Owes x y 3 1
  owes-noted x y item s note says noted telling taken =
      let len : length y.items ≡ length x.items + 1 = ap length says ∙ length-append x.items (item ∷ []) ∙ omega arith in
      let new : List Note = get_or x.state.untold s [] ++ note ∷ [] in
      let push : length new ≡ length (get_or x.state.untold s []) + 1 = length-append (get_or x.state.untold s []) (note ∷ []) ∙ omega arith in
      let set = count-set x.state.untold s new in
      let u : untold_count y.state ≡ sum_by length (slice_set x.state.untold s new) = ap (sum_by length) noted in
      let t : told_count y.state ≡ told_count x.state = ap (sum_by hand_over) telling in
      let k : taken_count y.state ≡ taken_count x.state = ap (sum_by length) taken in
      record { items = omega arith; pending = omega arith }

  owes-stopped : (e : ℕ) (p : ProcNo) (o : Option SpaceNo) (l : Option ActNo) (held : Option (Stopped C)) (x : Scene C) → Owes x (stopped e p o l held x) 3 1
  owes-stopped e p None l held x = owes-more x x 0 0 3 1 (owes-nothing x) (omega arith) (omega arith)
  owes-stopped e p (Some s) None held x = owes-more x x 0 0 3 1 (owes-nothing x) (omega arith) (omega arith)
  owes-stopped e p (Some s) (Some a) None x = owes-more x x 0 0 3 1 (owes-nothing x) (omega arith) (omega arith)
  owes-stopped e p (Some s) (Some a) (Some h) x = owes-noted x _ _ s.0 (Preempted a) refl refl refl refl

  owes-fetch : (e : ℕ) (p : ProcNo) (s : SpaceNo) (b : Bool) (x : Scene C) → Owes x (fetch_page e p s b x) 1 0
  owes-fetch e p s true x = owes-more x x 0 0 1 0 (owes-nothing x) (omega arith) (omega arith)
  owes-fetch e p s false x = owes-said x _ _ refl refl refl refl

  owes-leave : (e : ℕ) (p : ProcNo) (s : SpaceNo) (x : Scene C) → Owes x (leave e p s x) 3 0
  owes-leave e p s x = go (is_fetching x.state s.0)
    where
      go : (b : Bool) → Owes x (fetch_page e p s b (says e p (Aim p None) (says e p (Move (owner_of x.state p) None)
          (record x { state = without_aim p (with_owner p None x.state) })))) 3 0
      go b =
          let y = record x { state = without_aim p (with_owner p None x.state) } in
          let one = says e p (Move (owner_of x.state p) None) y in
          let two = says e p (Aim p None) one in
          owes-both x two (fetch_page e p s b two) 2 0 1 0 3 0
          (owes-both x one two 1 0 1 0 2 0 (owes-said x one _ refl refl refl refl) (owes-said one two _ refl refl refl refl) (omega arith) (omega arith))
          (owes-fetch e p s b two) (omega arith) (omega arith)

  -- an upcall: what was not told of the space is told
  owes-upcall : (e : ℕ) (p : ProcNo) (s : SpaceNo) (a : ActNo) (added : Bool) (x : Scene C) → Owes x (upcall e p s a added x) 2 0
  owes-upcall e p s a added x =
      let y = upcall e p s a added x in
      let notes = untold_of x.state s.0 in
      let told = notes_told added p notes in
      let few = told-by added p notes in
      let less = few.0 in
      let enough = few.1 in
      let up : length (x.items ++ record { event = e; proc = p; what = Up s a } ∷ []) ≡ length x.items + 1 =
      length-append x.items (record { event = e; proc = p; what = Up s a } ∷ []) ∙ omega arith in
      let len : length y.items ≡ length x.items + 1 + length told =
      length-append (x.items ++ record { event = e; proc = p; what = Up s a } ∷ []) (items_at e p (map Told told))
      ∙ ap (λ n. length (x.items ++ record { event = e; proc = p; what = Up s a } ∷ []) + n)
      (length-map (map Told told) (λ (r : Record). record { event = e; proc = p; what = r }) ∙ length-map told Told)
      ∙ ap (λ n. n + length told) up in
      let set = count-set x.state.untold s.0 [] in
      record { items = omega arith; pending = omega arith }

  owes-moved : (e : ℕ) (p : ProcNo) (s : SpaceNo) (owned : Bool) (x : Scene C) → Owes x (moved e p s owned x) 1 0
  owes-moved e p s true x = owes-more x x 0 0 1 0 (owes-nothing x) (omega arith) (omega arith)
  owes-moved e p s false x = owes-said x _ _ refl refl refl refl

  owes-go_to_by : (e : ℕ) (p : ProcNo) (s : SpaceNo) (a : ActNo) (owned can : Bool) (x : Scene C) → Owes x (go_to_by e p s a owned can x) 3 0
  owes-go_to_by e p s a owned false x = owes-leave e p s x
  owes-go_to_by e p s a owned true x =
      owes-both x (moved e p s owned x) (upcall e p s a (not owned) (moved e p s owned x)) 1 0 2 0 3 0 (owes-moved e p s owned x)
      (owes-upcall e p s a (not owned) (moved e p s owned x)) (omega arith) (omega arith)

  owes-go_to_aim : (e : ℕ) (p : ProcNo) (a : ActNo) (aim : Option SpaceNo) (x : Scene C) → Owes x (go_to_aim e p a aim x) 3 0
  owes-go_to_aim e p a None x = owes-more x x 0 0 3 0 (owes-nothing x) (omega arith) (omega arith)
  owes-go_to_aim e p a (Some s) x = owes-go_to_by e p s a (is_aim s.0 (owner_of x.state p)) (can_upcall x.state s) x

  owes-interrupted : (e : ℕ) (p : ProcNo) (a : ActNo) (held : Option (Stopped C)) (x : Scene C) → Owes x (interrupted e p a held x) 6 1
  owes-interrupted e p a held x =
      let low : Scene C = record x { state = with_line p None x.state } in
      let mid = stopped e p (owner_of x.state p) (life_of x.state p) held low in
      let first = owes-stopped e p (owner_of x.state p) (life_of x.state p) held low in
      let same : Owes x mid 3 1 = record { items = first.items; pending = first.pending } in
      owes-both x mid (go_to_aim e p a (aim_of x.state p) mid) 3 1 3 0 6 1 same (owes-go_to_aim e p a (aim_of x.state p) mid) (omega arith) (omega arith)

  owes-told : (e : ℕ) (p : ProcNo) (s : SpaceNo) (b : ActNo) (can : Bool) (x : Scene C) → Owes x (told_or_left e p s b can x) 3 0
  owes-told e p s b true x = owes-more x (upcall e p s b false x) 2 0 3 0 (owes-upcall e p s b false x) (omega arith) (omega arith)
  owes-told e p s b false x = owes-leave e p s x

  owes-blocked : (e : ℕ) (p : ProcNo) (b : ActNo) (o : Option SpaceNo) (l : Option ActNo) (held : Stopped C) (len : ℕ) (page : Option ℕ) (x : Scene C)
      → Owes x (blocked_by e p b o l held len page x) 6 1
  owes-blocked e p b None l held len page x = owes-more x x 0 0 6 1 (owes-nothing x) (omega arith) (omega arith)
  owes-blocked e p b (Some s) None held len page x = owes-more x x 0 0 6 1 (owes-nothing x) (omega arith) (omega arith)
  owes-blocked e p b (Some s) (Some a) held len page x =
      let mid = block_begun e p s a held len page x in
      owes-both x mid (told_or_left e p s b (can_upcall x.state s) mid) 3 1 3 0 6 1 (owes-noted x mid _ s.0 (Blocked a) refl refl refl refl)
      (owes-told e p s b (can_upcall x.state s) mid) (omega arith) (omega arith)

  owes-over_for : (e : ℕ) (p : ProcNo) (kind : IoKind) (x : Scene C) → Owes x (over_for e p kind x) 3 1
  owes-over_for e p (Plain s a) x = owes-noted x _ _ s.0 (Unblocked a) refl refl refl refl
  owes-over_for e p (Page s a k) x = owes-noted x _ _ s.0 (Unblocked a) refl refl refl refl
  owes-over_for e p (Upcall s) x = owes-more x _ 1 0 3 1 (owes-said x (over_for e p (Upcall s) x) _ refl refl refl refl) (omega arith) (omega arith)

  owes-over : (e : ℕ) (p : ProcNo) (io : IoNo) (kind : Option IoKind) (x : Scene C) → Owes x (over e p io kind x) 3 1
  owes-over e p io None x = owes-more x x 0 0 3 1 (owes-nothing x) (omega arith) (omega arith)
  owes-over e p io (Some kind) x =
      let y = over e p io (Some kind) x in
      let owes =
      owes-over_for e p kind (record x { state = record x.state { under_way = without io.0 x.state.under_way; pages = completed kind x.state.pages } }) in
      record { items = owes.items; pending = owes.pending }

  owes-more_for : (e : ℕ) (p : ProcNo) (n : ℕ) (o : Option SpaceNo) (x : Scene C) → Owes x (more e p n o x) 1 0
  owes-more_for e p n None x = owes-more x x 0 0 1 0 (owes-nothing x) (omega arith) (omega arith)
  owes-more_for e p n (Some s) x = owes-said x _ _ refl refl refl refl

  owes-idled : (e : ℕ) (p : ProcNo) (o : Option SpaceNo) (x : Scene C) → Owes x (idled e p o x) 1 0
  owes-idled e p None x = owes-more x x 0 0 1 0 (owes-nothing x) (omega arith) (omega arith)
  owes-idled e p (Some s) x = owes-said x _ _ refl refl refl refl

  owes-gave_back : (e : ℕ) (p : ProcNo) (o : Option SpaceNo) (x : Scene C) → Owes x (gave_back e p o x) 0 0
  owes-gave_back e p None x = owes-nothing x
  owes-gave_back e p (Some s) x =
      let given = taken_of x.state s.0 in
      let len : length (gave_back e p (Some s) x).items ≡ length x.items + length given =
      length-append x.items (items_at e p (map GiveBackRecord given))
      ∙ ap (λ n. length x.items + n) (length-map (map GiveBackRecord given) (λ (r : Record). record { event = e; proc = p; what = r })
      ∙ length-map given GiveBackRecord) in
      let set = count-set x.state.taken s.0 [] in
      record { items = omega arith; pending = omega arith }

  -- an entry, but for its closing
  pub owes-entered_as : (e : ℕ) (p : ProcNo) (a : ActNo) (entry : Entry C) (x : Scene C) → Owes x (entered_as e p a entry x) 6 1
  owes-entered_as e p a (Interrupt held) x = owes-interrupted e p a held x
  owes-entered_as e p a (Block held len page) x = owes-blocked e p a (owner_of x.state p) (life_of x.state p) held len page x
  owes-entered_as e p a (Complete io) x = owes-more x _ 3 1 6 1 (owes-over e p io (kind_at io.0 x.state.under_way) x) (omega arith) (omega arith)
  owes-entered_as e p a (More n) x = owes-more x _ 1 0 6 1 (owes-more_for e p n (owner_of x.state p) x) (omega arith) (omega arith)
  owes-entered_as e p a Idle x = owes-more x _ 1 0 6 1 (owes-idled e p (owner_of x.state p) x) (omega arith) (omega arith)
  owes-entered_as e p a GiveBack x = owes-more x _ 0 0 6 1 (owes-gave_back e p (owner_of x.state p) x) (omega arith) (omega arith)
  owes-entered_as e p a (InterruptOwn q) x = owes-more x _ 1 0 6 1 (owes-said x (raised e p q x) _ refl refl refl refl) (omega arith) (omega arith)

  -- the closing owes nothing
  pub owed-closed : (e : ℕ) (p : ProcNo) (x : Scene C)
      → (owed_items (closed e p x).state ≡ owed_items x.state) × (pending_count (closed e p x).state ≡ pending_count x.state)
  owed-closed e p x =
      let h = stays-closed e p x in
      let u : untold_count (closed e p x).state ≡ untold_count x.state = ap (sum_by length) h.untold in
      let t : told_count (closed e p x).state ≡ told_count x.state = ap (sum_by hand_over) h.telling in
      let k : taken_count (closed e p x).state ≡ taken_count x.state = ap (sum_by length) h.taken in
      (omega arith, omega arith)

  -- what a fetched notice hands over is to be given back
  owed-handed : (o : Option (Stopped C)) (a : ActNo) (k : KernelState C)
      → (taken_count (handed_by o a k) ≤ taken_count k + 1) × (untold_count (handed_by o a k) ≡ untold_count k) × (told_count (handed_by o a k) ≡ told_count k)
  owed-handed None a k = (omega arith, refl, refl)
  owed-handed (Some h) a k =
      let s = (space_of (k.acts a.0)).0 in
      let set = count-set k.taken s (taken_of k s ++ a ∷ []) in
      let push = length-append (taken_of k s) (a ∷ []) in
      (omega arith, refl, refl)

  pub owed-after_fetch : (notes : List Note) (k : KernelState C) → notes ≡ k.telling
      → (owed_items (after_fetch notes k) ≤ owed_items k) × (pending_count (after_fetch notes k) ≤ pending_count k)
  owed-after_fetch [] k is = (omega arith, omega arith)
  owed-after_fetch (Add p ∷ notes) k is = let t = ap (sum_by hand_over) is in let all = sum_by-cons hand_over (Add p) notes in (omega arith, omega arith)
  owed-after_fetch (Blocked a ∷ notes) k is =
      let t = ap (sum_by hand_over) is in let all = sum_by-cons hand_over (Blocked a) notes in (omega arith, omega arith)
  owed-after_fetch (Preempted a ∷ notes) k is =
      let t = ap (sum_by hand_over) is in let all = sum_by-cons hand_over (Preempted a) notes in
      let h = owed-handed (held_of (k.acts a.0)) a (record k { telling = notes }) in
      let x = h.0 in let y = h.1 in let z = h.2 in
      (omega arith, omega arith)
  owed-after_fetch (Unblocked a ∷ notes) k is =
      let t = ap (sum_by hand_over) is in let all = sum_by-cons hand_over (Unblocked a) notes in
      let h = owed-handed (held_of (k.acts a.0)) a (record k { telling = notes }) in
      let x = h.0 in let y = h.1 in let z = h.2 in
      (omega arith, omega arith)

  -- what is taken of a space is on its way
  pub taken-pending : (k : KernelState C) (s : ℕ) → length (taken_of k s) ≤ pending_count k
  taken-pending k s = elim (cases_lt s (length k.taken)) [
    | inl within ↦ let some = get_or-le-sum_by (λ (list : List ActNo). length list) k.taken s [] within in omega arith
    | inr past ↦ let none = ap length (get_or_past k.taken s [] past) in omega arith
  ]
