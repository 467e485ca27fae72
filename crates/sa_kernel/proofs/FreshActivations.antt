-- Calls that may take a fresh activation.
use Rattle.std.proofs.Common.{◌≡◌, ℕ, ◌+◌, ◌≤◌, ◌<◌, Bool, true, false, not, Option, Some, None, List, [], ◌∷◌, ◌++◌, length, sum_by, slice_index, slice_set, get_or, refl, sym, ap, ◌∙◌, ◌⊎◌, inl, inr, arith, length-append}
use Rattle.std.proofs.lemmas.Bool.{cases_eq, cases_lt, eq-eqb}
use Rattle.std.proofs.lemmas.List.{get_or_past, set_past, get_or-set_same}
use Rattle.std.proofs.lemmas.List.Sums.{sum_by-set, get_or-le-sum_by}
use Rattle.sa_base.specs.declared.number.ProcNo.{ProcNo}
use Rattle.sa_base.specs.declared.number.SpaceNo.{SpaceNo}
use Rattle.sa_base.specs.declared.number.ActNo.{ActNo}
use Rattle.sa_base.specs.declared.context.Stopped.{Stopped}
use Rattle.sa_base.specs.declared.record.Note.{Note}
use Rattle.sa_base.specs.declared.record.Note.TheVariants.{Preempted, Blocked}
use Rattle.sa_lemmas.specs.Function.{put}
use Rattle.sa_lemmas.proofs.FunctionUpdates.{put-at, put-other}
use Rattle.sa_acts.specs.declared.acts.Act.{Act}
use Rattle.sa_acts.specs.Table.{Slots, acts_of, holding, runs_in, IsRunning}
use Rattle.sa_assign.specs.AssignView.{AssignView}
use Rattle.sa_assign.specs.Aims.{is_aim}
use Rattle.sa_base.specs.Pages.{has_page}
use Rattle.sa_kernel_model.specs.declared.entry.Entry.{Entry}
use Rattle.sa_kernel_model.specs.declared.entry.Given.{Given}
use Rattle.sa_kernel_model.specs.declared.entry.Given.TheVariants.{Nothing, Upcall}
use Rattle.sa_kernel_model.specs.State.{KernelState, Scene, owner_of, aim_of, life_of, untold_of, can_upcall}
use Rattle.sa_kernel_model.specs.Parts.{with_line, leave, moved, upcall, go_to, go_to_by}
use Rattle.sa_kernel_model.specs.Entries.{entered_as, stopped, go_to_aim, interrupted, told_or_left, block_begun, blocked, blocked_by}
use Rattle.sa_kernel_model.specs.Entering.{upcalls}
use Rattle.sa_kernel_model.specs.Enters.{Enters, given_by, upcalls_for, upcalls_in, untold_count}
use Rattle.sa_kernel_model.specs.Sound.{RunsIn}
use Rattle.sa_kernel_model.proofs.sound.Formed.{acts-moved}
use Rattle.sa_kernel_model.proofs.sound.Held.{pages-stopped}

module _ {C : Type 0} where
  -- a number that is not in use
  abbrev pub vacant : Slots C → ActNo
  vacant v = record { 0 = length v.table.slots }

  pub vacant-unused : (v : Slots C) → (acts_of v).acts (vacant v).0 ≡ None
  vacant-unused v = get_or_past v.table.slots (length v.table.slots) None (omega arith)

  pub enters-leave : (e : ℕ) (p : ProcNo) (s : SpaceNo) (a : ActNo) (old new : Scene C) → old.state.acts a.0 ≡ None → can_upcall old.state s ≡ false
      → new ≡ leave e p s old → Enters old new Nothing (can_upcall old.state s) (λ b. go_to e p s b)
  enters-leave e p s a old new unused absent is = record {
    fresh = a;
    unused = unused;
    given = ap (λ b. given_by b a) (sym absent);
    scene = is ∙ ap (λ b. go_to_by e p s a (is_aim s.0 (owner_of old.state p)) b old) (sym absent);
  }

  pub enters-upcall : (e : ℕ) (p : ProcNo) (s : SpaceNo) (a : ActNo) (owned : Bool) (old mid new : Scene C) → mid.state.acts a.0 ≡ None
      → can_upcall old.state s ≡ true → owned ≡ is_aim s.0 (owner_of old.state p) → mid ≡ moved e p s owned old → new ≡ upcall e p s a (not owned) mid
      → Enters old new (Upcall a) (can_upcall old.state s) (λ b. go_to e p s b)
  enters-upcall e p s a owned old mid new unused present owner moves is = record {
    fresh = a;
    unused = sym (acts-moved e p s owned old a.0) ∙ ap (λ (x : Scene C). x.state.acts a.0) (sym moves) ∙ unused;
    given = ap (λ b. given_by b a) (sym present);
    scene =
        is
        ∙ ap (λ x. upcall e p s a (not owned) x) moves
        ∙ ap (λ o. upcall e p s a (not o) (moved e p s o old)) owner
        ∙ ap (λ b. go_to_by e p s a (is_aim s.0 (owner_of old.state p)) b old) (sym present);
  }

  pub running : (owners : List (Option SpaceNo)) (acts : ℕ → Option (Act C)) (p : ℕ) (a : ActNo) → RunsIn owners acts p a → IsRunning (acts a.0)
  running owners acts p a runs = record { here = runs_in runs.space; is = runs.act; none_held = refl; not_taken = refl }

  pub enters-no_aim : (e : ℕ) (p : ProcNo) (a : ActNo) (aim : Option SpaceNo) (x : Scene C) → x.state.acts a.0 ≡ None → aim ≡ None
      → Enters x x Nothing (upcalls_for x.state aim) (λ b. go_to_aim e p b aim)
  enters-no_aim e p a aim x unused none = record {
    fresh = a;
    unused = unused;
    given = ap (λ o. given_by (upcalls_for x.state o) a) (sym none);
    scene = ap (λ o. go_to_aim e p a o x) (sym none);
  }

  -- a held context takes no number
  unused-held : (acts : ℕ → Option (Act C)) (b n : ℕ) (held : Stopped C) → put acts b (holding held (acts b)) n ≡ None → acts n ≡ None
  unused-held acts b n held none = elim (cases_eq n b) [
    | inl same ↦ ap acts same ∙ not-held (acts b) held (sym (put-at acts b n (holding held (acts b)) same) ∙ none)
    | inr apart ↦ sym (put-other acts b n (holding held (acts b)) apart) ∙ none
  ]
    where
      not-held : (x : Option (Act C)) (h : Stopped C) → holding h x ≡ None → x ≡ None
      not-held None h is = refl
      not-held (Some y) h is = cc

  unused-stopped : (e : ℕ) (p : ProcNo) (o : Option SpaceNo) (l : Option ActNo) (held : Option (Stopped C)) (x : Scene C) (n : ℕ)
      → (stopped e p o l held x).state.acts n ≡ None → x.state.acts n ≡ None
  unused-stopped e p (Some s) (Some a) (Some h) x n none = unused-held x.state.acts a.0 n h none
  unused-stopped e p _ _ _ x n none = none

  upcalls-same : (k m : KernelState C) (aim : Option SpaceNo) → k.pages ≡ m.pages → upcalls_for k aim ≡ upcalls_for m aim
  upcalls-same k m None same = refl
  upcalls-same k m (Some s) same = ap (λ pages. has_page (slice_index pages s.0) 0) same

  abbrev pub lowered : ProcNo → Scene C → Scene C
  lowered p x = record x { state = with_line p None x.state }

  pub enters-interrupt : (e : ℕ) (p : ProcNo) (held : Option (Stopped C)) (aim : Option SpaceNo) (old mid new : Scene C) (result : Given)
      → mid ≡ stopped e p (owner_of old.state p) (life_of old.state p) held (lowered p old) → aim ≡ aim_of old.state p
      → Enters mid new result (upcalls_for mid.state aim) (λ a. go_to_aim e p a aim)
      → Enters old new result (upcalls_for old.state (aim_of old.state p)) (λ a. interrupted e p a held)
  enters-interrupt e p held aim old mid new result stops is enters =
      let o = owner_of old.state p in
      let l = life_of old.state p in
      let same : upcalls_for mid.state aim ≡ upcalls_for old.state (aim_of old.state p) =
      ap (upcalls_for mid.state) is
      ∙ upcalls-same mid.state old.state (aim_of old.state p) (ap (λ (x : Scene C). x.state.pages) stops ∙ pages-stopped e p o l held (lowered p old)) in
      record {
        fresh = enters.fresh;
        unused = unused-stopped e p o l held (lowered p old) enters.fresh.0 (sym (ap (λ (x : Scene C). x.state.acts enters.fresh.0) stops) ∙ enters.unused);
        given = enters.given ∙ ap (λ b. given_by b enters.fresh) same;
        scene = enters.scene ∙ ap (λ x. go_to_aim e p enters.fresh aim x) stops
            ∙ ap (λ b. go_to_aim e p enters.fresh b (stopped e p o l held (lowered p old))) is;
      }

  -- a processor that the space owns goes to it where it is
  gone-owned : (e : ℕ) (p : ProcNo) (s : SpaceNo) (b : ActNo) (present : Bool) (x : Scene C)
      → go_to_by e p s b true present x ≡ told_or_left e p s b present x
  gone-owned e p s b true x = refl
  gone-owned e p s b false x = refl

  pub enters-block : (e : ℕ) (p : ProcNo) (s : SpaceNo) (a : ActNo) (held : Stopped C) (len : ℕ) (page : Option ℕ) (old mid new : Scene C) (result : Given)
      → owner_of old.state p ≡ Some s → life_of old.state p ≡ Some a → mid ≡ block_begun e p s a held len page old
      → Enters mid new result (can_upcall mid.state s) (λ b. go_to e p s b)
      → Enters old new result (upcalls_in old.state (owner_of old.state p) (life_of old.state p)) (λ b. blocked e p b held len page)
  enters-block e p s a held len page old mid new result owner life begins enters =
      let b = enters.fresh in
      let same : can_upcall mid.state s ≡ can_upcall old.state s = ap (λ (x : Scene C). can_upcall x.state s) begins in
      let owned : is_aim s.0 (owner_of mid.state p) ≡ true =
      ap (λ (x : Scene C). is_aim s.0 (owner_of x.state p)) begins ∙ ap (is_aim s.0) owner ∙ eq-eqb s.0 s.0 refl in
      record {
        fresh = b;
        unused = unused-held old.state.acts a.0 b.0 held (sym (ap (λ (x : Scene C). x.state.acts b.0) begins) ∙ enters.unused);
        given = enters.given ∙ ap (λ c. given_by c b) same ∙ ap (λ o. given_by (upcalls_in old.state o (Some a)) b) (sym owner)
            ∙ ap (λ l. given_by (upcalls_in old.state (owner_of old.state p) l) b) (sym life);
        scene = enters.scene ∙ ap (λ o. go_to_by e p s b o (can_upcall mid.state s) mid) owned ∙ gone-owned e p s b (can_upcall mid.state s) mid
            ∙ ap (λ c. told_or_left e p s b c mid) same ∙ ap (λ x. told_or_left e p s b (can_upcall old.state s) x) begins
            ∙ ap (λ o. blocked_by e p b o (Some a) held len page old) (sym owner)
            ∙ ap (λ l. blocked_by e p b (owner_of old.state p) l held len page old) (sym life);
      }

  pub enters-no_block : (e : ℕ) (p : ProcNo) (b : ActNo) (held : Stopped C) (len : ℕ) (page : Option ℕ) (x : Scene C) (o : Option SpaceNo) (l : Option ActNo)
      → owner_of x.state p ≡ o → life_of x.state p ≡ l → (o ≡ None) ⊎ (l ≡ None) → x.state.acts b.0 ≡ None
      → Enters x x Nothing (upcalls_in x.state (owner_of x.state p) (life_of x.state p)) (λ c. blocked e p c held len page)
  enters-no_block e p b held len page x o l owner life none unused = record {
    fresh = b;
    unused = unused;
    given = sym (ap (λ y. given_by (upcalls_in x.state y (life_of x.state p)) b) owner ∙ ap (λ y. given_by (upcalls_in x.state o y) b) life ∙ nothing o l none);
    scene = sym (ap (λ y. blocked_by e p b y (life_of x.state p) held len page x) owner ∙ ap (λ y. blocked_by e p b o y held len page x) life ∙ same o l none);
  }
    where
      nothing : (o : Option SpaceNo) (l : Option ActNo) → (o ≡ None) ⊎ (l ≡ None) → given_by (upcalls_in x.state o l) b ≡ Nothing
      nothing None l none = refl
      nothing (Some s) None none = refl
      nothing (Some s) (Some a) none = elim none [ inl h ↦ cc | inr h ↦ cc ]

      same : (o : Option SpaceNo) (l : Option ActNo) → (o ≡ None) ⊎ (l ≡ None) → blocked_by e p b o l held len page x ≡ x
      same None l none = refl
      same (Some s) None none = refl
      same (Some s) (Some a) none = elim none [ inl h ↦ cc | inr h ↦ cc ]

-- a list of notices grows by one
pub count-noted : (untold : List (List Note)) (s : ℕ) (note : Note)
    → sum_by length (slice_set untold s (get_or untold s [] ++ note ∷ [])) ≤ sum_by length untold + 1
count-noted untold s note = elim (cases_lt s (length untold)) [
  | inl within ↦
      let new : List Note = get_or untold s [] ++ note ∷ [] in
      let e : sum_by length (slice_set untold s new) + length (get_or untold s []) ≡ sum_by length untold + length new =
      sum_by-set length untold s new [] within in
      omega (arith, length-append (get_or untold s []) (note ∷ []))
  | inr past ↦
      let e : sum_by length (slice_set untold s (get_or untold s [] ++ note ∷ [])) ≡ sum_by length untold = ap (sum_by length) (set_past untold s _ past) in
      omega arith
]

module _ {C : Type 0} where
  pub count-stopped : (e : ℕ) (p : ProcNo) (o : Option SpaceNo) (l : Option ActNo) (held : Option (Stopped C)) (x : Scene C)
      → untold_count (stopped e p o l held x).state ≤ untold_count x.state + 1
  count-stopped e p (Some s) (Some a) (Some h) x = count-noted x.state.untold s.0 (Preempted a)
  count-stopped e p _ _ _ x = omega arith

  -- what a block leaves to be told of a space
  pub few-begun : (e : ℕ) (p : ProcNo) (s : SpaceNo) (a : ActNo) (held : Stopped C) (len : ℕ) (page : Option ℕ) (old mid : Scene C)
      → s.0 < length old.state.untold → mid ≡ block_begun e p s a held len page old → length (untold_of mid.state s.0) ≤ untold_count old.state + 1
  few-begun e p s a held len page old mid within begins =
      let noted : List Note = untold_of old.state s.0 ++ Blocked a ∷ [] in
      let same : length (untold_of mid.state s.0) ≡ length (untold_of old.state s.0 ++ Blocked a ∷ []) =
      ap (λ (x : Scene C). length (untold_of x.state s.0)) begins ∙ ap length (get_or-set_same old.state.untold s.0 noted [] within) in
      let few : length (untold_of old.state s.0) ≤ untold_count old.state = get_or-le-sum_by length old.state.untold s.0 [] within in
      omega (arith, length-append (untold_of old.state s.0) (Blocked a ∷ []))

  abbrev with_assign : AssignView → Scene C → Scene C
  with_assign a x = record x { state = record x.state { assign = a } }

  -- the line is lowered before the stop
  pub stopped-low : (e : ℕ) (p : ProcNo) (held : Option (Stopped C)) (a : AssignView) (old mid : Scene C)
      → a ≡ record old.state.assign { lines = slice_set old.state.assign.lines p.0 None }
      → mid ≡ stopped e p (owner_of (with_assign a old).state p) (life_of (with_assign a old).state p) held (with_assign a old)
      → mid ≡ stopped e p (owner_of old.state p) (life_of old.state p) held (lowered p old)
  stopped-low e p held a old mid low is =
      is ∙ ap (λ (b : AssignView). stopped e p (owner_of (with_assign b old).state p) (life_of (with_assign b old).state p) held (with_assign b old)) low

  pub count-interrupt : (e : ℕ) (p : ProcNo) (held : Option (Stopped C)) (a : AssignView) (old mid : Scene C)
      → a ≡ record old.state.assign { lines = slice_set old.state.assign.lines p.0 None }
      → mid ≡ stopped e p (owner_of (with_assign a old).state p) (life_of (with_assign a old).state p) held (with_assign a old)
      → untold_count mid.state ≤ untold_count old.state + 1
  count-interrupt e p held a old mid low is =
      let o = owner_of old.state p in
      let l = life_of old.state p in
      let same : untold_count mid.state ≡ untold_count (stopped e p o l held (lowered p old)).state =
      ap (λ (x : Scene C). untold_count x.state) (stopped-low e p held a old mid low is) in
      let more : untold_count (stopped e p o l held (lowered p old)).state ≤ untold_count old.state + 1 = count-stopped e p o l held (lowered p old) in
      omega arith

  -- an entry that upcalls nobody
  pub enters-quietly : (e : ℕ) (p : ProcNo) (entry made : Entry C) (a : ActNo) (old new : Scene C) → entry ≡ made → upcalls old.state p made ≡ false
      → old.state.acts a.0 ≡ None → new ≡ entered_as e p a made old → Enters old new Nothing (upcalls old.state p entry) (λ b. entered_as e p b entry)
  enters-quietly e p entry made a old new is none unused scene =
      let quiet : upcalls old.state p entry ≡ false = ap (λ (x : Entry C). upcalls old.state p x) is ∙ none in
      let now : new ≡ entered_as e p a entry old = scene ∙ ap (λ (x : Entry C). entered_as e p a x old) (sym is) in
      record { fresh = a; unused = unused; given = ap (λ b. given_by b a) (sym quiet); scene = now }
