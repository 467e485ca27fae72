-- No context is lost, and an upcall tells its own space, entry by entry.
use Rattle.std.proofs.Common.{◌≡◌, ℕ, ◌+◌, ◌<◌, Bool, true, false, not, eqb, Option, Some, None, option_map, List, [], ◌∷◌, ◌++◌, length, get_or, refl, sym, ap, subst, ◌∙◌, inl, inr, arith}
use Rattle.std.proofs.lemmas.Bool.{cases_eq, eq-eqb}
use Rattle.std.proofs.lemmas.List.{get_or-set_same, length-set}
use Rattle.sa_base.specs.declared.number.ProcNo.{ProcNo}
use Rattle.sa_base.specs.declared.number.SpaceNo.{SpaceNo}
use Rattle.sa_base.specs.declared.number.ActNo.{ActNo}
use Rattle.sa_base.specs.declared.number.IoNo.{IoNo}
use Rattle.sa_base.specs.declared.record.Note.{Note}
use Rattle.sa_base.specs.declared.record.Note.TheVariants.{Add, Preempted, Blocked, Unblocked}
use Rattle.sa_base.specs.declared.context.Stopped.{Stopped}
use Rattle.sa_lemmas.specs.Function.{put}
use Rattle.sa_lemmas.proofs.FunctionUpdates.{put-same, put-at, put-other}
use Rattle.sa_acts.specs.declared.acts.Act.{Act}
use Rattle.sa_acts.specs.Table.{holding, runs_in, held_of}
use Rattle.sa_assign.specs.AssignView.{AssignView}
use Rattle.sa_assign.specs.Aims.{is_aim, least_below}
use Rattle.sa_devices.specs.declared.kind.IoKind.{IoKind}
use Rattle.sa_devices.specs.declared.kind.IoKind.TheVariants.{Plain, Page, Upcall}
use Rattle.sa_devices.specs.Ios.{Io, io_at, without}
use Rattle.sa_devices.specs.Pages.{IsKind}
use Rattle.sa_base.specs.Pages.{has_page}
use Rattle.sa_kernel_model.specs.State.{KernelState, Scene, owner_of, aim_of, life_of, can_upcall, is_fetching, untold_of, taken_of}
use Rattle.sa_kernel_model.specs.Parts.{with_line, upcall, fetch_page, leave, moved, go_to_by}
use Rattle.sa_kernel_model.specs.Entries.{stopped, go_to_aim, interrupted, told_or_left, block_begun, blocked_by, io_for, over_for, over, more, idled, gave_back, entered_as, handed_by, fetched, after_fetch}
use Rattle.sa_kernel_model.specs.Closing.{spaces, want_one, want_for, must_want, wants, aims, interrupt, interrupt_one, interrupt_for, must_interrupt, has_low_line, closed}
use Rattle.sa_kernel_model.specs.Entering.{upcalls}
use Rattle.sa_kernel_model.specs.Enters.{upcalls_for, upcalls_in}
use Rattle.sa_kernel_model.specs.declared.entry.Entry.{Entry}
use Rattle.sa_kernel_model.specs.declared.entry.Entry.TheVariants.{Interrupt, Block, Complete, More, Idle, GiveBack, InterruptOwn}
use Rattle.sa_kernel_model.specs.Sound.{note_claim, IsFormed, IsClaimed, AreClaimed, IsUpcalled}
use Rattle.sa_devices.proofs.SoundLemmas.{All-io_at}
use Rattle.sa_kernel_model.proofs.sound.Formed.{owner-moved, same-stopped, acts-moved, unused-after, formed-line}
use Rattle.sa_kernel_model.proofs.parts.Seen.{bit_of}
use Rattle.sa_kernel_model.proofs.parts.Placed.{cells-moved, for_spaces-keeps}
use Rattle.sa_kernel_model.proofs.sound.Claims.{Claims, held-none, held-next, claims-stopped, claims-blocked, claims-fetch, claims-run, claims-back, claims-fetched, claims-given, claims-passed, claims-handed}

module _ {C : Type 0} where
  -- a processor's activation runs in the space that owns it
  pub runs-here : (k : KernelState C) (p : ProcNo) (s : SpaceNo) (a : ActNo) → owner_of k p ≡ Some s → life_of k p ≡ Some a → IsFormed k
      → k.acts a.0 ≡ Some (runs_in s)
  runs-here k p s a owner life formed =
      let runs = formed.lives.run p.0 a life in
      runs.act ∙ ap (λ (t : SpaceNo). Some (runs_in t)) (some-same runs.space s (sym runs.owner ∙ owner))
    where
      some-same : (x y : SpaceNo) → Some x ≡ Some y → x ≡ y
      some-same x y e = cc

  -- the owner of a processor has a list of notices
  within-untold : (k : KernelState C) (p : ProcNo) (s : SpaceNo) → owner_of k p ≡ Some s → IsFormed k → s.0 < length k.untold
  within-untold k p s owner formed = let below = formed.owners p.0 s owner in let z = formed.sizes.untold in omega arith

  pub pages-stopped : (e : ℕ) (p : ProcNo) (o : Option SpaceNo) (l : Option ActNo) (held : Option (Stopped C)) (x : Scene C)
      → (stopped e p o l held x).state.pages ≡ x.state.pages
  pages-stopped e p None l held x = refl
  pages-stopped e p (Some s) None held x = refl
  pages-stopped e p (Some s) (Some a) None x = refl
  pages-stopped e p (Some s) (Some a) (Some h) x = refl

  claimed-stopped : (e : ℕ) (p : ProcNo) (o : Option SpaceNo) (l : Option ActNo) (held : Option (Stopped C)) (x : Scene C) (t : ℕ)
      → o ≡ owner_of x.state p → l ≡ life_of x.state p → IsFormed x.state → AreClaimed x.state t → AreClaimed (stopped e p o l held x).state t
  claimed-stopped e p None l held x t owner life formed claimed = claimed
  claimed-stopped e p (Some s) None held x t owner life formed claimed = claimed
  claimed-stopped e p (Some s) (Some a) None x t owner life formed claimed = claimed
  claimed-stopped e p (Some s) (Some a) (Some h) x t owner life formed claimed =
      let k = x.state in
      claims-stopped k.under_way k.untold k.telling k.acts t s a h (within-untold k p s (sym owner) formed)
      (runs-here k p s a (sym owner) (sym life) formed) claimed

  claimed-fetch : (e : ℕ) (p : ProcNo) (s : SpaceNo) (b : Bool) (x : Scene C) (t : ℕ) → AreClaimed x.state t → AreClaimed (fetch_page e p s b x).state t
  claimed-fetch e p s true x t claimed = claimed
  claimed-fetch e p s false x t claimed =
      claims-fetch x.state.under_way x.state.untold x.state.telling x.state.acts t s
      (record { number = x.state.io_count; ends = e + x.state.fixed.fetch; kind = Upcall s }) refl claimed

  claimed-leave : (e : ℕ) (p : ProcNo) (s : SpaceNo) (x : Scene C) (t : ℕ) → AreClaimed x.state t → AreClaimed (leave e p s x).state t
  claimed-leave e p s x t claimed = claimed-fetch e p s (is_fetching x.state s.0) _ t claimed

  claimed-moved : (e : ℕ) (p : ProcNo) (s : SpaceNo) (owned : Bool) (x : Scene C) (t : ℕ) → AreClaimed x.state t → AreClaimed (moved e p s owned x).state t
  claimed-moved e p s true x t claimed = claimed
  claimed-moved e p s false x t claimed = claimed

  notes-moved : (e : ℕ) (p : ProcNo) (s : SpaceNo) (owned : Bool) (x : Scene C)
      → ((moved e p s owned x).state.telling ≡ x.state.telling) × ((moved e p s owned x).state.untold ≡ x.state.untold)
  notes-moved e p s true x = (refl, refl)
  notes-moved e p s false x = (refl, refl)

  pub upcalled-upcall : (e : ℕ) (p : ProcNo) (s : SpaceNo) (a : ActNo) (added : Bool) (x : Scene C) (t : ℕ) → owner_of x.state p ≡ Some s
      → p.0 < length x.state.lives → x.state.acts a.0 ≡ None → x.state.telling ≡ [] → s.0 < length x.state.untold → AreClaimed x.state t
      → IsUpcalled (upcall e p s a added x).state p a
  upcalled-upcall e p s a added x t owner within unused empty inside claimed = record {
    space = s;
    owner = owner;
    life = get_or-set_same x.state.lives p.0 (Some a) None within;
    act = put-same x.state.acts a.0 (Some (runs_in s));
    told = claims-run x.state.under_way x.state.untold x.state.telling x.state.acts t s a added p empty inside unused claimed;
  }

  -- what an upcall needs
  pub record CanRun (x : Scene C) (p : ProcNo) (s : SpaceNo) (a : ActNo) (t : ℕ) : Type 0 where
    pub within : p.0 < length x.state.lives
    pub owners : p.0 < length x.state.assign.owners
    pub unused : x.state.acts a.0 ≡ None
    pub empty : x.state.telling ≡ []
    pub inside : s.0 < length x.state.untold
    pub claimed : AreClaimed x.state t

  upcalled-go_to_by : (e : ℕ) (p : ProcNo) (s : SpaceNo) (a : ActNo) (owned : Bool) (x : Scene C) (t : ℕ) → owned ≡ is_aim s.0 (owner_of x.state p)
      → CanRun x p s a t → IsUpcalled (go_to_by e p s a owned true x).state p a
  upcalled-go_to_by e p s a owned x t is can =
      let cells = cells-moved e p s owned x in
      let notes = notes-moved e p s owned x in
      upcalled-upcall e p s a (not owned) (moved e p s owned x) t (owner-moved e p s owned x is can.owners)
      (subst (λ (ls : List (Option ActNo)). p.0 < length ls) (sym cells.2) can.within) (acts-moved e p s owned x a.0 ∙ can.unused) (notes.0 ∙ can.empty)
      (subst (λ (ns : List (List Note)). s.0 < length ns) (sym notes.1) can.inside) (claimed-moved e p s owned x t can.claimed)

  claimed-go_to_by : (e : ℕ) (p : ProcNo) (s : SpaceNo) (a : ActNo) (owned can : Bool) (x : Scene C) (t : ℕ) → owned ≡ is_aim s.0 (owner_of x.state p)
      → CanRun x p s a t → IsClaimed (go_to_by e p s a owned can x).state
  claimed-go_to_by e p s a owned false x t is run = record { told_to = t; once = claimed-leave e p s x t run.claimed }
  claimed-go_to_by e p s a owned true x t is run = let up = upcalled-go_to_by e p s a owned x t is run in record { told_to = up.space.0; once = up.told }

  -- the scene in which an interrupted processor goes to its aim
  abbrev stopped_at : ℕ → ProcNo → Option (Stopped C) → Scene C → Scene C
  stopped_at e p held x = stopped e p (owner_of x.state p) (life_of x.state p) held (record x { state = with_line p None x.state })

  telling-stopped : (e : ℕ) (p : ProcNo) (o : Option SpaceNo) (l : Option ActNo) (held : Option (Stopped C)) (x : Scene C)
      → ((stopped e p o l held x).state.telling ≡ x.state.telling) × (length (stopped e p o l held x).state.untold ≡ length x.state.untold)
      × (length (stopped e p o l held x).state.lives ≡ length x.state.lives)
  telling-stopped e p None l held x = (refl, refl, refl)
  telling-stopped e p (Some s) None held x = (refl, refl, refl)
  telling-stopped e p (Some s) (Some a) None x = (refl, refl, refl)
  telling-stopped e p (Some s) (Some a) (Some h) x = (refl, length-set x.state.untold s.0 _, length-set x.state.lives p.0 None)

  can-run : (e : ℕ) (p : ProcNo) (s : SpaceNo) (a : ActNo) (held : Option (Stopped C)) (x : Scene C) (t : ℕ) → p.0 < length x.state.lives
      → aim_of x.state p ≡ Some s → x.state.acts a.0 ≡ None → x.state.telling ≡ [] → IsFormed x.state → AreClaimed x.state t
      → CanRun (stopped_at e p held x) p s a t
  can-run e p s a held x t within aim unused empty formed claimed =
      let k = x.state in
      let low : Scene C = record x { state = with_line p None k } in
      let o = owner_of k p in
      let l = life_of k p in
      let lowered = formed-line p None k formed in
      let parts = telling-stopped e p o l held low in
      let owners : length (stopped e p o l held low).state.assign.owners ≡ length k.assign.owners =
      ap (λ (b : AssignView). length b.owners) (same-stopped e p o l held low).0 in
      let below = formed.aims p.0 s aim in
      let z = formed.sizes.untold in
      let y = formed.sizes.owners in
      let lives = parts.2 in
      let untold = parts.1 in
      record {
        within = omega arith;
        owners = omega arith;
        unused = unused-after e p o l held low a.0 refl lowered unused;
        empty = parts.0 ∙ empty;
        inside = omega arith;
        claimed = claimed-stopped e p o l held low t refl refl lowered claimed;
      }

  claimed-go_to_aim : (e : ℕ) (p : ProcNo) (a : ActNo) (aim : Option SpaceNo) (x : Scene C) (t : ℕ) → AreClaimed x.state t
      → ((s : SpaceNo) → aim ≡ Some s → CanRun x p s a t) → IsClaimed (go_to_aim e p a aim x).state
  claimed-go_to_aim e p a None x t claimed can = record { told_to = t; once = claimed }
  claimed-go_to_aim e p a (Some s) x t claimed can =
      claimed-go_to_by e p s a (is_aim s.0 (owner_of x.state p)) (can_upcall x.state s) x t refl (can s refl)

  claimed-interrupted : (e : ℕ) (p : ProcNo) (a : ActNo) (held : Option (Stopped C)) (x : Scene C) (t : ℕ) → p.0 < length x.state.lives
      → x.state.acts a.0 ≡ None → x.state.telling ≡ [] → IsFormed x.state → AreClaimed x.state t → IsClaimed (interrupted e p a held x).state
  claimed-interrupted e p a held x t within unused empty formed claimed =
      claimed-go_to_aim e p a (aim_of x.state p) (stopped_at e p held x) t
      (claimed-stopped e p (owner_of x.state p) (life_of x.state p) held (record x { state = with_line p None x.state }) t refl refl
      (formed-line p None x.state formed) claimed)
      (λ s is. can-run e p s a held x t within is unused empty formed claimed)

  upcalled-go_to_aim : (e : ℕ) (p : ProcNo) (a : ActNo) (aim : Option SpaceNo) (x : Scene C) (t : ℕ) → upcalls_for x.state aim ≡ true
      → ((s : SpaceNo) → aim ≡ Some s → CanRun x p s a t) → IsUpcalled (go_to_aim e p a aim x).state p a
  upcalled-go_to_aim e p a None x t up can = absurd cc
  upcalled-go_to_aim e p a (Some s) x t up can =
      subst (λ b. IsUpcalled (go_to_by e p s a (is_aim s.0 (owner_of x.state p)) b x).state p a) (sym up)
      (upcalled-go_to_by e p s a (is_aim s.0 (owner_of x.state p)) x t refl (can s refl))

  upcalls-kept : (k m : KernelState C) (aim : Option SpaceNo) → k.pages ≡ m.pages → upcalls_for m aim ≡ true → upcalls_for k aim ≡ true
  upcalls-kept k m None same up = up
  upcalls-kept k m (Some s) same up = ap (λ (pages : List ℕ). has_page (get_or pages s.0 0) 0) same ∙ up

  upcalled-interrupted : (e : ℕ) (p : ProcNo) (a : ActNo) (held : Option (Stopped C)) (x : Scene C) (t : ℕ) → p.0 < length x.state.lives
      → upcalls_for x.state (aim_of x.state p) ≡ true → x.state.acts a.0 ≡ None → x.state.telling ≡ [] → IsFormed x.state → AreClaimed x.state t
      → IsUpcalled (interrupted e p a held x).state p a
  upcalled-interrupted e p a held x t within up unused empty formed claimed =
      upcalled-go_to_aim e p a (aim_of x.state p) (stopped_at e p held x) t
      (upcalls-kept (stopped_at e p held x).state x.state (aim_of x.state p)
      (pages-stopped e p (owner_of x.state p) (life_of x.state p) held (record x { state = with_line p None x.state })) up)
      (λ s is. can-run e p s a held x t within is unused empty formed claimed)

  pub unused-held : (acts : ℕ → Option (Act C)) (b m : ℕ) (held : Stopped C) → acts m ≡ None → put acts b (holding held (acts b)) m ≡ None
  unused-held acts b m held free = elim (cases_eq m b) [
    | inl same ↦ put-at acts b m (holding held (acts b)) same ∙ ap (holding held) (ap acts (sym same) ∙ free)
    | inr apart ↦ put-other acts b m (holding held (acts b)) apart ∙ free
  ]

  -- the scene in which a blocked context's space is told
  can-tell : (e : ℕ) (p : ProcNo) (s : SpaceNo) (a b : ActNo) (held : Stopped C) (len : ℕ) (page : Option ℕ) (x : Scene C) (t : ℕ) → p.0 < length x.state.lives
      → owner_of x.state p ≡ Some s → life_of x.state p ≡ Some a → x.state.acts b.0 ≡ None → x.state.telling ≡ [] → IsFormed x.state → AreClaimed x.state t
      → CanRun (block_begun e p s a held len page x) p s b t
  can-tell e p s a b held len page x t within owner life unused empty formed claimed =
      let k = x.state in
      let z = formed.sizes.owners in
      let inside = within-untold k p s owner formed in
      record {
        within = (let y = length-set k.lives p.0 None in omega arith);
        owners = omega arith;
        unused = unused-held k.acts a.0 b.0 held unused;
        empty = empty;
        inside = (let y = length-set k.untold s.0 (untold_of k s.0 ++ Blocked a ∷ []) in omega arith);
        claimed =
            claims-blocked k.under_way k.untold k.telling k.acts t s a held (record { number = k.io_count; ends = e + len; kind = io_for s a page }) page refl
            inside (runs-here k p s a owner life formed) claimed;
      }

  upcalled-told : (e : ℕ) (p : ProcNo) (s : SpaceNo) (b : ActNo) (x : Scene C) (t : ℕ) → owner_of x.state p ≡ Some s → CanRun x p s b t
      → IsUpcalled (told_or_left e p s b true x).state p b
  upcalled-told e p s b x t owner can = upcalled-upcall e p s b false x t owner can.within can.unused can.empty can.inside can.claimed

  claimed-told : (e : ℕ) (p : ProcNo) (s : SpaceNo) (b : ActNo) (can : Bool) (x : Scene C) (t : ℕ) → owner_of x.state p ≡ Some s → CanRun x p s b t
      → IsClaimed (told_or_left e p s b can x).state
  claimed-told e p s b true x t owner run = let up = upcalled-told e p s b x t owner run in record { told_to = up.space.0; once = up.told }
  claimed-told e p s b false x t owner run = record { told_to = t; once = claimed-leave e p s x t run.claimed }

  claimed-blocked : (e : ℕ) (p : ProcNo) (b : ActNo) (o : Option SpaceNo) (l : Option ActNo) (held : Stopped C) (len : ℕ) (page : Option ℕ) (x : Scene C)
      (t : ℕ) → o ≡ owner_of x.state p → l ≡ life_of x.state p → p.0 < length x.state.lives → x.state.acts b.0 ≡ None → x.state.telling ≡ [] → IsFormed x.state
      → AreClaimed x.state t → IsClaimed (blocked_by e p b o l held len page x).state
  claimed-blocked e p b None l held len page x t owner life within unused empty formed claimed = record { told_to = t; once = claimed }
  claimed-blocked e p b (Some s) None held len page x t owner life within unused empty formed claimed = record { told_to = t; once = claimed }
  claimed-blocked e p b (Some s) (Some a) held len page x t owner life within unused empty formed claimed =
      claimed-told e p s b (can_upcall x.state s) (block_begun e p s a held len page x) t (sym owner)
      (can-tell e p s a b held len page x t within (sym owner) (sym life) unused empty formed claimed)

  upcalled-blocked : (e : ℕ) (p : ProcNo) (b : ActNo) (o : Option SpaceNo) (l : Option ActNo) (held : Stopped C) (len : ℕ) (page : Option ℕ) (x : Scene C)
      (t : ℕ) → o ≡ owner_of x.state p → l ≡ life_of x.state p → upcalls_in x.state o l ≡ true → p.0 < length x.state.lives → x.state.acts b.0 ≡ None
      → x.state.telling ≡ [] → IsFormed x.state → AreClaimed x.state t → IsUpcalled (blocked_by e p b o l held len page x).state p b
  upcalled-blocked e p b None l held len page x t owner life up within unused empty formed claimed = absurd cc
  upcalled-blocked e p b (Some s) None held len page x t owner life up within unused empty formed claimed = absurd cc
  upcalled-blocked e p b (Some s) (Some a) held len page x t owner life up within unused empty formed claimed =
      subst (λ c. IsUpcalled (told_or_left e p s b c (block_begun e p s a held len page x)).state p b) (sym up)
      (upcalled-told e p s b (block_begun e p s a held len page x) t (sym owner)
      (can-tell e p s a b held len page x t within (sym owner) (sym life) unused empty formed claimed))

  -- an I/O is over
  claimed-over_for : (e : ℕ) (p : ProcNo) (io : IoNo) (kind : IoKind) (here : Io) (pages : List ℕ) (x : Scene C) (t : ℕ)
      → io_at io.0 x.state.under_way ≡ Some here → here.kind ≡ kind → IsFormed x.state → AreClaimed x.state t
      → AreClaimed (over_for e p kind (record x { state = record x.state { under_way = without io.0 x.state.under_way; pages = pages } })).state t
  claimed-over_for e p io (Plain s a) here pages x t is kind formed claimed =
      let k = x.state in
      let fits : IsKind (length k.demands) (Plain s a) =
      subst (IsKind (length k.demands)) kind (All-io_at (λ (i : Io). IsKind (length k.demands) i.kind) io.0 k.under_way here formed.ios is) in
      let z = formed.sizes.untold in
      claims-back k.under_way k.untold k.telling k.acts t io.0 s a here None is kind (let below : s.0 < length k.demands = fits in omega arith) claimed
  claimed-over_for e p io (Page s a n) here pages x t is kind formed claimed =
      let k = x.state in
      let fits : IsKind (length k.demands) (Page s a n) =
      subst (IsKind (length k.demands)) kind (All-io_at (λ (i : Io). IsKind (length k.demands) i.kind) io.0 k.under_way here formed.ios is) in
      let z = formed.sizes.untold in
      claims-back k.under_way k.untold k.telling k.acts t io.0 s a here (Some n) is kind (let below : s.0 < length k.demands = fits.0 in omega arith) claimed
  claimed-over_for e p io (Upcall s) here pages x t is kind formed claimed =
      claims-fetched x.state.under_way x.state.untold x.state.telling x.state.acts t io.0 s here is kind claimed

  claimed-over : (e : ℕ) (p : ProcNo) (io : IoNo) (found : Option Io) (x : Scene C) (t : ℕ) → found ≡ io_at io.0 x.state.under_way → IsFormed x.state
      → AreClaimed x.state t → AreClaimed (over e p io (option_map (λ (i : Io). i.kind) found) x).state t
  claimed-over e p io None x t is formed claimed = claimed
  claimed-over e p io (Some here) x t is formed claimed = claimed-over_for e p io here.kind here _ x t (sym is) refl formed claimed

  claimed-more : (e : ℕ) (p : ProcNo) (n : ℕ) (o : Option SpaceNo) (x : Scene C) (t : ℕ) → AreClaimed x.state t → AreClaimed (more e p n o x).state t
  claimed-more e p n None x t claimed = claimed
  claimed-more e p n (Some s) x t claimed = claimed

  claimed-idled : (e : ℕ) (p : ProcNo) (o : Option SpaceNo) (x : Scene C) (t : ℕ) → AreClaimed x.state t → AreClaimed (idled e p o x).state t
  claimed-idled e p None x t claimed = claimed
  claimed-idled e p (Some s) x t claimed = claimed

  claimed-gave_back : (e : ℕ) (p : ProcNo) (o : Option SpaceNo) (x : Scene C) (t : ℕ) → IsFormed x.state → AreClaimed x.state t
      → AreClaimed (gave_back e p o x).state t
  claimed-gave_back e p None x t formed claimed = claimed
  claimed-gave_back e p (Some s) x t formed claimed =
      claims-given x.state.under_way x.state.untold x.state.telling x.state.acts t s.0 (taken_of x.state s.0) (λ a has. formed.taken s.0 a has) claimed

  pub claimed-entered_as : (e : ℕ) (p : ProcNo) (a : ActNo) (entry : Entry C) (x : Scene C) (t : ℕ) → p.0 < length x.state.lives → x.state.acts a.0 ≡ None
      → x.state.telling ≡ [] → IsFormed x.state → AreClaimed x.state t → IsClaimed (entered_as e p a entry x).state
  claimed-entered_as e p a (Interrupt held) x t within unused empty formed claimed = claimed-interrupted e p a held x t within unused empty formed claimed
  claimed-entered_as e p a (Block held len page) x t within unused empty formed claimed =
      claimed-blocked e p a (owner_of x.state p) (life_of x.state p) held len page x t refl refl within unused empty formed claimed
  claimed-entered_as e p a (Complete io) x t within unused empty formed claimed = record {
    told_to = t;
    once = claimed-over e p io (io_at io.0 x.state.under_way) x t refl formed claimed;
  }
  claimed-entered_as e p a (More n) x t within unused empty formed claimed = record { told_to = t; once = claimed-more e p n (owner_of x.state p) x t claimed }
  claimed-entered_as e p a Idle x t within unused empty formed claimed = record { told_to = t; once = claimed-idled e p (owner_of x.state p) x t claimed }
  claimed-entered_as e p a GiveBack x t within unused empty formed claimed = record {
    told_to = t;
    once = claimed-gave_back e p (owner_of x.state p) x t formed claimed;
  }
  claimed-entered_as e p a (InterruptOwn q) x t within unused empty formed claimed = record { told_to = t; once = claimed }

  pub upcalled-entered_as : (e : ℕ) (p : ProcNo) (a : ActNo) (entry : Entry C) (x : Scene C) (t : ℕ) → upcalls x.state p entry ≡ true
      → p.0 < length x.state.lives → x.state.acts a.0 ≡ None → x.state.telling ≡ [] → IsFormed x.state → AreClaimed x.state t
      → IsUpcalled (entered_as e p a entry x).state p a
  upcalled-entered_as e p a (Interrupt held) x t up within unused empty formed claimed =
      upcalled-interrupted e p a held x t within up unused empty formed claimed
  upcalled-entered_as e p a (Block held len page) x t up within unused empty formed claimed =
      upcalled-blocked e p a (owner_of x.state p) (life_of x.state p) held len page x t refl refl up within unused empty formed claimed
  upcalled-entered_as e p a (Complete io) x t up within unused empty formed claimed = absurd cc
  upcalled-entered_as e p a (More n) x t up within unused empty formed claimed = absurd cc
  upcalled-entered_as e p a Idle x t up within unused empty formed claimed = absurd cc
  upcalled-entered_as e p a GiveBack x t up within unused empty formed claimed = absurd cc
  upcalled-entered_as e p a (InterruptOwn q) x t up within unused empty formed claimed = absurd cc

  -- the closing changes aims, lines and demands alone
  pub record Stays (k : KernelState C) (y : Scene C) : Type 0 where
    pub owners : y.state.assign.owners ≡ k.assign.owners
    pub lives : y.state.lives ≡ k.lives
    pub acts : y.state.acts ≡ k.acts
    pub taken : y.state.taken ≡ k.taken
    pub untold : y.state.untold ≡ k.untold
    pub telling : y.state.telling ≡ k.telling
    pub under_way : y.state.under_way ≡ k.under_way

  stays-want_one : (k : KernelState C) (e : ℕ) (p : ProcNo) (b : Bool) (s : ℕ) (x : Scene C) → Stays k x → Stays k (want_one e p b s x)
  stays-want_one k e p false s x h = h
  stays-want_one k e p true s x h =
      record { owners = h.owners; lives = h.lives; acts = h.acts; taken = h.taken; untold = h.untold; telling = h.telling; under_way = h.under_way }

  stays-interrupt : (k : KernelState C) (e : ℕ) (p : ProcNo) (q : Option ℕ) (x : Scene C) → Stays k x → Stays k (interrupt e p q x)
  stays-interrupt k e p None x h = h
  stays-interrupt k e p (Some q) x h =
      record { owners = h.owners; lives = h.lives; acts = h.acts; taken = h.taken; untold = h.untold; telling = h.telling; under_way = h.under_way }

  stays-interrupt_one : (k : KernelState C) (e : ℕ) (p : ProcNo) (b : Bool) (s : ℕ) (x : Scene C) → Stays k x → Stays k (interrupt_one e p b s x)
  stays-interrupt_one k e p false s x h = h
  stays-interrupt_one k e p true s x h = stays-interrupt k e p (least_below (length x.state.lives) (has_low_line x.state s)) x h

  pub stays-closed : (e : ℕ) (p : ProcNo) (x : Scene C) → Stays x.state (closed e p x)
  stays-closed e p x =
      let k = x.state in
      let w = wants e p x in
      let here : Stays k x = record { owners = refl; lives = refl; acts = refl; taken = refl; untold = refl; telling = refl; under_way = refl } in
      let h : Stays k w = for_spaces-keeps (Stays k) (want_for e p) (λ s y h. stays-want_one k e p (must_want y.state s) s y h) 0 (spaces k) x here in
      let aimed : Stays k (aims e p w) = record {
        owners = h.owners;
        lives = h.lives;
        acts = h.acts;
        taken = h.taken;
        untold = h.untold;
        telling = h.telling;
        under_way = h.under_way;
      } in
      for_spaces-keeps (Stays k) (interrupt_for e p) (λ s y h. stays-interrupt_one k e p (must_interrupt y.state s) s y h) 0 (spaces (aims e p w).state)
      (aims e p w) aimed

  pub claimed-closed : (e : ℕ) (p : ProcNo) (x : Scene C) (t : ℕ) → AreClaimed x.state t → AreClaimed (closed e p x).state t
  claimed-closed e p x t claimed =
      let h = stays-closed e p x in
      let P : List Io → List (List Note) → List Note → (ℕ → Option (Act C)) → Type 0 = λ ios untold telling acts. Claims ios untold telling acts t in
      let k = x.state in
      let y = (closed e p x).state in
      let one : P y.under_way k.untold k.telling k.acts = subst (λ v. P v k.untold k.telling k.acts) (sym h.under_way) claimed in
      let two : P y.under_way y.untold k.telling k.acts = subst (λ v. P y.under_way v k.telling k.acts) (sym h.untold) one in
      let three : P y.under_way y.untold y.telling k.acts = subst (λ v. P y.under_way y.untold v k.acts) (sym h.telling) two in
      subst (λ v. P y.under_way y.untold y.telling v) (sym h.acts) three

  pub upcalled-closed : (e : ℕ) (p : ProcNo) (x : Scene C) (q : ProcNo) (a : ActNo) → IsUpcalled x.state q a → IsUpcalled (closed e p x).state q a
  upcalled-closed e p x q a up =
      let h = stays-closed e p x in record {
        space = up.space;
        owner = ap (λ (os : List (Option SpaceNo)). get_or os q.0 None) h.owners ∙ up.owner;
        life = ap (λ (ls : List (Option ActNo)). get_or ls q.0 None) h.lives ∙ up.life;
        act = ap (λ (acts : ℕ → Option (Act C)). acts a.0) h.acts ∙ up.act;
        told = claimed-closed e p x up.space.0 up.told;
      }

  -- the next notice is fetched
  claimed-handed : (o : Option (Stopped C)) (note : Note) (a : ActNo) (notes : List Note) (k : KernelState C) (t : ℕ) → held_of (k.acts a.0) ≡ o
      → ((b : ℕ) → note_claim b note ≡ bit_of (eqb b a.0)) → Claims k.under_way k.untold (note ∷ notes) k.acts t
      → AreClaimed (handed_by o a (record k { telling = notes })) t
  claimed-handed None note a notes k t none hands claims =
      absurd (let some = held-next k.under_way k.untold note notes k.acts t a.0 (hands a.0 ∙ ap bit_of (eq-eqb a.0 a.0 refl)) claims in
      let no = held-none (k.acts a.0) t none in omega arith)
  claimed-handed (Some h) note a notes k t is hands claims = claims-handed k.under_way k.untold note notes k.acts t a.0 hands claims

  claimed-fetched : (note : Note) (notes : List Note) (k : KernelState C) (t : ℕ) → Claims k.under_way k.untold (note ∷ notes) k.acts t
      → AreClaimed (fetched note (record k { telling = notes })) t
  claimed-fetched (Add p) notes k t claims = claims-passed k.under_way k.untold (Add p) notes k.acts t (λ b. refl) claims
  claimed-fetched (Blocked a) notes k t claims = claims-passed k.under_way k.untold (Blocked a) notes k.acts t (λ b. refl) claims
  claimed-fetched (Preempted a) notes k t claims = claimed-handed (held_of (k.acts a.0)) (Preempted a) a notes k t refl (λ b. refl) claims
  claimed-fetched (Unblocked a) notes k t claims = claimed-handed (held_of (k.acts a.0)) (Unblocked a) a notes k t refl (λ b. refl) claims

  pub claimed-after_fetch : (notes : List Note) (k : KernelState C) (t : ℕ) → notes ≡ k.telling → AreClaimed k t → AreClaimed (after_fetch notes k) t
  claimed-after_fetch [] k t is claimed = claimed
  claimed-after_fetch (note ∷ notes) k t is claimed =
      claimed-fetched note notes k t (subst (λ ns. Claims k.under_way k.untold ns k.acts t) (sym is) claimed)
