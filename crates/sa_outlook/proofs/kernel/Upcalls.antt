-- Entries that may upcall keep kernels alike, and what the upcalls tell is the same without its numbers.
use Rattle.std.proofs.Common.{◌≡◌, ◌≢◌, ℕ, ◌+◌, ◌<◌, Bool, true, false, cond, eqb, Option, Some, None, is_some, List, [], ◌∷◌, ◌++◌, length, sum_by, get_or, slice_set, refl, sym, ap, subst, ◌∙◌, arith}
use Rattle.std.proofs.lemmas.Bool.{cond-true, eq-eqb}
use Rattle.std.proofs.lemmas.List.{length-set, length-append}
use Rattle.std.proofs.lemmas.Option.{same_Some}
use Rattle.sa_base.specs.declared.number.ProcNo.{ProcNo}
use Rattle.sa_base.specs.declared.number.SpaceNo.{SpaceNo}
use Rattle.sa_base.specs.declared.number.ActNo.{ActNo}
use Rattle.sa_base.specs.declared.record.Note.{Note}
use Rattle.sa_base.specs.declared.record.Note.TheVariants.{Add, Preempted, Blocked, Unblocked}
use Rattle.sa_base.specs.declared.context.Stopped.{Stopped}
use Rattle.sa_base.specs.Pages.{has_page}
use Rattle.sa_lemmas.proofs.FunctionUpdates.{put-same, put-other}
use Rattle.sa_acts.specs.declared.acts.Act.{Act}
use Rattle.sa_acts.specs.Table.{runs_in, held_of, taken_from, space_of}
use Rattle.sa_assign.specs.Aims.{is_aim}
use Rattle.sa_kernel_model.specs.State.{KernelState, Scene, owner_of, aim_of, life_of, untold_of, taken_of, can_upcall}
use Rattle.sa_kernel_model.specs.Parts.{with_line, go_to_by, go_to}
use Rattle.sa_kernel_model.specs.Entries.{stopped, go_to_aim, interrupted, told_or_left, block_begun, blocked_by, blocked, handed_over, handed_by, fetched, after_fetch}
use Rattle.sa_kernel_model.specs.Closing.{closed}
use Rattle.sa_kernel_model.specs.Enters.{upcalls_for, upcalls_in}
use Rattle.sa_kernel_model.specs.Sound.{note_claim, io_claim, AreClaimed, IsFormed}
use Rattle.sa_kernel_model.proofs.sound.Formed.{formed-line, unused-after, owner-moved}
use Rattle.sa_kernel_model.proofs.sound.Held.{runs-here, pages-stopped, stays-closed, claimed-after_fetch}
use Rattle.sa_core_model.proofs.Calls.{next-kept, held-for}
use Rattle.sa_assign.specs.AssignView.{AssignView}
use Rattle.sa_kernel_model.proofs.sound.Claims.{held-none}
use Rattle.sa_outlook.specs.Nameless.{nameless_note, nameless_notes}
use Rattle.sa_outlook.specs.DueOrder.{in_order}
use Rattle.sa_outlook.specs.Outlook.{held_by}
use Rattle.sa_outlook.proofs.ios.WholeLists.{sum-order}
use Rattle.sa_outlook.proofs.ListsAlike.{each-set}
use Rattle.sa_outlook.proofs.Alike.{told_notes, AlikeKernels, IsUnclaimed}
use Rattle.sa_outlook.proofs.kernel.HeldContexts.{notes-other, ios-other}
use Rattle.sa_outlook.proofs.kernel.Parts.{unclaimed, alike-line}
use Rattle.sa_outlook.proofs.kernel.Closings.{AlikeScenes}
use Rattle.sa_outlook.proofs.kernel.Entries.{CanStop, AlikeStops, stopped-alike, block-alike, told_or_left-alike, go_to-alike, go-told, upcall-told, owned-alike, aimed-alike, can_upcall-alike}

-- a test as a number
abbrev bit : Bool → ℕ
bit b = cond b 1 0

-- a stop leaves owners, aims and lines
pub stopped-assign : {C : Type 0} (e : ℕ) (p : ProcNo) (o : Option SpaceNo) (l : Option ActNo) (h : Option (Stopped C)) (x : Scene C)
    → (stopped e p o l h x).state.assign ≡ x.state.assign
stopped-assign e p None l h x = refl
stopped-assign e p (Some s) None h x = refl
stopped-assign e p (Some s) (Some a) None x = refl
stopped-assign e p (Some s) (Some a) (Some i) x = refl

module _ {C D : Type 0} (look : ℕ → C → D) where
  can-stop : (k : KernelState C) (t : ℕ) (p : ProcNo) → IsFormed k → AreClaimed k t → CanStop look k (owner_of k p) (life_of k p)
  can-stop k t p formed claimed s a owner life =
      let runs = runs-here k p s a owner life formed in
      record { runs = runs; free = unclaimed look k t a.0 claimed (ap (λ (x : Option (Act C)). held_of x) runs) }

  -- what the space that owns the processor was told is the same
  abbrev pub ToldAlike : ProcNo → KernelState C → KernelState C → Type 0
  ToldAlike p k l = (s : SpaceNo) → owner_of k p ≡ Some s → told_notes look k s.0 ≡ told_notes look l s.0

  pub told-closed : (e g : ℕ) (p : ProcNo) (x y : Scene C) → ToldAlike p x.state y.state → ToldAlike p (closed e p x).state (closed g p y).state
  told-closed e g p x y told s owner =
      let h = stays-closed e p x in
      let i = stays-closed g p y in
      let was : owner_of x.state p ≡ Some s = ap (λ (os : List (Option SpaceNo)). get_or os p.0 None) (sym h.owners) ∙ owner in
      same (closed e p x).state x.state s.0 h.telling h.acts ∙ told s was ∙ sym (same (closed g p y).state y.state s.0 i.telling i.acts)
    where
      same : (k l : KernelState C) (t : ℕ) → k.telling ≡ l.telling → k.acts ≡ l.acts → told_notes look k t ≡ told_notes look l t
      same k l t notes acts =
          ap (λ (ns : List Note). nameless_notes look t (held_by k) ns) notes
          ∙ ap (λ (fs : ℕ → Option (Act C)). nameless_notes look t (λ n. held_of (fs n)) l.telling) acts

  -- AN INTERRUPT

  aim-alike : (e g : ℕ) (p : ProcNo) (a b : ActNo) (aim : Option SpaceNo) (x y : Scene C) → x.state.acts a.0 ≡ None → y.state.acts b.0 ≡ None
      → AlikeScenes look e g x y → AlikeScenes look e g (go_to_aim e p a aim x) (go_to_aim g p b aim y)
  aim-alike e g p a b None x y none_a none_b was = was
  aim-alike e g p a b (Some s) x y none_a none_b was = go_to-alike look e g p s a b x y none_a none_b was

  aim-told : (e g : ℕ) (p : ProcNo) (a b : ActNo) (aim : Option SpaceNo) (x y : Scene C) → p.0 < length x.state.assign.owners
      → x.state.acts a.0 ≡ None → y.state.acts b.0 ≡ None → upcalls_for x.state aim ≡ true → AlikeScenes look e g x y
      → ToldAlike p (go_to_aim e p a aim x).state (go_to_aim g p b aim y).state
  aim-told e g p a b None x y within none_a none_b up was = absurd cc
  aim-told e g p a b (Some s) x y within none_a none_b up was =
      let owned : Bool = is_aim s.0 (owner_of x.state p) in
      let o : is_aim s.0 (owner_of y.state p) ≡ owned = ap (is_aim s.0) (sym (owned-alike look e g x.state y.state was p)) in
      let up_y : can_upcall y.state s ≡ true = sym (can_upcall-alike look e g x.state y.state was s) ∙ up in
      let made : go_to_by e p s a owned true x ≡ go_to e p s a x = ap (λ (c : Bool). go_to_by e p s a owned c x) (sym up) in
      let also : go_to_by g p s b owned true y ≡ go_to g p s b y =
      ap (λ (c : Bool). go_to_by g p s b owned c y) (sym up_y) ∙ ap (λ (c : Bool). go_to_by g p s b c (can_upcall y.state s) y) (sym o) in
      let here : ToldAlike p (go_to_by e p s a owned true x).state (go_to_by g p s b owned true y).state = λ t owner.
      subst (λ (u : SpaceNo). told_notes look (go_to_by e p s a owned true x).state u.0 ≡ told_notes look (go_to_by g p s b owned true y).state u.0)
      (same_Some s t (sym (owner-moved e p s owned x refl within) ∙ owner))
      (go-told look e g p s a b owned x y none_a none_b was) in
      subst (λ (z : Scene C). ToldAlike p z.state (go_to g p s b y).state) made
      (subst (λ (z : Scene C). ToldAlike p (go_to_by e p s a owned true x).state z.state) also here)

  -- a kernel before an entry: it is formed, its contexts are claimed, and the number is not in use
  pub record IsReady (k : KernelState C) (p : ProcNo) (a : ActNo) : Type 0 where
    pub formed : IsFormed k
    pub told_to : ℕ
    pub claimed : AreClaimed k told_to
    pub unused : k.acts a.0 ≡ None
    pub within : p.0 < length k.lives

  -- the scene after the context was stopped
  abbrev at_stop : ℕ → ProcNo → Option (Stopped C) → Scene C → Scene C
  at_stop e p h x = stopped e p (owner_of x.state p) (life_of x.state p) h (record x { state = with_line p None x.state })

  at_stop-alike : (e g : ℕ) (p : ProcNo) (a b : ActNo) (h i : Option (Stopped C)) (x y : Scene C) → IsReady x.state p a → IsReady y.state p b
      → AlikeStops look (owner_of x.state p) h i → AlikeScenes look e g x y → AlikeScenes look e g (at_stop e p h x) (at_stop g p i y)
  at_stop-alike e g p a b h i x y at bt held was =
      let k : KernelState C = with_line p None x.state in
      let l : KernelState C = with_line p None y.state in
      let own = owned-alike look e g x.state y.state was p in
      let low : AlikeKernels look e g k l = alike-line look e g x.state y.state p None None refl was in
      let stop_l : CanStop look l (owner_of x.state p) (life_of y.state p) =
      subst (λ (o : Option SpaceNo). CanStop look l o (life_of y.state p)) (sym own)
      (can-stop l bt.told_to p (formed-line p None y.state bt.formed) bt.claimed) in
      subst (λ (o : Option SpaceNo). AlikeScenes look e g (at_stop e p h x) (stopped g p o (life_of y.state p) i (record y { state = l }))) own
      (stopped-alike look e g p (owner_of x.state p) (life_of x.state p) (life_of y.state p) h i (record x { state = k }) (record y { state = l })
      (was.live p.0) (can-stop k at.told_to p (formed-line p None x.state at.formed) at.claimed) stop_l held low)

  at_stop-unused : (e : ℕ) (p : ProcNo) (a : ActNo) (h : Option (Stopped C)) (x : Scene C) → IsReady x.state p a → (at_stop e p h x).state.acts a.0 ≡ None
  at_stop-unused e p a h x at =
      unused-after e p (owner_of x.state p) (life_of x.state p) h (record x { state = with_line p None x.state }) a.0 refl
      (formed-line p None x.state at.formed) at.unused

  pub interrupted-alike : (e g : ℕ) (p : ProcNo) (a b : ActNo) (h i : Option (Stopped C)) (x y : Scene C) → IsReady x.state p a → IsReady y.state p b
      → AlikeStops look (owner_of x.state p) h i → AlikeScenes look e g x y → AlikeScenes look e g (interrupted e p a h x) (interrupted g p b i y)
  interrupted-alike e g p a b h i x y at bt held was =
      subst (λ (o : Option SpaceNo). AlikeScenes look e g (interrupted e p a h x) (go_to_aim g p b o (at_stop g p i y)))
      (aimed-alike look e g x.state y.state was p)
      (aim-alike e g p a b (aim_of x.state p) (at_stop e p h x) (at_stop g p i y) (at_stop-unused e p a h x at) (at_stop-unused g p b i y bt)
      (at_stop-alike e g p a b h i x y at bt held was))

  upcalls-pages : (k l : KernelState C) (aim : Option SpaceNo) → l.pages ≡ k.pages → upcalls_for l aim ≡ upcalls_for k aim
  upcalls-pages k l None e = refl
  upcalls-pages k l (Some s) e = ap (λ (ps : List ℕ). has_page (get_or ps s.0 0) 0) e

  pub interrupted-told : (e g : ℕ) (p : ProcNo) (a b : ActNo) (h i : Option (Stopped C)) (x y : Scene C) → IsReady x.state p a → IsReady y.state p b
      → AlikeStops look (owner_of x.state p) h i → upcalls_for x.state (aim_of x.state p) ≡ true → AlikeScenes look e g x y
      → ToldAlike p (interrupted e p a h x).state (interrupted g p b i y).state
  interrupted-told e g p a b h i x y at bt held up was =
      let low : Scene C = record x { state = with_line p None x.state } in
      let assign = stopped-assign e p (owner_of x.state p) (life_of x.state p) h low in
      let size : length (at_stop e p h x).state.assign.owners ≡ length x.state.lives =
      ap (λ (z : AssignView). length z.owners) assign ∙ at.formed.sizes.owners in
      let up_now : upcalls_for (at_stop e p h x).state (aim_of x.state p) ≡ true =
      upcalls-pages x.state (at_stop e p h x).state (aim_of x.state p) (pages-stopped e p (owner_of x.state p) (life_of x.state p) h low) ∙ up in
      subst (λ (o : Option SpaceNo). ToldAlike p (interrupted e p a h x).state (go_to_aim g p b o (at_stop g p i y)).state)
      (aimed-alike look e g x.state y.state was p)
      (aim-told e g p a b (aim_of x.state p) (at_stop e p h x) (at_stop g p i y) (omega (arith, size, at.within))
      (at_stop-unused e p a h x at) (at_stop-unused g p b i y bt) up_now (at_stop-alike e g p a b h i x y at bt held was))

  -- A BLOCK

  unused-begun : (e : ℕ) (p : ProcNo) (s : SpaceNo) (a n : ActNo) (h : Stopped C) (len : ℕ) (page : Option ℕ) (x : Scene C)
      → x.state.acts a.0 ≡ Some (runs_in s) → x.state.acts n.0 ≡ None → (block_begun e p s a h len page x).state.acts n.0 ≡ None
  unused-begun e p s a n h len page x runs none =
      put-other x.state.acts a.0 n.0 _ (λ same. (let z : x.state.acts n.0 ≡ Some (runs_in s) = ap x.state.acts same ∙ runs in cc)) ∙ none

  blocked-both : (e g : ℕ) (p : ProcNo) (a b : ActNo) (o : Option SpaceNo) (c d : Option ActNo) (h i : Stopped C) (n : ℕ) (page : Option ℕ) (x y : Scene C)
      → is_some c ≡ is_some d → CanStop look x.state o c → CanStop look y.state o d → x.state.acts a.0 ≡ None → y.state.acts b.0 ≡ None
      → AlikeStops look o (Some h) (Some i) → AlikeScenes look e g x y
      → AlikeScenes look e g (blocked_by e p a o c h n page x) (blocked_by g p b o d i n page y)
      × (upcalls_in x.state o c ≡ true → o ≡ owner_of x.state p → ToldAlike p (blocked_by e p a o c h n page x).state (blocked_by g p b o d i n page y).state)
  blocked-both e g p a b (Some s) None (Some d) h i n page x y live stop_x stop_y none_a none_b held was = absurd cc
  blocked-both e g p a b (Some s) (Some c) None h i n page x y live stop_x stop_y none_a none_b held was = absurd cc
  blocked-both e g p a b (Some s) (Some c) (Some d) h i n page x y live stop_x stop_y none_a none_b held was =
      let at = stop_x s c refl refl in
      let bt = stop_y s d refl refl in
      let new_x : Scene C = block_begun e p s c h n page x in
      let new_y : Scene C = block_begun g p s d i n page y in
      let begun_alike : AlikeScenes look e g new_x new_y = block-alike look e g p s c d h i n page x y at bt (held s refl) was in
      let free_x = unused-begun e p s c a h n page x at.runs none_a in
      let free_y = unused-begun g p s d b i n page y bt.runs none_b in
      let can = can_upcall-alike look e g x.state y.state was s in (
        subst (λ (z : Bool). AlikeScenes look e g (told_or_left e p s a (can_upcall x.state s) new_x) (told_or_left g p s b z new_y)) can
            (told_or_left-alike look e g p s a b (can_upcall x.state s) new_x new_y free_x free_y begun_alike),
        λ up is. subst (λ (z : Bool). ToldAlike p (told_or_left e p s a z new_x).state (told_or_left g p s b (can_upcall y.state s) new_y).state) (sym up)
            (subst (λ (z : Bool). ToldAlike p (told_or_left e p s a true new_x).state (told_or_left g p s b z new_y).state) (sym (sym can ∙ up))
            (λ t owner. subst (λ (u : SpaceNo). told_notes look (told_or_left e p s a true new_x).state u.0
            ≡ told_notes look (told_or_left g p s b true new_y).state u.0)
            (same_Some s t (is ∙ owner)) (upcall-told look e g p s a b false new_x new_y free_x free_y begun_alike))),
      )
  blocked-both e g p a b _ _ _ h i n page x y live stop_x stop_y none_a none_b held was = (was, λ up is. absurd cc)

  pub blocked-alike : (e g : ℕ) (p : ProcNo) (a b : ActNo) (h i : Stopped C) (n : ℕ) (page : Option ℕ) (x y : Scene C) → IsReady x.state p a
      → IsReady y.state p b
      → AlikeStops look (owner_of x.state p) (Some h) (Some i) → AlikeScenes look e g x y
      → AlikeScenes look e g (blocked e p a h n page x) (blocked g p b i n page y)
      × (upcalls_in x.state (owner_of x.state p) (life_of x.state p) ≡ true → ToldAlike p (blocked e p a h n page x).state (blocked g p b i n page y).state)
  blocked-alike e g p a b h i n page x y at bt held was =
      let own = owned-alike look e g x.state y.state was p in
      let stop_y : CanStop look y.state (owner_of x.state p) (life_of y.state p) =
      subst (λ (o : Option SpaceNo). CanStop look y.state o (life_of y.state p)) (sym own) (can-stop y.state bt.told_to p bt.formed bt.claimed) in
      let both = blocked-both e g p a b (owner_of x.state p) (life_of x.state p) (life_of y.state p) h i n page x y (was.live p.0)
      (can-stop x.state at.told_to p at.formed at.claimed) stop_y at.unused bt.unused held was in (
        subst (λ (o : Option SpaceNo). AlikeScenes look e g (blocked e p a h n page x) (blocked_by g p b o (life_of y.state p) i n page y)) own both.0,
        λ up. subst (λ (o : Option SpaceNo). ToldAlike p (blocked e p a h n page x).state (blocked_by g p b o (life_of y.state p) i n page y).state) own
            (both.1 up refl),
      )

  -- A NOTICE IS FETCHED

  -- after it was handed over, nothing claims a context any more
  pub record IsHanded (k : KernelState C) (s a : ℕ) (notes : List Note) : Type 0 where
    pub context : Stopped C
    pub held : held_of (k.acts a) ≡ Some context
    pub space : (space_of (k.acts a)).0 ≡ s
    pub free : IsUnclaimed k a
    pub rest : sum_by (note_claim a) notes ≡ 0

  held-taken : (x : Option (Act C)) → held_of (taken_from x) ≡ None
  held-taken None = refl
  held-taken (Some y) = refl

  handed-at : (k : KernelState C) (s : ℕ) (a : ActNo) (note : Note) (notes : List Note) → k.telling ≡ note ∷ notes → note_claim a.0 note ≡ 1 → AreClaimed k s
      → after_fetch (note ∷ notes) k ≡ handed_by (held_of (k.acts a.0)) a (record k { telling = notes }) → IsHanded k s a.0 notes
  handed-at k s a note notes is one claimed hands =
      let kept = next-kept s note notes a.0 k is one claimed in
      let held = held-for s (k.acts a.0) kept in
      let j : KernelState C = handed_over a (record k { telling = notes }) in
      let same : after_fetch (note ∷ notes) k ≡ j = hands ∙ ap (λ (o : Option (Stopped C)). handed_by o a (record k { telling = notes })) held in
      let claimed_j : AreClaimed j s =
      subst (λ (z : KernelState C). AreClaimed z s) same (claimed-after_fetch (note ∷ notes) k s (sym is) claimed) in
      let none : held_of (j.acts a.0) ≡ None =
      ap (λ (x : Option (Act C)). held_of x) (put-same k.acts a.0 (taken_from (k.acts a.0))) ∙ held-taken (k.acts a.0) in
      let free = unclaimed look j s a.0 claimed_j none in
      let own = claimed_j s a.0 in
      let zero_held = held-none (j.acts a.0) s none in
      let told = cond-true (eqb s s) (sum_by (note_claim a.0) notes) 0 (eq-eqb s s refl) in
      record {
        context = kept.stopped;
        held = held;
        space = ap (λ (x : Option (Act C)). (space_of x).0) kept.is ∙ kept.space;
        free = record { untold = free.untold; ios = free.ios };
        rest = omega arith;
      }

  handed-alike : (e g : ℕ) (k l : KernelState C) (s : ℕ) (a b : ActNo) (notes others : List Note) → IsHanded k s a.0 notes → IsHanded l s b.0 others
      → AlikeKernels look e g k l → AlikeKernels look e g (handed_over a (record k { telling = notes })) (handed_over b (record l { telling = others }))
  handed-alike e g k l s a b notes others at bt was =
      let k2 : KernelState C = handed_over a (record k { telling = notes }) in
      let l2 : KernelState C = handed_over b (record l { telling = others }) in
      let os_k : (n : ℕ) → n ≢ a.0 → held_by k2 n ≡ held_by k n =
      λ n apart. ap (λ (x : Option (Act C)). held_of x) (put-other k.acts a.0 n (taken_from (k.acts a.0)) apart) in
      let os_l : (n : ℕ) → n ≢ b.0 → held_by l2 n ≡ held_by l n =
      λ n apart. ap (λ (x : Option (Act C)). held_of x) (put-other l.acts b.0 n (taken_from (l.acts b.0)) apart) in
      let u : ℕ = (space_of (k.acts a.0)).0 in
      let v : ℕ = (space_of (l.acts b.0)).0 in
      let same : u ≡ v = at.space ∙ sym bt.space in
      let more : length (taken_of k u ++ a ∷ []) ≡ length (taken_of l u ++ b ∷ []) =
      length-append (taken_of k u) (a ∷ []) ∙ ap (λ (n : ℕ). n + 1) (was.taken u) ∙ sym (length-append (taken_of l u) (b ∷ [])) in
      let new : (t : ℕ) → length (get_or (slice_set k.taken u (taken_of k u ++ a ∷ [])) t [])
      ≡ length (get_or (slice_set l.taken u (taken_of l u ++ b ∷ [])) t []) =
      each-set (λ (t : ℕ) (xs ys : List ActNo). length xs ≡ length ys) [] [] k.taken l.taken u (taken_of k u ++ a ∷ [])
      (taken_of l u ++ b ∷ []) was.takers more was.taken in
      record {
        fixed = was.fixed;
        owners = was.owners;
        aims = was.aims;
        raised = was.raised;
        lines = was.lines;
        marks = was.marks;
        live = was.live;
        lives = was.lives;
        taken = subst (λ (n : ℕ). (t : ℕ) → length (get_or (slice_set k.taken u (taken_of k u ++ a ∷ [])) t [])
            ≡ length (get_or (slice_set l.taken n (taken_of l n ++ b ∷ [])) t [])) same new;
        takers = length-set k.taken u (taken_of k u ++ a ∷ []) ∙ was.takers ∙ sym (length-set l.taken v (taken_of l v ++ b ∷ []));
        demands = was.demands;
        untold = λ t. notes-other look (held_by k2) (held_by k) a.0 t (untold_of k t) os_k (at.free.untold t) ∙ was.untold t
            ∙ sym (notes-other look (held_by l2) (held_by l) b.0 t (untold_of l t) os_l (bt.free.untold t));
        spaces = was.spaces;
        ios = ios-other look e (held_by k2) (held_by k) a.0 (in_order k.under_way) os_k (λ t. sum-order (io_claim t a.0) k.under_way ∙ at.free.ios t) ∙ was.ios
            ∙ sym (ios-other look g (held_by l2) (held_by l) b.0 (in_order l.under_way) os_l (λ t. sum-order (io_claim t b.0) l.under_way ∙ bt.free.ios t));
        pages = was.pages;
        first = was.first;
      }

  handed-notes : (k l : KernelState C) (s : ℕ) (a b : ActNo) (notes others : List Note) → IsHanded k s a.0 notes → IsHanded l s b.0 others
      → nameless_notes look s (held_by k) notes ≡ nameless_notes look s (held_by l) others
      → told_notes look (handed_over a (record k { telling = notes })) s ≡ told_notes look (handed_over b (record l { telling = others })) s
  handed-notes k l s a b notes others at bt same =
      let k2 : KernelState C = handed_over a (record k { telling = notes }) in
      let l2 : KernelState C = handed_over b (record l { telling = others }) in
      notes-other look (held_by k2) (held_by k) a.0 s notes
      (λ n apart. ap (λ (x : Option (Act C)). held_of x) (put-other k.acts a.0 n (taken_from (k.acts a.0)) apart)) at.rest
      ∙ same
      ∙ sym (notes-other look (held_by l2) (held_by l) b.0 s others
      (λ n apart. ap (λ (x : Option (Act C)). held_of x) (put-other l.acts b.0 n (taken_from (l.acts b.0)) apart)) bt.rest)

  both-handed : (e g : ℕ) (k l : KernelState C) (s : ℕ) (a b : ActNo) (notes others : List Note) → IsHanded k s a.0 notes → IsHanded l s b.0 others
      → nameless_notes look s (held_by k) notes ≡ nameless_notes look s (held_by l) others → AlikeKernels look e g k l
      → AlikeKernels look e g (handed_by (held_of (k.acts a.0)) a (record k { telling = notes }))
      (handed_by (held_of (l.acts b.0)) b (record l { telling = others }))
      × (told_notes look (handed_by (held_of (k.acts a.0)) a (record k { telling = notes })) s
      ≡ told_notes look (handed_by (held_of (l.acts b.0)) b (record l { telling = others })) s)
  both-handed e g k l s a b notes others at bt same was =
      let j : KernelState C = record k { telling = notes } in
      let i : KernelState C = record l { telling = others } in
      subst (λ (o : Option (Stopped C)). AlikeKernels look e g (handed_by o a j) (handed_by (held_of (l.acts b.0)) b i)
      × (told_notes look (handed_by o a j) s ≡ told_notes look (handed_by (held_of (l.acts b.0)) b i) s)) (sym at.held)
      (subst (λ (o : Option (Stopped C)). AlikeKernels look e g (handed_over a j) (handed_by o b i)
      × (told_notes look (handed_over a j) s ≡ told_notes look (handed_by o b i) s))
      (sym bt.held) (handed-alike e g k l s a b notes others at bt was, handed-notes k l s a b notes others at bt same))

  one-claim : (n : ℕ) → bit (eqb n n) ≡ 1
  one-claim n = ap bit (eq-eqb n n refl)

  passed-alike : (e g : ℕ) (k l : KernelState C) (notes others : List Note) → AlikeKernels look e g k l
      → AlikeKernels look e g (record k { telling = notes }) (record l { telling = others })
  passed-alike e g k l notes others was = record {
    fixed = was.fixed;
    owners = was.owners;
    aims = was.aims;
    raised = was.raised;
    lines = was.lines;
    marks = was.marks;
    live = was.live;
    lives = was.lives;
    taken = was.taken;
    takers = was.takers;
    demands = was.demands;
    untold = was.untold;
    spaces = was.spaces;
    ios = was.ios;
    pages = was.pages;
    first = was.first;
  }

  pub fetched-alike : (e g : ℕ) (k l : KernelState C) (s : ℕ) (note other : Note) (notes others : List Note) → k.telling ≡ note ∷ notes
      → l.telling ≡ other ∷ others
      → AreClaimed k s → AreClaimed l s → nameless_note look s (held_by k) note ≡ nameless_note look s (held_by l) other
      → nameless_notes look s (held_by k) notes ≡ nameless_notes look s (held_by l) others → AlikeKernels look e g k l
      → AlikeKernels look e g (fetched note (record k { telling = notes })) (fetched other (record l { telling = others }))
      × (told_notes look (fetched note (record k { telling = notes })) s ≡ told_notes look (fetched other (record l { telling = others })) s)
  fetched-alike e g k l s (Add p) (Add q) notes others is_k is_l ck cl head rest was = (passed-alike e g k l notes others was, rest)
  fetched-alike e g k l s (Blocked a) (Blocked b) notes others is_k is_l ck cl head rest was = (passed-alike e g k l notes others was, rest)
  fetched-alike e g k l s (Preempted a) (Preempted b) notes others is_k is_l ck cl head rest was =
      both-handed e g k l s a b notes others (handed-at k s a (Preempted a) notes is_k (one-claim a.0) ck refl)
      (handed-at l s b (Preempted b) others is_l (one-claim b.0) cl refl) rest was
  fetched-alike e g k l s (Unblocked a) (Unblocked b) notes others is_k is_l ck cl head rest was =
      both-handed e g k l s a b notes others (handed-at k s a (Unblocked a) notes is_k (one-claim a.0) ck refl)
      (handed-at l s b (Unblocked b) others is_l (one-claim b.0) cl refl) rest was
  fetched-alike e g k l s _ _ notes others is_k is_l ck cl head rest was = absurd cc
