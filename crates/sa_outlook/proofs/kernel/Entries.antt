-- Entries without an upcall keep kernels alike, and so does each part of one that may upcall.
use Rattle.std.proofs.Common.{◌≡◌, ℕ, suc, ◌+◌, ◌-◌, Bool, true, false, not, Option, Some, None, option_map, is_some, List, [], ◌∷◌, length, map, get_or, slice_set, Contains, refl, sym, ap, subst, ◌∙◌, inl, inr, arith}
use Rattle.std.proofs.Math.Path.{fun_ext}
use Rattle.std.proofs.lemmas.Bool.{cases_eq}
use Rattle.std.proofs.lemmas.List.{length-set}
use Rattle.sa_base.specs.declared.number.ProcNo.{ProcNo}
use Rattle.sa_base.specs.declared.number.SpaceNo.{SpaceNo}
use Rattle.sa_base.specs.declared.number.ActNo.{ActNo}
use Rattle.sa_base.specs.declared.record.Note.{Note}
use Rattle.sa_base.specs.declared.record.Note.TheVariants.{Preempted, Blocked, Unblocked}
use Rattle.sa_base.specs.declared.context.Stopped.{Stopped}
use Rattle.sa_base.specs.Pages.{has_page}
use Rattle.sa_base.specs.declared.record.Record.TheVariants.{Move, Aim}
use Rattle.sa_lemmas.specs.Function.{put}
use Rattle.sa_lemmas.proofs.FunctionUpdates.{put-at, put-other}
use Rattle.sa_acts.specs.declared.acts.Act.{Act}
use Rattle.sa_acts.specs.Table.{runs_in, held_of}
use Rattle.sa_assign.specs.Aims.{is_aim}
use Rattle.sa_batch.specs.Notices.{notes_told}
use Rattle.sa_devices.specs.declared.kind.IoKind.{IoKind}
use Rattle.sa_devices.specs.declared.kind.IoKind.TheVariants.{Plain, Page, Upcall}
use Rattle.sa_devices.specs.Ios.{Io, io_no, without}
use Rattle.sa_devices.specs.Pages.{completed, come, upcall_page}
use Rattle.sa_kernel_model.specs.State.{KernelState, Scene, Fixed, says, owner_of, aim_of, demand_of, untold_of, taken_of, can_upcall, is_fetching}
use Rattle.sa_kernel_model.specs.Parts.{with_owner, without_aim, with_mark, with_life, with_demand, noted, with_held, with_io, put_aside, run_in, upcall, fetch_page, leave, moved, go_to_by, go_to, raised}
use Rattle.sa_kernel_model.specs.Entries.{stopped, told_or_left, block_begun, io_for, come_back, over_for, over, kind_at, more, idled, without_acts, gave_back}
use Rattle.sa_kernel_model.specs.Sound.{IsFormed}
use Rattle.sa_outlook.specs.Nameless.{Held, PlainStopped, NamelessNote, NamelessKind, NamelessIo, plain_held, nameless_note, nameless_notes, nameless_kind, nameless_io}
use Rattle.sa_outlook.specs.DueOrder.{in_order}
use Rattle.sa_outlook.specs.Outlook.{held_by}
use Rattle.sa_outlook.proofs.ListsAlike.{each-set}
use Rattle.sa_outlook.proofs.Invariant.{IsNumbered}
use Rattle.sa_outlook.proofs.Alike.{told_notes, AlikeKernels, IsUnclaimed}
use Rattle.sa_outlook.proofs.ios.DueOrder.{first-at, order-over}
use Rattle.sa_outlook.proofs.kernel.Parts.{alike-line, alike-owner, alike-no_aim, alike-mark, alike-life, alike-demand, alike-noted, alike-held, alike-io, held-here}
use Rattle.sa_outlook.proofs.kernel.Closings.{AlikeScenes, fetching-alike}

abbrev pub no_space : Option SpaceNo
no_space = None

module _ {C D : Type 0} (look : ℕ → C → D) where
  -- UPCALLS

  -- a fresh activation holds nothing, as its number did not
  pub held-fresh : (acts : ℕ → Option (Act C)) (a : ℕ) (s : SpaceNo) → acts a ≡ None
      → (b : ℕ) → held_of (put acts a (Some (runs_in s)) b) ≡ held_of (acts b)
  held-fresh acts a s none b = elim (cases_eq b a) [
    | inl same ↦
        ap (λ (x : Option (Act C)). held_of x) (put-at acts a b (Some (runs_in s)) same)
        ∙ sym (ap (λ (n : ℕ). held_of (acts n)) same ∙ ap (λ (x : Option (Act C)). held_of x) none)
    | inr apart ↦ ap (λ (x : Option (Act C)). held_of x) (put-other acts a b (Some (runs_in s)) apart)
  ]

  pub held-run : (p : ProcNo) (s : SpaceNo) (a : ActNo) (notes : List Note) (k : KernelState C) → k.acts a.0 ≡ None → held_by (run_in p s a notes k) ≡ held_by k
  held-run p s a notes k none = fun_ext (held-fresh k.acts a.0 s none)

  pub alike-run : (e g : ℕ) (k l : KernelState C) (p : ProcNo) (s : SpaceNo) (a b : ActNo) (notes others : List Note) → k.acts a.0 ≡ None → l.acts b.0 ≡ None
      → AlikeKernels look e g k l → AlikeKernels look e g (run_in p s a notes k) (run_in p s b others l)
  alike-run e g k l p s a b notes others none_a none_b was =
      let hk = held-run p s a notes k none_a in
      let hl = held-run p s b others l none_b in
      let acted : AlikeKernels look e g (record k { acts = put k.acts a.0 (Some (runs_in s)); untold = slice_set k.untold s.0 []; telling = notes })
      (record l { acts = put l.acts b.0 (Some (runs_in s)); untold = slice_set l.untold s.0 []; telling = others }) = record {
        fixed = was.fixed;
        owners = was.owners;
        aims = was.aims;
        raised = was.raised;
        lines = was.lines;
        marks = was.marks;
        live = was.live;
        lives = was.lives;
        taken = was.taken;
        takers = was.takers;
        demands = was.demands;
        untold = each-set (λ (t : ℕ) (u v : List Note). nameless_notes look t (held_by (run_in p s a notes k)) u
            ≡ nameless_notes look t (held_by (run_in p s b others l)) v) [] [] k.untold l.untold s.0 [] []
            was.spaces refl
            (λ t. ap (λ (h : Held C). nameless_notes look t h (untold_of k t)) hk ∙ was.untold t
            ∙ sym (ap (λ (h : Held C). nameless_notes look t h (untold_of l t)) hl));
        spaces = length-set k.untold s.0 [] ∙ was.spaces ∙ sym (length-set l.untold s.0 []);
        ios = ap (λ (h : Held C). map (nameless_io look e h) (in_order k.under_way)) hk ∙ was.ios
            ∙ sym (ap (λ (h : Held C). map (nameless_io look g h) (in_order l.under_way)) hl);
        pages = was.pages;
        first = was.first;
      } in
      alike-mark look e g _ _ p false (alike-life look e g _ _ p (Some a) (Some b) refl acted)

  told-same : (p : ProcNo) (s : ℕ) (added : Bool) (held other : Held C) (notes ns : List Note)
      → nameless_notes look s held notes ≡ nameless_notes look s other ns
      → nameless_notes look s held (notes_told added p notes) ≡ nameless_notes look s other (notes_told added p ns)
  told-same p s true held other notes ns same = ap (λ (ws : List (NamelessNote D)). NamelessNote.added p ∷ ws) same
  told-same p s false held other notes ns same = same

  pub upcall-alike : (e g : ℕ) (p : ProcNo) (s : SpaceNo) (a b : ActNo) (added : Bool) (x y : Scene C) → x.state.acts a.0 ≡ None → y.state.acts b.0 ≡ None
      → AlikeScenes look e g x y → AlikeScenes look e g (upcall e p s a added x) (upcall g p s b added y)
  upcall-alike e g p s a b added x y none_a none_b was =
      alike-run e g x.state y.state p s a b (notes_told added p (untold_of x.state s.0)) (notes_told added p (untold_of y.state s.0)) none_a none_b was

  pub upcall-told : (e g : ℕ) (p : ProcNo) (s : SpaceNo) (a b : ActNo) (added : Bool) (x y : Scene C) → x.state.acts a.0 ≡ None → y.state.acts b.0 ≡ None
      → AlikeScenes look e g x y → told_notes look (upcall e p s a added x).state s.0 ≡ told_notes look (upcall g p s b added y).state s.0
  upcall-told e g p s a b added x y none_a none_b was =
      let notes = notes_told added p (untold_of x.state s.0) in
      let others = notes_told added p (untold_of y.state s.0) in
      ap (λ (h : Held C). nameless_notes look s.0 h notes) (held-run p s a notes x.state none_a)
      ∙ told-same p s.0 added (held_by x.state) (held_by y.state) (untold_of x.state s.0) (untold_of y.state s.0) (was.untold s.0)
      ∙ sym (ap (λ (h : Held C). nameless_notes look s.0 h others) (held-run p s b others y.state none_b))

  -- LEAVING, AND GOING TO A SPACE

  fetch-alike : (e g : ℕ) (p : ProcNo) (s : SpaceNo) (b : Bool) (x y : Scene C) → AlikeScenes look e g x y
      → AlikeScenes look e g (fetch_page e p s b x) (fetch_page g p s b y)
  fetch-alike e g p s true x y was = was
  fetch-alike e g p s false x y was =
      subst (λ (n : ℕ). AlikeKernels look e g (with_io (Upcall s) (e + x.state.fixed.fetch) x.state) (with_io (Upcall s) (g + n) y.state))
      (ap (λ (f : Fixed). f.fetch) was.fixed)
      (alike-io look e g x.state y.state x.state.fixed.fetch (Upcall s) (Upcall s) refl was)

  -- the scene in which a processor was left, and the page is not fetched yet
  abbrev left_at : ℕ → ProcNo → Scene C → Scene C
  left_at e p x =
      says e p (Aim p None) (says e p (Move (owner_of x.state p) None) (record x { state = without_aim p (with_owner p None x.state) }))

  pub leave-alike : (e g : ℕ) (p : ProcNo) (s : SpaceNo) (x y : Scene C) → AlikeScenes look e g x y → AlikeScenes look e g (leave e p s x) (leave g p s y)
  leave-alike e g p s x y was =
      let k : KernelState C = without_aim p (with_owner p None x.state) in
      let l : KernelState C = without_aim p (with_owner p None y.state) in
      let left : AlikeKernels look e g k l =
      alike-no_aim look e g (with_owner p None x.state) (with_owner p None y.state) p (alike-owner look e g x.state y.state p None was) in
      subst (λ (b : Bool). AlikeScenes look e g (leave e p s x) (fetch_page g p s b (left_at g p y))) (fetching-alike look e g k l left s.0)
      (fetch-alike e g p s (is_fetching k s.0) (left_at e p x) (left_at g p y) left)

  pub moved-alike : (e g : ℕ) (p : ProcNo) (s : SpaceNo) (owned : Bool) (x y : Scene C) → AlikeScenes look e g x y
      → AlikeScenes look e g (moved e p s owned x) (moved g p s owned y)
  moved-alike e g p s true x y was = was
  moved-alike e g p s false x y was = alike-owner look e g x.state y.state p (Some s) was

  acts-moved : (e : ℕ) (p : ProcNo) (s : SpaceNo) (owned : Bool) (x : Scene C) → (moved e p s owned x).state.acts ≡ x.state.acts
  acts-moved e p s true x = refl
  acts-moved e p s false x = refl

  unused-moved : (e : ℕ) (p : ProcNo) (s : SpaceNo) (owned : Bool) (x : Scene C) (n : ℕ) → x.state.acts n ≡ None → (moved e p s owned x).state.acts n ≡ None
  unused-moved e p s owned x n none = ap (λ (f : ℕ → Option (Act C)). f n) (acts-moved e p s owned x) ∙ none

  pub go-alike : (e g : ℕ) (p : ProcNo) (s : SpaceNo) (a b : ActNo) (owned can : Bool) (x y : Scene C) → x.state.acts a.0 ≡ None → y.state.acts b.0 ≡ None
      → AlikeScenes look e g x y → AlikeScenes look e g (go_to_by e p s a owned can x) (go_to_by g p s b owned can y)
  go-alike e g p s a b owned false x y none_a none_b was = leave-alike e g p s x y was
  go-alike e g p s a b owned true x y none_a none_b was =
      upcall-alike e g p s a b (not owned) (moved e p s owned x) (moved g p s owned y)
      (unused-moved e p s owned x a.0 none_a) (unused-moved g p s owned y b.0 none_b) (moved-alike e g p s owned x y was)

  pub go-told : (e g : ℕ) (p : ProcNo) (s : SpaceNo) (a b : ActNo) (owned : Bool) (x y : Scene C) → x.state.acts a.0 ≡ None → y.state.acts b.0 ≡ None
      → AlikeScenes look e g x y
      → told_notes look (go_to_by e p s a owned true x).state s.0 ≡ told_notes look (go_to_by g p s b owned true y).state s.0
  go-told e g p s a b owned x y none_a none_b was =
      upcall-told e g p s a b (not owned) (moved e p s owned x) (moved g p s owned y)
      (unused-moved e p s owned x a.0 none_a) (unused-moved g p s owned y b.0 none_b) (moved-alike e g p s owned x y was)

  pub owned-alike : (e g : ℕ) (k l : KernelState C) → AlikeKernels look e g k l → (p : ProcNo) → owner_of k p ≡ owner_of l p
  owned-alike e g k l was p = ap (λ (os : List (Option SpaceNo)). get_or os p.0 no_space) was.owners

  pub aimed-alike : (e g : ℕ) (k l : KernelState C) → AlikeKernels look e g k l → (p : ProcNo) → aim_of k p ≡ aim_of l p
  aimed-alike e g k l was p = ap (λ (os : List (Option SpaceNo)). get_or os p.0 no_space) was.aims

  pub can_upcall-alike : (e g : ℕ) (k l : KernelState C) → AlikeKernels look e g k l → (s : SpaceNo) → can_upcall k s ≡ can_upcall l s
  can_upcall-alike e g k l was s = ap (λ (ps : List ℕ). has_page (get_or ps s.0 0) 0) was.pages

  pub go_to-alike : (e g : ℕ) (p : ProcNo) (s : SpaceNo) (a b : ActNo) (x y : Scene C) → x.state.acts a.0 ≡ None → y.state.acts b.0 ≡ None
      → AlikeScenes look e g x y → AlikeScenes look e g (go_to e p s a x) (go_to g p s b y)
  go_to-alike e g p s a b x y none_a none_b was =
      subst (λ (o : Option SpaceNo). AlikeScenes look e g (go_to e p s a x) (go_to_by g p s b (is_aim s.0 o) (can_upcall y.state s) y))
      (owned-alike e g x.state y.state was p)
      (subst (λ (c : Bool). AlikeScenes look e g (go_to e p s a x) (go_to_by g p s b (is_aim s.0 (owner_of x.state p)) c y))
      (can_upcall-alike e g x.state y.state was s)
      (go-alike e g p s a b (is_aim s.0 (owner_of x.state p)) (can_upcall x.state s) x y none_a none_b was))

  -- A CONTEXT IS STOPPED

  -- what is set aside of one activation of the space that owns the processor
  pub record IsSetAside (k : KernelState C) (s : SpaceNo) (a : ActNo) : Type 0 where
    pub runs : k.acts a.0 ≡ Some (runs_in s)
    pub free : IsUnclaimed k a.0

  pub aside-alike : (e g : ℕ) (p : ProcNo) (s : SpaceNo) (a b : ActNo) (h i : Stopped C) (note other : Note) (k l : KernelState C)
      → IsSetAside k s a → IsSetAside l s b
      → nameless_note look s.0 (held_by (with_held a h (with_life p None k))) note ≡ nameless_note look s.0 (held_by (with_held b i (with_life p None l))) other
      → AlikeKernels look e g k l → AlikeKernels look e g (put_aside p s a note h k) (put_aside p s b other i l)
  aside-alike e g p s a b h i note other k l at bt same was =
      alike-noted look e g (with_held a h (with_life p None k)) (with_held b i (with_life p None l)) s note other same
      (alike-held look e g (with_life p None k) (with_life p None l) a b h i
      (record { untold = at.free.untold; ios = at.free.ios }) (record { untold = bt.free.untold; ios = bt.free.ios })
      (alike-life look e g k l p None None refl was))

  stopped-held : (k : KernelState C) (a : ActNo) (s : SpaceNo) (h : Stopped C) → k.acts a.0 ≡ Some (runs_in s)
      → plain_held look s.0 (held_by (with_held a h k) a.0) ≡ plain_held look s.0 (Some h)
  stopped-held k a s h runs = ap (plain_held look s.0) (held-here look k a s h runs)

  -- of the two kernels the owner's activation, where there is one
  abbrev pub CanStop : KernelState C → Option SpaceNo → Option ActNo → Type 0
  CanStop k o a = (s : SpaceNo) (b : ActNo) → o ≡ Some s → a ≡ Some b → IsSetAside k s b

  abbrev pub AlikeStops : Option SpaceNo → Option (Stopped C) → Option (Stopped C) → Type 0
  AlikeStops o h i = (s : SpaceNo) → o ≡ Some s → plain_held look s.0 h ≡ plain_held look s.0 i

  pub stopped-alike : (e g : ℕ) (p : ProcNo) (o : Option SpaceNo) (a b : Option ActNo) (h i : Option (Stopped C)) (x y : Scene C) → is_some a ≡ is_some b
      → CanStop x.state o a → CanStop y.state o b → AlikeStops o h i → AlikeScenes look e g x y
      → AlikeScenes look e g (stopped e p o a h x) (stopped g p o b i y)
  stopped-alike e g p (Some s) None (Some b) h i x y lives at bt held was = absurd (cc)
  stopped-alike e g p (Some s) (Some a) None h i x y lives at bt held was = absurd (cc)
  stopped-alike e g p (Some s) (Some a) (Some b) None (Some i) x y lives at bt held was = absurd (let z = held s refl in cc)
  stopped-alike e g p (Some s) (Some a) (Some b) (Some h) None x y lives at bt held was = absurd (let z = held s refl in cc)
  stopped-alike e g p (Some s) (Some a) (Some b) (Some h) (Some i) x y lives at bt held was =
      let ka = at s a refl refl in
      let lb = bt s b refl refl in
      aside-alike e g p s a b h i (Preempted a) (Preempted b) x.state y.state ka lb
      (ap (λ (z : Option (PlainStopped D)). NamelessNote.preempted z)
      (stopped-held (with_life p None x.state) a s h ka.runs ∙ held s refl ∙ sym (stopped-held (with_life p None y.state) b s i lb.runs))) was
  stopped-alike e g p _ _ _ _ _ x y lives at bt held was = was

  -- A BLOCK

  kind-io : (s : SpaceNo) (a b : ActNo) (page : Option ℕ) (held other : Held C) → plain_held look s.0 (held a.0) ≡ plain_held look s.0 (other b.0)
      → nameless_kind look held (io_for s a page) ≡ nameless_kind look other (io_for s b page)
  kind-io s a b None held other same = ap (λ (z : Option (PlainStopped D)). NamelessKind.plain s z) same
  kind-io s a b (Some k) held other same = ap (λ (z : Option (PlainStopped D)). NamelessKind.page s z k) same

  pub block-alike : (e g : ℕ) (p : ProcNo) (s : SpaceNo) (a b : ActNo) (h i : Stopped C) (n : ℕ) (page : Option ℕ) (x y : Scene C)
      → IsSetAside x.state s a → IsSetAside y.state s b → plain_held look s.0 (Some h) ≡ plain_held look s.0 (Some i) → AlikeScenes look e g x y
      → AlikeScenes look e g (block_begun e p s a h n page x) (block_begun g p s b i n page y)
  block-alike e g p s a b h i n page x y at bt same was =
      let k : KernelState C = put_aside p s a (Blocked a) h x.state in
      let l : KernelState C = put_aside p s b (Blocked b) i y.state in
      let aside : AlikeKernels look e g k l = aside-alike e g p s a b h i (Blocked a) (Blocked b) x.state y.state at bt refl was in
      alike-io look e g k l n (io_for s a page) (io_for s b page)
      (kind-io s a b page (held_by k) (held_by l)
      (stopped-held (with_life p None x.state) a s h at.runs ∙ same ∙ sym (stopped-held (with_life p None y.state) b s i bt.runs))) aside

  pub told_or_left-alike : (e g : ℕ) (p : ProcNo) (s : SpaceNo) (a b : ActNo) (can : Bool) (x y : Scene C) → x.state.acts a.0 ≡ None → y.state.acts b.0 ≡ None
      → AlikeScenes look e g x y → AlikeScenes look e g (told_or_left e p s a can x) (told_or_left g p s b can y)
  told_or_left-alike e g p s a b true x y none_a none_b was = upcall-alike e g p s a b false x y none_a none_b was
  told_or_left-alike e g p s a b false x y none_a none_b was = leave-alike e g p s x y was

  -- A COMPLETION

  abbrev kind_completed : NamelessKind D → List ℕ → List ℕ
  kind_completed (NamelessKind.plain s x) pages = pages
  kind_completed (NamelessKind.page s x k) pages = come pages s.0 k
  kind_completed (NamelessKind.upcall s) pages = come pages s.0 upcall_page

  pages-over : (held : Held C) (kind : IoKind) (pages : List ℕ) → completed kind pages ≡ kind_completed (nameless_kind look held kind) pages
  pages-over held (Plain s a) pages = refl
  pages-over held _ pages = refl

  back-alike : (e g : ℕ) (p : ProcNo) (s t : SpaceNo) (a b : ActNo) (x y : Scene C) → s ≡ t
      → plain_held look s.0 (held_by x.state a.0) ≡ plain_held look t.0 (held_by y.state b.0)
      → AlikeScenes look e g x y → AlikeScenes look e g (come_back e p s a x) (come_back g p t b y)
  back-alike e g p s t a b x y same stopped-same was =
      subst (λ (u : SpaceNo). AlikeKernels look e g (noted s (Unblocked a) x.state) (noted u (Unblocked b) y.state)) same
      (alike-noted look e g x.state y.state s (Unblocked a) (Unblocked b)
      (ap (λ (z : Option (PlainStopped D)). NamelessNote.unblocked z)
      (stopped-same ∙ ap (λ (u : SpaceNo). plain_held look u.0 (held_by y.state b.0)) (sym same))) was)

  over_for-alike : (e g : ℕ) (p : ProcNo) (kind other : IoKind) (x y : Scene C)
      → nameless_kind look (held_by x.state) kind ≡ nameless_kind look (held_by y.state) other
      → AlikeScenes look e g x y → AlikeScenes look e g (over_for e p kind x) (over_for g p other y)
  over_for-alike e g p (Plain s a) (Plain t b) x y same was = back-alike e g p s t a b x y (cc) (cc) was
  over_for-alike e g p (Page s a n) (Page t b m) x y same was = back-alike e g p s t a b x y (cc) (cc) was
  over_for-alike e g p (Upcall s) (Upcall t) x y same was = was
  over_for-alike e g p _ _ x y same was = absurd (cc)

  -- the first in order of two kernels that are alike are over
  pub over-alike : (e g : ℕ) (p : ProcNo) (x y : Scene C) (a b : Io) (xs ys : List Io) → IsNumbered x.state → IsNumbered y.state
      → in_order x.state.under_way ≡ a ∷ xs → in_order y.state.under_way ≡ b ∷ ys → AlikeScenes look e g x y
      → AlikeScenes look e g (over e p (io_no a) (kind_at a.number x.state.under_way) x) (over g p (io_no b) (kind_at b.number y.state.under_way) y)
  over-alike e g p x y a b xs ys num_x num_y is_a is_b was =
      let k = x.state in
      let l = y.state in
      let heads : nameless_io look e (held_by k) a ∷ map (nameless_io look e (held_by k)) xs
      ≡ nameless_io look g (held_by l) b ∷ map (nameless_io look g (held_by l)) ys =
      ap (map (nameless_io look e (held_by k))) (sym is_a) ∙ was.ios ∙ ap (map (nameless_io look g (held_by l))) is_b in
      let first : nameless_io look e (held_by k) a ≡ nameless_io look g (held_by l) b = cc in
      let rest : map (nameless_io look e (held_by k)) xs ≡ map (nameless_io look g (held_by l)) ys = cc in
      let same : nameless_kind look (held_by k) a.kind ≡ nameless_kind look (held_by l) b.kind = ap (λ (z : NamelessIo D). z.kind) first in
      let ka : kind_at a.number k.under_way ≡ Some a.kind = ap (option_map (λ (io : Io). io.kind)) (first-at 0 k.io_count k.under_way xs a num_x is_a) in
      let lb : kind_at b.number l.under_way ≡ Some b.kind = ap (option_map (λ (io : Io). io.kind)) (first-at 0 l.io_count l.under_way ys b num_y is_b) in
      let left : AlikeScenes look e g (record x { state = record k { under_way = without a.number k.under_way; pages = completed a.kind k.pages } })
      (record y { state = record l { under_way = without b.number l.under_way; pages = completed b.kind l.pages } }) = record {
        fixed = was.fixed;
        owners = was.owners;
        aims = was.aims;
        raised = was.raised;
        lines = was.lines;
        marks = was.marks;
        live = was.live;
        lives = was.lives;
        taken = was.taken;
        takers = was.takers;
        demands = was.demands;
        untold = was.untold;
        spaces = was.spaces;
        ios = ap (map (nameless_io look e (held_by k))) (order-over 0 k.io_count k.under_way xs a num_x is_a) ∙ rest
            ∙ sym (ap (map (nameless_io look g (held_by l))) (order-over 0 l.io_count l.under_way ys b num_y is_b));
        pages = pages-over (held_by k) a.kind k.pages ∙ ap (λ (z : NamelessKind D). kind_completed z k.pages) same
            ∙ ap (kind_completed (nameless_kind look (held_by l) b.kind)) was.pages ∙ sym (pages-over (held_by l) b.kind l.pages);
        first = was.first;
      } in
      subst (λ (o : Option IoKind). AlikeScenes look e g (over e p (io_no a) o x) (over g p (io_no b) (kind_at b.number l.under_way) y)) (sym ka)
      (subst (λ (o : Option IoKind). AlikeScenes look e g (over e p (io_no a) (Some a.kind) x) (over g p (io_no b) o y)) (sym lb)
      (over_for-alike e g p a.kind b.kind _ _ same left))

  -- HINTS

  pub more-alike : (e g : ℕ) (p : ProcNo) (n : ℕ) (o : Option SpaceNo) (x y : Scene C) → AlikeScenes look e g x y
      → AlikeScenes look e g (more e p n o x) (more g p n o y)
  more-alike e g p n None x y was = was
  more-alike e g p n (Some s) x y was =
      subst (λ (ds : List ℕ). AlikeKernels look e g (with_mark p false (with_demand s.0 (demand_of x.state s.0 + n) x.state))
      (with_mark p false (with_demand s.0 (get_or ds s.0 0 + n) y.state)))
      was.demands
      (alike-mark look e g _ _ p false (alike-demand look e g x.state y.state s.0 (demand_of x.state s.0 + n) was))

  pub idled-alike : (e g : ℕ) (p : ProcNo) (o : Option SpaceNo) (x y : Scene C) → AlikeScenes look e g x y
      → AlikeScenes look e g (idled e p o x) (idled g p o y)
  idled-alike e g p None x y was = was
  idled-alike e g p (Some s) x y was =
      subst (λ (ds : List ℕ). AlikeKernels look e g (with_mark p true (with_demand s.0 (demand_of x.state s.0 - 1) x.state))
      (with_mark p true (with_demand s.0 (get_or ds s.0 0 - 1) y.state)))
      was.demands
      (alike-mark look e g _ _ p true (alike-demand look e g x.state y.state s.0 (demand_of x.state s.0 - 1) was))

  -- nothing is held of what was taken
  held-given : (list : List ActNo) (acts : ℕ → Option (Act C)) → ((a : ActNo) → Contains list a → held_of (acts a.0) ≡ None)
      → (b : ℕ) → held_of (without_acts list acts b) ≡ held_of (acts b)
  held-given [] acts none b = refl
  held-given (a ∷ list) acts none b =
      let here : held_of (acts a.0) ≡ None = none a (0, omega arith, refl) in
      held-given list (put acts a.0 None) (λ c has. emptied acts a.0 c.0 here ∙ none c (suc has.0, (let h = has.1 in omega arith), has.2)) b
      ∙ emptied acts a.0 b here
    where
      emptied : (fs : ℕ → Option (Act C)) (i j : ℕ) → held_of (fs i) ≡ None → held_of (put fs i None j) ≡ held_of (fs j)
      emptied fs i j was = elim (cases_eq j i) [
        | inl same ↦ ap (λ (x : Option (Act C)). held_of x) (put-at fs i j None same) ∙ sym (ap (λ (n : ℕ). held_of (fs n)) same ∙ was)
        | inr apart ↦ ap (λ (x : Option (Act C)). held_of x) (put-other fs i j None apart)
      ]

  abbrev pub NoneHeld : KernelState C → Type 0
  NoneHeld k = (s : ℕ) (a : ActNo) → Contains (taken_of k s) a → held_of (k.acts a.0) ≡ None

  pub none-held : (k : KernelState C) → IsFormed k → NoneHeld k
  none-held k formed s a has =
      let taken = formed.taken s a has in
      ap (λ (x : Option (Act C)). held_of x) taken.is ∙ taken.none_held

  pub gave-alike : (e g : ℕ) (p : ProcNo) (o : Option SpaceNo) (x y : Scene C) → NoneHeld x.state → NoneHeld y.state → AlikeScenes look e g x y
      → AlikeScenes look e g (gave_back e p o x) (gave_back g p o y)
  gave-alike e g p None x y none_x none_y was = was
  gave-alike e g p (Some s) x y none_x none_y was =
      let k = x.state in
      let l = y.state in
      let hk : held_by (record k { acts = without_acts (taken_of k s.0) k.acts }) ≡ held_by k = fun_ext (held-given (taken_of k s.0) k.acts (none_x s.0)) in
      let hl : held_by (record l { acts = without_acts (taken_of l s.0) l.acts }) ≡ held_by l = fun_ext (held-given (taken_of l s.0) l.acts (none_y s.0)) in
      record {
        fixed = was.fixed;
        owners = was.owners;
        aims = was.aims;
        raised = was.raised;
        lines = was.lines;
        marks = was.marks;
        live = was.live;
        lives = was.lives;
        taken = each-set (λ (t : ℕ) (u v : List ActNo). length u ≡ length v) [] [] k.taken l.taken s.0 [] [] was.takers refl was.taken;
        takers = length-set k.taken s.0 [] ∙ was.takers ∙ sym (length-set l.taken s.0 []);
        demands = was.demands;
        untold = λ t. ap (λ (h : Held C). nameless_notes look t h (untold_of k t)) hk ∙ was.untold t
            ∙ sym (ap (λ (h : Held C). nameless_notes look t h (untold_of l t)) hl);
        spaces = was.spaces;
        ios = ap (λ (h : Held C). map (nameless_io look e h) (in_order k.under_way)) hk ∙ was.ios
            ∙ sym (ap (λ (h : Held C). map (nameless_io look g h) (in_order l.under_way)) hl);
        pages = was.pages;
        first = was.first;
      }

  pub own-alike : (e g : ℕ) (p q : ProcNo) (x y : Scene C) → AlikeScenes look e g x y → AlikeScenes look e g (raised e p q x) (raised g p q y)
  own-alike e g p q x y was = alike-line look e g x.state y.state q (Some e) (Some g) refl was
