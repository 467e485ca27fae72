-- What an entry leaves is formed.
use Rattle.std.proofs.Common.{◌≡◌, ◌≢◌, ℕ, zero, suc, ◌+◌, ◌<◌, ◌≤◌, Bool, true, false, not, Option, Some, None, IsSome, IfSome, List, [], ◌∷◌, ◌++◌, length, get_or, slice_set, replicate, Contains, refl, sym, ap, subst, ◌∙◌, inl, inr, arith}
use Rattle.std.proofs.lemmas.List.{length-set, length-map, length-replicate, get_or-set_same}
use Rattle.std.proofs.lemmas.Bool.{cases_eq}
use Rattle.std.proofs.lemmas.List.Elements.{All-nil, All-push}
use Rattle.sa_base.specs.declared.number.ProcNo.{ProcNo}
use Rattle.sa_base.specs.declared.number.SpaceNo.{SpaceNo}
use Rattle.sa_base.specs.declared.number.ActNo.{ActNo}
use Rattle.sa_base.specs.declared.context.Stopped.{Stopped}
use Rattle.sa_base.specs.declared.record.Note.{Note}
use Rattle.sa_base.specs.declared.record.Note.TheVariants.{Add, Preempted, Blocked, Unblocked}
use Rattle.sa_base.specs.declared.number.IoNo.{IoNo}
use Rattle.sa_lemmas.proofs.Membership.{contains-nil}
use Rattle.sa_lemmas.specs.Function.{put}
use Rattle.sa_lemmas.proofs.FunctionUpdates.{put-at, put-other}
use Rattle.sa_acts.specs.declared.acts.Act.{Act}
use Rattle.sa_base.specs.declared.limits.TheConstants.{MAX_SPACES}
use Rattle.sa_spaces.specs.Space.{SpaceView}
use Rattle.sa_spaces.specs.Workload.{WorkloadView, IsWorkload}
use Rattle.sa_lemmas.proofs.ListReads.{all-same}
use Rattle.sa_kernel_model.specs.Opening.{opening_state}
use Rattle.sa_acts.specs.Table.{holding, runs_in, held_of, taken_from, space_of}
use Rattle.sa_assign.specs.AssignView.{AssignView}
use Rattle.sa_assign.specs.Aims.{Change, is_aim, space_no, choice, missing, change_to, changes_for, changes_from, aims_with, aims_after, least_below}
use Rattle.sa_assign.proofs.AimLemmas.{is_aim-true}
use Rattle.sa_assign.specs.Reaim.{proc_no, reaimed, changes_in}
use Rattle.sa_devices.specs.declared.kind.IoKind.{IoKind}
use Rattle.sa_devices.specs.Pages.{IsKind, completed, evicted, opening_pages}
use Rattle.sa_devices.specs.Ios.{Io, without}
use Rattle.sa_devices.specs.declared.kind.IoKind.TheVariants.{Plain, Page, Upcall}
use Rattle.sa_devices.proofs.SoundLemmas.{All-without, length-completed, length-evicted}
use Rattle.sa_kernel_model.specs.State.{KernelState, Scene, owner_of, aim_of, life_of, untold_of, taken_of, can_upcall, is_fetching}
use Rattle.sa_batch.specs.Notices.{notes_told}
use Rattle.sa_kernel_model.specs.Parts.{with_owner, without_aim, with_line, with_mark, with_demand, noted, with_io, put_aside, upcall, fetch_page, leave, moved, go_to_by, raised}
use Rattle.sa_kernel_model.specs.Entries.{stopped, go_to_aim, interrupted, told_or_left, block_begun, blocked_by, io_for, IsOwnPage, come_back, over_for, over, announced, more, idled, gave_back, kind_at, entered_as, handed_over, handed_by, fetched, after_fetch, evicted_at}
use Rattle.sa_kernel_model.specs.Closing.{for_spaces, spaces, want_one, want_for, must_want, wants, shares, aims, interrupt, interrupt_one, interrupt_for, must_interrupt, has_low_line, closed}
use Rattle.sa_kernel_model.specs.Entering.{MayEnter}
use Rattle.sa_kernel_model.specs.declared.entry.Entry.{Entry}
use Rattle.sa_kernel_model.specs.declared.entry.Entry.TheVariants.{Interrupt, Block, Complete, More, Idle, GiveBack, InterruptOwn}
use Rattle.sa_kernel_model.proofs.parts.Sizes.{sizes_of, sizes-kept}
use Rattle.sa_kernel_model.proofs.parts.Closings.{length-aims_after, length-lines_after}
use Rattle.sa_kernel_model.specs.Sound.{AreSpaces, AreIos, AreAlive, IsFormed}
use Rattle.sa_kernel_model.proofs.parts.Running.{no_life, spaces-set, alive-aside, alive-run, alive-owner, taken-other, running-free, unused-free, alive-without, taken-without, taken-rests, alive-other, held-rests, taken-handed}

abbrev pub no_event : Option ℕ
no_event = None

abbrev pub no_notes : List Note
no_notes = []

abbrev pub no_acts : List ActNo
no_acts = []

abbrev one : ℕ
one = 1

no-life-some : (a : ActNo) → no_life ≡ Some a → ⊥
no-life-some a e = cc

abbrev pub no_space : Option SpaceNo
no_space = None

none-some : (s : SpaceNo) → no_space ≡ Some s → ⊥
none-some s e = cc

pub free-set : (lives : List (Option ActNo)) (p : ℕ) → get_or (slice_set lives p None) p None ≡ None
free-set [] p = refl
free-set (l ∷ lives) zero = refl
free-set (l ∷ lives) (suc p) = free-set lives p

abbrev AreBelow : ℕ → List Change → Type 0
AreBelow n [] = Unit {0}
AreBelow n (c ∷ cs) = (c.space < n) × AreBelow n cs

-- the changes of aims are for the spaces that there are
below-change_to : (n s : ℕ) (aims : List (Option SpaceNo)) (p : Option ℕ) (rest : List (Option SpaceNo) → List Change) → s < n
    → ((after : List (Option SpaceNo)) → AreBelow n (rest after)) → AreBelow n (change_to s aims p rest)
below-change_to n s aims None rest below all = tt
below-change_to n s aims (Some p) rest below all = (below, all (aims_with aims (record { proc = p; space = s })))

below-changes_for : (n more : ℕ) (shares : List ℕ) (marks : List Bool) (s : ℕ) (aims : List (Option SpaceNo)) → s < n
    → AreBelow n (changes_for more shares marks s aims)
below-changes_for n zero shares marks s aims below = tt
below-changes_for n (suc more) shares marks s aims below =
    below-change_to n s aims (choice shares marks aims) (changes_for more shares marks s) below (λ after. below-changes_for n more shares marks s after below)

below-append : (n : ℕ) (xs ys : List Change) → AreBelow n xs → AreBelow n ys → AreBelow n (xs ++ ys)
below-append n [] ys mine others = others
below-append n (x ∷ xs) ys mine others = (mine.0, below-append n xs ys mine.1 others)

below-changes_from : (n s more : ℕ) (shares : List ℕ) (marks : List Bool) (aims : List (Option SpaceNo)) → s + more ≤ n
    → AreBelow n (changes_from s more shares marks aims)
below-changes_from n s zero shares marks aims fits = tt
below-changes_from n s (suc more) shares marks aims fits =
    let own = changes_for (missing shares aims s) shares marks s aims in
    below-append n own _ (below-changes_for n (missing shares aims s) shares marks s aims (omega arith))
    (below-changes_from n (s + 1) more shares marks (aims_after aims own) (omega arith))

spaces-aims_after : (n : ℕ) (aims : List (Option SpaceNo)) (cs : List Change) → AreBelow n cs → AreSpaces n aims → AreSpaces n (aims_after aims cs)
spaces-aims_after n aims [] below each = each
spaces-aims_after n aims (c ∷ cs) below each =
    spaces-aims_after n (aims_with aims c) cs below.1 (spaces-set n aims c.proc (Some (space_no c.space)) (λ s is. same s is) each)
  where
    same : (s : SpaceNo) → Some (space_no c.space) ≡ Some s → s.0 < n
    same s is = let f : space_no c.space ≡ s = cc in let h : c.space ≡ s.0 = ap (λ (v : SpaceNo). v.0) f in let b : c.space < n = below.0 in omega arith

module _ {C : Type 0} where
  -- another assignment, whose owners are the same
  formed-assign : (k : KernelState C) (a : AssignView) → a.owners ≡ k.assign.owners → length a.aims ≡ length k.assign.aims
      → length a.lines ≡ length k.assign.lines → length a.marks ≡ length k.assign.marks → AreSpaces (length k.demands) a.aims → IsFormed k
      → IsFormed (record k { assign = a })
  formed-assign k a owners aims lines marks below sound = record {
    sizes = sizes-kept k _ (λ i. record (sizes_of k) { owners = length (owners i); aims = aims i; lines = lines i; marks = marks i }) sound.sizes;
    owners = subst (AreSpaces (length k.demands)) (sym owners) sound.owners;
    aims = below;
    ios = sound.ios;
    lives = subst (λ xs. AreAlive xs k.lives k.acts) (sym owners) sound.lives;
    taken = sound.taken;
  }

  pub formed-line : (p : ProcNo) (event : Option ℕ) (k : KernelState C) → IsFormed k → IsFormed (with_line p event k)
  formed-line p event k sound = formed-assign k _ refl refl (length-set k.assign.lines p.0 event) refl sound.aims sound

  pub formed-mark : (p : ProcNo) (idle : Bool) (k : KernelState C) → IsFormed k → IsFormed (with_mark p idle k)
  formed-mark p idle k sound = formed-assign k _ refl refl refl (length-set k.assign.marks p.0 idle) sound.aims sound

  pub formed-no_aim : (p : ProcNo) (k : KernelState C) → IsFormed k → IsFormed (without_aim p k)
  formed-no_aim p k sound =
      formed-assign k _ refl (length-set k.assign.aims p.0 None) refl refl
      (spaces-set (length k.demands) k.assign.aims p.0 None (λ s is. absurd (none-some s is)) sound.aims) sound

  pub formed-owner : (p : ProcNo) (o : Option SpaceNo) (k : KernelState C) → life_of k p ≡ None → ((s : SpaceNo) → o ≡ Some s → s.0 < length k.demands)
      → IsFormed k → IsFormed (with_owner p o k)
  formed-owner p o k free below sound = record {
    sizes = sizes-kept k _ (λ i. record (sizes_of k) { owners = length-set k.assign.owners p.0 o i }) sound.sizes;
    owners = spaces-set (length k.demands) k.assign.owners p.0 o below sound.owners;
    aims = sound.aims;
    ios = sound.ios;
    lives = alive-owner k.assign.owners k.lives k.acts p.0 o free sound.lives;
    taken = sound.taken;
  }

  pub formed-noted : (s : SpaceNo) (note : Note) (k : KernelState C) → IsFormed k → IsFormed (noted s note k)
  formed-noted s note k sound = record {
    sizes = sizes-kept k _ (λ i. record (sizes_of k) { untold = length-set k.untold s.0 (untold_of k s.0 ++ note ∷ []) i }) sound.sizes;
    owners = sound.owners;
    aims = sound.aims;
    ios = sound.ios;
    lives = sound.lives;
    taken = sound.taken;
  }

  formed-aside_acts : (p : ProcNo) (a : ActNo) (held : Stopped C) (k : KernelState C) → life_of k p ≡ Some a → IsFormed k
      → IsFormed (record k { lives = slice_set k.lives p.0 None; acts = put k.acts a.0 (holding held (k.acts a.0)) })
  formed-aside_acts p a held k here sound =
      let runs = sound.lives.run p.0 a here in
      record {
        sizes = sizes-kept k _ (λ i. record (sizes_of k) { lives = length-set k.lives p.0 None i }) sound.sizes;
        owners = sound.owners;
        aims = sound.aims;
        ios = sound.ios;
        lives = alive-aside k.assign.owners k.lives k.acts p.0 a (holding held (k.acts a.0)) here sound.lives;
        taken = taken-other k.taken k.acts a.0 (holding held (k.acts a.0)) (running-free (k.acts a.0) runs.space runs.act) sound.taken;
      }

  pub formed-aside : (p : ProcNo) (s : SpaceNo) (a : ActNo) (note : Note) (held : Stopped C) (k : KernelState C) → life_of k p ≡ Some a → IsFormed k
      → IsFormed (put_aside p s a note held k)
  formed-aside p s a note held k here sound = formed-noted s note _ (formed-aside_acts p a held k here sound)

  formed-run_acts : (p : ProcNo) (s : SpaceNo) (a : ActNo) (notes : List Note) (k : KernelState C) → owner_of k p ≡ Some s → k.acts a.0 ≡ None → IsFormed k
      → IsFormed
      (with_mark p false
      (record k { lives = slice_set k.lives p.0 (Some a); acts = put k.acts a.0 (Some (runs_in s)); untold = slice_set k.untold s.0 []; telling = notes }))
  formed-run_acts p s a notes k owner unused sound = record {
    sizes = sizes-kept k _ (λ i. record (sizes_of k) {
      lives = length-set k.lives p.0 (Some a) i;
      marks = length-set k.assign.marks p.0 false i;
      untold = length-set k.untold s.0 [] i;
    }) sound.sizes;
    owners = sound.owners;
    aims = sound.aims;
    ios = sound.ios;
    lives = alive-run k.assign.owners k.lives k.acts p.0 a s owner unused sound.lives;
    taken = taken-other k.taken k.acts a.0 (Some (runs_in s)) (unused-free (k.acts a.0) unused) sound.taken;
  }

  pub formed-upcall : (e : ℕ) (p : ProcNo) (s : SpaceNo) (a : ActNo) (added : Bool) (x : Scene C) → owner_of x.state p ≡ Some s → x.state.acts a.0 ≡ None
      → IsFormed x.state → IsFormed (upcall e p s a added x).state
  formed-upcall e p s a added x owner unused sound = formed-run_acts p s a (notes_told added p (untold_of x.state s.0)) x.state owner unused sound

  pub formed-demand : (s n : ℕ) (k : KernelState C) → IsFormed k → IsFormed (with_demand s n k)
  formed-demand s n k sound =
      let len : length (slice_set k.demands s n) ≡ length k.demands = length-set k.demands s n in
      record {
        sizes = sizes-kept k _ (λ i. record (sizes_of k) { demands = len i }) sound.sizes;
        owners = subst (λ m. AreSpaces m k.assign.owners) (sym len) sound.owners;
        aims = subst (λ m. AreSpaces m k.assign.aims) (sym len) sound.aims;
        ios = subst (λ m. AreIos m k.under_way) (sym len) sound.ios;
        lives = sound.lives;
        taken = sound.taken;
      }

  formed-devices : (k : KernelState C) (io_count : ℕ) (ios : List Io) (pages : List ℕ) → length pages ≡ length k.pages → AreIos (length k.demands) ios → IsFormed k
      → IsFormed (record k { io_count = io_count; under_way = ios; pages = pages })
  formed-devices k io_count ios pages len kinds sound = record {
    sizes = sizes-kept k _ (λ i. record (sizes_of k) { pages = len i }) sound.sizes;
    owners = sound.owners;
    aims = sound.aims;
    ios = kinds;
    lives = sound.lives;
    taken = sound.taken;
  }

  formed-io : (kind : IoKind) (ends : ℕ) (k : KernelState C) → IsKind (length k.demands) kind → IsFormed k → IsFormed (with_io kind ends k)
  formed-io kind ends k fits sound =
      formed-devices k (k.io_count + 1) _ k.pages refl (All-push (λ (io : Io). IsKind (length k.demands) io.kind) k.under_way _ sound.ios fits) sound

  formed-fetch : (e : ℕ) (p : ProcNo) (s : SpaceNo) (b : Bool) (x : Scene C) → s.0 < length x.state.demands → IsFormed x.state
      → IsFormed (fetch_page e p s b x).state
  formed-fetch e p s true x below sound = sound
  formed-fetch e p s false x below sound = formed-io (Upcall s) (e + x.state.fixed.fetch) x.state below sound

  pub formed-leave : (e : ℕ) (p : ProcNo) (s : SpaceNo) (x : Scene C) → s.0 < length x.state.demands → life_of x.state p ≡ None → IsFormed x.state
      → IsFormed (leave e p s x).state
  formed-leave e p s x below free sound =
      let left = formed-no_aim p (with_owner p None x.state) (formed-owner p None x.state free (λ t is. absurd (none-some t is)) sound) in
      formed-fetch e p s (is_fetching x.state s.0) _ below left

  formed-moved : (e : ℕ) (p : ProcNo) (s : SpaceNo) (owned : Bool) (x : Scene C) → s.0 < length x.state.demands → life_of x.state p ≡ None → IsFormed x.state
      → IsFormed (moved e p s owned x).state
  formed-moved e p s true x below free sound = sound
  formed-moved e p s false x below free sound = formed-owner p (Some s) x.state free (λ t is. below-same t is) sound
    where
      below-same : (t : SpaceNo) → Some s ≡ Some t → t.0 < length x.state.demands
      below-same t is = let f : s ≡ t = cc in let h : s.0 ≡ t.0 = ap (λ (v : SpaceNo). v.0) f in omega arith

  pub owner-moved : (e : ℕ) (p : ProcNo) (s : SpaceNo) (owned : Bool) (x : Scene C) → owned ≡ is_aim s.0 (owner_of x.state p)
      → p.0 < length x.state.assign.owners → owner_of (moved e p s owned x).state p ≡ Some s
  owner-moved e p s true x is within = is_aim-true s.0 (owner_of x.state p) (sym is)
  owner-moved e p s false x is within = get_or-set_same x.state.assign.owners p.0 (Some s) None within

  pub acts-moved : (e : ℕ) (p : ProcNo) (s : SpaceNo) (owned : Bool) (x : Scene C) (n : ℕ) → (moved e p s owned x).state.acts n ≡ x.state.acts n
  acts-moved e p s true x n = refl
  acts-moved e p s false x n = refl

  formed-go_to_by : (e : ℕ) (p : ProcNo) (s : SpaceNo) (a : ActNo) (owned can : Bool) (x : Scene C) → owned ≡ is_aim s.0 (owner_of x.state p)
      → p.0 < length x.state.assign.owners → s.0 < length x.state.demands → life_of x.state p ≡ None → x.state.acts a.0 ≡ None → IsFormed x.state
      → IsFormed (go_to_by e p s a owned can x).state
  formed-go_to_by e p s a owned false x is within below free unused sound = formed-leave e p s x below free sound
  formed-go_to_by e p s a owned true x is within below free unused sound =
      formed-upcall e p s a (not owned) (moved e p s owned x) (owner-moved e p s owned x is within) (acts-moved e p s owned x a.0 ∙ unused)
      (formed-moved e p s owned x below free sound)

  formed-go_to_aim : (e : ℕ) (p : ProcNo) (a : ActNo) (aim : Option SpaceNo) (x : Scene C) → p.0 < length x.state.assign.owners
      → ((s : SpaceNo) → aim ≡ Some s → s.0 < length x.state.demands) → life_of x.state p ≡ None → x.state.acts a.0 ≡ None → IsFormed x.state
      → IsFormed (go_to_aim e p a aim x).state
  formed-go_to_aim e p a None x within below free unused sound = sound
  formed-go_to_aim e p a (Some s) x within below free unused sound =
      formed-go_to_by e p s a (is_aim s.0 (owner_of x.state p)) (can_upcall x.state s) x refl within (below s refl) free unused sound

  pub formed-stopped : (e : ℕ) (p : ProcNo) (o : Option SpaceNo) (l : Option ActNo) (held : Option (Stopped C)) (x : Scene C) → l ≡ life_of x.state p
      → IsFormed x.state → IsFormed (stopped e p o l held x).state
  formed-stopped e p None l held x life sound = sound
  formed-stopped e p (Some s) None held x life sound = sound
  formed-stopped e p (Some s) (Some a) None x life sound = sound
  formed-stopped e p (Some s) (Some a) (Some h) x life sound = formed-aside p s a (Preempted a) h x.state (sym life) sound

  pub free-stopped : (e : ℕ) (p : ProcNo) (o : Option SpaceNo) (l : Option ActNo) (held : Option (Stopped C)) (x : Scene C) → l ≡ life_of x.state p
      → ((s : SpaceNo) → o ≡ Some s → IsSome held) → ((a : ActNo) → l ≡ Some a → o ≢ None) → life_of (stopped e p o l held x).state p ≡ None
  free-stopped e p None None held x life owned runs = sym life
  free-stopped e p None (Some a) held x life owned runs = absurd (runs a refl refl)
  free-stopped e p (Some s) None held x life owned runs = sym life
  free-stopped e p (Some s) (Some a) None x life owned runs = cc (owned s refl)
  free-stopped e p (Some s) (Some a) (Some h) x life owned runs = free-set x.state.lives p.0

  pub same-stopped : (e : ℕ) (p : ProcNo) (o : Option SpaceNo) (l : Option ActNo) (held : Option (Stopped C)) (x : Scene C)
      → ((stopped e p o l held x).state.assign ≡ x.state.assign) × ((stopped e p o l held x).state.demands ≡ x.state.demands)
  same-stopped e p None l held x = (refl, refl)
  same-stopped e p (Some s) None held x = (refl, refl)
  same-stopped e p (Some s) (Some a) None x = (refl, refl)
  same-stopped e p (Some s) (Some a) (Some h) x = (refl, refl)

  pub unused-after : (e : ℕ) (p : ProcNo) (o : Option SpaceNo) (l : Option ActNo) (held : Option (Stopped C)) (x : Scene C) (n : ℕ)
      → l ≡ life_of x.state p → IsFormed x.state → x.state.acts n ≡ None → (stopped e p o l held x).state.acts n ≡ None
  unused-after e p None l held x n life sound none = none
  unused-after e p (Some s) None held x n life sound none = none
  unused-after e p (Some s) (Some a) None x n life sound none = none
  unused-after e p (Some s) (Some a) (Some h) x n life sound none =
      unused-held_on x.state.acts a.0 n h none
    where
      unused-held_on : (acts : ℕ → Option (Act C)) (b m : ℕ) (held : Stopped C) → acts m ≡ None → put acts b (holding held (acts b)) m ≡ None
      unused-held_on acts b m held free = elim (cases_eq m b) [
        | inl same ↦ put-at acts b m (holding held (acts b)) same ∙ ap (holding held) (ap acts (sym same) ∙ free)
        | inr apart ↦ put-other acts b m (holding held (acts b)) apart ∙ free
      ]

  pub formed-interrupted : (e : ℕ) (p : ProcNo) (a : ActNo) (held : Option (Stopped C)) (x : Scene C) → p.0 < length x.state.lives
      → (IsSome (owner_of x.state p) → IsSome held) → x.state.acts a.0 ≡ None → IsFormed x.state → IsFormed (interrupted e p a held x).state
  formed-interrupted e p a held x within owned unused sound =
      let low : Scene C = record x { state = with_line p None x.state } in
      let o = owner_of x.state p in
      let l = life_of x.state p in
      let mid = stopped e p o l held low in
      let sound_low = formed-line p None x.state sound in
      let same = same-stopped e p o l held low in
      let len : length mid.state.assign.owners ≡ length x.state.assign.owners = ap (λ (b : AssignView). length b.owners) same.0 in
      let spaces : length mid.state.demands ≡ length x.state.demands = ap (λ (xs : List ℕ). length xs) same.1 in
      let owners = sound.sizes.owners in
      let inside : p.0 < length mid.state.assign.owners = omega arith in
      formed-go_to_aim e p a (aim_of x.state p) mid inside
      (λ s is. subst (λ n. s.0 < n) (sym spaces) (sound.aims p.0 s is))
      (free-stopped e p o l held low refl (λ s is. owned (subst (λ (v : Option SpaceNo). IsSome v) (sym is) refl))
      (λ b is none. none-some (sound.lives.run p.0 b is).space (sym none ∙ (sound.lives.run p.0 b is).owner)))
      (unused-after e p o l held low a.0 refl sound_low unused)
      (formed-stopped e p o l held low refl sound_low)

  pub formed-blocked : (e : ℕ) (p : ProcNo) (b : ActNo) (o : Option SpaceNo) (l : Option ActNo) (held : Stopped C) (len : ℕ) (page : Option ℕ) (x : Scene C)
      → o ≡ owner_of x.state p → l ≡ life_of x.state p → IfSome page IsOwnPage → x.state.acts b.0 ≡ None → IsFormed x.state
      → IsFormed (blocked_by e p b o l held len page x).state
  formed-blocked e p b None l held len page x owner life fits unused sound = sound
  formed-blocked e p b (Some s) None held len page x owner life fits unused sound = sound
  formed-blocked e p b (Some s) (Some a) held len page x owner life fits unused sound = told (can_upcall x.state s)
    where
      below : s.0 < length x.state.demands
      below = sound.owners p.0 s (sym owner)

      kind : (q : Option ℕ) → IfSome q IsOwnPage → IsKind (length x.state.demands) (io_for s a q)
      kind None h = below
      kind (Some k) h = (below, h.0, h.1)

      formed_begin : IsFormed (block_begun e p s a held len page x).state
      formed_begin =
          formed-aside p s a (Blocked a) held (with_io (io_for s a page) (e + len) x.state) (sym life)
          (formed-io (io_for s a page) (e + len) x.state (kind page fits) sound)

      free : (block_begun e p s a held len page x).state.acts b.0 ≡ None
      free = elim (cases_eq b.0 a.0) [
        | inl same ↦ put-at x.state.acts a.0 b.0 (holding held (x.state.acts a.0)) same ∙ ap (holding held) (ap x.state.acts (sym same) ∙ unused)
        | inr apart ↦ put-other x.state.acts a.0 b.0 (holding held (x.state.acts a.0)) apart ∙ unused
      ]

      told : (can : Bool) → IsFormed (told_or_left e p s b can (block_begun e p s a held len page x)).state
      told true = formed-upcall e p s b false (block_begun e p s a held len page x) (sym owner) free formed_begin
      told false = formed-leave e p s (block_begun e p s a held len page x) below (free-set x.state.lives p.0) formed_begin

  formed-come_back : (e : ℕ) (p : ProcNo) (s : SpaceNo) (a : ActNo) (x : Scene C) → IsFormed x.state → IsFormed (come_back e p s a x).state
  formed-come_back e p s a x sound = formed-noted s (Unblocked a) x.state sound

  formed-over_for : (e : ℕ) (p : ProcNo) (kind : IoKind) (x : Scene C) → IsFormed x.state → IsFormed (over_for e p kind x).state
  formed-over_for e p (Plain s a) x sound = formed-come_back e p s a x sound
  formed-over_for e p (Page s a k) x sound = formed-come_back e p s a x sound
  formed-over_for e p (Upcall s) x sound = sound

  pub formed-over : (e : ℕ) (p : ProcNo) (io : IoNo) (kind : Option IoKind) (x : Scene C) → IsFormed x.state → IsFormed (over e p io kind x).state
  formed-over e p io None x sound = sound
  formed-over e p io (Some kind) x sound =
      formed-over_for e p kind _ (formed-devices x.state x.state.io_count (without io.0 x.state.under_way) (completed kind x.state.pages)
      (length-completed kind x.state.pages)
      (All-without (λ (i : Io). IsKind (length x.state.demands) i.kind) io.0 x.state.under_way sound.ios) sound)

  formed-announced : (e : ℕ) (p : ProcNo) (s : SpaceNo) (n : ℕ) (idle : Bool) (x : Scene C) → IsFormed x.state → IsFormed (announced e p s n idle x).state
  formed-announced e p s n idle x sound = formed-mark p idle (with_demand s.0 n x.state) (formed-demand s.0 n x.state sound)

  pub formed-more : (e : ℕ) (p : ProcNo) (n : ℕ) (o : Option SpaceNo) (x : Scene C) → IsFormed x.state → IsFormed (more e p n o x).state
  formed-more e p n None x sound = sound
  formed-more e p n (Some s) x sound = formed-announced e p s _ false x sound

  pub formed-idled : (e : ℕ) (p : ProcNo) (o : Option SpaceNo) (x : Scene C) → IsFormed x.state → IsFormed (idled e p o x).state
  formed-idled e p None x sound = sound
  formed-idled e p (Some s) x sound = formed-announced e p s _ true x sound

  pub formed-gave_back : (e : ℕ) (p : ProcNo) (o : Option SpaceNo) (x : Scene C) → IsFormed x.state → IsFormed (gave_back e p o x).state
  formed-gave_back e p None x sound = sound
  formed-gave_back e p (Some s) x sound =
      let k = x.state in
      record {
        sizes = sizes-kept k _ (λ i. record (sizes_of k) { taken = length-set k.taken s.0 [] i }) sound.sizes;
        owners = sound.owners;
        aims = sound.aims;
        ios = sound.ios;
        lives =
            alive-without k.assign.owners k.lives (taken_of k s.0) k.acts (λ a has u is. taken-rests s.0 (k.acts a.0) u (sound.taken s.0 a has) is) sound.lives;
        taken = taken-without k.taken k.acts s.0 sound.taken;
      }

  pub formed-own : (e : ℕ) (p q : ProcNo) (x : Scene C) → IsFormed x.state → IsFormed (raised e p q x).state
  formed-own e p q x sound = formed-line q (Some e) x.state sound

  -- the closing
  formed-for_spaces : (f : ℕ → Scene C → Scene C) → ((s : ℕ) (x : Scene C) → IsFormed x.state → IsFormed (f s x).state)
      → (s n : ℕ) (x : Scene C) → IsFormed x.state → IsFormed (for_spaces f s n x).state
  formed-for_spaces f keeps s zero x sound = sound
  formed-for_spaces f keeps s (suc n) x sound = formed-for_spaces f keeps (s + 1) n (f s x) (keeps s x sound)

  formed-want_one : (e : ℕ) (p : ProcNo) (b : Bool) (s : ℕ) (x : Scene C) → IsFormed x.state → IsFormed (want_one e p b s x).state
  formed-want_one e p false s x sound = sound
  formed-want_one e p true s x sound = formed-demand s 1 x.state sound

  formed-interrupt : (e : ℕ) (p : ProcNo) (q : Option ℕ) (x : Scene C) → IsFormed x.state → IsFormed (interrupt e p q x).state
  formed-interrupt e p None x sound = sound
  formed-interrupt e p (Some q) x sound = formed-line (proc_no q) (Some e) x.state sound

  formed-interrupt_one : (e : ℕ) (p : ProcNo) (b : Bool) (s : ℕ) (x : Scene C) → IsFormed x.state → IsFormed (interrupt_one e p b s x).state
  formed-interrupt_one e p false s x sound = sound
  formed-interrupt_one e p true s x sound = formed-interrupt e p (least_below (length x.state.lives) (has_low_line x.state s)) x sound

  formed-aims : (e : ℕ) (p : ProcNo) (x : Scene C) → IsFormed x.state → IsFormed (aims e p x).state
  formed-aims e p x sound =
      let k = x.state in
      let n = spaces k in
      let cs = changes_in n (shares k e) k.assign in
      formed-assign k (reaimed e n (shares k e) k.assign) refl (length-aims_after k.assign.aims cs) (length-lines_after e k.assign.lines cs) refl
      (spaces-aims_after n k.assign.aims cs (below-changes_from n 0 n (shares k e) k.assign.marks k.assign.aims (omega arith)) sound.aims) sound

  pub formed-closed : (e : ℕ) (p : ProcNo) (x : Scene C) → IsFormed x.state → IsFormed (closed e p x).state
  formed-closed e p x sound =
      let w = wants e p x in
      let wanted : IsFormed w.state = formed-for_spaces (want_for e p) (λ s y h. formed-want_one e p (must_want y.state s) s y h) 0 (spaces x.state) x sound in
      let aimed = formed-aims e p w wanted in
      formed-for_spaces (interrupt_for e p) (λ s y h. formed-interrupt_one e p (must_interrupt y.state s) s y h) 0 (spaces (aims e p w).state)
      (aims e p w) aimed

  pub formed-entered_as : (e : ℕ) (p : ProcNo) (a : ActNo) (entry : Entry C) (x : Scene C) → p.0 < length x.state.lives → MayEnter x.state p e entry
      → x.state.acts a.0 ≡ None → IsFormed x.state → IsFormed (entered_as e p a entry x).state
  formed-entered_as e p a (Interrupt held) x within fit unused sound = formed-interrupted e p a held x within fit.owned unused sound
  formed-entered_as e p a (Block held len page) x within fit unused sound =
      formed-blocked e p a (owner_of x.state p) (life_of x.state p) held len page x refl refl fit.page unused sound
  formed-entered_as e p a (Complete io) x within fit unused sound = formed-over e p io (kind_at io.0 x.state.under_way) x sound
  formed-entered_as e p a (More n) x within fit unused sound = formed-more e p n (owner_of x.state p) x sound
  formed-entered_as e p a Idle x within fit unused sound = formed-idled e p (owner_of x.state p) x sound
  formed-entered_as e p a GiveBack x within fit unused sound = formed-gave_back e p (owner_of x.state p) x sound
  formed-entered_as e p a (InterruptOwn q) x within fit unused sound = formed-own e p q x sound

  formed-taken : (a : ActNo) (h : Stopped C) (k : KernelState C) → held_of (k.acts a.0) ≡ Some h → IsFormed k → IsFormed (handed_over a k)
  formed-taken a h k is sound = record {
    sizes = sizes-kept k _ (ap (λ n. record (sizes_of k) { taken = n }) (length-set k.taken (space_of (k.acts a.0)).0 _)) sound.sizes;
    owners = sound.owners;
    aims = sound.aims;
    ios = sound.ios;
    lives = alive-other k.assign.owners k.lives k.acts a.0 (taken_from (k.acts a.0)) (held-rests (k.acts a.0) h is) sound.lives;
    taken = taken-handed k.taken k.acts a h is sound.taken;
  }

  formed-handed : (a : ActNo) (o : Option (Stopped C)) (k : KernelState C) → held_of (k.acts a.0) ≡ o → IsFormed k → IsFormed (handed_by o a k)
  formed-handed a None k is sound = sound
  formed-handed a (Some h) k is sound = formed-taken a h k is sound

  formed-telling : (notes : List Note) (k : KernelState C) → IsFormed k → IsFormed (record k { telling = notes })
  formed-telling notes k sound = record {
    sizes = sizes-kept k _ refl sound.sizes;
    owners = sound.owners;
    aims = sound.aims;
    ios = sound.ios;
    lives = sound.lives;
    taken = sound.taken;
  }

  formed-fetched : (note : Note) (k : KernelState C) → IsFormed k → IsFormed (fetched note k)
  formed-fetched (Add p) k sound = sound
  formed-fetched (Blocked a) k sound = sound
  formed-fetched (Preempted a) k sound = formed-handed a (held_of (k.acts a.0)) k refl sound
  formed-fetched (Unblocked a) k sound = formed-handed a (held_of (k.acts a.0)) k refl sound

  pub formed-after_fetch : (notes : List Note) (k : KernelState C) → IsFormed k → IsFormed (after_fetch notes k)
  formed-after_fetch [] k sound = sound
  formed-after_fetch (note ∷ notes) k sound = formed-fetched note (record k { telling = notes }) (formed-telling notes k sound)

  pub formed-evicted : (event : ℕ) (k : KernelState C) → IsFormed k → IsFormed (evicted_at event k)
  formed-evicted event k sound =
      formed-devices k k.io_count k.under_way (evicted event k.fixed.evictions k.pages) (length-evicted event k.fixed.evictions k.pages) sound.ios sound

  pub formed-opening : (w : WorkloadView) → IsWorkload w → IsFormed (opening_state {C = C} w)
  formed-opening w ok = record {
    sizes = record {
      some_processor = omega (arith, length-replicate w.processors no_life, ok.some_processor);
      few_processors = omega (arith, length-replicate w.processors no_life, ok.few_processors);
      owners = length-replicate w.processors no_space ∙ sym (length-replicate w.processors no_life);
      aims = length-replicate w.processors no_space ∙ sym (length-replicate w.processors no_life);
      lines = length-replicate w.processors no_event ∙ sym (length-replicate w.processors no_life);
      marks = length-replicate w.processors false ∙ sym (length-replicate w.processors no_life);
      some_space = omega (arith, length-replicate (length w.spaces) one, ok.some_space);
      few_spaces = omega (arith, length-replicate (length w.spaces) one, ok.few_spaces);
      untold = length-replicate (length w.spaces) no_notes ∙ sym (length-replicate (length w.spaces) one);
      pages = length-map w.spaces opening_pages ∙ sym (length-replicate (length w.spaces) one);
      priorities = length-map w.spaces (λ (s : SpaceView). s.priority) ∙ sym (length-replicate (length w.spaces) one);
      taken = length-replicate MAX_SPACES no_acts;
    };
    owners = λ p s is. absurd (none-some s (sym (all-same w.processors p no_space) ∙ is));
    aims = λ p s is. absurd (none-some s (sym (all-same w.processors p no_space) ∙ is));
    ios = All-nil (λ (io : Io). IsKind (length (replicate (length w.spaces) 1)) io.kind);
    lives = record {
      run = λ p a is. absurd (no-life-some a (sym (all-same w.processors p no_life) ∙ is));
      apart = λ p q a is that. absurd (no-life-some a (sym (all-same w.processors p no_life) ∙ is));
    };
    taken = λ s a has. absurd (contains-nil a (subst (λ (xs : List ActNo). Contains xs a) (all-same MAX_SPACES s no_acts) has));
  }
