-- The records of the opening, and that what is kept begins with it.
use Rattle.std.proofs.Common.{◌≡◌, ◌≢◌, ℕ, zero, suc, ◌≤◌, ◌+◌, refl, sym, ◌∙◌, ap, subst, arith, Some, None, List, [], ◌∷◌, ◌++◌, append_assoc, length, map, take, replicate, sum_by, false}
use Rattle.std.specs.Prelude.{Option, Bool, ◌&&◌, not, cond, is_none, IsSome, nat_lt, get_or, slice_set, filter_map, Contains, All}
use Rattle.std.proofs.lemmas.Bool.{ne_eqb}
use Rattle.std.proofs.lemmas.List.{set-get_or, append-nil, length-map, length-replicate, length_push, take-replicate}
use Rattle.std.proofs.lemmas.List.Elements.{All-head, All-tail}
use Rattle.sa_lemmas.proofs.Searches.{none-left}
use Rattle.sa_base.specs.declared.number.SpaceNo.{SpaceNo}
use Rattle.sa_base.specs.declared.number.ProcNo.{ProcNo}
use Rattle.sa_base.specs.declared.number.ActNo.{ActNo}
use Rattle.sa_base.specs.declared.limits.TheConstants.{MAX_SPACES}
use Rattle.sa_base.specs.declared.record.Note.{Note}
use Rattle.sa_base.specs.declared.record.Note.TheVariants.{Preempted}
use Rattle.sa_base.specs.declared.record.Record.{Record}
use Rattle.sa_base.specs.Items.{items_at}
use Rattle.sa_base.proofs.Items.{items_at-append}
use Rattle.sa_spaces.specs.Space.{SpaceView}
use Rattle.sa_spaces.specs.declared.workload.Evict.{Evict}
use Rattle.sa_spaces.specs.Workload.{WorkloadView, IsWorkload, IsEviction}
use Rattle.sa_lemmas.proofs.ListReads.{all-same}
use Rattle.sa_assign.specs.Aims.{space_no, least_below}
use Rattle.sa_assign.specs.Reaim.{proc_no, records_of}
use Rattle.sa_devices.specs.Pages.{evicted, gone}
use Rattle.sa_kernel_model.specs.State.{KernelState, Scene}
use Rattle.sa_kernel_model.specs.Closing.{closed}
use Rattle.sa_kernel_model.specs.Opening.{opening_state, opened, first_wants as wants_in}
use Rattle.sa_kernel_model.proofs.sound.Sound.{sound-opened}
use Rattle.sa_kernel_model.proofs.sound.Held.{stays-closed}
use Rattle.sa_laws.specs.Readings.{Readings, opening_readings, demand_of, untold_of, is_fetching}
use Rattle.sa_laws.specs.Record.{after_record, mark_after}
use Rattle.sa_laws.specs.History.{Test, event_begun, behind_all, after_records, after_event}
use Rattle.sa_laws.specs.Opening.{first_wants, opening_records, opening_event}
use Rattle.sa_laws.specs.Closing.{must_want, want_one, spaces_of, wants_due, aims_due, lines_due, must_interrupt, line_due, has_untold, will_tell}
use Rattle.sa_laws.proofs.Records.{records-append}
use Rattle.sa_laws.proofs.Closings.{closing-aims}
use Rattle.sa_kernel_laws.specs.Overview.{Overview, overview, read_off}
use Rattle.sa_kernel_laws.specs.Kept.{IsOf, IsTidy, IdleAlike, AreDistinct, add_claim, block_claim}
use Rattle.sa_kernel_laws.specs.Laws.{OpeningIs, OpeningKeeps}
use Rattle.sa_kernel_laws.proofs.overview.Records.{overview-ended}
use Rattle.sa_kernel_laws.proofs.overview.Idle.{idles, idles-ended}
use Rattle.sa_kernel_laws.proofs.entries.Walks.{not-empty}
use Rattle.sa_kernel_laws.proofs.closings.Wants.{spaces_from, nothing-heard}
use Rattle.sa_kernel_laws.proofs.turns.WholeTurn.{Closing, closing-walk, closing-leaves, last-some}
use Rattle.sa_kernel_laws.proofs.turns.Kept.{tidy-closed, idle-closed}

-- event 0, and its processor
abbrev pub zeroth : ProcNo
zeroth = proc_no 0

-- the first wants
wants-same : (s n : ℕ) → wants_in s n ≡ map want_one (spaces_from s n)
wants-same s zero = refl
wants-same s (suc n) = ap (λ xs. want_one (space_no s) ∷ xs) (wants-same (s + 1) n)

set-next : (xs zs : List ℕ) (old new : ℕ) → slice_set (xs ++ old ∷ zs) (length xs) new ≡ (xs ++ new ∷ []) ++ zs
set-next [] zs old new = refl
set-next (x ∷ xs) zs old new = ap (λ ys. x ∷ ys) (set-next xs zs old new)

at-next : (xs zs : List ℕ) (old : ℕ) → get_or (xs ++ old ∷ zs) (length xs) 0 ≡ old
at-next [] zs old = refl
at-next (x ∷ xs) zs old = at-next xs zs old

unmarked-first : (last : Option Record) (old : ℕ) (mark : Bool) → old ≡ 0 → mark ≡ false → mark_after last old 1 mark ≡ false
unmarked-first None old mark none is = ap (nat_lt 1) none
unmarked-first (Some x) old mark none is = is

first-reads : (w : WorkloadView) (e : ℕ) (p : ProcNo) (c : Readings) (marks : ℕ) (xs : List ℕ) (n : ℕ) → c.marks ≡ replicate marks false
    → c.demands ≡ xs ++ replicate n 0 → overview (after_records w e p c (map want_one (spaces_from (length xs) n)))
    ≡ (record (overview c) { demands = xs ++ replicate n 1 })
first-reads w e p c marks xs zero none demands = λ i. record (overview c) { demands = demands i }
first-reads w e p c marks xs (suc n) none demands =
    let s = length xs in
    let next = after_record w e p c (want_one (space_no s)) in
    let was : get_or c.marks p.0 false ≡ false = ap (λ ms. get_or ms p.0 false) none ∙ all-same marks p.0 false in
    let old : demand_of c (space_no s) ≡ 0 = ap (λ ds. get_or ds s 0) demands ∙ at-next xs (replicate n 0) 0 in
    let mark : mark_after c.last (demand_of c (space_no s)) 1 (get_or c.marks p.0 false) ≡ get_or c.marks p.0 false =
    unmarked-first c.last (demand_of c (space_no s)) (get_or c.marks p.0 false) old was ∙ sym was in
    let same : next.marks ≡ c.marks = ap (slice_set c.marks p.0) mark ∙ set-get_or c.marks p.0 false in
    let more : next.demands ≡ (xs ++ 1 ∷ []) ++ replicate n 0 = ap (λ ds. slice_set ds s 1) demands ∙ set-next xs (replicate n 0) 0 1 in
    let len : s + 1 ≡ length (xs ++ 1 ∷ []) = sym (length_push xs 1) in
    let F : List Bool → List ℕ → Overview = λ ms ds. record (overview c) { assign = record (overview c).assign { marks = ms }; demands = ds } in
    ap (λ i. overview (after_records w e p next (map want_one (spaces_from i n)))) len
    ∙ first-reads w e p next marks (xs ++ 1 ∷ []) n (same ∙ none) more
    ∙ (λ i. F (same i) (append_assoc xs (1 ∷ []) (replicate n 1) i))

-- at the beginning nothing is evicted
evicts-none : (spaces : ℕ) (es : List Evict) (pages : List ℕ) → All (IsEviction spaces) es → evicted 0 es pages ≡ pages
evicts-none spaces [] pages all = refl
evicts-none spaces (e ∷ es) pages all =
    let later = All-head (IsEviction spaces) e es all in
    ap (λ b. evicted 0 es (cond b (gone pages e.space.0 e.page) pages)) (ne_eqb e.event 0 (λ is. let first = later.first in omega arith))
    ∙ evicts-none spaces es pages (All-tail (IsEviction spaces) e es all)

pub begins-same : (w : WorkloadView) → IsWorkload w → event_begun w (opening_event w) (opening_readings w) ≡ opening_readings w
begins-same w ok =
    let r = opening_readings w in
    let lines : slice_set r.lines 0 None ≡ r.lines = ap (slice_set r.lines 0) (sym (all-same w.processors 0 no_line)) ∙ set-get_or r.lines 0 None in
    let pages = evicts-none (length w.spaces) w.evictions r.pages ok.evictions in
    λ i. record r { lines = lines i; pages = pages i }
  where
    no_line : Option ℕ
    no_line = None

-- the moment after the first wants
abbrev pub wanting : WorkloadView → Readings
wanting w = after_records w 0 zeroth (opening_readings w) (first_wants w)

pub wanting-reads : (C : Type 0) (w : WorkloadView) → IsWorkload w → overview (wanting w) ≡ read_off (opening_state {C = C} w)
wanting-reads C w ok =
    let n = length w.spaces in
    let nothing : List ℕ = [] in
    let none : List ActNo = [] in
    let k : KernelState C = opening_state w in
    let taken : replicate n none ≡ take (length k.fixed.priorities) k.taken =
    sym (ap (λ i. take i (replicate MAX_SPACES none)) (length-map w.spaces (λ (s : SpaceView). s.priority)) ∙ take-replicate n MAX_SPACES none ok.few_spaces) in
    let F : List (List ActNo) → Overview = λ t. record (read_off k) { taken = t } in
    first-reads w 0 zeroth (opening_readings w) w.processors nothing n refl refl ∙ ap F taken

-- nothing waits
pub untold-none : (c : Readings) (n : ℕ) (s : SpaceNo) → c.untold ≡ replicate n [] → get_or c.untold s.0 [] ≡ []
untold-none c n s is = ap (λ us. get_or us s.0 []) is ∙ all-same n s.0 no_notes where
  no_notes : List Note
  no_notes = []

pub no-wants : (w : WorkloadView) (c : Readings) (n : ℕ) → c.untold ≡ replicate n [] → wants_due w c ≡ []
no-wants w c n is = ap (map want_one) (none-left (must_want c) (spaces_of w) (λ s. nothing-heard c s (untold-none c n s is)))

pub no-lines_due : (w : WorkloadView) (c : Readings) (n : ℕ) → c.untold ≡ replicate n [] → lines_due w c ≡ []
no-lines_due w c n is =
    ap (filter_map (line_due w c)) (none-left (must_interrupt w c) (spaces_of w) (λ s. quiet s (untold-none c n s is))) where
      quiet : (s : SpaceNo) → untold_of c s ≡ [] → must_interrupt w c s ≡ false
      quiet s none = ap (λ ns. has_untold ns && not (is_fetching c s) && is_none (least_below w.processors (will_tell c s))) none

some-wants : (n : ℕ) → 1 ≤ n → map want_one (spaces_from 0 n) ≢ []
some-wants zero some = absurd (omega arith)
some-wants (suc n) some = not-empty (want_one (space_no 0)) (map want_one (spaces_from 1 n))

module _ (C : Type 0) where
  abbrev pub opening_scene : WorkloadView → Scene C
  opening_scene w = record { state = opening_state w; items = items_at 0 zeroth (wants_in 0 (length w.spaces)) }

  opening-of : (w : WorkloadView) → IsOf w (opening_state {C = C} w)
  opening-of w = (let one : ℕ = 1 in let none : Option ActNo = None in
      record { fixed = refl; processors = length-replicate w.processors none; spaces = length-replicate (length w.spaces) one })

  opening-idle : (w : WorkloadView) (c : Readings) → IdleAlike (opening_state {C = C} w) c
  opening-idle w c s a has =
      absurd (let none = subst (λ ns. Contains ns (Preempted a)) (all-same (length w.spaces) s no_notes) has in let below = none.1 in omega arith) where
        no_notes : List Note
        no_notes = []

  opening-tidy : (w : WorkloadView) → IsTidy (opening_state {C = C} w)
  opening-tidy w = record {
    added = λ s. ap (sum_by add_claim) (all-same (length w.spaces) s no_notes);
    blocked = λ s a. let none = ap (sum_by (block_claim a)) (all-same (length w.spaces) s no_notes) in omega arith;
    fetched = λ s. omega arith;
    taken = λ s. subst (λ ids. AreDistinct ids) (sym (all-same MAX_SPACES s no_acts)) tt;
  } where
    no_notes : List Note
    no_notes = []

    no_acts : List ActNo
    no_acts = []

  -- the opening is the first wants, and after them the aims that are due
  pub record Opened (w : WorkloadView) : Type 0 where
    pub closing : Closing w 0 zeroth (wanting w) (opening_scene w)
    pub wanted : closing.wanted ≡ wanting w
    pub aimed : closing.aimed ≡ after_records w 0 zeroth (opening_readings w) (opening_records w)
    pub lined : closing.lined ≡ after_records w 0 zeroth (opening_readings w) (opening_records w)
    pub untold : (after_records w 0 zeroth (opening_readings w) (opening_records w)).untold ≡ replicate (length w.spaces) []
    pub items : (opened {C = C} w).items ≡ items_at 0 zeroth (opening_records w)

  pub opened-is : (w : WorkloadView) → IsWorkload w → Opened w
  opened-is w ok =
      let n = length w.spaces in
      let m = wanting w in
      let y = opening_scene w in
      let reads = wanting-reads C w ok in
      let none_owner : Option SpaceNo = None in
      let last : IsSome m.last = last-some w 0 zeroth (opening_readings w) (first_wants w) (some-wants n ok.some_space) in
      let cl = closing-walk w 0 zeroth m y (opening-of w) (length-replicate w.processors none_owner) reads (opening-idle w m) last in
      let untold : m.untold ≡ replicate n [] = ap (λ (v : Overview). v.untold) reads in
      let wd : wants_due w m ≡ [] = no-wants w m n untold in
      let wanted : cl.wanted ≡ m = cl.wanted_is ∙ ap (after_records w 0 zeroth m) wd in
      let al = records_of 0 cl.wanted.lines (aims_due w 0 cl.wanted) in
      let am = records_of 0 m.lines (aims_due w 0 m) in
      let same : al ≡ am = ap (λ (c : Readings). records_of 0 c.lines (aims_due w 0 c)) wanted in
      let all : after_records w 0 zeroth (opening_readings w) (opening_records w) ≡ after_records w 0 zeroth m am =
      records-append w 0 zeroth (opening_readings w) (first_wants w) am in
      let aimed : cl.aimed ≡ after_records w 0 zeroth (opening_readings w) (opening_records w) =
      cl.aimed_is ∙ ap (λ (c : Readings). after_records w 0 zeroth c (records_of 0 c.lines (aims_due w 0 c))) wanted ∙ sym all in
      let left : (after_records w 0 zeroth m am).untold ≡ m.untold = (closing-leaves w 0 zeroth m am (closing-aims 0 m.lines (aims_due w 0 m))).untold in
      let late : (after_records w 0 zeroth (opening_readings w) (opening_records w)).untold ≡ replicate n [] =
      ap (λ (c : Readings). c.untold) all ∙ left ∙ untold in
      let ld : lines_due w cl.aimed ≡ [] = no-lines_due w cl.aimed n (ap (λ (c : Readings). c.untold) aimed ∙ late) in
      let lined : cl.lined ≡ after_records w 0 zeroth (opening_readings w) (opening_records w) =
      cl.lined_is ∙ ap (after_records w 0 zeroth cl.aimed) ld ∙ aimed in
      let closings : wants_due w m ++ (al ++ lines_due w cl.aimed) ≡ am =
      ap (λ xs. xs ++ (al ++ lines_due w cl.aimed)) wd ∙ ap (λ xs. al ++ xs) ld ∙ append-nil al ∙ same in
      let first : items_at 0 zeroth (wants_in 0 n) ≡ items_at 0 zeroth (first_wants w) = ap (items_at 0 zeroth) (wants-same 0 n) in
      record {
        closing = cl;
        wanted = wanted;
        aimed = aimed;
        lined = lined;
        untold = late;
        items =
            cl.adds ∙ ap (λ xs. y.items ++ items_at 0 zeroth xs) closings ∙ ap (λ is. is ++ items_at 0 zeroth am) first
            ∙ sym (items_at-append 0 zeroth (first_wants w) am);
      }

  -- what is read after the opening
  pub opening-reads : (test : Test) (w : WorkloadView) → IsWorkload w → (o : Opened w)
      → overview (after_event test w (opening_readings w) (opening_event w)) ≡ read_off (opened {C = C} w).state
  opening-reads test w ok o =
      overview-ended test w (opening_readings w) (opening_event w) (behind_all w (opening_event w) (opening_readings w))
      ∙ ap (λ (c : Readings). overview (after_records w 0 zeroth c (opening_records w))) (begins-same w ok) ∙ ap overview (sym o.lined) ∙ o.closing.reads

pub opening-is : (C : Type 0) → OpeningIs C
opening-is C w ok = (opened-is C w ok).items

pub opening-keeps : (C : Type 0) → OpeningKeeps C
opening-keeps C test w ok =
    let o = opened-is C w ok in
    let y = opening_scene C w in
    let new = closed 0 zeroth y in
    let of = opening-of C w in
    let after = after_event test w (opening_readings w) (opening_event w) in
    let end = behind_all w (opening_event w) (opening_readings w) in
    let lives : idles after.lives ≡ idles (wanting w).lives =
    idles-ended test w (opening_readings w) (opening_event w) end
    ∙ ap (λ (c : Readings). idles (after_records w 0 zeroth c (opening_records w)).lives) (begins-same w ok)
    ∙ ap (λ (c : Readings). idles c.lives) (sym o.lined) ∙ ap idles o.closing.lives in
    record {
      sound = sound-opened w ok;
      of = record {
        fixed = o.closing.fixed;
        processors = ap (λ (ls : List (Option ActNo)). length ls) (stays-closed 0 zeroth y).lives ∙ of.processors;
        spaces = o.closing.spaces;
      };
      tidy = tidy-closed 0 zeroth y (opening-tidy C w);
      reads = opening-reads C test w ok o;
      idle = idle-closed 0 zeroth y (wanting w) after lives (opening-idle C w (wanting w));
    }
