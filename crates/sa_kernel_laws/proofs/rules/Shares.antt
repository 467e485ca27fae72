-- Aims cover shares at the event of a turn.
use Rattle.std.proofs.Common.{◌≡◌, ℕ, zero, suc, ◌<◌, ◌≤◌, ◌+◌, inl, inr, refl, sym, ◌∙◌, ap, arith, Some, List, [], ◌∷◌, ◌++◌, length, map, sum, sum_by, true, false}
use Rattle.std.specs.Prelude.{Option, Bool, ◌==◌, ◌/◌, ◌%◌, min, max, count_by, if◌then◌else◌, slice_set, slice_index, filter}
use Rattle.std.specs.List.{list_all, list_any}
use Rattle.std.proofs.lemmas.Bool.{cases_lt}
use Rattle.std.proofs.lemmas.List.{get_or_past, get_or-map, append-nil}
use Rattle.std.proofs.lemmas.List.FromFn.{length-map-range_with_len, get_or-map-range_with_len}
use Rattle.std.proofs.lemmas.List.Sums.{sum_by-cons}
use Rattle.sa_base.specs.declared.number.SpaceNo.{SpaceNo}
use Rattle.sa_base.specs.declared.number.ProcNo.{ProcNo}
use Rattle.sa_base.specs.declared.record.Record.{Record}
use Rattle.sa_base.specs.declared.record.Record.TheVariants.{Aim, Line}
use Rattle.sa_spaces.specs.Workload.{WorkloadView, IsWorkload}
use Rattle.sa_lemmas.proofs.Searches.{while-none}
use Rattle.sa_share.specs.declared.Claim.{Claim}
use Rattle.sa_share.specs.Share.{share_at, priority_at, claim_at, IsFirst, IsShare}
use Rattle.sa_share.specs.Fair.{IsLowered}
use Rattle.sa_share.proofs.FairLemmas.{stays}
use Rattle.sa_share.proofs.RoundLemmas.{shares_of-share}
use Rattle.sa_share.proofs.ShareLemmas.{share_at-unique, share_at-past}
use Rattle.sa_assign.specs.Aims.{Change, aimed, is_aim, space_no, aims_with, aims_after}
use Rattle.sa_assign.specs.Laws.{is_for}
use Rattle.sa_assign.specs.Reaim.{proc_no, line_at, lines_with, line_records, records_of}
use Rattle.sa_assign.proofs.AimLemmas.{all-filled}
use Rattle.sa_devices.specs.Ios.{Io, fetches}
use Rattle.sa_kernel_model.specs.State.{KernelState}
use Rattle.sa_laws.specs.Readings.{Readings, demand_of, is_fetching}
use Rattle.sa_laws.specs.Record.{after_record}
use Rattle.sa_laws.specs.History.{Test, behind, behind_all, after_records, after_event}
use Rattle.sa_laws.specs.Shape.{is_no_aim, aims_in, before_aims}
use Rattle.sa_laws.specs.Closing.{want_one, must_want, spaces_of, claim_of, claims_of, first_space, shares_at, wants_due, aims_due, lines_due}
use Rattle.sa_laws.specs.Upcalls.{SharesAreCovered}
use Rattle.sa_laws.proofs.Records.{records-append}
use Rattle.sa_laws.proofs.Lengths.{claims-length}
use Rattle.sa_kernel_laws.specs.Overview.{Overview}
use Rattle.sa_kernel_laws.specs.Turn.{Turn, event_of}
use Rattle.sa_kernel_laws.specs.Laws.{HoldsAtTurns}
use Rattle.sa_kernel_laws.proofs.closings.Aims.{aims-reads}
use Rattle.sa_kernel_laws.proofs.closings.Lines.{AreLines}
use Rattle.sa_kernel_laws.proofs.turns.Shapes.{while-both, while-all, lines-aims, wants-aims, aims-of}
use Rattle.sa_kernel_laws.proofs.turns.WholeTurn.{Whole, Closing, reading_at, whole-turn}

-- aims come only by changes
set-more : {A : Type 0} (f : A → ℕ) (xs : List A) (i : ℕ) (x : A) → sum_by f (slice_set xs i x) ≤ sum_by f xs + f x
set-more f [] i x = omega arith
set-more f (y ∷ xs) zero x = let new = sum_by-cons f x xs in let old = sum_by-cons f y xs in omega arith
set-more f (y ∷ xs) (suc i) x = let new = sum_by-cons f y (slice_set xs i x) in let old = sum_by-cons f y xs in let rest = set-more f xs i x in omega arith

abbrev one_aim : ℕ → Option SpaceNo → ℕ
one_aim s a = if is_aim s a then 1 else 0

abbrev one_for : ℕ → Change → ℕ
one_for s c = if is_for s c then 1 else 0

aimed-more : (s : ℕ) (aims : List (Option SpaceNo)) (cs : List Change) → aimed s (aims_after aims cs) ≤ aimed s aims + count_by (is_for s) cs
aimed-more s aims [] = omega arith
aimed-more s aims (c ∷ cs) =
    let one = set-more (one_aim s) aims c.proc (Some (space_no c.space)) in
    let rest = aimed-more s (aims_with aims c) cs in
    let all = sum_by-cons (one_for s) c cs in
    omega arith

-- the claim of a space
claim-is : (w : WorkloadView) (c : Readings) (s : ℕ) → s < length w.spaces → claim_at (claims_of w c) s ≡ claim_of w c (space_no s)
claim-is w c s below =
    let len = length-map-range_with_len space_no 0 (length w.spaces) in
    get_or-map (claim_of w c) (spaces_of w) s (space_no 0) (record { priority = 0; want = 0 }) (omega arith)
    ∙ ap (claim_of w c) (get_or-map-range_with_len space_no 0 (length w.spaces) s s (space_no 0) below (omega arith))

first-is : (w : WorkloadView) (e : ℕ) (c : Readings) → 1 ≤ length w.spaces → IsFirst (first_space w e) (claims_of w c)
first-is w e c some = go (w.slice == 0) where
  go : (b : Bool) → (if b then 0 else (e / w.slice) % length w.spaces) < max 1 (length (claims_of w c))
  go true = let len = claims-length w c in omega arith
  go false = let len = claims-length w c in omega arith

-- a moment after the aims that are due
pub record IsAimed (w : WorkloadView) (e : ℕ) (c d : Readings) : Type 0 where
  pub aims : d.aims ≡ aims_after c.aims (aims_due w e c)
  pub demands : d.demands ≡ c.demands
  pub under_way : d.under_way ≡ c.under_way

abbrev want_in : Bool → ℕ → ℕ → ℕ
want_in fetching demand aims = if fetching then min demand aims else demand

falls : (b : Bool) (demand old new : ℕ) → (b ≡ true → new ≤ old) → want_in b demand new ≤ want_in b demand old
falls true demand old new less = let l = less refl in omega arith
falls false demand old new less = omega arith

covers : (b : Bool) (demand old new share : ℕ) → share ≤ want_in b demand old → share ≤ new → share ≤ want_in b demand new
covers true demand old new share few met = omega arith
covers false demand old new share few met = few

few-aims : (b : Bool) (demand old share : ℕ) → share ≤ want_in b demand old → b ≡ true → share ≤ old
few-aims true demand old share few is = omega arith
few-aims false demand old share few is = absurd (cc)

want-same : (w : WorkloadView) (e : ℕ) (c d : Readings) (t : ℕ) → IsAimed w e c d
    → (claim_of w d (space_no t)).want ≡ want_in (is_fetching c (space_no t)) (demand_of c (space_no t)) (aimed t d.aims)
want-same w e c d t after =
    let F : List ℕ → List Io → ℕ = λ demands ios. want_in (list_any (fetches t) ios) (slice_index demands t) (aimed t d.aims) in
    λ i. F (after.demands i) (after.under_way i)

priority-same : (w : WorkloadView) (c d : Readings) (t : ℕ) → priority_at (claims_of w d) t ≡ priority_at (claims_of w c) t
priority-same w c d t = elim (cases_lt t (length w.spaces)) [
  | inl below ↦ ap (λ (x : Claim). x.priority) (claim-is w d t below) ∙ sym (ap (λ (x : Claim). x.priority) (claim-is w c t below))
  | inr past ↦
      (let none : Claim = record { priority = 0; want = 0 } in
      let old = claims-length w c in
      let new = claims-length w d in
      ap (λ (x : Claim). x.priority) (get_or_past (claims_of w d) t none (omega arith))
      ∙ sym (ap (λ (x : Claim). x.priority) (get_or_past (claims_of w c) t none (omega arith))))
]

pub covered : (w : WorkloadView) (e : ℕ) (c d : Readings) → IsWorkload w → length c.aims ≡ w.processors → IsAimed w e c d → (s : ℕ)
    → share_at (shares_at w e d) s ≤ aimed s d.aims
covered w e c d ok len after s =
    let first = first_space w e in
    let old = claims_of w c in
    let new = claims_of w d in
    let n = length w.spaces in
    let old_len = claims-length w c in
    let new_len = claims-length w d in
    let shares = shares_at w e c in
    let few = ok.few_spaces in
    let some = ok.some_space in
    let share : IsShare w.processors first old shares = shares_of-share w.processors first old (omega arith) (first-is w e c some) in
    let fits : sum shares ≤ length c.aims = (let total = share.total in omega arith) in
    let filled = all-filled 0 n shares c.marks c.aims fits in
    let aims : (t : ℕ) → aimed t d.aims ≡ aimed t (aims_after c.aims (aims_due w e c)) = λ t. ap (aimed t) after.aims in
    let met : (t : ℕ) → t < n → share_at shares t ≤ aimed t d.aims =
    λ t below. (let m = filled.met t (omega arith) (omega arith) in let a = aims t in omega arith) in
    let lowered : IsLowered old new shares = record {
      spaces = new_len ∙ sym old_len;
      priority = λ t. priority-same w c d t;
      fallen = λ t. elim (cases_lt t n) [
        | inl below ↦
            (let was = ap (λ (x : Claim). x.want) (claim-is w c t below) in
            let now = ap (λ (x : Claim). x.want) (claim-is w d t below) in
            let same = want-same w e c d t after in
            let within = share.within t in
            let less = falls (is_fetching c (space_no t)) (demand_of c (space_no t)) (aimed t c.aims) (aimed t d.aims) (λ is.
            (let enough = few-aims (is_fetching c (space_no t)) (demand_of c (space_no t)) (aimed t c.aims) (share_at shares t) (omega arith) is in
            let count = filled.count t (omega arith) (omega arith) in
            let more = aimed-more t c.aims (aims_due w e c) in
            let a = aims t in
            omega arith)) in
            omega arith)
        | inr past ↦
            (let now = ap (λ (x : Claim). x.want) (get_or_past new t (record { priority = 0; want = 0 }) (omega arith)) in
            omega arith)
      ];
      covered = λ t. elim (cases_lt t n) [
        | inl below ↦
            (let was = ap (λ (x : Claim). x.want) (claim-is w c t below) in
            let now = ap (λ (x : Claim). x.want) (claim-is w d t below) in
            let same = want-same w e c d t after in
            let within = share.within t in
            let m = met t below in
            let cover = covers (is_fetching c (space_no t)) (demand_of c (space_no t)) (aimed t c.aims) (aimed t d.aims) (share_at shares t) (omega arith) m in
            omega arith)
        | inr past ↦ (let none = share_at-past w.processors first old shares share t (omega arith) in omega arith)
      ];
    } in
    let still = stays w.processors first old new shares share lowered in
    let now = shares_of-share w.processors first new (omega arith) (first-is w e d some) in
    let same = share_at-unique w.processors first new (shares_at w e d) shares now still s in
    elim (cases_lt s n) [
      | inl below ↦ (let m = met s below in omega arith)
      | inr past ↦ (let none = share_at-past w.processors first old shares share s (omega arith) in omega arith)
    ]

-- a line changes nothing that claims and aims speak of
pub record SameClaims (c d : Readings) : Type 0 where
  pub aims : d.aims ≡ c.aims
  pub marks : d.marks ≡ c.marks
  pub demands : d.demands ≡ c.demands
  pub under_way : d.under_way ≡ c.under_way

pub lines-claims : (w : WorkloadView) (e : ℕ) (p : ProcNo) (c : Readings) (xs : List Record) → AreLines xs → SameClaims c (after_records w e p c xs)
lines-claims w e p c [] lines = record { aims = refl; marks = refl; demands = refl; under_way = refl }
lines-claims w e p c (Line q ∷ xs) lines =
    let rest = lines-claims w e p (after_record w e p c (Line q)) xs lines in
    record { aims = rest.aims; marks = rest.marks; demands = rest.demands; under_way = rest.under_way }
lines-claims w e p c (x ∷ xs) lines = absurd (cc)

pub wants-keep-aims : (w : WorkloadView) (e : ℕ) (p : ProcNo) (c : Readings) (ss : List SpaceNo) → (after_records w e p c (map want_one ss)).aims ≡ c.aims
wants-keep-aims w e p c [] = refl
wants-keep-aims w e p c (s ∷ ss) = wants-keep-aims w e p (after_record w e p c (want_one s)) ss

pub due-alike : (w : WorkloadView) (e : ℕ) (c d : Readings) → SameClaims c d → aims_due w e d ≡ aims_due w e c
due-alike w e c d same = λ i. aims_due w e (record c { aims = same.aims i; marks = same.marks i; demands = same.demands i; under_way = same.under_way i })

module _ {C : Type 0} where
  -- the aims of an event, and the records before them
  aims-parts : (w : WorkloadView) (k : KernelState C) (r : Readings) (t : Turn C) (whole : Whole w k r t)
      → aims_in (event_of t k).records ≡ aims_due w t.number (behind w (event_of t k) r (before_aims (event_of t k).records))
  aims-parts w k r t whole = go (aims_due w e cl.wanted) refl where
    e : ℕ
    e = t.number

    p : ProcNo
    p = t.proc

    c : Readings
    c = reading_at w r t k

    own : List Record
    own = whole.own.records

    m : Readings
    m = after_records w e p c own

    cl : Closing w e p m whole.before
    cl = whole.closing

    wl : List Record
    wl = wants_due w m

    ll : List Record
    ll = lines_due w cl.aimed

    no_line : list_all is_no_aim ll ≡ true
    no_line = lines-aims ll cl.lines

    no_want : list_all is_no_aim wl ≡ true
    no_want = wants-aims (filter (must_want m) (spaces_of w))

    inner : aims_in (event_of t k).records ≡ aims_due w e cl.wanted
    inner = ap aims_in whole.records ∙ aims-of own wl ll e cl.wanted.lines (aims_due w e cl.wanted) whole.own.no_aim no_want no_line

    said : (cs : List Change) → aims_due w e cl.wanted ≡ cs → (event_of t k).records ≡ own ++ (wl ++ (records_of e cl.wanted.lines cs ++ ll))
    said cs is = whole.records ∙ ap (λ ds. own ++ (wl ++ (records_of e cl.wanted.lines ds ++ ll))) is

    go : (cs : List Change) → aims_due w e cl.wanted ≡ cs
        → aims_in (event_of t k).records ≡ aims_due w e (behind w (event_of t k) r (before_aims (event_of t k).records))
    go [] none =
        let records : (event_of t k).records ≡ own ++ (wl ++ ll) = said [] none in
        let all : before_aims (event_of t k).records ≡ (event_of t k).records =
        ap before_aims records ∙ while-both is_no_aim own (wl ++ ll) whole.own.no_aim
        ∙ ap (λ xs. own ++ xs) (while-both is_no_aim wl ll no_want ∙ ap (λ xs. wl ++ xs) (while-all is_no_aim ll no_line)) ∙ sym records in
        let aimed : cl.aimed ≡ cl.wanted = cl.aimed_is ∙ ap (λ cs. after_records w e p cl.wanted (records_of e cl.wanted.lines cs)) none in
        let same : aims_due w e cl.lined ≡ aims_due w e cl.wanted =
        ap (aims_due w e) cl.lined_is ∙ due-alike w e cl.aimed (after_records w e p cl.aimed ll) (lines-claims w e p cl.aimed ll cl.lines)
        ∙ ap (aims_due w e) aimed in
        inner ∙ sym (ap (λ xs. aims_due w e (after_records w e p c xs)) all ∙ ap (aims_due w e) whole.behind ∙ same)
    go (d ∷ ds) is =
        let aim = Aim (proc_no d.proc) (Some (space_no d.space)) in
        let others = (line_records d.proc (line_at cl.wanted.lines d.proc) ++ records_of e (lines_with e cl.wanted.lines d) ds) ++ ll in
        let front : before_aims (event_of t k).records ≡ own ++ wl =
        ap before_aims (said (d ∷ ds) is) ∙ while-both is_no_aim own (wl ++ (aim ∷ others)) whole.own.no_aim
        ∙ ap (λ xs. own ++ xs) (while-both is_no_aim wl (aim ∷ others) no_want ∙ ap (λ xs. wl ++ xs) (while-none is_no_aim aim others refl) ∙ append-nil wl) in
        inner ∙ sym (ap (λ xs. aims_due w e (after_records w e p c xs)) front ∙ ap (aims_due w e) (records-append w e p c own wl ∙ sym cl.wanted_is))

  aims-covered : (test : Test) (w : WorkloadView) (k : KernelState C) (r : Readings) (t : Turn C) → IsWorkload w → (whole : Whole w k r t) → (s : ℕ)
      → share_at (shares_at w t.number (after_event test w r (event_of t k))) s ≤ aimed s (after_event test w r (event_of t k)).aims
  aims-covered test w k r t ok whole s =
      let e = t.number in
      let p = t.proc in
      let m = after_records w e p (reading_at w r t k) whole.own.records in
      let cl = whole.closing in
      let cs = aims_due w e cl.wanted in
      let ll = lines_due w cl.aimed in
      let after = after_event test w r (event_of t k) in
      let claims = lines-claims w e p cl.aimed ll cl.lines in
      let aims = aims-reads w e p cl.wanted cs in
      let end : behind_all w (event_of t k) r ≡ after_records w e p cl.aimed ll = whole.behind ∙ cl.lined_is in
      let len : length cl.wanted.aims ≡ w.processors =
      ap (λ (d : Readings). length d.aims) cl.wanted_is
      ∙ ap (λ (xs : List (Option SpaceNo)). length xs) (wants-keep-aims w e p m (filter (must_want m) (spaces_of w)))
      ∙ ap (λ (v : Overview). length v.assign.aims) whole.own.reads ∙ whole.sound.formed.sizes.aims ∙ whole.of.processors in
      let is : IsAimed w e cl.wanted after = record {
        aims = ap (λ (d : Readings). d.aims) end ∙ claims.aims ∙ ap (λ (d : Readings). d.aims) cl.aimed_is ∙ ap (λ (v : Overview). v.assign.aims) aims;
        demands = ap (λ (d : Readings). d.demands) end ∙ claims.demands ∙ ap (λ (d : Readings). d.demands) cl.aimed_is ∙ ap (λ (v : Overview). v.demands) aims;
        under_way =
            ap (λ (d : Readings). d.under_way) end ∙ claims.under_way ∙ ap (λ (d : Readings). d.under_way) cl.aimed_is
            ∙ ap (λ (v : Overview). v.under_way) aims;
      } in
      covered w e cl.wanted after ok len is s

pub cover-shares : (C : Type 0) → HoldsAtTurns C SharesAreCovered
cover-shares C test w k r t ok kept can =
    let whole = whole-turn w k r t kept can in
    record { covered = aims-covered test w k r t ok whole; due = aims-parts w k r t whole }
