-- The lives at the end of an event.
use Rattle.std.proofs.Common.{◌≡◌, ℕ, zero, suc, refl, sym, ◌∙◌, ◌+◌, ap, Bool, true, false, List, [], ◌∷◌, length, take, drop, Option, Some, None, inl, inr, if◌then◌else◌, nat_lt}
use Rattle.std.specs.Prelude.{not, ◌&&◌, ◌||◌}
use Rattle.std.specs.List.{list_any, prefix_len}
use Rattle.std.specs.Option.{option_map}
use Rattle.std.proofs.lemmas.Bool.{cases_eq, cases_Bool}
use Rattle.sa_lemmas.proofs.FunctionUpdates.{put-at, put-other}
use Rattle.sa_base.specs.declared.number.ProcNo.{ProcNo}
use Rattle.sa_base.specs.declared.number.ActNo.{ActNo}
use Rattle.sa_base.specs.declared.record.Record.{Record}
use Rattle.sa_base.specs.declared.record.Record.TheVariants.{Ins, Out, Run, Stop, Block, Unblock, Cont, Back, Ready, Take, Free, Up, Told, Move, Want, Aim, Line, Fetch, Fetched, GiveBack, Idle, Spin, Tick}
use Rattle.sa_spaces.specs.Workload.{WorkloadView}
use Rattle.sa_lemmas.proofs.Options.{option_map_some}
use Rattle.sa_laws.specs.Event.{Event}
use Rattle.sa_laws.specs.Life.{Life}
use Rattle.sa_laws.specs.Readings.{Readings, running_of, life_if, life_on, demand_of}
use Rattle.sa_laws.specs.Record.{with_life}
use Rattle.sa_laws.specs.Shape.{is_own, own_part, closing_part}
use Rattle.sa_laws.specs.Any.{says_idle, has_heard_hand, is_tied, begins_local}
use Rattle.sa_laws.specs.History.{Test, behind, ended, stepped, arisen, is_step, is_up, settles, scans_after, with_step, with_up}
use Rattle.sa_ranks.specs.Pairs.{has_pair}
use Rattle.sa_ranks.specs.Inside.{is_of_entry, begins_entry, has_entry, settling}
use Rattle.sa_check_lives.specs.declared.change.Stepped.{Stepped}
use Rattle.sa_check_lives.specs.declared.change.Scan.TheVariants.{Same, Over}
use Rattle.sa_check_lives.specs.Change.{stepped_by, scans_by}
use Rattle.sa_check_lives.specs.View.{LivesView, lives_of, read_of}
use Rattle.sa_check_lives.proofs.ReadLemmas.{steps-read, ups-read}
use Rattle.sa_base.specs.declared.package.RulesName.{RulesName}
use Rattle.sa_base.specs.declared.package.RulesName.TheVariants.{FastThreads, Priorities, Any}
use Rattle.sa_ranks.specs.Packages.{rules_named}
use Rattle.sa_check_moment.specs.Seen.{Seen, Kept, seen, at_end, event, lowers}
use Rattle.sa_check_moment.specs.Urged.{is_closed, asks_last}
use Rattle.sa_check_moment.specs.Ending.{IsOver, is_inside_at, idles_by, is_in_by, is_in_if, settles_by, scan_by, step_with, step_by, up_by, stepped_if, arisen_if}
use Rattle.sa_check_moment.proofs.JoinLemmas.{seen-as}

module _ (before after : Readings) (others : List Record) where
  settles-same : (x : Record) → settles_by (lowers before (x ∷ others)) after x ≡ settles before after x
  settles-same (Ins s t i) = refl
  settles-same _ = refl

  want_scan : (low : Bool) (scans : ℕ) → scans_by (if low then Same else Over) scans ≡ (if low then scans else 0)
  want_scan true scans = refl
  want_scan false scans = refl

  scans-same : (x : Record) (scans : ℕ) → scans_by (scan_by (lowers before (x ∷ others)) x) scans ≡ scans_after before x scans
  scans-same (Want s n) scans = want_scan (nat_lt n (demand_of before s)) scans
  scans-same _ scans = refl

-- whether an event says that its life is idle, by what is known of its first record
idles-same : (before : Readings) (xs : List Record) → idles_by (lowers before xs) xs ≡ says_idle before xs
idles-same before [] = refl
idles-same before (Want s n ∷ others) = refl
idles-same before (x ∷ others) = refl

idles-are : (before : Readings) (xs ys : List Record) → xs ≡ ys → idles_by (lowers before ys) xs ≡ says_idle before xs
idles-are before xs ys are = ap (λ zs. idles_by (lowers before zs) xs) (sym are) ∙ idles-same before xs

-- where an event has no closing, its own part is all of it
front-all : (n : ℕ) (xs : List Record) → drop (length (take n xs)) xs ≡ [] → take n xs ≡ xs
front-all zero xs none = sym none
front-all (suc n) [] none = refl
front-all (suc n) (x ∷ xs) none = ap (λ ys. x ∷ ys) (front-all n xs none)

closed-none : (xs : List Record) → is_closed xs ≡ true → xs ≡ []
closed-none [] closed = refl
closed-none (x ∷ xs) closed = absurd cc

own-all : (xs : List Record) → is_closed (closing_part xs) ≡ true → own_part xs ≡ xs
own-all [] closed = refl
own-all (x ∷ xs) closed = ap (λ ys. x ∷ ys) (front-all (prefix_len is_own xs) xs (closed-none (closing_part (x ∷ xs)) closed))

-- an event with an up has an entry
up-entry : (xs : List Record) → list_any is_up xs ≡ true → list_any is_of_entry xs ≡ true
up-entry [] up = absurd cc
up-entry (x ∷ xs) up = by x (up-entry xs) up where
  by : (y : Record) → (list_any is_up xs ≡ true → list_any is_of_entry xs ≡ true) → list_any is_up (y ∷ xs) ≡ true → list_any is_of_entry (y ∷ xs) ≡ true
  by (Up s a) others up = refl
  by (Ins s t i) others up = others up
  by (Out s t value) others up = others up
  by (Run s t) others up = others up
  by (Stop s t a) others up = refl
  by (Block s t a io) others up = refl
  by (Unblock s t a) others up = refl
  by (Cont s t) others up = others up
  by (Back s t) others up = others up
  by (Ready s t) others up = others up
  by (Take s l t) others up = others up
  by (Free s l t) others up = others up
  by (Told n) others up = others up
  by (Move old new) others up = refl
  by (Want s n) others up = others up
  by (Aim q s) others up = others up
  by (Line q) others up = others up
  by (Fetch s) others up = others up
  by (Fetched s) others up = refl
  by (GiveBack a) others up = refl
  by Idle others up = others up
  by (Spin l) others up = others up
  by Tick others up = others up

up-asks : (xs : List Record) → list_any is_up xs ≡ true → asks_last xs ≡ true
up-asks [] up = absurd cc
up-asks (x ∷ xs) up = by (begins_entry x) (list_any is_of_entry (x ∷ xs)) (up-entry (x ∷ xs) up) where
  by : (b c : Bool) → c ≡ true → ((b || c) || is_closed (closing_part (x ∷ xs))) ≡ true
  by true c is = refl
  by false true is = refl
  by false false is = absurd cc

module _ (m : Seen) (before : Readings) (number : ℕ) (p : ProcNo) (records : List Record) (urged : Bool)
    (over : IsOver before (event number p records) urged m) where
  abbrev e : Event
  e = event number p records

  abbrev w : WorkloadView
  w = m.workload

  abbrev r : Readings
  r = m.readings

  abbrev test : Test
  test = (rules_named m.rules).inside

  -- pairs are asked for where it was said
  asked : asks_last records ≡ true → settling w before e r ≡ r
  asked last = by (has_entry records) refl where
    by : (b : Bool) → has_entry records ≡ b → settling w before e r ≡ r
    by true has = ap (λ b. if b then r else behind w e before (own_part records)) has
    by false has =
        let closed : is_closed (closing_part records) ≡ true = sym (ap (λ b. b || is_closed (closing_part records)) has) ∙ last in
        ap (λ b. if b then r else behind w e before (own_part records)) has ∙ ap (behind w e before) (own-all records closed) ∙ sym over.moment

  owes-is : m.rules ≡ Priorities → (life : Life) → (asks_last records ≡ false → life_if r (running_of before p) ≡ Some life)
      → (if asks_last records then has_pair w r life.space else urged) ≡ has_pair w (settling w before e r) life.space
  owes-is ranks life runs = elim (cases_Bool (asks_last records)) [
    | inl last ↦
        ap (λ b. if b then has_pair w r life.space else urged) last ∙ sym (ap (λ (q : Readings). has_pair w q life.space) (asked last))
    | inr early ↦ ap (λ b. if b then has_pair w r life.space else urged) early ∙ over.pairs.known ranks early life (runs early)
  ]

  -- whether a want lowers the demand is known of these records
  module _ (low : Bool) (known : idles_by low records ≡ says_idle before records) where
    in-by : (l : RulesName) → m.rules ≡ l → (settled : Bool) (life : Life) → (asks_last records ≡ false → life_if r (running_of before p) ≡ Some life)
        → is_in_by l m low settled records urged life ≡ (rules_named l).inside w before e r settled life
    in-by FastThreads is settled life runs = refl
    in-by Priorities is settled life runs = ap (λ b. is_inside_at m settled life || (settled && b)) (owes-is is life runs)
    in-by Any is true life runs = refl
    in-by Any is false life runs =
        ap (λ b. if begins_local w r records then life.inside else (has_heard_hand r life || (not b && is_tied life))) known

    -- a life that is there by its number is the one whose test was made
    tested : (settled : Bool) (a : Option ActNo) (act : ActNo) (life : Life) → a ≡ Some act → r.lives act.0 ≡ Some life
        → (asks_last records ≡ false → a ≡ running_of before p)
        → is_in_if m low settled records urged (life_if r a) ≡ test w before e r settled life
    tested settled a act life at here runs =
        ap (λ o. is_in_if m low settled records urged (life_if r o)) at ∙ ap (is_in_if m low settled records urged) here
        ∙ in-by m.rules refl settled life (λ early. ap (life_if r) (sym (runs early) ∙ at) ∙ here)

  -- what a step changes, the test does not look at
  same-test : (l : RulesName) (x : Stepped) (life : Life) → (rules_named l).inside w before e r true (stepped_by x life) ≡ (rules_named l).inside w before e r true life
  same-test FastThreads x life = refl
  same-test Priorities x life = refl
  same-test Any x life = refl

  -- the step
  step-same : (first : Record) (others : List Record) → records ≡ first ∷ others → let a = running_of before p in
      with_life (stepped test w before e r first) a r.lives
      ≡ with_life (stepped_by (step_with m (lowers before (first ∷ others)) a urged records first)) a r.lives
  step-same first others are =
      let a = running_of before p in
      steps-read test w before e r first a r.lives (step_with m (lowers before (first ∷ others)) a urged records first) (record {
        freed = refl;
        scan = scans-same before r others first;
        inside = λ act life at here.
            tested (lowers before (first ∷ others)) (idles-are before records (first ∷ others) are)
            (settles_by (lowers before (first ∷ others)) r first) a act life at here (λ early. refl)
            ∙ ap (λ settled. test w before e r settled life) (settles-same before r others first);
      })

  step-if : (b : Bool) (first : Record) (others : List Record) → records ≡ first ∷ others → let a = running_of before p in
      (if b then with_life (stepped test w before e r first) a r.lives else r.lives)
      ≡ (stepped_if (if b then Some (step_with m (lowers before (first ∷ others)) a urged records first) else None) a (read_of r)).lives
  step-if true first others are = step-same first others are
  step-if false first others are = refl

  after-step : (xs : List Record) → records ≡ xs → with_step test w before e r xs r.lives
      ≡ (stepped_if (step_by m (lowers before xs) (running_of before p) urged xs) (running_of before p) (read_of r)).lives
  after-step [] are = refl
  after-step (first ∷ others) are =
      step-if (is_step first) first others are
      ∙ ap (λ (ys : List Record). (stepped_if (if is_step first
      then Some (step_with m (lowers before (first ∷ others)) (running_of before p) urged ys first) else None) (running_of before p) (read_of r)).lives) are

  tested_after : (x : Stepped) (a : Option ActNo) (act : ActNo) (life : Life) → asks_last records ≡ true → running_of r p ≡ Some act
      → with_life (stepped_by x) a r.lives act.0 ≡ Some life → is_in_if m (lowers before records) true records urged (life_on r p) ≡ test w before e r true life
  tested_after x None act life last at here = tested (lowers before records) (idles-are before records records refl) true (running_of r p) act life at here (λ early. absurd (let clash = sym last ∙ early in cc))
  tested_after x (Some b) act life last at here =
      let new = option_map (stepped_by x) (r.lives b.0) in
      let late : asks_last records ≡ false → running_of r p ≡ running_of before p = λ early. absurd (let clash = sym last ∙ early in cc) in
      elim (cases_eq act.0 b.0) [
        | inl same ↦
            let old = option_map_some (stepped_by x) (r.lives b.0) life (sym (put-at r.lives b.0 act.0 new same) ∙ here) in
            tested (lowers before records) (idles-are before records records refl) true (running_of r p) act old.0 at (ap r.lives same ∙ old.1) late ∙ sym (same-test m.rules x old.0)
            ∙ ap (λ (l : Life). test w before e r true l) old.2
        | inr apart ↦ tested (lowers before records) (idles-are before records records refl) true (running_of r p) act life at (sym (put-other r.lives b.0 act.0 new apart) ∙ here) late
      ]

  up-same : (b : Bool) → (b ≡ true → asks_last records ≡ true) → (x : Option Stepped) (a : Option ActNo)
      → (if b then with_life (arisen test w before e r) (running_of r p) (stepped_if x a (read_of r)).lives else (stepped_if x a (read_of r)).lives)
      ≡ (arisen_if (if b then Some (is_in_if m (lowers before records) true records urged (life_on r p)) else None) p (stepped_if x a (read_of r))).lives
  up-same false asks x a = refl
  up-same true asks None a =
      ups-read test w before e r (running_of r p) r.lives (is_in_if m (lowers before records) true records urged (life_on r p))
      (λ act life at here. tested (lowers before records) (idles-are before records records refl) true (running_of r p) act life at here (λ early. absurd (let clash = sym (asks refl) ∙ early in cc)))
  up-same true asks (Some x) a =
      ups-read test w before e r (running_of r p) (with_life (stepped_by x) a r.lives) (is_in_if m (lowers before records) true records urged (life_on r p))
      (λ act life at here. tested_after x a act life (asks refl) at here)

  -- the rest of what is read of lives stays
  rest-same : (up : Option Bool) (x : Option Stepped) (a : Option ActNo)
      → arisen_if up p (stepped_if x a (read_of r)) ≡ record (read_of r) { lives = (arisen_if up p (stepped_if x a (read_of r))).lives }
  rest-same None None a = refl
  rest-same None (Some x) a = refl
  rest-same (Some inside) None a = refl
  rest-same (Some inside) (Some x) a = refl

  pub ended-lives : arisen_if (up_by m (lowers before records) p urged records) p
      (stepped_if (step_by m (lowers before records) (running_of before p) urged records) (running_of before p) (read_of r))
      ≡ read_of (ended test w before e r)
  ended-lives =
      let a = running_of before p in
      let x = step_by m (lowers before records) a urged records in
      rest-same (up_by m (lowers before records) p urged records) x a
      ∙ ap (λ (lives : ℕ → Option Life). let v : LivesView = record (read_of r) { lives = lives } in v)
      (sym (up-same (list_any is_up records) (up-asks records) x a)
      ∙ ap (λ (lives : ℕ → Option Life). with_up test w before e r lives) (sym (after-step records refl)))

pub finish-whole : (m n : Kept) (before : Readings) (number : ℕ) (p : ProcNo) (records : List Record) (urged : Bool) (running : Option ActNo) (low : Bool)
    → IsOver before (event number p records) urged (seen m) → running ≡ running_of before p → low ≡ lowers before records
    → n.rules ≡ m.rules → n.workload ≡ m.workload → n.number ≡ m.number + 1 → n.state ≡ m.state → n.board ≡ m.board
    → lives_of n.lives ≡ arisen_if (up_by (seen m) low p urged records) p
    (stepped_if (step_by (seen m) low running urged records) running (lives_of m.lives))
    → n.pending ≡ m.pending → n.ready ≡ m.ready → n.last ≡ None → n.moved ≡ None → seen n ≡ at_end before number p records (seen m)
unfolding seen
finish-whole m n before number p records urged running low over runs is of workload count state board lives pending ready last moved =
    let r = (seen m).readings in
    let test = (rules_named m.rules).inside in
    let read : lives_of n.lives ≡ read_of (ended test m.workload before (event number p records) r) =
    lives
    ∙ ap (λ (b : Bool). arisen_if (up_by (seen m) b p urged records) p (stepped_if (step_by (seen m) b running urged records) running (read_of r))) is
    ∙ ap (λ (a : Option ActNo). arisen_if (up_by (seen m) (lowers before records) p urged records) p
    (stepped_if (step_by (seen m) (lowers before records) a urged records) a (read_of r))) runs
    ∙ ended-lives (seen m) before number p records urged over in
    seen-as n m.rules m.workload (m.number + 1) m.state m.board (read_of (ended test m.workload before (event number p records) r)) m.pending m.ready None None
    of workload count state board read pending ready last moved
