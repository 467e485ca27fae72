-- A quiet event leaves owners, shares, wants and what is told in time as they were.
use Rattle.std.proofs.Common.{◌≡◌, ℕ, zero, suc, ◌+◌, ◌-◌, ◌≤◌, refl, sym, ◌∙◌, ap, subst, inl, inr, arith, Bool, true, false, List, [], ◌∷◌, map, length, take, drop, Option, Some, None}
use Rattle.std.specs.Prelude.{◌==◌, nat_lt, not, ◌&&◌, ◌||◌, slice_index, slice_index_or, if◌then◌else◌, is_none, slice_set}
use Rattle.std.specs.List.{list_all, list_any, prefix_len}
use Rattle.std.specs.Option.{option_map}
use Rattle.std.proofs.lemmas.Bool.{cases_eq, and_parts, or_right}
use Rattle.std.proofs.lemmas.Bool.Decides.{eqb_tells, nat_tests}
use Rattle.std.proofs.lemmas.List.{set-get_or, drop_all}
use Rattle.std.proofs.Math.Path.{fun_ext}
use Rattle.sa_base.specs.declared.number.ProcNo.{ProcNo}
use Rattle.sa_base.specs.declared.number.SpaceNo.{SpaceNo}
use Rattle.sa_base.specs.declared.number.ThreadNo.{ThreadNo}
use Rattle.sa_base.specs.declared.number.ActNo.{ActNo}
use Rattle.sa_base.specs.declared.record.Note.{Note}
use Rattle.sa_base.specs.declared.record.Note.TheVariants.{Preempted}
use Rattle.sa_base.specs.declared.record.Record.{Record}
use Rattle.sa_base.specs.declared.record.Record.TheVariants.{Ins, Out, Run, Stop, Block, Unblock, Cont, Back, Ready, Take, Free, Up, Told, Move, Want, Aim, Line, Fetch, Fetched, GiveBack, Idle, Spin, Tick}
use Rattle.sa_lemmas.proofs.FunctionUpdates.{put-same, put-other}
use Rattle.sa_share.specs.Share.{share_at}
use Rattle.sa_share.specs.Rounds.{shares_of}
use Rattle.sa_assign.specs.Aims.{aimed}
use Rattle.sa_assign.proofs.AimLemmas.{none-missing}
use Rattle.sa_spaces.specs.Workload.{WorkloadView}
use Rattle.sa_lemmas.proofs.Options.{none-is}
use Rattle.sa_lemmas.proofs.Searches.{none-left}
use Rattle.sa_devices.specs.Ios.{Io}
use Rattle.sa_laws.specs.Event.{Event}
use Rattle.sa_laws.specs.Life.{Life}
use Rattle.sa_laws.specs.declared.rule.Rule.TheVariants.{Numbered, ToldInTime, WhereOwned, WantCause, SharesCovered}
use Rattle.sa_laws.specs.Readings.{Readings, running_of, life_of, line_of, demand_of, untold_of, space_of_life, must_hear, was_idle}
use Rattle.sa_laws.specs.Ends.{LastLine}
use Rattle.sa_laws.specs.Rules.{UserRules, HoldEach, rules}
use Rattle.sa_laws.specs.Record.{after_record, with_life}
use Rattle.sa_laws.specs.History.{Test, event_begun, after_records, behind_all, is_step, is_up, with_step, with_up, stepped, arisen, after_event}
use Rattle.sa_laws.specs.Shape.{is_no_aim, is_no_want, is_other_line, aims_in, wants_in, others_of, before_aims, before_wants, before_lines, front_part, is_own, own_part, closing_part}
use Rattle.sa_laws.specs.Closing.{claims_of, spaces_of, must_want, want_one, wants_due, first_space, shares_at, aims_due}
use Rattle.sa_laws.specs.Upcalls.{RecordLaw, EachRecord, TellsOnce, NamesTheLife, TellsAllThen, GivesUpcallThen, RaisesLine, IsPrompt}
use Rattle.sa_laws.proofs.Records.{number-kept}
use Rattle.sa_histories.proofs.FirstBreaks.{holds-each}
use Rattle.sa_ranks.specs.Inside.{has_entry}
use Rattle.sa_check_moment.specs.Urged.{is_closed, asks_last}
use Rattle.sa_check.specs.Quiet.{is_quiet_record, keeps_first, is_quiet, IsSettled, WasSettled}

-- what holds of each quiet kind holds of each quiet record
pub quiet-cases : (P : Record → Type 0)
    → ((s : SpaceNo) (t : ThreadNo) (i : ℕ) → P (Ins s t i))
    → ((s : SpaceNo) (t : ThreadNo) (value : ℕ) → P (Out s t value))
    → ((s : SpaceNo) (t : ThreadNo) → P (Run s t))
    → ((s : SpaceNo) (t : Option ThreadNo) → P (Cont s t))
    → ((s : SpaceNo) (t : Option ThreadNo) → P (Back s t))
    → ((s : SpaceNo) (t : ThreadNo) → P (Ready s t))
    → ((s : SpaceNo) (l : ProcNo) (t : Option ThreadNo) → P (Take s l t))
    → ((s : SpaceNo) (l : ProcNo) (t : Option ThreadNo) → P (Free s l t))
    → P Idle
    → ((l : ProcNo) → P (Spin l))
    → P Tick
    → (x : Record) → is_quiet_record x ≡ true → P x
quiet-cases P of_ins of_out of_run of_cont of_back of_ready of_take of_free of_idle of_spin of_tick (Ins s t i) h = of_ins s t i
quiet-cases P of_ins of_out of_run of_cont of_back of_ready of_take of_free of_idle of_spin of_tick (Out s t value) h = of_out s t value
quiet-cases P of_ins of_out of_run of_cont of_back of_ready of_take of_free of_idle of_spin of_tick (Run s t) h = of_run s t
quiet-cases P of_ins of_out of_run of_cont of_back of_ready of_take of_free of_idle of_spin of_tick (Cont s t) h = of_cont s t
quiet-cases P of_ins of_out of_run of_cont of_back of_ready of_take of_free of_idle of_spin of_tick (Back s t) h = of_back s t
quiet-cases P of_ins of_out of_run of_cont of_back of_ready of_take of_free of_idle of_spin of_tick (Ready s t) h = of_ready s t
quiet-cases P of_ins of_out of_run of_cont of_back of_ready of_take of_free of_idle of_spin of_tick (Take s l t) h = of_take s l t
quiet-cases P of_ins of_out of_run of_cont of_back of_ready of_take of_free of_idle of_spin of_tick (Free s l t) h = of_free s l t
quiet-cases P of_ins of_out of_run of_cont of_back of_ready of_take of_free of_idle of_spin of_tick Idle h = of_idle
quiet-cases P of_ins of_out of_run of_cont of_back of_ready of_take of_free of_idle of_spin of_tick (Spin l) h = of_spin l
quiet-cases P of_ins of_out of_run of_cont of_back of_ready of_take of_free of_idle of_spin of_tick Tick h = of_tick
quiet-cases P of_ins of_out of_run of_cont of_back of_ready of_take of_free of_idle of_spin of_tick _ h = absurd cc

-- what a quiet event keeps of a moment
pub record Kept : Type 0 where
  pub demands : List ℕ
  pub under_way : List Io
  pub aims : List (Option SpaceNo)
  pub owners : List (Option SpaceNo)
  pub running : List (Option ActNo)
  pub lines : List (Option ℕ)
  pub untold : List (List Note)
  pub spaces : ℕ → Option SpaceNo
  pub idles : ℕ → Option Bool

abbrev pub kept : Readings → Kept
kept r = record {
  demands = r.demands;
  under_way = r.under_way;
  aims = r.aims;
  owners = r.state.owners;
  running = r.running;
  lines = r.lines;
  untold = r.untold;
  spaces = λ a. option_map (λ (x : Life). x.space) (r.lives a);
  idles = λ a. option_map (λ (x : Life). x.idle) (r.lives a);
}

abbrev pub IsSame : Readings → Readings → Type 0
IsSame r q = kept q ≡ kept r

-- a moment with this in place of what it had
abbrev pub filled : Readings → Kept → Readings
filled r k = record r {
  demands = k.demands;
  under_way = k.under_way;
  aims = k.aims;
  running = k.running;
  lines = k.lines;
  untold = k.untold;
  state = record r.state { owners = k.owners };
}

-- what a change keeps of a life
pub option-kept : {A : Type 0} (f : Life → Life) (g : Life → A) → ((x : Life) → g (f x) ≡ g x) → (life : Option Life)
    → option_map g (option_map f life) ≡ option_map g life
option-kept f g keeps None = refl
option-kept f g keeps (Some x) = ap Some (keeps x)

pub life-kept : {A : Type 0} (f : Life → Life) (g : Life → A) → ((x : Life) → g (f x) ≡ g x) → (at : Option ActNo) (lives : ℕ → Option Life) (a : ActNo)
    → option_map g (with_life f at lives a.0) ≡ option_map g (lives a.0)
life-kept f g keeps None lives a = refl
life-kept f g keeps (Some b) lives a = elim (cases_eq a.0 b.0) [
  | inl same ↦ ap (option_map g) (ap (with_life f (Some b) lives) same ∙ put-same lives b.0 (option_map f (lives b.0)))
      ∙ option-kept f g keeps (lives b.0) ∙ ap (λ n. option_map g (lives n)) (sym same)
  | inr other ↦ ap (option_map g) (put-other lives b.0 a.0 (option_map f (lives b.0)) other)
]

-- where the lives alone change, and keep their spaces and idle marks
lives-kept : (r : Readings) (lives : ℕ → Option Life)
    → ((a : ActNo) → option_map (λ (x : Life). x.space) (lives a.0) ≡ option_map (λ (x : Life). x.space) (r.lives a.0))
    → ((a : ActNo) → option_map (λ (x : Life). x.idle) (lives a.0) ≡ option_map (λ (x : Life). x.idle) (r.lives a.0))
    → kept (record r { lives = lives }) ≡ kept r
lives-kept r lives spaces idles =
    ap (λ (f : ℕ → Option SpaceNo). record (kept (record r { lives = lives })) { spaces = f }) (fun_ext (λ a. spaces (record { 0 = a })))
    ∙ ap (λ (f : ℕ → Option Bool). record (kept r) { idles = f }) (fun_ext (λ a. idles (record { 0 = a })))

one-kept : (r : Readings) (at : Option ActNo) (f : Life → Life) → ((x : Life) → (f x).space ≡ x.space) → ((x : Life) → (f x).idle ≡ x.idle)
    → kept (record r { lives = with_life f at r.lives }) ≡ kept r
one-kept r at f spaces idles =
    lives-kept r (with_life f at r.lives) (life-kept f (λ (x : Life). x.space) spaces at r.lives) (life-kept f (λ (x : Life). x.idle) idles at r.lives)

module _ (w : WorkloadView) (e : ℕ) (p : ProcNo) (r : Readings) where
  own-kept : (f : Life → Life) → ((x : Life) → (f x).space ≡ x.space) → ((x : Life) → (f x).idle ≡ x.idle)
      → kept (record r { lives = with_life f (running_of r p) r.lives }) ≡ kept r
  own-kept = one-kept r (running_of r p)

  same-record : (x : Record) → is_quiet_record x ≡ true → IsSame r (after_record w e p r x)
  same-record (Ins s t i) h = own-kept _ (λ x. refl) (λ x. refl)
  same-record (Out s t value) h = refl
  same-record (Run s t) h = own-kept _ (λ x. refl) (λ x. refl)
  same-record (Cont s None) h = own-kept _ (λ x. refl) (λ x. refl)
  same-record (Cont s (Some t)) h = own-kept _ (λ x. refl) (λ x. refl)
  same-record (Back s None) h = own-kept _ (λ x. refl) (λ x. refl)
  same-record (Back s (Some t)) h = own-kept _ (λ x. refl) (λ x. refl)
  same-record (Ready s t) h = own-kept _ (λ x. refl) (λ x. refl)
  same-record (Take s l t) h = own-kept _ (λ x. refl) (λ x. refl)
  same-record (Free s l t) h = own-kept _ (λ x. refl) (λ x. refl)
  same-record Idle h = refl
  same-record (Spin l) h = refl
  same-record Tick h = refl
  same-record _ h = absurd cc

pub same-records : (w : WorkloadView) (e : ℕ) (p : ProcNo) (r : Readings) (xs : List Record) → list_all is_quiet_record xs ≡ true
    → IsSame r (after_records w e p r xs)
same-records w e p r [] h = refl
same-records w e p r (x ∷ xs) h =
    let each = and_parts (is_quiet_record x) (list_all is_quiet_record xs) h in
    same-records w e p (after_record w e p r x) xs each.1 ∙ same-record w e p r x each.0

-- the beginning of an event on a processor with a low line, and its end
pub same-begun : (w : WorkloadView) (e : Event) (r : Readings) → line_of r e.proc ≡ None → IsSame r (event_begun w e r)
same-begun w e r low =
    ap (λ ls. record (kept r) { lines = ls }) (ap (slice_set r.lines e.proc.0) (sym low) ∙ set-get_or r.lines e.proc.0 None)

module _ {A : Type 0} (g : Life → A) (test : Test) (w : WorkloadView) (r : Readings) (e : Event) (q : Readings)
    (steps : (first : Record) (x : Life) → g (stepped test w r e q first x) ≡ g x) (rises : (x : Life) → g (arisen test w r e q x) ≡ g x) where
  step-kept : (records : List Record) (lives : ℕ → Option Life) (a : ActNo)
      → option_map g (with_step test w r e q records lives a.0) ≡ option_map g (lives a.0)
  step-kept [] lives a = refl
  step-kept (first ∷ others) lives a = at (is_step first) where
    at : (b : Bool) → option_map g ((if b then with_life (stepped test w r e q first) (running_of r e.proc) lives else lives) a.0)
        ≡ option_map g (lives a.0)
    at true = life-kept (stepped test w r e q first) g (steps first) (running_of r e.proc) lives a
    at false = refl

  up-kept : (lives : ℕ → Option Life) (a : ActNo) → option_map g (with_up test w r e q lives a.0) ≡ option_map g (lives a.0)
  up-kept lives a = at (list_any is_up e.records) where
    at : (b : Bool) → option_map g ((if b then with_life (arisen test w r e q) (running_of q e.proc) lives else lives) a.0) ≡ option_map g (lives a.0)
    at true = life-kept (arisen test w r e q) g rises (running_of q e.proc) lives a
    at false = refl

  end-kept : (a : ActNo) → option_map g (with_up test w r e q (with_step test w r e q e.records q.lives) a.0) ≡ option_map g (q.lives a.0)
  end-kept a = up-kept (with_step test w r e q e.records q.lives) a ∙ step-kept e.records q.lives a

pub same-event : (test : Test) (w : WorkloadView) (r : Readings) (e : Event) → line_of r e.proc ≡ None → list_all is_quiet_record e.records ≡ true
    → IsSame r (after_event test w r e)
same-event test w r e low h =
    let q = behind_all w e r in
    lives-kept q _ (end-kept (λ (x : Life). x.space) test w r e q (λ first x. refl) (λ x. refl))
    (end-kept (λ (x : Life). x.idle) test w r e q (λ first x. refl) (λ x. refl))
    ∙ same-records w e.number e.proc (event_begun w e r) e.records h ∙ same-begun w e r low

-- where this is the same, the shares are
same-claims : (w : WorkloadView) (r q : Readings) → IsSame r q → claims_of w q ≡ claims_of w r
same-claims w r q same = ap (λ (k : Kept). claims_of w (filled r k)) same

same-shares : (w : WorkloadView) (n m : ℕ) (r q : Readings) → first_space w m ≡ first_space w n → IsSame r q → shares_at w m q ≡ shares_at w n r
same-shares w n m r q first same =
    ap (λ f. shares_of w.processors f (claims_of w q)) first ∙ ap (shares_of w.processors (first_space w n)) (same-claims w r q same)

-- where nothing changed that the owners depend on, they are the same
same-map : (f g : Option ActNo → Option SpaceNo) → ((a : Option ActNo) → g a ≡ f a) → (xs : List (Option ActNo)) → map f xs ≡ map g xs
same-map f g same [] = refl
same-map f g same (x ∷ xs) = ap (λ y. y ∷ map f xs) (sym (same x)) ∙ ap (λ ys. g x ∷ ys) (same-map f g same xs)

same-space : (r q : Readings) → IsSame r q → (a : Option ActNo) → space_of_life q a ≡ space_of_life r a
same-space r q same None = refl
same-space r q same (Some a) = ap (λ (k : Kept). k.spaces a.0) same

-- where nothing changed that the wants depend on, they are the same
idle-so : (l k : Option Life) → option_map (λ (x : Life). x.idle) l ≡ option_map (λ (x : Life). x.idle) k → was_idle l ≡ was_idle k
idle-so None None h = refl
idle-so None (Some k) h = absurd cc
idle-so (Some l) None h = absurd cc
idle-so (Some l) (Some k) h = cc

same-hear : (r q : Readings) → IsSame r q → (n : Note) → must_hear q n ≡ must_hear r n
same-hear r q same (Preempted a) = ap not (idle-so (life_of q a) (life_of r a) (ap (λ (k : Kept). k.idles a.0) same))
same-hear r q same _ = refl

same-any : (f g : Note → Bool) → ((n : Note) → g n ≡ f n) → (ns : List Note) → list_any g ns ≡ list_any f ns
same-any f g same [] = refl
same-any f g same (n ∷ ns) = ap (λ b. b || list_any g ns) (same n) ∙ ap (λ b. f n || b) (same-any f g same ns)

same-want : (r q : Readings) → IsSame r q → (s : SpaceNo) → must_want q s ≡ must_want r s
same-want r q same s =
    ap (λ (k : Kept). slice_index k.demands s.0 == 0 && list_any (must_hear q) (slice_index_or k.untold s.0 [])) same
    ∙ ap (λ b. demand_of r s == 0 && b) (same-any (must_hear r) (must_hear q) (same-hear r q same) (untold_of r s))

-- where nothing changed, what was told in time still is
same-prompt : (r q : Readings) → IsSame r q → IsPrompt r → IsPrompt q
same-prompt r q same prompt =
    let there : IsPrompt (filled r (kept q)) = subst (λ (k : Kept). IsPrompt (filled r k)) (sym same) (record { each = prompt.each }) in
    record { each = there.each }

settled-same : (w : WorkloadView) (n m : ℕ) (r q : Readings) → first_space w m ≡ first_space w n → IsSame r q → IsSettled w n r → IsSettled w m q
settled-same w n m r q first same settled = record {
  owned =
      ap (λ (k : Kept). k.owners) same ∙ settled.owned ∙ same-map (space_of_life r) (space_of_life q) (same-space r q same) r.running
      ∙ ap (map (space_of_life q)) (ap (λ (k : Kept). k.running) (sym same));
  covered = λ s.
      let before = settled.covered s in
      let shares = ap (λ list. share_at list s) (same-shares w n m r q first same) in
      let aims = ap (λ (k : Kept). aimed s k.aims) same in
      omega (arith, before, shares, aims);
  wants = λ s. same-want r q same s ∙ settled.wants s;
  prompt = same-prompt r q same settled.prompt;
}

-- no aim is among the records, and no want

pub quiet-aims : (xs : List Record) → list_all is_quiet_record xs ≡ true → aims_in xs ≡ []
quiet-aims [] h = refl
quiet-aims (x ∷ xs) h =
    let each = and_parts (is_quiet_record x) (list_all is_quiet_record xs) h in
    let none = quiet-aims xs each.1 in
    quiet-cases (λ y. aims_in (y ∷ xs) ≡ []) (λ s t i. none) (λ s t value. none) (λ s t. none) (λ s t. none) (λ s t. none) (λ s t. none) (λ s l t. none)
    (λ s l t. none) none (λ l. none) none x each.0

quiet-wants : (xs : List Record) → list_all is_quiet_record xs ≡ true → wants_in xs ≡ []
quiet-wants [] h = refl
quiet-wants (x ∷ xs) h =
    let each = and_parts (is_quiet_record x) (list_all is_quiet_record xs) h in
    let none = quiet-wants xs each.1 in
    quiet-cases (λ y. wants_in (y ∷ xs) ≡ []) (λ s t i. none) (λ s t value. none) (λ s t. none) (λ s t. none) (λ s t. none) (λ s t. none) (λ s l t. none)
    (λ s l t. none) none (λ l. none) none x each.0

quiet-others : (xs : List Record) → list_all is_quiet_record xs ≡ true → list_all is_quiet_record (others_of xs) ≡ true
quiet-others [] h = refl
quiet-others (x ∷ xs) h = (and_parts (is_quiet_record x) (list_all is_quiet_record xs) h).1

quiet-front : (n : ℕ) (xs : List Record) → list_all is_quiet_record xs ≡ true → list_all is_quiet_record (take n xs) ≡ true
quiet-front zero xs h = refl
quiet-front (suc n) [] h = refl
quiet-front (suc n) (x ∷ xs) h =
    let each = and_parts (is_quiet_record x) (list_all is_quiet_record xs) h in
    ap (λ b. b && list_all is_quiet_record (take n xs)) each.0 ∙ quiet-front n xs each.1

before-wants : (xs : List Record) → list_all is_quiet_record xs ≡ true → list_all is_quiet_record (before_wants xs) ≡ true
before-wants [] h = refl
before-wants (x ∷ xs) h = quiet-front (suc (prefix_len is_no_want xs)) (x ∷ xs) h

-- a quiet event's parts

keeps-first : (w : WorkloadView) (n : ℕ) → keeps_first w n ≡ true → (1 ≤ n) × (first_space w n ≡ first_space w (n - 1))
keeps-first w n h =
    let each = and_parts (nat_lt 0 n) (first_space w (n - 1) == first_space w n) h in
    (grind (arith, nat_tests, each.0), elim (eqb_tells (first_space w (n - 1)) (first_space w n)) [ inl same ↦ sym same.1 | inr other ↦ absurd cc ])

pub quiet-records : (w : WorkloadView) (r : Readings) (e : Event) → is_quiet w r e ≡ true → list_all is_quiet_record e.records ≡ true
quiet-records w r e quiet = (and_parts (keeps_first w e.number) (list_all is_quiet_record e.records)
    (and_parts (is_none (line_of r e.proc)) (keeps_first w e.number && list_all is_quiet_record e.records) quiet).1).1

pub quiet-low : (w : WorkloadView) (r : Readings) (e : Event) → is_quiet w r e ≡ true → line_of r e.proc ≡ None
quiet-low w r e quiet =
    none-is (line_of r e.proc) (and_parts (is_none (line_of r e.proc)) (keeps_first w e.number && list_all is_quiet_record e.records) quiet).0

module _ (w : WorkloadView) (r : Readings) (e : Event) (numbered : e.number ≡ r.number) (was : WasSettled w r) (quiet : is_quiet w r e ≡ true) where
  low : line_of r e.proc ≡ None
  low = quiet-low w r e quiet

  first : (1 ≤ e.number) × (first_space w e.number ≡ first_space w (e.number - 1))
  first =
      keeps-first w e.number (and_parts (keeps_first w e.number) (list_all is_quiet_record e.records)
      (and_parts (is_none (line_of r e.proc)) (keeps_first w e.number && list_all is_quiet_record e.records) quiet).1).0

  before : IsSettled w (e.number - 1) r
  before =
      let some = first.0 in
      was (e.number - 1) (omega (arith, numbered, some))

  -- after a quiet event all is as it must be
  pub quiet-settled : (test : Test) → IsSettled w e.number (after_event test w r e)
  quiet-settled test =
      settled-same w (e.number - 1) e.number r (after_event test w r e) first.1 (same-event test w r e low (quiet-records w r e quiet)) before

  -- at each moment of a quiet event all is as it must be
  during : (xs : List Record) → list_all is_quiet_record xs ≡ true → IsSettled w e.number (after_records w e.number e.proc (event_begun w e r) xs)
  during xs h =
      let q = after_records w e.number e.proc (event_begun w e r) xs in
      settled-same w (e.number - 1) e.number r q first.1
      (same-records w e.number e.proc (event_begun w e r) xs h ∙ same-begun w e r low) before

  pub quiet-aims-due : aims_in e.records ≡ aims_due w e.number (after_records w e.number e.proc (event_begun w e r) (before_aims e.records))
  quiet-aims-due =
      let records = quiet-records w r e quiet in
      let q = after_records w e.number e.proc (event_begun w e r) (before_aims e.records) in
      let now = during (before_aims e.records) (quiet-front (prefix_len is_no_aim e.records) e.records records) in
      quiet-aims e.records records ∙ sym (none-missing 0 (length w.spaces) (shares_at w e.number q) q.marks q.aims now.covered)

  pub quiet-wants-due : wants_in (others_of e.records) ≡ wants_due w (after_records w e.number e.proc (event_begun w e r) (before_wants e.records))
  quiet-wants-due =
      let records = quiet-records w r e quiet in
      let q = after_records w e.number e.proc (event_begun w e r) (before_wants e.records) in
      let now = during (before_wants e.records) (before-wants e.records records) in
      quiet-wants (others_of e.records) (quiet-others e.records records) ∙ sym (ap (map want_one) (none-left (must_want q) (spaces_of w) now.wants))

-- where each rule held at the last event, all is as it must be
pub settled-next : (u : UserRules) (w : WorkloadView) (r : Readings) (e : Event) (last : Option LastLine) → HoldEach u w rules r e last
    → WasSettled w (after_event u.inside w r e)
settled-next u w r e last held n is =
    let numbered = (holds-each u w r e last Numbered held).number in
    let counted = number-kept w e.number e.proc (event_begun w e r) e.records in
    let same : e.number ≡ n = omega (arith, numbered, counted, is) in
    let settled : IsSettled w e.number (after_event u.inside w r e) = record {
      owned = (holds-each u w r e last WhereOwned held).owned;
      covered = (holds-each u w r e last SharesCovered held).covered;
      wants = (holds-each u w r e last WantCause held).none;
      prompt = (holds-each u w r e last ToldInTime held).prompt;
    } in
    subst (λ k. IsSettled w k (after_event u.inside w r e)) same settled

-- the laws of records say nothing of a quiet one
pub once-holds : (r : Readings) (rest : List Record) (x : Record) → is_quiet_record x ≡ true → TellsOnce r x rest
once-holds r rest =
    quiet-cases (λ x. TellsOnce r x rest) (λ s t i. tt) (λ s t value. tt) (λ s t. tt) (λ s t. tt) (λ s t. tt) (λ s t. tt) (λ s l t. tt) (λ s l t. tt) tt
    (λ l. tt) tt

pub named-holds : (p : ProcNo) (r : Readings) (rest : List Record) (x : Record) → is_quiet_record x ≡ true → NamesTheLife p r x rest
named-holds p r rest =
    quiet-cases (λ x. NamesTheLife p r x rest) (λ s t i. tt) (λ s t value. tt) (λ s t. tt) (λ s t. tt) (λ s t. tt) (λ s t. tt) (λ s l t. tt) (λ s l t. tt) tt
    (λ l. tt) tt

pub all-holds : (p : ProcNo) (r : Readings) (rest : List Record) (x : Record) → is_quiet_record x ≡ true → TellsAllThen p r x rest
all-holds p r rest =
    quiet-cases (λ x. TellsAllThen p r x rest) (λ s t i. tt) (λ s t value. tt) (λ s t. tt) (λ s t. tt) (λ s t. tt) (λ s t. tt) (λ s l t. tt) (λ s l t. tt) tt
    (λ l. tt) tt

pub upcall-holds : (p : ProcNo) (r : Readings) (rest : List Record) (x : Record) → is_quiet_record x ≡ true → GivesUpcallThen p r x rest
upcall-holds p r rest =
    quiet-cases (λ x. GivesUpcallThen p r x rest) (λ s t i. tt) (λ s t value. tt) (λ s t. tt) (λ s t. tt) (λ s t. tt) (λ s t. tt) (λ s l t. tt) (λ s l t. tt) tt
    (λ l. tt) tt

pub heard-holds : (r : Readings) (rest : List Record) (x : Record) → is_quiet_record x ≡ true → RaisesLine r x rest
heard-holds r rest =
    quiet-cases (λ x. RaisesLine r x rest) (λ s t i. tt) (λ s t value. tt) (λ s t. tt) (λ s t. tt) (λ s t. tt) (λ s t. tt) (λ s l t. tt) (λ s l t. tt) tt
    (λ l. tt) tt

pub each-quiet : (L : RecordLaw) → ((r : Readings) (rest : List Record) (x : Record) → is_quiet_record x ≡ true → L r x rest)
    → (w : WorkloadView) (e : ℕ) (p : ProcNo) (r : Readings) (xs : List Record) → list_all is_quiet_record xs ≡ true → EachRecord L w e p r xs
each-quiet L holds w e p r [] h = tt
each-quiet L holds w e p r (x ∷ xs) h =
    let each = and_parts (is_quiet_record x) (list_all is_quiet_record xs) h in
    (holds r xs x each.0, each-quiet L holds w e p (after_record w e p r x) xs each.1)

-- no line is among quiet records
no-line : (last : Option Record) (x : Record) → is_quiet_record x ≡ true → is_other_line last x ≡ false
no-line last =
    quiet-cases (λ x. is_other_line last x ≡ false) (λ s t i. refl) (λ s t value. refl) (λ s t. refl) (λ s t. refl) (λ s t. refl) (λ s t. refl) (λ s l t. refl)
    (λ s l t. refl) refl (λ l. refl) refl

lines-whole : (last : Option Record) (xs : List Record) → list_all is_quiet_record xs ≡ true → before_lines last xs ≡ xs
lines-whole last [] h = refl
lines-whole last (x ∷ xs) h =
    let each = and_parts (is_quiet_record x) (list_all is_quiet_record xs) h in
    ap (λ b. if b then [] else x ∷ before_lines (Some x) xs) (no-line last x each.0) ∙ ap (λ ys. x ∷ ys) (lines-whole (Some x) xs each.1)

pub front-whole : (xs : List Record) → list_all is_quiet_record xs ≡ true → front_part xs ≡ xs
front-whole [] h = refl
front-whole (x ∷ xs) h = ap (λ ys. x ∷ ys) (lines-whole (Some x) xs (and_parts (is_quiet_record x) (list_all is_quiet_record xs) h).1)

-- a quiet event has no closing
own-run : (x : Record) → is_quiet_record x ≡ true → is_own x ≡ true
own-run =
    quiet-cases (λ x. is_own x ≡ true) (λ s t i. refl) (λ s t value. refl) (λ s t. refl) (λ s t. refl) (λ s t. refl) (λ s t. refl) (λ s l t. refl)
    (λ s l t. refl) refl (λ l. refl) refl

own-count : (xs : List Record) → list_all is_quiet_record xs ≡ true → take (prefix_len is_own xs) xs ≡ xs
own-count [] h = refl
own-count (x ∷ xs) h =
    let each = and_parts (is_quiet_record x) (list_all is_quiet_record xs) h in
    ap (λ b. take (if b then 1 + prefix_len is_own xs else 0) (x ∷ xs)) (own-run x each.0)
    ∙ (let one : 1 + prefix_len is_own xs ≡ suc (prefix_len is_own xs) = omega arith in ap (λ n. take n (x ∷ xs)) one)
    ∙ ap (λ ys. x ∷ ys) (own-count xs each.1)

own-whole : (xs : List Record) → list_all is_quiet_record xs ≡ true → own_part xs ≡ xs
own-whole [] h = refl
own-whole (x ∷ xs) h =
    ap (λ ys. x ∷ ys) (own-count xs (and_parts (is_quiet_record x) (list_all is_quiet_record xs) h).1)

closing-none : (xs : List Record) → list_all is_quiet_record xs ≡ true → closing_part xs ≡ []
closing-none xs h = ap (λ (own : List Record). drop (length own) xs) (own-whole xs h) ∙ drop_all (length xs) xs (omega arith)

pub quiet-asks : (xs : List Record) → list_all is_quiet_record xs ≡ true → asks_last xs ≡ true
quiet-asks xs h = or_right (has_entry xs) (is_closed (closing_part xs)) (ap is_closed (closing-none xs h))
