-- Where the words say that a line is raised, it is read so; and lives that the words say are taken.
use Rattle.std.proofs.Common.{◌≡◌, ◌≢◌, ℕ, zero, suc, ◌+◌, ◌<◌, ◌⊎◌, inl, inr, refl, sym, ◌∙◌, ap, subst, arith, Some, None, List, [], ◌∷◌, ◌++◌, length, true, false}
use Rattle.std.specs.Prelude.{Option, Bool, ◌==◌, if◌then◌else◌, slice_get, slice_set, get_or, unwrap_or, filter, not, Contains}
use Rattle.std.specs.Option.{option_or}
use Rattle.std.proofs.lemmas.Bool.{cases_eq, eqb-true, eq-eqb, ne_eqb}
use Rattle.std.proofs.lemmas.List.{get_or-set_same, get_or-set_other}
use Rattle.std.proofs.lemmas.List.Elements.{Contains-push, Contains-append_left, Contains-append_right, Contains-append_cases}
use Rattle.std.proofs.lemmas.Option.{none-some, slice_get_within}
use Rattle.sa_lemmas.proofs.ListUpdates.{slice_get-append_left, slice_get-append_seam, slice_get-push_cases}
use Rattle.sa_base.specs.declared.number.SpaceNo.{SpaceNo}
use Rattle.sa_base.specs.declared.number.ProcNo.{ProcNo}
use Rattle.sa_base.specs.declared.number.ActNo.{ActNo}
use Rattle.sa_base.specs.declared.record.Note.TheVariants as note
use Rattle.sa_base.specs.declared.record.Record.{Record}
use Rattle.sa_base.specs.declared.record.Record.TheVariants.{Stop, Block, Unblock, Up, Told, Line, GiveBack}
use Rattle.sa_base.specs.declared.record.Item.{Item}
use Rattle.sa_spaces.specs.Workload.{WorkloadView}
use Rattle.sa_laws.specs.Readings.{Readings}
use Rattle.sa_laws.specs.Record.{lines_after}
use Rattle.sa_laws.specs.Upcalls.{RaisesLine}
use Rattle.sa_laws.proofs.Numbers.{proc-by_number}
use Rattle.sa_promises.specs.Words.{RaisedAt, line_in}
use Rattle.sa_promises.specs.Lives.{Stand, stand_if, stand_in, stand_said, stand_of}
use Rattle.sa_promises.specs.Lives as life
use Rattle.sa_histories.proofs.Walk.{item}
use Rattle.sa_promises.proofs.words.Reads.{said-more, last-more}
use Rattle.sa_promises.specs.Moments.{Home, home_of, home_in, home_said}
use Rattle.sa_promises.specs.Holdings.{is_home, is_other, taken_by, taken_at, taken_in}
use Rattle.sa_promises.proofs.read.Along.{along-more}

-- all items are of events before this one
abbrev pub Until : List Item → ℕ → Type 0
Until past n = (k : ℕ) (y : Item) → slice_get past k ≡ Some y → y.event < n

pub until-more : (past : List Item) (e : ℕ) (p : ProcNo) (x : Record) → Until past (e + 1) → Until (past ++ item e p x ∷ []) (e + 1)
until-more past e p x until k y at = elim (slice_get-push_cases past k (item e p x) y at) [
  | inl new ↦ (let same = ap (λ (z : Item). z.event) new.1 in omega arith)
  | inr old ↦ until k y old
]

-- a line that the words say is raised: by the last item, or before it
raised-cases : (past : List Item) (x : Item) (q : ProcNo) (v : ℕ) → RaisedAt (past ++ x ∷ []) q v
    → ((line_in q x.what ≡ true) × (x.event ≡ v)) ⊎ (RaisedAt past q v × (v < x.event → x.proc ≢ q))
raised-cases past x q v o = elim (slice_get-push_cases past o.place x o.item o.at) [
  | inl new ↦ inl (subst (λ (y : Item). line_in q y.what ≡ true) new.1 o.line, ap (λ (y : Item). y.event) (sym new.1) ∙ o.raised)
  | inr old ↦ inr (
    record {
      place = o.place;
      item = o.item;
      at = old;
      line = o.line;
      raised = o.raised;
      none = λ k y above at later. o.none k y above (slice_get-append_left past (x ∷ []) k (slice_get_within past k y at) ∙ at) later;
    },
    λ below same.
        let within = slice_get_within past o.place o.item old in
        let raised = o.raised in
        o.none (length past) x within (slice_get-append_seam past [] x) (omega arith) same,
  )
]

-- within event e of p: what the words say is raised is read so, but for p what earlier events raised
abbrev pub RaisedIn : WorkloadView → ℕ → ProcNo → List Item → List (Option ℕ) → Type 0
RaisedIn w e p past lines = (q : ProcNo) (v : ℕ) → q.0 < w.processors → RaisedAt past q v → (q ≡ p → v ≡ e) → get_or lines q.0 None ≡ Some v

line-is : (q t : ProcNo) → line_in q (Line t) ≡ true → t.0 ≡ q.0
line-is q t is = eqb-true t.0 q.0 is

pub raised-step : (w : WorkloadView) (e : ℕ) (p : ProcNo) (past : List Item) (r : Readings) (x : Record) (rest : List Record) → length r.lines ≡ w.processors
    → RaisesLine r x rest
    → RaisedIn w e p past r.lines → RaisedIn w e p (past ++ item e p x ∷ []) (lines_after e r.lines x)
raised-step w e p past r x rest len law inv q v within raised own = elim (raised-cases past (item e p x) q v raised) [
  | inl new ↦ by_line x new.0 new.1
  | inr old ↦ before x law (inv q v within old.0 own)
] where
  by_line : (y : Record) → line_in q y ≡ true → e ≡ v → get_or (lines_after e r.lines y) q.0 None ≡ Some v
  by_line (Line t) is same =
      ap (λ n. get_or (slice_set r.lines n (Some e)) q.0 None) (line-is q t is) ∙ get_or-set_same r.lines q.0 (Some e) None (omega arith) ∙ ap Some same
  by_line y is same = absurd (cc)

  before : (y : Record) → RaisesLine r y rest → get_or r.lines q.0 None ≡ Some v → get_or (lines_after e r.lines y) q.0 None ≡ Some v
  before (Line t) low was = elim (cases_eq q.0 t.0) [
    | inl same ↦ absurd (none-some v (sym low ∙ ap (λ n. get_or r.lines n None) (sym same) ∙ was))
    | inr apart ↦ get_or-set_other r.lines t.0 q.0 (Some e) None apart ∙ was
  ]
  before y low was = was

-- Each raised line is read, at the beginning of an event and at its end.
abbrev pub RaisedAll : WorkloadView → List Item → List (Option ℕ) → Type 0
RaisedAll w past lines = (q : ProcNo) (v : ℕ) → q.0 < w.processors → RaisedAt past q v → get_or lines q.0 None ≡ Some v

pub raised-begins : (w : WorkloadView) (e : ℕ) (p : ProcNo) (past : List Item) (lines : List (Option ℕ)) → Until past e → RaisedAll w past lines
    → RaisedIn w e p past (slice_set lines p.0 None)
raised-begins w e p past lines until all q v within raised own = elim (cases_eq q.0 p.0) [
  | inl same ↦
      let late = until raised.place raised.item raised.at in
      let is = raised.raised in
      let now = own (proc-by_number q p same) in
      absurd (omega arith)
  | inr apart ↦ get_or-set_other lines p.0 q.0 None None apart ∙ all q v within raised
]

-- the last item is of event e of p
abbrev pub EndsWithEvent : ℕ → ProcNo → List Item → Type 0
EndsWithEvent e p past = (before : List Item) × (x : Record) × (past ≡ before ++ item e p x ∷ [])

pub raised-ends : (w : WorkloadView) (e : ℕ) (p : ProcNo) (past : List Item) (lines : List (Option ℕ)) → EndsWithEvent e p past → Until past (e + 1)
    → RaisedIn w e p past lines
    → RaisedAll w past lines
raised-ends w e p past lines ends until inv q v within raised =
    inv q v within raised (λ same. own same (subst (λ (ys : List Item). RaisedAt ys q v) ends.2 raised)) where
      late : v < e + 1
      late = let at = until raised.place raised.item raised.at in let is = raised.raised in omega arith

      own : q ≡ p → RaisedAt (ends.0 ++ item e p ends.1 ∷ []) q v → v ≡ e
      own same there = elim (raised-cases ends.0 (item e p ends.1) q v there) [
        | inl new ↦ sym new.1
        | inr old ↦ elim (cases_eq v e) [
          | inl is ↦ is
          | inr apart ↦ absurd (old.1 (let upper = late in omega arith) (sym same))
        ]
      ]

-- a life that the words say is taken is among the taken ones of its space
abbrev pub TakenAll : List Item → Type 0
TakenAll past = (a : ActNo) (home : Home) → home_of past a ≡ Some home → stand_of past a ≡ life.Taken → Contains (taken_in past home.space) a

stand-more : (past : List Item) (e : ℕ) (p : ProcNo) (x : Record) (a : ActNo)
    → stand_of (past ++ item e p x ∷ []) a ≡ unwrap_or (stand_in a p x) (stand_of past a)
stand-more past e p x a =
    sym (said-more (stand_said a) past (item e p x) life.Unused (stand_of past a) (unwrap_or (stand_in a p x) (stand_of past a)) refl refl)

pub home-more : (past : List Item) (e : ℕ) (p : ProcNo) (x : Record) (a : ActNo)
    → home_of (past ++ item e p x ∷ []) a ≡ option_or (home_in a p x) (home_of past a)
home-more past e p x a = last-more (home_said a) past (item e p x)

taken-more : (past : List Item) (e : ℕ) (p : ProcNo) (x : Record) (s : SpaceNo) → taken_in (past ++ item e p x ∷ []) s ≡ taken_by s past (taken_in past s) x
taken-more past e p x s = along-more (taken_at s) [] past (item e p x)

-- a stand that is said of this number is another one, so that the number is another one
not-said : (a b : ActNo) (x y : Stand) (old : Stand) → x ≢ y → unwrap_or (stand_if a b x) old ≡ y → (b.0 == a.0) ≡ false
not-said a b x y old apart is = one (b.0 == a.0) is where
  one : (c : Bool) → unwrap_or (if c then Some x else None) old ≡ y → c ≡ false
  one true same = absurd (apart same)
  one false same = refl

was-said : (a b : ActNo) (x y : Stand) (old : Stand) → (b.0 == a.0) ≡ false → unwrap_or (stand_if a b x) old ≡ y → old ≡ y
was-said a b x y old other is = subst (λ c. unwrap_or (if c then Some x else None) old ≡ y) other is

pub filter-keeps : {A : Type 0} (test : A → Bool) (xs : List A) (z : A) → test z ≡ true → Contains xs z → Contains (filter test xs) z
filter-keeps test [] z passes has = has
filter-keeps test (x ∷ xs) z passes has = elim (Contains-append_cases (x ∷ []) xs z has) [
  | inl first ↦ here (only first)
  | inr later ↦ one (test x) (filter-keeps test xs z passes later)
] where
  only : Contains (x ∷ []) z → x ≡ z
  only (zero, below, is) = is
  only (suc k, below, is) = absurd (omega arith)

  one : (b : Bool) → Contains (filter test xs) z → Contains (if b then x ∷ filter test xs else filter test xs) z
  one true rest = Contains-append_right (x ∷ []) (filter test xs) z rest
  one false rest = rest

  here : x ≡ z → Contains (if test x then x ∷ filter test xs else filter test xs) z
  here same = subst (λ b. Contains (if b then x ∷ filter test xs else filter test xs) z) (sym (ap test same ∙ passes)) (0, omega arith, same)

-- a choice keeps what both sides have
either-has : {A : Type 0} (b : Bool) (xs ys : List A) (z : A) → Contains xs z → Contains ys z → Contains (if b then xs else ys) z
either-has true xs ys z left right = left
either-has false xs ys z left right = right

told-has : (past : List Item) (a b : ActNo) (home : Home) (ts : List ActNo) → home_of past a ≡ Some home
    → unwrap_or (stand_if a b life.Taken) (stand_of past a) ≡ life.Taken
    → (stand_of past a ≡ life.Taken → Contains ts a) → Contains (if is_home home.space (home_of past b) then ts ++ b ∷ [] else ts) a
told-has past a b home ts is stand old = one (b.0 == a.0) refl where
  one : (c : Bool) → (b.0 == a.0) ≡ c → Contains (if is_home home.space (home_of past b) then ts ++ b ∷ [] else ts) a
  one true same =
      let act : b ≡ a = ap (λ n. record { 0 = n }) (eqb-true b.0 a.0 same) in
      let here : is_home home.space (home_of past b) ≡ true = ap (λ (c : ActNo). is_home home.space (home_of past c)) act ∙ ap (is_home home.space) is
      ∙ eq-eqb home.space.0 home.space.0 refl in
      subst (λ k. Contains (if k then ts ++ b ∷ [] else ts) a) (sym here) (subst (λ (c : ActNo). Contains (ts ++ c ∷ []) a) (sym act) (Contains-push ts a))
  one false other =
      let was = old (was-said a b life.Taken life.Taken (stand_of past a) other stand) in
      either-has (is_home home.space (home_of past b)) (ts ++ b ∷ []) ts a (Contains-append_left ts (b ∷ []) a was) was

pub taken-all-step : (past : List Item) (e : ℕ) (p : ProcNo) (x : Record) → TakenAll past → TakenAll (past ++ item e p x ∷ [])
taken-all-step past e p x all a home is stand =
    subst (λ ts. Contains ts a) (sym (taken-more past e p x home.space))
    (one x (sym (home-more past e p x a) ∙ is) (sym (stand-more past e p x a) ∙ stand)) where
      one : (y : Record) → option_or (home_in a p y) (home_of past a) ≡ Some home → unwrap_or (stand_in a p y) (stand_of past a) ≡ life.Taken
          → Contains (taken_by home.space past (taken_in past home.space) y) a
      one (Stop s t b) at st =
          all a home at (was-said a b life.Stopped life.Taken (stand_of past a) (not-said a b life.Stopped life.Taken (stand_of past a) (λ e'. cc) st) st)
      one (Block s t b io) at st =
          all a home at (was-said a b life.InBlock life.Taken (stand_of past a) (not-said a b life.InBlock life.Taken (stand_of past a) (λ e'. cc) st) st)
      one (Unblock s t b) at st =
          all a home at (was-said a b life.Returned life.Taken (stand_of past a) (not-said a b life.Returned life.Taken (stand_of past a) (λ e'. cc) st) st)
      one (Up s b) at st =
          let other = not-said a b (life.Running p) life.Taken (stand_of past a) (λ e'. cc) st in
          all a home (subst (λ c. option_or (if c then Some (record { space = s; proc = p }) else None) (home_of past a) ≡ Some home) other at)
          (was-said a b (life.Running p) life.Taken (stand_of past a) other st)
      one (Told (note.Preempted b)) at st = told-has past a b home (taken_in past home.space) at st (all a home at)
      one (Told (note.Unblocked b)) at st = told-has past a b home (taken_in past home.space) at st (all a home at)
      one (GiveBack b) at st =
          let other = not-said a b life.Unused life.Taken (stand_of past a) (λ e'. cc) st in
          let was = all a home at (was-said a b life.Unused life.Taken (stand_of past a) other st) in
          either-has (is_home home.space (home_of past b)) (filter (is_other b) (taken_in past home.space)) (taken_in past home.space) a
          (filter-keeps (is_other b) (taken_in past home.space) a
          (ap not (ne_eqb a.0 b.0 (λ e'. absurd (let clash = eq-eqb b.0 a.0 (sym e') in let no = sym clash ∙ other in cc)))) was) was
      one y at st = all a home at st
