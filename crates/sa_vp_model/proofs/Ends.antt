-- A run on the board ends as what is read does.
use Rattle.std.proofs.Common.{◌≡◌, ℕ, suc, ◌+◌, ◌<◌, ◌≤◌, ◌==◌, Bool, true, false, cond, ◌&&◌, List, [], ◌∷◌, length, get_or, Some, None, inl, inr, refl, sym, ap, ◌∙◌, arith}
use Rattle.std.specs.Prelude.{sum_by}
use Rattle.std.specs.List.{list_all}
use Rattle.std.proofs.lemmas.Bool.{cases_lt, eq-eqb, ne_eqb, eqb-true}
use Rattle.std.proofs.lemmas.List.{get_or_past}
use Rattle.std.proofs.lemmas.List.Sums.{sum_by-cons, sum_by-le-sum_by, count_by-le-length, get_or-le-sum_by}
use Rattle.sa_base.specs.declared.record.End.TheVariants.{AllDone, Stuck, Budget}
use Rattle.sa_spaces.specs.Workload.{WorkloadView}
use Rattle.sa_links.specs.Lists.{Lists, list_at, count_in}
use Rattle.sa_links.proofs.Counting.{count_same, count_at}
use Rattle.sa_sync.specs.Sync.{waits_of}
use Rattle.sa_devices.specs.Ios.{Io}
use Rattle.sa_laws.specs.declared.place.Place.{Place}
use Rattle.sa_laws.specs.declared.place.Place.TheVariants as places
use Rattle.sa_laws.specs.State.{is_due, is_waiting, no_threads}
use Rattle.sa_laws.specs.Ends.{are_done, are_at_rest, IsAllDone}
use Rattle.sa_virtual.specs.Virtual.{Virtuals}
use Rattle.sa_virtual.specs.Legal.{NobodyIsDue, IsStuck, VirtualsGoOn, EndsWith}
use Rattle.sa_virtual.specs.Holding.{worked, at_no, place_no, one_where}
use Rattle.sa_vp_model.specs.Board.{Board}
use Rattle.sa_vp_model.specs.Mirror.{Own, rows, total}
use Rattle.sa_vp_model.specs.Run.{IsRead}
use Rattle.sa_vp_model.specs.End.{is_done, is_stuck, no_io, end_of, EndsAreRead}
use Rattle.sa_vp_model.proofs.Roused.{worked_all}

-- a sum that is not nothing has a term that is not
some_term : {A : Type 0} (f : A → ℕ) (d : A) (xs : List A) → 1 ≤ sum_by f xs → (i : ℕ) × (i < length xs) × (1 ≤ f (get_or xs i d))
some_term f d [] some = absurd (omega (arith, some))
some_term f d (x ∷ xs) some = elim (cases_lt 0 (f x)) [
  | inl here ↦ (0, omega arith, here)
  | inr none ↦ let later = some_term f d xs (omega (arith, some, none, sum_by-cons f x xs)) in (suc later.0, omega (arith, later.1), later.2)
]

head_counts : (ts : List ℕ) → 1 ≤ length ts → 1 ≤ count_in (get_or ts 0 0) ts
head_counts [] some = absurd (omega (arith, some))
head_counts (t ∷ ts) some = omega (arith, count_same t t ts refl)

waits_one : (place : Place) (n m : ℕ) → n + m ≡ one_where (is_waiting place) → 1 ≤ m → (is_waiting place && n == 0) ≡ true
waits_one places.Waiting n m sum some = eq-eqb n 0 (omega (arith, sum, some))
waits_one _ n m sum some = absurd (omega (arith, sum, some))

waits_none : (place : Place) (n m : ℕ) → n + m ≡ one_where (is_waiting place) → m ≡ 0 → (is_waiting place && n == 0) ≡ false
waits_none places.Waiting n m sum none = ne_eqb n 0 (λ e. absurd (omega (arith, sum, none, e)))
waits_none _ n m sum none = refl

module _ (w : WorkloadView) (b : Board) (read : IsRead w b) where
  abbrev v : Virtuals
  v = read.virtuals

  abbrev x : Own
  x = read.own

  due_is : b.due ≡ total x.work
  due_is = ap (λ (c : Board). c.due) read.is ∙ read.fits.due

  -- who is due is in a work list
  nobody : b.due ≡ 0 → NobodyIsDue v
  nobody none s t = elim (cases_lt s.0 (length w.spaces)) [
    | inl below ↦
        let row = get_or-le-sum_by (λ (c : Lists). sum_by length c.lists) x.work s.0 (record { nodes = 0; lists = [] })
        (omega (arith, below, read.fits.many_work)) in
        let fewer = sum_by-le-sum_by (count_in t.0) length (rows x.work s.0).lists (λ ts. count_by-le-length (λ y. y == t.0) ts) in
        waits_none (place_no (at_no v.base.state.spaces s.0) t.0) (waits_of (at_no v.base.state.spaces s.0).sync t.0) (worked v.work w.processors s.0 t.0)
        ((read.good.stands.holds.agree s.0 t.0).in_work)
        (omega (arith, due_is, none, row, fewer, worked_all v.work s.0 t.0 w.processors (rows x.work s.0) (read.fits.work s.0 below)))
    | inr past ↦ ap (λ y. is_due y t) (get_or_past v.base.state.spaces s.0 no_threads (omega (arith, past, read.good.stands.holds.replay.as_many)))
  ]

  somebody : 1 ≤ b.due → NobodyIsDue v → ⊥
  somebody some none =
      let row = some_term (λ (c : Lists). sum_by length c.lists) (record { nodes = 0; lists = [] }) x.work (omega (arith, due_is, some)) in
      let list = some_term length [] (rows x.work row.0).lists row.2 in
      let u = get_or (list_at (rows x.work row.0).lists list.0) 0 0 in
      let below : row.0 < length w.spaces = omega (arith, row.1, read.fits.many_work) in
      let here = head_counts (list_at (rows x.work row.0).lists list.0) list.2 in
      let there = count_at u (rows x.work row.0).lists list.0 in
      let worked' = worked_all v.work row.0 u w.processors (rows x.work row.0) (read.fits.work row.0 below) in
      let is = waits_one (place_no (at_no v.base.state.spaces row.0) u) (waits_of (at_no v.base.state.spaces row.0).sync u)
      (worked v.work w.processors row.0 u) ((read.good.stands.holds.agree row.0 u).in_work) (omega (arith, here, there, worked')) in
      let both : true ≡ false = sym is ∙ none (record { 0 = row.0 }) (record { 0 = u }) in cc

  state_is : b.state ≡ v.base.state
  state_is = ap (λ (c : Board). c.state) read.is

  ios_are : b.devices.ios.under_way ≡ v.base.under_way
  ios_are = ap (λ (c : Board). c.devices.ios.under_way) read.is

  no_ios : (ios : List Io) → no_io ios ≡ true → ios ≡ []
  no_ios [] is = refl
  no_ios (io ∷ ios) is = cc

  some_ios : (ios : List Io) → no_io ios ≡ false → ios ≡ [] → ⊥
  some_ios [] is none = cc
  some_ios (io ∷ ios) is none = cc

  -- both ways
  stuck : (r d i : Bool) → list_all are_at_rest b.state.spaces ≡ r → (b.due == 0) ≡ d → no_io b.devices.ios.under_way ≡ i → (IsAllDone v.base → ⊥)
      → r && (d && i) ≡ true → IsStuck v
  stuck true true true rest due ios not all = record {
    some = not;
    rest = ap (λ a. list_all are_at_rest a.spaces) (sym state_is) ∙ rest;
    due = nobody (eqb-true b.due 0 due);
    ios = sym ios_are ∙ no_ios b.devices.ios.under_way ios;
  }
  stuck _ _ _ rest due ios not all = cc

  not_stuck : (r d i : Bool) → list_all are_at_rest b.state.spaces ≡ r → (b.due == 0) ≡ d → no_io b.devices.ios.under_way ≡ i → r && (d && i) ≡ false
      → IsStuck v → ⊥
  not_stuck true true true rest due ios all is = cc
  not_stuck true true false rest due ios all is = some_ios b.devices.ios.under_way ios (ios_are ∙ is.ios)
  not_stuck true false i rest due ios all is = elim (cases_lt 0 b.due) [
    | inl some ↦ somebody some is.due
    | inr none ↦ let yes : (b.due == 0) ≡ true = eq-eqb b.due 0 (omega (arith, none)) in let both : true ≡ false = sym yes ∙ due in cc
  ]
  not_stuck false d i rest due ios all is = let both : true ≡ false = sym is.rest ∙ ap (λ a. list_all are_at_rest a.spaces) (sym state_is) ∙ rest in cc

  done_is : (c : Bool) → is_done b ≡ c → list_all are_done v.base.state.spaces ≡ c
  done_is c is = ap (λ a. list_all are_done a.spaces) (sym state_is) ∙ is

  ends : (budget events : ℕ) → b.number ≡ events + 1 → EndsWith budget v events (end_of budget b)
  ends budget events number = go (is_done b) (is_stuck b) (b.number == budget + 1) refl refl refl where
    goes : is_done b ≡ false → is_stuck b ≡ false → VirtualsGoOn v
    goes done stuck' = record {
      done = λ all. let both : true ≡ false = sym all ∙ done_is false done in cc;
      stuck = not_stuck (list_all are_at_rest b.state.spaces) (b.due == 0) (no_io b.devices.ios.under_way) refl refl refl stuck';
    }

    go : (c d e : Bool) → is_done b ≡ c → is_stuck b ≡ d → (b.number == budget + 1) ≡ e
        → EndsWith budget v events (cond c (Some AllDone) (cond d (Some Stuck) (cond e (Some Budget) None)))
    go true d e done stuck' last = done_is true done
    go false true e done stuck' last =
        stuck (list_all are_at_rest b.state.spaces) (b.due == 0) (no_io b.devices.ios.under_way) refl refl refl (λ all. let both : true ≡ false =
        sym all ∙ done_is false done in cc) stuck'
    go false false true done stuck' last = (goes done stuck', let same = eqb-true b.number (budget + 1) last in omega (arith, same, number))
    go false false false done stuck' last = (
      goes done stuck',
      λ same. let yes : (b.number == budget + 1) ≡ true = eq-eqb b.number (budget + 1) (omega (arith, same, number)) in
          let both : true ≡ false = sym yes ∙ last in cc,
    )

pub ends_are_read : EndsAreRead
ends_are_read w budget events b read number = ends w b read budget events number
