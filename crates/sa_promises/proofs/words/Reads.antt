-- The fold reads what the plain words say: owners, aims, demands, lines, fetches, and what is untold.
use Rattle.std.proofs.Common.{◌≡◌, ◌≢◌, ℕ, zero, suc, ◌<◌, ◌⊎◌, inl, inr, refl, sym, ◌∙◌, ap, subst, arith, Some, None, List, [], ◌∷◌, ◌++◌, length, map, true, false}
use Rattle.std.specs.Prelude.{slice_set, get_or, unwrap_or, Option, Bool, ◌==◌, not, ◌||◌, if◌then◌else◌, Contains, filter}
use Rattle.std.specs.List.{list_any}
use Rattle.std.specs.Option.{option_or}
use Rattle.std.proofs.lemmas.Bool.{cases_eq, cases_lt, not-false, not-true, eq-eqb, ne_eqb}
use Rattle.std.proofs.lemmas.Bool.Decides.{nat_tests}
use Rattle.std.proofs.lemmas.List.{get_or-set_same, get_or-set_other, length-set}
use Rattle.std.proofs.lemmas.List.Folds.{list_any-append}
use Rattle.std.proofs.lemmas.List.Elements.{Contains-push, Contains-append_left, Contains-append_right, Contains-append_cases}
use Rattle.std.proofs.lemmas.Option.{none-some, same_Some, slice_get_within}
use Rattle.sa_lemmas.proofs.ListUpdates.{slice_get-append_left, slice_get-append_seam, slice_get-push_cases}
use Rattle.sa_base.specs.declared.number.SpaceNo.{SpaceNo}
use Rattle.sa_base.specs.declared.number.ProcNo.{ProcNo}
use Rattle.sa_base.specs.declared.number.ThreadNo.{ThreadNo}
use Rattle.sa_base.specs.declared.number.ActNo.{ActNo}
use Rattle.sa_base.specs.declared.record.Note.{Note}
use Rattle.sa_base.specs.declared.record.Note.TheVariants as note
use Rattle.sa_base.specs.declared.record.Record.{Record}
use Rattle.sa_base.specs.declared.record.Record.TheVariants.{Stop, Block, Unblock, Cont, Back, Told, Move, Want, Aim, Line, Fetch, Fetched}
use Rattle.sa_base.specs.declared.record.Item.{Item}
use Rattle.sa_spaces.specs.Workload.{WorkloadView}
use Rattle.sa_devices.specs.declared.kind.IoKind.{IoKind}
use Rattle.sa_devices.specs.declared.kind.IoKind.TheVariants.{Plain, Page, Upcall}
use Rattle.sa_devices.specs.Ios.{Io, is_fetch_of, fetches}
use Rattle.sa_laws.specs.State.{State}
use Rattle.sa_laws.specs.Machine.{changed}
use Rattle.sa_laws.specs.Readings.{Readings, untold_of}
use Rattle.sa_laws.specs.Record.{aims_after, demands_after, under_way_after, untold_after, with_note, is_other_note, same_note, blocking_for, length_behind, is_io_of, is_io_of_other, is_kind_of}
use Rattle.sa_laws.proofs.Spaces.{placed-owners}
use Rattle.sa_laws.proofs.Notes.{same_note-same}
use Rattle.sa_promises.specs.Words.{last_said, aim_in, want_in, move_in, fetch_in, RaisedAt, Notes}
use Rattle.sa_histories.proofs.Walk.{item}

or-none : {A : Type 0} (x : Option A) → option_or None x ≡ option_or x None
or-none None = refl
or-none (Some y) = refl

or-assoc : {A : Type 0} (x y z : Option A) → option_or (option_or x y) z ≡ option_or x (option_or y z)
or-assoc None y z = refl
or-assoc (Some a) y z = refl

-- one item more is looked at first
pub last-more : {A : Type 0} (says : Item → Option A) (past : List Item) (x : Item) → last_said says (past ++ x ∷ []) ≡ option_or (says x) (last_said says past)
last-more says [] x = or-none (says x)
last-more says (y ∷ ys) x = ap (λ o. option_or o (says y)) (last-more says ys x) ∙ or-assoc (says x) (last_said says ys) (says y)

or-value : {A : Type 0} (x y : Option A) (d : A) → unwrap_or (option_or x y) d ≡ unwrap_or x (unwrap_or y d)
or-value None y d = refl
or-value (Some a) y d = refl

-- where a reading was what was last said, it is so again if the item changes it to what it says
pub said-more : {A : Type 0} (says : Item → Option A) (past : List Item) (x : Item) (d old new : A) → old ≡ unwrap_or (last_said says past) d
    → new ≡ unwrap_or (says x) old → new ≡ unwrap_or (last_said says (past ++ x ∷ [])) d
said-more says past x d old new was now =
    now ∙ ap (unwrap_or (says x)) was ∙ sym (or-value (says x) (last_said says past) d) ∙ ap (λ o. unwrap_or o d) (sym (last-more says past x))

-- a list with a value at one place, as the words have it
pub set-said : {A : Type 0} (xs : List A) (i j : ℕ) (v d : A) → j < length xs
    → get_or (slice_set xs i v) j d ≡ unwrap_or (if i == j then Some v else None) (get_or xs j d)
set-said xs i j v d within = elim (cases_eq i j) [
  | inl same ↦ at i same within
  | inr apart ↦ get_or-set_other xs i j v d (λ e. apart (sym e)) ∙ sym (ap (λ b. unwrap_or (if b then Some v else None) (get_or xs j d)) (not-same i j apart))
] where
  not-same : (a b : ℕ) → a ≢ b → (a == b) ≡ false
  not-same a b apart = grind (arith, nat_tests)

  yes-same : (a b : ℕ) → a ≡ b → (a == b) ≡ true
  yes-same a b same = grind (arith, nat_tests)

  at : (k : ℕ) → k ≡ j → j < length xs → get_or (slice_set xs k v) j d ≡ unwrap_or (if k == j then Some v else None) (get_or xs j d)
  at k same below =
      ap (λ n. get_or (slice_set xs n v) j d) same ∙ get_or-set_same xs j v d below
      ∙ sym (ap (λ b. unwrap_or (if b then Some v else None) (get_or xs j d)) (yes-same k j same))

-- the aim of a processor
pub aim-more : (aims : List (Option SpaceNo)) (x : Record) (p : ProcNo) → p.0 < length aims
    → get_or (aims_after aims x) p.0 None ≡ unwrap_or (aim_in p x) (get_or aims p.0 None)
aim-more aims (Aim q s) p within = set-said aims q.0 p.0 s None within
aim-more aims x p within = refl

pub aims-length : (aims : List (Option SpaceNo)) (x : Record) → length (aims_after aims x) ≡ length aims
aims-length aims (Aim q s) = length-set aims q.0 s
aims-length aims x = refl

-- the demand of a space
pub demand-more : (demands : List ℕ) (x : Record) (s : SpaceNo) → s.0 < length demands
    → get_or (demands_after demands x) s.0 0 ≡ unwrap_or (want_in s x) (get_or demands s.0 0)
demand-more demands (Want t n) s within = set-said demands t.0 s.0 n 0 within
demand-more demands x s within = refl

-- the owner of a processor
abbrev pub owners_after : ProcNo → List (Option SpaceNo) → Record → List (Option SpaceNo)
owners_after p owners (Move old new) = slice_set owners p.0 new
owners_after p owners _ = owners

pub owners-changed : (w : WorkloadView) (p : ProcNo) (a : State) (x : Record) → (changed w p a x).owners ≡ owners_after p a.owners x
owners-changed w p a (Stop s t b) = placed-owners a s t _
owners-changed w p a (Block s t b io) = placed-owners a s t _
owners-changed w p a (Unblock s t b) = placed-owners a s t _
owners-changed w p a (Cont s t) = placed-owners a s t _
owners-changed w p a (Back s t) = placed-owners a s t _
owners-changed w p a x = refl

-- of the event's own processor, which the machine has
owner-past : (owners : List (Option SpaceNo)) (q p : ℕ) (new : Option SpaceNo) → p ≢ q
    → get_or (slice_set owners q new) p None ≡ unwrap_or (if q == p then Some new else None) (get_or owners p None)
owner-past owners q p new apart =
    get_or-set_other owners q p new None apart
    ∙ sym (ap (λ b. unwrap_or (if b then Some new else None) (get_or owners p None)) (ne_eqb q p (λ e. apart (sym e))))

pub owner-set : (owners : List (Option SpaceNo)) (q p : ℕ) (new : Option SpaceNo) → q < length owners
    → get_or (slice_set owners q new) p None ≡ unwrap_or (if q == p then Some new else None) (get_or owners p None)
owner-set owners q p new within = elim (cases_lt p (length owners)) [
  | inl below ↦ set-said owners q p new None below
  | inr past ↦ owner-past owners q p new (λ e. absurd (omega arith))
]

pub owner-more : (owners : List (Option SpaceNo)) (q : ProcNo) (x : Record) (p : ProcNo) → q.0 < length owners
    → get_or (owners_after q owners x) p.0 None ≡ unwrap_or (move_in p q x) (get_or owners p.0 None)
owner-more owners q (Move old new) p within = owner-set owners q.0 p.0 new within
owner-more owners q x p within = refl

pub owners-length : (owners : List (Option SpaceNo)) (q : ProcNo) (x : Record) → length (owners_after q owners x) ≡ length owners
owners-length owners q (Move old new) = length-set owners q.0 new
owners-length owners q x = refl

-- the fetch of a space's upcall page
no-fetch : (w : WorkloadView) (r : Readings) (s : ℕ) (of : SpaceNo) (t : Option ThreadNo) (a : ActNo) (o : Option ℕ)
    → is_fetch_of s (blocking_for w r of t a o).kind ≡ false
no-fetch w r s of t a None = refl
no-fetch w r s of t a (Some n) = refl

or-false : (b : Bool) → (b || (false || false)) ≡ b
or-false true = refl
or-false false = refl

or-said : (b old : Bool) → (old || (b || false)) ≡ unwrap_or (if b then Some true else None) old
or-said true true = refl
or-said true false = refl
or-said false true = refl
or-said false false = refl

-- what a filter takes away does not pass the test
pub filter-any : (f g : Io → Bool) → ((io : Io) → g io ≡ false → f io ≡ false) → (ios : List Io) → list_any f (filter g ios) ≡ list_any f ios
filter-any f g gone [] = refl
filter-any f g gone (io ∷ ios) = one (filter-any f g gone ios) (g io) refl where
  one : list_any f (filter g ios) ≡ list_any f ios → (b : Bool) → g io ≡ b
      → list_any f (if b then io ∷ filter g ios else filter g ios) ≡ (f io || list_any f ios)
  one rest true is = ap (λ c. f io || c) rest
  one rest false is = rest ∙ sym (ap (λ c. c || list_any f ios) (gone io is))

filter-none : (f g : Io → Bool) → ((io : Io) → g io ≡ true → f io ≡ false) → (ios : List Io) → list_any f (filter g ios) ≡ false
filter-none f g gone [] = refl
filter-none f g gone (io ∷ ios) = one (filter-none f g gone ios) (g io) refl where
  one : list_any f (filter g ios) ≡ false → (b : Bool) → g io ≡ b → list_any f (if b then io ∷ filter g ios else filter g ios) ≡ false
  one rest true is = ap (λ c. c || list_any f (filter g ios)) (gone io is) ∙ rest
  one rest false is = rest

pub io-is-no-fetch : (s : ℕ) (a : ActNo) (kind : IoKind) → is_kind_of a kind ≡ true → is_fetch_of s kind ≡ false
io-is-no-fetch s a (Plain of b) is = refl
io-is-no-fetch s a (Page of b k) is = refl
io-is-no-fetch s a (Upcall of) is = absurd (cc)

fetch-apart : (s t : ℕ) (kind : IoKind) → t ≢ s → is_fetch_of t kind ≡ true → is_fetch_of s kind ≡ false
fetch-apart s t (Plain of b) apart is = refl
fetch-apart s t (Page of b k) apart is = refl
fetch-apart s t (Upcall of) apart is = grind (arith, nat_tests)

fetched-said : (s t : ℕ) (ios : List Io) → list_any (fetches s) (filter (λ io. not (fetches t io)) ios)
    ≡ unwrap_or (if t == s then Some false else None) (list_any (fetches s) ios)
fetched-said s t ios = elim (cases_eq t s) [
  | inl same ↦
      ap (λ n. list_any (fetches s) (filter (λ io. not (fetches n io)) ios)) same
      ∙ filter-none (fetches s) (λ io. not (fetches s io)) (λ io is. not-true (fetches s io) is) ios
      ∙ sym (ap (λ b. unwrap_or (if b then Some false else None) (list_any (fetches s) ios)) (eq-eqb t s same))
  | inr apart ↦
      filter-any (fetches s) (λ io. not (fetches t io)) (λ io is. fetch-apart s t io.kind apart (not-false (fetches t io) is)) ios
      ∙ sym (ap (λ b. unwrap_or (if b then Some false else None) (list_any (fetches s) ios)) (ne_eqb t s apart))
]

pub fetch-more : (w : WorkloadView) (e : ℕ) (r : Readings) (x : Record) (s : SpaceNo)
    → list_any (fetches s.0) (under_way_after w e r x) ≡ unwrap_or (fetch_in s x) (list_any (fetches s.0) r.under_way)
fetch-more w e r (Block of t a io) s =
    list_any-append (fetches s.0) r.under_way _
    ∙ ap (λ b. list_any (fetches s.0) r.under_way || (b || false)) (no-fetch w r s.0 of t a (length_behind w r of t r.last))
    ∙ or-false (list_any (fetches s.0) r.under_way)
fetch-more w e r (Fetch t) s = list_any-append (fetches s.0) r.under_way _ ∙ or-said (t.0 == s.0) (list_any (fetches s.0) r.under_way)
fetch-more w e r (Unblock of t a) s =
    filter-any (fetches s.0) (is_io_of_other a) (λ io is. io-is-no-fetch s.0 a io.kind (not-false (is_io_of a io) is)) r.under_way
fetch-more w e r (Fetched t) s = fetched-said s.0 t.0 r.under_way
fetch-more w e r x s = refl

pub raised-more : (past : List Item) (x : Item) (p : ProcNo) (e : ℕ) → (e < x.event → x.proc ≢ p) → RaisedAt past p e → RaisedAt (past ++ x ∷ []) p e
raised-more past x p e apart o = record {
  place = o.place;
  item = o.item;
  at = slice_get-append_left past (x ∷ []) o.place (slice_get_within past o.place o.item o.at) ∙ o.at;
  line = o.line;
  raised = o.raised;
  none = λ k y above at below. elim (slice_get-push_cases past k x y at) [
    | inl new ↦ (let raised = o.raised in let same = ap (λ (z : Item). z.event) new.1 in
        λ proc. apart (omega arith) (ap (λ (z : Item). z.proc) (sym new.1) ∙ proc))
    | inr old ↦ o.none k y above old below
  ];
}

pub raised-new : (past : List Item) (e : ℕ) (q p : ProcNo) → RaisedAt (past ++ item e q (Line p) ∷ []) p e
raised-new past e q p = record {
  place = length past;
  item = item e q (Line p);
  at = slice_get-append_seam past [] (item e q (Line p));
  line = eq-eqb p.0 p.0 refl;
  raised = refl;
  none = λ k y above at below. elim (slice_get-push_cases past k (item e q (Line p)) y at) [
    | inl new ↦ (let place = new.0 in absurd (omega arith))
    | inr old ↦ (let within = slice_get_within past k y old in absurd (omega arith))
  ];
}

pub set-cases : (xs : List (Option ℕ)) (i j v e : ℕ) → get_or (slice_set xs i (Some e)) j None ≡ Some v → ((j ≡ i) × (v ≡ e)) ⊎ (get_or xs j None ≡ Some v)
set-cases (x ∷ xs) zero zero v e is = inl (refl, sym (same_Some e v is))
set-cases (x ∷ xs) (suc i) (suc j) v e is = elim (set-cases xs i j v e is) [ inl new ↦ inl (ap suc new.0, new.1) | inr old ↦ inr old ]
set-cases _ _ _ v e is = inr is

pub clear-cases : (xs : List (Option ℕ)) (i j v : ℕ) → get_or (slice_set xs i None) j None ≡ Some v → (j ≢ i) × (get_or xs j None ≡ Some v)
clear-cases [] i j v is = absurd (none-some v is)
clear-cases (x ∷ xs) zero zero v is = absurd (none-some v is)
clear-cases (x ∷ xs) zero (suc j) v is = ((λ e. cc), is)
clear-cases (x ∷ xs) (suc i) zero v is = ((λ e. cc), is)
clear-cases (x ∷ xs) (suc i) (suc j) v is = let h = clear-cases xs i j v is in ((λ e. h.0 (omega arith)), h.1)

-- what stands untold is read as untold
pub with-keeps : (xs : List (List Note)) (i j : ℕ) (y z : Note) → Contains (get_or xs j []) z
    → Contains (get_or (slice_set xs i (get_or xs i [] ++ y ∷ [])) j []) z
with-keeps (x ∷ xs) zero zero y z has = Contains-append_left x (y ∷ []) z has
with-keeps (x ∷ xs) (suc i) (suc j) y z has = with-keeps xs i j y z has
with-keeps _ _ _ y z has = has

with-has : (xs : List (List Note)) (i : ℕ) (y : Note) → i < length xs → Contains (get_or (slice_set xs i (get_or xs i [] ++ y ∷ [])) i []) y
with-has [] i y within = absurd (omega arith)
with-has (x ∷ xs) zero y within = Contains-push x y
with-has (x ∷ xs) (suc i) y within = with-has xs i y (omega arith)

filter-keeps : (test : Note → Bool) (notes : List Note) (z : Note) → test z ≡ true → Contains notes z → Contains (filter test notes) z
filter-keeps test [] z passes has = has
filter-keeps test (m ∷ ms) z passes has = elim (Contains-append_cases (m ∷ []) ms z has) [
  | inl first ↦
      let same : m ≡ z = only m z first in
      subst (λ k. Contains (filter test (k ∷ ms)) z) (sym same)
      (subst (λ b. Contains (if b then z ∷ filter test ms else filter test ms) z) (sym passes) (0, omega arith, refl))
  | inr later ↦ one (test m) (filter-keeps test ms z passes later)
] where
  only : (m z : Note) → Contains (m ∷ []) z → m ≡ z
  only m z (zero, below, is) = is
  only m z (suc k, below, is) = absurd (omega arith)

  one : (b : Bool) → Contains (filter test ms) z → Contains (if b then m ∷ filter test ms else filter test ms) z
  one true rest = Contains-append_right (m ∷ []) (filter test ms) z rest
  one false rest = rest

without-keeps : (test : Note → Bool) (xs : List (List Note)) (j : ℕ) (z : Note) → test z ≡ true → Contains (get_or xs j []) z
    → Contains (get_or (map (filter test) xs) j []) z
without-keeps test [] j z passes has = has
without-keeps test (x ∷ xs) zero z passes has = filter-keeps test x z passes has
without-keeps test (x ∷ xs) (suc j) z passes has = without-keeps test xs j z passes has

other-note : (n m : Note) → m ≢ n → is_other_note n m ≡ true
other-note n m apart = one (same_note m n) refl where
  one : (b : Bool) → same_note m n ≡ b → not b ≡ true
  one true is = absurd (apart (same_note-same m n is))
  one false is = refl

pub untold-stays : (r : Readings) (x : Record) (s : SpaceNo) (n : Note) → x ≢ Told n → Contains (untold_of r s) n
    → Contains (get_or (untold_after r x) s.0 []) n
untold-stays r (Stop of t a) s n other has = with-keeps r.untold of.0 s.0 (note.Preempted a) n has
untold-stays r (Block of t a io) s n other has = with-keeps r.untold of.0 s.0 (note.Blocked a) n has
untold-stays r (Unblock of t a) s n other has = with-keeps r.untold of.0 s.0 (note.Unblocked a) n has
untold-stays r (Told m) s n other has = without-keeps (is_other_note m) r.untold s.0 n (other-note m n (λ e. other (ap Told (sym e)))) has
untold-stays r x s n other has = has

come : (r : Readings) (of s : SpaceNo) (m n : Note) → s.0 < length r.untold → of ≡ s → n ≡ m → Contains (get_or (with_note r.untold of m) s.0 []) n
come r of s m n within same is =
    subst (λ t. Contains (get_or (with_note r.untold t m) s.0 []) n) (sym same)
    (subst (λ k. Contains (get_or (with_note r.untold s m) s.0 []) k) (sym is) (with-has r.untold s.0 m within))

pub untold-comes : (r : Readings) (x : Record) (s : SpaceNo) (n : Note) → s.0 < length r.untold → Notes x s n → Contains (get_or (untold_after r x) s.0 []) n
untold-comes r (Stop of t a) s n within notes = come r of s (note.Preempted a) n within notes.0 notes.1
untold-comes r (Block of t a io) s n within notes = come r of s (note.Blocked a) n within notes.0 notes.1
untold-comes r (Unblock of t a) s n within notes = come r of s (note.Unblocked a) n within notes.0 notes.1
untold-comes r x s n within notes = absurd notes
