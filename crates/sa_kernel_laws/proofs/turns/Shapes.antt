-- The parts of an event's list of records.
use Rattle.std.proofs.Common.{◌≡◌, ℕ, ◌<◌, inl, inr, refl, sym, ◌∙◌, ap, arith, Some, None, List, [], ◌∷◌, ◌++◌, length, map, drop, true, false}
use Rattle.std.specs.Prelude.{Option, Bool, ◌&&◌, not, cond, if◌then◌else◌, filter, take_while}
use Rattle.std.specs.List.{list_all}
use Rattle.std.proofs.lemmas.Bool.{cases_lt, eq-eqb, ne_eqb, and_parts, not-true}
use Rattle.std.proofs.lemmas.List.{append-nil, get_or_past, get_or-set_same}
use Rattle.std.proofs.lemmas.List.Sums.{take_while-cons}
use Rattle.std.proofs.lemmas.Option.{none-some}
use Rattle.sa_base.specs.declared.number.SpaceNo.{SpaceNo}
use Rattle.sa_base.specs.declared.record.Record.{Record}
use Rattle.sa_base.specs.declared.record.Record.TheVariants.{Want, Aim, Line}
use Rattle.sa_assign.specs.Aims.{Change, space_no}
use Rattle.sa_assign.specs.Reaim.{proc_no, line_at, raised, lines_with, lines_after, line_records, records_of}
use Rattle.sa_laws.specs.Shape.{is_want, is_line, is_own, is_no_aim, is_no_want, is_other_line, follows_aim, aims_in, before_lines, front_part}
use Rattle.sa_laws.specs.Closing.{want_one}
use Rattle.sa_kernel_laws.proofs.entries.Walks.{AreOwn}
use Rattle.sa_kernel_laws.proofs.closings.Lines.{AreLines}

-- tests that each record passes
pub all-weaker : (f g : Record → Bool) → ((x : Record) → f x ≡ true → g x ≡ true) → (xs : List Record) → list_all f xs ≡ true → list_all g xs ≡ true
all-weaker f g weaker [] all = refl
all-weaker f g weaker (x ∷ xs) all =
    ap (λ b. b && list_all g xs) (weaker x (and_parts (f x) (list_all f xs) all).0) ∙ all-weaker f g weaker xs (and_parts (f x) (list_all f xs) all).1

pub while-both : (f : Record → Bool) (xs ys : List Record) → list_all f xs ≡ true → take_while f (xs ++ ys) ≡ xs ++ take_while f ys
while-both f [] ys all = refl
while-both f (x ∷ xs) ys all =
    take_while-cons f x (xs ++ ys) ∙ ap (λ b. cond b (x ∷ take_while f (xs ++ ys)) []) (and_parts (f x) (list_all f xs) all).0
    ∙ ap (λ zs. x ∷ zs) (while-both f xs ys (and_parts (f x) (list_all f xs) all).1)

pub while-all : (f : Record → Bool) (xs : List Record) → list_all f xs ≡ true → take_while f xs ≡ xs
while-all f xs all = ap (take_while f) (sym (append-nil xs)) ∙ while-both f xs [] all ∙ append-nil xs

pub filter-both : (f : Record → Bool) (xs ys : List Record) → filter f (xs ++ ys) ≡ filter f xs ++ filter f ys
filter-both f [] ys = refl
filter-both f (x ∷ xs) ys = one (f x) (filter-both f xs ys) where
  one : (b : Bool) → filter f (xs ++ ys) ≡ filter f xs ++ filter f ys
      → cond b (x ∷ filter f (xs ++ ys)) (filter f (xs ++ ys)) ≡ cond b (x ∷ filter f xs) (filter f xs) ++ filter f ys
  one true rest = ap (λ zs. x ∷ zs) rest
  one false rest = rest

pub filter-all : (f : Record → Bool) (xs : List Record) → list_all f xs ≡ true → filter f xs ≡ xs
filter-all f [] all = refl
filter-all f (x ∷ xs) all =
    ap (λ b. cond b (x ∷ filter f xs) (filter f xs)) (and_parts (f x) (list_all f xs) all).0
    ∙ ap (λ zs. x ∷ zs) (filter-all f xs (and_parts (f x) (list_all f xs) all).1)

pub filter-none : (f : Record → Bool) (xs : List Record) → list_all (λ x. not (f x)) xs ≡ true → filter f xs ≡ []
filter-none f [] all = refl
filter-none f (x ∷ xs) all =
    ap (λ b. cond b (x ∷ filter f xs) (filter f xs)) (not-true (f x) (and_parts (not (f x)) (list_all (λ y. not (f y)) xs) all).0)
    ∙ filter-none f xs (and_parts (not (f x)) (list_all (λ y. not (f y)) xs) all).1

pub drop-front : (xs ys : List Record) → drop (length xs) (xs ++ ys) ≡ ys
drop-front [] ys = refl
drop-front (x ∷ xs) ys = drop-front xs ys

-- kinds of records
own-want : (x : Record) → is_own x ≡ true → is_no_want x ≡ true
own-want (Want s n) own = absurd (cc)
own-want x own = refl

own-line : (x : Record) → is_own x ≡ true → not (is_line x) ≡ true
own-line (Line q) own = absurd (cc)
own-line x own = refl

line-want : (x : Record) → is_line x ≡ true → is_no_want x ≡ true
line-want (Want s n) line = absurd (cc)
line-want x line = refl

line-aim : (x : Record) → is_line x ≡ true → is_no_aim x ≡ true
line-aim (Aim q (Some s)) line = absurd (cc)
line-aim _ line = refl

pub own-wants : (xs : List Record) → AreOwn xs → list_all is_no_want xs ≡ true
own-wants xs own = all-weaker is_own is_no_want own-want xs own

pub own-lines : (xs : List Record) → AreOwn xs → list_all (λ x. not (is_line x)) xs ≡ true
own-lines xs own = all-weaker is_own (λ x. not (is_line x)) own-line xs own

pub lines-wants : (xs : List Record) → AreLines xs → list_all is_no_want xs ≡ true
lines-wants xs lines = all-weaker is_line is_no_want line-want xs lines

pub lines-aims : (xs : List Record) → AreLines xs → list_all is_no_aim xs ≡ true
lines-aims xs lines = all-weaker is_line is_no_aim line-aim xs lines

pub wants-all : (ss : List SpaceNo) → list_all is_want (map want_one ss) ≡ true
wants-all [] = refl
wants-all (s ∷ ss) = wants-all ss

pub wants-aims : (ss : List SpaceNo) → list_all is_no_aim (map want_one ss) ≡ true
wants-aims [] = refl
wants-aims (s ∷ ss) = wants-aims ss

pub wants-lines : (ss : List SpaceNo) → list_all (λ x. not (is_line x)) (map want_one ss) ≡ true
wants-lines [] = refl
wants-lines (s ∷ ss) = wants-lines ss

pub aims-wants : (e : ℕ) (lines : List (Option ℕ)) (cs : List Change) → list_all is_no_want (records_of e lines cs) ≡ true
aims-wants e lines [] = refl
aims-wants e lines (c ∷ cs) = one (line_at lines c.proc) (aims-wants e (lines_with e lines c) cs) where
  one : (l : Option ℕ) → list_all is_no_want (records_of e (lines_with e lines c) cs) ≡ true
      → list_all is_no_want (line_records c.proc l ++ records_of e (lines_with e lines c) cs) ≡ true
  one None rest = rest
  one (Some x) rest = rest

-- the aims in a list
aims-both : (xs ys : List Record) → aims_in (xs ++ ys) ≡ aims_in xs ++ aims_in ys
aims-both [] ys = refl
aims-both (Aim q (Some s) ∷ xs) ys = ap (λ zs. (let c : Change = record { proc = q.0; space = s.0 } in c) ∷ zs) (aims-both xs ys)
aims-both (Aim q None ∷ xs) ys = aims-both xs ys
aims-both (x ∷ xs) ys = aims-both xs ys

pub aims-none : (xs : List Record) → list_all is_no_aim xs ≡ true → aims_in xs ≡ []
aims-none [] none = refl
aims-none (Aim q (Some s) ∷ xs) none = absurd (cc)
aims-none (Aim q None ∷ xs) none = aims-none xs none
aims-none (x ∷ xs) none = aims-none xs none

aims-said : (e : ℕ) (lines : List (Option ℕ)) (cs : List Change) → aims_in (records_of e lines cs) ≡ cs
aims-said e lines [] = refl
aims-said e lines (c ∷ cs) = ap (λ zs. c ∷ zs) (one (line_at lines c.proc) (aims-said e (lines_with e lines c) cs)) where
  one : (l : Option ℕ) → aims_in (records_of e (lines_with e lines c) cs) ≡ cs → aims_in (line_records c.proc l ++ records_of e (lines_with e lines c) cs) ≡ cs
  one None rest = rest
  one (Some x) rest = rest

pub aims-of : (own wl ll : List Record) (e : ℕ) (lines : List (Option ℕ)) (cs : List Change) → list_all is_no_aim own ≡ true → list_all is_no_aim wl ≡ true
    → list_all is_no_aim ll ≡ true → aims_in (own ++ (wl ++ (records_of e lines cs ++ ll))) ≡ cs
aims-of own wl ll e lines cs none no_want no_line =
    aims-both own (wl ++ (records_of e lines cs ++ ll)) ∙ ap (λ xs. xs ++ aims_in (wl ++ (records_of e lines cs ++ ll))) (aims-none own none)
    ∙ aims-both wl (records_of e lines cs ++ ll) ∙ ap (λ xs. xs ++ aims_in (records_of e lines cs ++ ll)) (aims-none wl no_want)
    ∙ aims-both (records_of e lines cs) ll ∙ ap (λ xs. xs ++ aims_in ll) (aims-said e lines cs) ∙ ap (λ xs. cs ++ xs) (aims-none ll no_line) ∙ append-nil cs

-- what is last in a list, and what is before it
abbrev last_of : Option Record → List Record → Option Record
last_of l [] = l
last_of l (x ∷ xs) = last_of (Some x) xs

lines-both : (l : Option Record) (xs ys : List Record) → before_lines l xs ≡ xs → before_lines l (xs ++ ys) ≡ xs ++ before_lines (last_of l xs) ys
lines-both l [] ys is = refl
lines-both l (x ∷ xs) ys is = one (is_other_line l x) is (λ rest. lines-both (Some x) xs ys rest) where
  one : (b : Bool) → (if b then [] else x ∷ before_lines (Some x) xs) ≡ x ∷ xs
      → (before_lines (Some x) xs ≡ xs → before_lines (Some x) (xs ++ ys) ≡ xs ++ before_lines (last_of (Some x) xs) ys)
      → (if b then [] else x ∷ before_lines (Some x) (xs ++ ys)) ≡ x ∷ (xs ++ before_lines (last_of (Some x) xs) ys)
  one true none rest = absurd (let no : [] ≡ x ∷ xs = none in cc)
  one false all rest = ap (λ zs. x ∷ zs) (rest (cc))

no-other : (l : Option Record) (x : Record) → not (is_line x) ≡ true → is_other_line l x ≡ false
no-other l (Line q) none = absurd (cc)
no-other l x none = refl

no-lines : (l : Option Record) (xs : List Record) → list_all (λ x. not (is_line x)) xs ≡ true → before_lines l xs ≡ xs
no-lines l [] none = refl
no-lines l (x ∷ xs) none =
    ap (λ b. if b then [] else x ∷ before_lines (Some x) xs) (no-other l x (and_parts (not (is_line x)) (list_all (λ y. not (is_line y)) xs) none).0)
    ∙ ap (λ zs. x ∷ zs) (no-lines (Some x) xs (and_parts (not (is_line x)) (list_all (λ y. not (is_line y)) xs) none).1)

-- lines of aims follow them
follows : (e : ℕ) (lines : List (Option ℕ)) (cs : List Change) (l : Option Record) → before_lines l (records_of e lines cs) ≡ records_of e lines cs
follows e lines [] l = refl
follows e lines (c ∷ cs) l = ap (λ zs. aim ∷ zs) (one (line_at lines c.proc) (λ k. follows e (lines_with e lines c) cs k)) where
  aim : Record
  aim = Aim (proc_no c.proc) (Some (space_no c.space))

  one : (o : Option ℕ) → ((k : Option Record) → before_lines k (records_of e (lines_with e lines c) cs) ≡ records_of e (lines_with e lines c) cs)
      → before_lines (Some (Aim (proc_no c.proc) (Some (space_no c.space)))) (line_records c.proc o ++ records_of e (lines_with e lines c) cs)
      ≡ line_records c.proc o ++ records_of e (lines_with e lines c) cs
  one None rest =
      ap (λ b. if not b then [] else Line (proc_no c.proc) ∷ before_lines (Some (Line (proc_no c.proc))) (records_of e (lines_with e lines c) cs))
      (eq-eqb c.proc c.proc refl)
      ∙ ap (λ zs. Line (proc_no c.proc) ∷ zs) (rest (Some (Line (proc_no c.proc))))
  one (Some x) rest = rest (Some (Aim (proc_no c.proc) (Some (space_no c.space))))

-- what comes before the last lines is no aim of a processor with a low line
abbrev IsHigh : List (Option ℕ) → Option Record → Type 0
IsHigh lines l = (q : ℕ) → line_at lines q ≡ None → follows_aim l (proc_no q) ≡ false

high-aims : (e : ℕ) (lines : List (Option ℕ)) (cs : List Change) (l : Option Record) → IsHigh lines l
    → IsHigh (lines_after e lines cs) (last_of l (records_of e lines cs))
high-aims e lines [] l high = high
high-aims e lines (c ∷ cs) l high = one (line_at lines c.proc) refl (λ k h. high-aims e (lines_with e lines c) cs k h) where
  next : List (Option ℕ)
  next = lines_with e lines c

  one : (o : Option ℕ) → line_at lines c.proc ≡ o
      → ((k : Option Record) → IsHigh (lines_with e lines c) k
      → IsHigh (lines_after e (lines_with e lines c) cs) (last_of k (records_of e (lines_with e lines c) cs)))
      → IsHigh (lines_after e (lines_with e lines c) cs)
      (last_of (Some (Aim (proc_no c.proc) (Some (space_no c.space)))) (line_records c.proc o ++ records_of e (lines_with e lines c) cs))
  one None is rest = rest (Some (Line (proc_no c.proc))) (λ q low. refl)
  one (Some x) is rest = rest (Some (Aim (proc_no c.proc) (Some (space_no c.space)))) (λ q low. ne_eqb c.proc q (λ same.
      (let within : c.proc < length lines = elim (cases_lt c.proc (length lines)) [
        | inl below ↦ below
        | inr past ↦ absurd (none-some x (sym (get_or_past lines c.proc None (omega arith)) ∙ is))
      ] in
      none-some x (sym low ∙ ap (λ i. line_at (lines_with e lines c) i) (sym same) ∙ get_or-set_same lines c.proc (raised e (line_at lines c.proc)) None within
      ∙ ap (raised e) is))))

-- a list without aims does not end with one
abbrev IsNoAim : Option Record → Type 0
IsNoAim None = Unit {0}
IsNoAim (Some x) = is_no_aim x ≡ true

last-no-aim : (l : Option Record) (xs : List Record) → IsNoAim l → list_all is_no_aim xs ≡ true → IsNoAim (last_of l xs)
last-no-aim l [] none all = none
last-no-aim l (x ∷ xs) none all =
    last-no-aim (Some x) xs (and_parts (is_no_aim x) (list_all is_no_aim xs) all).0 (and_parts (is_no_aim x) (list_all is_no_aim xs) all).1

no-aim-high : (lines : List (Option ℕ)) (l : Option Record) → IsNoAim l → IsHigh lines l
no-aim-high lines (Some (Aim p (Some s))) none q low = absurd (cc)
no-aim-high lines _ none q low = refl

nothing-more : (l : Option Record) (ll : List Record) (lines : List (Option ℕ)) → IsHigh lines l
    → ((q : ℕ) (others : List Record) → ll ≡ Line (proc_no q) ∷ others → line_at lines q ≡ None) → AreLines ll → before_lines l ll ≡ []
nothing-more l [] lines high low are = refl
nothing-more l (Line q ∷ ll) lines high low are =
    ap (λ b. if not b then [] else Line q ∷ before_lines (Some (Line q)) ll) (high q.0 (low q.0 ll refl))
nothing-more l (x ∷ ll) lines high low are = absurd (cc)

-- the parts of an event: an own part, wants, aims with their lines, and other lines
pub front-is : (x : Record) (xs wl ll : List Record) (e : ℕ) (lines : List (Option ℕ)) (cs : List Change) → is_no_aim x ≡ true → list_all is_no_aim xs ≡ true
    → list_all (λ y. not (is_line y)) xs ≡ true → list_all is_no_aim wl ≡ true → list_all (λ y. not (is_line y)) wl ≡ true
    → ((q : ℕ) (others : List Record) → ll ≡ Line (proc_no q) ∷ others → line_at (lines_after e lines cs) q ≡ None) → AreLines ll
    → front_part ((x ∷ xs) ++ (wl ++ (records_of e lines cs ++ ll))) ≡ (x ∷ xs) ++ (wl ++ records_of e lines cs)
front-is x xs wl ll e lines cs first none no_line want_none want_line low are_lines =
    let al = records_of e lines cs in
    let one = last_of (Some x) xs in
    let two = last_of one wl in
    let three = last_of two al in
    let high : IsHigh (lines_after e lines cs) three =
    high-aims e lines cs two (no-aim-high lines two (last-no-aim one wl (last-no-aim (Some x) xs first none) want_none)) in
    let end : before_lines three ll ≡ [] = nothing-more three ll (lines_after e lines cs) high low are_lines in
    ap (λ zs. x ∷ zs) (lines-both (Some x) xs (wl ++ (al ++ ll)) (no-lines (Some x) xs no_line)
    ∙ ap (λ zs. xs ++ zs) (lines-both one wl (al ++ ll) (no-lines one wl want_line)
    ∙ ap (λ zs. wl ++ zs) (lines-both two al ll (follows e lines cs two) ∙ ap (λ zs. al ++ zs) end ∙ append-nil al)))
