-- The first event of some items, and the items after it.
use Rattle.std.proofs.Common.{◌≡◌, ◌≢◌, suc, ◌+◌, None, refl, sym, ◌∙◌, ap, List, [], ◌∷◌, ◌++◌, map, take, drop, Bool, true, false, arith}
use Rattle.std.specs.Prelude.{◌==◌, ◌&&◌, if◌then◌else◌}
use Rattle.std.specs.List.{prefix_len}
use Rattle.std.proofs.lemmas.Bool.{and_parts, eqb-true, eq-eqb}
use Rattle.sa_base.specs.declared.record.Item.{Item}
use Rattle.sa_base.specs.declared.record.Record.{Record}
use Rattle.sa_base.specs.Items.{items_at}
use Rattle.sa_laws.specs.Event.{Event, events_of, before_events, event_of}
use Rattle.sa_check_moment.specs.Seen.{event}
use Rattle.sa_laws.specs.Ends.{LastLine}
use Rattle.sa_check.specs.Items.{is_with, what_of}
use Rattle.sa_check.specs.Sides.{line_before}

record Together (x y : Item) : Type 0 where
  event : x.event ≡ y.event
  proc : x.proc ≡ y.proc

together : (x y : Item) → is_with x y ≡ true → Together x y
together x y is =
    let both = and_parts (x.event == y.event) (x.proc.0 == y.proc.0) is in
    let proc : x.proc.0 ≡ y.proc.0 = eqb-true x.proc.0 y.proc.0 both.1 in
    record { event = eqb-true x.event y.event both.0; proc = λ i. record { 0 = proc i } }

pub first-event : (x : Item) (xs : List Item)
    → events_of (x ∷ xs) ≡ event x.event x.proc (x.what ∷ map what_of (take (prefix_len (is_with x) xs) xs)) ∷ events_of (drop (prefix_len (is_with x) xs) xs)
first-event x [] = refl
first-event x (y ∷ ys) =
    ap (before_events x) (first-event y ys) ∙ by (is_with x y) (together x y) (first-event y ys)
  where
    by : (b : Bool) → (b ≡ true → Together x y)
        → events_of (y ∷ ys) ≡ event y.event y.proc (y.what ∷ map what_of (take (prefix_len (is_with y) ys) ys))
        ∷ events_of (drop (prefix_len (is_with y) ys) ys)
        → (if b then event y.event y.proc (x.what ∷ y.what ∷ map what_of (take (prefix_len (is_with y) ys) ys))
        ∷ events_of (drop (prefix_len (is_with y) ys) ys)
        else event_of x ∷ event y.event y.proc (y.what ∷ map what_of (take (prefix_len (is_with y) ys) ys)) ∷ events_of (drop (prefix_len (is_with y) ys) ys))
        ≡ event x.event x.proc (x.what ∷ map what_of (take (if b then 1 + prefix_len (is_with x) ys else 0) (y ∷ ys)))
        ∷ events_of (drop (if b then 1 + prefix_len (is_with x) ys else 0) (y ∷ ys))
    by true same rest =
        let t = same refl in
        let n : prefix_len (is_with y) ys ≡ prefix_len (is_with x) ys =
        λ i. prefix_len (λ (z : Item). sym t.event i == z.event && (sym t.proc i).0 == z.proc.0) ys in
        let one : suc (prefix_len (is_with x) ys) ≡ 1 + prefix_len (is_with x) ys = omega arith in
        (λ i. event (sym t.event i) (sym t.proc i) (x.what ∷ y.what ∷ map what_of (take (n i) ys)) ∷ events_of (drop (n i) ys))
        ∙ ap (λ k. event x.event x.proc (x.what ∷ map what_of (take k (y ∷ ys))) ∷ events_of (drop k (y ∷ ys))) one
    by false same rest = ap (λ es. event_of x ∷ es) (sym rest)

-- some items have some event
pub some-event : (items : List Item) (x : Item) (xs : List Item) → items ≡ x ∷ xs → events_of items ≢ []
some-event items x xs is none = let no = sym (first-event x xs) ∙ sym (ap events_of is) ∙ none in cc

pub no-line : (events : List Event) (line : LastLine) → events ≢ [] → None ≡ line_before events line
no-line [] line some = absurd (some refl)
no-line (e ∷ es) line some = refl

-- the next item is of another event, if there is one
abbrev pub IsApart : Item → List Item → Type 0
IsApart first [] = Unit {0}
IsApart first (x ∷ xs) = is_with first x ≡ false

before-other : (first : Item) (what : Record) (rest : List Item) → IsApart first rest
    → before_events (record first { what = what }) (events_of rest) ≡ event first.event first.proc (what ∷ []) ∷ events_of rest
before-other first what [] apart = refl
before-other first what (z ∷ zs) apart =
    let is = first-event z zs in
    let own = event z.event z.proc (z.what ∷ map what_of (take (prefix_len (is_with z) zs) zs)) in
    let others = events_of (drop (prefix_len (is_with z) zs) zs) in
    let one = event first.event first.proc (what ∷ []) in
    ap (before_events (record first { what = what })) is
    ∙ ap (λ b. if b then event z.event z.proc (what ∷ own.records) ∷ others else one ∷ own ∷ others) apart
    ∙ ap (λ es. one ∷ es) (sym is)

-- the items of one event in front of those of others
pub front-event : (first : Item) (records : List Record) (rest : List Item) → records ≢ [] → IsApart first rest
    → events_of (items_at first.event first.proc records ++ rest) ≡ event first.event first.proc records ∷ events_of rest
front-event first [] rest some apart = absurd (some refl)
front-event first (x ∷ []) rest some apart = before-other first x rest apart
front-event first (x ∷ y ∷ ys) rest some apart =
    let own = event first.event first.proc (y ∷ ys) in
    let one = event first.event first.proc (x ∷ []) in
    let itself : is_with first first ≡ true =
    ap (λ b. b && first.proc.0 == first.proc.0) (eq-eqb first.event first.event refl) ∙ eq-eqb first.proc.0 first.proc.0 refl in
    ap (before_events (record first { what = x })) (front-event first (y ∷ ys) rest (λ none. cc) apart)
    ∙ ap (λ b. if b then event first.event first.proc (x ∷ y ∷ ys) ∷ events_of rest else one ∷ own ∷ events_of rest) itself
