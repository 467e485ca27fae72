-- What lines are read as after some items is those items in front of what they are read as after what is so far.
use Rattle.std.proofs.Common.{◌≡◌, ℕ, zero, suc, ◌+◌, ◌-◌, ◌<◌, ◌≤◌, List, [], ◌∷◌, ◌++◌, length, get_or, take, Option, Some, None, Result, Ok, Err, refl, sym, ap, ◌∙◌, arith, append_assoc, append-nil, length-append, length-set, take_all}
use Rattle.std.specs.Prelude.{All}
use Rattle.std.specs.List.{range_with_len}
use Rattle.std.proofs.Math.Seq.{get_or-append_seam}
use Rattle.std.proofs.lemmas.List.FromFn.{fill_by_all, get_or-map-range_with_len, length-map-range_with_len}
use Rattle.std.proofs.lemmas.List.Elements.{All-nil, All-cons, All-head, All-tail, All-map, All-weaker}
use Rattle.sa_base.specs.declared.record.End.{End}
use Rattle.sa_base.specs.declared.record.Item.{Item}
use Rattle.sa_base.specs.declared.refusal.Bad.{Bad}
use Rattle.sa_base.specs.declared.refusal.Cause.{Cause}
use Rattle.sa_base.specs.declared.refusal.Cause.TheVariants.{Missing}
use Rattle.sa_base.specs.Cause.{bad_at}
use Rattle.sa_text.specs.LineText.{LineText, line_texts}
use Rattle.sa_trace.specs.declared.kind.TheConstants.{RECORD_KINDS}
use Rattle.sa_trace.specs.declared.kind.Kind.{Kind}
use Rattle.sa_trace.specs.declared.kind.Kind.TheVariants.{Ins}
use Rattle.sa_trace.specs.declared.line.Said.{Said}
use Rattle.sa_trace.specs.declared.line.Said.TheVariants.{Next, Last}
use Rattle.sa_trace.specs.declared.so_far.SoFar.{SoFar}
use Rattle.sa_trace.specs.Kind.{form_of}
use Rattle.sa_trace.specs.Parts.{parts_of}
use Rattle.sa_trace.specs.TraceText.{kind_number, count_of_kind, counts_of}
use Rattle.sa_trace.specs.Pieces.{unless}
use Rattle.sa_trace.specs.Line.{so_far, line_in}
use Rattle.sa_trace.specs.Reading.{Told, told, bad_after, cause_after, after_line, read_from, read_of}
use Rattle.sa_trace.specs.Reader.{in_front, with_said, counted, and_item, read_on, LeftToRead, left}
use Rattle.sa_trace.proofs.Counting.{count-more}
use Rattle.sa_trace.proofs.Whole.{last_of-append}
use Rattle.sa_trace.proofs.FirstBad.{all-of}

-- each kind's number is one of those that are counted
numbered : (kind : Kind) → (1 ≤ (form_of kind).number) × ((form_of kind).number ≤ RECORD_KINDS)
numbered Ins = (omega arith, omega arith)
numbered _ = (omega arith, omega arith)

-- the count of a kind is at the place below its number
count-at : (items : List Item) (k : ℕ) → k < RECORD_KINDS → get_or (counts_of items) k 0 ≡ count_of_kind items (k + 1)
unfolding counts_of
count-at items k h = get_or-map-range_with_len (λ k. count_of_kind items (k + 1)) 0 RECORD_KINDS k k 0 h (omega arith)

pub length-counts_of : (items : List Item) → length (counts_of items) ≡ RECORD_KINDS
unfolding counts_of
length-counts_of items = length-map-range_with_len (λ k. count_of_kind items (k + 1)) 0 RECORD_KINDS

take-front : (items : List Item) (item : Item) → take (length items) (items ++ item ∷ []) ≡ items
take-front [] item = refl
take-front (i ∷ items) item = ap (λ is. i ∷ is) (take-front items item)

-- one item more is counted once
count-one : (items : List Item) (item : Item) (k : ℕ) → k < RECORD_KINDS
    → get_or (counted (kind_number item.what - 1) (counts_of items)) k 0 ≡ count_of_kind (items ++ item ∷ []) (k + 1)
count-one items item k h =
    let all = items ++ item ∷ [] in
    let n = numbered (parts_of item.what).kind in
    let long : length all ≡ length items + 1 = length-append items (item ∷ []) in
    let is : kind_number item.what - 1 + 1 ≡ kind_number (get_or all (length items) item).what =
    omega (arith, n.0) ∙ ap (λ (i : Item). kind_number i.what) (sym (get_or-append_seam items item [] item)) in
    let before : get_or (counts_of items) k 0 ≡ count_of_kind (take (length items) all) (k + 1) =
    count-at items k h ∙ ap (λ is. count_of_kind is (k + 1)) (sym (take-front items item)) in
    count-more all (length items) (kind_number item.what - 1) k (counts_of items) item (omega (arith, long)) is
    (omega (arith, n.0, n.1, length-counts_of items)) before
    ∙ ap (λ is. count_of_kind is (k + 1)) (take_all (length items + 1) all (omega (arith, long)))

counts_of-append : (items : List Item) (item : Item) → counts_of (items ++ item ∷ []) ≡ counted (kind_number item.what - 1) (counts_of items)
unfolding counts_of
counts_of-append items item =
    sym (fill_by_all (λ k. count_of_kind (items ++ item ∷ []) (k + 1)) (counted (kind_number item.what - 1) (counts_of items)) RECORD_KINDS 0
    (length-set (counts_of items) (kind_number item.what - 1) _ ∙ length-counts_of items) (count-one items item))

pub so_far-append : (items : List Item) (item : Item) → so_far (items ++ item ∷ []) ≡ and_item item (so_far items)
so_far-append items item =
    ap (λ last. (λ (so : SoFar). so) (record { last = last; counts = counts_of (items ++ item ∷ []) })) (last_of-append items item)
    ∙ ap (λ counts. (λ (so : SoFar). so) (record { last = Some item; counts = counts })) (counts_of-append items item)

-- items in front of others
pub in_front-none : (rest : Result Told Bad) → in_front [] rest ≡ rest
in_front-none (Ok t) = refl
in_front-none (Err bad) = refl

pub in_front-append : (items more : List Item) (rest : Result Told Bad) → in_front items (in_front more rest) ≡ in_front (items ++ more) rest
in_front-append items more (Ok t) = ap (λ is. Ok (told is t.end t.events)) (sym (append_assoc items more t.items))
in_front-append items more (Err bad) = refl

in_front-last : (items : List Item) (o : Option Bad) (end : End) (events : ℕ)
    → unless o (told items end events) ≡ in_front items (unless o (told [] end events))
in_front-last items None end events = ap (λ is. Ok (told is end events)) (sym (append-nil items))
in_front-last items (Some bad) end events = refl

-- the same whatever a line says, where it is the same of the lines after it
after_line-front : (number : ℕ) (items : List Item) (r : Result Said Cause) (more next : Item → Result Told Bad) (o : Option Bad)
    → ((item : Item) → more item ≡ in_front (items ++ item ∷ []) (next item))
    → after_line number r more (λ end events. unless o (told items end events))
    ≡ in_front items (after_line number r (λ item. in_front (item ∷ []) (next item)) (λ end events. unless o (told [] end events)))
after_line-front number items (Err cause) more next o same = refl
after_line-front number items (Ok (Next item)) more next o same = same item ∙ sym (in_front-append items (item ∷ []) (next item))
after_line-front number items (Ok (Last end events)) more next o same = in_front-last items o end events

pub read_from-front : (number : ℕ) (items : List Item) (lines : List LineText)
    → read_from number items lines ≡ in_front items (read_on number (so_far items) lines)
unfolding read_on
read_from-front number items [] = refl
read_from-front number items (line ∷ rest) =
    after_line-front number items (line_in (so_far items) line) (λ item. read_from (number + 1) (items ++ item ∷ []) rest)
    (λ item. read_on (number + 1) (and_item item (so_far items)) rest) (bad_after cause_after (number + 1) rest)
    (λ item. read_from-front (number + 1) (items ++ item ∷ []) rest
    ∙ ap (λ so. in_front (items ++ item ∷ []) (read_on (number + 1) so rest)) (so_far-append items item))

-- a reader at its end, at a bad line, at an item's line and at the last one
pub none-left : (at : LeftToRead) → at.lines ≡ [] → left at ≡ Err (bad_at at.number Missing)
unfolding read_on
none-left at none = ap (read_on at.number at.so) none

-- what comes of what the first of these lines says
abbrev pub says_on : LeftToRead → List LineText → Result Said Cause → Result Told Bad
says_on at rest said =
    after_line at.number said (λ item. in_front (item ∷ []) (read_on (at.number + 1) (and_item item at.so) rest))
    (λ end events. unless (bad_after cause_after (at.number + 1) rest) (told [] end events))

by-line : (at : LeftToRead) (line : LineText) (rest : List LineText) (said : Result Said Cause) → at.lines ≡ line ∷ rest
    → said ≡ line_in at.so line → left at ≡ says_on at rest said
unfolding read_on
by-line at line rest said next says = ap (read_on at.number at.so) next ∙ ap (says_on at rest) (sym says)

pub bad-line : (at : LeftToRead) (line : LineText) (rest : List LineText) (cause : Cause) → at.lines ≡ line ∷ rest
    → Err cause ≡ line_in at.so line → left at ≡ Err (bad_at at.number cause)
bad-line at line rest cause next says = by-line at line rest (Err cause) next says

pub item-line : (at after : LeftToRead) (so : SoFar) (line : LineText) (item : Item) → at.lines ≡ line ∷ after.lines → so ≡ at.so
    → Ok (Next item) ≡ line_in so line → after.number ≡ at.number + 1 → after.so ≡ and_item item so → left at ≡ with_said (Next item) (left after)
item-line at after so line item next same says number added =
    by-line at line after.lines (Ok (Next item)) next (says ∙ ap (λ s. line_in s line) same)
    ∙ ap (λ n. in_front (item ∷ []) (read_on n (and_item item at.so) after.lines)) (sym number)
    ∙ ap (λ s. in_front (item ∷ []) (read_on after.number s after.lines)) (sym (added ∙ ap (and_item item) same))

pub last-line : (at : LeftToRead) (line : LineText) (rest : List LineText) (end : End) (events number : ℕ) → at.lines ≡ line ∷ rest
    → Ok (Last end events) ≡ line_in at.so line → number ≡ at.number + 1 → bad_after cause_after number rest ≡ None → left at ≡ Ok (told [] end events)
last-line at line rest end events number next says is none =
    by-line at line rest (Ok (Last end events)) next says ∙ ap (λ o. unless o (told [] end events)) (ap (λ n. bad_after cause_after n rest) (sym is) ∙ none)

pub line-behind : (at : LeftToRead) (line : LineText) (rest : List LineText) (end : End) (events number : ℕ) (bad : Bad) → at.lines ≡ line ∷ rest
    → Ok (Last end events) ≡ line_in at.so line → number ≡ at.number + 1 → bad_after cause_after number rest ≡ Some bad → left at ≡ Err bad
line-behind at line rest end events number bad next says is some =
    by-line at line rest (Ok (Last end events)) next says ∙ ap (λ o. unless o (told [] end events)) (ap (λ n. bad_after cause_after n rest) (sym is) ∙ some)

-- the counts of the items so far stay below what is below them
pub below-more : (m n : ℕ) (counts : List ℕ) → m ≤ n → All (λ k. k < m) counts → All (λ k. k < n) counts
below-more m n counts h all = All-weaker (λ k. k < m) (λ k. k < n) (λ k below. omega arith) counts all

pub none-counted : (n : ℕ) → 0 < n → All (λ k. k < n) (counts_of [])
unfolding counts_of
none-counted n some =
    All-map (λ m. m < n) (λ k. count_of_kind [] (k + 1)) (range_with_len 0 RECORD_KINDS)
    (all-of (λ k. 0 < n) (range_with_len 0 RECORD_KINDS) (λ k. some))

-- a reader at the first line of a text has all of it still to tell
pub all-left : (text : List ℕ) (at : LeftToRead) → at.number ≡ 1 → at.so ≡ so_far [] → at.lines ≡ line_texts text → left at ≡ read_of text
unfolding read_of
all-left text at number so lines =
    ap (λ n. read_on n at.so at.lines) number ∙ ap (λ s. read_on 1 s at.lines) so ∙ ap (read_on 1 (so_far [])) lines
    ∙ sym (in_front-none (read_on 1 (so_far []) (line_texts text))) ∙ sym (read_from-front 1 [] (line_texts text))

-- one more is counted where all counts are below m: then they are below m + 1
pub counted-below : (place m : ℕ) (counts : List ℕ) → All (λ k. k < m) counts → All (λ k. k < m + 1) (counted place counts)
counted-below place m [] all = All-nil (λ k. k < m + 1)
counted-below zero m (n ∷ counts) all =
    let below : n < m = All-head (λ k. k < m) n counts all in
    All-cons (λ k. k < m + 1) (n + 1) counts (omega arith) (below-more m (m + 1) counts (omega arith) (All-tail (λ k. k < m) n counts all))
counted-below (suc place) m (n ∷ counts) all =
    let below : n < m = All-head (λ k. k < m) n counts all in
    All-cons (λ k. k < m + 1) n (counted place counts) (omega arith) (counted-below place m counts (All-tail (λ k. k < m) n counts all))
