-- A whole text is read as what it tells.
use Rattle.std.proofs.Common.{◌≡◌, ℕ, ◌+◌, ◌-◌, ◌^◌, ◌<◌, ◌≤◌, List, [], ◌∷◌, ◌++◌, length, map, get_or, Option, Some, None, Result, Ok, Err, ◌⊎◌, refl, sym, ap, ◌∙◌, subst, inl, inr, arith, append_assoc, append-nil, length-append}
use Rattle.std.specs.Prelude.{All}
use Rattle.std.specs.List.{flat_map, join_with_byte}
use Rattle.std.proofs.Math.Seq.{get_or-append_seam}
use Rattle.std.proofs.lemmas.Grind.{flat_map-append}
use Rattle.std.proofs.lemmas.Option.{slice_get-get_or}
use Rattle.std.proofs.lemmas.List.Elements.{All-nil, All-cons, All-head, All-tail}
use Rattle.sa_base.specs.declared.record.End.{End}
use Rattle.sa_base.specs.declared.record.Item.{Item}
use Rattle.sa_base.specs.declared.refusal.Bad.{Bad}
use Rattle.sa_base.specs.declared.refusal.Cause.{Cause}
use Rattle.sa_text.specs.LineText.{LineText, ended_line, whole_line, line_texts}
use Rattle.sa_text.proofs.LineLemmas.{line_texts-ended, line_texts-joined}
use Rattle.sa_lemmas.proofs.Texts.{regroup}
use Rattle.sa_trace.specs.TraceText.{line_of, counts_of, last_line_of, trace_text}
use Rattle.sa_trace.specs.declared.line.Said.{Said}
use Rattle.sa_trace.specs.declared.line.Said.TheVariants.{Next, Last}
use Rattle.sa_trace.specs.Pieces.{and_then, unless}
use Rattle.sa_trace.specs.Line.{last_of, so_far, least_event, said_by, pieces_in, line_in}
use Rattle.sa_trace.specs.Reading.{Told, told, bad_after, cause_after, after_line, read_from, read_of}
use Rattle.sa_trace.specs.Text.{FitsItem, MayFollow, InOrder, IsTextOf}
use Rattle.sa_trace.proofs.Readings.{and_then-ok}
use Rattle.sa_trace.proofs.Lines.{item_pieces, last_pieces, FitsProc, said_by-item, said_by-last, said_by-next, said_by-end}
use Rattle.sa_trace.proofs.LineTexts.{fine-item, fine-last, fine-lacks, pieces_in-line, pieces_in-ok, line_of-pieces, last_line_of-pieces}

-- the line of an item, and the last line after some items
abbrev pub item_line : Item → LineText
item_line item = ended_line (item_pieces item)

abbrev pub last_line : List Item → End → ℕ → LineText
last_line items end events = ended_line (last_pieces (counts_of items) end events)

-- the lines of a text
abbrev pub text_lines : List Item → List Item → End → ℕ → List LineText
text_lines more whole end events = map item_line more ++ last_line whole end events ∷ []

-- each line is read back
pub line_in-item : (items : List Item) (item : Item) → FitsItem item → MayFollow (last_of items) item → line_in (so_far items) (item_line item) ≡ Ok (Next item)
line_in-item items item fits follows =
    ap (λ r. and_then r (said_by (so_far items))) (pieces_in-line _ _ (fine-item item fits)) ∙ said_by-item (so_far items) item fits follows

pub line_in-last : (items : List Item) (end : End) (events : ℕ) → least_event (last_of items) ≤ events → events < 2 ^ 64
    → All (λ n. n < 2 ^ 64) (counts_of items)
    → line_in (so_far items) (last_line items end events) ≡ Ok (Last end events)
line_in-last items end events enough small few =
    ap (λ r. and_then r (said_by (so_far items))) (pieces_in-line _ _ (fine-last (counts_of items) end events few small))
    ∙ said_by-last items end events enough small few

-- and is the line of what it is read as
pub line_in-next : (items : List Item) (line : LineText) (item : Item) → FitsProc (last_of items) → line_in (so_far items) line ≡ Ok (Next item)
    → (line ≡ item_line item) × FitsItem item × MayFollow (last_of items) item
line_in-next items line item fits h =
    let ps = and_then-ok (pieces_in line) (said_by (so_far items)) (Next item) h in
    let is = pieces_in-ok line ps.0 ps.1 in
    let read = said_by-next items ps.0 item fits is.1 ps.2 in
    (is.0 ∙ ap ended_line read.0, read.1, read.2)

pub line_in-end : (items : List Item) (line : LineText) (end : End) (events : ℕ) → FitsProc (last_of items) → line_in (so_far items) line ≡ Ok (Last end events)
    → (line ≡ last_line items end events) × (least_event (last_of items) ≤ events) × (events < 2 ^ 64) × All (λ n. n < 2 ^ 64) (counts_of items)
line_in-end items line end events fits h =
    let ps = and_then-ok (pieces_in line) (said_by (so_far items)) (Last end events) h in
    let is = pieces_in-ok line ps.0 ps.1 in
    let read = said_by-end items ps.0 end events fits is.1 ps.2 in
    (is.0 ∙ ap ended_line read.0, read.1, read.2, read.3)

-- the last of some items and one more
pub last_of-append : (items : List Item) (item : Item) → last_of (items ++ item ∷ []) ≡ Some item
last_of-append items item =
    slice_get-get_or (items ++ item ∷ []) (length (items ++ item ∷ []) - 1) item (omega (arith, length-append items (item ∷ [])))
    ∙ ap (λ n. Some (get_or (items ++ item ∷ []) n item)) (omega (arith, length-append items (item ∷ [])))
    ∙ ap (λ i. Some i) (get_or-append_seam items item [] item)

-- what comes of a line, after some items and before some lines
abbrev pub step : ℕ → List Item → List LineText → Result Said Cause → Result Told Bad
step number items rest said =
    after_line number said (λ item. read_from (number + 1) (items ++ item ∷ []) rest)
    (λ end events. unless (bad_after cause_after (number + 1) rest) (told items end events))

-- what makes the items and the end after some items a text's
pub record AreAccepted (before more whole : List Item) (events : ℕ) : Type 0 where
  pub all : whole ≡ before ++ more
  pub fit : All FitsItem more
  pub in_order : InOrder (last_of before) more
  pub enough : least_event (last_of whole) ≤ events
  pub small : events < 2 ^ 64
  pub few : All (λ n. n < 2 ^ 64) (counts_of whole)

pub lines-read : (number : ℕ) (before more whole : List Item) (end : End) (events : ℕ) → AreAccepted before more whole events
    → read_from number before (text_lines more whole end events) ≡ Ok (told whole end events)
lines-read number before [] whole end events a =
    let same : before ≡ whole = sym (a.all ∙ append-nil before) in
    subst (λ w. read_from number before (last_line w end events ∷ []) ≡ Ok (told w end events)) same
    (ap (step number before []) (line_in-last before end events
    (subst (λ w. least_event (last_of w) ≤ events) (sym same) a.enough) a.small (subst (λ w. All (λ n. n < 2 ^ 64) (counts_of w)) (sym same) a.few)))
lines-read number before (item ∷ more) whole end events a =
    ap (step number before (text_lines more whole end events)) (line_in-item before item (All-head FitsItem item more a.fit) a.in_order.0)
    ∙ lines-read (number + 1) (before ++ item ∷ []) more whole end events (record {
      all = a.all ∙ sym (append_assoc before (item ∷ []) more);
      fit = All-tail FitsItem item more a.fit;
      in_order = subst (λ last. InOrder last more) (sym (last_of-append before item)) a.in_order.1;
      enough = a.enough;
      small = a.small;
      few = a.few;
    })

-- lines that are read are those of what they are read as
pub record AreLinesOf (before : List Item) (lines : List LineText) (t : Told) : Type 0 where
  pub more : List Item
  pub are : lines ≡ text_lines more t.items t.end t.events
  pub accepted : AreAccepted before more t.items t.events

after_line-ok : {A : Type 0} (number : ℕ) (r : Result Said Cause) (more : Item → Result A Bad) (last : End → ℕ → Result A Bad) (a : A)
    → after_line number r more last ≡ Ok a
    → ((item : Item) × (r ≡ Ok (Next item)) × (more item ≡ Ok a)) ⊎ ((end : End) × (events : ℕ) × (r ≡ Ok (Last end events)) × (last end events ≡ Ok a))
after_line-ok number (Err cause) more last a h = absurd cc
after_line-ok number (Ok (Next item)) more last a h = inl (item, refl, h)
after_line-ok number (Ok (Last end events)) more last a h = inr (end, events, refl, h)

unless_told : (o : Option Bad) (a t : Told) → unless o a ≡ Ok t → (o ≡ None) × (a ≡ t)
unless_told None a t h = (refl, cc)
unless_told (Some bad) a t h = absurd cc

pub none_after : (cause : ℕ → LineText → Cause) (number : ℕ) (lines : List LineText) → bad_after cause number lines ≡ None → lines ≡ []
none_after cause number [] h = refl
none_after cause number (line ∷ lines) h = absurd cc

pub lines-only : (number : ℕ) (before : List Item) (lines : List LineText) (t : Told) → FitsProc (last_of before) → read_from number before lines ≡ Ok t
    → AreLinesOf before lines t
lines-only number before [] t fits h = absurd cc
lines-only number before (line ∷ lines) t fits h =
    elim (after_line-ok number (line_in (so_far before) line) (λ item. read_from (number + 1) (before ++ item ∷ []) lines)
    (λ end events. unless (bad_after cause_after (number + 1) lines) (told before end events)) t h) [
      | inl next ↦
          let is = line_in-next before line next.0 fits next.1 in
          let rest = lines-only (number + 1) (before ++ next.0 ∷ []) lines t (subst FitsProc (sym (last_of-append before next.0)) is.1.proc) next.2 in
          record {
            more = next.0 ∷ rest.more;
            are = ap (λ l. l ∷ lines) is.0 ∙ ap (λ ls. item_line next.0 ∷ ls) rest.are;
            accepted = record {
              all = rest.accepted.all ∙ append_assoc before (next.0 ∷ []) rest.more;
              fit = All-cons FitsItem next.0 rest.more is.1 rest.accepted.fit;
              in_order = (is.2, subst (λ last. InOrder last rest.more) (last_of-append before next.0) rest.accepted.in_order);
              enough = rest.accepted.enough;
              small = rest.accepted.small;
              few = rest.accepted.few;
            };
          }
      | inr last ↦
          let is = line_in-end before line last.0 last.1 fits last.2 in
          let none = unless_told (bad_after cause_after (number + 1) lines) (told before last.0 last.1) t last.3 in
          subst (AreLinesOf before (line ∷ lines)) none.1 (record {
            more = [];
            are = ap (λ l. l ∷ lines) is.0 ∙ ap (λ ls. last_line before last.0 last.1 ∷ ls) (none_after cause_after (number + 1) lines none.0);
            accepted = record { all = sym (append-nil before); fit = All-nil FitsItem; in_order = tt; enough = is.1; small = is.2; few = is.3 };
          })
    ]

-- the bytes of the lines of a text are the text
lines-items : (items : List Item) → flat_map whole_line (map item_line items) ≡ flat_map line_of items
lines-items [] = refl
lines-items (item ∷ items) = ap (λ bs. bs ++ flat_map whole_line (map item_line items)) (sym (line_of-pieces item))
    ∙ ap (λ bs. line_of item ++ bs) (lines-items items)

pub lines-text : (items : List Item) (end : End) (events : ℕ) → flat_map whole_line (text_lines items items end events) ≡ trace_text items end events
unfolding trace_text
lines-text items end events =
    flat_map-append whole_line (map item_line items) (last_line items end events ∷ [])
    ∙ ap (λ bs. bs ++ flat_map whole_line (last_line items end events ∷ [])) (lines-items items)
    ∙ ap (λ bs. flat_map line_of items ++ bs) (append-nil (whole_line (last_line items end events)) ∙ sym (last_line_of-pieces items end events))

-- and the lines of the text are those lines

items-lines : (items : List Item) (rest : List ℕ) → All FitsItem items → line_texts (flat_map line_of items ++ rest) ≡ map item_line items ++ line_texts rest
items-lines [] rest fits = refl
items-lines (item ∷ items) rest fits =
    ap (λ bs. line_texts ((bs ++ flat_map line_of items) ++ rest)) (line_of-pieces item)
    ∙ ap line_texts (regroup (join_with_byte 32 (item_pieces item)) (flat_map line_of items) rest)
    ∙ line_texts-ended (join_with_byte 32 (item_pieces item)) (flat_map line_of items ++ rest)
    (fine-lacks (item_pieces item) (fine-item item (All-head FitsItem item items fits)))
    ∙ ap (λ ls. item_line item ∷ ls) (items-lines items rest (All-tail FitsItem item items fits))

pub text-lines : (items : List Item) (end : End) (events : ℕ) → All FitsItem items → events < 2 ^ 64 → All (λ n. n < 2 ^ 64) (counts_of items)
    → line_texts (trace_text items end events) ≡ text_lines items items end events
unfolding trace_text
text-lines items end events fits small few =
    items-lines items (last_line_of items end events) fits
    ∙ ap (λ bs. map item_line items ++ line_texts bs) (last_line_of-pieces items end events)
    ∙ ap (λ ls. map item_line items ++ ls)
    (line_texts-ended (join_with_byte 32 (last_pieces (counts_of items) end events)) []
    (fine-lacks (last_pieces (counts_of items) end events) (fine-last (counts_of items) end events few small)))

-- a text is read as what it tells, and nothing else is
pub read_of-text : (text : List ℕ) (t : Told) → IsTextOf text t → read_of text ≡ Ok t
unfolding read_of
read_of-text text t is =
    ap (λ bs. read_from 1 [] (line_texts bs)) is.printed
    ∙ ap (read_from 1 []) (text-lines t.items t.end t.events is.accepted.fit is.accepted.events is.accepted.few)
    ∙ lines-read 1 [] t.items t.items t.end t.events (record {
      all = refl;
      fit = is.accepted.fit;
      in_order = is.accepted.in_order;
      enough = is.accepted.enough;
      small = is.accepted.events;
      few = is.accepted.few;
    })

pub read_of-ok : (text : List ℕ) (t : Told) → read_of text ≡ Ok t → IsTextOf text t
unfolding read_of
read_of-ok text t h =
    let is = lines-only 1 [] (line_texts text) t tt h in
    let all : is.more ≡ t.items = sym is.accepted.all in
    record {
      printed = sym (line_texts-joined text) ∙ ap (flat_map whole_line) (is.are ∙ ap (λ more. text_lines more t.items t.end t.events) all)
          ∙ lines-text t.items t.end t.events;
      accepted = record {
        fit = subst (All FitsItem) all is.accepted.fit;
        in_order = subst (InOrder None) all is.accepted.in_order;
        enough = is.accepted.enough;
        events = is.accepted.small;
        few = is.accepted.few;
      };
    }

pub same_told : (t u : Told) (r : Result Told Bad) → r ≡ Ok t → r ≡ Ok u → t ≡ u
same_told t u r a b = cc
